-- What an explanation is told on the way through a walk, and the machine that keeps a note where a `(?!` is entered: whether one fails is seen only at its inner
-- end, but it is an item tried when it was entered.
use Rattle.std.specs.Prelude.{◌≡◌, length, get_or}
use Rattle.std.proofs.Math.Path.{refl, ap, subst}
use Rattle.std.proofs.Common.{sym, ◌∙◌, inl}
use mathlib.Core.List.{List, [], ◌∷◌}
use Prim.Native.Nat.{ℕ, zero, suc, ◌+◌}
use Rattle.semantics.specs.States.{State}
use Rattle.semantics.specs.Walk.{Event, step, miss, end, Trace}
use Rattle.machine.specs.Code.{Program, Instruction, tests, opens, closes, branches, last_branch, enters, loops, runs, ends, breaks, marks, keeps, returns, forbids, refutes, decode_as, decode, Fits}
use Rattle.machine.specs.Moves.{explore, Stack, Configuration, Now, idle, busy, Move, go, go_set, cut_to, Shows, fall, carry_out, move}
use Rattle.machine.specs.Laws.Run.{Account, Minds, Open, Observer}
use Rattle.marks.specs.Notes.{forbidden}

-- Moves with a note ---------------------------------------------------------------

-- what a node does with notes: nothing, write one, or settle by one
pub data Notes : Type 0 where
  nothing : Notes
  writes : (i body next : ℕ) → Notes
  settles : (i place : ℕ) → Notes

unfoldable pub notes : Instruction → Notes
notes (tests t place next) = nothing
notes (opens i body) = nothing
notes (closes i slot next) = nothing
notes (branches body other) = nothing
notes (last_branch body) = nothing
notes (enters q) = nothing
notes (loops q) = nothing
notes (runs q) = nothing
notes ends = nothing
notes (breaks place next) = nothing
notes (marks i body) = nothing
notes (keeps i next) = nothing
notes (returns i next) = nothing
notes (forbids i body next) = writes i body next
notes (refutes i place) = settles i place

-- where a move leads, with the note n in place of the position that a `(?!` keeps
unfoldable pub leads_by : Notes → (n : ℕ) → (at : ℕ) → List ℕ → Stack → Now → Now
leads_by nothing n at regs st after = after
leads_by (writes i body next) n at regs st after = go_set i (length st) n body at regs (explore next at ∷ st)
leads_by (settles i place) n at regs st after = after

module _ (p : Program) (sub : List ℕ) where
  unfoldable pub leads : (n : ℕ) → Configuration → Now
  leads n c = leads_by (notes (decode p c.pc)) n c.at c.regs c.stack (move p sub c).after

  leads-other : (k pc n at : ℕ) (regs : List ℕ) (st : Stack) (after : Now) → (k ≡ 16 → ⊥) → leads_by (notes (decode_as k p pc)) n at regs st after ≡ after
  unfolding leads_by notes
  leads-other zero pc n at regs st after e = refl
  leads-other (suc zero) pc n at regs st after e = refl
  leads-other (suc (suc zero)) pc n at regs st after e = refl
  leads-other (suc (suc (suc zero))) pc n at regs st after e = refl
  leads-other (suc (suc (suc (suc zero)))) pc n at regs st after e = refl
  leads-other (suc (suc (suc (suc (suc zero))))) pc n at regs st after e = refl
  leads-other (suc (suc (suc (suc (suc (suc zero)))))) pc n at regs st after e = refl
  leads-other (suc (suc (suc (suc (suc (suc (suc zero))))))) pc n at regs st after e = refl
  leads-other (suc (suc (suc (suc (suc (suc (suc (suc zero)))))))) pc n at regs st after e = refl
  leads-other (suc (suc (suc (suc (suc (suc (suc (suc (suc zero))))))))) pc n at regs st after e = refl
  leads-other (suc (suc (suc (suc (suc (suc (suc (suc (suc (suc zero)))))))))) pc n at regs st after e = refl
  leads-other (suc (suc (suc (suc (suc (suc (suc (suc (suc (suc (suc zero))))))))))) pc n at regs st after e = refl
  leads-other (suc (suc (suc (suc (suc (suc (suc (suc (suc (suc (suc (suc zero)))))))))))) pc n at regs st after e = refl
  leads-other (suc (suc (suc (suc (suc (suc (suc (suc (suc (suc (suc (suc (suc zero))))))))))))) pc n at regs st after e = refl
  leads-other (suc (suc (suc (suc (suc (suc (suc (suc (suc (suc (suc (suc (suc (suc zero)))))))))))))) pc n at regs st after e = refl
  leads-other (suc (suc (suc (suc (suc (suc (suc (suc (suc (suc (suc (suc (suc (suc (suc zero))))))))))))))) pc n at regs st after e = refl
  leads-other (suc (suc (suc (suc (suc (suc (suc (suc (suc (suc (suc (suc (suc (suc (suc (suc zero)))))))))))))))) pc n at regs st after e = absurd (e refl)
  leads-other (suc (suc (suc (suc (suc (suc (suc (suc (suc (suc (suc (suc (suc (suc (suc (suc (suc zero))))))))))))))))) pc n at regs st after e = refl
  leads-other (suc (suc (suc (suc (suc (suc (suc (suc (suc (suc (suc (suc (suc (suc (suc (suc (suc (suc k)))))))))))))))))) pc n at regs st after e = refl

  -- a note makes no difference but at the opening of a `(?!`
  pub leads-plain : (n : ℕ) (c : Configuration) → (get_or p c.pc 0 ≡ 16 → ⊥) → leads n c ≡ (move p sub c).after
  unfolding leads decode
  leads-plain n c e = leads-other (get_or p c.pc 0) c.pc n c.at c.regs c.stack (move p sub c).after e

  pub leads-forbid : (n : ℕ) (c : Configuration) → get_or p c.pc 0 ≡ 16 → leads n c ≡ forbidden p c.regs c.stack c.pc c.at n
  unfolding leads leads_by notes decode
  leads-forbid n c e = rw e

-- What is told --------------------------------------------------------------------

module _ (A : Account) where
  -- by an event
  unfoldable pub hears : A.X → Event → A.X
  hears x step = x
  hears x (miss place at) = A.told x place at
  hears x (end s) = x

  unfoldable pub hears_all : A.X → Trace → A.X
  hears_all x [] = x
  hears_all x (e ∷ t) = hears_all (hears x e) t

  -- by a move's first event
  unfoldable pub hears_by : Notes → A.X → Event → List ℕ → A.X
  hears_by nothing x e regs = hears x e
  hears_by (writes i body next) x e regs = x
  hears_by (settles i place) x e regs = A.settle (get_or regs (i + 1) 0) place x

  module _ (p : Program) (sub : List ℕ) (final : A.X) where
    -- From here on the machine with notes shows the trace t, with x told by now; and in the end `final` is told.
    unfoldable pub Explains : A.X → Trace → Now → Trace → Type 0
    Explains x [] (idle regs) [] = x ≡ final
    Explains x [] (idle regs) (e ∷ t) = ⊥
    Explains x [] (busy c) [] = ⊥
    Explains x [] (busy c) (e ∷ t) = Fits p c.pc × Shows (move p sub c).first e × Explains (hears_by (notes (decode p c.pc)) x (move p sub c).first c.regs) (move p sub c).more (leads p sub (A.note x c.at) c) t
    Explains x (o ∷ os) now [] = ⊥
    Explains x (o ∷ os) now (e ∷ t) = Shows o e × Explains (hears x o) os now t

    -- It is one way to watch the machine -------------------------------------------

    open-nothing : (i : Instruction) → Open i → notes i ≡ nothing
    unfolding notes
    open-nothing (tests t place next) o = refl
    open-nothing (opens i body) o = refl
    open-nothing (closes i slot next) o = refl
    open-nothing (branches body other) o = refl
    open-nothing (last_branch body) o = refl
    open-nothing (enters q) o = refl
    open-nothing (loops q) o = refl
    open-nothing (runs q) o = refl
    open-nothing ends o = refl
    open-nothing (breaks place next) o = refl
    open-nothing (marks i body) o = refl
    open-nothing (keeps i next) o = refl
    open-nothing (returns i next) o = refl
    open-nothing (forbids i body next) o = absurd o
    open-nothing (refutes i place) o = absurd o

    pub explains-open : (x : A.X) (pc at : ℕ) (regs : List ℕ) (st : Stack) (i : Instruction) (m : Move) → decode p pc ≡ i → Open i → carry_out p sub i at regs st ≡ m → Fits p pc → (t : Trace)
        → Explains x (m.first ∷ m.more) m.after t → Explains x [] (go pc at regs st) t
    unfolding Explains move leads leads_by hears_by
    explains-open x pc at regs st i m d o c f [] h = absurd h
    explains-open x pc at regs st i m d o c f (e ∷ t) h =
        let y : move p sub (record { pc = pc; at = at; regs = regs; stack = st }) ≡ m = ap (λ (j : Instruction). carry_out p sub j at regs st) d ∙ c in
        let k : notes (decode p pc) ≡ nothing = ap notes d ∙ open-nothing i o in
        (f, subst (λ (z : Move). Shows z.first e) (sym y) h.0, rw k (subst (λ (z : Move). Explains (hears x z.first) z.more z.after t) (sym y) h.1))

    pub explains-forbid : (x : A.X) (pc at : ℕ) (regs : List ℕ) (st : Stack) (i body next : ℕ) (e : Event) → decode p pc ≡ forbids i body next → Shows step e → Fits p pc → (t : Trace)
        → Explains x [] (go_set i (length st) (A.note x at) body at regs (explore next at ∷ st)) t → Explains x [] (go pc at regs st) (e ∷ t)
    unfolding Explains move leads leads_by hears_by notes carry_out
    explains-forbid x pc at regs st i body next e d w f t h = (f, rw d w, rw d h)

    pub explains-refute : (x : A.X) (pc at : ℕ) (regs : List ℕ) (st : Stack) (i place : ℕ) → decode p pc ≡ refutes i place → Fits p pc → (t : Trace)
        → Explains (A.settle (get_or regs (i + 1) 0) place x) [] (fall p regs (cut_to (get_or regs i 0) st)) t → Explains x [] (go pc at regs st) (step ∷ t)
    unfolding Explains move leads leads_by hears_by notes carry_out
    explains-refute x pc at regs st i place d f t h = (f, rw d, rw d h)

    unfoldable pub explains : Observer p sub A
    unfolding Explains hears
    explains = record {
      E = Explains;
      on_step = λ x os now t h. (refl, h);
      on_miss = λ x place at os now t h. (inl refl, h);
      on_end = λ x s os now t h. (refl, h);
      moving = λ x pc at regs st i m d o c f t h. explains-open x pc at regs st i m d o c f t h;
      forbidding = λ x pc at regs st i body next e d w f t h. explains-forbid x pc at regs st i body next e d w f t h;
      refuting = λ x y pc at n regs st i place d e f t h. explains-refute y pc at regs st i place d f t (rw e h);
    }

    -- what is told in the end, once the rest of the trace is
    unfoldable pub Mind : A.X → Trace → Type 0
    Mind x t = hears_all x t ≡ final

    pub minds : Minds A Mind
    unfolding Mind hears_all hears
    minds = record { on_step = λ x v h. h; on_miss = λ x place at v h. h }

    pub mind-end : (x : A.X) (s : State) (v : Trace) → Mind x (end s ∷ v) → Mind x v
    unfolding Mind hears_all hears
    mind-end x s v h = h

    pub mind-last : (x : A.X) (regs : List ℕ) → Mind x [] → Explains x [] (idle regs) []
    unfolding Mind hears_all Explains
    mind-last x regs h = h
