-- Running to the next end: each move takes its run of events off the trace, and keeps the machine ready for the steps that are left.
use Rattle.std.specs.Prelude.{◌≡◌, ◌⊎◌, Bool, length, get_or, take, ltb}
use Rattle.std.proofs.Math.Path.{refl, ap, sym}
use Rattle.std.proofs.Common.{◌∙◌, subst, inl, inr, ⊎_elim, add-one, ltb-true, ltb-false}
use mathlib.Core.List.{List, [], ◌∷◌, ◌++◌}
use Rattle.std.proofs.Math.Bool.{true, false}
use Prim.Native.Nat.{ℕ, zero, suc, ◌+◌, ◌*◌, ◌-◌, ◌^◌, ◌≤◌, ◌<◌}
use native.Mathlib.Omega.{arith}
use Rattle.syntax.specs.Limits.{spans_length}
use Rattle.semantics.specs.States.{State}
use Rattle.semantics.specs.Items.{Tried, fails, goes}
use Rattle.semantics.specs.Repeats.{is_full}
use Rattle.semantics.specs.Walk.{Event, step, miss, end, Trace}
use Rattle.semantics.proofs.Laws.Loops.{Quiet}
use Rattle.machine.specs.declared.Machine.{Machine}
use Rattle.machine.specs.Code.{folded_of, Program, same_as, Repeat, repeat_at, decode_as, decode, FitsAs, Fits}
use Rattle.machine.specs.Moves.{Stack, Configuration, Now, idle, busy, Move, emitting, paid, state, shown, Shows, tested, price, takes, strides, stopped, is_return, is_feed, is_break, fall, tried, ran, broke_alone, broke, bytes_of, carry_out, move, Emits}
use Rattle.machine.specs.Words.{stack_of, configuration_of, now_of}
use Rattle.machine.specs.Ready.{ended, nothing, spent, until, Several, Leads, stay, onward, along, StackFits, Ready}
use Rattle.machine.specs.Laws.Stack.{length-stack_of, fall-leaves, move-leaves}

clash : ◌≡◌ {A = ℕ} 0 1 → ⊥
clash e = omega arith

pub before-or : (a b : ℕ) → (a < b) ⊎ (b ≤ a)
before-or a b = by (ltb a b) refl
  where
    by : (x : Bool) → ltb a b ≡ x → (a < b) ⊎ (b ≤ a)
    by true e = inl (ltb-true a b e)
    by false e = inr (ltb-false a b e)

-- Runs of events ----------------------------------------------------------------

-- the steps are enough for the run, or they are not
until-run : (es t : Trace) (left used : ℕ) → Quiet es → length es ≤ left → until left used (es ++ t) ≡ until (left - length es) (used + length es) t
unfolding until
until-run [] t left used m h = let y : left - 0 ≡ left = omega arith in let z : used + 0 ≡ used = omega arith in rw (y, z)
until-run (e ∷ es) t zero used m h = absurd (omega arith)
until-run (step ∷ es) t (suc left) used m h =
    let y : suc left - suc (length es) ≡ left - length es = omega arith in
    let z : used + suc (length es) ≡ suc used + length es = omega arith in
    rw (y, z) (until-run es t left (suc used) m (omega arith))
until-run (miss place at ∷ es) t (suc left) used m h =
    let y : suc left - suc (length es) ≡ left - length es = omega arith in
    let z : used + suc (length es) ≡ suc used + length es = omega arith in
    rw (y, z) (until-run es t left (suc used) m (omega arith))
until-run (end s ∷ es) t (suc left) used m h = absurd m

until-short : (es t : Trace) (left used : ℕ) → Quiet es → left < length es → until left used (es ++ t) ≡ spent
unfolding until
until-short [] t left used m h = absurd (omega arith)
until-short (e ∷ es) t zero used m h = refl
until-short (step ∷ es) t (suc left) used m h = until-short es t left (suc used) m (omega arith)
until-short (miss place at ∷ es) t (suc left) used m h = until-short es t left (suc used) m (omega arith)
until-short (end s ∷ es) t (suc left) used m h = absurd m

-- What `until` finds is where it stands in the trace: behind a run with no end, an end, nothing more, or a step beyond the budget.
pub until-ended : (t : Trace) (left used n : ℕ) (s : State) (rest : Trace) → until left used t ≡ ended n s rest → (p : Trace) × Quiet p × (t ≡ p ++ (end s ∷ rest)) × (n ≡ used + suc (length p)) × (n ≤ used + left)
unfolding until
until-ended [] left used n s rest e = absurd (clash (cc))
until-ended (x ∷ t) zero used n s rest e = absurd (clash (cc))
until-ended (step ∷ t) (suc left) used n s rest e =
    let z = until-ended t left (suc used) n s rest e in
    (step ∷ z.0, z.1, ap (λ (es : Trace). step ∷ es) z.2, omega (arith, z.3), omega (arith, z.4))
until-ended (miss place at ∷ t) (suc left) used n s rest e =
    let z = until-ended t left (suc used) n s rest e in
    (miss place at ∷ z.0, z.1, ap (λ (es : Trace). miss place at ∷ es) z.2, omega (arith, z.3), omega (arith, z.4))
until-ended (end u ∷ t) (suc left) used n s rest e =
    let x : u ≡ s = cc in
    let y : t ≡ rest = cc in
    let z : suc used ≡ n = cc in
    ([], tt, rw (x, y), omega arith, omega arith)

pub until-nothing : (t : Trace) (left used n : ℕ) → until left used t ≡ nothing n → Quiet t × (n ≡ used + length t) × (length t ≤ left)
unfolding until
until-nothing [] left used n e = let z : used ≡ n = cc in (tt, omega arith, omega arith)
until-nothing (x ∷ t) zero used n e = absurd (clash (cc))
until-nothing (step ∷ t) (suc left) used n e = let z = until-nothing t left (suc used) n e in (z.0, omega (arith, z.1), omega (arith, z.2))
until-nothing (miss place at ∷ t) (suc left) used n e = let z = until-nothing t left (suc used) n e in (z.0, omega (arith, z.1), omega (arith, z.2))
until-nothing (end u ∷ t) (suc left) used n e = absurd (clash (cc))

pub until-spent : (t : Trace) (left used : ℕ) → until left used t ≡ spent → (p : Trace) × (e : Event) × (rest : Trace) × Quiet p × (t ≡ p ++ (e ∷ rest)) × (length p ≡ left)
unfolding until
until-spent [] left used e = absurd (clash (cc))
until-spent (x ∷ t) zero used e = ([], x, t, tt, refl, refl)
until-spent (step ∷ t) (suc left) used e =
    let z = until-spent t left (suc used) e in
    (step ∷ z.0, z.1, z.2, z.3, ap (λ (es : Trace). step ∷ es) z.4, ap suc z.5)
until-spent (miss place at ∷ t) (suc left) used e =
    let z = until-spent t left (suc used) e in
    (miss place at ∷ z.0, z.1, z.2, z.3, ap (λ (es : Trace). miss place at ∷ es) z.4, ap suc z.5)
until-spent (end u ∷ t) (suc left) used e = absurd (clash (cc))

quiet-shown : (o e : Event) (os es : Trace) → Shows o e → Quiet (o ∷ os) → Quiet es → Quiet (e ∷ es)
quiet-shown o step os es q m n = n
quiet-shown o (miss place at) os es q m n = n
quiet-shown o (end s) os es q m n = rw q at m

quiet-tail : (o : Event) (os : Trace) → Quiet (o ∷ os) → Quiet os
quiet-tail step os m = m
quiet-tail (miss place at) os m = m
quiet-tail (end s) os m = absurd m

module _ (p : Program) (sub : List ℕ) where
  -- what is pending stands first in the trace
  record Split (pend : Trace) (now : Now) (t : Trace) : Type 0 where
    run : Trace
    rest : Trace
    whole : t ≡ run ++ rest
    long : length run ≡ length pend
    no_end : Quiet run
    emits : Emits p sub [] now rest

  split : (pend : Trace) (now : Now) (t : Trace) → Quiet pend → Emits p sub pend now t → Split pend now t
  unfolding Emits
  split [] now t m x = record { run = []; rest = t; whole = refl; long = refl; no_end = tt; emits = x }
  split (o ∷ os) now [] m x = absurd x
  split (o ∷ os) now (e ∷ t) m x =
      let s = split os now t (quiet-tail o os m) x.1 in
      record { run = e ∷ s.run; rest = s.rest; whole = ap (λ (z : Trace). e ∷ z) s.whole; long = ap suc s.long; no_end = quiet-shown o e os s.run x.0 m s.no_end; emits = s.emits }

  split-move : (c : Configuration) (t : Trace) → Quiet ((move p sub c).first ∷ (move p sub c).more) → Emits p sub [] (busy c) t → Split ((move p sub c).first ∷ (move p sub c).more) (move p sub c).after t
  unfolding Emits
  split-move c [] m x = absurd x
  split-move c (e ∷ t) m x = split ((move p sub c).first ∷ (move p sub c).more) (move p sub c).after (e ∷ t) m (x.1, x.2)

  -- what is yet to come is in range
  pub fits-now : (c : Configuration) (t : Trace) → Emits p sub [] (busy c) t → Fits p c.pc
  unfolding Emits
  fits-now c [] x = absurd x
  fits-now c (e ∷ t) x = x.0

  -- Kinds of moves ----------------------------------------------------------------

  -- a move that emits one event, which is no end
  record Single (m : Move) : Type 0 where
    no_end : Quiet (m.first ∷ m.more)
    single : length m.more ≡ 0

  quiet-tried : (x : Tried) (place next at : ℕ) (regs : List ℕ) (st : Stack) → Single (tried p x place next at regs st)
  unfolding tried
  quiet-tried (goes u) place next at regs st = record { no_end = tt; single = refl }
  quiet-tried fails place next at regs st = record { no_end = tt; single = refl }

  quiet : (n pc at : ℕ) (regs : List ℕ) (st : Stack) → n ≤ 8 → FitsAs n p pc → Single (carry_out p sub (decode_as n p pc) at regs st)
  unfolding carry_out price paid
  quiet zero pc at regs st h f = quiet-tried _ _ _ at regs st
  quiet (suc zero) pc at regs st h f = quiet-tried _ _ _ at regs st
  quiet (suc (suc zero)) pc at regs st h f = absurd f
  quiet (suc (suc (suc zero))) pc at regs st h f = record { no_end = tt; single = refl }
  quiet (suc (suc (suc (suc zero)))) pc at regs st h f = record { no_end = tt; single = refl }
  quiet (suc (suc (suc (suc (suc zero))))) pc at regs st h f = record { no_end = tt; single = refl }
  quiet (suc (suc (suc (suc (suc (suc zero)))))) pc at regs st h f = record { no_end = tt; single = refl }
  quiet (suc (suc (suc (suc (suc (suc (suc zero))))))) pc at regs st h f = record { no_end = tt; single = refl }
  quiet (suc (suc (suc (suc (suc (suc (suc (suc zero)))))))) pc at regs st h f = record { no_end = tt; single = refl }
  quiet (suc (suc (suc (suc (suc (suc (suc (suc (suc n))))))))) pc at regs st h f = absurd (omega arith)

  quiet-strides : (k : ℕ) (t : Trace) → Quiet t → Quiet (strides k t)
  unfolding strides
  quiet-strides zero t q = q
  quiet-strides (suc k) t q = quiet-strides k t q

  quiet-stopped : (b : Bool) (place at : ℕ) → Quiet (stopped b place at)
  unfolding stopped
  quiet-stopped true place at = tt
  quiet-stopped false place at = tt

  pub quiet-ran : (q : Repeat) (k at : ℕ) (regs : List ℕ) (st : Stack) → Quiet ((ran p q k at regs st).first ∷ (ran p q k at regs st).more)
  unfolding ran
  quiet-ran q k at regs st = quiet-strides k _ (quiet-stopped (is_full q.most k) _ _)

  -- a run's move
  pub move-run : (c : Configuration) → get_or p c.pc 0 ≡ 10 → move p sub c ≡ ran p (repeat_at p (c.pc + 2)) (bytes_of p sub (repeat_at p (c.pc + 2)) 0 c.at) c.at c.regs c.stack
  unfolding move decode carry_out
  move-run c e = rw e

  quiet-paid : (n : ℕ) (m : Move) → Quiet (m.first ∷ m.more) → Quiet ((paid n m).first ∷ (paid n m).more)
  unfolding paid
  quiet-paid zero m q = q
  quiet-paid (suc n) m q = quiet-paid n m q

  -- a reference's move
  pub move-reference : (c : Configuration) → get_or p c.pc 0 ≡ 11
      → move p sub c ≡ paid (price sub (same_as (folded_of (get_or p (c.pc + 4) 0)) (get_or p (c.pc + 3) 0)) (state c.at c.regs)) (tried p (tested sub (same_as (folded_of (get_or p (c.pc + 4) 0)) (get_or p (c.pc + 3) 0)) (state c.at c.regs)) (get_or p (c.pc + 2) 0) (get_or p (c.pc + 1) 0) c.at c.regs c.stack)
  unfolding move decode carry_out
  move-reference c e = rw e

  quiet-broke_alone : (b : Bool) (place next at : ℕ) (regs : List ℕ) (st : Stack) (before : Trace → Trace) → ((es : Trace) → Quiet es → Quiet (before es))
      → Quiet ((broke_alone p b place next at regs st before).first ∷ (broke_alone p b place next at regs st before).more)
  unfolding broke_alone
  quiet-broke_alone true place next at regs st before q = q _ tt
  quiet-broke_alone false place next at regs st before q = q _ tt

  quiet-broke : (b c d : Bool) (place next at : ℕ) (regs : List ℕ) (st : Stack) → Quiet ((broke p b c d place next at regs st).first ∷ (broke p b c d place next at regs st).more)
  unfolding broke
  quiet-broke true true d place next at regs st = tt
  quiet-broke true false d place next at regs st = quiet-broke_alone d place next at regs st _ (λ es q. q)
  quiet-broke false c d place next at regs st = quiet-broke_alone d place next at regs st _ (λ es q. q)

  quiet-high : (n pc at : ℕ) (regs : List ℕ) (st : Stack) → Several n → FitsAs n p pc → Quiet ((carry_out p sub (decode_as n p pc) at regs st).first ∷ (carry_out p sub (decode_as n p pc) at regs st).more)
  unfolding carry_out
  quiet-high zero pc at regs st h f = absurd (omega arith)
  quiet-high (suc zero) pc at regs st h f = absurd (omega arith)
  quiet-high (suc (suc zero)) pc at regs st h f = absurd (omega arith)
  quiet-high (suc (suc (suc zero))) pc at regs st h f = absurd (omega arith)
  quiet-high (suc (suc (suc (suc zero)))) pc at regs st h f = absurd (omega arith)
  quiet-high (suc (suc (suc (suc (suc zero))))) pc at regs st h f = absurd (omega arith)
  quiet-high (suc (suc (suc (suc (suc (suc zero)))))) pc at regs st h f = absurd (omega arith)
  quiet-high (suc (suc (suc (suc (suc (suc (suc zero))))))) pc at regs st h f = absurd (omega arith)
  quiet-high (suc (suc (suc (suc (suc (suc (suc (suc zero)))))))) pc at regs st h f = absurd (omega arith)
  quiet-high (suc (suc (suc (suc (suc (suc (suc (suc (suc zero))))))))) pc at regs st h f = absurd (omega arith)
  quiet-high (suc (suc (suc (suc (suc (suc (suc (suc (suc (suc zero)))))))))) pc at regs st h f = quiet-ran _ _ at regs st
  quiet-high (suc (suc (suc (suc (suc (suc (suc (suc (suc (suc (suc zero))))))))))) pc at regs st h f = quiet-paid _ _ (quiet-tried _ _ _ at regs st).no_end
  quiet-high (suc (suc (suc (suc (suc (suc (suc (suc (suc (suc (suc (suc zero)))))))))))) pc at regs st h f = quiet-broke (takes sub is_return at) (takes sub is_feed (suc at)) (takes sub is_break at) _ _ at regs st
  quiet-high (suc (suc (suc (suc (suc (suc (suc (suc (suc (suc (suc (suc (suc zero))))))))))))) pc at regs st h f = tt
  quiet-high (suc (suc (suc (suc (suc (suc (suc (suc (suc (suc (suc (suc (suc (suc zero)))))))))))))) pc at regs st h f = tt
  quiet-high (suc (suc (suc (suc (suc (suc (suc (suc (suc (suc (suc (suc (suc (suc (suc zero))))))))))))))) pc at regs st h f = tt
  quiet-high (suc (suc (suc (suc (suc (suc (suc (suc (suc (suc (suc (suc (suc (suc (suc (suc zero)))))))))))))))) pc at regs st h f = tt
  quiet-high (suc (suc (suc (suc (suc (suc (suc (suc (suc (suc (suc (suc (suc (suc (suc (suc (suc zero))))))))))))))))) pc at regs st h f = tt
  quiet-high (suc (suc (suc (suc (suc (suc (suc (suc (suc (suc (suc (suc (suc (suc (suc (suc (suc (suc n)))))))))))))))))) pc at regs st h f = absurd f

  quiet-several : (c : Configuration) → Several (get_or p c.pc 0) → Fits p c.pc → Quiet ((move p sub c).first ∷ (move p sub c).more)
  unfolding move decode
  quiet-several c h f = quiet-high (get_or p c.pc 0) c.pc c.at c.regs c.stack h f.node

  -- Nodes in a row ---------------------------------------------------------------------

  pub leads-several : (c : Configuration) (m : Move) → Several (get_or p c.pc 0) → move p sub c ≡ m → Leads p sub (busy c) (suc (length m.more)) m.after
  leads-several c m is e =
      let l : Leads p sub (busy c) (0 + suc (length (move p sub c).more)) (move p sub c).after = along stay is in
      let z : 0 + suc (length m.more) ≡ suc (length m.more) = omega arith in
      rw (e, z) at l

  pub leads-run : (c : Configuration) (m : Move) → get_or p c.pc 0 ≡ 10 → move p sub c ≡ m → Leads p sub (busy c) (suc (length m.more)) m.after
  leads-run c m is e = leads-several c m (omega arith) e

  pub leads-join : {a b c : Now} {n k : ℕ} → Leads p sub a n b → Leads p sub b k c → Leads p sub a (n + k) c
  leads-join {n = n} l stay = let z : n + 0 ≡ n = omega arith in rw z l
  leads-join {n = n} l (onward {n = j} {c = d} r e) = let z : n + suc j ≡ suc (n + j) = omega arith in rw z (onward (leads-join l r) e)
  leads-join {n = n} l (along {n = j} {c = d} r e) = let z : n + (j + suc (length (move p sub d).more)) ≡ n + j + suc (length (move p sub d).more) = omega arith in rw z (along (leads-join l r) e)

  -- The run ---------------------------------------------------------------------------

  module _ (room budget : ℕ) (first : List ℕ) (t₀ : Trace) where
    -- Of the budget, `used` steps are used; the trace from here on finds what t₀ did.
    pub record Running (used : ℕ) (now : Now) : Type 0 where
      pub rest : Trace
      pub ready : Ready p sub room (budget - used) first now rest
      pub same : until (budget - used) used rest ≡ until budget 0 t₀

    pub running-start : (now : Now) → Ready p sub room budget first now t₀ → Running 0 now
    running-start now x = let z : budget - 0 ≡ budget = omega arith in record { rest = t₀; ready = rw z x; same = rw z }

    pub running-idle : (used : ℕ) (regs : List ℕ) → Running used (idle regs) → until budget 0 t₀ ≡ nothing used
    unfolding Emits until
    running-idle used regs g = f g.rest g.ready.emits g.same
      where
        f : (v : Trace) → Emits p sub [] (idle regs) v → until (budget - used) used v ≡ until budget 0 t₀ → until budget 0 t₀ ≡ nothing used
        f [] x y = sym y
        f (e ∷ v) x y = absurd x

    module _ (used : ℕ) (c : Configuration) (g : Running used (busy c)) where
      pub running-out : used ≡ budget → until budget 0 t₀ ≡ spent
      unfolding Emits until
      running-out h = f g.rest g.ready.emits g.same
        where
          f : (v : Trace) → Emits p sub [] (busy c) v → until (budget - used) used v ≡ until budget 0 t₀ → until budget 0 t₀ ≡ spent
          f [] x y = absurd x
          f (e ∷ v) x y = let z : budget - used ≡ 0 = omega arith in sym (rw z at y)

      -- A move that emits a run of events, none of them an end: the budget has the whole run, or it ends within the run.
      module _ (m : Quiet ((move p sub c).first ∷ (move p sub c).more)) where
        pub running-run : used + suc (length (move p sub c).more) ≤ budget → Running (used + suc (length (move p sub c).more)) (move p sub c).after
        running-run h =
            let s = split-move c g.rest m g.ready.emits in
            let l : length s.run ≡ suc (length (move p sub c).more) = s.long in
            let e = until-run s.run s.rest (budget - used) used s.no_end (omega arith) in
            let z : budget - (used + suc (length (move p sub c).more)) ≡ budget - used - suc (length (move p sub c).more) = omega arith in
            let w = move-leaves p sub c (fits-now c g.rest g.ready.emits) g.ready.fits in
            record {
              rest = s.rest;
              ready = record { emits = s.emits; fits = w.fits; low = omega (arith, w.low, g.ready.low); short = omega (arith, w.low, g.ready.short); back = w.back ∙ g.ready.back };
              same = rw z (sym (rw l at e) ∙ (rw s.whole at g.same));
            }

        pub running-cut : used ≤ budget → budget < used + suc (length (move p sub c).more) → until budget 0 t₀ ≡ spent
        running-cut k h =
            let s = split-move c g.rest m g.ready.emits in
            let l : length s.run ≡ suc (length (move p sub c).more) = s.long in
            sym (rw s.whole at g.same) ∙ until-short s.run s.rest (budget - used) used s.no_end (omega arith)

      -- a node that is no end
      pub running-on : used < budget → get_or p c.pc 0 ≤ 8 → Running (used + 1) (move p sub c).after
      running-on h k =
          let q : Single (move p sub c) = unfold move decode in quiet (get_or p c.pc 0) c.pc c.at c.regs c.stack k (fits-now c g.rest g.ready.emits).node in
          rw q.single at (running-run q.no_end (omega (arith, q.single)))

      -- an end
      pub record Ended : Type 0 where
        pub met : State
        pub rest : Trace
        pub until_is : until budget 0 t₀ ≡ ended (used + 1) met rest
        pub at : met.at ≡ c.at
        pub spans : met.spans ≡ take spans_length c.regs
        pub ready : Ready p sub room (budget - (used + 1)) first (fall p c.regs c.stack) rest

      at-end : (s : State) → ◌≡◌ {A = Event} (end (state c.at c.regs)) (shown (end s)) → state c.at c.regs ≡ record { at = s.at; spans = s.spans; path = [] }
      at-end s e = cc

      pub running-end : used < budget → get_or p c.pc 0 ≡ 9 → Ended
      unfolding Emits move decode carry_out until
      running-end h k = f g.rest g.ready.emits g.same
        where
          m : move p sub c ≡ emitting (end (state c.at c.regs)) (fall p c.regs c.stack)
          m = rw k

          f : (v : Trace) → Emits p sub [] (busy c) v → until (budget - used) used v ≡ until budget 0 t₀ → Ended
          f [] x y = absurd x
          f (step ∷ v) x y = let z : ◌≡◌ {A = Event} (end (state c.at c.regs)) step = sym (ap (λ (j : Move). j.first) m) ∙ x.1 in absurd (clash (cc))
          f (miss place at ∷ v) x y = elim x.1 [
            | inl o ↦ let z : ◌≡◌ {A = Event} (end (state c.at c.regs)) (miss place at) = sym (ap (λ (j : Move). j.first) m) ∙ o in absurd (clash (cc))
            | inr o ↦ let z : ◌≡◌ {A = Event} (end (state c.at c.regs)) step = sym (ap (λ (j : Move). j.first) m) ∙ o in absurd (clash (cc))
          ]
          f (end s ∷ v) x y =
              let z : budget - used ≡ suc (budget - suc used) = omega arith in
              let e = at-end s (sym (ap (λ (j : Move). j.first) m) ∙ x.1) in
              let w = fall-leaves p c.regs c.stack g.ready.fits in
              record {
                met = s;
                rest = v;
                until_is = rw (add-one used) (sym (rw z at y));
                at = sym (ap (λ (j : State). j.at) e);
                spans = sym (ap (λ (j : State). j.spans) e);
                ready = record { emits = subst (λ (j : Move). Emits p sub j.more j.after v) m x.2; fits = w.fits; low = omega (arith, w.low, g.ready.low); short = omega (arith, w.low, g.ready.short); back = w.back ∙ g.ready.back };
              }

    -- nodes in a row
    running-led-from : (used : ℕ) (now : Now) (n : ℕ) (there : Now) → Leads p sub now n there → used + n ≤ budget → Running used now → Running (used + n) there
    running-led-from used now n there stay h g = let z : used + 0 ≡ used = omega arith in rw z g
    running-led-from used now n there (onward {n = k} {c = c} l e) h g =
        let z : used + suc k ≡ used + k + 1 = omega arith in
        rw z (running-on (used + k) c (running-led-from used now k (busy c) l (omega arith) g) (omega arith) e)
    running-led-from used now n there (along {n = k} {c = c} l e) h g =
        let z : used + (k + suc (length (move p sub c).more)) ≡ used + k + suc (length (move p sub c).more) = omega arith in
        let r = running-led-from used now k (busy c) l (omega arith) g in
        rw z (running-run (used + k) c r (quiet-several c e (fits-now c r.rest r.ready.emits)) (omega arith))

    pub running-led : (used n : ℕ) (now there : Now) → Leads p sub now n there → used + n ≤ budget → Running used now → Running (used + n) there
    running-led used n now there = running-led-from used now n there

    -- the budget ends among them
    running-led-cut-from : (used : ℕ) (now : Now) (n : ℕ) (there : Now) → Leads p sub now n there → used ≤ budget → budget < used + n → Running used now → until budget 0 t₀ ≡ spent
    running-led-cut-from used now n there stay b h g = absurd (omega arith)
    running-led-cut-from used now n there (onward {n = k} {c = c} l e) b h g =
        ⊎_elim (λ x. running-led-cut-from used now k (busy c) l b x g) (λ x. running-out (used + k) c (running-led used k now (busy c) l x g) (omega arith)) (before-or budget (used + k))
    running-led-cut-from used now n there (along {n = k} {c = c} l e) b h g =
        ⊎_elim (λ x. running-led-cut-from used now k (busy c) l b x g) (λ x. let r = running-led used k now (busy c) l x g in running-cut (used + k) c r (quiet-several c e (fits-now c r.rest r.ready.emits)) x (omega arith)) (before-or budget (used + k))

    pub running-led-cut : (used n : ℕ) (now there : Now) → Leads p sub now n there → used ≤ budget → budget < used + n → Running used now → until budget 0 t₀ ≡ spent
    running-led-cut used n now there = running-led-cut-from used now n there

    pub ready-led : {n : ℕ} {now there : Now} → Ready p sub room budget first now t₀ → Leads p sub now n there → n ≤ budget → Running n there
    ready-led {n} {now} {there} x l h = let z : 0 + n ≡ n = omega arith in rw z at (running-led 0 n now there l (omega arith) (running-start now x))

-- As the code holds it ------------------------------------------------------------------

-- a machine that is ready, for some registers to come back to and some trace
abbrev pub ReadyForSome : (p sub regs work : List ℕ) → Machine → (left : ℕ) → Type 0
ReadyForSome p sub regs work m left = (first : List ℕ) × (t : Trace) × Ready p sub (length work) left first (now_of regs work m) t

-- what a machine at work reads and writes is in range
module _ {p sub : List ℕ} {room budget : ℕ} {first : List ℕ} {t : Trace} {used : ℕ} (regs work : List ℕ) (m : Machine) (live : m.live ≡ true) (g : Running p sub room budget first t used (now_of regs work m)) where
  abbrev here : Configuration
  here = configuration_of regs work m

  at_work : Running p sub room budget first t used (busy here)
  at_work = rw live at g

  pub running-fits : Fits p m.pc
  running-fits = fits-now p sub here at_work.rest at_work.ready.emits

  pub running-stack : StackFits p (stack_of work m.height)
  running-stack = at_work.ready.fits

  pub running-low : 4 * m.height + 8 * (budget - used) ≤ room
  running-low = omega (arith, at_work.ready.low, length-stack_of work m.height)

  -- the height fits into a register
  pub running-short : m.height < 2 ^ 32
  running-short = omega (arith, at_work.ready.short, length-stack_of work m.height)
