-- A plain walk goes on as a plain walk: a move takes its events off the trace, and what they tell is told.
use Rattle.std.proofs.Math.Path.{◌≡◌, refl}
use Rattle.std.proofs.Common.{sym, ◌∙◌, inl, inr}
use mathlib.Core.List.{List, [], ◌∷◌}
use Rattle.std.specs.Prelude.{Bool, ℕ, ◌+◌, ◌*◌, ◌-◌, ◌^◌, ◌≤◌, ◌<◌, length, get_or}
use Rattle.std.proofs.Math.Bool.{true, false}
use Rattle.std.proofs.Math.Option.{Option, none, some}
use native.Mathlib.Omega.{arith}
use Rattle.std.proofs.Math.Dec.{eqb}
use borrow.Author.Tests.{eqb-true, eqb-false}
use Rattle.syntax.specs.Tree.{Rule}
use Rattle.semantics.specs.States.{State, starting}
use Rattle.semantics.specs.Walk.{Event, step, miss, end, Trace, trace}
use Rattle.semantics.specs.Answers.{not_matched, answer}
use Rattle.semantics.specs.Explanations.{Failure, failures, greatest, nowhere, or_nowhere, reach, closest}
use Rattle.semantics.proofs.Laws.Failures.{greatest-in, greatest-some}
use Rattle.semantics.proofs.Laws.Misses.{failure-misses}
use Rattle.semantics.proofs.Laws.Loops.{Quiet}
use Rattle.semantics.proofs.Laws.Traces.{Ends, ends-reaches}
use Rattle.semantics.proofs.Laws.Matches.{reaches-derives, demand_2}
use Rattle.machine.specs.Code.{decode, Fits}
use Rattle.machine.specs.Moves.{explore, Bytes, Configuration, Now, idle, busy, state, go, Shows, carry_out, move}
use Rattle.machine.specs.Ready.{StackFits, replay}
use Rattle.machine.specs.Theorem.{Stands, Clear}
use Rattle.machine.specs.Laws.Code.{fits-at}
use Rattle.machine.specs.Laws.Run.{Account}
use Rattle.machine.specs.Laws.Stack.{Leaves, replay-saved, move-leaves}
use Rattle.machine.specs.Laws.Walk.{whole-watched}
use Rattle.plain.specs.Telling.{notes, leads, leads-plain, leads-forbid, hears, hears_all, hears_by, Explains, explains, Mind, minds, mind-end, mind-last}
use Rattle.failures.specs.Walks.{Plain, Fruitless}

clash : ◌≡◌ {A = ℕ} 0 1 → ⊥
clash e = omega arith

-- A line that isn't matched ---------------------------------------------------------

-- a trace that no state ends
no-ends : (es : Trace) → ((t : State) → ¬ Ends es t) → Quiet es
no-ends [] h = tt
no-ends (step ∷ es) h = no-ends es h
no-ends (miss place at ∷ es) h = no-ends es h
no-ends (end t ∷ es) h = h t (inl refl)

pub not_matched-fruitless : (sub : List ℕ) (x : Rule) (budget : ℕ) → (answer sub x budget).outcome ≡ not_matched → Fruitless sub x budget
not_matched-fruitless sub x budget e n l =
    let z = (demand_2 sub x budget).not_matched_exactly.0 e n l in
    (no-ends (trace sub x n) (λ t h. (let r = ends-reaches (trace sub x n) t h in z.0 t (reaches-derives sub x n r.0 t l r.1))), z.1)

-- an attempt that is told begins at a start
pub closest-starts : (sub : List ℕ) (x : Rule) → (closest (failures sub x)).start ≤ length sub
unfolding closest or_nowhere nowhere
closest-starts sub x = f (greatest reach none (failures sub x)) refl
  where
    f : (o : Option Failure) → greatest reach none (failures sub x) ≡ o → (or_nowhere o).start ≤ length sub
    f none e = omega arith
    f (some y) e = (failure-misses sub x y (greatest-in reach (greatest-some reach (failures sub x) y e))).0

end-inside : (p : List ℕ) → get_or p 0 0 ≡ 9 → 0 < length p
end-inside [] e = absurd (omega arith)
end-inside (n ∷ p) e = omega arith

-- what is told of the walk from a start
watched : (p sub : List ℕ) (A : Account) (x : Rule) (entry start : ℕ) (regs : List ℕ) (y final : A.X) → Stands p x entry → Bytes sub → Clear regs → start ≤ length sub → hears_all A y (trace sub x start) ≡ final
    → Explains A p sub final y [] (go entry start regs []) (trace sub x start)
unfolding starting trace explains Mind
watched p sub A x entry start regs y final st bytes clear inside e =
    whole-watched p sub (explains A p sub final) st.low st.high st.within bytes (Mind A p sub final) (minds A p sub final) (mind-end A p sub final) (mind-last A p sub final)
    x entry 0 (starting start) regs y st.compiled (end-inside p st.end, st.end) (record { inside = inside; size = clear.size; spans = sym clear.spans }) e

-- the walk from a start
pub plain-begins : (p sub : List ℕ) (A : Account) (x : Rule) (entry start budget room : ℕ) (regs : List ℕ) (y : A.X) → Stands p x entry → Bytes sub → Clear regs → Fruitless sub x budget → start ≤ length sub → 8 * budget ≤ room → 2 * budget < 2 ^ 32
    → Plain p sub A (hears_all A y (trace sub x start)) room budget regs y (go entry start regs []) (trace sub x start)
unfolding replay
plain-begins p sub A x entry start budget room regs y st bytes clear free inside wide small = record {
  explains = watched p sub A x entry start regs y (hears_all A y (trace sub x start)) st bytes clear inside refl;
  fits = tt;
  low = omega arith;
  high = omega arith;
  back = refl;
  quiet = (free start inside).0;
  short = (free start inside).1;
}

-- Moves -----------------------------------------------------------------------------

module _ (p sub : List ℕ) (A : Account) (final : A.X) where
  -- what is pending is taken off a trace with no end
  record Taken (x : A.X) (pend : Trace) (now : Now) (t : Trace) : Type 0 where
    rest : Trace
    explains : Explains A p sub final (hears_all A x pend) [] now rest
    quiet : Quiet rest
    long : length t ≡ length pend + length rest

  taken : (x : A.X) (pend : Trace) (now : Now) (t : Trace) → Explains A p sub final x pend now t → Quiet t → Taken x pend now t
  unfolding Explains hears_all
  taken x [] now t h q = record { rest = t; explains = h; quiet = q; long = omega arith }
  taken x (o ∷ os) now [] h q = absurd h
  taken x (o ∷ os) now (step ∷ t) h q =
      let z = taken (hears A x o) os now t h.1 q in
      record { rest = z.rest; explains = z.explains; quiet = z.quiet; long = omega (arith, z.long) }
  taken x (o ∷ os) now (miss place at ∷ t) h q =
      let z = taken (hears A x o) os now t h.1 q in
      record { rest = z.rest; explains = z.explains; quiet = z.quiet; long = omega (arith, z.long) }
  taken x (o ∷ os) now (end s ∷ t) h q = absurd q

  -- what is told with a move
  abbrev pub after : A.X → Configuration → A.X
  after x c = hears_all A (hears_by A (notes (decode p c.pc)) x (move p sub c).first c.regs) (move p sub c).more

  record Made (x : A.X) (c : Configuration) (t : Trace) : Type 0 where
    rest : Trace
    fits : Fits p c.pc
    shows : (s : State) → (move p sub c).first ≡ end s → ⊥
    explains : Explains A p sub final (after x c) [] (leads p sub (A.note x c.at) c) rest
    quiet : Quiet rest
    long : length rest < length t

  making : (x : A.X) (c : Configuration) (t : Trace) → Explains A p sub final x [] (busy c) t → Quiet t → Made x c t
  unfolding Explains
  making x c [] h q = absurd h
  making x c (step ∷ t) h q =
      let z = taken _ (move p sub c).more (leads p sub (A.note x c.at) c) t h.2 q in
      record { rest = z.rest; fits = h.0; shows = λ s e. no_end s (sym e ∙ h.1); explains = z.explains; quiet = z.quiet; long = omega (arith, z.long) }
    where
      no_end : (s : State) → ◌≡◌ {A = Event} (end s) step → ⊥
      no_end s e = clash (cc)
  making x c (miss place at ∷ t) h q =
      let z = taken _ (move p sub c).more (leads p sub (A.note x c.at) c) t h.2 q in
      record { rest = z.rest; fits = h.0; shows = λ s e. none s e h.1; explains = z.explains; quiet = z.quiet; long = omega (arith, z.long) }
    where
      no-miss : (s : State) → ◌≡◌ {A = Event} (end s) (miss place at) → ⊥
      no-miss s e = clash (cc)

      no_step : (s : State) → ◌≡◌ {A = Event} (end s) step → ⊥
      no_step s e = clash (cc)

      none : (s : State) → (move p sub c).first ≡ end s → Shows (move p sub c).first (miss place at) → ⊥
      none s e (inl f) = no-miss s (sym e ∙ f)
      none s e (inr f) = no_step s (sym e ∙ f)
  making x c (end s ∷ t) h q = absurd q

  -- where nothing is left, all is told
  pub plain-idle : {room left : ℕ} {first regs : List ℕ} {x : A.X} {t : Trace} → Plain p sub A final room left first x (idle regs) t → (regs ≡ first) × (x ≡ final)
  unfolding Explains
  plain-idle {t = []} h = (h.back, h.explains)
  plain-idle {t = e ∷ t} h = absurd h.explains

  -- a note changes nothing of what a move leaves
  leads-leaves : (n : ℕ) (c : Configuration) → Fits p c.pc → StackFits p c.stack → Leaves p (length c.stack + 2) (replay c.regs c.stack) (leads p sub n c)
  unfolding replay
  leads-leaves n c f g = by (eqb (get_or p c.pc 0) 16) refl
    where
      by : (b : Bool) → eqb (get_or p c.pc 0) 16 ≡ b → Leaves p (length c.stack + 2) (replay c.regs c.stack) (leads p sub n c)
      by true e = let k = eqb-true (get_or p c.pc 0) 16 e in let w = fits-at p c.pc 16 k f in rw (leads-forbid p sub n c k) (record { low = omega arith; fits = (w.1, (tt, g)); back = replay-saved p c.regs _ (length c.stack) n (explore (get_or p (c.pc + 3) 0) c.at ∷ c.stack) })
      by false e = rw (leads-plain p sub n c (eqb-false (get_or p c.pc 0) 16 e)) (move-leaves p sub c f g)

  module _ {room left : ℕ} {first : List ℕ} {x : A.X} {c : Configuration} {t : Trace} (h : Plain p sub A final room left first x (busy c) t) where
    made : Made x c t
    made = making x c t h.explains h.quiet

    pub plain_fits : Fits p c.pc
    plain_fits = made.fits

    pub plain-some : 1 ≤ left
    plain-some = omega (arith, h.short, made.long)

    pub plain-low : 4 * length c.stack + 8 ≤ room
    plain-low = omega (arith, h.low, plain-some)

    pub plain-high : length c.stack < 2 ^ 32
    plain-high = omega (arith, h.high)

    -- no move of it is an end
    pub plain-no_end : get_or p c.pc 0 ≡ 9 → ⊥
    unfolding move decode carry_out
    plain-no_end k = made.shows (state c.at c.regs) (rw k)

    -- what is left after a move
    pub plain-move : (rest : Trace) × Plain p sub A final room (left - 1) first (after x c) (leads p sub (A.note x c.at) c) rest
    plain-move =
        let z = made in
        let w = leads-leaves (A.note x c.at) c plain_fits h.fits in (
          z.rest,
          record {
            explains = z.explains;
            fits = w.fits;
            low = omega (arith, w.low, h.low, plain-some);
            high = omega (arith, w.low, h.high, plain-some);
            back = w.back ∙ h.back;
            quiet = z.quiet;
            short = omega (arith, h.short, z.long);
          },
        )
