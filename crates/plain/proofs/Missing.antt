-- The failures among the events of a move: an item's, where it does not hold; a run's, where the most rounds are not made; those of the items of `\R`; no
-- other node has any. Assumes nothing.
use Rattle.std.specs.Prelude.{if◌then◌else◌, Option, None, Some, is_some}
use mathlib.Core.Path.{◌≡◌, refl, sym, ◌∙◌}
use mathlib.Core.Logic.{inl, inr}
use mathlib.Core.List.{List, []}
use mathlib.Core.Bool.{Bool, true, false, not}
use Prim.Native.Nat.{ℕ, zero, suc, ◌+◌}
use native.Mathlib.Omega.{arith}
use lib.Dec.{eqb}
use lib.ListN.{get_or, drop}
use borrow.Author.Tests.{ne_eqb}
use Rattle.charset.specs.Class.{has}
use Rattle.semantics.specs.Assertions.{holds as standing}
use Rattle.semantics.specs.States.{State, moved}
use Rattle.semantics.specs.Items.{goes, when}
use Rattle.semantics.specs.Repeats.{is_full}
use Rattle.semantics.specs.Walk.{Trace}
use Rattle.semantics.specs.Explanations.{Failure, failed}
use Rattle.machine.specs.declared.Machine.{Machine}
use Rattle.machine.specs.Code.{Program, Test, in_set, holding, same_as, tests, folded_of, assertion_of, most_of, repeat_at, decode_as, decode}
use Rattle.machine.specs.Moves.{Stack, Move, paid, state, tested, takes, strides, stopped, tried, ran, is_return, is_feed, is_break, broke_alone, broke, bytes_of, carry_out, move}
use Rattle.machine.specs.Words.{stack_of, configuration_of}
use Rattle.machine.specs.Laws.Loop.{move-run}
use Rattle.breaks.specs.declared.Break.{Break}
use Rattle.breaks.specs.Breaks.{break_steps, break_bytes, BreaksAs}
use Rattle.breaks.proofs.Breaking.{return-breaks}
use Rattle.plain.specs.declared.Miss.{Miss}
use Rattle.plain.specs.Misses.{emitted, failed_if, missed_of, OnceOrTwice, Tells, RefersAs}
use Rattle.plain.proofs.Trying.{tested-byte}

abbrev told : (start at place : ℕ) → Failure
told start at place = record { start = start; at = at; place = place }

module _ (start : ℕ) where
  -- steps before them change nothing
  failed-paid : (n : ℕ) (m : Move) → failed start (emitted (paid n m)) ≡ failed start (emitted m)
  unfolding paid failed
  failed-paid zero m = refl
  failed-paid (suc n) m = failed-paid n m

  failed-strides : (k : ℕ) (t : Trace) → failed start (strides k t) ≡ failed start t
  unfolding strides failed
  failed-strides zero t = refl
  failed-strides (suc k) t = failed-strides k t

  failed-stopped : (full : Bool) (place at : ℕ) → failed start (stopped full place at) ≡ failed_if (not full) (told start at place)
  unfolding stopped failed failed_if
  failed-stopped true place at = refl
  failed-stopped false place at = refl

  failed-tried : (p : Program) (holds : Bool) (u : State) (place next at : ℕ) (regs : List ℕ) (st : Stack) → failed start (emitted (tried p (when holds (goes u)) place next at regs st)) ≡ failed_if (not holds) (told start at place)
  unfolding tried when failed failed_if
  failed-tried p true u place next at regs st = refl
  failed-tried p false u place next at regs st = refl

  -- nodes of the other kinds, whatever their numbers
  failed-other : (p sub : List ℕ) (n pc at : ℕ) (regs : List ℕ) (st : Stack) → (n ≡ 0 → ⊥) → (n ≡ 1 → ⊥) → (n ≡ 10 → ⊥) → (n ≡ 11 → ⊥) → (n ≡ 12 → ⊥) → failed start (emitted (carry_out p sub (decode_as n p pc) at regs st)) ≡ []
  unfolding carry_out failed
  failed-other p sub zero pc at regs st a b c d f = absurd (a refl)
  failed-other p sub (suc zero) pc at regs st a b c d f = absurd (b refl)
  failed-other p sub (suc (suc zero)) pc at regs st a b c d f = refl
  failed-other p sub (suc (suc (suc zero))) pc at regs st a b c d f = refl
  failed-other p sub (suc (suc (suc (suc zero)))) pc at regs st a b c d f = refl
  failed-other p sub (suc (suc (suc (suc (suc zero))))) pc at regs st a b c d f = refl
  failed-other p sub (suc (suc (suc (suc (suc (suc zero)))))) pc at regs st a b c d f = refl
  failed-other p sub (suc (suc (suc (suc (suc (suc (suc zero))))))) pc at regs st a b c d f = refl
  failed-other p sub (suc (suc (suc (suc (suc (suc (suc (suc zero)))))))) pc at regs st a b c d f = refl
  failed-other p sub (suc (suc (suc (suc (suc (suc (suc (suc (suc zero))))))))) pc at regs st a b c d f = refl
  failed-other p sub (suc (suc (suc (suc (suc (suc (suc (suc (suc (suc zero)))))))))) pc at regs st a b c d f = absurd (c refl)
  failed-other p sub (suc (suc (suc (suc (suc (suc (suc (suc (suc (suc (suc zero))))))))))) pc at regs st a b c d f = absurd (d refl)
  failed-other p sub (suc (suc (suc (suc (suc (suc (suc (suc (suc (suc (suc (suc zero)))))))))))) pc at regs st a b c d f = absurd (f refl)
  failed-other p sub (suc (suc (suc (suc (suc (suc (suc (suc (suc (suc (suc (suc (suc zero))))))))))))) pc at regs st a b c d f = refl
  failed-other p sub (suc (suc (suc (suc (suc (suc (suc (suc (suc (suc (suc (suc (suc (suc zero)))))))))))))) pc at regs st a b c d f = refl
  failed-other p sub (suc (suc (suc (suc (suc (suc (suc (suc (suc (suc (suc (suc (suc (suc (suc zero))))))))))))))) pc at regs st a b c d f = refl
  failed-other p sub (suc (suc (suc (suc (suc (suc (suc (suc (suc (suc (suc (suc (suc (suc (suc (suc zero)))))))))))))))) pc at regs st a b c d f = refl
  failed-other p sub (suc (suc (suc (suc (suc (suc (suc (suc (suc (suc (suc (suc (suc (suc (suc (suc (suc zero))))))))))))))))) pc at regs st a b c d f = refl
  failed-other p sub (suc (suc (suc (suc (suc (suc (suc (suc (suc (suc (suc (suc (suc (suc (suc (suc (suc (suc n)))))))))))))))))) pc at regs st a b c d f = refl

  -- `\R`
  failed-broke : (p : Program) (a b c : Bool) (place next at : ℕ) (regs : List ℕ) (st : Stack) → (a ≡ true → c ≡ true)
      → OnceOrTwice (failed start (emitted (broke p a b c place next at regs st))) (failed_if (not (eqb (break_bytes a b c) 2)) (told start (if eqb (break_steps a b c) 7 then suc at else at) place))
  unfolding broke broke_alone break_bytes break_steps failed failed_if
  failed-broke p true true c place next at regs st h = inl refl
  failed-broke p true false true place next at regs st h = inl refl
  failed-broke p true false false place next at regs st h = let e = h refl in let z : ◌≡◌ {A = ℕ} 0 1 = cc in absurd (omega arith)
  failed-broke p false b true place next at regs st h = inl refl
  failed-broke p false b false place next at regs st h = inr refl

-- seven steps of it take one byte, a return
pub one_byte : (sub : List ℕ) (at : ℕ) (b : Break) → BreaksAs sub at b → b.steps ≡ 7 → b.bytes ≡ 1
unfolding break_steps break_bytes
one_byte sub at b y e = y.bytes ∙ by (takes sub is_return at) (takes sub is_feed (suc at)) (takes sub is_break at) (sym y.steps ∙ e)
  where
    by : (x z w : Bool) → break_steps x z w ≡ 7 → break_bytes x z w ≡ 1
    by true true w e = absurd (omega arith)
    by true false true e = refl
    by true false false e = absurd (omega arith)
    by false z true e = absurd (omega arith)
    by false z false e = absurd (omega arith)

-- The machine stands at m, and the code tells r.
module _ (p sub regs : List ℕ) (m : Machine) (r : Option Miss) where
  -- the node of an item, of which it is known whether it holds
  module _ (holds : Bool) (says : (start : ℕ) → missed_of start r ≡ failed_if (not holds) (told start m.at (get_or p (m.pc + 2) 0))) where
    tells-item : (n : ℕ) (t : Test) → get_or p m.pc 0 ≡ n → decode_as n p m.pc ≡ tests t (get_or p (m.pc + 2) 0) (get_or p (m.pc + 1) 0) → (u : State) → tested sub t (state m.at regs) ≡ when holds (goes u) → Tells p sub regs m r
    unfolding move decode carry_out
    tells-item n t is d u e start work =
        inl (rw (is, d, failed-paid start, e, failed-tried start p holds u) (sym (says start)))

    pub tells-byte : get_or p m.pc 0 ≡ 0 → holds ≡ takes sub (has (drop (m.pc + 3) p)) m.at → Tells p sub regs m r
    tells-byte is e = tells-item 0 (in_set (has (drop (m.pc + 3) p))) is refl (moved (suc m.at) (state m.at regs)) (rw e (tested-byte sub (has (drop (m.pc + 3) p)) (state m.at regs)))

    pub tells-assertion : get_or p m.pc 0 ≡ 1 → holds ≡ standing sub (assertion_of (get_or p (m.pc + 3) 0)) m.at → Tells p sub regs m r
    unfolding tested
    tells-assertion is e = tells-item 1 (holding (assertion_of (get_or p (m.pc + 3) 0))) is refl (state m.at regs) (rw e)

    pub tells-reference : get_or p m.pc 0 ≡ 11 → (x : Option ℕ) → holds ≡ is_some x → RefersAs p sub regs m.pc m.at x → Tells p sub regs m r
    unfolding when
    tells-reference is None e w = tells-item 11 (same_as (folded_of (get_or p (m.pc + 4) 0)) (get_or p (m.pc + 3) 0)) is refl (state m.at regs) (rw e w)
    tells-reference is (Some behind) e w = tells-item 11 (same_as (folded_of (get_or p (m.pc + 4) 0)) (get_or p (m.pc + 3) 0)) is refl (moved behind (state m.at regs)) (rw e w)

  -- a run of k bytes
  pub tells-run : get_or p m.pc 0 ≡ 10 → (k : ℕ) → k ≡ bytes_of p sub (repeat_at p (m.pc + 2)) 0 m.at
      → ((start : ℕ) → missed_of start r ≡ failed_if (not (is_full (most_of (get_or p (m.pc + 3) 0)) k)) (told start (m.at + k) (get_or p (get_or p (m.pc + 6) 0 + 2) 0))) → Tells p sub regs m r
  unfolding ran repeat_at failed
  tells-run is k e says start work =
      let e₀ : m.pc + 2 + 1 ≡ m.pc + 3 = omega arith in
      let e₁ : m.pc + 2 + 4 ≡ m.pc + 6 = omega arith in
      inl (rw (move-run p sub (configuration_of regs work m) is, ← e, failed-strides start, failed-stopped start, e₀, e₁) (sym (says start)))

  -- `\R`
  module _ (is : get_or p m.pc 0 ≡ 12) (b : Break) (y : BreaksAs sub m.at b) where
    tells-broke : ((start : ℕ) → missed_of start r ≡ failed_if (not (eqb b.bytes 2)) (told start (if eqb b.steps 7 then suc m.at else m.at) (get_or p (m.pc + 2) 0))) → Tells p sub regs m r
    unfolding move decode carry_out
    tells-broke says start work =
        rw (is, says start, y.bytes, y.steps) (failed-broke start p (takes sub is_return m.at) (takes sub is_feed (suc m.at)) (takes sub is_break m.at) (get_or p (m.pc + 2) 0) (get_or p (m.pc + 1) 0) m.at regs (stack_of work m.height) (return-breaks sub m.at))

    -- a return without a feed
    pub tells-feed : b.steps ≡ 7 → r ≡ Some (record { at = m.at + 1; place = get_or p (m.pc + 2) 0 }) → Tells p sub regs m r
    unfolding missed_of failed_if
    tells-feed e same = tells-broke (λ start. rw (same, one_byte sub m.at b y e, e) (let z : m.at + 1 ≡ suc m.at = omega arith in rw z))

    pub tells-return : (b.steps ≡ 7 → ⊥) → ((start : ℕ) → missed_of start r ≡ failed_if (not (eqb b.bytes 2)) (told start m.at (get_or p (m.pc + 2) 0))) → Tells p sub regs m r
    tells-return n says = tells-broke (λ start. rw (ne_eqb b.steps 7 n) (says start))

  -- any other node
  pub tells_none : (get_or p m.pc 0 ≡ 0 → ⊥) → (get_or p m.pc 0 ≡ 1 → ⊥) → (get_or p m.pc 0 ≡ 10 → ⊥) → (get_or p m.pc 0 ≡ 11 → ⊥) → (get_or p m.pc 0 ≡ 12 → ⊥) → r ≡ None → Tells p sub regs m r
  unfolding move decode missed_of
  tells_none a b c d f e start work = inl (failed-other start p sub (get_or p m.pc 0) m.pc m.at regs (stack_of work m.height) a b c d f ∙ rw e)
