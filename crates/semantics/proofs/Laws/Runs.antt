-- A run ends at one place: all walks before it have ended within the budget, and it has met all that they meet up to there. By induction
-- on the starts, with what came before put in front.
use Rattle.std.specs.Prelude.{◌≡◌, List, [], ◌∷◌, ◌++◌, map, ◌⊎◌, length, take}
use Rattle.std.proofs.Math.Path.{refl}
use Rattle.std.proofs.Common.{append_assoc}
use Rattle.std.proofs.Math.Logic.{inl, inr}
use Prim.Native.Nat.{ℕ, zero, suc, ◌+◌, ◌≤◌, ◌<◌}
use native.Mathlib.Omega.{arith}
use Rattle.semantics.specs.Walk.{Trace}
use Rattle.semantics.specs.Runs.{Moment, finished, beyond, Run, moment, meets, spend, run}
use Rattle.semantics.proofs.Laws.Cases.{le-or}
use Rattle.semantics.proofs.Laws.Places.{walked, upto}

-- a run after what was met before
unfoldable pub onto : List Moment → Run → Run
onto p x = record { met = p ++ x.met; stop = x.stop }

-- a walk within the budget, and one beyond it
spend-in : (n b : ℕ) (es : Trace) (x : Run) → length es ≤ b → spend n b es x ≡ onto (map (moment n) es) x
unfolding spend onto meets
spend-in n b [] x h = refl
spend-in n zero (e ∷ es) x h = absurd (omega arith)
spend-in n (suc b) (e ∷ es) x h = rw (spend-in n b es x (omega arith))

spend-out : (n b : ℕ) (es : Trace) (x : Run) → b < length es → spend n b es x ≡ record { met = map (moment n) (take b es); stop = beyond n }
unfolding spend meets
spend-out n b [] x h = absurd (omega arith)
spend-out n zero (e ∷ es) x h = refl
spend-out n (suc b) (e ∷ es) x h = rw (spend-out n b es x (omega arith))

module _ (budget : ℕ) (w : ℕ → Trace) where
  abbrev pub Within : ℕ → Type 0
  Within n = length (w n) ≤ budget

  -- where a run over the starts before c ends: the walk from m has taken j steps, and the earlier ones have ended
  pub record Point (c : ℕ) (x : Run) : Type 0 where
    pub m : ℕ
    pub j : ℕ
    pub within : (i : ℕ) → i < m → Within i
    pub inside : j ≤ length (w m)
    pub paid : j ≤ budget
    pub met : x.met ≡ upto w m j
    -- at the end of it all, or where the walk from m needs a step beyond the budget
    pub why : ((m ≡ c) × (j ≡ 0) × (x.stop ≡ finished)) ⊎ ((m < c) × (j ≡ budget) × (budget < length (w m)) × (x.stop ≡ beyond m))

  run-onto : (n c : ℕ) → ((i : ℕ) → i < n → Within i) → Point (n + c) (onto (walked w n) (run budget w n c))
  unfolding run onto walked upto
  run-onto n zero h =
      let e : n + 0 ≡ n = omega arith in
      rw e (record { m = n; j = 0; within = h; inside = omega arith; paid = omega arith; met = refl; why = inl (refl, refl, refl) })
  run-onto n (suc c) h = elim (le-or (length (w n)) budget) [
    | inl l ↦
        let e : onto (walked w n) (spend n budget (w n) (run budget w (suc n) c)) ≡ onto (walked w (suc n)) (run budget w (suc n) c) = rw (spend-in n budget (w n) (run budget w (suc n) c) l) (rw (append_assoc (walked w n) (map (moment n) (w n)) (run budget w (suc n) c).met)) in
        let f : n + suc c ≡ suc n + c = omega arith in
        rw (e, f) (run-onto (suc n) c (λ i v. elim (le-or n i) [ inl u ↦ (let g : i ≡ n = omega arith in rw g l) | inr u ↦ h i u ]))
    | inr o ↦ rw (spend-out n budget (w n) (run budget w (suc n) c) o) (record { m = n; j = budget; within = h; inside = omega arith; paid = omega arith; met = refl; why = inr (omega arith, refl, o, refl) })
  ]

  pub run-point : (c : ℕ) → Point c (run budget w 0 c)
  unfolding onto walked
  run-point c = let e : 0 + c ≡ c = omega arith in rw e at (run-onto 0 c (λ i l. absurd (omega arith)))
