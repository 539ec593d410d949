-- The bytes with a property that stand at a position: their number, and the part of the rule that they are. Assumes nothing.
use Rattle.std.specs.Prelude.{cond, if◌then◌else◌}
use Rattle.std.specs.List.{prefix_len}
use Rattle.std.proofs.lemmas.List.{take_all}
use Rattle.std.proofs.lemmas.List.Sums.{prefix_len-le-length}
use Rattle.std.proofs.lemmas.List.Folds.{length-prefix_len}
use mathlib.Core.Path.{◌≡◌, refl, ap, ◌∙◌}
use mathlib.Core.List.{List, [], ◌∷◌}
use mathlib.Core.Bool.{Bool, true, false}
use Prim.Native.Nat.{ℕ, ◌+◌, ◌-◌, ◌≤◌}
use native.Mathlib.Omega.{arith}
use lib.ListN.{length, get_or, take, drop, length-drop}
use Rattle.syntax.specs.Numbers.{run}

pub rest-whole : (s : List ℕ) (from : ℕ) → take (length s - from) (drop from s) ≡ drop from s
rest-whole s from = take_all (length s - from) (drop from s) (let l = length-drop from s in omega arith)

module _ (p : ℕ → Bool) where
  -- A run as a part ------------------------------------------------------------------

  run-part : (l : List ℕ) → take (length (run p l)) l ≡ run p l
  unfolding run
  run-part [] = refl
  run-part (b ∷ bs) = by (run p bs) (run-part bs) (p b)
    where
      by : (l : List ℕ) → take (length l) bs ≡ l → (t : Bool) → take (length (if t then b ∷ l else [])) (b ∷ bs) ≡ (if t then b ∷ l else [])
      by l e true = ap (λ (l : List ℕ). b ∷ l) e
      by l e false = refl

  pub run-taken : (s : List ℕ) (at n : ℕ) → n ≡ length (run p (drop at s)) → take n (drop at s) ≡ run p (drop at s)
  run-taken s at n k = rw k (run-part (drop at s))

  pub run-first : (l : List ℕ) → 1 ≤ length (run p l) → get_or (run p l) 0 0 ≡ get_or l 0 0
  unfolding run
  run-first [] h = refl
  run-first (b ∷ bs) h = by (run p bs) (p b) h
    where
      by : (l : List ℕ) (t : Bool) → 1 ≤ length (if t then b ∷ l else []) → get_or (if t then b ∷ l else []) 0 0 ≡ b
      by l true h = refl
      by l false h = absurd (omega arith)

  -- A run by its length -----------------------------------------------------------------

  run-length : (l : List ℕ) → prefix_len p l ≡ length (run p l)
  unfolding run
  run-length [] = refl
  run-length (b ∷ bs) = by (p b) (run-length bs)
    where
      by : (t : Bool) → prefix_len p bs ≡ length (run p bs) → cond t (1 + prefix_len p bs) 0 ≡ length (if t then b ∷ run p bs else [])
      by true e = omega arith
      by false e = refl

  run-at_most : (l : List ℕ) → length (run p l) ≤ length l
  run-at_most l = rw (← run-length l) (prefix_len-le-length p l)

  -- what is counted of the bytes from a position on, as long as they have the property
  pub run-counted : (s : List ℕ) (from n : ℕ) → from ≤ length s → n ≡ length (take (prefix_len p (drop from s)) (drop from s)) → (from + n ≡ from + length (run p (drop from s))) × (from + n ≤ length s)
  run-counted s from n h e =
      let m : n ≡ length (run p (drop from s)) = e ∙ length-prefix_len p (drop from s) ∙ run-length (drop from s) in
      let b = run-at_most (drop from s) in
      let l = length-drop from s in
      (omega arith, omega arith)
