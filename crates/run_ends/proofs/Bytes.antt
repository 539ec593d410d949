-- Runs, in the form in which the code makes them: how many bytes one takes, and what it costs. Assumes nothing.
use mathlib.Core.Path.{◌≡◌, refl, ap, ◌∙◌}
use mathlib.Core.Logic.{◌⊎◌, inl, inr, ⊎_elim}
use mathlib.Core.List.{List}
use mathlib.Core.Bool.{Bool, true, false}
use Prim.Native.Nat.{ℕ, zero, suc, ◌+◌, ◌*◌, ◌-◌, ◌/◌, ◌≤◌, ◌<◌, ◌^◌, min}
use native.Mathlib.Omega.{arith}
use native.Mathlib.Numerals.{add-one}
use lib.ListN.{length, get_or, take, drop, length-drop}
use lib.Seq.{take_all}
use lib.Dec.{ltb, leb, eqb}
use borrow.Author.Tests.{ltb-true, ltb-false, leb-true, leb-false, eqb-true}
use Rattle.charset.specs.Class.{has}
use Rattle.syntax.specs.declared.Most.{Most}
use Rattle.syntax.specs.Limits.{unset}
use Rattle.semantics.specs.Repeats.{is_full}
use Rattle.semantics.specs.Walk.{Trace}
use Rattle.machine.specs.Code.{Program, pick_most, most_of, repeat_at}
use Rattle.machine.specs.Moves.{takes, one_more, extent, allowance, strides, stopped, bytes_of}
use Rattle.machine.specs.Words.{Measured}
use Rattle.machine.specs.Ready.{Missed}
use Rattle.machine.specs.Laws.Extent.{takes-inside, takes-past, extent-none, extent-on, extent-cut}

-- what is lent from a position on, up to the end, is all that stands from there on
pub rest-whole : (p : Program) (n : ℕ) → take (length p - n) (drop n p) ≡ drop n p
rest-whole p n = take_all (length p - n) (drop n p) (simp length-drop (omega arith))

-- How many bytes ----------------------------------------------------------------

module _ (sub : List ℕ) (f : ℕ → Bool) where
  -- the loop's turns
  pub turn_on : (i stop : ℕ) → i < stop → takes sub f i ≡ true → i + extent sub f (stop - i) i ≡ i + 1 + extent sub f (stop - (i + 1)) (i + 1)
  turn_on i stop h e =
      let z : stop - i ≡ suc (stop - (i + 1)) = omega arith in
      rw (z, extent-on sub f (stop - (i + 1)) i e, ← add-one i) (omega arith)

  pub turn-off : (i stop : ℕ) → takes sub f i ≡ false → i + extent sub f (stop - i) i ≡ i
  turn-off i stop e = rw (extent-none sub f (stop - i) i e) (omega arith)

  pub turn-past : (i stop : ℕ) → stop ≤ i → i + extent sub f (stop - i) i ≡ i
  unfolding extent
  turn-past i stop h = let z : stop - i ≡ 0 = omega arith in rw z (omega arith)

  -- one position more, downwards, where no byte of the set stands
  pub missed_more : (high n : ℕ) → Missed sub f high n → takes sub f (high - n) ≡ false → Missed sub f high (n + 1)
  missed_more high n m e j h = by (ltb j n) refl
    where
      by : (b : Bool) → ltb j n ≡ b → takes sub f (high - j) ≡ false
      by true x = m j (ltb-true j n x)
      by false x = let z : j ≡ n = omega (arith, ltb-false j n x) in rw z e

  -- bounds beyond the subject do not matter
  extent-same : (a b at : ℕ) → length sub - at ≤ a → length sub - at ≤ b → extent sub f a at ≡ extent sub f b at
  unfolding extent one_more
  extent-same zero zero at h l = refl
  extent-same zero (suc b) at h l = rw (takes-past sub f at (omega arith))
  extent-same (suc a) zero at h l = rw (takes-past sub f at (omega arith))
  extent-same (suc a) (suc b) at h l = ap (one_more (takes sub f at)) (extent-same a b (suc at) (omega arith) (omega arith))

  pub extent-low : (limit at : ℕ) → extent sub f limit at ≤ length sub - at
  unfolding extent one_more
  extent-low zero at = omega arith
  extent-low (suc limit) at = by (takes sub f at) refl (extent-low limit (suc at))
    where
      by : (b : Bool) → takes sub f at ≡ b → extent sub f limit (suc at) ≤ length sub - suc at → one_more b (extent sub f limit (suc at)) ≤ length sub - at
      by true e h = omega (arith, takes-inside sub f at e)
      by false e h = omega arith

  nearest : (m at : ℕ) → extent sub f (min (at + m) (length sub) - at) at ≡ extent sub f m at
  nearest m at = by (leb (at + m) (length sub)) refl
    where
      by : (b : Bool) → leb (at + m) (length sub) ≡ b → extent sub f (min (at + m) (length sub) - at) at ≡ extent sub f m at
      by true e = let l = leb-true (at + m) (length sub) e in let z : min (at + m) (length sub) - at ≡ m = omega arith in rw z
      by false e = let l = leb-false (at + m) (length sub) e in extent-same (min (at + m) (length sub) - at) m at (omega arith) (omega arith)

  allowed-is : (m at : ℕ) → length sub < 2 ^ 32 → extent sub f m at ≡ extent sub f (allowance (most_of m) 0 (length sub - at)) at
  unfolding most_of pick_most allowance unset
  allowed-is m at h = by (eqb m unset) refl
    where
      by : (b : Bool) → eqb m unset ≡ b → extent sub f m at ≡ extent sub f (allowance (pick_most b m) 0 (length sub - at)) at
      by true e = let z = eqb-true m unset e in extent-same m (length sub - at) at (omega arith) (omega arith)
      by false e = let z : m - 0 ≡ m = omega arith in rw z

  -- what is found within `few` bytes, of which there are less than m, or more than the steps that are left pay for
  measured : (m left few k at : ℕ) → length sub < 2 ^ 32 → few ≡ min m (left / 2 + 1) → k ≡ extent sub f few at
      → (k ≡ extent sub f (allowance (most_of m) 0 (length sub - at)) at) ⊎ ((k ≤ extent sub f (allowance (most_of m) 0 (length sub - at)) at) × (left < 2 * k + 1))
  measured m left few k at h e x = rw (← allowed-is m at h) (by (leb m (left / 2 + 1)) refl)
    where
      by : (b : Bool) → leb m (left / 2 + 1) ≡ b → (k ≡ extent sub f m at) ⊎ ((k ≤ extent sub f m at) × (left < 2 * k + 1))
      by true l = let z : few ≡ m = omega (arith, leb-true m (left / 2 + 1) l) in inl (rw z at x)
      by false l =
          let z : few ≡ left / 2 + 1 = omega (arith, leb-false m (left / 2 + 1) l) in
          ⊎_elim (λ w. inl (x ∙ w)) (λ w. inr (omega (arith, w.0, w.1), omega (arith, w.0))) (extent-cut sub f few m at (omega (arith, leb-false m (left / 2 + 1) l)))

pub run_ends : (p : Program) (sub : List ℕ) (pc at left few stop end : ℕ) → length sub < 2 ^ 32 → at < 2 ^ 32 → few ≡ min (get_or p (pc + 3) 0) (left / 2 + 1) → stop ≡ min (at + few) (length sub)
    → end ≡ at + extent sub (has (drop (get_or p (pc + 6) 0 + 3) p)) (stop - at) at → Measured p sub pc at left (end - at) × (at + (end - at) < 2 ^ 32)
unfolding bytes_of repeat_at
run_ends p sub pc at left few stop end h l e x y =
    let f = has (drop (get_or p (pc + 6) 0 + 3) p) in
    let e₀ : pc + 2 + 1 ≡ pc + 3 = omega arith in
    let e₁ : pc + 2 + 4 ≡ pc + 6 = omega arith in
    let low = extent-low sub f (stop - at) at in
    let z : end - at ≡ extent sub f (stop - at) at = omega arith in
    (rw (e₀, e₁) (measured sub f (get_or p (pc + 3) 0) left few (end - at) at h e (z ∙ rw x (nearest sub f few at))), omega arith)

-- Steps -----------------------------------------------------------------------------

pub length-strides : (k : ℕ) (t : Trace) → length (strides k t) ≡ 2 * k + length t
unfolding strides
length-strides zero t = omega arith
length-strides (suc k) t = omega (arith, length-strides k t)

module _ (most : Most) (k place at : ℕ) where
  pub steps_full : is_full most k ≡ true → 2 * k + 1 ≡ suc (length (strides k (stopped (is_full most k) place at)))
  unfolding stopped
  steps_full e = rw (e, length-strides k) (omega arith)

  pub steps-missed : is_full most k ≡ false → 2 * k + 1 + 1 ≡ suc (length (strides k (stopped (is_full most k) place at)))
  unfolding stopped
  steps-missed e = rw (e, length-strides k) (omega arith)
