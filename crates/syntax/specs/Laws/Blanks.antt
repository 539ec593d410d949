-- What is skipped under `x` lies within the rule: facts about the positions behind blanks, which the laws of reading rest on.
use Rattle.std.specs.Prelude.{◌≡◌, List, [], ◌∷◌, Bool, not, ℕ, ◌+◌, ◌≤◌, length, drop, eqb, if◌then◌else◌}
use Rattle.std.proofs.Math.Path.{refl}
use Rattle.std.proofs.Math.Bool.{true, false}
use native.Mathlib.Omega.{arith}
use Rattle.std.proofs.Math.ListN.{length-drop}
use Rattle.charset.specs.declared.Named.TheVariants.{Space}
use Rattle.charset.specs.Named.{in_named}
use Rattle.syntax.specs.Read.{is}
use Rattle.syntax.specs.Flags.{extended}
use Rattle.syntax.specs.Grammar.{skipped, behind_blanks}

if-most : (b : Bool) (x y n : ℕ) → x ≤ n → y ≤ n → (if b then x else y) ≤ n
if-most true x y n h k = h
if-most false x y n h k = k

skipped-most : (comment : Bool) (bs : List ℕ) → skipped comment bs ≤ length bs
unfolding skipped
skipped-most comment [] = omega arith
skipped-most true (b ∷ bs) = omega (arith, skipped-most (not (eqb b 0x0A)) bs)
skipped-most false (b ∷ bs) =
    if-most (in_named Space b) _ _ _ (omega (arith, skipped-most false bs)) (if-most (is "#" b) _ _ _ (omega (arith, skipped-most true bs)) (omega arith))

module _ (s : List ℕ) (flags at : ℕ) where
  pub blanks-on : at ≤ behind_blanks s flags at
  unfolding behind_blanks
  blanks-on = go (extended flags)
    where
      go : (x : Bool) → at ≤ (if x then at + skipped false (drop at s) else at)
      go true = omega arith
      go false = omega arith

  pub blanks-in : at ≤ length s → behind_blanks s flags at ≤ length s
  unfolding behind_blanks
  blanks-in h = if-most (extended flags) _ _ _ (omega (arith, skipped-most false (drop at s), length-drop at s)) h

  pub blanks-past : length s ≤ at → behind_blanks s flags at ≡ at
  unfolding behind_blanks
  blanks-past h = go (extended flags)
    where
      go : (x : Bool) → (if x then at + skipped false (drop at s) else at) ≡ at
      go true = omega (arith, skipped-most false (drop at s), length-drop at s)
      go false = refl
