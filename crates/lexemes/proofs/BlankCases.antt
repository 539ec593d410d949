-- Laws of what is skipped under `x`, by its first byte.
use Rattle.std.specs.Prelude.{if◌then◌else◌}
use mathlib.Core.Path.{◌≡◌, refl, ◌∙◌}
use mathlib.Core.List.{List, ◌∷◌}
use mathlib.Core.Logic.{◌⊎◌, inl, inr}
use mathlib.Core.Bool.{Bool, true, false, not, ◌&&◌}
use Prim.Native.Nat.{ℕ, suc, ◌+◌, ◌/◌, ◌%◌, ◌≤◌, ◌<◌}
use native.Mathlib.Omega.{arith}
use native.Mathlib.Decide.{dec_lt}
use native.Mathlib.Numerals.{add-one}
use lib.Dec.{eqb}
use lib.ListN.{length, drop, get_or, drop_of_length-le}
use lib.Seq.{drop-cons}
use borrow.Author.Tests.{eq-eqb, ne_eqb}
use Rattle.charset.specs.declared.Named.TheVariants.{Space}
use Rattle.charset.specs.Named.{ranges, in_range, in_ranges, in_named}
use Rattle.syntax.specs.Limits.{extended_bit}
use Rattle.syntax.specs.Flags.{extended}
use Rattle.syntax.specs.Grammar.{skipped, behind_blanks}
use Rattle.lexemes.proofs.Digits.{inside, outside}

-- One byte --------------------------------------------------------------------------

module _ (b : ℕ) where
  pub blank-first : 9 ≤ b → b ≤ 13 → in_named Space b ≡ true
  unfolding in_named in_ranges in_range ranges
  blank-first h k = simp (inside 9 13 b h k)

  pub blank-last : b ≡ 32 → in_named Space b ≡ true
  unfolding in_named in_ranges in_range ranges
  blank-last h = rw h

  pub no-blank : (b < 9) ⊎ (13 < b) → (b ≡ 32 → ⊥) → in_named Space b ≡ false
  unfolding in_named in_ranges in_range ranges
  no-blank h k = simp (outside 9 13 b h, outside 32 32 b (go (dec_lt b 32)))
    where
      go : Dec (b < 32) → (b < 32) ⊎ (32 < b)
      go (yes l) = inl l
      go (no l) = inr (omega arith)

blank-no-sign : (b : ℕ) → in_named Space b ≡ true → eqb b 35 ≡ false
unfolding in_named in_ranges in_range ranges
blank-no-sign b h = ne_eqb b 35 (λ e. let k = rw e at h in let z : ◌≡◌ {A = ℕ} 0 1 = cc in omega arith)

-- whether a byte ends what is skipped, and whether what follows it stands within a comment
abbrev pub ends_blanks : Bool → ℕ → Bool
ends_blanks comment b = not comment && not (in_named Space b) && not (eqb b 35)

abbrev pub comment_after : Bool → ℕ → Bool
comment_after comment b = if comment then not (eqb b 10) else eqb b 35

skipped-first : (comment : Bool) (b : ℕ) (bs : List ℕ) → skipped comment (b ∷ bs) ≡ (if ends_blanks comment b then 0 else suc (skipped (comment_after comment b) bs))
unfolding skipped
skipped-first true b bs = refl
skipped-first false b bs = go (in_named Space b) (eqb b 35) (blank-no-sign b)
  where
    go : (blank sign : Bool) → (blank ≡ true → sign ≡ false)
        → (if blank then suc (skipped false bs) else if sign then suc (skipped true bs) else 0) ≡ (if not blank && not sign then 0 else suc (skipped sign bs))
    go true sign h = rw (h refl)
    go false true h = refl
    go false false h = refl

-- A loop over the bytes -------------------------------------------------------------

module _ (s : List ℕ) (comment : Bool) (i : ℕ) where
  pub blanks-stop : i < length s → ends_blanks comment (get_or s i 0) ≡ true → i + skipped comment (drop i s) ≡ i
  blanks-stop h e = let f : skipped comment (drop i s) ≡ 0 = rw (drop-cons s i 0 h) (skipped-first comment (get_or s i 0) (drop (suc i) s) ∙ rw e) in omega arith

  pub blanks-on : i < length s → ends_blanks comment (get_or s i 0) ≡ false → i + skipped comment (drop i s) ≡ i + 1 + skipped (comment_after comment (get_or s i 0)) (drop (i + 1) s)
  blanks-on h e =
      let f : skipped comment (drop i s) ≡ suc (skipped (comment_after comment (get_or s i 0)) (drop (i + 1) s)) = rw (add-one i, drop-cons s i 0 h) (skipped-first comment (get_or s i 0) (drop (suc i) s) ∙ rw e) in
      omega arith

  pub blanks-end : length s ≤ i → i + skipped comment (drop i s) ≡ i
  unfolding skipped
  blanks-end h = rw (drop_of_length-le s h) (omega arith)

-- The flag --------------------------------------------------------------------------

module _ (s : List ℕ) (flags at : ℕ) where
  pub blanks-extended : flags / 8 % 2 ≡ 1 → behind_blanks s flags at ≡ at + skipped false (drop at s)
  unfolding behind_blanks extended extended_bit
  blanks-extended h = rw (eq-eqb (flags / 8 % 2) 1 h)

  pub blanks-plain : (flags / 8 % 2 ≡ 1 → ⊥) → behind_blanks s flags at ≡ at
  unfolding behind_blanks extended extended_bit
  blanks-plain h = rw (ne_eqb (flags / 8 % 2) 1 h)
