-- The two cases of a letter, and sets that are folded. A byte stands before the letters, among those of one case, between them or behind them,
-- and each law on the other case of a byte goes by these five.
use Rattle.std.specs.Prelude.{◌≡◌, refl, Bool, true, false, ◌||◌, ℕ, ◌+◌, ◌-◌, ◌≤◌, ◌<◌, eqb, leb}
use Rattle.std.proofs.Common.{sym, ap, ◌∙◌, arith}
use Rattle.std.proofs.Math.Bool.{or-false, and-false}
use borrow.Author.Tests.{eqb-true, eq-eqb, leb-true, leb-false, le-leb, lt-leb}
use Rattle.charset.specs.Named.{ranges, in_range, in_ranges, in_named}
use Rattle.charset.specs.Cases.{other_case, folding}

-- The other case of a byte ------------------------------------------------------

pub data Place (b : ℕ) : Type 0 where
  before : b < 65 → Place b
  upper : 65 ≤ b → b ≤ 90 → Place b
  between : 90 < b → b < 97 → Place b
  lower : 97 ≤ b → b ≤ 122 → Place b
  behind : 122 < b → Place b

pub placed : (b : ℕ) → Place b
placed b = go (leb 65 b) (leb b 90) (leb 97 b) (leb b 122) refl refl refl refl
  where
    go : (s t u v : Bool) → leb 65 b ≡ s → leb b 90 ≡ t → leb 97 b ≡ u → leb b 122 ≡ v → Place b
    go false t u v d e f g = before (leb-false 65 b d)
    go true true u v d e f g = upper (leb-true 65 b d) (leb-true b 90 e)
    go true false false v d e f g = between (leb-false b 90 e) (leb-false 97 b f)
    go true false true true d e f g = lower (leb-true 97 b f) (leb-true b 122 g)
    go true false true false d e f g = behind (leb-false b 122 g)

module _ (b : ℕ) where
  pub other-before : b < 65 → other_case b ≡ b
  unfolding other_case ranges in_range in_ranges in_named
  other-before h = rw (lt-leb 65 b h, lt-leb 97 b (omega arith))

  pub other-upper : 65 ≤ b → b ≤ 90 → other_case b ≡ b + 32
  unfolding other_case ranges in_range in_ranges in_named
  other-upper h l = rw (le-leb 65 b h, le-leb b 90 l)

  pub other-between : 90 < b → b < 97 → other_case b ≡ b
  unfolding other_case ranges in_range in_ranges in_named
  other-between h l = rw (lt-leb b 90 h, and-false (leb 65 b), lt-leb 97 b l)

  pub other-lower : 97 ≤ b → b ≤ 122 → other_case b ≡ b - 32
  unfolding other_case ranges in_range in_ranges in_named
  other-lower h l = rw (lt-leb b 90 (omega arith), and-false (leb 65 b), le-leb 97 b h, le-leb b 122 l)

  pub other-behind : 122 < b → other_case b ≡ b
  unfolding other_case ranges in_range in_ranges in_named
  other-behind h = rw (lt-leb b 90 (omega arith), and-false (leb 65 b), lt-leb b 122 h, and-false (leb 97 b))

-- the other case of the other case
pub other-twice : (b : ℕ) → other_case (other_case b) ≡ b
other-twice b = go (placed b)
  where
    go : Place b → other_case (other_case b) ≡ b
    go (before h) = rw (other-before b h, other-before b h)
    go (upper h l) = rw (other-upper b h l, other-lower (b + 32) (omega arith) (omega arith)) (omega arith)
    go (between h l) = rw (other-between b h l, other-between b h l)
    go (lower h l) = rw (other-lower b h l, other-upper (b - 32) (omega arith) (omega arith)) (omega arith)
    go (behind h) = rw (other-behind b h, other-behind b h)

-- it is a byte too
pub other_byte : (b : ℕ) → b < 256 → other_case b < 256
other_byte b k = go (placed b)
  where
    go : Place b → other_case b < 256
    go (before h) = rw (other-before b h) k
    go (upper h l) = rw (other-upper b h l) (omega arith)
    go (between h l) = rw (other-between b h l) k
    go (lower h l) = rw (other-lower b h l) (omega arith)
    go (behind h) = rw (other-behind b h) k

-- Folded sets ----------------------------------------------------------------------

pub not-folded : (set : ℕ → Bool) (b : ℕ) → folding false set b ≡ set b
unfolding folding
not-folded set b = or-false (set b)

-- folding is the same for sets that have the same bytes
pub folding-same : (folded : Bool) (these those : ℕ → Bool) → ((x : ℕ) → x < 256 → these x ≡ those x) → (b : ℕ) → b < 256 → folding folded these b ≡ folding folded those b
unfolding folding
folding-same folded these those e b h = rw (e b h, e (other_case b) (other_byte b h))

-- one byte that is no letter
pub folding-single : (folded : Bool) (c : ℕ) → other_case c ≡ c → (b : ℕ) → folding folded (λ x. eqb x c) b ≡ eqb b c
unfolding folding
folding-single false c o b = or-false (eqb b c)
folding-single true c o b = go (eqb (other_case b) c) refl
  where
    go : (t : Bool) → eqb (other_case b) c ≡ t → (eqb b c || t) ≡ eqb b c
    go true e =
        let q : b ≡ c = sym (other-twice b) ∙ ap other_case (eqb-true (other_case b) c e) ∙ o in
        rw (eq-eqb b c q)
    go false e = or-false (eqb b c)
