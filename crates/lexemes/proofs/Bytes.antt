-- Laws of the byte at a position. Assumes nothing.
use mathlib.Core.Path.{◌≡◌, refl, sym, ◌∙◌}
use mathlib.Core.Bool.{true}
use mathlib.Core.List.{List, [], ◌∷◌}
use Prim.Native.Nat.{ℕ, zero, suc, ◌<◌}
use native.Mathlib.Omega.{arith}
use lib.ListN.{length, get_or}
use lib.Dec.{ltb}
use borrow.Author.Tests.{ltb-true}
use Rattle.syntax.specs.Read.{byte}

-- within a list the default does not matter
get_or-in : (l : List ℕ) (i d e : ℕ) → i < length l → get_or l i d ≡ get_or l i e
get_or-in [] i d e h = absurd (omega arith)
get_or-in (x ∷ xs) zero d e h = refl
get_or-in (x ∷ xs) (suc i) d e h = get_or-in xs i d e (omega arith)

pub byte_at : (s : List ℕ) (i : ℕ) → i < length s → get_or s i 0 ≡ byte s i
unfolding byte
byte_at s i h = get_or-in s i 0 256 h

-- what `get` says of the byte at a position
pub byte-read : (s : List ℕ) (i b : ℕ) → true ≡ ltb i (length s) → b ≡ get_or s i b → b ≡ byte s i
unfolding byte
byte-read s i b h e = e ∙ get_or-in s i b 256 (ltb-true i (length s) (sym h))

pub read-in : (s : List ℕ) → ((i : ℕ) → get_or s i 0 < 256) → (i b : ℕ) → true ≡ ltb i (length s) → b ≡ get_or s i b → b ≡ 256 → ⊥
read-in s small i b h e k = let l = small i in let m : b ≡ get_or s i 0 = e ∙ get_or-in s i b 0 (ltb-true i (length s) (sym h)) in omega arith
