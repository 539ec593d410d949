-- A range of bytes that grows by one.
use mathlib.Core.Path.{◌≡◌, refl}
use mathlib.Core.Bool.{Bool, true, false, ◌&&◌, ◌||◌}
use Prim.Native.Nat.{ℕ, ◌+◌, ◌≤◌, ◌<◌}
use native.Mathlib.Omega.{arith}
use native.Mathlib.Numerals.{add-one}
use borrow.Author.Tests.{eqb-true, eqb-false, leb-true, leb-false, lt-ltb, le-ltb, le-leb, lt-leb}
use lib.Dec.{eqb, ltb, leb, leb-suc-suc}
use Rattle.charset.specs.Named.{in_range, ◌to◌}

-- whether x is a byte from low on, before b
abbrev pub before : ℕ → ℕ → ℕ → Bool
before low b x = leb low x && ltb x b

same-before : (x b : ℕ) → (x ≡ b → ⊥) → ltb x b ≡ leb x b
same-before x b n = go (leb x b) refl
  where
    go : (t : Bool) → leb x b ≡ t → ltb x b ≡ t
    go true e = let h : x ≤ b = leb-true x b e in lt-ltb x b (omega arith)
    go false e = let h : b < x = leb-false x b e in le-ltb x b (omega arith)

-- the bytes before b, and b
pub grow : (low b x : ℕ) (m : Bool) → low ≤ b → (eqb x b || (before low b x || m)) ≡ (in_range x (low to b) || m)
unfolding in_range
grow low b x m h = go (eqb x b) refl
  where
    go : (t : Bool) → eqb x b ≡ t → (t || (before low b x || m)) ≡ (leb low x && leb x b || m)
    go true e =
        let q : x ≡ b = eqb-true x b e in
        rw (le-leb low x (omega arith), le-leb x b (omega arith))
    go false e = rw (same-before x b (eqb-false x b e))

-- the bytes up to b are those before the next
pub next : (low b x : ℕ) → in_range x (low to b) ≡ before low (b + 1) x
unfolding in_range
next low b x = rw (add-one b, leb-suc-suc x b)

pub none : (low high x : ℕ) (m : Bool) → high < low → m ≡ (in_range x (low to high) || m)
unfolding in_range
none low high x m h = go (leb low x) refl
  where
    go : (t : Bool) → leb low x ≡ t → m ≡ (t && leb x high || m)
    go true e = let p : low ≤ x = leb-true low x e in rw (lt-leb x high (omega arith))
    go false e = refl

pub start : (low x : ℕ) (m : Bool) → m ≡ (before low low x || m)
start low x m = go (leb low x) refl
  where
    go : (t : Bool) → leb low x ≡ t → m ≡ (t && ltb x low || m)
    go true e = let p : low ≤ x = leb-true low x e in rw (le-ltb x low (omega arith))
    go false e = refl
