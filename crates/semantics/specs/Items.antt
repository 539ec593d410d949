-- A single item tried at a state: it fails, or gives the state behind it.
-- docs/REFERENCE.md, 13.2, 13.5, 14.1
use Rattle.std.specs.Prelude.{List, Bool, true, false, ◌&&◌, ℕ, zero, suc, ◌+◌, ◌-◌, length, get_or, ltb, leb, eqb, if◌then◌else◌}
use Rattle.charset.specs.Cases.{folding}
use Rattle.syntax.specs.Limits.{unset, slot}
use Rattle.syntax.specs.Read.{byte}
use Rattle.syntax.specs.Sets.{in_class}
use Rattle.syntax.specs.Tree.{Item, byte_in, assert, reference}
use Rattle.semantics.specs.Assertions.{holds}
use Rattle.semantics.specs.States.{State, moved}

pub data Tried : Type 0 where
  fails : Tried
  goes : State → Tried

unfoldable pub when : Bool → Tried → Tried
when true x = x
when false x = fails

-- a byte is the same as another; in a reference that is folded, also a letter as its other case (02, request c)
unfoldable pub same_byte : Bool → ℕ → ℕ → Bool
same_byte folded x y = folding folded (eqb x) y

module _ (folded : Bool) (sub : List ℕ) where
  -- the n bytes at a are those at b
  unfoldable pub same_at : ℕ → ℕ → ℕ → Bool
  same_at zero a b = true
  same_at (suc n) a b = same_byte folded (byte sub a) (byte sub b) && same_at n (suc a) (suc b)

  -- "A reference needs its group set, and matches the same bytes": those from start to stop
  unfoldable pub refer : ℕ → ℕ → State → Tried
  refer start stop s =
      let n = stop - start in
      when (ltb start unset) (when (leb (s.at + n) (length sub)) (when (same_at n start s.at) (goes (moved (s.at + n) s))))

  -- 02, request b): "one for each byte compared, the first unequal byte included", and "a subject too short costs 1 and the bytes compared up to
  -- its end". The n bytes at a are compared with those at b, byte by byte.
  unfoldable pub compared : ℕ → ℕ → ℕ → ℕ
  compared zero a b = 0
  compared (suc n) a b = if ltb b (length sub) then suc (if same_byte folded (byte sub a) (byte sub b) then compared n (suc a) (suc b) else 0) else 0

  -- what a reference to the bytes from start to stop pays for them: "an unset group costs 1", its own step alone
  unfoldable pub paid_for : (start stop at : ℕ) → ℕ
  paid_for start stop at = if ltb start unset then compared (stop - start) start at else 0

-- the steps that trying an item costs beside its own
unfoldable pub toll : List ℕ → Item → State → ℕ
toll sub (byte_in folded c) s = 0
toll sub (assert a) s = 0
toll sub (reference folded group) s = paid_for folded sub (get_or s.spans (slot group) unset) (get_or s.spans (slot group + 1) unset) s.at

unfoldable pub try : List ℕ → Item → State → Tried
-- "a byte item takes the next byte, which must be in its set"
try sub (byte_in folded c) s = when (ltb s.at (length sub)) (when (in_class folded c (byte sub s.at)) (goes (moved (suc s.at) s)))
-- "a place takes none and must hold"
try sub (assert a) s = when (holds sub a s.at) (goes s)
-- "inside its own open group it sees the former span": a span is set when its group closes
try sub (reference folded group) s = refer folded sub (get_or s.spans (slot group) unset) (get_or s.spans (slot group + 1) unset) s
