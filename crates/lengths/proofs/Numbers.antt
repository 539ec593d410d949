-- The numbers that are found: lengths that are capped, and places.
use mathlib.Core.Path.{◌≡◌, refl, ap, ◌∙◌}
use mathlib.Core.Bool.{Bool}
use mathlib.Core.Option as maybe
use mathlib.Core.Option.{none, some}
use Rattle.std.specs.Prelude.{Option, None, Some, SomeIff, unwrap_or}
use Rattle.std.specs.Option.{option_or}
use Prim.Native.Nat.{ℕ, zero, suc, min, ◌+◌, ◌-◌, ◌*◌, ◌≤◌}
use native.Mathlib.Omega.{arith}
use borrow.Author.Tests.{ne_eqb, lt-leb}
use Rattle.syntax.specs.Limits.{length_limit}
use Rattle.syntax.specs.Tree.{Item, byte_in, assert, reference, Rule, empty, item, seq, alt, group, repeat, held, look}
use Rattle.syntax.specs.Lengths.{capped, item_length, least_length, shortest}
use Rattle.syntax.specs.Reading.{first_some, dangling}
use Rattle.syntax.specs.Checkable.{lowest}
use Rattle.syntax.specs.Compiled.{marked}
use Rattle.linker.specs.Linking.{noted}

-- Lengths ---------------------------------------------------------------------------

pub capped-bounded : (n : ℕ) → capped n ≤ length_limit
unfolding capped
capped-bounded n = omega arith

pub capped-within : (n : ℕ) → n ≤ length_limit → capped n ≡ n
unfolding capped
capped-within n h = omega arith

-- capped on the way or at the end
pub capped-both : (x y z : ℕ) → capped (capped (x + y) + z) ≡ capped (x + capped (y + z))
unfolding capped length_limit
capped-both x y z = omega arith

item-bounded : (i : Item) → item_length i ≤ length_limit
unfolding item_length length_limit
item-bounded (byte_in folded c) = omega arith
item-bounded (assert a) = omega arith
item-bounded (reference folded n) = omega arith

mutual
  unfolding least_length shortest

  pub least-bounded : (t : Rule) → least_length t ≤ length_limit
  least-bounded empty = omega arith
  least-bounded (item place i) = item-bounded i
  least-bounded (seq a b) = capped-bounded (least_length a + least_length b)
  least-bounded (alt bs bar b) = let x = least-bounded b in omega arith
  least-bounded (group n a) = least-bounded a
  least-bounded (repeat place n m g a) = capped-bounded (n * least_length a)
  least-bounded (held place a) = least-bounded a
  least-bounded (look place negative a) = omega arith

-- Places ------------------------------------------------------------------------------

pub noted-first : (x y : maybe.Option ℕ) (s : Option ℕ) → noted (first_some x y) s ≡ noted x (noted y s)
unfolding noted first_some
noted-first none y s = refl
noted-first (some place) y s = refl

pub noted-three : (x y z : maybe.Option ℕ) (s : Option ℕ) → noted (first_some x (first_some y z)) s ≡ noted x (noted y (noted z s))
noted-three x y z s = noted-first x (first_some y z) s ∙ ap (noted x) (noted-first y z s)

-- what was noted alone, and what comes after it
pub noted-alone : (x : maybe.Option ℕ) (s : Option ℕ) → noted x s ≡ option_or (noted x None) s
unfolding noted
noted-alone none s = refl
noted-alone (some place) s = refl

pub noted-joined : (x y : maybe.Option ℕ) (s : Option ℕ) → noted (first_some x y) s ≡ noted x (option_or (noted y None) s)
noted-joined x y s = noted-first x y s ∙ ap (noted x) (noted-alone y s)

-- the lower of a form's own place and of what was found in it
pub noted-lowest : (place : ℕ) (o : maybe.Option ℕ) → Some (min place (unwrap_or (noted o None) place)) ≡ noted (some (lowest place o)) None
unfolding noted lowest
noted-lowest place none = let e : min place place ≡ place = omega arith in ap Some e
noted-lowest place (some q) = refl

-- the number of a bar, and the bar
pub bar-noted : (o : maybe.Option ℕ) (bar : Option ℕ) → SomeIff bar (1 ≤ marked o) (marked o - 1) → bar ≡ noted o None
unfolding marked noted
bar-noted none None h = refl
bar-noted none (Some place) h = absurd (omega (arith, h.0))
bar-noted (some q) None h = absurd (h (omega arith))
bar-noted (some q) (Some place) h = let e : place ≡ q = omega (arith, h.1) in ap Some e

-- with no groups every reference is to none
pub dangles : (at : ℕ) (folded : Bool) (n : ℕ) → dangling 0 at (reference folded n) ≡ some at
unfolding dangling
dangles at folded zero = refl
dangles at folded (suc n) = rw (ne_eqb (suc n) 0 (λ e. omega arith), lt-leb (suc n) 0 (omega arith))
