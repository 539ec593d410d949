-- What the semantics needs of a rule's tree, and a sound reading gives.
-- docs/REFERENCE.md, 4.5
use Rattle.std.specs.Prelude.{ℕ, suc, max, ◌≤◌}
use Rattle.syntax.specs.declared.Most.{Most}
use Rattle.syntax.specs.declared.Most.TheVariants.{AtMost, Unlimited}
use Rattle.syntax.specs.Limits.{group_limit, bound_limit, height_limit}
use Rattle.syntax.specs.Tree.{Item, byte_in, assert, reference, Rule, empty, item, seq, alt, group, repeat, held, look, Branches, one, also}

-- bounds are at most 255, and the minimum is at most the maximum
abbrev pub BoundsFit : ℕ → Most → Type 0
BoundsFit n (AtMost m) = (n ≤ m) × (m ≤ bound_limit)
BoundsFit n Unlimited = n ≤ bound_limit

-- groups are numbered from 1 up to their count, and every repeat's bounds fit
abbrev mutual
  pub Proper : ℕ → Rule → Type 0
  Proper groups empty = Unit
  Proper groups (item at i) = Unit
  Proper groups (seq a b) = Proper groups a × Proper groups b
  Proper groups (alt bs bar b) = Propers groups bs × Proper groups b
  Proper groups (group n a) = (1 ≤ n) × (n ≤ groups) × Proper groups a
  Proper groups (repeat at n m g a) = BoundsFit n m × Proper groups a
  Proper groups (held at a) = Proper groups a
  Proper groups (look at negative a) = Proper groups a

  pub Propers : ℕ → Branches → Type 0
  Propers groups (one a) = Proper groups a
  Propers groups (also bs bar b) = Propers groups bs × Proper groups b

abbrev pub Refers : ℕ → Item → Type 0
Refers groups (byte_in folded c) = Unit
Refers groups (assert a) = Unit
Refers groups (reference folded n) = (1 ≤ n) × (n ≤ groups)

-- every reference is to a group of the rule
abbrev mutual
  pub Resolved : ℕ → Rule → Type 0
  Resolved groups empty = Unit
  Resolved groups (item at i) = Refers groups i
  Resolved groups (seq a b) = Resolved groups a × Resolved groups b
  Resolved groups (alt bs bar b) = ResolvedIn groups bs × Resolved groups b
  Resolved groups (group n a) = Resolved groups a
  Resolved groups (repeat at n m g a) = Resolved groups a
  Resolved groups (held at a) = Resolved groups a
  Resolved groups (look at negative a) = Resolved groups a

  pub ResolvedIn : ℕ → Branches → Type 0
  ResolvedIn groups (one a) = Resolved groups a
  ResolvedIn groups (also bs bar b) = ResolvedIn groups bs × Resolved groups b

-- how deep those parts nest that keep something in registers: groups that capture, repeats, held parts and looking ahead
abbrev mutual
  pub height : Rule → ℕ
  height empty = 0
  height (item at i) = 0
  height (seq a b) = max (height a) (height b)
  height (alt bs bar b) = max (heights bs) (height b)
  height (group n a) = suc (height a)
  height (repeat at n m g a) = suc (height a)
  height (held at a) = suc (height a)
  height (look at negative a) = suc (height a)

  pub heights : Branches → ℕ
  heights (one a) = height a
  heights (also bs bar b) = max (heights bs) (height b)

-- How many levels of sequences and repeats stand one inside another. Each part of a sequence stands one level deeper, and so does the body of a
-- repeat. All kinds of groups count: one that does not capture is a sequence or an alternation that is itself a part.
abbrev mutual
  pub levels : Rule → ℕ
  levels empty = 0
  levels (item at i) = 0
  levels (seq a b) = max (levels a) (suc (levels b))
  levels (alt bs bar b) = max (levels_in bs) (levels b)
  levels (group n a) = levels a
  levels (repeat at n m g a) = suc (levels a)
  levels (held at a) = levels a
  levels (look at negative a) = levels a

  pub levels_in : Branches → ℕ
  levels_in (one a) = levels a
  levels_in (also bs bar b) = max (levels_in bs) (levels b)

pub record WellFormed (groups : ℕ) (r : Rule) : Type 0 where
  pub few : groups ≤ group_limit
  pub proper : Proper groups r
  pub resolved : Resolved groups r
  pub nests : height r ≤ height_limit
