-- The least length of a rule, by the least lengths of its parts: as few bytes as a derivation could take (02, request k). That none takes fewer is proved
-- in `semantics`.
-- docs/REFERENCE.md, 11.2
use Rattle.std.specs.Prelude.{Bool, true, false, ℕ, min, ◌+◌, ◌*◌}
use Rattle.syntax.specs.declared.Most.{Most}
use Rattle.syntax.specs.declared.Most.TheVariants.{AtMost, Unlimited}
use Rattle.syntax.specs.Limits.{length_limit}
use Rattle.syntax.specs.Tree.{Item, byte_in, assert, reference, Rule, empty, item, seq, alt, group, repeat, held, look, Branches, one, also}

-- "above 65,536 it is held at 65,536"
unfoldable pub capped : ℕ → ℕ
capped n = min n length_limit

-- "a byte item 1, a place 0, .. a reference 0"
unfoldable pub item_length : Item → ℕ
item_length (byte_in folded c) = 1
item_length (assert a) = 0
item_length (reference folded n) = 0

unfoldable mutual
  pub least_length : Rule → ℕ
  least_length empty = 0
  least_length (item at i) = item_length i
  -- "parts that follow one another their sum"
  least_length (seq a b) = capped (least_length a + least_length b)
  -- "an alternation the smallest branch"
  least_length (alt bs bar b) = min (shortest bs) (least_length b)
  least_length (group n a) = least_length a
  -- "a repeat its minimum times its body's"
  least_length (repeat at n m g a) = capped (n * least_length a)
  least_length (held at a) = least_length a
  -- 02, request l): looking ahead takes nothing
  least_length (look at negative a) = 0

  pub shortest : Branches → ℕ
  shortest (one a) = least_length a
  shortest (also bs bar b) = min (shortest bs) (least_length b)

-- "without upper bound"
unfoldable pub unbounded : Most → Bool
unbounded (AtMost m) = false
unbounded Unlimited = true
