-- What a repeat may do at its decision.
-- docs/REFERENCE.md, 13.4
use Rattle.std.specs.Prelude.{Bool, true, false, ℕ, ltb, leb}
use Rattle.syntax.specs.declared.Greed.{Greed}
use Rattle.syntax.specs.declared.Most.{Most}
use Rattle.syntax.specs.declared.Most.TheVariants.{AtMost, Unlimited}

pub data Next : Type 0 where
  round : Next  -- it must make another round
  leave : Next  -- it must go on
  either : Greed → Next  -- it may do both: a choice

unfoldable pub is_full : Most → ℕ → Bool
is_full (AtMost m) n = leb m n
is_full Unlimited n = false

-- "Repeat at its decision after n rounds: below the minimum a round; at the maximum go on; if the minimum is reached and the last round
-- took no bytes, go on; else both". The three tests, in this order: is a round owed, is the maximum reached, did the last round take
-- no bytes.
unfoldable pub allowed : Bool → Bool → Bool → Greed → Next
allowed true full idle g = round
allowed false true idle g = leave
allowed false false true g = leave
allowed false false false g = either g

-- after n rounds, the last of which took no bytes if `idle`
unfoldable pub decision : ℕ → Most → Greed → ℕ → Bool → Next
decision least most g n idle = allowed (ltb n least) (is_full most n) idle g
