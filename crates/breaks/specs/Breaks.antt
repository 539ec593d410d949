-- What `\R` does at a position, in numbers: by whether the bytes of its three items are there, the steps that it makes, and the bytes that it takes, none
-- if it fails.
use Rattle.std.specs.Prelude.{◌≡◌, List, Bool, true, false, ℕ, suc, ◌+◌, ◌≤◌, length}
use Rattle.machine.specs.Moves.{takes, is_return, is_feed, is_break}
use Rattle.breaks.specs.declared.Break.{Break}

unfoldable pub break_steps : (return feed alone : Bool) → ℕ
break_steps true true alone = 5
break_steps true false true = 7
break_steps true false false = 6
break_steps false feed true = 6
break_steps false feed false = 5

unfoldable pub break_bytes : (return feed alone : Bool) → ℕ
break_bytes true true alone = 2
break_bytes true false true = 1
break_bytes true false false = 0
break_bytes false feed true = 1
break_bytes false feed false = 0

-- what the code tells of `\R` at a position
pub record BreaksAs (sub : List ℕ) (at : ℕ) (b : Break) : Type 0 where
  pub steps : b.steps ≡ break_steps (takes sub is_return at) (takes sub is_feed (suc at)) (takes sub is_break at)
  pub bytes : b.bytes ≡ break_bytes (takes sub is_return at) (takes sub is_feed (suc at)) (takes sub is_break at)
  pub inside : (b.bytes ≡ 0 → ⊥) → at + b.bytes ≤ length sub
