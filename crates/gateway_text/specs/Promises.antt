-- What the functions promise.
-- docs/REFERENCE.md, 19.1
use Rattle.std.specs.Prelude.{List, ℕ, ◌+◌, ◌≤◌}
use Rattle.text.specs.Writing.{Wrote}
use Rattle.gateway_text.specs.Limits.{answer_room}

-- a line of output was written, in the room that every line finds
pub record WroteLine (old : List ℕ) (at : ℕ) (text new : List ℕ) (end : ℕ) : Type 0 where
  pub wrote : Wrote old at text new end
  pub near : end ≤ at + answer_room
