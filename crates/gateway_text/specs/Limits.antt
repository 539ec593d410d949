-- The room that an answer takes.
-- docs/REFERENCE.md, 19.1
use Rattle.std.specs.Prelude.{ℕ, ◌+◌, ◌*◌}
use Rattle.syntax.specs.Limits.{group_limit}

-- the bytes of a group's span at most: a blank, a number, `-`, a number
unfoldable pub span_room : ℕ
span_room = 22

-- the bytes of an answer at most: `M`, two numbers, a span for each group, and the 0A
unfoldable pub answer_room : ℕ
unfolding span_room group_limit
answer_room = 24 + span_room * group_limit
