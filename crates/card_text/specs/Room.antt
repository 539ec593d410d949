-- The room that the words of a card take at most.
-- docs/REFERENCE.md, 19.4
use Rattle.std.specs.Prelude.{ℕ, ◌+◌, ◌*◌}

-- two lines of at most four bytes for each of the rule's
unfoldable pub rule_room : (size : ℕ) → ℕ
rule_room size = 8 * size + 18

-- all flags' lines
unfoldable pub flags_room : ℕ
flags_room = 256

-- a number's line
unfoldable pub number_room : ℕ
number_room = 19

unfoldable pub shown_room : (size : ℕ) → ℕ
unfolding rule_room flags_room number_room
shown_room size = rule_room size + flags_room + number_room + number_room
