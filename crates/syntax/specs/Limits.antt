-- The quantities of 01, each named once.
-- docs/REFERENCE.md, 2
use Rattle.std.specs.Prelude.{ℕ, suc, ◌+◌, ◌-◌, ◌*◌}

-- What a call takes ---------------------------------------------------------

-- the longest rule and the longest subject, in bytes
unfoldable pub rule_limit : ℕ
rule_limit = 1000

unfoldable pub subject_limit : ℕ
subject_limit = 65535

unfoldable pub budget_limit : ℕ
budget_limit = 100000

-- the numbers that the rule area needs, and the work area for each step of the budget
unfoldable pub rule_area_need : ℕ
rule_area_need = 16384

unfoldable pub work_per_step : ℕ
work_per_step = 16

-- 01: "Flags: bit 0 is `s`, bit 1 is `m`"; 02, request c): "Flag bit 2 is `i`", "Flag bit 3 is `x`"; request k): "Flag bit 4 asks for a narrower rule;
-- refusal 3 now starts at bit 5"
unfoldable pub dot_all_bit : ℕ
dot_all_bit = 0

unfoldable pub multiline_bit : ℕ
multiline_bit = 1

unfoldable pub ignore_case_bit : ℕ
ignore_case_bit = 2

unfoldable pub extended_bit : ℕ
extended_bit = 3

unfoldable pub depot_bit : ℕ
depot_bit = 4

unfoldable pub flag_bits : ℕ
flag_bits = 5

-- What a rule may hold --------------------------------------------------------

-- the most capturing groups that a rule can have; 02, j): "23 at the 65th group"
unfoldable pub group_limit : ℕ
group_limit = 64

-- "groups nest at most 24 deep"
unfoldable pub nesting_limit : ℕ
nesting_limit = 24

-- the greatest bound of a repeat
unfoldable pub bound_limit : ℕ
bound_limit = 255

-- the greatest value of a byte, which an escape's number cannot exceed
unfoldable pub byte_limit : ℕ
byte_limit = 255

-- 02, request k): a least length "above 65,536 .. is held at 65,536"
unfoldable pub length_limit : ℕ
length_limit = 65536

-- 02, request m): as many branches as one byte can tell apart: "36 for an alternation of more than 256 branches"
unfoldable pub branch_limit : ℕ
unfolding byte_limit
branch_limit = suc byte_limit

-- Rows --------------------------------------------------------------------------

-- "an unset or missing group is 4294967295 twice"
unfoldable pub unset : ℕ
unset = 4294967295

-- two numbers for each group: a row is "start, end and 64 pairs" (02, j)
unfoldable pub spans_length : ℕ
unfolding group_limit
spans_length = 2 * group_limit

unfoldable pub row_length : ℕ
unfolding spans_length
row_length = 2 + spans_length

-- where the span of a group stands among those numbers; groups are numbered from 1
unfoldable pub slot : ℕ → ℕ
slot group = 2 * (group - 1)

-- 02, h): "A line's part of the area is its row .., then four numbers"
unfoldable pub part_length : ℕ
unfolding row_length
part_length = row_length + 4

-- Names of groups -----------------------------------------------------------------

-- 02, e): "A name is 1 to 16 letters, digits or underscores"
unfoldable pub name_limit : ℕ
name_limit = 16

-- "for each of" the "groups 17 bytes, the length (0 if none) and the name padded with 00"
unfoldable pub name_entry : ℕ
unfolding name_limit
name_entry = suc name_limit

-- 02, j): "8 is given under 1,088 bytes"
unfoldable pub name_index_need : ℕ
unfolding group_limit name_entry
name_index_need = group_limit * name_entry

-- Nesting, and registers -----------------------------------------------------------

-- How deep those parts nest that keep something in registers. A level of brackets has three of them at most, one in another: a group, its repeat, and
-- the part that holds on if the repeat is possessive. So has what stands inside all brackets: `\R*+`.
unfoldable pub height_limit : ℕ
unfolding nesting_limit
height_limit = 3 * suc nesting_limit

-- how many levels of sequences and repeats stand one inside another: each of those parts brings two at most
unfoldable pub level_limit : ℕ
unfolding height_limit
level_limit = 2 * height_limit

-- The machine's registers: the captures, and two for each part that keeps something, one inside another.
unfoldable pub registers : ℕ
unfolding spans_length height_limit
registers = spans_length + 2 * height_limit
