-- How the rule area is shared: the compiled rule in front, then the table of the names.
use Rattle.std.specs.Prelude.{ℕ, ◌-◌}
use Rattle.syntax.specs.Limits.{rule_area_need, spans_length}

-- where the table of the names stands: two numbers for each group, the last of those that the area needs
unfoldable pub table_start : ℕ
unfolding rule_area_need spans_length
table_start = rule_area_need - spans_length
