use Rattle.std.proofs.Common.{◌≡◌, ◌+◌}
use Rattle.std.proofs.Math.Seq.{slice}
use Rattle.syntax.specs.Names.{group_called}
use Rattle.name_table.specs.Table.{names_in}
use Rattle.name_table.proofs.group_called.Given as goal

abbrev pub invariant-loop-others : goal.invariant-loop-others
invariant-loop-others l = group_called (slice l.from (l.from + l.len) l.rule) (names_in l.rule l.table l.groups) ≡ group_called (slice l.from (l.from + l.len) l.rule) (names_in l.rule l.table l.others)
