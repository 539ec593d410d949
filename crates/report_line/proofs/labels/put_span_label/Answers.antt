-- A place of a row that is neither its start nor its end is that of one of its groups.
use Rattle.syntax.specs.Limits.{group_limit}
use borrow.Author.Rules.{rules}
use Rattle.report_line.proofs.labels.put_span_label.Goals as goal

pub put_group-requires : goal.put_group-requires
unfolding group_limit
put_group-requires c = search rules
