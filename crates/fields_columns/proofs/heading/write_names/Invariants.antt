use mathlib.Core.Path.{◌≡◌}
use lib.ListN.{length}
use Rattle.fields_columns.specs.Promises.{Named}
use Rattle.fields_columns.proofs.heading.write_names.Given as goal

abbrev pub invariant-loop-i : goal.invariant-loop-i
invariant-loop-i l = (length l.out ≡ length l.initial.out) × Named l.columns l.count l.i l.initial.out l.at l.out l.end
