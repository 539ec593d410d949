-- `judged` meets its contract: where the profile is not asked for, everything passes.
use mathlib.Core.Path.{sym, ◌∙◌}
use Rattle.lengths.proofs.Insides.{judged-not}
use Rattle.reader.proofs.compiling.judged.Goals as goal

pub returns-then-in_depot : goal.returns-then-in_depot
returns-then-in_depot c = rw (← c.in_depot.ensures, c.if-in_depot.true) c.judge.ensures

pub returns : goal.returns
returns c = judged-not _ _ _ (sym c.in_depot.ensures ∙ c.if-in_depot.false)
