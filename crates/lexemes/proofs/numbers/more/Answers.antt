-- `more` meets its contract: the least of a number and 1000 is the capped one.
use mathlib.Core.Path.{◌∙◌}
use Rattle.lexemes.proofs.Capped.{capped-min}
use Rattle.lexemes.proofs.numbers.more.Goals as goal

pub returns : goal.returns
returns c = c.min.ensures ∙ capped-min _
