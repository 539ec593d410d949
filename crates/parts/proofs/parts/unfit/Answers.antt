-- By what the sequence read so far ends with.
use Rattle.parts.proofs.Items.{unfit-nothing, unfit-braces}
use Rattle.parts.proofs.parts.unfit.Goals as goal

pub returns-in-Nothing : goal.returns-in-Nothing
returns-in-Nothing c = rw c.at.ensures (unfit-nothing c.args.kind c.args.at c.in-Nothing.is)

pub returns-in-Repeatable : goal.returns-in-Repeatable
returns-in-Repeatable c = rw c.at-in-Repeatable.ensures (unfit-braces c.args.kind c.args.at c.in-Repeatable.is)
