-- Each kind, and every other byte.
use mathlib.Core.Path.{sym}
use Rattle.card_format.specs.Cards.{body_length}
use Rattle.card_format.proofs.Laws.Cutting.{no_kind}
use Rattle.card_format.proofs.body_length.Goals as goal

pub returns-in-1 : goal.returns-in-1
unfolding body_length
returns-in-1 c = rw c.in-1.is

pub returns-in-2 : goal.returns-in-2
unfolding body_length
returns-in-2 c = rw c.in-2.is

pub returns-in-3 : goal.returns-in-3
unfolding body_length
returns-in-3 c = rw c.in-3.is

pub returns-in_default : goal.returns-in_default
returns-in_default c = let n = c.in_default.in_default-own.rest in sym (no_kind _ n.0.0.1 n.0.1 n.1)
