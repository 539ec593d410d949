-- `byte_before` meets its contract: behind the first position it is the byte at the one before.
use mathlib.Core.Path.{◌∙◌}
use Rattle.nodes.proofs.Tests.{before-some, before-none}
use Rattle.nodes.proofs.assertions.byte_before.Goals as goal

pub returns-then-at-gt0 : goal.returns-then-at-gt0
returns-then-at-gt0 c = c.byte_at.ensures ∙ before-some _ _ c.if-at-gt0.true

pub returns : goal.returns
returns c = before-none c.args.sub.now _ c.if-at-gt0.false
