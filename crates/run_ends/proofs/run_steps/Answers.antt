-- `run_steps` meets its contract: the two cases of whether the byte behind the run was tried.
use mathlib.Core.Path.{sym, ◌∙◌}
use Rattle.run_ends.proofs.Bytes.{steps_full, steps-missed}
use Rattle.run_ends.proofs.run_steps.Goals as goal

pub returns-then-is_full : goal.returns-then-is_full
returns-then-is_full c = λ place at. steps_full _ _ place at (sym c.is_full.ensures ∙ c.if-is_full.true)

pub returns : goal.returns
returns c = λ place at. steps-missed _ _ place at (sym c.is_full.ensures ∙ c.if-is_full.false)
