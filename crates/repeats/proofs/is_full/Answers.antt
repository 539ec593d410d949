-- `is_full` meets its contract, by whether the word stands for no maximum.
use mathlib.Core.Path.{sym, ◌∙◌}
use Rattle.repeats.proofs.Decisions.{full-unlimited, full-limited}
use Rattle.repeats.proofs.is_full.Goals as goal

pub returns-then-most-unset_position : goal.returns-then-most-unset_position
returns-then-most-unset_position c = full-unlimited _ _ (c.if-most-unset_position.true ∙ c.unset_position.ensures)

pub returns : goal.returns
returns c = full-limited _ _ (λ e. c.if-most-unset_position.false (e ∙ sym c.unset_position.ensures))
