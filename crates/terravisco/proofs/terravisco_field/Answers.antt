-- `terravisco_field` meets its contract: what `find` found, in numbers.
use mathlib.Core.Path.{sym, ap, ◌∙◌}
use lib.ListN.{length}
use Rattle.terravisco.specs.Answers.{field_numbers}
use Rattle.terravisco.proofs.terravisco_field.Goals as goal

pub returns-in-Taken : goal.returns-in-Taken
unfolding field_numbers
returns-in-Taken c = sym (ap (field_numbers (length c.args.standing.now)) (sym c.find.ensures ∙ c.in-Taken.is))

pub returns-in-Standing : goal.returns-in-Standing
unfolding field_numbers
returns-in-Standing c = sym (ap (field_numbers (length c.args.standing.now)) (sym c.find.ensures ∙ c.in-Standing.is))

pub returns-in-Nothing : goal.returns-in-Nothing
unfolding field_numbers
returns-in-Nothing c = sym (ap (field_numbers (length c.args.standing.now)) (sym c.find.ensures ∙ c.in-Nothing.is))
