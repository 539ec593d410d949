-- `widen` meets its contract: the class is read, and its bytes are added to the set.
use mathlib.Core.Path.{refl, ap, ◌∙◌}
use mathlib.Core.Bool.{Bool, ◌||◌}
use Rattle.charset.specs.Class.{has}
use Rattle.openings.proofs.finding.widen.Goals as goal

pub returns : goal.returns
returns c = record { pending = refl; height = refl; cost = refl; any = refl; both = λ x h. c.add_class-s.ensures x h ∙ ap (λ (b : Bool). b || has c.args.search.set x) (c.class_at-more.ensures x h) }
