-- Both are the failure, or the greater of what was kept and the failure, by their measures.
use mathlib.Core.Path.{refl}
use Rattle.semantics.specs.Explanations.{position, reach}
use Rattle.greatest.specs.Laws.Best.{keeps-one, keeps-first}
use Rattle.greatest.proofs.greatest.keep.Goals as goal

pub returns-in_default : goal.returns-in_default
returns-in_default c = rw c.in_default.is (keeps-first _)

pub returns : goal.returns
returns c = rw c.in-Some.is (keeps-one _ _ _ (c.greater_of.ensures position refl refl) (c.greater_of-2.ensures reach c.reach_of.ensures c.reach_of-2.ensures))
