-- Nothing failed, and nothing changes; or one failure more is kept.
use Rattle.greatest.specs.Laws.Best.{keeps-none}
use Rattle.greatest.specs.Leading.{kept_of, listed}
use Rattle.greatest.proofs.greatest.consider.Goals as goal

pub returns-in-Some : goal.returns-in-Some
unfolding kept_of listed
returns-in-Some c = rw c.in-Some.is c.keep.ensures

pub returns-in-None : goal.returns-in-None
unfolding kept_of listed
returns-in-None c = rw c.in-None.is (keeps-none _)
