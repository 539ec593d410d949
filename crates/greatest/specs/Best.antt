-- What the code keeps of the failures so far.
-- docs/REFERENCE.md, 16.5
use Rattle.std.specs.Prelude.{◌≡◌, List, Option, None, Some}
use Rattle.std.proofs.Math.Option as maybe
use Rattle.std.proofs.Math.Option.{none, some}
use Rattle.semantics.specs.Explanations.{Failure, greatest, nowhere, position, furthest, reach, closest}
use Rattle.greatest.specs.declared.greatest.Failed.{Failed}
use Rattle.greatest.specs.declared.greatest.Best.{Best}

-- what the code's failure means
abbrev pub failure_of : Failed → Failure
failure_of x = record { start = x.start; at = x.at; place = x.place }

-- the furthest failure and the closest attempt so far, if anything failed
unfoldable pub furthest_of : Option Best → maybe.Option Failure
furthest_of None = none
furthest_of (Some b) = some (failure_of b.furthest)

unfoldable pub closest_of : Option Best → maybe.Option Failure
closest_of None = none
closest_of (Some b) = some (failure_of b.closest)

-- as where nothing failed
pub record Blank (b : Best) : Type 0 where
  pub far : failure_of b.furthest ≡ nowhere
  pub near : failure_of b.closest ≡ nowhere

-- r is the best of what b was and these failures
pub record Keeps (b : Option Best) (l : List Failure) (r : Option Best) : Type 0 where
  pub far : furthest_of r ≡ greatest position (furthest_of b) l
  pub near : closest_of r ≡ greatest reach (closest_of b) l

-- the two that are told of these failures
pub record Finds (l : List Failure) (b : Best) : Type 0 where
  pub far : failure_of b.furthest ≡ furthest l
  pub near : failure_of b.closest ≡ closest l
