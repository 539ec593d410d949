-- `end_scan` meets its contract: one ending for each thing that a search tells.
use mathlib.Core.Path.{refl}
use native.Mathlib.Omega.{arith}
use Rattle.semantics.specs.Calls.{list_outcome}
use Rattle.gathering.specs.Listing.{listing_of}
use Rattle.scans.specs.Scanning.{last_of, steps_of}
use Rattle.scans.proofs.end_scan.Goals as goal

pub overflow_add-result : goal.overflow_add-result
unfolding steps_of
overflow_add-result c = omega (arith, rw c.in-Found.is at c.requires)

pub overflow_add-result-in-Nothing : goal.overflow_add-result-in-Nothing
unfolding steps_of
overflow_add-result-in-Nothing c = omega (arith, rw c.in-Nothing.is at c.requires)

pub overflow_add-result-in-Spent : goal.overflow_add-result-in-Spent
unfolding steps_of
overflow_add-result-in-Spent c = omega (arith, rw c.in-Spent.is at c.requires)

pub returns-in-Found : goal.returns-in-Found
unfolding listing_of list_outcome last_of steps_of
returns-in-Found c = rw c.in-Found.is refl

pub returns-in-Nothing : goal.returns-in-Nothing
unfolding listing_of list_outcome last_of steps_of
returns-in-Nothing c = rw c.in-Nothing.is refl

pub returns-in-Spent : goal.returns-in-Spent
unfolding listing_of list_outcome last_of steps_of
returns-in-Spent c = rw c.in-Spent.is refl
