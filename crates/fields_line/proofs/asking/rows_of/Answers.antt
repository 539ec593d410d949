-- By cases on the listing.
use Rattle.gathering.specs.Listing.{listing_of}
use Rattle.fields_line.proofs.asking.rows_of.Goals as goal

pub returns-in-Complete : goal.returns-in-Complete
unfolding listing_of
returns-in-Complete c = rw c.in-Complete.is

pub returns-in-Full : goal.returns-in-Full
unfolding listing_of
returns-in-Full c = rw c.in-Full.is

pub returns-in-Exhausted : goal.returns-in-Exhausted
unfolding listing_of
returns-in-Exhausted c = rw c.in-Exhausted.is
