-- By cases on the listing.
use Rattle.gathering.specs.Listing.{listing_of}
use Rattle.fields_line.specs.Promises.{cut_by}
use Rattle.fields_line.proofs.asking.is_cut.Goals as goal

pub last_start-requires : goal.last_start-requires
unfolding listing_of
last_start-requires c = rw c.in-Full.is at c.requires

pub returns-in-Complete : goal.returns-in-Complete
unfolding listing_of cut_by
returns-in-Complete c = rw c.in-Complete.is

pub returns-in-Full : goal.returns-in-Full
unfolding listing_of cut_by
returns-in-Full c = rw (c.in-Full.is, c.last_start.ensures)

pub returns-in-Exhausted : goal.returns-in-Exhausted
unfolding listing_of cut_by
returns-in-Exhausted c = rw c.in-Exhausted.is
