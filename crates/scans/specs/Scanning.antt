-- Successive matches: what the code tells, and what it holds between two searches.
-- docs/REFERENCE.md, 16.4, 18.3
use Rattle.std.specs.Prelude.{◌≡◌, List, Bool, ℕ, ◌-◌, ◌≤◌, Ok, length}
use Rattle.syntax.specs.Tree.{Rule}
use Rattle.semantics.specs.States.{Row}
use Rattle.semantics.specs.Answers.{Ending, complete, full, exhausted_at}
use Rattle.semantics.specs.Scans.{scan}
use Rattle.semantics.specs.Calls.{over, joined, room, list_outcome}
use Rattle.semantics.proofs.Laws.ScanLoops.{ScanAt}
use Rattle.gathering.specs.declared.Listing.{Listing}
use Rattle.gathering.specs.Listing.{listing_of}
use Rattle.noting.specs.Noting.{Holds}
use Rattle.seeking.specs.declared.Sought.{Sought}
use Rattle.seeking.specs.declared.Sought.TheVariants.{Found, Nothing, Spent}

-- the answer is that of successive matches, and their rows stand in the area
pub record Scans (sub : List ℕ) (x : Rule) (budget : ℕ) (old new : List ℕ) (r : Listing) : Type 0 where
  pub outcome : let l = scan sub x budget (room old) in listing_of (Ok r) ≡ list_outcome l.ending (length l.rows) l.steps
  pub results : new ≡ over (joined (scan sub x budget (room old)).rows) old

-- how it ends with a search behind the last row, and that search's steps
unfoldable pub last_of : Sought → Ending
last_of (Found start stop steps) = full
last_of (Nothing steps) = complete
last_of (Spent start steps) = exhausted_at start

unfoldable pub steps_of : Sought → ℕ
steps_of (Found start stop steps) = steps
steps_of (Nothing steps) = steps
steps_of (Spent start steps) = steps

-- before a search, with the rows of those before it in the area, which was `old`
pub record Scanning (sub : List ℕ) (x : Rule) (budget : ℕ) (old area : List ℕ) (rows steps from : ℕ) (barred : Bool) : Type 0 where
  pub found : List Row
  pub at : ScanAt sub x budget (room old) found steps (room old - rows) from barred
  pub fits : length found ≤ room old
  pub holds : Holds found old area rows
