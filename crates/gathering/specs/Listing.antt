-- What a listing tells, and holds on its way over the starts.
-- docs/REFERENCE.md, 16.3, 18.3
use Rattle.std.specs.Prelude.{◌≡◌, List, [], ℕ, ◌-◌, Result, Ok, Err, length}
use Rattle.syntax.specs.declared.Refusal.{Refusal}
use Rattle.syntax.specs.Tree.{Rule}
use Rattle.semantics.specs.States.{Row}
use Rattle.semantics.specs.Walk.{trace}
use Rattle.semantics.specs.Answers.{listing}
use Rattle.semantics.specs.Calls.{over, joined, room, ListOutcome, list_complete, list_full, list_exhausted, list_refused, list_outcome}
use Rattle.semantics.proofs.Laws.Loops.{ListAt}
use Rattle.gathering.specs.declared.Listing.{Listing}
use Rattle.gathering.specs.declared.Listing.TheVariants.{Complete as Listed·whole, Full as Listed·full, Exhausted}
use Rattle.noting.specs.Noting.{Holds}

-- The answer ------------------------------------------------------------------

-- what the code's answer says
unfoldable pub listing_of : Result Listing Refusal → ListOutcome
listing_of (Ok (Listed·whole rows steps)) = list_complete rows steps
listing_of (Ok (Listed·full rows steps)) = list_full rows steps
listing_of (Ok (Exhausted start rows steps)) = list_exhausted start rows steps
listing_of (Err f) = list_refused f.place f.reason

-- the answer is the listing's, and its rows stand in the area
pub record Lists (sub : List ℕ) (x : Rule) (budget : ℕ) (old new : List ℕ) (r : Listing) : Type 0 where
  pub outcome : let l = listing sub x budget (room old) in listing_of (Ok r) ≡ list_outcome l.ending (length l.rows) l.steps
  pub results : new ≡ over (joined (listing sub x budget (room old)).rows) old

-- All starts ----------------------------------------------------------------------

-- before a start, with the rows and steps of the earlier ones
pub record Between (sub : List ℕ) (x : Rule) (budget : ℕ) (first area : List ℕ) (start rows steps : ℕ) : Type 0 where
  pub old : List Row
  pub listed : ListAt sub x budget (room first) old [] steps start (length sub - start) budget (trace sub x start)
  pub holds : Holds old first area rows
