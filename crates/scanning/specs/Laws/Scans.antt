-- What successive matches tell is what their call returns.
use Rattle.std.specs.Prelude.{◌≡◌, refl, List, ℕ, Ok}
use Rattle.syntax.specs.Limits.{rule_area_need}
use Rattle.syntax.specs.Tree.{Rule}
use Rattle.syntax.specs.Reading.{names_of}
use Rattle.semantics.specs.NameIndex.{name_index}
use Rattle.semantics.specs.Calls.{Call, work_area_need, over, cleared, leaving, scan_rule}
use Rattle.gathering.specs.declared.Listing.{Listing}
use Rattle.frame.specs.Inputs.{Told}
use Rattle.gathering.specs.Listing.{listing_of}
use Rattle.scans.specs.Scanning.{Scans}

-- after every answer the areas are clear, and the index is filled
pub scan-clears : (c : Call) (x : Rule) → ((scan_rule c x).rule_area ≡ cleared rule_area_need c.rule_area) × ((scan_rule c x).work_area ≡ cleared (work_area_need c.budget) c.work_area) × ((scan_rule c x).names ≡ over (name_index (names_of c.rule c.flags)) c.names)
unfolding scan_rule leaving
scan-clears c x = (refl, refl, refl)

-- what is told of a rule's matches is what its call returns
pub scans-told : (c : Call) (x : Rule) (o : Listing) (new : List ℕ) → Scans c.subject x c.budget c.result_area new o → Told (scan_rule c x) (listing_of (Ok o)) new
unfolding scan_rule leaving
scans-told c x o new l = record { outcome_is = l.outcome; result_area_is = l.results }
