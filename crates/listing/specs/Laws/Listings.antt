-- A listing's answer is what its call returns.
use Rattle.std.specs.Prelude.{◌≡◌, refl, List, ℕ, Ok}
use Rattle.syntax.specs.Limits.{rule_area_need}
use Rattle.syntax.specs.Tree.{Rule}
use Rattle.syntax.specs.Reading.{names_of}
use Rattle.semantics.specs.NameIndex.{name_index}
use Rattle.semantics.specs.Calls.{Call, work_area_need, over, cleared, leaving, list_rule}
use Rattle.gathering.specs.declared.Listing.{Listing}
use Rattle.frame.specs.Inputs.{Told}
use Rattle.gathering.specs.Listing.{listing_of, Lists}

-- after every listing the areas are clear, and the index is filled
pub list-clears : (c : Call) (x : Rule) → ((list_rule c x).rule_area ≡ cleared rule_area_need c.rule_area) × ((list_rule c x).work_area ≡ cleared (work_area_need c.budget) c.work_area) × ((list_rule c x).names ≡ over (name_index (names_of c.rule c.flags)) c.names)
unfolding list_rule leaving
list-clears c x = (refl, refl, refl)

-- what is told of a rule's listing is what its call returns
pub lists-told : (c : Call) (x : Rule) (o : Listing) (new : List ℕ) → Lists c.subject x c.budget c.result_area new o → Told (list_rule c x) (listing_of (Ok o)) new
unfolding list_rule leaving
lists-told c x o new l = record { outcome_is = l.outcome; result_area_is = l.results }
