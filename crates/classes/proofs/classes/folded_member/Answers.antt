-- `folded_member` meets its contract, by the variant: the function of byte sets that it calls makes what the member has, and that is folded.
use mathlib.Core.Path.{ap, ◌∙◌}
use mathlib.Core.Bool.{not}
use lib.Dec.{eqb}
use Rattle.charset.specs.Named.{in_range, ◌to◌, in_named}
use Rattle.syntax.specs.Sets.{is_member}
use Rattle.classes.proofs.ClassCases.{alone-holds, folded-holds}
use Rattle.classes.proofs.classes.folded_member.Goals as goal

pub returns-in-Single : goal.returns-in-Single
unfolding is_member
returns-in-Single c = rw c.in-Single.is (folded-holds _ _ (λ x. eqb x _) (alone-holds _ _ _ c.empty.ensures c.add.ensures) c.fold.ensures)

pub returns-in-Range : goal.returns-in-Range
unfolding is_member
returns-in-Range c = rw c.in-Range.is (folded-holds _ _ (λ x. in_range x (_ to _)) (alone-holds _ _ _ c.empty-in-Range.ensures c.add_range.ensures) c.fold-in-Range.ensures)

pub returns-in-Set : goal.returns-in-Set
unfolding is_member
returns-in-Set c = rw c.in-Set.is (folded-holds _ _ (in_named _) c.class_of.ensures c.fold-in-Set.ensures)

pub returns-in-NotSet : goal.returns-in-NotSet
unfolding is_member
returns-in-NotSet c = rw c.in-NotSet.is (λ x h. c.complement.ensures x h ∙ ap not (folded-holds _ _ (in_named _) c.class_of-class.ensures c.fold-both.ensures x h))
