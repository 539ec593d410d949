-- `with_member` meets its contract: a member that is folded is made by itself and joined, and else, by the variant, the function of byte sets that is
-- called adds what the member has.
use lib.Dec.{eqb}
use Rattle.charset.specs.Named.{in_range, ◌to◌, in_named}
use Rattle.syntax.specs.Sets.{is_member}
use Rattle.escapes.specs.Says.{member_of}
use Rattle.classes.proofs.ClassCases.{joins-folded, adds-plain, adds-complement}
use Rattle.classes.proofs.classes.with_member.Goals as goal

pub returns-then-folded : goal.returns-then-folded
returns-then-folded c = joins-folded _ c.if-folded.true (member_of c.args.m) _ _ _ c.folded_member.ensures c.add_class.ensures

pub returns-in-Single : goal.returns-in-Single
unfolding is_member
returns-in-Single c = rw c.in-Single.is (adds-plain _ c.if-folded.false _ _ (λ x. eqb x _) c.add.ensures)

pub returns-in-Range : goal.returns-in-Range
unfolding is_member
returns-in-Range c = rw c.in-Range.is (adds-plain _ c.if-folded.false _ _ (λ x. in_range x (_ to _)) c.add_range.ensures)

pub returns-in-Set : goal.returns-in-Set
unfolding is_member
returns-in-Set c = rw c.in-Set.is (adds-plain _ c.if-folded.false _ _ (in_named _) c.add_named.ensures)

pub returns-in-NotSet : goal.returns-in-NotSet
unfolding is_member
returns-in-NotSet c = rw c.in-NotSet.is (adds-complement _ c.if-folded.false _ _ (in_named _) c.add_not_named.ensures)
