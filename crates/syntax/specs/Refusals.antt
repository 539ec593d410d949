-- 01, "Refusal numbers", and those that 02 adds.
-- docs/REFERENCE.md, 10.1
use Rattle.std.specs.Prelude.{ℕ}
use Rattle.syntax.specs.declared.Reason.{Reason}
use Rattle.syntax.specs.declared.Reason.TheVariants.{RuleTooLong, SubjectTooLong, UnknownFlag, BudgetTooLarge, RuleAreaShort, WorkAreaShort, ResultAreaShort, NameIndexShort, WrittenAreaShort, TrailingBackslash, UnknownEscape, MalformedEscape, NoSuchGroup, UnclosedClass, BadRange, UnknownSet, NothingToRepeat, BadBraces, RepeatOnRepeat, UnclosedGroup, UnopenedGroup, UnknownGroup, TooManyGroups, TooDeep, BadName, NameTwice, BarredReference, IdleRepeat, MixedRange, UnknownKind, CardCutShort, WrongRecords, StrayBytes, WrongGroupNumber, HeldOrLook, TooManyBranches}

abbrev pub number_of : Reason → ℕ
-- of a call, before its rule is read
number_of RuleTooLong = 1
number_of SubjectTooLong = 2
number_of UnknownFlag = 3
number_of BudgetTooLarge = 4
number_of RuleAreaShort = 5
number_of WorkAreaShort = 6
number_of ResultAreaShort = 7
number_of NameIndexShort = 8
number_of WrittenAreaShort = 9
-- of a rule
number_of TrailingBackslash = 10
number_of UnknownEscape = 11
number_of MalformedEscape = 12
number_of NoSuchGroup = 13
number_of UnclosedClass = 14
number_of BadRange = 15
number_of UnknownSet = 16
number_of NothingToRepeat = 17
number_of BadBraces = 18
number_of RepeatOnRepeat = 19
number_of UnclosedGroup = 20
number_of UnopenedGroup = 21
number_of UnknownGroup = 22
number_of TooManyGroups = 23
number_of TooDeep = 24
number_of BadName = 25
number_of NameTwice = 26
-- of a rule under the depot profile
number_of BarredReference = 27
number_of IdleRepeat = 28
number_of MixedRange = 29
-- of a card
number_of UnknownKind = 30
number_of CardCutShort = 31
number_of WrongRecords = 32
number_of StrayBytes = 33
number_of WrongGroupNumber = 34
-- of a rule that a proposed reading is checked with
number_of HeldOrLook = 35
number_of TooManyBranches = 36
