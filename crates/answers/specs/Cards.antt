-- What is told of a rule card, in the numbers that `include/terravisco.h` names: six for one that is written, nine for one that is read.
-- docs/REFERENCE.md, 18.2
use Rattle.std.specs.Prelude.{List, [], ◌∷◌, ◌++◌, ℕ}
use Rattle.card_format.specs.Cards.{WriteOutcome, write_wrote, write_refused, ReadOutcome, read_holds, read_refused}
use Rattle.answers.specs.Answers.{numbers, refusal_numbers}

-- "Kind: 0 written, 3 refused; [5] bytes written"
unfoldable pub write_numbers : WriteOutcome → List ℕ
write_numbers (write_wrote n) = numbers 0 0 0 0 n
write_numbers (write_refused place why) = refusal_numbers place why

-- "Kind: 0 read, 3 refused; [5] the rule's length, [6] flags, [7] budget, [8] groups", 0 if refused
unfoldable pub read_numbers : ReadOutcome → List ℕ
read_numbers (read_holds size flags budget groups) = numbers 0 0 0 0 size ++ (flags ∷ budget ∷ groups ∷ [])
read_numbers (read_refused place why) = refusal_numbers place why ++ (0 ∷ 0 ∷ 0 ∷ [])
