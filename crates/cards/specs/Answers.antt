-- What the code answers, and what its parts are lent.
-- docs/REFERENCE.md, 17.2, 17.3, 18.3
use Rattle.std.specs.Prelude.{◌≡◌, List, ℕ, ◌≤◌, Result, Ok, Err, length}
use Rattle.syntax.specs.declared.Refusal.{Refusal}
use Rattle.syntax.specs.Limits.{group_limit}
use Rattle.syntax.specs.Read.{sound, refused}
use Rattle.syntax.specs.Tree.{Rule}
use Rattle.syntax.specs.Reading.{reading}
use Rattle.cards.specs.declared.reading.Card.{Card}
use Rattle.card_format.specs.Cards.{written, CardReturn, WriteOutcome, write_wrote, write_refused, ReadOutcome, read_holds, read_refused}
use Rattle.card_format.specs.CardDemands.{Fitting, card_of}

-- the answer, and what stands in the rule area and in the area that is written into, are those of a return
pub record Returned {A : Type 0} (is : CardReturn A) (told : A) (rule_area area : List ℕ) : Type 0 where
  pub outcome_is : told ≡ is.outcome
  pub rule_area_is : rule_area ≡ is.rule_area
  pub area_is : area ≡ is.area

unfoldable pub written_of : Result ℕ Refusal → WriteOutcome
written_of (Ok n) = write_wrote n
written_of (Err f) = write_refused f.place f.reason

unfoldable pub read_of : Result Card Refusal → ReadOutcome
read_of (Ok k) = read_holds k.size k.flags k.budget k.groups
read_of (Err f) = read_refused f.place f.reason

-- what compiling a rule tells
pub record Counted (rule : List ℕ) (flags groups : ℕ) : Type 0 where
  pub tree : Rule
  pub stop : ℕ
  pub reads : reading rule flags ≡ sound (tree, groups) stop
  pub few : groups ≤ group_limit

abbrev pub Counts : List ℕ → ℕ → Result ℕ Refusal → Type 0
Counts rule flags (Ok n) = Counted rule flags n
Counts rule flags (Err f) = reading rule flags ≡ refused f.place f.reason

-- bytes are a card of these numbers, and its rule can be read
pub record Legible (card : List ℕ) (size flags budget groups : ℕ) (rule_area : List ℕ) : Type 0 where
  pub rule : List ℕ
  pub is : card ≡ written (card_of rule flags budget groups)
  pub sized : length rule ≡ size
  pub fits : Fitting rule flags budget rule_area
