-- What a call on a rule card answers: which numbers are told, and what is left in what was lent.
-- docs/REFERENCE.md, 18.2
use Rattle.std.specs.Prelude.{◌≡◌, List, ℕ}
use Rattle.card_format.specs.Cards.{CardReturn}

-- the answer's numbers are those of a return, and the rule area and the area that is written into are left as it says
pub record CardAnswered {A : Type 0} (in_numbers : A → List ℕ) (is : CardReturn A) (answer rule_area area : List ℕ) : Type 0 where
  pub answer_is : answer ≡ in_numbers is.outcome
  pub rule_area_is : rule_area ≡ is.rule_area
  pub area_is : area ≡ is.area
