-- What a call of the C interface answers: a field as three numbers, and of the other calls which numbers are told, and what is left in what was lent.
-- docs/REFERENCE.md, 18.2
use Rattle.std.specs.Prelude.{◌≡◌, List, [], ◌∷◌, ℕ}
use Rattle.semantics.specs.Calls.{Return}
use Rattle.lookup.specs.declared.Found.{Found}
use Rattle.lookup.specs.declared.Found.TheVariants.{Taken, Standing, Nothing}

-- "field: [0] 0 the line or 1 the standing text, [1] from, [2] to", of a standing text with so many bytes
unfoldable pub field_numbers : (standing : ℕ) → Found → List ℕ
field_numbers standing (Taken from to) = 0 ∷ from ∷ to ∷ []
field_numbers standing Standing = 1 ∷ 0 ∷ standing ∷ []
field_numbers standing Nothing = 1 ∷ 0 ∷ 0 ∷ []

-- the answer's numbers are those of a return, and the areas and the name index are left as it says
pub record Answered {A : Type 0} (in_numbers : A → List ℕ) (is : Return A) (answer rule_area work_area result_area names : List ℕ) : Type 0 where
  pub answer_is : answer ≡ in_numbers is.outcome
  pub rule_area_is : rule_area ≡ is.rule_area
  pub work_area_is : work_area ≡ is.work_area
  pub result_area_is : result_area ≡ is.result_area
  pub names_is : names ≡ is.names
