-- States of a derivation: the position in the subject, the captures, and the choices so far; and the priority of choices.
-- docs/REFERENCE.md, 13.1, 13.7, 13.8
use Rattle.std.specs.Prelude.{List, [], ◌∷◌, ◌++◌, ℕ, ◌+◌, ◌<◌, set, replicate}
use Rattle.syntax.specs.declared.Greed.{Greed}
use Rattle.syntax.specs.declared.Greed.TheVariants.{Greedy, Lazy}
use Rattle.syntax.specs.Limits.{unset, spans_length, slot}

-- Choices ---------------------------------------------------------------

-- A choice is made, and recorded, only where two or more are allowed.
pub data Choice : Type 0 where
  branch : ℕ → Choice  -- of an alternation, by its number from 0
  again : Greed → Choice  -- another round of a repeat
  go_on : Greed → Choice  -- going on behind it

-- Of two choices at one point, the one that is tried first: "earlier ones come first", "a round first when greedy, going on first
-- when lazy".
pub data Sooner : Choice → Choice → Type 0 where
  earlier : {i j : ℕ} → i < j → Sooner (branch i) (branch j)
  round_first : Sooner (again Greedy) (go_on Greedy)
  go_on_first : Sooner (go_on Lazy) (again Lazy)

-- Priority. "Derivations from one start are ordered at the first choice in which they differ." No run of choices comes before one
-- that it begins, so that the order is strict.
pub data Before : List Choice → List Choice → Type 0 where
  here : {c d : Choice} {p q : List Choice} → Sooner c d → Before (c ∷ p) (d ∷ q)
  there : {c : Choice} {p q : List Choice} → Before p q → Before (c ∷ p) (c ∷ q)

-- a choice as a number: 0 for going on, 1 for another round, or the branch's number
unfoldable pub code : Choice → ℕ
code (branch i) = i
code (again g) = 1
code (go_on g) = 0

-- States ----------------------------------------------------------------

pub record State : Type 0 where
  pub at : ℕ  -- the position in the subject
  pub spans : List ℕ  -- the captures as a row has them: two numbers for each group
  pub path : List Choice  -- the choices so far, the first one first

-- no group is set and no choice made
unfoldable pub starting : ℕ → State
starting start = record { at = start; spans = replicate spans_length unset; path = [] }

unfoldable pub chose : Choice → State → State
chose c s = record { at = s.at; spans = s.spans; path = s.path ++ (c ∷ []) }

unfoldable pub moved : ℕ → State → State
moved n s = record { at = n; spans = s.spans; path = s.path }

-- "A capturing group's span is set when it closes."
unfoldable pub closed : ℕ → ℕ → State → State
closed group start s = record { at = s.at; spans = set (set s.spans (slot group) start) (slot group + 1) s.at; path = s.path }

-- Readings --------------------------------------------------------------

-- 01 coins "reading": "start, end and every group's span". Its numbers are those of a row.
abbrev pub Row : Type 0
Row = List ℕ

unfoldable pub row : ℕ → State → Row
row start t = start ∷ t.at ∷ t.spans
