-- What the readers of classes promise: their answers are those of the definitions in `syntax`.
-- docs/REFERENCE.md, 6
use Rattle.std.specs.Prelude.{◌≡◌, List, Bool, Result, Ok, Err, ℕ, ◌<◌}
use Rattle.charset.specs.Class.{has}
use Rattle.syntax.specs.declared.Parsed.{Parsed}
use Rattle.syntax.specs.declared.Refusal.{Refusal}
use Rattle.syntax.specs.Read.{Read, sound, refused}
use Rattle.syntax.specs.Sets.{Member, Class, is_any, in_class}

-- Classes, which are folded or are not.
module _ (folded : Bool) where
  -- the words hold the members of a class
  abbrev pub HoldsMembers : List ℕ → List Member → Type 0
  HoldsMembers words ms = (x : ℕ) → x < 256 → has words x ≡ is_any folded x ms

  -- the reading a of a class's members is what a reader says, whose words hold them
  abbrev pub SaysMembers : Read (List Member) → Result (Parsed (List ℕ)) Refusal → Type 0
  SaysMembers a (Ok p) = (ms : List Member) × (a ≡ sound ms p.next) × HoldsMembers p.value ms
  SaysMembers a (Err r) = a ≡ refused r.place r.reason

  -- the words hold the class c
  abbrev pub HoldsClass : List ℕ → Class → Type 0
  HoldsClass words c = (x : ℕ) → x < 256 → has words x ≡ in_class folded c x

  -- the reading a of a class is what a reader says, whose words hold it
  abbrev pub SaysClass : Read Class → Result (Parsed (List ℕ)) Refusal → Type 0
  SaysClass a (Ok p) = (c : Class) × (a ≡ sound c p.next) × HoldsClass p.value c
  SaysClass a (Err r) = a ≡ refused r.place r.reason
