-- The byte sets that a rule names: sets by name, and bracketed classes by their members.
-- docs/REFERENCE.md, 5.2, 5.3, 6.4
use Rattle.std.specs.Prelude.{List, [], ◌∷◌, Bool, true, false, not, ◌&&◌, ◌||◌, ℕ, eqb, if◌then◌else◌}
use Rattle.std.proofs.Math.Option.{Option, none, some}
use Prim.Native.String.{String}
use Rattle.charset.specs.declared.Named.{Named}
use Rattle.charset.specs.declared.Named.TheVariants.{Digit, Word, Space, Alpha, Upper, Lower, Alnum, Xdigit, Blank, Cntrl, Ascii, Print, Graph, Punct}
use Rattle.charset.specs.Named.{◌to◌, in_range, in_named}
use Rattle.charset.specs.Cases.{folding}
use Rattle.syntax.specs.Read.{bytes}

infix 70 ◌names◌
-- The names that `[:name:]` takes. `\h` and `\v` have none.
pub data Naming : Type 0 where
  ◌names◌ : String → Named → Naming

unfoldable pub namings : List Naming
namings =
    "digit" names Digit
    ∷ "word" names Word
    ∷ "space" names Space
    ∷ "alpha" names Alpha
    ∷ "upper" names Upper
    ∷ "lower" names Lower
    ∷ "alnum" names Alnum
    ∷ "xdigit" names Xdigit
    ∷ "blank" names Blank
    ∷ "cntrl" names Cntrl
    ∷ "ascii" names Ascii
    ∷ "print" names Print
    ∷ "graph" names Graph
    ∷ "punct" names Punct
    ∷ []

unfoldable pub same_bytes : List ℕ → List ℕ → Bool
same_bytes [] [] = true
same_bytes [] (c ∷ cs) = false
same_bytes (b ∷ bs) [] = false
same_bytes (b ∷ bs) (c ∷ cs) = eqb b c && same_bytes bs cs

unfoldable pub lookup : List Naming → List ℕ → Option Named
lookup [] name = none
lookup (text names set ∷ others) name = if same_bytes name (bytes text) then some set else lookup others name

unfoldable pub set_named : List ℕ → Option Named
set_named name = lookup namings name

-- 01, "Bracketed classes" ----------------------------------------------

pub data Member : Type 0 where
  single : ℕ → Member
  range : ℕ → ℕ → Member  -- from the first to the second, both included
  named : Named → Member
  not_named : Named → Member  -- "complements over all 256 bytes"

-- "A class is a set of 256 marks, one for each byte; `^` first complements it." Every byte item is a class.
pub record Class : Type 0 where
  pub negated : Bool
  pub members : List Member

-- 02, request c): under `i`, where a class is folded, "A to Z and a to z match each other in literals, ranges, references and the sets upper and
-- lower; a negated class or named set is folded first and complemented after". The other sets have both cases of each of their letters.
unfoldable pub is_member : Bool → ℕ → Member → Bool
is_member folded b (single c) = folding folded (λ x. eqb x c) b
is_member folded b (range low high) = folding folded (λ x. in_range x (low to high)) b
is_member folded b (named set) = folding folded (in_named set) b
is_member folded b (not_named set) = not (folding folded (in_named set) b)

unfoldable pub is_any : Bool → ℕ → List Member → Bool
is_any folded b [] = false
is_any folded b (m ∷ ms) = is_member folded b m || is_any folded b ms

unfoldable pub in_class : Bool → Class → ℕ → Bool
in_class folded c b = if c.negated then not (is_any folded b c.members) else is_any folded b c.members

-- a literal, an escape for one byte, or a set's escape
unfoldable pub only : Member → Class
only m = record { negated = false; members = m ∷ [] }

-- `\N`, and `.` without `s`
unfoldable pub not_newline : Class
not_newline = record { negated = true; members = single 0x0A ∷ [] }

-- `.` under `s`
unfoldable pub any_byte : Class
any_byte = record { negated = true; members = [] }
