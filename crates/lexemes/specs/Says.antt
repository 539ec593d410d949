-- What the readers of bytes, numbers and names promise: their answers are those of the definitions in `syntax`.
-- docs/REFERENCE.md, 4, 7.5, 8.1, 9.3
use Rattle.std.specs.Prelude.{◌≡◌, List, Option, Result, Ok, Err, ℕ, ◌+◌, ◌-◌, ◌*◌, ◌≤◌, ◌<◌, length, ltb, if◌then◌else◌, MatchOption}
use Prim.Native.Char.{Char, code}
use Rattle.std.proofs.Math.Seq.{slice}
use Rattle.syntax.specs.Limits.{name_limit}
use Rattle.syntax.specs.Read.{byte, Read, sound, refused}
use Rattle.syntax.specs.declared.Parsed.{Parsed}
use Rattle.syntax.specs.declared.Refusal.{Refusal}
use Rattle.syntax.specs.Numbers.{digit_value, digits, value}
use Rattle.syntax.specs.Names.{Name, name_up_to}
use Rattle.lexemes.specs.declared.Name.{Name as NameAt}

-- r is the byte at a position, or 256 past the end; `near` says linearly that a byte below 256 stands within the rule
pub record Peeked (s : List ℕ) (at r : ℕ) : Type 0 where
  pub is : r ≡ byte s at
  pub most : r ≤ 256
  pub near : 256 ≤ 258 * (length s - at) + r

-- r is what the byte at a position stands for, if it is a digit of the base
abbrev pub IsDigitAt : (base : ℕ) → List ℕ → (at : ℕ) → Option ℕ → Type 0
IsDigitAt base s at r = MatchOption r (base ≤ digit_value (byte s at)) (λ d. (d ≡ digit_value (byte s at)) × (d < base))

-- 1000 stands for every number over 999: no limit of the definitions is as high
unfoldable pub capped : ℕ → ℕ
capped n = if ltb n 1000 then n else 1000

-- the run of digits at a position
pub record Counts (base : ℕ) (s : List ℕ) (at : ℕ) (r : Parsed ℕ) : Type 0 where
  pub next : r.next ≡ at + length (digits base s at)
  pub value : r.value ≡ capped (value base (digits base s at))
  pub within : r.next ≤ length s

-- a name that is told by its position and its length stands within the rule, and so does what closes it
pub record NameWithin (s : List ℕ) (from len next : ℕ) : Type 0 where
  pub some : 1 ≤ len
  pub most : len ≤ name_limit
  pub closed : from + len < length s
  pub behind : next ≡ from + len + 1

-- the reading a of a group's name is what a reader says
abbrev pub SaysName : List ℕ → Read Name → Result (Parsed NameAt) Refusal → Type 0
SaysName s a (Ok p) = (a ≡ sound (slice p.value.from (p.value.from + p.value.len) s) p.next) × NameWithin s p.value.from p.value.len p.next
SaysName s a (Err r) = a ≡ refused r.place r.reason

-- the name at a position, up to a character that is told by its byte, is what a reader says
abbrev pub SaysNameUpTo : ℕ → List ℕ → (place at : ℕ) → Result (Parsed NameAt) Refusal → Type 0
SaysNameUpTo closer s place at r = (c : Char) → code c ≡ closer → SaysName s (name_up_to c s place at) r
