-- A rule as a list of bytes, and what reading a part of it gives: a value with the position behind it, or a refusal.
-- docs/REFERENCE.md, 4.1
use Rattle.std.specs.Prelude.{List, [], ◌∷◌, Bool, ◌&&◌, ℕ, Result, Ok, Err, get_or, leb, eqb}
use Prim.Native.Char.{Char, code}
use Prim.Native.String.{String, [] as no_char, ◌∷◌ as char}
use Rattle.syntax.specs.declared.Reason.{Reason}
use Rattle.syntax.specs.declared.Refusal.{Refusal}
use Rattle.syntax.specs.declared.Parsed.{Parsed}

-- the byte at a position, and 256 past the end
unfoldable pub byte : List ℕ → ℕ → ℕ
byte s at = get_or s at 256

-- past the end
unfoldable pub is_end : ℕ → Bool
is_end b = eqb b 256

-- whether b is the byte of an ASCII character
abbrev pub is : Char → ℕ → Bool
is c b = eqb b (code c)

abbrev pub between : Char → Char → ℕ → Bool
between c d b = leb (code c) b && leb b (code d)

-- the bytes of a text in Latin-1: ASCII, and "\u{A0}" for the byte A0
abbrev pub bytes : String → List ℕ
bytes no_char = []
bytes (char c cs) = code c ∷ bytes cs

pub data Read (A : Type 0) : Type 0 where
  sound : A → ℕ → Read A  -- what was read, and the position behind it
  refused : ℕ → Reason → Read A  -- the place, and why

-- reads on behind a sound part: "the first met reading left to right is given"
abbrev pub and_then : {A B : Type 0} → Read A → (A → ℕ → Read B) → Read B
and_then (sound a at) k = k a at
and_then (refused p r) k = refused p r

-- the reading that the code answers: f is what its value stands for
abbrev pub read_of : {A B : Type 0} → (A → B) → Result (Parsed A) Refusal → Read B
read_of f (Ok p) = sound (f p.value) p.next
read_of f (Err r) = refused r.place r.reason
