-- Escapes. `at` is the backslash's position, and the place of every refusal.
-- docs/REFERENCE.md, 7
use Rattle.std.specs.Prelude.{List, [], ◌∷◌, Bool, not, ◌&&◌, ◌||◌, ℕ, ◌+◌, ◌-◌, ◌/◌, ◌%◌, length, take, leb, eqb, if◌then◌else◌}
use Prim.Native.Char.{Char}
use Rattle.syntax.specs.declared.Assertion.TheVariants.{TextStart, TextEnd, LastLineEnd, WordBoundary, NoWordBoundary}
use Rattle.syntax.specs.declared.Reason.TheVariants.{TrailingBackslash, UnknownEscape, MalformedEscape, BadName}
use Rattle.syntax.specs.Limits.{group_limit, byte_limit}
use Rattle.syntax.specs.Read.{byte, is_end, is, between, Read, sound, refused, and_then}
use Rattle.charset.specs.declared.Named.TheVariants.{Digit, Word, Space, Horizontal, Vertical}
use Rattle.charset.specs.Named.{in_named}
use Rattle.syntax.specs.Sets.{Member, single, named, not_named, only, not_newline}
use Rattle.syntax.specs.Tree.{Item, byte_in, assert, reference}
use Rattle.syntax.specs.Numbers.{digits, value, is_none}
use Rattle.syntax.specs.Names.{Name, Names, name_up_to, group_called}

infix 70 ◌means◌
-- Escapes for a byte by its number -------------------------------------

-- "a value up to 255"
unfoldable pub byte_of : ℕ → ℕ → ℕ → Read Member
byte_of at v next = if leb v byte_limit then sound (single v) next else refused at MalformedEscape

-- "`\x{..}` and `\o{..}` take one or more digits": those from a position on, behind the brace
unfoldable pub braced : ℕ → List ℕ → ℕ → ℕ → Read Member
braced base s at from =
    let ds = digits base s from in
    if is_none ds then refused at MalformedEscape
    else if is "}" (byte s (from + length ds)) then byte_of at (value base ds) (from + length ds + 1)
    else refused at MalformedEscape

-- "`\x` takes exactly two hex digits"
unfoldable pub hex : List ℕ → ℕ → Read Member
hex s at =
    let ds = take 2 (digits 16 s (at + 2)) in
    if is "{" (byte s (at + 2)) then braced 16 s at (at + 3)
    else if eqb (length ds) 2 then byte_of at (value 16 ds) (at + 4)
    else refused at MalformedEscape

unfoldable pub braced_octal : List ℕ → ℕ → Read Member
braced_octal s at = if is "{" (byte s (at + 2)) then braced 8 s at (at + 3) else refused at MalformedEscape

-- "`\0` takes up to two more octal digits. In a class, `\0` to `\7` begin one to three octal digits, at most 255."
unfoldable pub octal : List ℕ → ℕ → Read Member
octal s at =
    let ds = take 3 (digits 8 s (at + 1)) in
    byte_of at (value 8 ds) (at + 1 + length ds)

-- "that byte with the bit worth 64 flipped"
unfoldable pub flip64 : ℕ → ℕ
flip64 b = if eqb (b / 64 % 2) 1 then b - 64 else b + 64

-- "`\c` takes a letter (upper case is meant) or one of `@ [ ] ^ _ ?`": these and the upper case letters are 3F, 40 to 5B and 5D to 5F
unfoldable pub control : List ℕ → ℕ → Read Member
control s at =
    let b = byte s (at + 2) in
    if between "a" "z" b then sound (single (flip64 (b - 32))) (at + 3)
    else if between "A" "Z" b then sound (single (flip64 b)) (at + 3)
    else if is "@" b || is "[" b || is "]" b || is "^" b || is "_" b || is "?" b then sound (single (flip64 b)) (at + 3)
    else refused at MalformedEscape

-- Escapes of one letter -------------------------------------------------

pub data Meaning : Type 0 where
  ◌means◌ : Char → Member → Meaning

unfoldable pub meanings : List Meaning
meanings =
    "a" means single 0x07
    ∷ "e" means single 0x1B
    ∷ "f" means single 0x0C
    ∷ "n" means single 0x0A
    ∷ "r" means single 0x0D
    ∷ "t" means single 0x09
    ∷ "d" means named Digit
    ∷ "w" means named Word
    ∷ "s" means named Space
    ∷ "h" means named Horizontal
    ∷ "v" means named Vertical
    ∷ "D" means not_named Digit
    ∷ "W" means not_named Word
    ∷ "S" means not_named Space
    ∷ "H" means not_named Horizontal
    ∷ "V" means not_named Vertical
    ∷ []

-- "Every other escape is refused"
unfoldable pub letter : List Meaning → ℕ → ℕ → Read Member
letter [] at b = refused at UnknownEscape
letter (c means m ∷ others) at b = if is c b then sound m (at + 2) else letter others at b

-- The escapes that mean the same in a class and outside. "A backslash before a byte that is no ASCII letter, digit or
-- underscore makes that byte literal": these are the word bytes.
unfoldable pub common : List ℕ → ℕ → Read Member
common s at =
    let b = byte s (at + 1) in
    if is_end b then refused at TrailingBackslash
    else if not (in_named Word b) then sound (single b) (at + 2)
    else if is "x" b then hex s at
    else if is "o" b then braced_octal s at
    else if is "c" b then control s at
    else letter meanings at b

-- In a class --------------------------------------------------------------

-- "`\b` here is 08"
unfoldable pub class_escape : List ℕ → ℕ → Read Member
class_escape s at =
    let b = byte s (at + 1) in
    if is "b" b then sound (single 0x08) (at + 2)
    else if between "0" "7" b then octal s at
    else common s at

-- Outside a class, where so many groups have been opened ------------------

-- the group that N names: no rule has one above the limit, and 0 stands for "no such group"
unfoldable pub forward : ℕ → ℕ
forward n = if leb n group_limit then n else 0

-- "-N counts back from the groups opened so far, -1 being the latest"; the difference is 0 where N is too great
unfoldable pub backward : ℕ → ℕ → ℕ
backward opened n = if eqb n 0 then 0 else opened + 1 - n

-- "the whole run of decimal digits"
unfoldable pub decimal : List ℕ → ℕ → ℕ → Read ℕ
decimal s at from =
    let ds = digits 10 s from in
    if is_none ds then refused at MalformedEscape else sound (value 10 ds) (from + length ds)

-- N or -N
unfoldable pub signed : List ℕ → ℕ → ℕ → ℕ → Read ℕ
signed s opened at from =
    if is "-" (byte s from) then and_then (decimal s at (from + 1)) (λ n next. sound (backward opened n) next)
    else and_then (decimal s at from) (λ n next. sound (forward n) next)

-- "`\gN`, `\g{N}`, `\g-N`, `\g{-N}`"
unfoldable pub group_number : List ℕ → ℕ → ℕ → Read ℕ
group_number s opened at =
    if is "{" (byte s (at + 2))
    then and_then (signed s opened at (at + 3)) (λ n next. if is "}" (byte s next) then sound n (next + 1) else refused at MalformedEscape)
    else signed s opened at (at + 2)

-- "`\k{litres}`, `\k<litres>` and `\k'litres'`"; every other form is a name ill-formed
unfoldable pub called : List ℕ → ℕ → Read Name
called s at =
    let b = byte s (at + 2) in
    if is "{" b then name_up_to "}" s at (at + 3)
    else if is "<" b then name_up_to ">" s at (at + 3)
    else if is "'" b then name_up_to "'" s at (at + 3)
    else refused at BadName

-- "12 spares `\g{` before a letter or underscore"
unfoldable pub calls_by_name : List ℕ → ℕ → Bool
calls_by_name s at = is "{" (byte s (at + 2)) && in_named Word (byte s (at + 3)) && not (in_named Digit (byte s (at + 3)))

-- Folded or not. `known` are the names of the whole rule, since a reference may stand before its group.
unfoldable pub escape : List ℕ → Bool → Names → ℕ → ℕ → Read Item
escape s folded known opened at =
    let b = byte s (at + 1) in
    if is "N" b then sound (byte_in folded not_newline) (at + 2)
    else if is "A" b then sound (assert TextStart) (at + 2)
    else if is "z" b then sound (assert TextEnd) (at + 2)
    else if is "Z" b then sound (assert LastLineEnd) (at + 2)
    else if is "b" b then sound (assert WordBoundary) (at + 2)
    else if is "B" b then sound (assert NoWordBoundary) (at + 2)
    else if is "0" b then and_then (octal s at) (λ m next. sound (byte_in folded (only m)) next)
    else if between "1" "9" b then and_then (decimal s at (at + 1)) (λ n next. sound (reference folded (forward n)) next)
    else if is "k" b then and_then (called s at) (λ n next. sound (reference folded (group_called n known)) next)
    else if is "g" b && calls_by_name s at then and_then (name_up_to "}" s at (at + 3)) (λ n next. sound (reference folded (group_called n known)) next)
    else if is "g" b then and_then (group_number s opened at) (λ n next. sound (reference folded n) next)
    else and_then (common s at) (λ m next. sound (byte_in folded (only m)) next)
