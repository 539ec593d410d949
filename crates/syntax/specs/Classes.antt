-- Bracketed classes. `from` is the position of the class's `[`, the place of "class not closed"; `strict` says whether the depot profile is asked for.
-- docs/REFERENCE.md, 6
use Rattle.std.specs.Prelude.{List, [], ◌∷◌, Bool, true, false, not, ◌&&◌, ◌||◌, ℕ, zero, suc, ◌+◌, length, drop, leb, if◌then◌else◌}
use Rattle.std.proofs.Math.Option.{Option, none, some}
use Prim.Native.Char.{code}
use Rattle.syntax.specs.declared.Reason.TheVariants.{UnclosedClass, BadRange, UnknownSet, MixedRange}
use Rattle.syntax.specs.Read.{byte, is_end, is, between, Read, sound, refused, and_then}
use Rattle.charset.specs.declared.Named.{Named}
use Rattle.charset.specs.declared.Named.TheVariants.{Digit, Upper, Lower}
use Rattle.charset.specs.Named.{in_named}
use Rattle.syntax.specs.Sets.{set_named, Member, single, range, named, not_named, Class}
use Rattle.syntax.specs.Numbers.{run}
use Rattle.syntax.specs.Escapes.{class_escape}

-- "lower-case letters (maybe none)"
unfoldable pub letters : List ℕ → ℕ → List ℕ
letters s at = run (between "a" "z") (drop at s)

unfoldable pub posix_member : ℕ → Bool → Option Named → ℕ → Read Member
posix_member at negated none next = refused at UnknownSet
posix_member at true (some n) next = sound (not_named n) next
posix_member at false (some n) next = sound (named n) next

-- letters and `:]` make a named set; "any other `[` is literal"
unfoldable pub posix_name : List ℕ → ℕ → Bool → ℕ → Read Member
posix_name s at negated start =
    let name = letters s start in
    let next = start + length name in
    if is ":" (byte s next) && is "]" (byte s (next + 1)) then posix_member at negated (set_named name) (next + 2)
    else sound (single (code "[")) (at + 1)

-- "`[:`, an optional `^` (the complement)"
unfoldable pub posix : List ℕ → ℕ → Read Member
posix s at =
    if not (is ":" (byte s (at + 1))) then sound (single (code "[")) (at + 1)
    else if is "^" (byte s (at + 2)) then posix_name s at true (at + 3)
    else posix_name s at false (at + 2)

-- a byte or a set, as a member or as a range's end
unfoldable pub element : List ℕ → ℕ → ℕ → Read Member
element s from at =
    let b = byte s at in
    if is_end b then refused from UnclosedClass
    else if is "\\" b then class_escape s at
    else if is "[" b then posix s at
    else sound (single b) (at + 1)

unfoldable pub range_end : Member → Option ℕ
range_end (single b) = some b
range_end (range low high) = none
range_end (named n) = none
range_end (not_named n) = none

-- "both digits, both upper or both lower letters", whichever way the two bytes are written
unfoldable pub alike : ℕ → ℕ → Bool
alike a b = (in_named Digit a && in_named Digit b) || (in_named Upper a && in_named Upper b) || (in_named Lower a && in_named Lower b)

-- "A range whose low end exceeds its high end, or with a set at either end, is refused": its place is its first byte's. 02, request k): "no range
-- whose ends aren't" alike, "29 is met left to right, after 15 on the same byte".
unfoldable pub range_of : Bool → ℕ → Option ℕ → Option ℕ → ℕ → Read Member
range_of strict at none high next = refused at BadRange
range_of strict at (some a) none next = refused at BadRange
range_of strict at (some a) (some b) next =
    if not (leb a b) then refused at BadRange
    else if strict && not (alike a b) then refused at MixedRange
    else sound (range a b) next

-- whether a `-` behind an element makes a range: it does unless it is last
unfoldable pub makes_range : List ℕ → ℕ → Bool
makes_range s at = is "-" (byte s at) && not (is "]" (byte s (at + 1)))

-- One element or one range. A `-` that is first, last or right after a range is read as an element here. A range is refused
-- "once both its ends have been read soundly".
unfoldable pub member : List ℕ → Bool → ℕ → ℕ → Read Member
member s strict from at = and_then (element s from at) (λ low next.
    if makes_range s next then and_then (element s from (next + 1)) (λ high after. range_of strict at (range_end low) (range_end high) after)
    else sound low next)

-- The members up to the closing `]`, the latest first. "`]` first (or just after that `^`) is literal." Each member takes a byte
-- or more: the first number bounds them.
unfoldable pub members : ℕ → List ℕ → Bool → ℕ → Bool → List Member → ℕ → Read (List Member)
members zero s strict from first before at = refused from UnclosedClass
members (suc f) s strict from first before at =
    if is "]" (byte s at) && not first then sound before (at + 1)
    else and_then (member s strict from at) (λ m next. members f s strict from false (m ∷ before) next)

unfoldable pub class : List ℕ → Bool → ℕ → Read Class
class s strict from =
    if is "^" (byte s (from + 1)) then and_then (members (length s) s strict from true [] (from + 2)) (λ ms next. sound (record { negated = true; members = ms }) next)
    else and_then (members (length s) s strict from true [] (from + 1)) (λ ms next. sound (record { negated = false; members = ms }) next)
