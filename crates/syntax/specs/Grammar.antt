-- The grammar of rules: items, sequences, alternations and groups, read by recursion on the nesting depth.
-- docs/REFERENCE.md, 4.2 to 4.4, 8.2, 9
use Rattle.std.specs.Prelude.{List, [], ◌∷◌, Bool, true, false, not, ◌&&◌, ◌||◌, ℕ, zero, suc, ◌+◌, ◌-◌, length, drop, ltb, eqb, if◌then◌else◌}
use Rattle.syntax.specs.declared.Assertion.TheVariants.{TextStart, LineStart, LastLineEnd, LineEnd}
use Rattle.syntax.specs.declared.Form.{Form}
use Rattle.syntax.specs.declared.Form.TheVariants.{Grouped, Captured, Held, Ahead, NotAhead}
use Rattle.syntax.specs.declared.Greed.{Greed}
use Rattle.syntax.specs.declared.Most.{Most}
use Rattle.syntax.specs.declared.Quantifier.{Quantifier}
use Rattle.syntax.specs.declared.Quantifier.TheVariants.{Absent, Stray, Unfit, Times}
use Rattle.syntax.specs.declared.Reason.TheVariants.{NothingToRepeat, BadBraces, RepeatOnRepeat, UnclosedGroup, UnknownGroup, TooManyGroups, TooDeep}
use Rattle.syntax.specs.Limits.{group_limit}
use Rattle.charset.specs.declared.Named.TheVariants.{Space}
use Rattle.charset.specs.Named.{in_named}
use Rattle.syntax.specs.Read.{byte, is_end, is, Read, sound, refused, and_then}
use Rattle.syntax.specs.Sets.{single, only, not_newline, any_byte}
use Rattle.syntax.specs.Tree.{Item, byte_in, assert, reference, Rule, empty, item, seq, repeat, Branches, one, also, alternatives, enclosed, possessive, line_break}
use Rattle.syntax.specs.Flags.{dot_all, multiline, ignore_case, extended, depot}
use Rattle.syntax.specs.Names.{Name, Names, name_up_to, fresh}
use Rattle.syntax.specs.Escapes.{escape}
use Rattle.syntax.specs.Classes.{class}
use Rattle.syntax.specs.Quantifiers.{quantifier}

-- Blanks --------------------------------------------------------------------

-- "bytes 09 to 0D and 20", which are the set space, "and `#` up to the line's end, are skipped": how many of the bytes at the beginning of a list
-- are, within a comment or not. A line ends at 0A.
unfoldable pub skipped : Bool → List ℕ → ℕ
skipped comment [] = 0
skipped true (b ∷ bs) = suc (skipped (not (eqb b 0x0A)) bs)
skipped false (b ∷ bs) = if in_named Space b then suc (skipped false bs) else if is "#" b then suc (skipped true bs) else 0

-- the position behind what is skipped from a position on, under `x`
unfoldable pub behind_blanks : List ℕ → ℕ → ℕ → ℕ
behind_blanks s flags at = if extended flags then at + skipped false (drop at s) else at

-- Single items ------------------------------------------------------------

-- An item that is no group. "Outside a class `]` and `}` stand for themselves", as every byte does that has no other meaning.
unfoldable pub atom : List ℕ → ℕ → Names → ℕ → ℕ → Read Item
atom s flags known opened at =
    let b = byte s at in
    let folded = ignore_case flags in
    if is "\\" b then escape s folded known opened at
    else if is "[" b then and_then (class s (depot flags) at) (λ c next. sound (byte_in folded c) next)
    else if is "." b then sound (byte_in folded (if dot_all flags then any_byte else not_newline)) (at + 1)
    else if is "^" b then sound (assert (if multiline flags then LineStart else TextStart)) (at + 1)
    else if is "$" b then sound (assert (if multiline flags then LineEnd else LastLineEnd)) (at + 1)
    else sound (byte_in folded (only (single b))) (at + 1)

-- Groups --------------------------------------------------------------------

-- What reads the inside of a group: the place of its opening, and the reading of its head, which gives the names of the groups then opened, and the
-- position to read from. It gives the tree, and the names of the groups opened up to its end.
abbrev pub Inner : Type 0
Inner = ℕ → Read Names → Read (Rule × Names)

-- "20 bracket not closed .. met at the rule's end .. with the (innermost) opening's place"
unfoldable pub closing : List ℕ → ℕ → Rule → Names → ℕ → Read (Rule × Names)
closing s opening t names at = if is ")" (byte s at) then sound (t, names) (at + 1) else refused opening UnclosedGroup

-- a group that captures, with the reading of its name
unfoldable pub capturing : List ℕ → Inner → ℕ → Names → Read Name → Read (Rule × Names)
capturing s inner opening names name =
    if ltb (length names) group_limit
    then and_then (inner opening (and_then name (λ n at. sound (n ∷ names) at))) (λ r at. closing s opening (enclosed (Captured (suc (length names))) opening r.0) r.1 at)
    else refused opening TooManyGroups

-- one that does not, whose inside begins behind three bytes
unfoldable pub uncaptured : List ℕ → Inner → ℕ → Names → Form → Read (Rule × Names)
uncaptured s inner opening names form = and_then (inner opening (sound names (opening + 3))) (λ r at. closing s opening (enclosed form opening r.0) r.1 at)

-- `( )`, `(?: )` and 02's `(?<litres> )`, `(?>..)`, `(?=..)` and `(?!..)`; of 22 to 26 "on one byte the lower number": 24 is given by what reads the inside,
-- before the name is looked at
unfoldable pub grouped : List ℕ → Inner → ℕ → Names → Read (Rule × Names)
grouped s inner opening names =
    let b = byte s (opening + 2) in
    if not (is "?" (byte s (opening + 1))) then capturing s inner opening names (sound [] (opening + 1))
    else if is ":" b then uncaptured s inner opening names Grouped
    else if is ">" b then uncaptured s inner opening names Held
    else if is "=" b then uncaptured s inner opening names Ahead
    else if is "!" b then uncaptured s inner opening names NotAhead
    else if is "<" b then capturing s inner opening names (fresh opening names (name_up_to ">" s opening (opening + 3)))
    else refused opening UnknownGroup

-- Sequences -----------------------------------------------------------------

-- what has been read of a sequence, by what a repeat would find
pub data Sequence : Type 0 where
  unrepeatable : Rule → Sequence  -- nothing yet, or a place last
  repeatable : Rule → Rule → Sequence  -- what stands before the last item, and that
  repeated : Rule → Sequence  -- a repeat last

unfoldable pub whole : Sequence → Rule
whole (unrepeatable t) = t
whole (repeatable before last) = seq before last
whole (repeated t) = t

unfoldable pub with_item : Sequence → ℕ → Item → Sequence
with_item q at (byte_in folded c) = repeatable (whole q) (item at (byte_in folded c))
with_item q at (assert a) = unrepeatable (seq (whole q) (item at (assert a)))
with_item q at (reference folded n) = repeatable (whole q) (item at (reference folded n))

-- "17 a well-formed repeat with nothing to repeat", 18 for its bounds, "19 a repeat on a repeat"; "on one byte the lower number"
unfoldable pub unfit_for : Sequence → ℕ → Read (Sequence × Names)
unfit_for (unrepeatable t) at = refused at NothingToRepeat
unfit_for (repeatable before last) at = refused at BadBraces
unfit_for (repeated t) at = refused at BadBraces

-- a possessive repeat ends with its `+`
unfoldable pub repeating : Sequence → ℕ → ℕ → Most → Greed → Bool → Names → ℕ → Read (Sequence × Names)
repeating (unrepeatable t) at n m g keeps names next = refused at NothingToRepeat
repeating (repeatable before last) at n m g keeps names next = sound (repeated (seq before (possessive keeps (next - 1) (repeat at n m g last))), names) next
repeating (repeated t) at n m g keeps names next = refused at RepeatOnRepeat

-- `\R`, which is no byte item, stands here outside classes; in a class it is an escape not held
unfoldable pub breaks_line : List ℕ → ℕ → Bool
breaks_line s at = is "\\" (byte s at) && is "R" (byte s (at + 1))

unfoldable pub next_item : List ℕ → ℕ → Names → Inner → Sequence → Names → ℕ → Read (Sequence × Names)
next_item s flags known inner q names at =
    if is "(" (byte s at) then and_then (grouped s inner at names) (λ r next. sound (repeatable (whole q) r.0, r.1) next)
    else if breaks_line s at then sound (repeatable (whole q) (line_break at), names) (at + 2)
    else and_then (atom s flags known (length names) at) (λ i next. sound (with_item q at i, names) next)

-- one part of a sequence: an item, or a repeat of the item before it
unfoldable pub part : List ℕ → ℕ → Names → Inner → Sequence → Names → ℕ → Quantifier → Read (Sequence × Names)
part s flags known inner q names at Absent = next_item s flags known inner q names at
part s flags known inner q names at Stray = refused at BadBraces
part s flags known inner q names at Unfit = unfit_for q at
part s flags known inner q names at (Times n m g keeps next) = repeating q at n m g keeps names next

-- a sequence ends at a bar, at a closing bracket and at the rule's end
unfoldable pub ends : ℕ → Bool
ends b = is "|" b || is ")" b || is_end b

-- The parts as long as there are any. Each takes a byte or more: the first number bounds them. 02: blanks are skipped "outside classes, also between an
-- item and its repeat, but not inside an escape, a repeat (`a* ?` is 19) or a group's opening", which is before each part, and before the end.
unfoldable pub sequence : ℕ → List ℕ → ℕ → Names → Inner → Sequence → Names → ℕ → Read (Rule × Names)
sequence zero s flags known inner q names from = sound (whole q, names) from
sequence (suc f) s flags known inner q names from =
    let at = behind_blanks s flags from in
    if ends (byte s at) then sound (whole q, names) at
    else and_then (part s flags known inner q names at (quantifier s at)) (λ r next. sequence f s flags known inner r.0 r.1 next)

-- a branch, "which may be empty"
unfoldable pub branch : List ℕ → ℕ → Names → Inner → Names → ℕ → Read (Rule × Names)
branch s flags known inner names at = sequence (length s) s flags known inner (unrepeatable empty) names at

-- Alternations --------------------------------------------------------------

-- the further branches as long as a bar follows; the first number bounds them
unfoldable pub further : ℕ → List ℕ → ℕ → Names → Inner → Branches → Names → ℕ → Read (Rule × Names)
further zero s flags known inner bs names at = sound (alternatives bs, names) at
further (suc f) s flags known inner bs names at =
    if is "|" (byte s at) then and_then (branch s flags known inner names (at + 1)) (λ r next. further f s flags known inner (also bs at r.0) r.1 next)
    else sound (alternatives bs, names) at

unfoldable pub alternation : List ℕ → ℕ → Names → Inner → Names → ℕ → Read (Rule × Names)
alternation s flags known inner names at = and_then (branch s flags known inner names at) (λ r next. further (length s) s flags known inner (one r.0) r.1 next)

-- "groups nest at most 24 deep, all kinds counted; this one is the 25th": the inside of a group where so many more may nest
unfoldable pub inside : ℕ → List ℕ → ℕ → Names → Inner
inside zero s flags known opening head = refused opening TooDeep
inside (suc d) s flags known opening head = and_then head (λ names at. alternation s flags known (inside d s flags known) names at)
