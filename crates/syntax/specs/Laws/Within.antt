-- Every sound reading of a part ends within the rule.
use Rattle.std.specs.Prelude.{◌≡◌, List, [], ◌∷◌, Bool, true, false, not, ◌&&◌, ◌||◌, ℕ, zero, suc, ◌+◌, ◌-◌, ◌≤◌, ◌<◌, length, take, drop, ltb, leb, eqb, if◌then◌else◌}
use Rattle.std.proofs.Common.{sym, ◌∙◌, arith, length-take, length-drop, eqb-true, leb-true}
use Rattle.std.proofs.Math.Option.{Option, none, some}
use Prim.Native.Char.{Char, code}
use Rattle.std.proofs.Math.Decide.{dec_lt}
use Rattle.std.proofs.lemmas.Bool.{eqb-false}
use Rattle.syntax.specs.declared.Form.{Form}
use Rattle.syntax.specs.declared.Form.TheVariants.{Grouped, Captured, Held, Ahead, NotAhead}
use Rattle.syntax.specs.declared.Greed.{Greed}
use Rattle.syntax.specs.declared.Most.{Most}
use Rattle.syntax.specs.declared.Most.TheVariants.{AtMost, Unlimited}
use Rattle.syntax.specs.declared.Quantifier.{Quantifier}
use Rattle.syntax.specs.declared.Quantifier.TheVariants.{Absent, Stray, Unfit, Times}
use Rattle.syntax.specs.Limits.{group_limit, bound_limit, byte_limit}
use Rattle.syntax.specs.Read.{byte, is_end, is, between, Read, sound, and_then}
use Rattle.charset.specs.declared.Named.{Named}
use Rattle.charset.specs.declared.Named.TheVariants.{Word}
use Rattle.charset.specs.Named.{in_named}
use Rattle.syntax.specs.Sets.{set_named, Member}
use Rattle.syntax.specs.Tree.{Rule, empty, Branches, one, also, enclosed}
use Rattle.syntax.specs.Numbers.{run, is_digit, digits, value, is_none}
use Rattle.syntax.specs.Names.{Name, Names, word_at, is_name, name_up_to, is_used, fresh}
use Rattle.syntax.specs.Flags.{ignore_case, depot}
use Rattle.syntax.specs.Escapes.{called, calls_by_name, Meaning, ◌means◌, meanings, byte_of, braced, hex, braced_octal, octal, control, letter, common, class_escape, decimal, signed, group_number, escape}
use Rattle.syntax.specs.Classes.{letters, posix_member, posix_name, posix, element, range_end, alike, range_of, makes_range, member, members, class}
use Rattle.syntax.specs.Quantifiers.{with_greed, at_least, from_to, upper, braces, quantifier}
use Rattle.syntax.specs.Grammar.{behind_blanks, atom, Inner, closing, capturing, uncaptured, grouped, Sequence, unrepeatable, repeatable, repeated, breaks_line, next_item, unfit_for, repeating, part, ends, sequence, branch, further, alternation, inside}
use Rattle.syntax.specs.Laws.Blanks.{blanks-in}
use Rattle.syntax.specs.Laws.Forward.{Given, if-given, test-given, then-given, Holding, if-holding, and_left, and_right}
use Rattle.syntax.specs.Laws.Fuel.{byte_past, byte-in}

-- a sound reading ends within the rule
abbrev pub Upto : {A : Type 0} → List ℕ → A → ℕ → Type 0
Upto s x p = p ≤ length s

abbrev pub UptoIn : List ℕ → ℕ → Most → Bool → ℕ → Type 0
UptoIn s n m keeps next = next ≤ length s

-- Bytes that are there --------------------------------------------------------

by_length : (s : List ℕ) (i : ℕ) → Dec (i < length s) → (byte s i ≡ 256 → ⊥) → i < length s
by_length s i (yes h) n = h
by_length s i (no h) n = absurd (n (byte_past s i (omega arith)))

pub not_end : (s : List ℕ) (i : ℕ) → is_end (byte s i) ≡ false → i < length s
unfolding is_end
not_end s i e = by_length s i (dec_lt i (length s)) (eqb-false (byte s i) 256 e)

-- a byte that passes the test for a character's is there
pub is-in : (s : List ℕ) (i c : ℕ) → c < 256 → eqb (byte s i) c ≡ true → i < length s
is-in s i c h e = let k : byte s i ≡ c = eqb-true (byte s i) c e in byte-in s i (omega arith)

between_in : (s : List ℕ) (i c d : ℕ) → d < 256 → (leb c (byte s i) && leb (byte s i) d) ≡ true → i < length s
between_in s i c d h e = let k : byte s i ≤ d = leb-true (byte s i) d (and_right (leb c (byte s i)) (leb (byte s i) d) e) in byte-in s i (omega arith)

if-short : (c : Bool) (b : ℕ) (bs cs : List ℕ) → length cs ≤ length bs → length (if c then b ∷ cs else []) ≤ suc (length bs)
if-short true b bs cs h = omega arith
if-short false b bs cs h = omega arith

run_short : (p : ℕ → Bool) (l : List ℕ) → length (run p l) ≤ length l
unfolding run
run_short p [] = omega arith
run_short p (b ∷ bs) = if-short (p b) b bs (run p bs) (run_short p bs)

run_in : (p : ℕ → Bool) (s : List ℕ) (i : ℕ) → length (run p (drop i s)) ≤ length s - i
run_in p s i = let h = run_short p (drop i s) in let k = length-drop i s in omega arith

digits_in : (base : ℕ) (s : List ℕ) (i : ℕ) → length (digits base s i) ≤ length s - i
unfolding digits
digits_in base s i = run_in (is_digit base) s i

-- Escapes -----------------------------------------------------------------------

byte_of-in : (s : List ℕ) (at v next : ℕ) → next ≤ length s → Given (byte_of at v next) (Upto s)
unfolding byte_of
byte_of-in s at v next h = if-given _ _ _ (leb v byte_limit) h tt

braced-in : (base : ℕ) (s : List ℕ) (at start : ℕ) → Given (braced base s at start) (Upto s)
unfolding braced
braced-in base s at start =
    let ds = digits base s start in
    if-given _ _ _ (is_none ds) tt
    (test-given _ _ _ (is "}" (byte s (start + length ds))) (λ e. let i = is-in s (start + length ds) 125 (omega arith) e in byte_of-in s at (value base ds) (start + length ds + 1) (omega arith)) (λ e. tt))

hex-in : (s : List ℕ) (at : ℕ) → Given (hex s at) (Upto s)
unfolding hex
hex-in s at =
    let ds = digits 16 s (at + 2) in
    if-given _ _ _ (is "{" (byte s (at + 2))) (braced-in 16 s at (at + 3))
    (test-given _ _ _ (eqb (length (take 2 ds)) 2) (λ e.
    let k : length (take 2 ds) ≡ 2 = eqb-true (length (take 2 ds)) 2 e in
    let m = length-take 2 ds in
    let n = digits_in 16 s (at + 2) in
    byte_of-in s at (value 16 (take 2 ds)) (at + 4) (omega arith)) (λ e. tt))

braced_octal-in : (s : List ℕ) (at : ℕ) → Given (braced_octal s at) (Upto s)
unfolding braced_octal
braced_octal-in s at = if-given _ _ _ (is "{" (byte s (at + 2))) (braced-in 8 s at (at + 3)) tt

octal-in : (s : List ℕ) (at : ℕ) → at < length s → Given (octal s at) (Upto s)
unfolding octal
octal-in s at h =
    let ds = digits 8 s (at + 1) in
    let m = length-take 3 ds in
    let n = digits_in 8 s (at + 1) in
    byte_of-in s at (value 8 (take 3 ds)) (at + 1 + length (take 3 ds)) (omega arith)

or-in : (s : List ℕ) (i : ℕ) → (is "@" (byte s i) || is "[" (byte s i) || is "]" (byte s i) || is "^" (byte s i) || is "_" (byte s i) || is "?" (byte s i)) ≡ true → i < length s
or-in s i e = by_length s i (dec_lt i (length s)) (λ h. absurd (true-false (sym e ∙ rw h)))
  where
    true-false : true ≡ false → ⊥
    true-false x = let bad : ◌≡◌ {A = ℕ} 0 1 = cc in omega arith

control-in : (s : List ℕ) (at : ℕ) → Given (control s at) (Upto s)
unfolding control
control-in s at =
    let b = byte s (at + 2) in
    test-given _ _ _ (between "a" "z" b) (λ e. let i = between_in s (at + 2) 97 122 (omega arith) e in omega arith) (λ e.
    test-given _ _ _ (between "A" "Z" b) (λ e. let i = between_in s (at + 2) 65 90 (omega arith) e in omega arith) (λ e.
    test-given _ _ _ (is "@" b || is "[" b || is "]" b || is "^" b || is "_" b || is "?" b) (λ e. let i = or-in s (at + 2) e in omega arith) (λ e. tt)))

letter-in : (ms : List Meaning) (s : List ℕ) (at b : ℕ) → at + 2 ≤ length s → Given (letter ms at b) (Upto s)
unfolding letter
letter-in [] s at b h = tt
letter-in (c means m ∷ others) s at b h = if-given _ _ _ (is c b) h (letter-in others s at b h)

common-in : (s : List ℕ) (at : ℕ) → Given (common s at) (Upto s)
unfolding common
common-in s at =
    let b = byte s (at + 1) in
    test-given _ _ _ (is_end b) (λ e. tt) (λ e.
    let i = not_end s (at + 1) e in
    if-given _ _ _ (not (in_named Word b)) (omega arith)
    (if-given _ _ _ (is "x" b) (hex-in s at) (if-given _ _ _ (is "o" b) (braced_octal-in s at) (if-given _ _ _ (is "c" b) (control-in s at) (letter-in meanings s at b (omega arith))))))

class_escape-in : (s : List ℕ) (at : ℕ) → at < length s → Given (class_escape s at) (Upto s)
unfolding class_escape
class_escape-in s at h =
    let b = byte s (at + 1) in
    test-given _ _ _ (is "b" b) (λ e. let i = is-in s (at + 1) 98 (omega arith) e in omega arith) (λ e.
    if-given _ _ _ (between "0" "7" b) (octal-in s at h) (common-in s at))

decimal-in : (s : List ℕ) (at start : ℕ) → start ≤ length s → Given (decimal s at start) (Upto s)
unfolding decimal
decimal-in s at start h = let n = digits_in 10 s start in if-given _ _ _ (is_none (digits 10 s start)) tt (omega arith)

signed-in : (s : List ℕ) (opened at start : ℕ) → start ≤ length s → Given (signed s opened at start) (Upto s)
unfolding signed
signed-in s opened at start h = test-given _ _ _ (is "-" (byte s start))
    (λ e. let i = is-in s start 45 (omega arith) e in then-given (Upto s) (Upto s) (decimal s at (start + 1)) _ (decimal-in s at (start + 1) (omega arith)) (λ v p l. l))
    (λ e. then-given (Upto s) (Upto s) (decimal s at start) _ (decimal-in s at start h) (λ v p l. l))

group_number-in : (s : List ℕ) (opened at : ℕ) → at + 2 ≤ length s → Given (group_number s opened at) (Upto s)
unfolding group_number
group_number-in s opened at h = test-given _ _ _ (is "{" (byte s (at + 2)))
    (λ e. let i = is-in s (at + 2) 123 (omega arith) e in
    then-given (Upto s) (Upto s) (signed s opened at (at + 3)) _ (signed-in s opened at (at + 3) (omega arith)) (λ v p l.
    test-given _ _ _ (is "}" (byte s p)) (λ f. let j = is-in s p 125 (omega arith) f in omega arith) (λ f. tt)))
    (λ e. signed-in s opened at (at + 2) h)

-- a name that is closed ends within the rule
pub name_up_to-in : (closer : Char) (s : List ℕ) (place at : ℕ) → code closer < 256 → Given (name_up_to closer s place at) (Upto s)
unfolding name_up_to
name_up_to-in closer s place at l =
    let n = word_at s at in
    test-given _ _ _ (is_name n && is closer (byte s (at + length n)))
    (λ e. let i = is-in s (at + length n) (code closer) l (and_right (is_name n) (is closer (byte s (at + length n))) e) in omega arith) (λ e. tt)

called-in : (s : List ℕ) (at : ℕ) → Given (called s at) (Upto s)
unfolding called
called-in s at =
    let b = byte s (at + 2) in
    if-given _ _ _ (is "{" b) (name_up_to-in "}" s at (at + 3) (omega arith))
    (if-given _ _ _ (is "<" b) (name_up_to-in ">" s at (at + 3) (omega arith)) (if-given _ _ _ (is "'" b) (name_up_to-in "'" s at (at + 3) (omega arith)) tt))

escape-in : (s : List ℕ) (folded : Bool) (known : Names) (opened at : ℕ) → at < length s → Given (escape s folded known opened at) (Upto s)
unfolding escape
escape-in s folded known opened at h =
    let b = byte s (at + 1) in
    test-given _ _ _ (is "N" b) (λ e. let i = is-in s (at + 1) 78 (omega arith) e in omega arith) (λ e.
    test-given _ _ _ (is "A" b) (λ e. let i = is-in s (at + 1) 65 (omega arith) e in omega arith) (λ e.
    test-given _ _ _ (is "z" b) (λ e. let i = is-in s (at + 1) 122 (omega arith) e in omega arith) (λ e.
    test-given _ _ _ (is "Z" b) (λ e. let i = is-in s (at + 1) 90 (omega arith) e in omega arith) (λ e.
    test-given _ _ _ (is "b" b) (λ e. let i = is-in s (at + 1) 98 (omega arith) e in omega arith) (λ e.
    test-given _ _ _ (is "B" b) (λ e. let i = is-in s (at + 1) 66 (omega arith) e in omega arith) (λ e.
    if-given _ _ _ (is "0" b) (then-given (Upto s) (Upto s) (octal s at) _ (octal-in s at h) (λ m p l. l))
    (if-given _ _ _ (between "1" "9" b) (then-given (Upto s) (Upto s) (decimal s at (at + 1)) _ (decimal-in s at (at + 1) (omega arith)) (λ m p l. l))
    (if-given _ _ _ (is "k" b) (then-given (Upto s) (Upto s) (called s at) _ (called-in s at) (λ m p l. l))
    (if-given _ _ _ (is "g" b && calls_by_name s at) (then-given (Upto s) (Upto s) (name_up_to "}" s at (at + 3)) _ (name_up_to-in "}" s at (at + 3) (omega arith)) (λ m p l. l))
    (test-given _ _ _ (is "g" b) (λ e. let i = is-in s (at + 1) 103 (omega arith) e in then-given (Upto s) (Upto s) (group_number s opened at) _ (group_number-in s opened at (omega arith)) (λ m p l. l)) (λ e.
    then-given (Upto s) (Upto s) (common s at) _ (common-in s at) (λ m p l. l))))))))))))

-- Classes -------------------------------------------------------------------------

posix_member-in : (s : List ℕ) (at : ℕ) (negated : Bool) (o : Option Named) (next : ℕ) → next ≤ length s → Given (posix_member at negated o next) (Upto s)
unfolding posix_member
posix_member-in s at negated none next h = tt
posix_member-in s at true (some x) next h = h
posix_member-in s at false (some x) next h = h

posix_name-in : (s : List ℕ) (at : ℕ) (negated : Bool) (start : ℕ) → at < length s → Given (posix_name s at negated start) (Upto s)
unfolding posix_name
posix_name-in s at negated start h =
    let next = start + length (letters s start) in
    test-given _ _ _ (is ":" (byte s next) && is "]" (byte s (next + 1)))
    (λ e. let i = is-in s (next + 1) 93 (omega arith) (and_right (is ":" (byte s next)) (is "]" (byte s (next + 1))) e) in posix_member-in s at negated (set_named (letters s start)) (next + 2) (omega arith))
    (λ e. omega arith)

posix-in : (s : List ℕ) (at : ℕ) → at < length s → Given (posix s at) (Upto s)
unfolding posix
posix-in s at h = if-given _ _ _ (not (is ":" (byte s (at + 1)))) (omega arith) (if-given _ _ _ (is "^" (byte s (at + 2))) (posix_name-in s at true (at + 3) h) (posix_name-in s at false (at + 2) h))

element-in : (s : List ℕ) (from at : ℕ) → Given (element s from at) (Upto s)
unfolding element
element-in s from at =
    let b = byte s at in
    test-given _ _ _ (is_end b) (λ e. tt) (λ e. let i = not_end s at e in
    if-given _ _ _ (is "\\" b) (class_escape-in s at i) (if-given _ _ _ (is "[" b) (posix-in s at i) (omega arith)))

range_of-in : (s : List ℕ) (strict : Bool) (at : ℕ) (low high : Option ℕ) (next : ℕ) → next ≤ length s → Given (range_of strict at low high next) (Upto s)
unfolding range_of
range_of-in s strict at none high next h = tt
range_of-in s strict at (some a) none next h = tt
range_of-in s strict at (some a) (some b) next h = if-given _ _ _ (not (leb a b)) tt (if-given _ _ _ (strict && not (alike a b)) tt h)

member-in : (s : List ℕ) (strict : Bool) (from at : ℕ) → Given (member s strict from at) (Upto s)
unfolding member
member-in s strict from at = then-given (Upto s) (Upto s) (element s from at) _ (element-in s from at) (λ low p l.
    if-given _ _ _ (makes_range s p)
    (then-given (Upto s) (Upto s) (element s from (p + 1)) _ (element-in s from (p + 1)) (λ high q m. range_of-in s strict at (range_end low) (range_end high) q m))
    l)

members-in : (f : ℕ) (s : List ℕ) (strict : Bool) (from : ℕ) (first : Bool) (before : List Member) (at : ℕ) → Given (members f s strict from first before at) (Upto s)
unfolding members
members-in zero s strict from first before at = tt
members-in (suc f) s strict from first before at = test-given _ _ _ (is "]" (byte s at) && not first)
    (λ e. let i = is-in s at 93 (omega arith) (and_left (is "]" (byte s at)) (not first) e) in omega arith)
    (λ e. then-given (Upto s) (Upto s) (member s strict from at) _ (member-in s strict from at) (λ m p l. members-in f s strict from false (m ∷ before) p))

class-in : (s : List ℕ) (strict : Bool) (from : ℕ) → Given (class s strict from) (Upto s)
unfolding class
class-in s strict from = if-given _ _ _ (is "^" (byte s (from + 1)))
    (then-given (Upto s) (Upto s) (members (length s) s strict from true [] (from + 2)) _ (members-in (length s) s strict from true [] (from + 2)) (λ ms p l. l))
    (then-given (Upto s) (Upto s) (members (length s) s strict from true [] (from + 1)) _ (members-in (length s) s strict from true [] (from + 1)) (λ ms p l. l))

-- Repeats --------------------------------------------------------------------------

with_greed-in : (s : List ℕ) (n : ℕ) (m : Most) (at : ℕ) → at ≤ length s → Holding (with_greed s n m at) (UptoIn s)
unfolding with_greed
with_greed-in s n m at h = if-holding _ _ _ (is "?" (byte s at)) (λ e. let i = is-in s at 63 (omega arith) e in omega arith) (λ e.
    if-holding _ _ _ (is "+" (byte s at)) (λ e. let i = is-in s at 43 (omega arith) e in omega arith) (λ e. h))

at_least-in : (s : List ℕ) (n at : ℕ) → at ≤ length s → Holding (at_least s n at) (UptoIn s)
unfolding at_least
at_least-in s n at h = if-holding _ _ _ (leb n bound_limit) (λ e. with_greed-in s n Unlimited at h) (λ e. tt)

from_to-in : (s : List ℕ) (n m at : ℕ) → at ≤ length s → Holding (from_to s n m at) (UptoIn s)
unfolding from_to
from_to-in s n m at h = if-holding _ _ _ (leb n m && leb m bound_limit) (λ e. with_greed-in s n (AtMost m) at h) (λ e. tt)

upper_in : (s : List ℕ) (n at : ℕ) → Holding (upper s n at) (UptoIn s)
unfolding upper
upper_in s n at =
    let ds = digits 10 s at in
    if-holding _ _ _ (is "}" (byte s at)) (λ e. let i = is-in s at 125 (omega arith) e in at_least-in s n (at + 1) (omega arith)) (λ e.
    if-holding _ _ _ (is_none ds) (λ e. tt) (λ e.
    if-holding _ _ _ (is "}" (byte s (at + length ds))) (λ e. let i = is-in s (at + length ds) 125 (omega arith) e in from_to-in s n (value 10 ds) (at + length ds + 1) (omega arith)) (λ e. tt)))

braces-in : (s : List ℕ) (at : ℕ) → Holding (braces s at) (UptoIn s)
unfolding braces
braces-in s at =
    let ds = digits 10 s at in
    let next = at + length ds in
    if-holding _ _ _ (is_none ds) (λ e. tt) (λ e.
    if-holding _ _ _ (is "}" (byte s next)) (λ e. let i = is-in s next 125 (omega arith) e in from_to-in s (value 10 ds) (value 10 ds) (next + 1) (omega arith)) (λ e.
    if-holding _ _ _ (is "," (byte s next)) (λ e. upper_in s (value 10 ds) (next + 1)) (λ e. tt)))

pub quantifier-in : (s : List ℕ) (at : ℕ) → Holding (quantifier s at) (UptoIn s)
unfolding quantifier
quantifier-in s at =
    let b = byte s at in
    if-holding _ _ _ (is "*" b) (λ e. let i = is-in s at 42 (omega arith) e in with_greed-in s 0 Unlimited (at + 1) (omega arith)) (λ e.
    if-holding _ _ _ (is "+" b) (λ e. let i = is-in s at 43 (omega arith) e in with_greed-in s 1 Unlimited (at + 1) (omega arith)) (λ e.
    if-holding _ _ _ (is "?" b) (λ e. let i = is-in s at 63 (omega arith) e in with_greed-in s 0 (AtMost 1) (at + 1) (omega arith)) (λ e.
    if-holding _ _ _ (is "{" b) (λ e. braces-in s (at + 1)) (λ e. tt))))

-- Items, sequences and groups --------------------------------------------------------

unfoldable pub Inward : List ℕ → Inner → Type 0
Inward s inner = (opening : ℕ) (head : Read Names) → Given head (Upto s) → Given (inner opening head) (Upto s)

pub atom-in : (s : List ℕ) (flags : ℕ) (known : Names) (opened at : ℕ) → at < length s → Given (atom s flags known opened at) (Upto s)
unfolding atom
atom-in s flags known opened at h =
    let b = byte s at in
    let k : at + 1 ≤ length s = omega arith in
    if-given _ _ _ (is "\\" b) (escape-in s (ignore_case flags) known opened at h)
    (if-given _ _ _ (is "[" b) (then-given (Upto s) (Upto s) (class s (depot flags) at) _ (class-in s (depot flags) at) (λ c p l. l))
    (if-given _ _ _ (is "." b) k (if-given _ _ _ (is "^" b) k (if-given _ _ _ (is "$" b) k k))))

closing-in : (s : List ℕ) (opening : ℕ) (t : Rule) (opened : Names) (at : ℕ) → Given (closing s opening t opened at) (Upto s)
unfolding closing
closing-in s opening t opened at = test-given _ _ _ (is ")" (byte s at)) (λ e. let i = is-in s at 41 (omega arith) e in omega arith) (λ e. tt)

fresh_in : (s : List ℕ) (place : ℕ) (opened : Names) (name : Read Name) → Given name (Upto s) → Given (fresh place opened name) (Upto s)
unfolding fresh
fresh_in s place opened name h = then-given (Upto s) (Upto s) name _ h (λ x p l. if-given _ _ _ (is_used x opened) tt l)

capturing-in : (s : List ℕ) (inner : Inner) (at : ℕ) (opened : Names) (name : Read Name) → Inward s inner → Given name (Upto s) → Given (capturing s inner at opened name) (Upto s)
unfolding capturing Inward
capturing-in s inner at opened name h g = if-given _ _ _ (ltb (length opened) group_limit)
    (then-given (Upto s) (Upto s) (inner at (and_then name (λ n p. sound (n ∷ opened) p))) _ (h at _ (then-given (Upto s) (Upto s) name _ g (λ n p l. l)))
    (λ r p m. closing-in s at (enclosed (Captured (suc (length opened))) at r.0) r.1 p))
    tt

uncaptured-in : (s : List ℕ) (inner : Inner) (at : ℕ) (opened : Names) (form : Form) → Inward s inner → at + 3 ≤ length s → Given (uncaptured s inner at opened form) (Upto s)
unfolding uncaptured Inward
uncaptured-in s inner at opened form h l = then-given (Upto s) (Upto s) (inner at (sound opened (at + 3))) _ (h at (sound opened (at + 3)) l) (λ r p m. closing-in s at (enclosed form at r.0) r.1 p)

grouped-in : (s : List ℕ) (inner : Inner) (at : ℕ) (opened : Names) → Inward s inner → at < length s → Given (grouped s inner at opened) (Upto s)
unfolding grouped
grouped-in s inner at opened h l =
    let b = byte s (at + 2) in
    if-given _ _ _ (not (is "?" (byte s (at + 1)))) (capturing-in s inner at opened _ h (omega arith))
    (test-given _ _ _ (is ":" b) (λ e. let i = is-in s (at + 2) 58 (omega arith) e in uncaptured-in s inner at opened Grouped h (omega arith)) (λ e.
    test-given _ _ _ (is ">" b) (λ e. let i = is-in s (at + 2) 62 (omega arith) e in uncaptured-in s inner at opened Held h (omega arith)) (λ e.
    test-given _ _ _ (is "=" b) (λ e. let i = is-in s (at + 2) 61 (omega arith) e in uncaptured-in s inner at opened Ahead h (omega arith)) (λ e.
    test-given _ _ _ (is "!" b) (λ e. let i = is-in s (at + 2) 33 (omega arith) e in uncaptured-in s inner at opened NotAhead h (omega arith)) (λ e.
    if-given _ _ _ (is "<" b) (capturing-in s inner at opened _ h (fresh_in s at opened _ (name_up_to-in ">" s at (at + 3) (omega arith)))) tt)))))

breaks-in : (s : List ℕ) (at : ℕ) → breaks_line s at ≡ true → at + 1 < length s
unfolding breaks_line
breaks-in s at e = is-in s (at + 1) 82 (omega arith) (and_right (is "\\" (byte s at)) (is "R" (byte s (at + 1))) e)

next_item-in : (s : List ℕ) (flags : ℕ) (known : Names) (inner : Inner) (q : Sequence) (opened : Names) (at : ℕ) → Inward s inner → at < length s → Given (next_item s flags known inner q opened at) (Upto s)
unfolding next_item
next_item-in s flags known inner q opened at h l = if-given _ _ _ (is "(" (byte s at))
    (then-given (Upto s) (Upto s) (grouped s inner at opened) _ (grouped-in s inner at opened h l) (λ r p m. m))
    (test-given _ _ _ (breaks_line s at) (λ e. let i = breaks-in s at e in omega arith) (λ e.
    then-given (Upto s) (Upto s) (atom s flags known (length opened) at) _ (atom-in s flags known (length opened) at l) (λ i p m. m)))

unfit_for-in : (s : List ℕ) (q : Sequence) (at : ℕ) → Given (unfit_for q at) (Upto s)
unfolding unfit_for
unfit_for-in s (unrepeatable t) at = tt
unfit_for-in s (repeatable b l) at = tt
unfit_for-in s (repeated t) at = tt

repeating-in : (s : List ℕ) (q : Sequence) (at n : ℕ) (m : Most) (g : Greed) (keeps : Bool) (opened : Names) (next : ℕ) → next ≤ length s → Given (repeating q at n m g keeps opened next) (Upto s)
unfolding repeating
repeating-in s (unrepeatable t) at n m g keeps opened next h = tt
repeating-in s (repeatable b l) at n m g keeps opened next h = h
repeating-in s (repeated t) at n m g keeps opened next h = tt

pub part_by : (s : List ℕ) (flags : ℕ) (known : Names) (inner : Inner) (q : Sequence) (opened : Names) (at : ℕ) (x : Quantifier) → Inward s inner → at < length s → Holding x (UptoIn s) → Given (part s flags known inner q opened at x) (Upto s)
unfolding part
part_by s flags known inner q opened at Absent h l k = next_item-in s flags known inner q opened at h l
part_by s flags known inner q opened at Stray h l k = tt
part_by s flags known inner q opened at Unfit h l k = unfit_for-in s q at
part_by s flags known inner q opened at (Times n m g keeps next) h l k = repeating-in s q at n m g keeps opened next k

pub ends-false : (s : List ℕ) (at : ℕ) → ends (byte s at) ≡ false → at < length s
unfolding ends is_end
ends-false s at e = by_length s at (dec_lt at (length s)) (λ h. true-false (sym (rw h) ∙ e))
  where
    true-false : true ≡ false → ⊥
    true-false x = let bad : ◌≡◌ {A = ℕ} 0 1 = cc in omega arith

pub sequence-in : (f : ℕ) (s : List ℕ) (flags : ℕ) (known : Names) (inner : Inner) (q : Sequence) (opened : Names) (at : ℕ) → Inward s inner → at ≤ length s → Given (sequence f s flags known inner q opened at) (Upto s)
unfolding sequence
sequence-in zero s flags known inner q opened at h l = l
sequence-in (suc f) s flags known inner q opened start h l =
    let at = behind_blanks s flags start in
    test-given _ _ _ (ends (byte s at)) (λ e. blanks-in s flags start l) (λ e.
    then-given (Upto s) (Upto s) (part s flags known inner q opened at (quantifier s at)) _ (part_by s flags known inner q opened at (quantifier s at) h (ends-false s at e) (quantifier-in s at))
    (λ r p k. sequence-in f s flags known inner r.0 r.1 p h k))

pub branch_in : (s : List ℕ) (flags : ℕ) (known : Names) (inner : Inner) (opened : Names) (at : ℕ) → Inward s inner → at ≤ length s → Given (branch s flags known inner opened at) (Upto s)
unfolding branch
branch_in s flags known inner opened at h l = sequence-in (length s) s flags known inner (unrepeatable empty) opened at h l

pub further-in : (f : ℕ) (s : List ℕ) (flags : ℕ) (known : Names) (inner : Inner) (bs : Branches) (opened : Names) (at : ℕ) → Inward s inner → at ≤ length s → Given (further f s flags known inner bs opened at) (Upto s)
unfolding further
further-in zero s flags known inner bs opened at h l = l
further-in (suc f) s flags known inner bs opened at h l = test-given _ _ _ (is "|" (byte s at))
    (λ e. let i = is-in s at 124 (omega arith) e in
    then-given (Upto s) (Upto s) (branch s flags known inner opened (at + 1)) _ (branch_in s flags known inner opened (at + 1) h (omega arith)) (λ r p k. further-in f s flags known inner (also bs at r.0) r.1 p h k))
    (λ e. l)

pub alternation-in : (s : List ℕ) (flags : ℕ) (known : Names) (inner : Inner) (opened : Names) (at : ℕ) → Inward s inner → at ≤ length s → Given (alternation s flags known inner opened at) (Upto s)
unfolding alternation
alternation-in s flags known inner opened at h l = then-given (Upto s) (Upto s) (branch s flags known inner opened at) _ (branch_in s flags known inner opened at h l) (λ r p k. further-in (length s) s flags known inner (one r.0) r.1 p h k)

pub inside-in : (d : ℕ) (s : List ℕ) (flags : ℕ) (known : Names) → Inward s (inside d s flags known)
unfolding inside Inward
inside-in zero s flags known opening head g = tt
inside-in (suc d) s flags known opening head g = then-given (Upto s) (Upto s) head _ g (λ opened at l. alternation-in s flags known (inside d s flags known) opened at (inside-in d s flags known) l)
