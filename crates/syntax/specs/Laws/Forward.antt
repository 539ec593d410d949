-- Every sound reading of a part ends behind its beginning, with the laws of tests and of reading on that such facts rest on.
use Rattle.std.specs.Prelude.{◌≡◌, refl, List, [], ◌∷◌, Bool, true, false, not, ◌&&◌, ◌||◌, ℕ, zero, suc, ◌+◌, ◌≤◌, ◌<◌, length, take, ltb, leb, eqb, if◌then◌else◌}
use Rattle.std.proofs.Math.Option.{Option, none, some}
use Prim.Native.Char.{Char}
use Rattle.std.proofs.Common.{arith, leb-true}
use Rattle.syntax.specs.declared.Form.{Form}
use Rattle.syntax.specs.declared.Form.TheVariants.{Grouped, Captured, Held, Ahead, NotAhead}
use Rattle.syntax.specs.declared.Greed.{Greed}
use Rattle.syntax.specs.declared.Most.{Most}
use Rattle.syntax.specs.declared.Most.TheVariants.{AtMost, Unlimited}
use Rattle.syntax.specs.declared.Quantifier.{Quantifier}
use Rattle.syntax.specs.declared.Quantifier.TheVariants.{Absent, Stray, Unfit, Times}
use Rattle.syntax.specs.Limits.{group_limit, bound_limit, byte_limit}
use Rattle.syntax.specs.Read.{byte, is_end, is, between, Read, sound, refused, and_then}
use Rattle.charset.specs.declared.Named.{Named}
use Rattle.charset.specs.declared.Named.TheVariants.{Word}
use Rattle.charset.specs.Named.{in_named}
use Rattle.syntax.specs.Sets.{set_named, Member}
use Rattle.syntax.specs.Tree.{Rule, empty, Branches, one, also, enclosed}
use Rattle.syntax.specs.Numbers.{digits, value, is_none}
use Rattle.syntax.specs.Names.{Name, Names, word_at, is_name, name_up_to, is_used, fresh}
use Rattle.syntax.specs.Flags.{ignore_case, depot}
use Rattle.syntax.specs.Escapes.{called, calls_by_name, Meaning, ◌means◌, meanings, byte_of, braced, hex, braced_octal, octal, control, letter, common, class_escape, decimal, signed, group_number, escape}
use Rattle.syntax.specs.Classes.{letters, posix_member, posix_name, posix, element, range_end, alike, range_of, makes_range, member, members, class}
use Rattle.syntax.specs.Quantifiers.{with_greed, at_least, from_to, upper, braces, quantifier}
use Rattle.syntax.specs.Grammar.{behind_blanks, atom, Inner, closing, capturing, uncaptured, grouped, Sequence, unrepeatable, repeatable, repeated, unfit_for, repeating, breaks_line, next_item, part, ends, sequence, branch, further, alternation, inside}
use Rattle.syntax.specs.WellFormed.{BoundsFit}
use Rattle.syntax.specs.Laws.Blanks.{blanks-on}

-- P holds of what a sound reading gives, and of the position behind it
abbrev pub Given : {A : Type 0} → Read A → (A → ℕ → Type 0) → Type 0
Given (sound a at) P = P a at
Given (refused p r) P = Unit

pub any-given : {A : Type 0} (a : Read A) → Given a (λ x n. Unit)
any-given (sound a n) = tt
any-given (refused p r) = tt

pub if-given : {A : Type 0} (P : A → ℕ → Type 0) (x y : Read A) (b : Bool) → Given x P → Given y P → Given (if b then x else y) P
if-given P x y true g h = g
if-given P x y false g h = h

-- the same, where the test's outcome is of use
pub test-given : {A : Type 0} (P : A → ℕ → Type 0) (x y : Read A) (b : Bool) → (b ≡ true → Given x P) → (b ≡ false → Given y P) → Given (if b then x else y) P
test-given P x y true g h = g refl
test-given P x y false g h = h refl

pub then-given : {A B : Type 0} (P : A → ℕ → Type 0) (Q : B → ℕ → Type 0) (a : Read A) (k : A → ℕ → Read B) → Given a P → ((x : A) (n : ℕ) → P x n → Given (k x n) Q) → Given (and_then a k) Q
then-given P Q (sound a at) k g h = h a at g
then-given P Q (refused p r) k g h = tt

-- a weaker statement
pub given-less : {A : Type 0} (P Q : A → ℕ → Type 0) (a : Read A) → Given a P → ((x : A) (n : ℕ) → P x n → Q x n) → Given a Q
given-less P Q (sound a at) g h = h a at g
given-less P Q (refused p r) g h = tt

pub and_left : (a b : Bool) → (a && b) ≡ true → a ≡ true
and_left true b e = refl
and_left false b e = e

pub and_right : (a b : Bool) → (a && b) ≡ true → b ≡ true
and_right true b e = e
and_right false true e = refl
and_right false false e = e

-- a sound reading ends at a position or behind it
abbrev pub Past : {A : Type 0} → ℕ → A → ℕ → Type 0
Past n x p = n ≤ p

-- Escapes --------------------------------------------------------------------

byte_of-on : (at v next n : ℕ) → n ≤ next → Given (byte_of at v next) (Past n)
unfolding byte_of
byte_of-on at v next n h = if-given _ _ _ (leb v byte_limit) h tt

braced-on : (base : ℕ) (s : List ℕ) (at start n : ℕ) → n ≤ start → Given (braced base s at start) (Past n)
unfolding braced
braced-on base s at start n h =
    let ds = digits base s start in
    if-given _ _ _ (is_none ds) tt (if-given _ _ _ (is "}" (byte s (start + length ds))) (byte_of-on at (value base ds) (start + length ds + 1) n (omega arith)) tt)

hex-on : (s : List ℕ) (at : ℕ) → Given (hex s at) (Past (at + 1))
unfolding hex
hex-on s at =
    let ds = take 2 (digits 16 s (at + 2)) in
    if-given _ _ _ (is "{" (byte s (at + 2))) (braced-on 16 s at (at + 3) (at + 1) (omega arith))
    (if-given _ _ _ (eqb (length ds) 2) (byte_of-on at (value 16 ds) (at + 4) (at + 1) (omega arith)) tt)

braced_octal-on : (s : List ℕ) (at : ℕ) → Given (braced_octal s at) (Past (at + 1))
unfolding braced_octal
braced_octal-on s at = if-given _ _ _ (is "{" (byte s (at + 2))) (braced-on 8 s at (at + 3) (at + 1) (omega arith)) tt

octal-on : (s : List ℕ) (at : ℕ) → Given (octal s at) (Past (at + 1))
unfolding octal
octal-on s at =
    let ds = take 3 (digits 8 s (at + 1)) in
    byte_of-on at (value 8 ds) (at + 1 + length ds) (at + 1) (omega arith)

control-on : (s : List ℕ) (at : ℕ) → Given (control s at) (Past (at + 1))
unfolding control
control-on s at =
    let b = byte s (at + 2) in
    let h : at + 1 ≤ at + 3 = omega arith in
    if-given _ _ _ (between "a" "z" b) h (if-given _ _ _ (between "A" "Z" b) h (if-given _ _ _ (is "@" b || is "[" b || is "]" b || is "^" b || is "_" b || is "?" b) h tt))

letter-on : (ms : List Meaning) (at b : ℕ) → Given (letter ms at b) (Past (at + 1))
unfolding letter
letter-on [] at b = tt
letter-on (c means m ∷ others) at b = if-given _ _ _ (is c b) (omega arith) (letter-on others at b)

common-on : (s : List ℕ) (at : ℕ) → Given (common s at) (Past (at + 1))
unfolding common
common-on s at =
    let b = byte s (at + 1) in
    if-given _ _ _ (is_end b) tt (if-given _ _ _ (not (in_named Word b)) (omega arith)
    (if-given _ _ _ (is "x" b) (hex-on s at) (if-given _ _ _ (is "o" b) (braced_octal-on s at) (if-given _ _ _ (is "c" b) (control-on s at) (letter-on meanings at b)))))

class_escape-on : (s : List ℕ) (at : ℕ) → Given (class_escape s at) (Past (at + 1))
unfolding class_escape
class_escape-on s at =
    let b = byte s (at + 1) in
    if-given _ _ _ (is "b" b) (omega arith) (if-given _ _ _ (between "0" "7" b) (octal-on s at) (common-on s at))

decimal-on : (s : List ℕ) (at start n : ℕ) → n ≤ start → Given (decimal s at start) (Past n)
unfolding decimal
decimal-on s at start n h = if-given _ _ _ (is_none (digits 10 s start)) tt (omega arith)

signed-on : (s : List ℕ) (opened at start n : ℕ) → n ≤ start → Given (signed s opened at start) (Past n)
unfolding signed
signed-on s opened at start n h = if-given _ _ _ (is "-" (byte s start))
    (then-given (Past n) (Past n) (decimal s at (start + 1)) _ (decimal-on s at (start + 1) n (omega arith)) (λ v p l. l))
    (then-given (Past n) (Past n) (decimal s at start) _ (decimal-on s at start n h) (λ v p l. l))

group_number-on : (s : List ℕ) (opened at : ℕ) → Given (group_number s opened at) (Past (at + 1))
unfolding group_number
group_number-on s opened at = if-given _ _ _ (is "{" (byte s (at + 2)))
    (then-given (Past (at + 1)) (Past (at + 1)) (signed s opened at (at + 3)) _ (signed-on s opened at (at + 3) (at + 1) (omega arith)) (λ v p l. if-given _ _ _ (is "}" (byte s p)) (omega arith) tt))
    (signed-on s opened at (at + 2) (at + 1) (omega arith))

name_up_to-on : (closer : Char) (s : List ℕ) (place at n : ℕ) → n ≤ at → Given (name_up_to closer s place at) (Past n)
unfolding name_up_to
name_up_to-on closer s place at n h = let w = word_at s at in if-given _ _ _ (is_name w && is closer (byte s (at + length w))) (omega arith) tt

called_on : (s : List ℕ) (at : ℕ) → Given (called s at) (Past (at + 1))
unfolding called
called_on s at =
    let b = byte s (at + 2) in
    if-given _ _ _ (is "{" b) (name_up_to-on "}" s at (at + 3) (at + 1) (omega arith))
    (if-given _ _ _ (is "<" b) (name_up_to-on ">" s at (at + 3) (at + 1) (omega arith))
    (if-given _ _ _ (is "'" b) (name_up_to-on "'" s at (at + 3) (at + 1) (omega arith)) tt))

escape-on : (s : List ℕ) (folded : Bool) (known : Names) (opened at : ℕ) → Given (escape s folded known opened at) (Past (at + 1))
unfolding escape
escape-on s folded known opened at =
    let b = byte s (at + 1) in
    let h : at + 1 ≤ at + 2 = omega arith in
    if-given _ _ _ (is "N" b) h (if-given _ _ _ (is "A" b) h (if-given _ _ _ (is "z" b) h (if-given _ _ _ (is "Z" b) h (if-given _ _ _ (is "b" b) h (if-given _ _ _ (is "B" b) h
    (if-given _ _ _ (is "0" b) (then-given (Past (at + 1)) (Past (at + 1)) (octal s at) _ (octal-on s at) (λ m p l. l))
    (if-given _ _ _ (between "1" "9" b) (then-given (Past (at + 1)) (Past (at + 1)) (decimal s at (at + 1)) _ (decimal-on s at (at + 1) (at + 1) (omega arith)) (λ m p l. l))
    (if-given _ _ _ (is "k" b) (then-given (Past (at + 1)) (Past (at + 1)) (called s at) _ (called_on s at) (λ m p l. l))
    (if-given _ _ _ (is "g" b && calls_by_name s at) (then-given (Past (at + 1)) (Past (at + 1)) (name_up_to "}" s at (at + 3)) _ (name_up_to-on "}" s at (at + 3) (at + 1) (omega arith)) (λ m p l. l))
    (if-given _ _ _ (is "g" b) (then-given (Past (at + 1)) (Past (at + 1)) (group_number s opened at) _ (group_number-on s opened at) (λ m p l. l))
    (then-given (Past (at + 1)) (Past (at + 1)) (common s at) _ (common-on s at) (λ m p l. l))))))))))))

-- Classes --------------------------------------------------------------------

posix_member-on : (at : ℕ) (negated : Bool) (o : Option Named) (next n : ℕ) → n ≤ next → Given (posix_member at negated o next) (Past n)
unfolding posix_member
posix_member-on at negated none next n h = tt
posix_member-on at true (some x) next n h = h
posix_member-on at false (some x) next n h = h

posix_name-on : (s : List ℕ) (at : ℕ) (negated : Bool) (start : ℕ) → at + 1 ≤ start → Given (posix_name s at negated start) (Past (at + 1))
unfolding posix_name
posix_name-on s at negated start h =
    let next = start + length (letters s start) in
    if-given _ _ _ (is ":" (byte s next) && is "]" (byte s (next + 1))) (posix_member-on at negated (set_named (letters s start)) (next + 2) (at + 1) (omega arith)) (omega arith)

posix-on : (s : List ℕ) (at : ℕ) → Given (posix s at) (Past (at + 1))
unfolding posix
posix-on s at = if-given _ _ _ (not (is ":" (byte s (at + 1)))) (omega arith)
    (if-given _ _ _ (is "^" (byte s (at + 2))) (posix_name-on s at true (at + 3) (omega arith)) (posix_name-on s at false (at + 2) (omega arith)))

element-on : (s : List ℕ) (from at : ℕ) → Given (element s from at) (Past (at + 1))
unfolding element
element-on s from at =
    let b = byte s at in
    if-given _ _ _ (is_end b) tt (if-given _ _ _ (is "\\" b) (class_escape-on s at) (if-given _ _ _ (is "[" b) (posix-on s at) (omega arith)))

range_of-on : (strict : Bool) (at : ℕ) (low high : Option ℕ) (next n : ℕ) → n ≤ next → Given (range_of strict at low high next) (Past n)
unfolding range_of
range_of-on strict at none high next n h = tt
range_of-on strict at (some a) none next n h = tt
range_of-on strict at (some a) (some b) next n h = if-given _ _ _ (not (leb a b)) tt (if-given _ _ _ (strict && not (alike a b)) tt h)

pub member-on : (s : List ℕ) (strict : Bool) (from at : ℕ) → Given (member s strict from at) (Past (at + 1))
unfolding member
member-on s strict from at = then-given (Past (at + 1)) (Past (at + 1)) (element s from at) _ (element-on s from at) (λ low p l.
    if-given _ _ _ (makes_range s p)
    (then-given (Past (p + 1 + 1)) (Past (at + 1)) (element s from (p + 1)) _ (element-on s from (p + 1)) (λ high q m. range_of-on strict at (range_end low) (range_end high) q (at + 1) (omega arith)))
    (omega arith))

members-on : (f : ℕ) (s : List ℕ) (strict : Bool) (from : ℕ) (first : Bool) (before : List Member) (at n : ℕ) → n ≤ at → Given (members f s strict from first before at) (Past n)
unfolding members
members-on zero s strict from first before at n h = tt
members-on (suc f) s strict from first before at n h = if-given _ _ _ (is "]" (byte s at) && not first) (omega arith)
    (then-given (Past (at + 1)) (Past n) (member s strict from at) _ (member-on s strict from at) (λ m p l. members-on f s strict from false (m ∷ before) p n (omega arith)))

class-on : (s : List ℕ) (strict : Bool) (from : ℕ) → Given (class s strict from) (Past (from + 1))
unfolding class
class-on s strict from = if-given _ _ _ (is "^" (byte s (from + 1)))
    (then-given (Past (from + 1)) (Past (from + 1)) (members (length s) s strict from true [] (from + 2)) _ (members-on (length s) s strict from true [] (from + 2) (from + 1) (omega arith)) (λ ms p l. l))
    (then-given (Past (from + 1)) (Past (from + 1)) (members (length s) s strict from true [] (from + 1)) _ (members-on (length s) s strict from true [] (from + 1) (from + 1) (omega arith)) (λ ms p l. l))

-- Repeats --------------------------------------------------------------------

-- P holds of a repeat's bounds, of whether it is possessive, and of the position behind it
abbrev pub Holding : Quantifier → (ℕ → Most → Bool → ℕ → Type 0) → Type 0
Holding Absent P = Unit
Holding Stray P = Unit
Holding Unfit P = Unit
Holding (Times n m g keeps next) P = P n m keeps next

pub if-holding : (P : ℕ → Most → Bool → ℕ → Type 0) (x y : Quantifier) (b : Bool) → (b ≡ true → Holding x P) → (b ≡ false → Holding y P) → Holding (if b then x else y) P
if-holding P x y true g h = g refl
if-holding P x y false g h = h refl

-- a repeat's bounds fit, and it ends at a position or behind it, a possessive one behind it
abbrev pub Bounded : ℕ → ℕ → Most → Bool → ℕ → Type 0
Bounded p n m keeps next = BoundsFit n m × (p ≤ next) × (keeps ≡ true → p < next)

clash : false ≡ true → ⊥
clash e = let bad : ◌≡◌ {A = ℕ} 0 1 = cc in omega arith

with_greed-on : (s : List ℕ) (n : ℕ) (m : Most) (at p : ℕ) → BoundsFit n m → p ≤ at → Holding (with_greed s n m at) (Bounded p)
unfolding with_greed
with_greed-on s n m at p h l = if-holding _ _ _ (is "?" (byte s at)) (λ e. (h, omega arith, λ k. omega arith)) (λ e.
    if-holding _ _ _ (is "+" (byte s at)) (λ e. (h, omega arith, λ k. omega arith)) (λ e. (h, l, λ k. absurd (clash k))))

at_least-on : (s : List ℕ) (n at p : ℕ) → p ≤ at → Holding (at_least s n at) (Bounded p)
unfolding at_least
at_least-on s n at p l = if-holding _ _ _ (leb n bound_limit) (λ e. with_greed-on s n Unlimited at p (leb-true n bound_limit e) l) (λ e. tt)

from_to-on : (s : List ℕ) (n m at p : ℕ) → p ≤ at → Holding (from_to s n m at) (Bounded p)
unfolding from_to
from_to-on s n m at p l = if-holding _ _ _ (leb n m && leb m bound_limit)
    (λ e. with_greed-on s n (AtMost m) at p (leb-true n m (and_left (leb n m) (leb m bound_limit) e), leb-true m bound_limit (and_right (leb n m) (leb m bound_limit) e)) l) (λ e. tt)

upper-on : (s : List ℕ) (n at p : ℕ) → p ≤ at → Holding (upper s n at) (Bounded p)
unfolding upper
upper-on s n at p l =
    let ds = digits 10 s at in
    if-holding _ _ _ (is "}" (byte s at)) (λ e. at_least-on s n (at + 1) p (omega arith)) (λ e.
    if-holding _ _ _ (is_none ds) (λ e. tt) (λ e.
    if-holding _ _ _ (is "}" (byte s (at + length ds))) (λ e. from_to-on s n (value 10 ds) (at + length ds + 1) p (omega arith)) (λ e. tt)))

braces-on : (s : List ℕ) (at p : ℕ) → p ≤ at → Holding (braces s at) (Bounded p)
unfolding braces
braces-on s at p l =
    let ds = digits 10 s at in
    let next = at + length ds in
    if-holding _ _ _ (is_none ds) (λ e. tt) (λ e.
    if-holding _ _ _ (is "}" (byte s next)) (λ e. from_to-on s (value 10 ds) (value 10 ds) (next + 1) p (omega arith)) (λ e.
    if-holding _ _ _ (is "," (byte s next)) (λ e. upper-on s (value 10 ds) (next + 1) p (omega arith)) (λ e. tt)))

pub quantifier-on : (s : List ℕ) (at : ℕ) → Holding (quantifier s at) (Bounded (at + 1))
unfolding quantifier bound_limit
quantifier-on s at =
    let b = byte s at in
    if-holding _ _ _ (is "*" b) (λ e. with_greed-on s 0 Unlimited (at + 1) (at + 1) (omega arith) (omega arith)) (λ e.
    if-holding _ _ _ (is "+" b) (λ e. with_greed-on s 1 Unlimited (at + 1) (at + 1) (omega arith) (omega arith)) (λ e.
    if-holding _ _ _ (is "?" b) (λ e. with_greed-on s 0 (AtMost 1) (at + 1) (at + 1) (omega arith, omega arith) (omega arith)) (λ e.
    if-holding _ _ _ (is "{" b) (λ e. braces-on s (at + 1) (at + 1) (omega arith)) (λ e. tt))))

-- Items, sequences and groups ------------------------------------------------

unfoldable pub Forward : Inner → Type 0
Forward inner = (opening n : ℕ) (head : Read Names) → Given head (Past n) → Given (inner opening head) (Past n)

pub atom-on : (s : List ℕ) (flags : ℕ) (known : Names) (opened at : ℕ) → Given (atom s flags known opened at) (Past (at + 1))
unfolding atom
atom-on s flags known opened at =
    let b = byte s at in
    let h : at + 1 ≤ at + 1 = omega arith in
    if-given _ _ _ (is "\\" b) (escape-on s (ignore_case flags) known opened at)
    (if-given _ _ _ (is "[" b) (then-given (Past (at + 1)) (Past (at + 1)) (class s (depot flags) at) _ (class-on s (depot flags) at) (λ c p l. l))
    (if-given _ _ _ (is "." b) h (if-given _ _ _ (is "^" b) h (if-given _ _ _ (is "$" b) h h))))

closing-on : (s : List ℕ) (opening : ℕ) (t : Rule) (opened : Names) (at n : ℕ) → n ≤ at → Given (closing s opening t opened at) (Past n)
unfolding closing
closing-on s opening t opened at n h = if-given _ _ _ (is ")" (byte s at)) (omega arith) tt

fresh_on : (place : ℕ) (opened : Names) (name : Read Name) (n : ℕ) → Given name (Past n) → Given (fresh place opened name) (Past n)
unfolding fresh
fresh_on place opened name n h = then-given (Past n) (Past n) name _ h (λ x p l. if-given _ _ _ (is_used x opened) tt l)

capturing-on : (s : List ℕ) (inner : Inner) (at : ℕ) (opened : Names) (name : Read Name) → Forward inner → Given name (Past (at + 1)) → Given (capturing s inner at opened name) (Past (at + 1))
unfolding capturing Forward
capturing-on s inner at opened name h g = if-given _ _ _ (ltb (length opened) group_limit)
    (then-given (Past (at + 1)) (Past (at + 1)) (inner at (and_then name (λ n p. sound (n ∷ opened) p))) _ (h at (at + 1) _ (then-given (Past (at + 1)) (Past (at + 1)) name _ g (λ n p l. l)))
    (λ r p l. closing-on s at (enclosed (Captured (suc (length opened))) at r.0) r.1 p (at + 1) l))
    tt

uncaptured-on : (s : List ℕ) (inner : Inner) (at : ℕ) (opened : Names) (form : Form) → Forward inner → Given (uncaptured s inner at opened form) (Past (at + 1))
unfolding uncaptured Forward
uncaptured-on s inner at opened form h =
    then-given (Past (at + 3)) (Past (at + 1)) (inner at (sound opened (at + 3))) _ (h at (at + 3) (sound opened (at + 3)) (omega arith)) (λ r p l. closing-on s at (enclosed form at r.0) r.1 p (at + 1) (omega arith))

grouped-on : (s : List ℕ) (inner : Inner) (at : ℕ) (opened : Names) → Forward inner → Given (grouped s inner at opened) (Past (at + 1))
unfolding grouped
grouped-on s inner at opened h =
    let b = byte s (at + 2) in
    if-given _ _ _ (not (is "?" (byte s (at + 1)))) (capturing-on s inner at opened _ h (omega arith))
    (if-given _ _ _ (is ":" b) (uncaptured-on s inner at opened Grouped h)
    (if-given _ _ _ (is ">" b) (uncaptured-on s inner at opened Held h)
    (if-given _ _ _ (is "=" b) (uncaptured-on s inner at opened Ahead h)
    (if-given _ _ _ (is "!" b) (uncaptured-on s inner at opened NotAhead h)
    (if-given _ _ _ (is "<" b) (capturing-on s inner at opened _ h (fresh_on at opened _ (at + 1) (name_up_to-on ">" s at (at + 3) (at + 1) (omega arith)))) tt)))))

next_item-on : (s : List ℕ) (flags : ℕ) (known : Names) (inner : Inner) (q : Sequence) (opened : Names) (at : ℕ) → Forward inner → Given (next_item s flags known inner q opened at) (Past (at + 1))
unfolding next_item
next_item-on s flags known inner q opened at h = if-given _ _ _ (is "(" (byte s at))
    (then-given (Past (at + 1)) (Past (at + 1)) (grouped s inner at opened) _ (grouped-on s inner at opened h) (λ r p l. l))
    (if-given _ _ _ (breaks_line s at) (omega arith)
    (then-given (Past (at + 1)) (Past (at + 1)) (atom s flags known (length opened) at) _ (atom-on s flags known (length opened) at) (λ i p l. l)))

unfit_for-on : (q : Sequence) (at n : ℕ) → Given (unfit_for q at) (Past n)
unfolding unfit_for
unfit_for-on (unrepeatable t) at n = tt
unfit_for-on (repeatable b l) at n = tt
unfit_for-on (repeated t) at n = tt

repeating-on : (q : Sequence) (at n : ℕ) (m : Most) (g : Greed) (keeps : Bool) (opened : Names) (next p : ℕ) → p ≤ next → Given (repeating q at n m g keeps opened next) (Past p)
unfolding repeating
repeating-on (unrepeatable t) at n m g keeps opened next p h = tt
repeating-on (repeatable b l) at n m g keeps opened next p h = h
repeating-on (repeated t) at n m g keeps opened next p h = tt

part_by : (s : List ℕ) (flags : ℕ) (known : Names) (inner : Inner) (q : Sequence) (opened : Names) (at : ℕ) (x : Quantifier) → Forward inner → Holding x (Bounded (at + 1)) → Given (part s flags known inner q opened at x) (Past (at + 1))
unfolding part
part_by s flags known inner q opened at Absent h k = next_item-on s flags known inner q opened at h
part_by s flags known inner q opened at Stray h k = tt
part_by s flags known inner q opened at Unfit h k = unfit_for-on q at (at + 1)
part_by s flags known inner q opened at (Times n m g keeps next) h k = repeating-on q at n m g keeps opened next (at + 1) k.1

pub part-on : (s : List ℕ) (flags : ℕ) (known : Names) (inner : Inner) (q : Sequence) (opened : Names) (at : ℕ) → Forward inner → Given (part s flags known inner q opened at (quantifier s at)) (Past (at + 1))
part-on s flags known inner q opened at h = part_by s flags known inner q opened at (quantifier s at) h (quantifier-on s at)

pub sequence-on : (f : ℕ) (s : List ℕ) (flags : ℕ) (known : Names) (inner : Inner) (q : Sequence) (opened : Names) (at n : ℕ) → Forward inner → n ≤ at → Given (sequence f s flags known inner q opened at) (Past n)
unfolding sequence
sequence-on zero s flags known inner q opened at n h l = l
sequence-on (suc f) s flags known inner q opened start n h l =
    let at = behind_blanks s flags start in
    let on : n ≤ at = omega (arith, blanks-on s flags start) in
    if-given _ _ _ (ends (byte s at)) on
    (then-given (Past (at + 1)) (Past n) (part s flags known inner q opened at (quantifier s at)) _ (part-on s flags known inner q opened at h) (λ r p k. sequence-on f s flags known inner r.0 r.1 p n h (omega arith)))

pub branch-on : (s : List ℕ) (flags : ℕ) (known : Names) (inner : Inner) (opened : Names) (at : ℕ) → Forward inner → Given (branch s flags known inner opened at) (Past at)
unfolding branch
branch-on s flags known inner opened at h = sequence-on (length s) s flags known inner (unrepeatable empty) opened at at h (omega arith)

further-on : (f : ℕ) (s : List ℕ) (flags : ℕ) (known : Names) (inner : Inner) (bs : Branches) (opened : Names) (at n : ℕ) → Forward inner → n ≤ at → Given (further f s flags known inner bs opened at) (Past n)
unfolding further
further-on zero s flags known inner bs opened at n h l = l
further-on (suc f) s flags known inner bs opened at n h l = if-given _ _ _ (is "|" (byte s at))
    (then-given (Past (at + 1)) (Past n) (branch s flags known inner opened (at + 1)) _ (branch-on s flags known inner opened (at + 1) h) (λ r p k. further-on f s flags known inner (also bs at r.0) r.1 p n h (omega arith)))
    l

alternation-on : (s : List ℕ) (flags : ℕ) (known : Names) (inner : Inner) (opened : Names) (at : ℕ) → Forward inner → Given (alternation s flags known inner opened at) (Past at)
unfolding alternation
alternation-on s flags known inner opened at h = then-given (Past at) (Past at) (branch s flags known inner opened at) _ (branch-on s flags known inner opened at h) (λ r p l. further-on (length s) s flags known inner (one r.0) r.1 p at h l)

-- the inside of a group ends behind its beginning
pub inside_on : (d : ℕ) (s : List ℕ) (flags : ℕ) (known : Names) → Forward (inside d s flags known)
unfolding inside Forward
inside_on zero s flags known opening n head g = tt
inside_on (suc d) s flags known opening n head g = then-given (Past n) (Past n) head _ g (λ opened at l.
    given-less (Past at) (Past n) (alternation s flags known (inside d s flags known) opened at) (alternation-on s flags known (inside d s flags known) opened at (inside_on d s flags known)) (λ r p k. omega arith))
