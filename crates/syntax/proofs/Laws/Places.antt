-- Every refusal of a rule has its place within the rule. Most parts are refused where they begin; a reference and a repeat also where they
-- stand in the tree, so that the places in a tree are followed too.
-- docs/REFERENCE.md, 10.1
use Rattle.std.specs.Prelude.{◌≡◌, refl, Bool, ◌&&◌, ◌||◌, ltb, leb, eqb, if◌then◌else◌}
use mathlib.Core.List.{List, [], ◌∷◌}
use Rattle.std.proofs.Math.Bool.{true, false, not}
use Rattle.std.proofs.Math.Option.{Option, none, some}
use Prim.Native.Char.{Char}
use Prim.Native.Nat.{ℕ, zero, suc, ◌+◌, ◌-◌, ◌≤◌, ◌<◌}
use native.Mathlib.Omega.{arith}
use Rattle.std.proofs.Math.ListN.{length, take}
use Rattle.syntax.specs.declared.Reason.{Reason}
use Rattle.syntax.specs.declared.Reason.TheVariants.{NoSuchGroup, BarredReference, IdleRepeat}
use Rattle.syntax.specs.declared.Form.{Form}
use Rattle.syntax.specs.declared.Form.TheVariants.{Grouped, Captured, Held, Ahead, NotAhead}
use Rattle.syntax.specs.declared.Greed.{Greed}
use Rattle.syntax.specs.declared.Most.{Most}
use Rattle.syntax.specs.declared.Quantifier.{Quantifier}
use Rattle.syntax.specs.declared.Quantifier.TheVariants.{Absent, Stray, Unfit, Times}
use Rattle.charset.specs.declared.Named.{Named}
use Rattle.charset.specs.declared.Named.TheVariants.{Word}
use Rattle.charset.specs.Named.{in_named}
use Rattle.syntax.specs.Limits.{group_limit, byte_limit, nesting_limit}
use Rattle.syntax.specs.Read.{byte, is_end, is, between, Read, sound, refused, and_then}
use Rattle.syntax.specs.Sets.{set_named, Member, single}
use Rattle.syntax.specs.Tree.{Item, byte_in, assert, reference, Rule, empty, item, seq, alt, group, repeat, held, look, Branches, one, also, alternatives, enclosed, possessive, line_break}
use Rattle.syntax.specs.Numbers.{digits, value, is_none}
use Rattle.syntax.specs.Names.{Name, Names, word_at, is_name, name_up_to, is_used, fresh}
use Rattle.syntax.specs.Flags.{ignore_case, depot}
use Rattle.syntax.specs.Escapes.{called, calls_by_name, Meaning, ◌means◌, meanings, byte_of, braced, hex, braced_octal, octal, control, letter, common, class_escape, decimal, signed, group_number, escape}
use Rattle.syntax.specs.Classes.{letters, posix_member, posix_name, posix, element, range_end, alike, range_of, makes_range, member, members, class}
use Rattle.syntax.specs.Quantifiers.{quantifier}
use Rattle.syntax.specs.Grammar.{behind_blanks, atom, Inner, closing, capturing, uncaptured, grouped, Sequence, unrepeatable, repeatable, repeated, whole, with_item, unfit_for, repeating, breaks_line, next_item, part, ends, sequence, branch, further, alternation, inside}
use Rattle.syntax.specs.Lengths.{least_length, unbounded}
use Rattle.syntax.specs.Reading.{parsed, names_of, first_some, dangling, unresolved, unresolved_in, idle, idle_in, unless, profiled, settled, reading}
use Rattle.syntax.specs.Laws.Forward.{Given, test-given, then-given, Holding}
use Rattle.syntax.specs.Laws.Within.{name_up_to-in, Upto, UptoIn, Inward, not_end, is-in, quantifier-in, part_by, ends-false, alternation-in, inside-in}

-- if a reading is refused, its place is n at most
abbrev pub Placed : {A : Type 0} → ℕ → Read A → Type 0
Placed n (sound a at) = Unit
Placed n (refused p r) = p ≤ n

if-placed : {A : Type 0} (n : ℕ) (x y : Read A) (b : Bool) → Placed n x → Placed n y → Placed n (if b then x else y)
if-placed n x y true g h = g
if-placed n x y false g h = h

test-placed : {A : Type 0} (n : ℕ) (x y : Read A) (b : Bool) → (b ≡ true → Placed n x) → (b ≡ false → Placed n y) → Placed n (if b then x else y)
test-placed n x y true g h = g refl
test-placed n x y false g h = h refl

then-placed : {A B : Type 0} (n : ℕ) (P : A → ℕ → Type 0) (a : Read A) (k : A → ℕ → Read B) → Placed n a → Given a P → ((x : A) (p : ℕ) → P x p → Placed n (k x p)) → Placed n (and_then a k)
then-placed n P (sound a at) k g f h = h a at f
then-placed n P (refused p r) k g f h = g

any-given : {A : Type 0} (x : Read A) (Q : Type 0) → Q → Given x (λ a p. Q)
any-given (sound a at) Q q = q
any-given (refused p r) Q q = tt

on-placed : {A B : Type 0} (n : ℕ) (a : Read A) (k : A → ℕ → Read B) → Placed n a → ((x : A) (p : ℕ) → Placed n (k x p)) → Placed n (and_then a k)
on-placed n a k g h = then-placed n (λ x p. Unit) a k g (any-given a Unit tt) (λ x p u. h x p)

-- Escapes: each is refused at its backslash -------------------------------------

module _ (n at : ℕ) (h : at ≤ n) where
  byte_of-placed : (v next : ℕ) → Placed n (byte_of at v next)
  unfolding byte_of
  byte_of-placed v next = if-placed n _ _ (leb v byte_limit) tt h

  braced-placed : (base : ℕ) (s : List ℕ) (start : ℕ) → Placed n (braced base s at start)
  unfolding braced
  braced-placed base s start =
      let ds = digits base s start in
      if-placed n _ _ (is_none ds) h (if-placed n _ _ (is "}" (byte s (start + length ds))) (byte_of-placed (value base ds) (start + length ds + 1)) h)

  hex-placed : (s : List ℕ) → Placed n (hex s at)
  unfolding hex
  hex-placed s =
      let ds = take 2 (digits 16 s (at + 2)) in
      if-placed n _ _ (is "{" (byte s (at + 2))) (braced-placed 16 s (at + 3)) (if-placed n _ _ (eqb (length ds) 2) (byte_of-placed (value 16 ds) (at + 4)) h)

  braced_octal-placed : (s : List ℕ) → Placed n (braced_octal s at)
  unfolding braced_octal
  braced_octal-placed s = if-placed n _ _ (is "{" (byte s (at + 2))) (braced-placed 8 s (at + 3)) h

  octal-placed : (s : List ℕ) → Placed n (octal s at)
  unfolding octal
  octal-placed s = let ds = take 3 (digits 8 s (at + 1)) in byte_of-placed (value 8 ds) (at + 1 + length ds)

  control-placed : (s : List ℕ) → Placed n (control s at)
  unfolding control
  control-placed s =
      let b = byte s (at + 2) in
      if-placed n _ _ (between "a" "z" b) tt
      (if-placed n _ _ (between "A" "Z" b) tt (if-placed n _ _ (is "@" b || is "[" b || is "]" b || is "^" b || is "_" b || is "?" b) tt h))

  letter-placed : (ms : List Meaning) (b : ℕ) → Placed n (letter ms at b)
  unfolding letter
  letter-placed [] b = h
  letter-placed (c means m ∷ others) b = if-placed n _ _ (is c b) tt (letter-placed others b)

  common-placed : (s : List ℕ) → Placed n (common s at)
  unfolding common
  common-placed s =
      let b = byte s (at + 1) in
      if-placed n _ _ (is_end b) h
      (if-placed n _ _ (not (in_named Word b)) tt
      (if-placed n _ _ (is "x" b) (hex-placed s) (if-placed n _ _ (is "o" b) (braced_octal-placed s) (if-placed n _ _ (is "c" b) (control-placed s) (letter-placed meanings b)))))

  class_escape-placed : (s : List ℕ) → Placed n (class_escape s at)
  unfolding class_escape
  class_escape-placed s =
      let b = byte s (at + 1) in
      if-placed n _ _ (is "b" b) tt (if-placed n _ _ (between "0" "7" b) (octal-placed s) (common-placed s))

  decimal-placed : (s : List ℕ) (start : ℕ) → Placed n (decimal s at start)
  unfolding decimal
  decimal-placed s start = if-placed n _ _ (is_none (digits 10 s start)) h tt

  signed-placed : (s : List ℕ) (opened start : ℕ) → Placed n (signed s opened at start)
  unfolding signed
  signed-placed s opened start =
      if-placed n _ _ (is "-" (byte s start)) (on-placed n (decimal s at (start + 1)) _ (decimal-placed s (start + 1)) (λ x p. tt)) (on-placed n (decimal s at start) _ (decimal-placed s start) (λ x p. tt))

  group_number-placed : (s : List ℕ) (opened : ℕ) → Placed n (group_number s opened at)
  unfolding group_number
  group_number-placed s opened =
      if-placed n _ _ (is "{" (byte s (at + 2)))
      (on-placed n (signed s opened at (at + 3)) _ (signed-placed s opened (at + 3)) (λ x p. if-placed n _ _ (is "}" (byte s p)) tt h))
      (signed-placed s opened (at + 2))

  name_up_to-placed : (closer : Char) (s : List ℕ) (start : ℕ) → Placed n (name_up_to closer s at start)
  unfolding name_up_to
  name_up_to-placed closer s start = let w = word_at s start in if-placed n _ _ (is_name w && is closer (byte s (start + length w))) tt h

  called-placed : (s : List ℕ) → Placed n (called s at)
  unfolding called
  called-placed s =
      let b = byte s (at + 2) in
      if-placed n _ _ (is "{" b) (name_up_to-placed "}" s (at + 3)) (if-placed n _ _ (is "<" b) (name_up_to-placed ">" s (at + 3)) (if-placed n _ _ (is "'" b) (name_up_to-placed "'" s (at + 3)) h))

  escape-placed : (s : List ℕ) (folded : Bool) (known : Names) (opened : ℕ) → Placed n (escape s folded known opened at)
  unfolding escape
  escape-placed s folded known opened =
      let b = byte s (at + 1) in
      if-placed n _ _ (is "N" b) tt
      (if-placed n _ _ (is "A" b) tt
      (if-placed n _ _ (is "z" b) tt
      (if-placed n _ _ (is "Z" b) tt
      (if-placed n _ _ (is "b" b) tt
      (if-placed n _ _ (is "B" b) tt
      (if-placed n _ _ (is "0" b) (on-placed n (octal s at) _ (octal-placed s) (λ x p. tt))
      (if-placed n _ _ (between "1" "9" b) (on-placed n (decimal s at (at + 1)) _ (decimal-placed s (at + 1)) (λ x p. tt))
      (if-placed n _ _ (is "k" b) (on-placed n (called s at) _ (called-placed s) (λ x p. tt))
      (if-placed n _ _ (is "g" b && calls_by_name s at) (on-placed n (name_up_to "}" s at (at + 3)) _ (name_up_to-placed "}" s (at + 3)) (λ x p. tt))
      (if-placed n _ _ (is "g" b) (on-placed n (group_number s opened at) _ (group_number-placed s opened) (λ x p. tt))
      (on-placed n (common s at) _ (common-placed s) (λ x p. tt))))))))))))

  posix_member-placed : (negated : Bool) (o : Option Named) (next : ℕ) → Placed n (posix_member at negated o next)
  unfolding posix_member
  posix_member-placed negated none next = h
  posix_member-placed true (some x) next = tt
  posix_member-placed false (some x) next = tt

  posix_name-placed : (s : List ℕ) (negated : Bool) (start : ℕ) → Placed n (posix_name s at negated start)
  unfolding posix_name
  posix_name-placed s negated start =
      let next = start + length (letters s start) in
      if-placed n _ _ (is ":" (byte s next) && is "]" (byte s (next + 1))) (posix_member-placed negated (set_named (letters s start)) (next + 2)) tt

  posix-placed : (s : List ℕ) → Placed n (posix s at)
  unfolding posix
  posix-placed s = if-placed n _ _ (not (is ":" (byte s (at + 1)))) tt (if-placed n _ _ (is "^" (byte s (at + 2))) (posix_name-placed s true (at + 3)) (posix_name-placed s false (at + 2)))

  range_of-placed : (strict : Bool) (low high : Option ℕ) (next : ℕ) → Placed n (range_of strict at low high next)
  unfolding range_of
  range_of-placed strict none high next = h
  range_of-placed strict (some a) none next = h
  range_of-placed strict (some a) (some b) next = if-placed n _ _ (not (leb a b)) h (if-placed n _ _ (strict && not (alike a b)) h tt)

-- Classes ---------------------------------------------------------------------------

module _ (s : List ℕ) (strict : Bool) (from : ℕ) (h : from ≤ length s) where
  element-placed : (at : ℕ) → Placed (length s) (element s from at)
  unfolding element
  element-placed at =
      let b = byte s at in
      test-placed (length s) _ _ (is_end b) (λ e. h) (λ e. let i = not_end s at e in
      if-placed (length s) _ _ (is "\\" b) (class_escape-placed (length s) at (omega arith) s) (if-placed (length s) _ _ (is "[" b) (posix-placed (length s) at (omega arith) s) tt))

  -- a sound element is there
  element-there : (at : ℕ) → Given (element s from at) (λ x p. at < length s)
  unfolding element
  element-there at =
      let b = byte s at in
      test-given _ _ _ (is_end b) (λ e. tt) (λ e. any-given (if is "\\" b then class_escape s at else if is "[" b then posix s at else sound (single b) (at + 1)) (at < length s) (not_end s at e))

  member-placed : (at : ℕ) → Placed (length s) (member s strict from at)
  unfolding member
  member-placed at = then-placed (length s) (λ x p. at < length s) (element s from at) _ (element-placed at) (element-there at) (λ low p l.
      if-placed (length s) _ _ (makes_range s p)
      (on-placed (length s) (element s from (p + 1)) _ (element-placed (p + 1)) (λ high q. range_of-placed (length s) at (omega arith) strict (range_end low) (range_end high) q))
      tt)

  members-placed : (f : ℕ) (first : Bool) (before : List Member) (at : ℕ) → Placed (length s) (members f s strict from first before at)
  unfolding members
  members-placed zero first before at = h
  members-placed (suc f) first before at = if-placed (length s) _ _ (is "]" (byte s at) && not first) tt
      (on-placed (length s) (member s strict from at) _ (member-placed at) (λ m p. members-placed f false (m ∷ before) p))

  class-placed : Placed (length s) (class s strict from)
  unfolding class
  class-placed = if-placed (length s) _ _ (is "^" (byte s (from + 1)))
      (on-placed (length s) (members (length s) s strict from true [] (from + 2)) _ (members-placed (length s) true [] (from + 2)) (λ ms p. tt))
      (on-placed (length s) (members (length s) s strict from true [] (from + 1)) _ (members-placed (length s) true [] (from + 1)) (λ ms p. tt))

-- Places in a tree ---------------------------------------------------------------------

-- all items, repeats, bars, held parts and lookings ahead of a tree stand at n at most
abbrev mutual
  pub ItemsIn : ℕ → Rule → Type 0
  ItemsIn n empty = Unit
  ItemsIn n (item at i) = at ≤ n
  ItemsIn n (seq a b) = ItemsIn n a × ItemsIn n b
  ItemsIn n (alt bs bar b) = BranchesIn n bs × (bar ≤ n) × ItemsIn n b
  ItemsIn n (group k a) = ItemsIn n a
  ItemsIn n (repeat at l m g a) = (at ≤ n) × ItemsIn n a
  ItemsIn n (held at a) = (at ≤ n) × ItemsIn n a
  ItemsIn n (look at negative a) = (at ≤ n) × ItemsIn n a

  pub BranchesIn : ℕ → Branches → Type 0
  BranchesIn n (one a) = ItemsIn n a
  BranchesIn n (also bs bar b) = BranchesIn n bs × (bar ≤ n) × ItemsIn n b

-- what the grammar's parts give: a tree with its items in place, or a sequence of such
abbrev Treed : ℕ → Rule × Names → ℕ → Type 0
Treed n r p = ItemsIn n r.0

unfoldable SequenceIn : ℕ → Sequence → Type 0
SequenceIn n (unrepeatable t) = ItemsIn n t
SequenceIn n (repeatable t l) = ItemsIn n t × ItemsIn n l
SequenceIn n (repeated t) = ItemsIn n t

abbrev Sequenced : ℕ → Sequence × Names → ℕ → Type 0
Sequenced n r p = SequenceIn n r.0

whole_in : (n : ℕ) (q : Sequence) → SequenceIn n q → ItemsIn n (whole q)
unfolding whole SequenceIn
whole_in n (unrepeatable t) h = h
whole_in n (repeatable t l) h = h
whole_in n (repeated t) h = h

with_item-in : (n : ℕ) (q : Sequence) (at : ℕ) (i : Item) → SequenceIn n q → at ≤ n → SequenceIn n (with_item q at i)
unfolding with_item SequenceIn
with_item-in n q at (byte_in folded c) h l = (whole_in n q h, l)
with_item-in n q at (assert a) h l = (whole_in n q h, l)
with_item-in n q at (reference folded k) h l = (whole_in n q h, l)

alternatives-in : (n : ℕ) (bs : Branches) → BranchesIn n bs → ItemsIn n (alternatives bs)
unfolding alternatives
alternatives-in n (one a) h = h
alternatives-in n (also bs bar b) h = h

enclosed-in : (n : ℕ) (form : Form) (at : ℕ) (t : Rule) → at ≤ n → ItemsIn n t → ItemsIn n (enclosed form at t)
unfolding enclosed
enclosed-in n Grouped at t l h = h
enclosed-in n (Captured k) at t l h = h
enclosed-in n Held at t l h = (l, h)
enclosed-in n Ahead at t l h = (l, h)
enclosed-in n NotAhead at t l h = (l, h)

possessive-in : (n : ℕ) (keeps : Bool) (at : ℕ) (t : Rule) → at ≤ n → ItemsIn n t → ItemsIn n (possessive keeps at t)
unfolding possessive
possessive-in n true at t l h = (l, (tt, h))
possessive-in n false at t l h = h

break-in : (n at : ℕ) → at ≤ n → ItemsIn n (line_break at)
unfolding line_break
break-in n at h = (h, (((tt, h), h), h, (tt, h)))

-- Items, sequences and groups ---------------------------------------------------------

-- a reading's refusal is placed, and so are the items of its tree
abbrev Well : {A : Type 0} → ℕ → (A → ℕ → Type 0) → Read A → Type 0
Well n P x = Placed n x × Given x P

well-if : {A : Type 0} (n : ℕ) (P : A → ℕ → Type 0) (x y : Read A) (b : Bool) → Well n P x → Well n P y → Well n P (if b then x else y)
well-if n P x y true g h = g
well-if n P x y false g h = h

well-test : {A : Type 0} (n : ℕ) (P : A → ℕ → Type 0) (x y : Read A) (b : Bool) → (b ≡ true → Well n P x) → (b ≡ false → Well n P y) → Well n P (if b then x else y)
well-test n P x y true g h = g refl
well-test n P x y false g h = h refl

well-then : {A B : Type 0} (n : ℕ) (P Q : A → ℕ → Type 0) (R : B → ℕ → Type 0) (a : Read A) (k : A → ℕ → Read B) → Well n P a → Given a Q → ((x : A) (p : ℕ) → P x p → Q x p → Well n R (k x p)) → Well n R (and_then a k)
well-then n P Q R (sound a at) k g f h = h a at g.1 f
well-then n P Q R (refused p r) k g f h = (g.0, tt)

well-on : {A B : Type 0} (n : ℕ) (P : A → ℕ → Type 0) (R : B → ℕ → Type 0) (a : Read A) (k : A → ℕ → Read B) → Well n P a → ((x : A) (p : ℕ) → P x p → Well n R (k x p)) → Well n R (and_then a k)
well-on n P R a k g h = well-then n P P R a k g g.1 (λ x p f e. h x p f)

module _ (s : List ℕ) where
  unfoldable InnerWell : Inner → Type 0
  InnerWell inner = (opening : ℕ) (head : Read Names) → opening ≤ length s → Well (length s) (Upto s) head → Well (length s) (Treed (length s)) (inner opening head)

  atom-placed : (flags : ℕ) (known : Names) (opened at : ℕ) → at ≤ length s → Placed (length s) (atom s flags known opened at)
  unfolding atom
  atom-placed flags known opened at h =
      let b = byte s at in
      if-placed (length s) _ _ (is "\\" b) (escape-placed (length s) at h s (ignore_case flags) known opened)
      (if-placed (length s) _ _ (is "[" b) (on-placed (length s) (class s (depot flags) at) _ (class-placed s (depot flags) at h) (λ c p. tt))
      (if-placed (length s) _ _ (is "." b) tt (if-placed (length s) _ _ (is "^" b) tt (if-placed (length s) _ _ (is "$" b) tt tt))))

  closing-well : (opening : ℕ) (t : Rule) (opened : Names) (at : ℕ) → opening ≤ length s → ItemsIn (length s) t → Well (length s) (Treed (length s)) (closing s opening t opened at)
  unfolding closing
  closing-well opening t opened at h l = well-if (length s) _ _ _ (is ")" (byte s at)) (tt, l) (h, tt)

  -- the reading of a name, whose refusals have the opening's place
  fresh-well : (opening : ℕ) (opened : Names) → opening ≤ length s → Well (length s) (Upto s) (fresh opening opened (name_up_to ">" s opening (opening + 3)))
  unfolding fresh
  fresh-well opening opened h = well-on (length s) (Upto s) (Upto s) (name_up_to ">" s opening (opening + 3)) _ (name_up_to-placed (length s) opening h ">" s (opening + 3), name_up_to-in ">" s opening (opening + 3) (omega arith))
      (λ n p l. well-if (length s) _ _ _ (is_used n opened) (h, tt) (tt, l))

  capturing-well : (inner : Inner) (at : ℕ) (opened : Names) (name : Read Name) → InnerWell inner → at ≤ length s → Well (length s) (Upto s) name → Well (length s) (Treed (length s)) (capturing s inner at opened name)
  unfolding capturing InnerWell
  capturing-well inner at opened name h k g =
      let n = length s in
      well-if n _ _ _ (ltb (length opened) group_limit)
      (well-on n (Treed n) (Treed n) (inner at (and_then name (λ x p. sound (x ∷ opened) p))) _ (h at _ k (well-on n (Upto s) (Upto s) name _ g (λ x p l. (tt, l)))) (λ r p t. closing-well at (enclosed (Captured (suc (length opened))) at r.0) r.1 p k (enclosed-in n (Captured (suc (length opened))) at r.0 k t)))
      (k, tt)

  uncaptured-well : (inner : Inner) (at : ℕ) (opened : Names) (form : Form) → InnerWell inner → at + 3 ≤ length s → Well (length s) (Treed (length s)) (uncaptured s inner at opened form)
  unfolding uncaptured InnerWell
  uncaptured-well inner at opened form h l =
      let n = length s in
      let k : at ≤ length s = omega arith in
      well-on n (Treed n) (Treed n) (inner at (sound opened (at + 3))) _ (h at (sound opened (at + 3)) k (tt, l)) (λ r p t. closing-well at (enclosed form at r.0) r.1 p k (enclosed-in n form at r.0 k t))

  grouped-well : (inner : Inner) (at : ℕ) (opened : Names) → InnerWell inner → at < length s → Well (length s) (Treed (length s)) (grouped s inner at opened)
  unfolding grouped
  grouped-well inner at opened h l =
      let n = length s in
      let k : at ≤ length s = omega arith in
      let b = byte s (at + 2) in
      well-if n _ _ _ (not (is "?" (byte s (at + 1)))) (capturing-well inner at opened (sound [] (at + 1)) h k (tt, omega arith))
      (well-test n _ _ _ (is ":" b) (λ e. let i = is-in s (at + 2) 58 (omega arith) e in uncaptured-well inner at opened Grouped h (omega arith)) (λ e.
      well-test n _ _ _ (is ">" b) (λ e. let i = is-in s (at + 2) 62 (omega arith) e in uncaptured-well inner at opened Held h (omega arith)) (λ e.
      well-test n _ _ _ (is "=" b) (λ e. let i = is-in s (at + 2) 61 (omega arith) e in uncaptured-well inner at opened Ahead h (omega arith)) (λ e.
      well-test n _ _ _ (is "!" b) (λ e. let i = is-in s (at + 2) 33 (omega arith) e in uncaptured-well inner at opened NotAhead h (omega arith)) (λ e.
      well-if n _ _ _ (is "<" b) (capturing-well inner at opened _ h k (fresh-well at opened k)) (k, tt))))))

  next_item-well : (flags : ℕ) (known : Names) (inner : Inner) (q : Sequence) (opened : Names) (at : ℕ) → InnerWell inner → at < length s → SequenceIn (length s) q → Well (length s) (Sequenced (length s)) (next_item s flags known inner q opened at)
  unfolding next_item SequenceIn
  next_item-well flags known inner q opened at h l g =
      let n = length s in
      let k : at ≤ length s = omega arith in
      well-if n _ _ _ (is "(" (byte s at))
      (well-on n (Treed n) (Sequenced n) (grouped s inner at opened) _ (grouped-well inner at opened h l) (λ r p t. (tt, (whole_in n q g, t))))
      (well-if n _ _ _ (breaks_line s at) (tt, (whole_in n q g, break-in n at k))
      (well-on n (λ i p. Unit) (Sequenced n) (atom s flags known (length opened) at) _ (atom-placed flags known (length opened) at k, any-given (atom s flags known (length opened) at) Unit tt) (λ i p u. (tt, with_item-in n q at i g k))))

  unfit_for-placed : (q : Sequence) (at : ℕ) → at ≤ length s → Well (length s) (Sequenced (length s)) (unfit_for q at)
  unfolding unfit_for
  unfit_for-placed (unrepeatable t) at h = (h, tt)
  unfit_for-placed (repeatable b l) at h = (h, tt)
  unfit_for-placed (repeated t) at h = (h, tt)

  repeating-well : (q : Sequence) (at n : ℕ) (m : Most) (g : Greed) (keeps : Bool) (opened : Names) (next : ℕ) → at ≤ length s → next ≤ length s → SequenceIn (length s) q → Well (length s) (Sequenced (length s)) (repeating q at n m g keeps opened next)
  unfolding repeating SequenceIn
  repeating-well (unrepeatable t) at n m g keeps opened next h i k = (h, tt)
  repeating-well (repeatable b l) at n m g keeps opened next h i k = (tt, (k.0, possessive-in (length s) keeps (next - 1) (repeat at n m g l) (omega arith) (h, k.1)))
  repeating-well (repeated t) at n m g keeps opened next h i k = (h, tt)

  part-well : (flags : ℕ) (known : Names) (inner : Inner) (q : Sequence) (opened : Names) (at : ℕ) (x : Quantifier) → InnerWell inner → at < length s → Holding x (UptoIn s) → SequenceIn (length s) q → Well (length s) (Sequenced (length s)) (part s flags known inner q opened at x)
  unfolding part
  part-well flags known inner q opened at Absent h l u g = next_item-well flags known inner q opened at h l g
  part-well flags known inner q opened at Stray h l u g = (omega arith, tt)
  part-well flags known inner q opened at Unfit h l u g = unfit_for-placed q at (omega arith)
  part-well flags known inner q opened at (Times n m d keeps next) h l u g = repeating-well q at n m d keeps opened next (omega arith) (omega (arith, u)) g

  sequence-well : (f flags : ℕ) (known : Names) (inner : Inner) (q : Sequence) (opened : Names) (at : ℕ) → InnerWell inner → Inward s inner → at ≤ length s → SequenceIn (length s) q → Well (length s) (Treed (length s)) (sequence f s flags known inner q opened at)
  unfolding sequence
  sequence-well zero flags known inner q opened at h i l g = (tt, whole_in (length s) q g)
  sequence-well (suc f) flags known inner q opened start h i l g =
      let at = behind_blanks s flags start in
      well-test (length s) _ _ _ (ends (byte s at)) (λ e. (tt, whole_in (length s) q g)) (λ e.
      let k = ends-false s at e in
      well-then (length s) (Sequenced (length s)) (Upto s) (Treed (length s)) (part s flags known inner q opened at (quantifier s at)) _ (part-well flags known inner q opened at (quantifier s at) h k (quantifier-in s at) g) (part_by s flags known inner q opened at (quantifier s at) i k (quantifier-in s at))
      (λ r p t u. sequence-well f flags known inner r.0 r.1 p h i u t))

  branch-well : (flags : ℕ) (known : Names) (inner : Inner) (opened : Names) (at : ℕ) → InnerWell inner → Inward s inner → at ≤ length s → Well (length s) (Treed (length s)) (branch s flags known inner opened at)
  unfolding branch SequenceIn
  branch-well flags known inner opened at h i l = sequence-well (length s) flags known inner (unrepeatable empty) opened at h i l tt

  further-well : (f flags : ℕ) (known : Names) (inner : Inner) (bs : Branches) (opened : Names) (at : ℕ) → InnerWell inner → Inward s inner → BranchesIn (length s) bs → Well (length s) (Treed (length s)) (further f s flags known inner bs opened at)
  unfolding further
  further-well zero flags known inner bs opened at h i g = (tt, alternatives-in (length s) bs g)
  further-well (suc f) flags known inner bs opened at h i g = well-test (length s) _ _ _ (is "|" (byte s at))
      (λ e. let k = is-in s at 124 (omega arith) e in
      well-on (length s) (Treed (length s)) (Treed (length s)) (branch s flags known inner opened (at + 1)) _ (branch-well flags known inner opened (at + 1) h i (omega arith)) (λ r p t. further-well f flags known inner (also bs at r.0) r.1 p h i (g, omega arith, t)))
      (λ e. (tt, alternatives-in (length s) bs g))

  alternation-well : (flags : ℕ) (known : Names) (inner : Inner) (opened : Names) (at : ℕ) → InnerWell inner → Inward s inner → at ≤ length s → Well (length s) (Treed (length s)) (alternation s flags known inner opened at)
  unfolding alternation
  alternation-well flags known inner opened at h i l = well-on (length s) (Treed (length s)) (Treed (length s)) (branch s flags known inner opened at) _ (branch-well flags known inner opened at h i l) (λ r p t. further-well (length s) flags known inner (one r.0) r.1 p h i t)

  inside-well : (d flags : ℕ) (known : Names) → InnerWell (inside d s flags known)
  unfolding inside InnerWell
  inside-well zero flags known opening head h g = (h, tt)
  inside-well (suc d) flags known opening head h g = well-on (length s) (Upto s) (Treed (length s)) head _ g (λ opened at l. alternation-well flags known (inside d s flags known) opened at (inside-well d flags known) (inside-in d s flags known) l)

  -- The whole rule -----------------------------------------------------------------------

  parsed-well : (flags : ℕ) (known : Names) → Well (length s) (Treed (length s)) (parsed s flags known)
  unfolding parsed
  parsed-well flags known =
      let inner = inside nesting_limit s flags known in
      well-then (length s) (Treed (length s)) (Upto s) (Treed (length s)) (alternation s flags known inner [] 0) _ (alternation-well flags known inner [] 0 (inside-well nesting_limit flags known) (inside-in nesting_limit s flags known) (omega arith)) (alternation-in s flags known inner [] 0 (inside-in nesting_limit s flags known) (omega arith)) (λ r p t u. well-if (length s) _ _ _ (is_end (byte s p)) (tt, t) (u, tt))

-- a place that is found is n at most
abbrev pub Found : ℕ → Option ℕ → Type 0
Found n none = Unit
Found n (some p) = p ≤ n

pub first_found : (n : ℕ) (x y : Option ℕ) → Found n x → Found n y → Found n (first_some x y)
unfolding first_some
first_found n none y g h = h
first_found n (some p) y g h = g

pub if-found : (n at : ℕ) (b : Bool) → at ≤ n → Found n (if b then some at else none)
if-found n at true h = h
if-found n at false h = tt

dangling-found : (n groups at : ℕ) (i : Item) → at ≤ n → Found n (dangling groups at i)
unfolding dangling
dangling-found n groups at (byte_in folded c) h = tt
dangling-found n groups at (assert a) h = tt
dangling-found n groups at (reference folded k) h = if-found n at (eqb k 0 || not (leb k groups)) h

mutual
  unfolding unresolved unresolved_in

  unresolved-found : (n groups : ℕ) (t : Rule) → ItemsIn n t → Found n (unresolved groups t)
  unresolved-found n groups empty h = tt
  unresolved-found n groups (item at i) h = dangling-found n groups at i h
  unresolved-found n groups (seq a b) h = first_found n (unresolved groups a) (unresolved groups b) (unresolved-found n groups a h.0) (unresolved-found n groups b h.1)
  unresolved-found n groups (alt bs bar b) h = first_found n (unresolved_in groups bs) (unresolved groups b) (unresolved_in-found n groups bs h.0) (unresolved-found n groups b h.2)
  unresolved-found n groups (group k a) h = unresolved-found n groups a h
  unresolved-found n groups (repeat at l m g a) h = unresolved-found n groups a h.1
  unresolved-found n groups (held at a) h = unresolved-found n groups a h.1
  unresolved-found n groups (look at negative a) h = unresolved-found n groups a h.1

  unresolved_in-found : (n groups : ℕ) (bs : Branches) → BranchesIn n bs → Found n (unresolved_in groups bs)
  unresolved_in-found n groups (one a) h = unresolved-found n groups a h
  unresolved_in-found n groups (also bs bar b) h = first_found n (unresolved_in groups bs) (unresolved groups b) (unresolved_in-found n groups bs h.0) (unresolved-found n groups b h.2)

mutual
  unfolding idle idle_in

  idle-found : (n : ℕ) (t : Rule) → ItemsIn n t → Found n (idle t)
  idle-found n empty h = tt
  idle-found n (item at i) h = tt
  idle-found n (seq a b) h = first_found n (idle a) (idle b) (idle-found n a h.0) (idle-found n b h.1)
  idle-found n (alt bs bar b) h = first_found n (idle_in bs) (idle b) (idle_in-found n bs h.0) (idle-found n b h.2)
  idle-found n (group k a) h = idle-found n a h
  idle-found n (repeat at l m g a) h = first_found n (idle a) (if unbounded m && eqb (least_length a) 0 then some at else none) (idle-found n a h.1) (if-found n at (unbounded m && eqb (least_length a) 0) h.0)
  idle-found n (held at a) h = idle-found n a h.1
  idle-found n (look at negative a) h = idle-found n a h.1

  idle_in-found : (n : ℕ) (bs : Branches) → BranchesIn n bs → Found n (idle_in bs)
  idle_in-found n (one a) h = idle-found n a h
  idle_in-found n (also bs bar b) h = first_found n (idle_in bs) (idle b) (idle_in-found n bs h.0) (idle-found n b h.2)

unless-placed : {A : Type 0} (n : ℕ) (o : Option ℕ) (why : Reason) (rest : Read A) → Found n o → Placed n rest → Placed n (unless o why rest)
unfolding unless
unless-placed n none why rest h k = k
unless-placed n (some p) why rest h k = h

profiled-placed : {A : Type 0} (n : ℕ) (strict : Bool) (t : Rule) (rest : Read A) → ItemsIn n t → Placed n rest → Placed n (profiled strict t rest)
unfolding profiled
profiled-placed n false t rest h k = k
profiled-placed n true t rest h k = unless-placed n (unresolved 0 t) BarredReference (unless (idle t) IdleRepeat rest) (unresolved-found n 0 t h) (unless-placed n (idle t) IdleRepeat rest (idle-found n t h) k)

settled-placed : (n flags : ℕ) (t : Rule) (groups at : ℕ) → ItemsIn n t → Placed n (settled flags t groups at)
unfolding settled
settled-placed n flags t groups at h = unless-placed n (unresolved groups t) NoSuchGroup (profiled (depot flags) t (sound (t, groups) at)) (unresolved-found n groups t h) (profiled-placed n (depot flags) t (sound (t, groups) at) h tt)

-- a refused rule's place is within the rule
pub reading-placed : (s : List ℕ) (flags : ℕ) → Placed (length s) (reading s flags)
unfolding reading
reading-placed s flags = then-placed (length s) (Treed (length s)) (parsed s flags (names_of s flags)) _ (parsed-well s flags (names_of s flags)).0 (parsed-well s flags (names_of s flags)).1
    (λ r p t. settled-placed (length s) flags r.0 (length r.1) p t)

unless-given : {A : Type 0} (P : A → ℕ → Type 0) (o : Option ℕ) (why : Reason) (rest : Read A) → Given rest P → Given (unless o why rest) P
unfolding unless
unless-given P none why rest h = h
unless-given P (some p) why rest h = tt

profiled-given : {A : Type 0} (P : A → ℕ → Type 0) (strict : Bool) (t : Rule) (rest : Read A) → Given rest P → Given (profiled strict t rest) P
unfolding profiled
profiled-given P false t rest h = h
profiled-given P true t rest h = unless-given P (unresolved 0 t) BarredReference (unless (idle t) IdleRepeat rest) (unless-given P (idle t) IdleRepeat rest h)

-- the items, repeats, bars, held parts and lookings ahead of a sound rule stand within the rule
pub reading-items : (s : List ℕ) (flags : ℕ) → Given (reading s flags) (λ r p. ItemsIn (length s) r.0)
unfolding reading settled
reading-items s flags = then-given (Treed (length s)) (λ r p. ItemsIn (length s) r.0) (parsed s flags (names_of s flags)) _ (parsed-well s flags (names_of s flags)).1 (λ r p t.
    unless-given (λ q n. ItemsIn (length s) q.0) (unresolved (length r.1) r.0) NoSuchGroup (profiled (depot flags) r.0 (sound (r.0, length r.1) p)) (profiled-given (λ q n. ItemsIn (length s) q.0) (depot flags) r.0 (sound (r.0, length r.1) p) t))
