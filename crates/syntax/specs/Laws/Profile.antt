-- The depot profile only refuses: a rule that is sound under it has the same tree and the same names under the same flags without it. Part by part of
-- the grammar, whatever the one reading gives soundly the other gives too; beside classes no part looks at the profile.
-- docs/REFERENCE.md, 11.3
use Rattle.std.specs.Prelude.{◌≡◌, Bool, ◌&&◌, length, ltb, leb, eqb, if◌then◌else◌}
use Rattle.std.proofs.Math.Path.{refl}
use Rattle.std.proofs.Common.{ap, arith}
use mathlib.Core.List.{List, [], ◌∷◌}
use Rattle.std.proofs.Math.Bool.{true, false, not}
use Rattle.std.proofs.Math.Option.{Option, none, some}
use Prim.Native.Nat.{ℕ, zero, suc, ◌+◌, ◌/◌, ◌%◌, ◌^◌}
use Rattle.syntax.specs.declared.Form.{Form}
use Rattle.syntax.specs.declared.Form.TheVariants.{Grouped, Captured, Held, Ahead, NotAhead}
use Rattle.syntax.specs.declared.Reason.{Reason}
use Rattle.syntax.specs.declared.Reason.TheVariants.{UnopenedGroup}
use Rattle.syntax.specs.declared.Quantifier.{Quantifier}
use Rattle.syntax.specs.declared.Quantifier.TheVariants.{Absent, Stray, Unfit, Times}
use Rattle.syntax.specs.Limits.{group_limit, nesting_limit, dot_all_bit, multiline_bit, ignore_case_bit, extended_bit, depot_bit}
use Rattle.syntax.specs.Read.{byte, is_end, is, Read, sound, refused, and_then}
use Rattle.syntax.specs.Sets.{Member, range}
use Rattle.syntax.specs.Tree.{Rule, empty, Branches, one, also, enclosed}
use Rattle.syntax.specs.Flags.{dot_all, multiline, ignore_case, extended, depot}
use Rattle.syntax.specs.Names.{Name, Names, name_up_to, fresh}
use Rattle.syntax.specs.Classes.{element, range_end, alike, range_of, makes_range, member, members, class}
use Rattle.syntax.specs.Quantifiers.{quantifier}
use Rattle.syntax.specs.Grammar.{behind_blanks, atom, Inner, closing, capturing, uncaptured, grouped, Sequence, unrepeatable, whole, unfit_for, repeating, breaks_line, next_item, part, ends, sequence, branch, further, alternation, inside}
use Rattle.syntax.specs.Reading.{parsed, names_read, names_of, unresolved, unless, profiled, settled, reading}
use Rattle.syntax.specs.Laws.Forward.{Given, any-given, then-given}
use Rattle.syntax.specs.Laws.Formation.{Narrow, settled-given}

-- Readings of which one gives what the other gives soundly ---------------------

abbrev As : {A : Type 0} → Read A → Read A → Type 0
As x y = Given x (λ a at. y ≡ sound a at)

as_is : {A : Type 0} (x : Read A) → As x x
as_is (sound a at) = refl
as_is (refused p r) = tt

as-if : {A : Type 0} (b : Bool) (x y v w : Read A) → As x v → As y w → As (if b then x else y) (if b then v else w)
as-if true x y v w g h = g
as-if false x y v w g h = h

-- the same in one of two cases
as-left : {A : Type 0} (b : Bool) (x y v : Read A) → As x v → As (if b then x else y) (if b then v else y)
as-left b x y v g = as-if b x y v y g (as_is y)

as-right : {A : Type 0} (b : Bool) (x y w : Read A) → As y w → As (if b then x else y) (if b then x else w)
as-right b x y w h = as-if b x y x w (as_is x) h

as-then : {A B : Type 0} (x y : Read A) (k l : A → ℕ → Read B) → As x y → ((a : A) (at : ℕ) → As (k a at) (l a at)) → As (and_then x k) (and_then y l)
as-then (sound a at) y k l e h = rw e (h a at)
as-then (refused p r) y k l e h = tt

-- one that is refused in one case more
as-unless : {A : Type 0} (b : Bool) (p : ℕ) (r : Reason) (x : Read A) → As (if b then refused p r else x) x
as-unless true p r x = tt
as-unless false p r x = as_is x

-- Classes --------------------------------------------------------------------

range_of-as : (strict : Bool) (at : ℕ) (low high : Option ℕ) (next : ℕ) → As (range_of strict at low high next) (range_of false at low high next)
unfolding range_of
range_of-as strict at none high next = tt
range_of-as strict at (some a) none next = tt
range_of-as strict at (some a) (some b) next = as-if (not (leb a b)) _ _ _ _ tt (as-unless (strict && not (alike a b)) at _ (sound (range a b) next))

module _ (s : List ℕ) (strict : Bool) (from : ℕ) where
  member-as : (at : ℕ) → As (member s strict from at) (member s false from at)
  unfolding member
  member-as at = as-then (element s from at) (element s from at) _ _ (as_is (element s from at)) (λ low p. as-if (makes_range s p) _ _ _ _
      (as-then (element s from (p + 1)) (element s from (p + 1)) _ _ (as_is (element s from (p + 1))) (λ high q. range_of-as strict at (range_end low) (range_end high) q))
      (as_is (sound low p)))

  members-as : (f : ℕ) (first : Bool) (before : List Member) (at : ℕ) → As (members f s strict from first before at) (members f s false from first before at)
  unfolding members
  members-as zero first before at = tt
  members-as (suc f) first before at = as-if (is "]" (byte s at) && not first) _ _ _ _ (as_is (sound before (at + 1)))
      (as-then (member s strict from at) (member s false from at) _ _ (member-as at) (λ m p. members-as f false (m ∷ before) p))

  class-as : As (class s strict from) (class s false from)
  unfolding class
  class-as = as-if (is "^" (byte s (from + 1))) _ _ _ _
      (as-then (members (length s) s strict from true [] (from + 2)) (members (length s) s false from true [] (from + 2)) _ _ (members-as (length s) true [] (from + 2)) (λ ms p. refl))
      (as-then (members (length s) s strict from true [] (from + 1)) (members (length s) s false from true [] (from + 1)) _ _ (members-as (length s) true [] (from + 1)) (λ ms p. refl))

-- Flags ------------------------------------------------------------------------

-- flags that say the same, the second without the profile
pub record Spared (flags others : ℕ) : Type 0 where
  pub dots : dot_all others ≡ dot_all flags
  pub lines : multiline others ≡ multiline flags
  pub cases : ignore_case others ≡ ignore_case flags
  pub blanks : extended others ≡ extended flags
  pub full : depot others ≡ false

module _ (s : List ℕ) (flags others : ℕ) (f : Spared flags others) where
  -- Items, sequences and groups ------------------------------------------------

  blanks-as : (at : ℕ) → behind_blanks s others at ≡ behind_blanks s flags at
  unfolding behind_blanks
  blanks-as at = rw f.blanks

  atom-as : (known : Names) (opened at : ℕ) → As (atom s flags known opened at) (atom s others known opened at)
  unfolding atom
  atom-as known opened at =
      let b = byte s at in
      rw (f.dots, f.lines, f.cases, f.full)
      (as-right (is "\\" b) _ _ _ (as-left (is "[" b) _ _ _ (as-then (class s (depot flags) at) (class s false at) _ _ (class-as s (depot flags) at) (λ c p. refl))))

  unfoldable InnerAs : Inner → Inner → Type 0
  InnerAs x y = (opening : ℕ) (head : Read Names) → As (x opening head) (y opening head)

  capturing-as : (x y : Inner) (opening : ℕ) (names : Names) (name : Read Name) → InnerAs x y → As (capturing s x opening names name) (capturing s y opening names name)
  unfolding capturing InnerAs
  capturing-as x y opening names name h =
      let head = and_then name (λ n at. sound (n ∷ names) at) in
      as-if (ltb (length names) group_limit) _ _ _ _
      (as-then (x opening head) (y opening head) _ _ (h opening head) (λ r p. as_is (closing s opening (enclosed (Captured (suc (length names))) opening r.0) r.1 p)))
      tt

  uncaptured-as : (x y : Inner) (opening : ℕ) (names : Names) (form : Form) → InnerAs x y → As (uncaptured s x opening names form) (uncaptured s y opening names form)
  unfolding uncaptured InnerAs
  uncaptured-as x y opening names form h =
      as-then (x opening (sound names (opening + 3))) (y opening (sound names (opening + 3))) _ _ (h opening (sound names (opening + 3))) (λ r p. as_is (closing s opening (enclosed form opening r.0) r.1 p))

  grouped-as : (x y : Inner) (opening : ℕ) (names : Names) → InnerAs x y → As (grouped s x opening names) (grouped s y opening names)
  unfolding grouped
  grouped-as x y opening names h =
      let b = byte s (opening + 2) in
      as-if (not (is "?" (byte s (opening + 1)))) _ _ _ _ (capturing-as x y opening names (sound [] (opening + 1)) h)
      (as-if (is ":" b) _ _ _ _ (uncaptured-as x y opening names Grouped h)
      (as-if (is ">" b) _ _ _ _ (uncaptured-as x y opening names Held h)
      (as-if (is "=" b) _ _ _ _ (uncaptured-as x y opening names Ahead h)
      (as-if (is "!" b) _ _ _ _ (uncaptured-as x y opening names NotAhead h)
      (as-if (is "<" b) _ _ _ _ (capturing-as x y opening names (fresh opening names (name_up_to ">" s opening (opening + 3))) h) tt)))))

  next_item-as : (known : Names) (x y : Inner) (q : Sequence) (names : Names) (at : ℕ) → InnerAs x y → As (next_item s flags known x q names at) (next_item s others known y q names at)
  unfolding next_item
  next_item-as known x y q names at h = as-if (is "(" (byte s at)) _ _ _ _
      (as-then (grouped s x at names) (grouped s y at names) _ _ (grouped-as x y at names h) (λ r p. refl))
      (as-right (breaks_line s at) _ _ _ (as-then (atom s flags known (length names) at) (atom s others known (length names) at) _ _ (atom-as known (length names) at) (λ i p. refl)))

  part-as : (known : Names) (x y : Inner) (q : Sequence) (names : Names) (at : ℕ) (z : Quantifier) → InnerAs x y → As (part s flags known x q names at z) (part s others known y q names at z)
  unfolding part
  part-as known x y q names at Absent h = next_item-as known x y q names at h
  part-as known x y q names at Stray h = tt
  part-as known x y q names at Unfit h = as_is (unfit_for q at)
  part-as known x y q names at (Times n m g keeps next) h = as_is (repeating q at n m g keeps names next)

  sequence-as : (k : ℕ) (known : Names) (x y : Inner) (q : Sequence) (names : Names) (from : ℕ) → InnerAs x y → As (sequence k s flags known x q names from) (sequence k s others known y q names from)
  unfolding sequence
  sequence-as zero known x y q names from h = refl
  sequence-as (suc k) known x y q names from h =
      let at = behind_blanks s flags from in
      rw (blanks-as from)
      (as-if (ends (byte s at)) _ _ _ _ (as_is (sound (whole q, names) at))
      (as-then (part s flags known x q names at (quantifier s at)) (part s others known y q names at (quantifier s at)) _ _ (part-as known x y q names at (quantifier s at) h) (λ r p. sequence-as k known x y r.0 r.1 p h)))

  branch-as : (known : Names) (x y : Inner) (names : Names) (at : ℕ) → InnerAs x y → As (branch s flags known x names at) (branch s others known y names at)
  unfolding branch
  branch-as known x y names at h = sequence-as (length s) known x y (unrepeatable empty) names at h

  further-as : (k : ℕ) (known : Names) (x y : Inner) (bs : Branches) (names : Names) (at : ℕ) → InnerAs x y → As (further k s flags known x bs names at) (further k s others known y bs names at)
  unfolding further
  further-as zero known x y bs names at h = refl
  further-as (suc k) known x y bs names at h = as-left (is "|" (byte s at)) _ _ _
      (as-then (branch s flags known x names (at + 1)) (branch s others known y names (at + 1)) _ _ (branch-as known x y names (at + 1) h) (λ r p. further-as k known x y (also bs at r.0) r.1 p h))

  alternation-as : (known : Names) (x y : Inner) (names : Names) (at : ℕ) → InnerAs x y → As (alternation s flags known x names at) (alternation s others known y names at)
  unfolding alternation
  alternation-as known x y names at h =
      as-then (branch s flags known x names at) (branch s others known y names at) _ _ (branch-as known x y names at h) (λ r p. further-as (length s) known x y (one r.0) r.1 p h)

  inside-as : (d : ℕ) (known : Names) → InnerAs (inside d s flags known) (inside d s others known)
  unfolding inside InnerAs
  inside-as zero known opening head = tt
  inside-as (suc d) known opening head = as-then head head _ _ (as_is head) (λ names at. alternation-as known (inside d s flags known) (inside d s others known) names at (inside-as d known))

  -- The whole rule ---------------------------------------------------------------

  parsed-as : (known : Names) → As (parsed s flags known) (parsed s others known)
  unfolding parsed
  parsed-as known =
      let x = inside nesting_limit s flags known in
      let y = inside nesting_limit s others known in
      as-then (alternation s flags known x [] 0) (alternation s others known y [] 0) _ _ (alternation-as known x y [] 0 (inside-as nesting_limit known)) (λ r p. as_is (if is_end (byte s p) then sound r p else refused p UnopenedGroup))

  -- the names of a rule that is parsed soundly are the same
  same_names : (r : Rule × Names) (at : ℕ) → parsed s flags [] ≡ sound r at → parsed s others [] ≡ sound r at → names_of s others ≡ names_of s flags
  unfolding names_of names_read
  same_names r at e o = rw (o, e)

  no_names : (place : ℕ) (why : Reason) → parsed s flags [] ≡ refused place why → names_of s flags ≡ []
  unfolding names_of names_read
  no_names place why e = rw e

  names-as : (a : Read (Rule × Names)) → parsed s flags [] ≡ a → Given (parsed s flags (names_of s flags)) (λ r at. names_of s others ≡ names_of s flags)
  names-as (sound r at) e = given-all (parsed s flags (names_of s flags)) (same_names r at e (rw e at (parsed-as [])))
    where
      given-all : {P : Type 0} (a : Read (Rule × Names)) → P → Given a (λ r at. P)
      given-all (sound r at) p = p
      given-all (refused p w) q = tt
  names-as (refused p w) e = rw (no_names p w e, e) tt

  both : {A : Type 0} (P Q : A → ℕ → Type 0) (a : Read A) → Given a P → Given a Q → Given a (λ x at. P x at × Q x at)
  both P Q (sound a at) g h = (g, h)
  both P Q (refused p r) g h = tt

  -- the reading with these flags gives the same, and so do the names
  abbrev pub InFull : Rule × ℕ → ℕ → Type 0
  InFull r at = (reading s others ≡ sound r at) × (names_of s others ≡ names_of s flags)

  settled-as : (r : Rule × Names) (at : ℕ) → parsed s others (names_of s flags) ≡ sound r at → names_of s others ≡ names_of s flags → unresolved (length r.1) r.0 ≡ none → reading s others ≡ sound (r.0, length r.1) at
  unfolding reading settled unless profiled
  settled-as r at e n u = rw (n, e, u, f.full)

  pub reading-as : Given (reading s flags) InFull
  unfolding reading
  reading-as =
      let names = names_of s flags in
      then-given (λ r at. (parsed s others names ≡ sound r at) × (names_of s others ≡ names)) InFull (parsed s flags names) _ (both _ _ (parsed s flags names) (parsed-as names) (names-as (parsed s flags []) refl)) (λ r at h.
      settled-given InFull flags r.0 (length r.1) at (λ u n. (settled-as r at h.0 h.1 u, h.1)))

-- Bit 4 taken away ---------------------------------------------------------------

-- the flags without the profile, and without any bit above it
abbrev pub unprofiled : ℕ → ℕ
unprofiled flags = flags % 2 ^ depot_bit

-- the other bits stay
bit-zero : (n : ℕ) → n % 16 / 1 % 2 ≡ n / 1 % 2
bit-zero n = omega arith

bit-one : (n : ℕ) → n % 16 / 2 % 2 ≡ n / 2 % 2
bit-one n = omega arith

bit-two : (n : ℕ) → n % 16 / 4 % 2 ≡ n / 4 % 2
bit-two n = omega arith

bit-three : (n : ℕ) → n % 16 / 8 % 2 ≡ n / 8 % 2
bit-three n = omega arith

bit-four : (n : ℕ) → n % 16 / 16 % 2 ≡ 0
bit-four n = omega arith

spared : (flags : ℕ) → Spared flags (unprofiled flags)
unfolding dot_all multiline ignore_case extended depot dot_all_bit multiline_bit ignore_case_bit extended_bit depot_bit
spared flags =
    let same : ℕ → Bool = λ n. eqb n 1 in
    record { dots = ap same (bit-zero flags); lines = ap same (bit-one flags); cases = ap same (bit-two flags); blanks = ap same (bit-three flags); full = ap same (bit-four flags) }

-- 02, request k): "Answers for accepted rules are those of the full syntax", as far as the rule's reading goes
pub accepted-as-full : (s : List ℕ) (flags : ℕ) → Given (reading s flags) (λ r at. (reading s (unprofiled flags) ≡ sound r at) × (names_of s (unprofiled flags) ≡ names_of s flags))
accepted-as-full s flags = reading-as s flags (unprofiled flags) (spared flags)

-- and what it asks, holds of them
pub accepted-narrow : (s : List ℕ) (flags : ℕ) → depot flags ≡ true → Given (reading s flags) (λ r at. Narrow r.0)
unfolding reading
accepted-narrow s flags d = then-given (λ r at. Unit) _ (parsed s flags (names_of s flags)) _ (any-given (parsed s flags (names_of s flags))) (λ r at u. settled-given _ flags r.0 (length r.1) at (λ e n. n d))
