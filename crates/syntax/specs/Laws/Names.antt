-- What holds of a name where it is read holds of all names that a sound reading gives: a name is tested against those before it, and the readers of all
-- else only hand on the names that they were given. So names have at most `name_limit` bytes, and none is used twice.
use Rattle.std.specs.Prelude.{◌≡◌, Bool, true, false, not, ◌&&◌, get_or, ltb, leb}
use mathlib.Core.List.{List, [], ◌∷◌}
use Prim.Native.Char.{Char}
use Prim.Native.Nat.{ℕ, zero, suc, ◌+◌, ◌≤◌}
use Rattle.std.proofs.Common.{arith, leb-true}
use Rattle.std.proofs.Math.ListN.{length}
use Rattle.syntax.specs.declared.Form.{Form}
use Rattle.syntax.specs.declared.Form.TheVariants.{Grouped, Captured, Held, Ahead, NotAhead}
use Rattle.syntax.specs.declared.Greed.{Greed}
use Rattle.syntax.specs.declared.Most.{Most}
use Rattle.syntax.specs.declared.Quantifier.{Quantifier}
use Rattle.syntax.specs.declared.Quantifier.TheVariants.{Absent, Stray, Unfit, Times}
use Rattle.charset.specs.declared.Named.TheVariants.{Digit}
use Rattle.charset.specs.Named.{in_named}
use Rattle.syntax.specs.Limits.{group_limit, name_limit, nesting_limit, height_limit, level_limit}
use Rattle.syntax.specs.Read.{byte, is_end, is, Read, sound, refused, and_then}
use Rattle.syntax.specs.Tree.{Rule, empty, Branches, one, also, enclosed}
use Rattle.syntax.specs.Names.{Name, Names, word_at, is_name, name_up_to, is_used, fresh}
use Rattle.syntax.specs.Quantifiers.{quantifier}
use Rattle.syntax.specs.Grammar.{behind_blanks, atom, Inner, closing, capturing, uncaptured, grouped, Sequence, unrepeatable, repeatable, repeated, unfit_for, repeating, breaks_line, next_item, part, ends, sequence, branch, further, alternation, inside}
use Rattle.syntax.specs.Reading.{parsed, names_read, names_of}
use Rattle.syntax.specs.WellFormed.{Proper, height, levels}
use Rattle.syntax.specs.Laws.Formation.{parsed-formed}
use Rattle.syntax.specs.Laws.Forward.{Given, any-given, if-given, test-given, then-given, and_left, and_right}

-- Some names, each with those before it
module _ (P : Name → Names → Type 0) where
  abbrev pub All : Names → Type 0
  All [] = Unit {0}
  All (n ∷ ns) = P n ns × All ns

module _ (P : Name → Names → Type 0) (unnamed : (ns : Names) → P [] ns) (named : (n : Name) (ns : Names) → is_name n ≡ true → is_used n ns ≡ false → P n ns) where
  -- what a reading gives beside the names does not matter
  abbrev Kept : {A : Type 0} → A × Names → ℕ → Type 0
  Kept r at = All P r.1

  -- Names -----------------------------------------------------------------------

  name_up_to-named : (closer : Char) (s : List ℕ) (place at : ℕ) → Given (name_up_to closer s place at) (λ n p. is_name n ≡ true)
  unfolding name_up_to
  name_up_to-named closer s place at =
      let w = word_at s at in
      let closed = is closer (byte s (at + length w)) in
      test-given _ _ _ (is_name w && closed) (λ e. and_left (is_name w) closed e) (λ e. tt)

  fresh-all : (place : ℕ) (names : Names) (name : Read Name) → Given name (λ n p. is_name n ≡ true) → Given (fresh place names name) (λ n p. P n names)
  unfolding fresh
  fresh-all place names name h = then-given (λ n p. is_name n ≡ true) (λ n p. P n names) name _ h (λ n p l. test-given _ _ _ (is_used n names) (λ e. tt) (λ e. named n names l e))

  -- Groups ------------------------------------------------------------------------

  unfoldable InnerAll : Inner → Type 0
  InnerAll inner = (opening : ℕ) (head : Read Names) → Given head (λ ns p. All P ns) → Given (inner opening head) Kept

  closing-all : (s : List ℕ) (opening : ℕ) (t : Rule) (names : Names) (at : ℕ) → All P names → Given (closing s opening t names at) Kept
  unfolding closing
  closing-all s opening t names at h = if-given _ _ _ (is ")" (byte s at)) h tt

  capturing-all : (s : List ℕ) (inner : Inner) (at : ℕ) (names : Names) (name : Read Name) → InnerAll inner → All P names → Given name (λ n p. P n names) → Given (capturing s inner at names name) Kept
  unfolding capturing InnerAll
  capturing-all s inner at names name h k g = if-given _ _ _ (ltb (length names) group_limit)
      (then-given Kept Kept (inner at (and_then name (λ n p. sound (n ∷ names) p))) _
      (h at _ (then-given (λ n p. P n names) (λ ns p. All P ns) name _ g (λ n p l. (l, k)))) (λ r p l.
      closing-all s at (enclosed (Captured (suc (length names))) at r.0) r.1 p l))
      tt

  uncaptured-all : (s : List ℕ) (inner : Inner) (at : ℕ) (names : Names) (form : Form) → InnerAll inner → All P names → Given (uncaptured s inner at names form) Kept
  unfolding uncaptured InnerAll
  uncaptured-all s inner at names form h k = then-given Kept Kept (inner at (sound names (at + 3))) _ (h at (sound names (at + 3)) k) (λ r p l. closing-all s at (enclosed form at r.0) r.1 p l)

  grouped-all : (s : List ℕ) (inner : Inner) (at : ℕ) (names : Names) → InnerAll inner → All P names → Given (grouped s inner at names) Kept
  unfolding grouped
  grouped-all s inner at names h k =
      let b = byte s (at + 2) in
      if-given _ _ _ (not (is "?" (byte s (at + 1)))) (capturing-all s inner at names _ h k (unnamed names))
      (if-given _ _ _ (is ":" b) (uncaptured-all s inner at names Grouped h k)
      (if-given _ _ _ (is ">" b) (uncaptured-all s inner at names Held h k)
      (if-given _ _ _ (is "=" b) (uncaptured-all s inner at names Ahead h k)
      (if-given _ _ _ (is "!" b) (uncaptured-all s inner at names NotAhead h k)
      (if-given _ _ _ (is "<" b) (capturing-all s inner at names _ h k (fresh-all at names _ (name_up_to-named ">" s at (at + 3)))) tt)))))

  -- Sequences and alternations ----------------------------------------------------

  next_item-all : (s : List ℕ) (flags : ℕ) (known : Names) (inner : Inner) (q : Sequence) (names : Names) (at : ℕ) → InnerAll inner → All P names → Given (next_item s flags known inner q names at) Kept
  unfolding next_item
  next_item-all s flags known inner q names at h k = if-given _ _ _ (is "(" (byte s at))
      (then-given Kept Kept (grouped s inner at names) _ (grouped-all s inner at names h k) (λ r p l. l))
      (if-given _ _ _ (breaks_line s at) k
      (then-given (λ i p. Unit) Kept (atom s flags known (length names) at) _ (any-given (atom s flags known (length names) at)) (λ i p l. k)))

  unfit_for-all : (q : Sequence) (at : ℕ) → Given (unfit_for q at) Kept
  unfolding unfit_for
  unfit_for-all (unrepeatable t) at = tt
  unfit_for-all (repeatable b l) at = tt
  unfit_for-all (repeated t) at = tt

  repeating-all : (q : Sequence) (at n : ℕ) (m : Most) (x : Greed) (keeps : Bool) (names : Names) (next : ℕ) → All P names → Given (repeating q at n m x keeps names next) Kept
  unfolding repeating
  repeating-all (unrepeatable t) at n m x keeps names next k = tt
  repeating-all (repeatable b l) at n m x keeps names next k = k
  repeating-all (repeated t) at n m x keeps names next k = tt

  part-all : (s : List ℕ) (flags : ℕ) (known : Names) (inner : Inner) (q : Sequence) (names : Names) (at : ℕ) (x : Quantifier) → InnerAll inner → All P names → Given (part s flags known inner q names at x) Kept
  unfolding part
  part-all s flags known inner q names at Absent h k = next_item-all s flags known inner q names at h k
  part-all s flags known inner q names at Stray h k = tt
  part-all s flags known inner q names at Unfit h k = unfit_for-all q at
  part-all s flags known inner q names at (Times n m x keeps next) h k = repeating-all q at n m x keeps names next k

  sequence-all : (f : ℕ) (s : List ℕ) (flags : ℕ) (known : Names) (inner : Inner) (q : Sequence) (names : Names) (from : ℕ) → InnerAll inner → All P names → Given (sequence f s flags known inner q names from) Kept
  unfolding sequence
  sequence-all zero s flags known inner q names from h k = k
  sequence-all (suc f) s flags known inner q names from h k =
      let at = behind_blanks s flags from in
      if-given _ _ _ (ends (byte s at)) k
      (then-given Kept Kept (part s flags known inner q names at (quantifier s at)) _ (part-all s flags known inner q names at (quantifier s at) h k) (λ r p l.
      sequence-all f s flags known inner r.0 r.1 p h l))

  branch-all : (s : List ℕ) (flags : ℕ) (known : Names) (inner : Inner) (names : Names) (at : ℕ) → InnerAll inner → All P names → Given (branch s flags known inner names at) Kept
  unfolding branch
  branch-all s flags known inner names at h k = sequence-all (length s) s flags known inner (unrepeatable empty) names at h k

  further-all : (f : ℕ) (s : List ℕ) (flags : ℕ) (known : Names) (inner : Inner) (bs : Branches) (names : Names) (at : ℕ) → InnerAll inner → All P names → Given (further f s flags known inner bs names at) Kept
  unfolding further
  further-all zero s flags known inner bs names at h k = k
  further-all (suc f) s flags known inner bs names at h k = if-given _ _ _ (is "|" (byte s at))
      (then-given Kept Kept (branch s flags known inner names (at + 1)) _ (branch-all s flags known inner names (at + 1) h k) (λ r p l.
      further-all f s flags known inner (also bs at r.0) r.1 p h l))
      k

  alternation-all : (s : List ℕ) (flags : ℕ) (known : Names) (inner : Inner) (names : Names) (at : ℕ) → InnerAll inner → All P names → Given (alternation s flags known inner names at) Kept
  unfolding alternation
  alternation-all s flags known inner names at h k = then-given Kept Kept (branch s flags known inner names at) _ (branch-all s flags known inner names at h k) (λ r p l.
      further-all (length s) s flags known inner (one r.0) r.1 p h l)

  inside-all : (d : ℕ) (s : List ℕ) (flags : ℕ) (known : Names) → InnerAll (inside d s flags known)
  unfolding inside InnerAll
  inside-all zero s flags known opening head g = tt
  inside-all (suc d) s flags known opening head g = then-given (λ ns p. All P ns) Kept head _ g (λ names at k.
      alternation-all s flags known (inside d s flags known) names at (inside-all d s flags known) k)

  -- The whole rule ------------------------------------------------------------------

  pub parsed-all : (s : List ℕ) (flags : ℕ) (known : Names) → Given (parsed s flags known) (λ r at. All P r.1)
  unfolding parsed
  parsed-all s flags known = then-given Kept Kept (alternation s flags known (inside nesting_limit s flags known) [] 0) _
      (alternation-all s flags known (inside nesting_limit s flags known) [] 0 (inside-all nesting_limit s flags known) tt) (λ r p k. if-given _ _ _ (is_end (byte s p)) k tt)

  read_all : (a : Read (Rule × Names)) → Given a (λ r at. All P r.1) → All P (names_read a)
  unfolding names_read
  read_all (sound r at) h = h
  read_all (refused place why) h = tt

  pub names_of-all : (s : List ℕ) (flags : ℕ) → All P (names_of s flags)
  unfolding names_of
  names_of-all s flags = read_all (parsed s flags []) (parsed-all s flags [])

-- Names fit into their entries of the name index -------------------------------------

-- a group without a name has [], which does
abbrev pub Short : Names → Type 0
Short [] = Unit {0}
Short (n ∷ ns) = (length n ≤ name_limit) × Short ns

is_name-short : (n : Name) → is_name n ≡ true → length n ≤ name_limit
unfolding is_name
is_name-short n e =
    let some = leb 1 (length n) in
    let few = leb (length n) name_limit in
    leb-true (length n) name_limit (and_right some few (and_left (some && few) (not (in_named Digit (get_or n 0 0))) e))

shorts : (ns : Names) → All (λ n ms. length n ≤ name_limit) ns → Short ns
shorts [] h = tt
shorts (n ∷ ns) h = (h.0, shorts ns h.1)

pub names_of-short : (s : List ℕ) (flags : ℕ) → Short (names_of s flags)
names_of-short s flags = shorts (names_of s flags) (names_of-all (λ n ms. length n ≤ name_limit) (λ ns. omega arith) (λ n ns e f. is_name-short n e) s flags)

-- No name is used twice ----------------------------------------------------------------

abbrev pub Apart : Names → Type 0
Apart [] = Unit {0}
Apart (n ∷ ns) = (1 ≤ length n → is_used n ns ≡ false) × Apart ns

aparts : (ns : Names) → All (λ n ms. 1 ≤ length n → is_used n ms ≡ false) ns → Apart ns
aparts [] h = tt
aparts (n ∷ ns) h = (h.0, aparts ns h.1)

pub names_of-apart : (s : List ℕ) (flags : ℕ) → Apart (names_of s flags)
names_of-apart s flags = aparts (names_of s flags) (names_of-all (λ n ms. 1 ≤ length n → is_used n ms ≡ false) (λ ns h. absurd (omega arith)) (λ n ns e f h. f) s flags)

-- There are no more than groups may be opened ---------------------------------------

read-few : (a : Read (Rule × Names)) → Given a (λ r at. (length r.1 ≤ group_limit) × Proper (length r.1) r.0 × (height r.0 ≤ height_limit) × (levels r.0 ≤ level_limit)) → length (names_read a) ≤ group_limit
unfolding names_read
read-few (sound r at) h = h.0
read-few (refused place why) h = omega arith

pub names_of-few : (s : List ℕ) (flags : ℕ) → length (names_of s flags) ≤ group_limit
unfolding names_of
names_of-few s flags = read-few (parsed s flags []) (parsed-formed s flags [])
