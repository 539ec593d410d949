-- Single items: the classes of byte items, and which case of an escape or an item holds. Assumes nothing.
use Rattle.std.specs.Prelude.{if◌then◌else◌}
use mathlib.Core.Path.{◌≡◌, refl, ap, ◌∙◌}
use mathlib.Core.List.{List}
use mathlib.Core.Bool.{Bool, true, false, not, ◌||◌}
use mathlib.Core.Logic.{◌⊎◌}
use Prim.Native.Nat.{ℕ, ◌+◌, ◌≤◌, ◌<◌}
use native.Mathlib.Omega.{arith}
use lib.Dec.{eqb}
use borrow.Author.Tests.{ne_eqb}
use Rattle.charset.specs.Class.{has}
use Rattle.charset.specs.Laws.Cases.{other-before, folding-single}
use Rattle.syntax.specs.declared.Assertion.TheVariants.{TextStart, LineStart, TextEnd, LastLineEnd, LineEnd, WordBoundary, NoWordBoundary}
use Rattle.syntax.specs.declared.Refusal.{Refusal}
use Rattle.syntax.specs.Read.{byte, Read, sound, refused, and_then}
use Rattle.syntax.specs.Sets.{Member, single, Class, is_member, is_any, in_class, only, not_newline, any_byte}
use Rattle.syntax.specs.Tree.{Item, byte_in, assert, reference}
use Rattle.syntax.specs.Flags.{dot_all, multiline, ignore_case, depot}
use Rattle.syntax.specs.Names.{Name, Names, name_up_to, group_called}
use Rattle.syntax.specs.Escapes.{octal, common, forward, decimal, group_number, called, calls_by_name, escape}
use Rattle.syntax.specs.Classes.{class}
use Rattle.syntax.specs.Grammar.{atom}
use Rattle.std.specs.Prelude.{Result, Ok}
use Rattle.syntax.specs.declared.Parsed.{Parsed}
use Rattle.lexemes.specs.declared.Name.{Name as NameAt}
use Rattle.lexer.specs.declared.Token.{Token}
use Rattle.lexer.specs.declared.Token.TheVariants.{Called}
use Rattle.lexemes.specs.Says.{SaysName}
use Rattle.classes.specs.Says.{HoldsClass, SaysClass}
use Rattle.lexer.specs.Says.{ItemIn, SaysItem}
use Rattle.lexemes.proofs.Digits.{inside, outside}

-- equal readings say the same
pub same_item : (s : List ℕ) (folded : Bool) (known : Names) {a b : Read Item} (words : List ℕ) (r : Result (Parsed Token) Refusal) → a ≡ b → SaysItem s folded known a words r → SaysItem s folded known b words r
same_item s folded known words r e h = rw e at h

-- Byte items -----------------------------------------------------------------------------

-- `none` holds no byte
module _ (none words : List ℕ) (e : (x : ℕ) → x < 256 → has none x ≡ false) where
  pub holds-any : ((x : ℕ) → x < 256 → has words x ≡ not (has none x)) → (folded : Bool) → HoldsClass folded words any_byte
  unfolding any_byte in_class is_any
  holds-any h folded x l = h x l ∙ ap not (e x l)

  pub holds-rest : (one : List ℕ) → ((x : ℕ) → x < 256 → has one x ≡ (eqb x 10 || has none x)) → ((x : ℕ) → x < 256 → has words x ≡ not (has one x)) → (folded : Bool) → HoldsClass folded words not_newline
  unfolding not_newline in_class is_any is_member
  holds-rest one o h folded x l = h x l ∙ ap not (o x l) ∙ rw (e x l, folding-single folded 10 (other-before 10 (omega arith)) x)

-- what a member makes of an item
abbrev pub alone : Bool → Read Member → Read Item
alone folded a = and_then a (λ x next. sound (byte_in folded (only x)) next)

-- words that a member was added to, which held no byte
pub holds-only : (folded : Bool) (m : Member) (none words : List ℕ) → ((x : ℕ) → x < 256 → has none x ≡ false) → ((x : ℕ) → x < 256 → has words x ≡ (is_member folded x m || has none x)) → HoldsClass folded words (only m)
unfolding only in_class is_any
holds-only folded m none words e a x h = a x h ∙ rw (e x h)

-- what a class makes of an item
abbrev pub classed : Bool → Read Class → Read Item
classed folded a = and_then a (λ x next. sound (byte_in folded x) next)

-- whatever is said of each class that the words hold is said of the one that was read
pub class-sound : (s : List ℕ) (folded : Bool) (known : Names) (a : Read Class) (p : Parsed (List ℕ)) → SaysClass folded a (Ok p) → (words : List ℕ) (r : Result (Parsed Token) Refusal) → ((c : Class) → HoldsClass folded p.value c → SaysItem s folded known (sound (byte_in folded c) p.next) words r) → SaysItem s folded known (classed folded a) words r
class-sound s folded known a p h words r says = rw h.1 (says h.0 h.2)

-- what a group's number makes of an item
abbrev pub referring : Bool → Read ℕ → Read Item
referring folded a = and_then a (λ n next. sound (reference folded n) next)

-- what a group's name makes of an item
abbrev pub calling : Bool → Names → Read Name → Read Item
calling folded known a = and_then a (λ n next. sound (reference folded (group_called n known)) next)

pub calling-sound : (s : List ℕ) (folded : Bool) (known : Names) (words : List ℕ) (a : Read Name) (p : Parsed NameAt) → SaysName s a (Ok p) → ItemIn s folded known (calling folded known a) words (Called p.value) p.next
calling-sound s folded known words a p h = (rw h.0, h.1)

-- Escapes ------------------------------------------------------------------------------------

module _ (s : List ℕ) (folded : Bool) (known : Names) (opened at b : ℕ) (p : b ≡ byte s (at + 1)) where
  pub escape-newline : b ≡ 78 → escape s folded known opened at ≡ sound (byte_in folded not_newline) (at + 2)
  unfolding escape
  escape-newline e = rw (← p, e)

  pub escape-text-start : b ≡ 65 → sound (assert TextStart) (at + 2) ≡ escape s folded known opened at
  unfolding escape
  escape-text-start e = rw (← p, e)

  pub escape-text-end : b ≡ 122 → sound (assert TextEnd) (at + 2) ≡ escape s folded known opened at
  unfolding escape
  escape-text-end e = rw (← p, e)

  pub escape-last-line-end : b ≡ 90 → sound (assert LastLineEnd) (at + 2) ≡ escape s folded known opened at
  unfolding escape
  escape-last-line-end e = rw (← p, e)

  pub escape-boundary : b ≡ 98 → sound (assert WordBoundary) (at + 2) ≡ escape s folded known opened at
  unfolding escape
  escape-boundary e = rw (← p, e)

  pub escape-no-boundary : b ≡ 66 → sound (assert NoWordBoundary) (at + 2) ≡ escape s folded known opened at
  unfolding escape
  escape-no-boundary e = rw (← p, e)

  pub escape-octal : b ≡ 48 → (m : Read Member) → m ≡ octal s at → alone folded m ≡ escape s folded known opened at
  unfolding escape
  escape-octal e m k = rw (k, ← p, e)

  pub escape-called : b ≡ 107 → calling folded known (called s at) ≡ escape s folded known opened at
  unfolding escape
  escape-called e = rw (← p, e)

  pub escape-by-name : b ≡ 103 → calls_by_name s at ≡ true → calling folded known (name_up_to "}" s at (at + 3)) ≡ escape s folded known opened at
  unfolding escape
  escape-by-name e t = rw (← p, e, t)

  pub escape-by-number : b ≡ 103 → calls_by_name s at ≡ false → (g : Read ℕ) → g ≡ group_number s opened at → referring folded g ≡ escape s folded known opened at
  unfolding escape
  escape-by-number e t g k = rw (k, ← p, e, t)

  twice : (a : Read ℕ) → referring folded (and_then a (λ n next. sound (forward n) next)) ≡ and_then a (λ n next. sound (reference folded (forward n)) next)
  twice (sound n next) = refl
  twice (refused place why) = refl

  pub escape-number : 48 ≤ b → (b ≡ 48 → ⊥) → b < 58 → (g : Read ℕ) → g ≡ and_then (decimal s at (at + 1)) (λ n next. sound (forward n) next) → referring folded g ≡ escape s folded known opened at
  unfolding escape
  escape-number h n l g k =
      rw (k, twice (decimal s at (at + 1)), ← p)
      (simp (ne_eqb b 78 (λ e. omega arith), ne_eqb b 65 (λ e. omega arith), ne_eqb b 122 (λ e. omega arith), ne_eqb b 90 (λ e. omega arith), ne_eqb b 98 (λ e. omega arith), ne_eqb b 66 (λ e. omega arith), ne_eqb b 48 n, inside 49 57 b (omega arith) (omega arith)))

  pub escape_end : b ≡ 256 → (m : Read Member) → m ≡ common s at → alone folded m ≡ escape s folded known opened at
  unfolding escape
  escape_end e m k = rw (k, ← p, e)

  pub escape-common : (b ≡ 78 → ⊥) → (b ≡ 65 → ⊥) → (b ≡ 122 → ⊥) → (b ≡ 90 → ⊥) → (b ≡ 98 → ⊥) → (b ≡ 66 → ⊥) → (b ≡ 48 → ⊥) → (b ≡ 107 → ⊥) → (b ≡ 103 → ⊥) → (b < 49) ⊎ (57 < b) → (m : Read Member) → m ≡ common s at → alone folded m ≡ escape s folded known opened at
  unfolding escape
  escape-common n1 n2 n3 n4 n5 n6 n7 n8 n9 o m k =
      rw (k, ← p) (simp (ne_eqb b 78 n1, ne_eqb b 65 n2, ne_eqb b 122 n3, ne_eqb b 90 n4, ne_eqb b 98 n5, ne_eqb b 66 n6, ne_eqb b 48 n7, outside 49 57 b o, ne_eqb b 107 n8, ne_eqb b 103 n9))

-- Items ----------------------------------------------------------------------------------------

-- an item is folded by the flag
pub as-atom : (s : List ℕ) (known : Names) (folded : Bool) (flags : ℕ) → folded ≡ ignore_case flags → {a b : Read Item} (words : List ℕ) (r : Result (Parsed Token) Refusal) → a ≡ b → SaysItem s folded known a words r → SaysItem s (ignore_case flags) known b words r
as-atom s known folded flags f words r e h = rw (f, e) at h

module _ (s : List ℕ) (flags : ℕ) (known : Names) (opened at b : ℕ) (p : b ≡ byte s at) (folded : Bool) (f : folded ≡ ignore_case flags) where
  pub atom-escape : b ≡ 92 → escape s folded known opened at ≡ atom s flags known opened at
  unfolding atom
  atom-escape e = rw (← p, e, f)

  pub atom-class : b ≡ 91 → classed folded (class s (depot flags) at) ≡ atom s flags known opened at
  unfolding atom
  atom-class e = rw (← p, e, f)

  pub atom-dot : b ≡ 46 → sound (byte_in folded (if dot_all flags then any_byte else not_newline)) (at + 1) ≡ atom s flags known opened at
  unfolding atom
  atom-dot e = rw (← p, e, f)

  pub atom-caret : b ≡ 94 → sound (assert (if multiline flags then LineStart else TextStart)) (at + 1) ≡ atom s flags known opened at
  unfolding atom
  atom-caret e = rw (← p, e)

  pub atom-dollar : b ≡ 36 → sound (assert (if multiline flags then LineEnd else LastLineEnd)) (at + 1) ≡ atom s flags known opened at
  unfolding atom
  atom-dollar e = rw (← p, e)

  pub atom-byte : (b ≡ 92 → ⊥) → (b ≡ 91 → ⊥) → (b ≡ 46 → ⊥) → (b ≡ 94 → ⊥) → (b ≡ 36 → ⊥) → sound (byte_in folded (only (single b))) (at + 1) ≡ atom s flags known opened at
  unfolding atom
  atom-byte n1 n2 n3 n4 n5 = rw (← p, f) (simp (ne_eqb b 92 n1, ne_eqb b 91 n2, ne_eqb b 46 n3, ne_eqb b 94 n4, ne_eqb b 36 n5))
