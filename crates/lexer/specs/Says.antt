-- What the readers of single items promise: their answers are those of the definitions in `syntax`.
-- docs/REFERENCE.md, 4.3
use Rattle.std.specs.Prelude.{◌≡◌, List, Bool, Result, Ok, Err, ℕ, ◌+◌}
use Rattle.std.proofs.Math.Seq.{slice}
use Rattle.syntax.specs.declared.Parsed.{Parsed}
use Rattle.syntax.specs.declared.Refusal.{Refusal}
use Rattle.syntax.specs.Read.{Read, sound, refused}
use Rattle.syntax.specs.Sets.{Class}
use Rattle.syntax.specs.Tree.{Item, byte_in, assert, reference}
use Rattle.syntax.specs.Names.{Names, group_called}
use Rattle.lexemes.specs.Says.{NameWithin}
use Rattle.classes.specs.Says.{HoldsClass}
use Rattle.lexer.specs.declared.Token.{Token}
use Rattle.lexer.specs.declared.Token.TheVariants.{Byte, Assert, Reference, Called}

-- Items of the rule s, which are folded or are not. `known` are the names of the whole rule's groups.
module _ (s : List ℕ) (folded : Bool) (known : Names) where
  -- the reading a of an item is what words, a token and the position behind it say: a byte item's class stands in the words
  abbrev pub ItemIn : Read Item → List ℕ → Token → ℕ → Type 0
  ItemIn a words Byte next = (c : Class) × (a ≡ sound (byte_in folded c) next) × HoldsClass folded words c
  ItemIn a words (Assert k) next = a ≡ sound (assert k) next
  ItemIn a words (Reference n) next = a ≡ sound (reference folded n) next
  ItemIn a words (Called n) next = (a ≡ sound (reference folded (group_called (slice n.from (n.from + n.len) s) known)) next) × NameWithin s n.from n.len next

  abbrev pub SaysItem : Read Item → List ℕ → Result (Parsed Token) Refusal → Type 0
  SaysItem a words (Ok p) = ItemIn a words p.value p.next
  SaysItem a words (Err r) = a ≡ refused r.place r.reason
