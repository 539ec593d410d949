-- What one move marks: nothing, or the place of the item that failed.
use Rattle.std.specs.Prelude.{◌≡◌, List, ◌++◌, Option, None, Some, ℕ, ◌≤◌, length, set, take, drop}
use Rattle.std.proofs.Common.{◌∙◌, length-take-le}
use Rattle.std.proofs.Math.Seq.{set_out}
use borrow.Author.Tests.{eq-eqb, ne_eqb}
use Rattle.syntax.specs.Tree.{Rule}
use Rattle.semantics.specs.Explanations.{Failure, marks}
use Rattle.semantics.specs.Calls.{over}
use Rattle.semantics.proofs.Laws.Explanations.{marks-of}
use Rattle.plain.specs.declared.Miss.{Miss}
use Rattle.plain.specs.declared.Told.TheVariants.{Item}
use Rattle.failures.specs.Accounts.{marked_if, marked_by}

module _ (at : ℕ) (bytes : List ℕ) (place there : ℕ) where
  pub marks-elsewhere : (there ≡ at → ⊥) → bytes ≡ marked_if at bytes place there
  unfolding marked_if
  marks-elsewhere h = rw (ne_eqb there at h)

  pub marks-place : there ≡ at → set bytes place 1 ≡ marked_if at bytes place there
  unfolding marked_if
  marks-place h = rw (eq-eqb there at h)

  -- there is no room for it
  pub marks-beyond : there ≡ at → length bytes ≤ place → bytes ≡ marked_if at bytes place there
  marks-beyond h l = sym-set ∙ marks-place h
    where
      sym-set : bytes ≡ set bytes place 1
      sym-set = rw (set_out bytes place 1 l)

-- an item that is told, or none
pub marks-item : (at : ℕ) (bytes : List ℕ) (r : Option Miss) (m : Miss) → r ≡ Some m → marked_if at bytes m.place m.at ≡ marked_by at bytes (Item r)
unfolding marked_by
marks-item at bytes r m e = rw e

pub marks-nothing : (at : ℕ) (bytes : List ℕ) (r : Option Miss) → r ≡ None → bytes ≡ marked_by at bytes (Item r)
unfolding marked_by
marks-nothing at bytes r e = rw e

-- The marks of an attempt, written over the first bytes of an area
pub marks_written : (sub : List ℕ) (x : Rule) (f g : Failure) (k many : ℕ) (old part : List ℕ) → f ≡ g → k ≡ many → k ≤ length old → part ≡ marks sub x f (length (take k old)) → part ++ drop k old ≡ over (marks sub x g many) old
unfolding over
marks_written sub x f g k many old part same is h e = rw (e, length-take-le k old h, same, is, (marks-of sub x g many).size)
