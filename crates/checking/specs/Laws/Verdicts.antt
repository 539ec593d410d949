-- What is told of a check: where its bytes name a start that the line has, what following the path of its choices tells is `check`'s answer; and that answer is
-- what its call returns.
use Rattle.std.specs.Prelude.{◌≡◌, ℕ, ◌+◌, ◌-◌, ◌*◌, ◌≤◌, ◌<◌, length, get_or, take, drop}
use Rattle.std.proofs.Math.Path.{refl}
use Rattle.std.proofs.Common.{sym, ◌∙◌, ap, subst, arith}
use mathlib.Core.List.{List, [], ◌∷◌, ◌++◌}
use borrow.Author.Tests.{le-leb, lt-leb}
use Rattle.std.proofs.Math.Seq.{take_all}
use Rattle.syntax.specs.Limits.{spans_length, row_length}
use Rattle.syntax.specs.Tree.{Rule}
use Rattle.semantics.specs.States.{row}
use Rattle.semantics.specs.Proposals.{path_of, no_reading, within, startless, start_of, check}
use Rattle.machine.specs.Moves.{Bytes}
use Rattle.machine.specs.Theorem.{Stands, Clear}
use Rattle.index.specs.Rows.{row_of}
use Rattle.index.specs.Laws.Rows.{row_of-length, row_of-row}
use Rattle.frame.specs.Inputs.{between}
use Rattle.frame.specs.Laws.Areas.{over_first}
use Rattle.following.specs.declared.Followed.{Followed}
use Rattle.following.specs.declared.Followed.TheVariants.{Arrived, Missed, Spent}
use Rattle.checking.specs.declared.Verdict.TheVariants.{Reading, Nothing, Exhausted}
use Rattle.following.specs.Paths.{told, FollowedAs, Follows}
use Rattle.checking.specs.Verdicts.{Reports}
use Rattle.following.specs.Laws.Follows.{treads-path}

-- The bytes that were sent ------------------------------------------------------------

module _ (sub : List ℕ) (x : Rule) (budget : ℕ) where
  -- too few for a start
  pub check-short : (proposal : List ℕ) → length proposal < 2 → check sub x budget proposal ≡ told no_reading 0
  unfolding check startless
  check-short [] h = refl
  check-short (low ∷ []) h = refl
  check-short (low ∷ high ∷ choices) h = absurd (omega arith)

  -- a start that the line does not have
  pub check-beyond : (proposal : List ℕ) → 2 ≤ length proposal → length sub < get_or proposal 0 0 + 256 * get_or proposal 1 0 → check sub x budget proposal ≡ told no_reading 0
  unfolding check startless start_of
  check-beyond [] h l = absurd (omega arith)
  check-beyond (low ∷ []) h l = absurd (omega arith)
  check-beyond (low ∷ high ∷ choices) h l = rw (lt-leb (low + 256 * high) (length sub) l)

  -- one that it has: the rest are the choices
  pub check-within : (proposal : List ℕ) (start : ℕ) → 2 ≤ length proposal → start ≡ get_or proposal 0 0 + 256 * get_or proposal 1 0 → start ≤ length sub → check sub x budget proposal ≡ within start budget (path_of sub x start (between proposal 2 (length proposal)))
  unfolding check start_of
  check-within [] start h e l = absurd (omega arith)
  check-within (low ∷ []) start h e l = absurd (omega arith)
  check-within (low ∷ high ∷ choices) start h e l = rw (e, le-leb (low + 256 * high) (length sub) (rw e at l), take_all (length (low ∷ high ∷ choices) - 2) choices (omega arith)) refl

-- The path of the choices ---------------------------------------------------------------

module _ {code sub : List ℕ} {entry start : ℕ} (budget : ℕ) {choices before : List ℕ} (after : List ℕ) {r : Followed} (h : Follows code sub entry start budget choices before after r) (bytes : Bytes sub) (clear : Clear before) (inside : start ≤ length sub) (x : Rule) (stands : Stands code x entry) where
  of-path : (y : Followed) → r ≡ y → FollowedAs start budget (path_of sub x start choices) after y
  of-path y e = subst (λ (z : Followed). FollowedAs start budget (path_of sub x start choices) after z) e (h (path_of sub x start choices) (treads-path code sub x entry start before choices stands bytes clear inside))

  -- a reading, where its row is written into the area
  pub arrived-reports : (at steps : ℕ) → r ≡ Arrived at steps → (old : List ℕ) {new : List ℕ} → new ≡ take 0 old ++ (row_of start at after ++ drop (0 + row_length) old) → spans_length ≤ length after → Reports old new (Reading steps) (within start budget (path_of sub x start choices))
  arrived-reports at steps e old written size =
      let z = of-path (Arrived at steps) e in
      let long = row_of-length start at after size in
      let is : row_of start at after ≡ row start z.0 = ap (λ (k : ℕ). row_of start k after) (sym z.2) ∙ row_of-row start z.0 after (sym z.3) in
      (start, z.0, z.1, written ∙ over_first (row_of start at after) old row_length long ∙ rw is, rw is at long)

  pub missed-reports : (steps : ℕ) → r ≡ Missed steps → (area : List ℕ) → Reports area area (Nothing steps) (within start budget (path_of sub x start choices))
  missed-reports steps e area = (of-path (Missed steps) e, refl)

  pub spent-reports : r ≡ Spent → (area : List ℕ) → Reports area area (Exhausted start budget) (within start budget (path_of sub x start choices))
  spent-reports e area = (of-path Spent e, refl)
