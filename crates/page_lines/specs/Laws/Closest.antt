-- The attempt that an explanation tells lies within the line.
use Rattle.std.specs.Prelude.{◌≡◌, refl, List, ℕ, ◌≤◌, length}
use Rattle.std.proofs.Common.{ap, subst, arith}
use Rattle.std.proofs.Math.Option.{Option, none, some}
use Rattle.syntax.specs.Tree.{Rule}
use Rattle.semantics.specs.Explanations.{Failure, failures, greatest, nowhere, or_nowhere, reach, closest}
use Rattle.semantics.proofs.Laws.Failures.{greatest-in, greatest-some}
use Rattle.semantics.proofs.Laws.Misses.{failure-inside}
use Rattle.greatest.specs.declared.greatest.Failed.{Failed}
use Rattle.explaining.specs.declared.Explanation.{Explanation}
use Rattle.explaining.specs.declared.Explanation.TheVariants.{NotMatched}
use Rattle.explaining.specs.Explanations.{Explains}
use Rattle.page_lines.specs.Rules.{Holds}

-- "nowhere", the beginning, does so too
closest-inside : (line : List ℕ) (x : Rule) → ((closest (failures line x)).start ≤ (closest (failures line x)).at) × ((closest (failures line x)).at ≤ length line)
unfolding closest or_nowhere nowhere
closest-inside line x = by (greatest reach none (failures line x)) refl
  where
    by : (o : Option Failure) → greatest reach none (failures line x) ≡ o → ((or_nowhere o).start ≤ (or_nowhere o).at) × ((or_nowhere o).at ≤ length line)
    by none e = (omega arith, omega arith)
    by (some y) e = failure-inside line x y (greatest-in reach (greatest-some reach (failures line x) y e))

module _ (code line old new : List ℕ) (many entry budget : ℕ) (told : Explanation) where
  pub told-inside : {steps : ℕ} {far near : Failed} → Holds code entry budget → Explains code line many old new entry budget told → told ≡ NotMatched steps far near → (near.start ≤ near.at) × (near.at ≤ length line)
  told-inside held explains e =
      let a = subst (λ (x : Explanation). Explains code line many old new entry budget x) e explains held.tree held.stands in
      let starts = ap (λ (x : Failure). x.start) a.2 in
      let stops = ap (λ (x : Failure). x.at) a.2 in
      let z = closest-inside line held.tree in
      (omega (arith, starts, stops, z.0), omega (arith, stops, z.1))
