-- The walk from a start lists the derivations from it: every one, nothing else, each once, by priority.
-- docs/REFERENCE.md, 14.2
use Rattle.std.specs.Prelude.{◌≡◌, List, map, ◌⊎◌, ℕ, ◌≤◌, ◌<◌, length}
use Rattle.std.proofs.Common.{sym, inl, inr}
use Rattle.syntax.specs.Tree.{Rule}
use Rattle.semantics.specs.States.{Before, code, State, starting, row}
use Rattle.semantics.specs.Derivations.{Derivation}
use Rattle.semantics.specs.Walk.{Trace, trace, Reaches}
use Rattle.semantics.proofs.Laws.Cases.{three}
use Rattle.semantics.proofs.Laws.Traces.{before-codes, apart, reaches-ends, ends-reaches, reaches-one, reaches-ordered}
use Rattle.semantics.proofs.Laws.Right.{Right}
use Rattle.semantics.proofs.Laws.Walk.{right}
use Rattle.semantics.specs.Theorem.{ListsDerivations}

module _ (sub : List ℕ) (r : Rule) (start : ℕ) (fits : start ≤ length sub) where
  es : Trace
  es = trace sub r start

  whole : Right (length sub) (starting start) es (Derivation sub r start)
  unfolding es trace starting
  whole = right sub r (starting start) fits

  first : (j : ℕ) (t : State) → Reaches es j t → ((i : ℕ) (u : State) → i < j → Reaches es i u → ¬ (row start u ≡ row start t))
      → (u : State) → Derivation sub r start u → row start u ≡ row start t → (u ≡ t) ⊎ Before t.path u.path
  first j t x new u d e =
      let z = ends-reaches es u (whole.complete u d) in
      elim (three z.0 j) [
        | inl l ↦ absurd (new z.0 u l z.1 e)
        | inr y ↦ elim y [
          | inl q ↦ inl (reaches-one es j u t (rw q at z.1) x)
          | inr l ↦ inr (reaches-ordered es j z.0 t u whole.ordered l x z.1)
        ]
      ]

  settled : (t u : State) → Derivation sub r start t → Derivation sub r start u → map code t.path ≡ map code u.path → t ≡ u
  settled t u x y e =
      elim (apart es t u whole.ordered (whole.complete t x) (whole.complete u y)) [
        | inl q ↦ q
        | inr z ↦ elim z [
          | inl v ↦ absurd (before-codes v e)
          | inr v ↦ absurd (before-codes v (sym e))
        ]
      ]

  pub walk-lists-derivations : ListsDerivations sub r start
  unfolding es
  walk-lists-derivations = record {
    ends_derive = λ j t h. whole.sound t (reaches-ends es j t h);
    derivations_end = λ t d. ends-reaches es t (whole.complete t d);
    by_priority = λ i j t u l x y. reaches-ordered es i j t u whole.ordered l x y;
    first_of_reading = first;
    choices_settle = settled;
  }
