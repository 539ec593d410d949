-- `tell` meets its contract: each case of the outcome has the numbers of its own law.
use mathlib.Core.Path.{◌≡◌, refl, ◌∙◌}
use mathlib.Core.List.{[], ◌∷◌}
use Prim.Native.Nat.{ℕ}
use Rattle.syntax.specs.declared.Refusal.{Refusal}
use Rattle.syntax.specs.Refusals.{number_of}
use Rattle.semantics.specs.Batches.{low, high, outcome_numbers}
use Rattle.finding.specs.declared.Outcome.{Outcome}
use Rattle.finding.specs.declared.Outcome.TheVariants.{Matched, NotMatched, Exhausted, Refused}
use Rattle.finding.specs.Outcomes.{outcome_of}
use Rattle.batch_lines.proofs.line_parts.tell.Goals as goal

of-matched : (o : Outcome) (steps : ℕ) → o ≡ Matched steps → 0 ∷ 0 ∷ low steps ∷ high steps ∷ [] ≡ outcome_numbers (outcome_of o)
unfolding outcome_numbers outcome_of
of-matched o steps e = rw e refl

of-not-matched : (o : Outcome) (steps : ℕ) → o ≡ NotMatched steps → 1 ∷ 0 ∷ low steps ∷ high steps ∷ [] ≡ outcome_numbers (outcome_of o)
unfolding outcome_numbers outcome_of
of-not-matched o steps e = rw e refl

of-exhausted : (o : Outcome) (start steps : ℕ) → o ≡ Exhausted start steps → 2 ∷ start ∷ low steps ∷ high steps ∷ [] ≡ outcome_numbers (outcome_of o)
unfolding outcome_numbers outcome_of
of-exhausted o start steps e = rw e refl

of-refused : (o : Outcome) (f : Refusal) (number : ℕ) → o ≡ Refused f → number ≡ number_of f.reason → 3 ∷ number ∷ low 0 ∷ high 0 ∷ [] ≡ outcome_numbers (outcome_of o)
unfolding outcome_numbers outcome_of low high
of-refused o f number e h = rw (e, h) refl

pub returns-in-Matched : goal.returns-in-Matched
returns-in-Matched c = c.put.ensures ∙ of-matched _ _ c.in-Matched.is

pub returns-in-NotMatched : goal.returns-in-NotMatched
returns-in-NotMatched c = c.put-in-NotMatched.ensures ∙ of-not-matched _ _ c.in-NotMatched.is

pub returns-in-Exhausted : goal.returns-in-Exhausted
returns-in-Exhausted c = c.put-in-Exhausted.ensures ∙ of-exhausted _ _ _ c.in-Exhausted.is

pub returns-in-Refused : goal.returns-in-Refused
returns-in-Refused c = c.put-in-Refused.ensures ∙ of-refused _ _ _ c.in-Refused.is c.from.ensures
