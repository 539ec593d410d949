-- The parts that the code writes are those of the definition.
use Rattle.std.specs.Prelude.{◌≡◌, refl, ℕ, ◌≤◌, ◌<◌, length, take, drop}
use Rattle.std.proofs.Math.Path.{ap}
use Rattle.std.proofs.Common.{sym, ◌∙◌, inl, inr, arith, take-take}
use mathlib.Core.List.{List, [], ◌∷◌, ◌++◌}
use Rattle.syntax.specs.Limits.{subject_limit, row_length, part_length}
use Rattle.syntax.specs.Tree.{Rule}
use Rattle.semantics.specs.Answers.{Outcome, matched, not_matched, exhausted, answer}
use Rattle.semantics.specs.Calls.{Call, over, untouched, leaving, match_returns, match_rule}
use Rattle.semantics.specs.Batches.{line_call, outcome_numbers, told, part_of, parts, lineless, parts_need}
use Rattle.semantics.specs.Demands.{Accepted}
use Rattle.semantics.proofs.Laws.Areas.{over_nothing}
use Rattle.semantics.proofs.Laws.Cases.{le-or}
use Rattle.semantics.proofs.Laws.Parts.{row-in-part, fit-first, first_part}
use Rattle.semantics.proofs.Laws.Batches.{part-too-long, part-answered}
use Rattle.batch_lines.specs.Parts.{alone, line_return, line_part, filled}
use Rattle.batch_lines.specs.Laws.Parts.{long-return, short-return}

-- of a line's call nothing else is told
answer-alone : (c : Call) (line row : List ℕ) (o : Outcome) (steps : ℕ) → told (match_returns (line_call c line row) o steps) ≡ told (match_returns (alone line c.budget row) o steps)
unfolding match_returns leaving told
answer-alone c line row (matched n t) steps = refl
answer-alone c line row not_matched steps = refl
answer-alone c line row (exhausted n) steps = refl

told-alone : (c : Call) (x : Rule) (line row : List ℕ) → told (match_rule (line_call c line row) x) ≡ told (match_rule (alone line c.budget row) x)
unfolding match_rule
told-alone c x line row = let a = answer line x c.budget in answer-alone c line row a.outcome a.steps

long-part : (x : Rule) (line : List ℕ) (budget : ℕ) (row : List ℕ) → subject_limit < length line → row ++ (3 ∷ 2 ∷ 0 ∷ 0 ∷ []) ≡ told (line_return x line budget row)
unfolding told untouched outcome_numbers
long-part x line budget row h = rw (long-return x line budget row h)

module _ (c : Call) (all : List (List ℕ)) (x : Rule) (groups : ℕ) (a : Accepted (parts_need all) (lineless c) x groups) where
  row_is : (line area : List ℕ) → row_length ≤ length area → part_of c line area ≡ told (line_return x line c.budget (take row_length area))
  row_is line area h = elim (le-or (length line) subject_limit) [
    | inl l ↦ part-answered c all x groups a line area h l ∙ told-alone c x line (take row_length area) ∙ ap told (sym (short-return x line c.budget (take row_length area) l))
    | inr l ↦ part-too-long c all x groups a line area h l ∙ long-part x line c.budget (take row_length area) l
  ]

  part-is : (line area : List ℕ) → row_length ≤ length area → part_of c line area ≡ line_part x line c.budget (take part_length area)
  unfolding line_part
  part-is line area h = row_is line area h ∙ ap {B = List ℕ} (λ (r : List ℕ). told (line_return x line c.budget r)) (sym (take-take row_length part_length area row-in-part))

  pub filled_is : (lines : List (List ℕ)) (area : List ℕ) → parts_need lines ≤ length area → over (parts c lines area) area ≡ filled x c.budget lines area
  unfolding parts filled
  filled_is [] area h = over_nothing area
  filled_is (line ∷ lines) area h =
      let f = fit-first line lines area h in
      first_part c line lines area h ∙ rw (part-is line area (omega (arith, row-in-part, f.0)), filled_is lines (drop part_length area) f.1)
