-- `explain_held` meets its contract: what the match reports is told, and where it isn't matched `tell_why` tells more.
use mathlib.Core.Path.{refl, ◌∙◌}
use native.Mathlib.Omega.{arith}
use Rattle.syntax.specs.Limits.{row_length}
use Rattle.explaining.specs.Laws.Explanations.{matched-too, exhausted_too, unmatched-too, never-refused}
use Rattle.explaining.proofs.explain_held.Goals as goal

pub match_held-requires : goal.match_held-requires
unfolding row_length
match_held-requires c = (c.requires, omega arith)

pub tell_why-requires : goal.tell_why-requires
tell_why-requires c = let h = c.requires in
    let m = c.match_held in
    record {
      held = record { tree = h.tree; stands = h.stands; code_size = h.code_size; subject_fits = h.subject_fits; work_fits = omega (arith, h.work_fits, m.auto.work); budget_fits = h.budget_fits };
      unmatched = λ x st. unmatched-too _ _ _ _ (m.ensures.finds x st) _ c.in-NotMatched.is;
    }

pub returns-in-Matched : goal.returns-in-Matched
returns-in-Matched c = record {
  explains = λ x st. (let z = matched-too _ _ _ _ (c.match_held.ensures.finds x st) _ c.in-Matched.is in (z.0, z.1, z.2, refl));
  work_unchanged = c.match_held.ensures.work_unchanged;
}

pub returns-in-NotMatched : goal.returns-in-NotMatched
returns-in-NotMatched c = record {
  explains = c.tell_why.ensures.explains;
  work_unchanged = c.tell_why.ensures.work_unchanged ∙ c.match_held.ensures.work_unchanged;
}

pub returns-in-Exhausted : goal.returns-in-Exhausted
returns-in-Exhausted c = record {
  explains = λ x st. (exhausted_too _ _ _ _ (c.match_held.ensures.finds x st) _ _ c.in-Exhausted.is, refl);
  work_unchanged = c.match_held.ensures.work_unchanged;
}

pub unreachable-requires : goal.unreachable-requires
unreachable-requires c = never-refused _ _ _ _ (c.match_held.ensures.finds c.requires.tree c.requires.stands) _ c.in-Refused.is
