-- `match_one` meets its contract: a line that is too long is refused, and any other is told as its match reports it.
use mathlib.Core.Path.{refl}
use native.Mathlib.Omega.{arith}
use Rattle.syntax.specs.Limits.{subject_limit}
use Rattle.frame.specs.Inputs.{between}
use Rattle.finding.specs.Outcomes.{outcome_of}
use Rattle.frame.specs.Laws.Parts.{between-length}
use Rattle.batch_lines.specs.Laws.Parts.{long-told, short-told}
use Rattle.batch_lines.proofs.line_parts.match_one.Goals as goal

pub overflow_sub-to : goal.overflow_sub-to
overflow_sub-to c = c.requires.2

pub returns-then-to-from-gt-SUBJECT_LIMIT : goal.returns-then-to-from-gt-SUBJECT_LIMIT
unfolding subject_limit outcome_of
returns-then-to-from-gt-SUBJECT_LIMIT c = let a = c.args in
    let size = between-length a.buffer.now a.from a.to c.requires.2 c.requires.3 in
    record {
      answers = λ x st. rw c.at.ensures (long-told x (between a.buffer.now a.from a.to) a.budget a.row.now (omega (arith, c.if-to-from-gt-SUBJECT_LIMIT.true)));
      work_unchanged = refl;
      keeps = λ x st p few. c.requires.6;
    }

pub match_opened-requires : goal.match_opened-requires
unfolding subject_limit
match_opened-requires c = let a = c.args in
    let h = c.requires.0 in
    let size = between-length a.buffer.now a.from a.to c.requires.2 c.requires.3 in
    record {
      from_le_to = (omega (arith, c.requires.2), c.requires.3, omega (arith, c.requires.4));
      held = (record { tree = h.tree; stands = h.stands; code_size = h.code_size; subject_fits = omega (arith, c.if-to-from-gt-SUBJECT_LIMIT.false); work_fits = h.work_fits; budget_fits = h.budget_fits }, c.requires.1, c.requires.5, c.requires.6);
    }

pub returns : goal.returns
unfolding subject_limit
returns c = let a = c.args in
    let m = c.match_opened in
    let size = between-length a.buffer.now a.from a.to c.requires.2 c.requires.3 in
    record {
      answers = λ x st. short-told x (between a.buffer.now a.from a.to) a.budget a.row.now m.result _ (omega (arith, c.if-to-from-gt-SUBJECT_LIMIT.false)) (m.ensures.finds x st);
      work_unchanged = m.ensures.work_unchanged;
      keeps = m.ensures.keeps;
    }
