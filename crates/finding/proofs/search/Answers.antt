-- `search_from` meets its contract: all starts make the match's answer, so that what is told of them is that answer, with a match's row written. The registers
-- are fresh by the row of a match, by what a walk that finds nothing leaves, or since all groups are unset.
use mathlib.Core.Path.{refl, ◌∙◌}
use native.Mathlib.Omega.{arith}
use Rattle.syntax.specs.Limits.{group_limit, spans_length, registers}
use Rattle.frame.specs.Inputs.{between}
use Rattle.seeking.specs.Laws.Starts.{seeks-begin}
use Rattle.finding.specs.Laws.Outcomes.{found-reports}
use Rattle.finding.specs.Laws.Registers.{clear-fresh, unset-clear, unset-all, found-fresh}
use Rattle.finding.proofs.search.Goals as goal

pub seek-requires : goal.seek-requires
seek-requires c = let p = c.requires in record {
  from_le_to = (p.from_le_to.0, p.from_le_to.1, record { few = omega arith; small = omega arith });
  held = p.held;
}

pub write_row-requires : goal.write_row-requires
unfolding spans_length registers
write_row-requires c = (omega (arith, c.requires.from_le_to.2), omega (arith, c.seek.auto.regs, c.requires.held.1.size))

pub unset_groups-requires : goal.unset_groups-requires
unfolding spans_length registers group_limit
unset_groups-requires c = omega (arith, c.seek.auto.regs, c.requires.held.1.size)

pub returns-in-Found : goal.returns-in-Found
unfolding spans_length registers
returns-in-Found c = let a = c.args in
    let line = between a.text.now a.from a.to in
    let size = c.seek.auto.regs ∙ c.requires.held.1.size in
    record {
      finds = λ x st. found-reports (rw c.in-Found.is at (c.seek.ensures.answers x _ st (seeks-begin line x a.budget))) a.results.now c.write_row.ensures (omega (arith, size));
      keeps = λ x st p few. found-fresh line x a.budget (rw c.in-Found.is at (c.seek.ensures.answers x _ st (seeks-begin line x a.budget))) p few size;
    }

pub returns-in-Nothing : goal.returns-in-Nothing
returns-in-Nothing c = let a = c.args in
    record {
      finds = λ x st. (rw c.in-Nothing.is at (c.seek.ensures.answers x _ st (seeks-begin (between a.text.now a.from a.to) x a.budget)), refl);
      keeps = λ x st p few. clear-fresh a.groups (rw (rw c.in-Nothing.is at c.seek.ensures.leaves) c.requires.held.1);
    }

pub returns-in-Spent : goal.returns-in-Spent
unfolding spans_length group_limit
returns-in-Spent c = let a = c.args in
    let size = c.seek.auto.regs ∙ c.requires.held.1.size in
    record {
      finds = λ x st. (rw c.in-Spent.is at (c.seek.ensures.answers x _ st (seeks-begin (between a.text.now a.from a.to) x a.budget)), refl);
      keeps = λ x st p few. clear-fresh a.groups (unset-clear group_limit c.seek.new.regs c.unset_groups.ensures (omega arith) (unset-all _ size));
    }
