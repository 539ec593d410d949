-- `try_first` meets its contract: where the empty end is barred, the loop of its own has told it; else one run is the whole try.
use native.Mathlib.Omega.{arith}
use lib.ListN.{length}
use mathlib.Core.Bool.{false}
use Rattle.syntax.specs.Limits.{subject_limit, rule_area_need}
use Rattle.semantics.specs.Calls.{work_area_need}
use Rattle.machine.specs.Theorem.{enough-room}
use Rattle.searching.proofs.Trying.{trying_start, tried-free}
use Rattle.searching.proofs.tries.try_first.Goals as goal

pub run_past-requires : goal.run_past-requires
run_past-requires c = c.requires

pub returns-then-barred : goal.returns-then-barred
returns-then-barred c = λ x st. rw c.if-barred.true (c.run_past.ensures x st)

pub run_to_end-requires : goal.run_to_end-requires
unfolding subject_limit rule_area_need work_area_need
run_to_end-requires c = let h = c.requires.0 in
    let a = c.args in
    let g = trying_start {sub = a.subject.now} a.budget a.from false (length a.work.now) a.regs.now h.stands (λ i. omega (arith, c.type_inv.subject i)) c.requires.1 c.requires.2 (enough-room a.budget (length a.work.now) h.work_fits) h.budget_fits (c.start-m.ensures a.regs.now a.work.now) in
    record {
      regs_len = (c.requires.1.size, omega (arith, h.subject_fits), omega (arith, h.code_size));
      by_index = (_, g.rest, g.ready);
    }

pub returns : goal.returns
unfolding work_area_need
returns c = let h = c.requires.0 in
    let a = c.args in
    λ x st. rw c.if-barred.false (tried-free (trying_start a.budget a.from false (length a.work.now) a.regs.now st (λ i. omega (arith, c.type_inv.subject i)) c.requires.1 c.requires.2 (enough-room a.budget (length a.work.now) h.work_fits) h.budget_fits (c.start-m.ensures a.regs.now a.work.now)) _ c.run_to_end.ensures)
