-- `step` meets its contract: each arm carries out the node of its kind, which is in range because the node at hand is.
use mathlib.Core.Path.{sym, ◌∙◌}
use native.Mathlib.Omega.{arith}
use Rattle.machine.specs.Laws.Code.{spans-in-registers, fits-at}
use Rattle.walker.proofs.Stepping.{moved_as, only-loop}
use Rattle.walker.proofs.step.Goals as goal

pub take_byte-requires : goal.take_byte-requires
take_byte-requires c = let f = fits-at c.args.code.now c.args.m.pc 0 (sym c.requires.kind_value.0 ∙ c.in-0.is) c.requires.fits in
    record {
      pc_in_bounds = omega (arith, f, c.requires.kind_value, spans-in-registers);
      stack_fits = c.requires.stack_fits;
    }

pub test_assertion-requires : goal.test_assertion-requires
test_assertion-requires c = let f = fits-at c.args.code.now c.args.m.pc 1 (sym c.requires.kind_value.0 ∙ c.in-1.is) c.requires.fits in
    record {
      pc_in_bounds = omega (arith, f, c.requires.kind_value, spans-in-registers);
      stack_fits = c.requires.stack_fits;
    }

pub open_group-requires : goal.open_group-requires
open_group-requires c = let f = fits-at c.args.code.now c.args.m.pc 3 (sym c.requires.kind_value.0 ∙ c.in-3.is) c.requires.fits in
    omega (arith, f.0, f.1, c.requires.kind_value, spans-in-registers)

pub close_group-requires : goal.close_group-requires
close_group-requires c = let f = fits-at c.args.code.now c.args.m.pc 4 (sym c.requires.kind_value.0 ∙ c.in-4.is) c.requires.fits in
    omega (arith, f.0, f.1, f.2, c.requires.kind_value, spans-in-registers)

pub begin_last_branch-requires : goal.begin_last_branch-requires
begin_last_branch-requires c = let f = fits-at c.args.code.now c.args.m.pc 6 (sym c.requires.kind_value.0 ∙ c.in-6.is) c.requires.fits in
    omega (arith, f, c.requires.kind_value, spans-in-registers)

pub enter_repeat-requires : goal.enter_repeat-requires
enter_repeat-requires c = let f = fits-at c.args.code.now c.args.m.pc 7 (sym c.requires.kind_value.0 ∙ c.in-7.is) c.requires.fits in
    omega (arith, f.0, f.1, c.requires.kind_value, spans-in-registers)

pub end_round-requires : goal.end_round-requires
end_round-requires c = let f = fits-at c.args.code.now c.args.m.pc 8 (sym c.requires.kind_value.0 ∙ (let n = c.in_default.in_default-own.rest in only-loop _ c.requires.kind_value.1 n.0.0.0.0.0.1 n.0.0.0.0.1 (λ e. fits-at c.args.code.now c.args.m.pc 2 (sym c.requires.kind_value.0 ∙ e) c.requires.fits) n.0.0.0.1 n.0.0.1 c.requires.kind_value.2 n.0.1 n.1)) c.requires.fits in
    omega (arith, f.0, f.1, c.requires.kind_value, spans-in-registers)

pub returns-in-0 : goal.returns-in-0
returns-in-0 c = c.take_byte.ensures ∙ sym (moved_as c.args.code.now c.args.sub.now c.args.regs.now c.args.work.now c.args.m 0 (sym c.requires.kind_value.0 ∙ c.in-0.is))

pub returns-in-1 : goal.returns-in-1
returns-in-1 c = c.test_assertion.ensures ∙ sym (moved_as c.args.code.now c.args.sub.now c.args.regs.now c.args.work.now c.args.m 1 (sym c.requires.kind_value.0 ∙ c.in-1.is))

pub returns-in-3 : goal.returns-in-3
returns-in-3 c = c.open_group.ensures c.args.sub.now ∙ sym (moved_as c.args.code.now c.args.sub.now c.args.regs.now c.args.work.now c.args.m 3 (sym c.requires.kind_value.0 ∙ c.in-3.is))

pub returns-in-4 : goal.returns-in-4
returns-in-4 c = c.close_group.ensures c.args.sub.now ∙ sym (moved_as c.args.code.now c.args.sub.now c.args.regs.now c.args.work.now c.args.m 4 (sym c.requires.kind_value.0 ∙ c.in-4.is))

pub returns-in-6 : goal.returns-in-6
returns-in-6 c = c.begin_last_branch.ensures c.args.sub.now c.args.regs.now c.args.work.now ∙ sym (moved_as c.args.code.now c.args.sub.now c.args.regs.now c.args.work.now c.args.m 6 (sym c.requires.kind_value.0 ∙ c.in-6.is))

pub returns-in-7 : goal.returns-in-7
returns-in-7 c = c.enter_repeat.ensures c.args.sub.now ∙ sym (moved_as c.args.code.now c.args.sub.now c.args.regs.now c.args.work.now c.args.m 7 (sym c.requires.kind_value.0 ∙ c.in-7.is))

pub returns-in_default : goal.returns-in_default
returns-in_default c = c.end_round.ensures c.args.sub.now ∙ sym (moved_as c.args.code.now c.args.sub.now c.args.regs.now c.args.work.now c.args.m 8 (sym c.requires.kind_value.0 ∙ (let n = c.in_default.in_default-own.rest in only-loop _ c.requires.kind_value.1 n.0.0.0.0.0.1 n.0.0.0.0.1 (λ e. fits-at c.args.code.now c.args.m.pc 2 (sym c.requires.kind_value.0 ∙ e) c.requires.fits) n.0.0.0.1 n.0.0.1 c.requires.kind_value.2 n.0.1 n.1)))
