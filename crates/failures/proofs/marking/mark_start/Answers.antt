-- The loop's invariant: the machine is at a plain walk's rest, and the bytes have the marks that were told by now. The measure is counted down with the
-- moves.
use mathlib.Core.Path.{refl, sym, ◌∙◌}
use native.Mathlib.Omega.{arith}
use Rattle.failures.specs.Accounts.{marking}
use Rattle.failures.specs.Laws.Accounts.{marking-steady, marking-told}
use Rattle.failures.proofs.Trying.{trying_start, trying-end, trying-fits, trying-stack, trying-low, trying-high, trying-no-end, trying-some, trying-on}
use Rattle.failures.proofs.marking.mark_start.Goals as goal

pub loop-head-init : goal.loop-head-init
loop-head-init c = (trying_start c.args.code.now c.args.sub.now c.args.regs.now c.args.work.now c.args.entry c.args.begin c.args.budget (marking c.args.at) c.args.marks.now c.requires.by_index _ c.start-head.ensures _ refl, refl)

pub try_next-turn-requires : goal.try_next-turn-requires
try_next-turn-requires c = let g = c.loop-head.invariant.0 in
    let t = c.loop-head-test.true in
    record {
      fact = (trying-no-end g t, g.size ∙ c.requires.regs_len.0, trying-low g t, c.requires.regs_len.1, c.requires.regs_len.2, trying-high g t);
      fits = trying-fits g t;
      stack_fits = trying-stack g t;
    }

pub overflow_sub-rest : goal.overflow_sub-rest
overflow_sub-rest c = trying-some c.loop-head.invariant.0 c.loop-head-test.true

pub loop-head-smaller : goal.loop-head-smaller
loop-head-smaller c = omega (arith, trying-some c.loop-head.invariant.0 c.loop-head-test.true)

pub loop-head-preserved : goal.loop-head-preserved
loop-head-preserved c = let k = c.try_next-turn in (
  trying-on c.loop-head.invariant.0 c.loop-head-test.true (marking-steady c.args.at) k.result.told k.ensures.tried _ (c.mark_told.ensures ∙ sym (marking-told c.args.begin c.args.at _ k.result.told)) _ _ k.result.head k.ensures.head_after k.auto.regs k.auto.work,
  c.mark_told.auto.marks ∙ c.loop-head.invariant.1,
)

pub shape_of-regs : goal.shape_of-regs
shape_of-regs c = c.loop-head.invariant.0.size

pub shape_of-work : goal.shape_of-work
shape_of-work c = c.loop-head.invariant.0.wide

pub shape_of-marks : goal.shape_of-marks
shape_of-marks c = c.loop-head.invariant.1

pub returns : goal.returns
returns c = λ first t final y. (trying-end c.loop-head.invariant.0 c.loop-head-test.false first t final y).1
