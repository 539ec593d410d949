-- The loop's invariant: the machine is at a plain walk's rest, and what is kept is what was told by now. The measure is counted down with the moves.
use mathlib.Core.Path.{refl, sym, ◌∙◌}
use mathlib.Core.Option.{none}
use native.Mathlib.Omega.{arith}
use Rattle.failures.specs.Accounts.{bests}
use Rattle.greatest.specs.Leading.{kept_of}
use Rattle.failures.specs.Laws.Accounts.{bests-steady, bests-told}
use Rattle.failures.proofs.Trying.{trying_start, trying-end, trying-fits, trying-stack, trying-low, trying-high, trying-no-end, trying-some, trying-on}
use Rattle.failures.proofs.walking.walk_start.Goals as goal

pub loop-head-init : goal.loop-head-init
unfolding kept_of
loop-head-init c = trying_start c.args.code.now c.args.sub.now c.args.regs.now c.args.work.now c.args.entry c.args.begin c.args.budget (bests c.args.begin) none c.requires.by_index _ c.start-head.ensures _ refl

pub try_next-turn-requires : goal.try_next-turn-requires
try_next-turn-requires c = let g = c.loop-head.invariant in
    let t = c.loop-head-test.true in
    record {
      fact = (trying-no-end g t, g.size ∙ c.requires.regs_len.0, trying-low g t, c.requires.regs_len.1, c.requires.regs_len.2, trying-high g t);
      fits = trying-fits g t;
      stack_fits = trying-stack g t;
    }

pub overflow_sub-rest : goal.overflow_sub-rest
overflow_sub-rest c = trying-some c.loop-head.invariant c.loop-head-test.true

pub loop-head-smaller : goal.loop-head-smaller
loop-head-smaller c = omega (arith, trying-some c.loop-head.invariant c.loop-head-test.true)

pub loop-head-preserved : goal.loop-head-preserved
loop-head-preserved c = let b = c.args.begin in
    let k = c.try_next-turn in
    trying-on c.loop-head.invariant c.loop-head-test.true (bests-steady b) k.result.told k.ensures.tried _
    (c.keep_on-kept.ensures b ∙ sym (bests-told b (kept_of b c.loop-head.kept) k.result.told))
    _ _ k.result.head (rw (c.note_of-note.ensures b) at k.ensures.head_after) k.auto.regs k.auto.work

pub shape_of-regs : goal.shape_of-regs
shape_of-regs c = c.loop-head.invariant.size

pub shape_of-work : goal.shape_of-work
shape_of-work c = c.loop-head.invariant.wide

pub returns : goal.returns
returns c = trying-end c.loop-head.invariant c.loop-head-test.false
