-- `walk_all` meets its contract: the loop's invariant is that of Starts. The measure is the starts that are left.
use mathlib.Core.Path.{refl, ◌∙◌, ap}
use mathlib.Core.List.{List}
use Prim.Native.Nat.{ℕ}
use native.Mathlib.Omega.{arith}
use lib.ListN.{length}
use Rattle.failures.proofs.Starts.{walked_start, walked_all, walked-plain, walked_on}
use Rattle.failures.proofs.walking.walk_all.Goals as goal

pub loop-begin-init : goal.loop-begin-init
loop-begin-init c = let a = c.args in walked_start a.code.now a.sub.now a.regs.now a.work.now a.entry a.budget _

pub walk_start-kept-requires : goal.walk_start-kept-requires
walk_start-kept-requires c = let g = c.loop-begin.invariant in
    let b = c.shared_slice_known-2-1 in
    record {
      regs_len = (ap (λ (r : List ℕ). length r) g.same ∙ c.requires.sized.1.size, c.requires.sized.0.sub_small, c.requires.sized.0.code_small);
      by_index = (_, _, _, walked-plain g (λ i. omega (arith, c.type_inv.sub i)) c.requires.sized.1 c.requires.sized.0.work_fits c.requires.sized.0.budget_small c.requires.fruitless c.loop-begin-test.true c.requires.stands.0 c.requires.stands.1);
    }

pub overflow_add-begin : goal.overflow_add-begin
overflow_add-begin c = omega (arith, c.loop-begin-test.true, c.requires.sized.0.sub_small)

pub loop-begin-smaller : goal.loop-begin-smaller
loop-begin-smaller c = omega (arith, c.loop-begin-test.true)

pub loop-begin-preserved : goal.loop-begin-preserved
loop-begin-preserved c = let b = c.shared_slice_known-2-1 in
    walked_on c.loop-begin.invariant (λ i. omega (arith, c.type_inv.sub i)) c.requires.sized.1 c.requires.sized.0.work_fits c.requires.sized.0.budget_small c.requires.fruitless c.loop-begin-test.true c.requires.sized.0.sub_small c.requires.stands.0 c.requires.stands.1 c.walk_start-kept.result c.walk_start-kept.ensures c.consider-best.ensures c.walk_start-kept.auto.work

pub shape_of-regs : goal.shape_of-regs
shape_of-regs c = ap (λ (r : List ℕ). length r) c.loop-begin.invariant.same

pub shape_of-work : goal.shape_of-work
shape_of-work c = c.loop-begin.invariant.wide

pub returns : goal.returns
returns c = (λ x s. rw c.unwrap_or.ensures (walked_all c.loop-begin.invariant refl _ c.blank.ensures (omega (arith, c.loop-begin-test.false)) x s), c.loop-begin.invariant.same)
