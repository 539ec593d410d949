-- `take_branch` meets its contract. The loop's invariant: the machine stands at a branch, over the stack as it was, and the steps used lead there.
-- The measure is the steps that are left. That the nodes read are in range is what the machine is ready for, two nodes ahead.
use mathlib.Core.Path.{sym, ap, ◌∙◌}
use mathlib.Core.Logic.{⊎_elim}
use Prim.Native.Nat.{◌+◌}
use native.Mathlib.Omega.{arith}
use lib.ListN.{length, get_or, drop}
use Rattle.charset.specs.Class.{has}
use Rattle.machine.specs.Laws.Extent.{takes-here, takes-past}
use Rattle.branches.proofs.Branching.{passing-start, passing-fits, passing-low, passing-out, passing-begun, passing-body, passing-set, passing-taken, passing-other, passing-on, passing-off}
use Rattle.branches.proofs.take_branch.Goals as goal

pub loop-used-init : goal.loop-used-init
loop-used-init c = passing-start c.args.code.now c.args.sub.now c.args.work.now c.args.m c.args.left c.requires.pc_value.1 c.requires.pc_value.0 c.requires.by_index

pub overflow_sub-left : goal.overflow_sub-left
overflow_sub-left c = omega (arith, c.loop-used.invariant.few)

pub overflow_cast-here : goal.overflow_cast-here
overflow_cast-here c = omega (arith, passing-fits c.loop-used.invariant, c.requires.pc_value.4)

pub overflow_add-body : goal.overflow_add-body
overflow_add-body c = omega (arith, passing-fits c.loop-used.invariant, c.requires.pc_value.4)

pub offset_bounds-code-here : goal.offset_bounds-code-here
offset_bounds-code-here c = omega (arith, passing-fits c.loop-used.invariant, c.requires.pc_value.4)

pub bounds-code-here : goal.bounds-code-here
bounds-code-here c = omega (arith, passing-fits c.loop-used.invariant, c.requires.pc_value.4)

pub overflow_cast-body : goal.overflow_cast-body
overflow_cast-body c = omega (arith, (passing-body c.loop-used.invariant c.loop-used-test.true).here, c.requires.pc_value.4)

pub offset_bounds-code-body : goal.offset_bounds-code-body
offset_bounds-code-body c = omega (arith, (passing-body c.loop-used.invariant c.loop-used-test.true).here, c.requires.pc_value.4)

pub bounds-code-body : goal.bounds-code-body
bounds-code-body c = (passing-body c.loop-used.invariant c.loop-used-test.true).here

pub overflow_add-other : goal.overflow_add-other
overflow_add-other c = omega (arith, passing-fits c.loop-used.invariant, c.requires.pc_value.4)

pub offset_bounds-code-here-in-loop-used : goal.offset_bounds-code-here-in-loop-used
offset_bounds-code-here-in-loop-used c = omega (arith, passing-fits c.loop-used.invariant, c.requires.pc_value.4)

pub bounds-code-here-in-loop-used : goal.bounds-code-here-in-loop-used
bounds-code-here-in-loop-used c = omega (arith, passing-fits c.loop-used.invariant, c.requires.pc_value.4)

pub overflow_add-body-then-at-sub : goal.overflow_add-body-then-at-sub
overflow_add-body-then-at-sub c = omega (arith, passing-set c.loop-used.invariant c.loop-used-test.true c.if-code-body-ne-BYTE.false, c.requires.pc_value.4)

pub contains-requires : goal.contains-requires
contains-requires c = omega (arith, passing-set c.loop-used.invariant c.loop-used-test.true c.if-code-body-ne-BYTE.false)

pub overflow_add-next : goal.overflow_add-next
overflow_add-next c = omega (arith, passing-set c.loop-used.invariant c.loop-used-test.true c.if-code-body-ne-BYTE.false, c.requires.pc_value.4)

pub offset_bounds-code-body-then-contains : goal.offset_bounds-code-body-then-contains
offset_bounds-code-body-then-contains c = omega (arith, passing-set c.loop-used.invariant c.loop-used-test.true c.if-code-body-ne-BYTE.false, c.requires.pc_value.4)

pub bounds-code-body-then-contains : goal.bounds-code-body-then-contains
bounds-code-body-then-contains c = omega (arith, passing-set c.loop-used.invariant c.loop-used-test.true c.if-code-body-ne-BYTE.false, c.requires.pc_value.4)

pub overflow_add-m : goal.overflow_add-m
overflow_add-m c = omega (arith, c.if-at-sub.true, c.requires.pc_value.3)

pub overflow_add-used : goal.overflow_add-used
overflow_add-used c = omega (arith, c.loop-used.invariant.few, c.loop-used-test.true)

pub branch_off-requires : goal.branch_off-requires
branch_off-requires c = omega (arith, passing-low c.loop-used.invariant, c.loop-used-test.true)

pub shape_of-work-then-contains : goal.shape_of-work-then-contains
shape_of-work-then-contains c = c.branch_off.auto.work ∙ ap length c.loop-used.invariant.same

pub returns-then-contains : goal.returns-then-contains
returns-then-contains c = let f = has (drop (get_or c.args.code.now (c.loop-used.pc + 1) 0 + 3) c.args.code.now) in
    let one = takes-here c.args.sub.now f c.args.m.at c.if-at-sub.true ∙ sym c.contains.ensures ∙ c.if-contains.true in
    passing-taken c.loop-used.invariant c.loop-used-test.true c.if-code-body-ne-BYTE.false c.branch_off.new.work c.branch_off.result one c.branch_off.ensures

pub overflow_add-used-in-loop-used : goal.overflow_add-used-in-loop-used
overflow_add-used-in-loop-used c = omega (arith, c.loop-used.invariant.few, c.loop-used-test.true)

pub overflow_cast-other : goal.overflow_cast-other
overflow_cast-other c = let f = has (drop (get_or c.args.code.now (c.loop-used.pc + 1) 0 + 3) c.args.code.now) in
    let none = ⊎_elim (λ w. takes-here c.args.sub.now f c.args.m.at w.if-at-sub.true ∙ sym w.contains.ensures ∙ w.if-contains.false) (λ w. takes-past c.args.sub.now f c.args.m.at w.if-at-sub.false) c.if-at-sub.branch-raw in
    omega (arith, (passing-other c.loop-used.invariant c.loop-used-test.true c.if-code-body-ne-BYTE.false none).here, c.requires.pc_value.4)

pub offset_bounds-code-other : goal.offset_bounds-code-other
offset_bounds-code-other c = let f = has (drop (get_or c.args.code.now (c.loop-used.pc + 1) 0 + 3) c.args.code.now) in
    let none = ⊎_elim (λ w. takes-here c.args.sub.now f c.args.m.at w.if-at-sub.true ∙ sym w.contains.ensures ∙ w.if-contains.false) (λ w. takes-past c.args.sub.now f c.args.m.at w.if-at-sub.false) c.if-at-sub.branch-raw in
    omega (arith, (passing-other c.loop-used.invariant c.loop-used-test.true c.if-code-body-ne-BYTE.false none).here, c.requires.pc_value.4)

pub bounds-code-other : goal.bounds-code-other
bounds-code-other c = let f = has (drop (get_or c.args.code.now (c.loop-used.pc + 1) 0 + 3) c.args.code.now) in
    let none = ⊎_elim (λ w. takes-here c.args.sub.now f c.args.m.at w.if-at-sub.true ∙ sym w.contains.ensures ∙ w.if-contains.false) (λ w. takes-past c.args.sub.now f c.args.m.at w.if-at-sub.false) c.if-at-sub.branch-raw in
    (passing-other c.loop-used.invariant c.loop-used-test.true c.if-code-body-ne-BYTE.false none).here

pub begin_last-requires : goal.begin_last-requires
begin_last-requires c = let f = has (drop (get_or c.args.code.now (c.loop-used.pc + 1) 0 + 3) c.args.code.now) in
    let none = ⊎_elim (λ w. takes-here c.args.sub.now f c.args.m.at w.if-at-sub.true ∙ sym w.contains.ensures ∙ w.if-contains.false) (λ w. takes-past c.args.sub.now f c.args.m.at w.if-at-sub.false) c.if-at-sub.branch-raw in
    (omega (arith, c.loop-used.invariant.few, c.loop-used-test.true), c.requires.pc_value.4, passing-other c.loop-used.invariant c.loop-used-test.true c.if-code-body-ne-BYTE.false none)

pub shape_of-work-then-code-other-ne-BRANCH : goal.shape_of-work-then-code-other-ne-BRANCH
shape_of-work-then-code-other-ne-BRANCH c = ap length c.loop-used.invariant.same

pub returns-then-code-other-ne-BRANCH : goal.returns-then-code-other-ne-BRANCH
returns-then-code-other-ne-BRANCH c = let f = has (drop (get_or c.args.code.now (c.loop-used.pc + 1) 0 + 3) c.args.code.now) in
    let none = ⊎_elim (λ w. takes-here c.args.sub.now f c.args.m.at w.if-at-sub.true ∙ sym w.contains.ensures ∙ w.if-contains.false) (λ w. takes-past c.args.sub.now f c.args.m.at w.if-at-sub.false) c.if-at-sub.branch-raw in
    passing-off c.loop-used.invariant c.loop-used-test.true c.if-code-body-ne-BYTE.false none c.begin_last.result c.begin_last.ensures

pub loop-used-smaller : goal.loop-used-smaller
loop-used-smaller c = omega (arith, c.loop-used.invariant.few, c.loop-used-test.true)

pub loop-used-preserved : goal.loop-used-preserved
loop-used-preserved c = let f = has (drop (get_or c.args.code.now (c.loop-used.pc + 1) 0 + 3) c.args.code.now) in
    let none = ⊎_elim (λ w. takes-here c.args.sub.now f c.args.m.at w.if-at-sub.true ∙ sym w.contains.ensures ∙ w.if-contains.false) (λ w. takes-past c.args.sub.now f c.args.m.at w.if-at-sub.false) c.if-at-sub.branch-raw in
    passing-on c.loop-used.invariant c.loop-used-test.true c.if-code-body-ne-BYTE.false none c.if-code-other-ne-BRANCH.false

pub shape_of-work-then-used-left : goal.shape_of-work-then-used-left
shape_of-work-then-used-left c = ap length c.loop-used.invariant.same

pub returns-then-used-left : goal.returns-then-used-left
returns-then-used-left c = passing-out c.loop-used.invariant c.come_to.result c.requires.pc_value.2 c.if-used-left.true c.come_to.ensures

pub overflow_cast-here-2 : goal.overflow_cast-here-2
overflow_cast-here-2 c = omega (arith, passing-fits c.loop-used.invariant, c.requires.pc_value.4)

pub overflow_add-body-2 : goal.overflow_add-body-2
overflow_add-body-2 c = omega (arith, passing-fits c.loop-used.invariant, c.requires.pc_value.4)

pub offset_bounds-code-here-2 : goal.offset_bounds-code-here-2
offset_bounds-code-here-2 c = omega (arith, passing-fits c.loop-used.invariant, c.requires.pc_value.4)

pub bounds-code-here-2 : goal.bounds-code-here-2
bounds-code-here-2 c = omega (arith, passing-fits c.loop-used.invariant, c.requires.pc_value.4)

pub overflow_add-other-2 : goal.overflow_add-other-2
overflow_add-other-2 c = omega (arith, passing-fits c.loop-used.invariant, c.requires.pc_value.4)

pub offset_bounds-code-here-3 : goal.offset_bounds-code-here-3
offset_bounds-code-here-3 c = omega (arith, passing-fits c.loop-used.invariant, c.requires.pc_value.4)

pub bounds-code-here-3 : goal.bounds-code-here-3
bounds-code-here-3 c = omega (arith, passing-fits c.loop-used.invariant, c.requires.pc_value.4)

pub overflow_add-used-2 : goal.overflow_add-used-2
overflow_add-used-2 c = omega (arith, c.loop-used.invariant.few, c.if-used-left.false)

pub branch_off-requires-2 : goal.branch_off-requires-2
branch_off-requires-2 c = omega (arith, passing-low c.loop-used.invariant, c.loop-used.invariant.few, c.if-used-left.false)

pub shape_of-work : goal.shape_of-work
shape_of-work c = c.branch_off-2.auto.work ∙ ap length c.loop-used.invariant.same

pub returns : goal.returns
returns c = passing-begun c.loop-used.invariant c.branch_off-2.new.work c.branch_off-2.result (omega (arith, c.loop-used.invariant.few, c.if-used-left.false)) c.branch_off-2.ensures
