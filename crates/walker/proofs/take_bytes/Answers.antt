-- `take_bytes` meets its contract. The loop's invariant: the steps used lead from the beginning to a byte item, and a step is left for it. The measure is
-- the steps that are left.
use mathlib.Core.Path.{refl, ◌∙◌}
use native.Mathlib.Omega.{arith}
use borrow.Author.Tests.{not-false}
use Rattle.machine.specs.Laws.Code.{fits-at}
use Rattle.walker.proofs.Stepping.{stepping-start, stepping-node, stepping-fits, stepping-stack, stepping-low}
use Rattle.walker.proofs.take_bytes.Goals as goal

pub loop-next-init : goal.loop-next-init
loop-next-init c = (stepping-start c.args.code.now c.args.sub.now c.args.regs.now c.args.work.now c.args.m c.args.left c.requires.by_index, c.requires.pc_value.1, c.requires.pc_value.0, c.requires.pc_value.2)

pub take_byte-next-requires : goal.take_byte-next-requires
take_byte-next-requires c = let l = c.loop-next.invariant in
    let f = fits-at c.args.code.now _ 0 l.2 (stepping-fits l.0 l.1) in
    record {
      pc_in_bounds = (f, c.requires.pc_value.4, l.0.size ∙ c.requires.pc_value.3, omega (arith, stepping-low l.0 l.1));
      stack_fits = stepping-stack l.0 l.1;
    }

pub overflow_sub-rest : goal.overflow_sub-rest
overflow_sub-rest c = c.loop-next.invariant.3

pub shape_of-regs-then-not-next : goal.shape_of-regs-then-not-next
shape_of-regs-then-not-next c = c.take_byte-next.auto.regs ∙ c.loop-next.invariant.0.size

pub shape_of-work-then-not-next : goal.shape_of-work-then-not-next
shape_of-work-then-not-next c = c.take_byte-next.auto.work ∙ c.loop-next.invariant.0.wide

pub returns-then-not-next : goal.returns-then-not-next
returns-then-not-next c = let l = c.loop-next.invariant in
    let k = c.take_byte-next in
    let h = stepping-node l.0 0 l.1 l.2 (omega arith) l.3 k.new.regs k.new.work k.result k.ensures k.auto.regs k.auto.work in
    (omega (arith, l.0.few, l.3), h.leads)

pub shape_of-regs-then-rest-eq0 : goal.shape_of-regs-then-rest-eq0
shape_of-regs-then-rest-eq0 c = c.take_byte-next.auto.regs ∙ c.loop-next.invariant.0.size

pub shape_of-work-then-rest-eq0 : goal.shape_of-work-then-rest-eq0
shape_of-work-then-rest-eq0 c = c.take_byte-next.auto.work ∙ c.loop-next.invariant.0.wide

pub returns-then-rest-eq0 : goal.returns-then-rest-eq0
returns-then-rest-eq0 c = let l = c.loop-next.invariant in
    let k = c.take_byte-next in
    let h = stepping-node l.0 0 l.1 l.2 (omega arith) l.3 k.new.regs k.new.work k.result k.ensures k.auto.regs k.auto.work in
    (omega (arith, l.0.few, l.3), h.leads)

pub offset_bounds-code-pc : goal.offset_bounds-code-pc
offset_bounds-code-pc c = let l = c.loop-next.invariant in
    let k = c.take_byte-next in
    let h = stepping-node l.0 0 l.1 l.2 (omega arith) l.3 k.new.regs k.new.work k.result k.ensures k.auto.regs k.auto.work in
    omega (arith, (stepping-fits h (not-false _ c.if-not-next.false)).here, c.requires.pc_value.5)

pub bounds-code-pc : goal.bounds-code-pc
bounds-code-pc c = let l = c.loop-next.invariant in
    let k = c.take_byte-next in
    let h = stepping-node l.0 0 l.1 l.2 (omega arith) l.3 k.new.regs k.new.work k.result k.ensures k.auto.regs k.auto.work in
    (stepping-fits h (not-false _ c.if-not-next.false)).here

pub begin_last_branch-body-requires : goal.begin_last_branch-body-requires
begin_last_branch-body-requires c = let l = c.loop-next.invariant in
    let k = c.take_byte-next in
    let h = stepping-node l.0 0 l.1 l.2 (omega arith) l.3 k.new.regs k.new.work k.result k.ensures k.auto.regs k.auto.work in
    fits-at c.args.code.now _ 6 c.if-kind-eq-LAST.true (stepping-fits h (not-false _ c.if-not-next.false))

pub overflow_sub-one_less : goal.overflow_sub-one_less
overflow_sub-one_less c = omega (arith, c.if-rest-eq0.false)

pub shape_of-regs-then-kind-eq-LAST : goal.shape_of-regs-then-kind-eq-LAST
shape_of-regs-then-kind-eq-LAST c = c.take_byte-next.auto.regs ∙ c.loop-next.invariant.0.size

pub shape_of-work-then-kind-eq-LAST : goal.shape_of-work-then-kind-eq-LAST
shape_of-work-then-kind-eq-LAST c = c.take_byte-next.auto.work ∙ c.loop-next.invariant.0.wide

pub returns-then-kind-eq-LAST : goal.returns-then-kind-eq-LAST
returns-then-kind-eq-LAST c = let l = c.loop-next.invariant in
    let k = c.take_byte-next in
    let h = stepping-node l.0 0 l.1 l.2 (omega arith) l.3 k.new.regs k.new.work k.result k.ensures k.auto.regs k.auto.work in
    let b = c.begin_last_branch-body in
    let z = stepping-node h 6 (not-false _ c.if-not-next.false) c.if-kind-eq-LAST.true (omega arith) (omega (arith, c.if-rest-eq0.false)) k.new.regs k.new.work b.result (b.ensures c.args.sub.now k.new.regs k.new.work) refl refl in
    (omega (arith, l.0.few, l.3), z.leads)

pub shape_of-regs-then-kind-ne-BYTE : goal.shape_of-regs-then-kind-ne-BYTE
shape_of-regs-then-kind-ne-BYTE c = c.take_byte-next.auto.regs ∙ c.loop-next.invariant.0.size

pub shape_of-work-then-kind-ne-BYTE : goal.shape_of-work-then-kind-ne-BYTE
shape_of-work-then-kind-ne-BYTE c = c.take_byte-next.auto.work ∙ c.loop-next.invariant.0.wide

pub returns-then-kind-ne-BYTE : goal.returns-then-kind-ne-BYTE
returns-then-kind-ne-BYTE c = let l = c.loop-next.invariant in
    let k = c.take_byte-next in
    let h = stepping-node l.0 0 l.1 l.2 (omega arith) l.3 k.new.regs k.new.work k.result k.ensures k.auto.regs k.auto.work in
    (omega (arith, l.0.few, l.3), h.leads)

pub loop-next-smaller : goal.loop-next-smaller
loop-next-smaller c = omega (arith, c.loop-next.invariant.3)

pub loop-next-preserved : goal.loop-next-preserved
loop-next-preserved c = let l = c.loop-next.invariant in
    let k = c.take_byte-next in
    let h = stepping-node l.0 0 l.1 l.2 (omega arith) l.3 k.new.regs k.new.work k.result k.ensures k.auto.regs k.auto.work in
    (h, not-false _ c.if-not-next.false, c.if-kind-ne-BYTE.false, omega (arith, c.if-rest-eq0.false))
