-- `take_several` meets its contract: three of its callees promise the same, the fourth makes one step, and what they ask for is what the machine is ready for.
use mathlib.Core.Path.{◌≡◌, sym, ◌∙◌}
use native.Mathlib.Omega.{arith}
use lib.ListN.{get_or}
use Rattle.machine.specs.Laws.Code.{spans-in-registers, fits-at}
use Rattle.walker.proofs.Stepping.{one-marked, only-marked, stepping-start, stepping-fits, stepping-stack, stepping-low, stepping-short}
use Rattle.walker.proofs.take_several.Goals as goal

pub take_run-requires : goal.take_run-requires
take_run-requires c = record {
  pc_value = (sym c.requires.kind_value.0 ∙ c.if-kind-eq-RUN.true, c.requires.kind_value.1, c.requires.kind_value.2, c.requires.kind_value.4, c.requires.kind_value.5, c.requires.kind_value.3);
  by_index = c.requires.by_index;
}

pub take_reference-requires : goal.take_reference-requires
take_reference-requires c = let t = c.requires.kind_value.1 in
    let g = stepping-start c.args.code.now c.args.sub.now c.args.regs.now c.args.work.now c.args.m c.args.left c.requires.by_index in
    let is : get_or c.args.code.now c.args.m.pc 0 ≡ 11 = sym c.requires.kind_value.0 ∙ c.if-kind-eq-REFERENCE.true in
    let f = fits-at c.args.code.now c.args.m.pc 11 is (stepping-fits g t) in
    record {
      pc_value = (is, t, c.requires.kind_value.2, f.0, f.1, omega (arith, spans-in-registers, c.requires.kind_value.3));
      sub_len_bound = (c.requires.kind_value.4, c.requires.kind_value.3, omega (arith, stepping-low g t));
      stack_fits = stepping-stack g t;
    }

pub take_break-requires : goal.take_break-requires
take_break-requires c = let t = c.requires.kind_value.1 in
    let g = stepping-start c.args.code.now c.args.sub.now c.args.regs.now c.args.work.now c.args.m c.args.left c.requires.by_index in
    let is : get_or c.args.code.now c.args.m.pc 0 ≡ 12 = sym c.requires.kind_value.0 ∙ c.if-kind-eq-BREAK.true in
    record {
      pc_value = (is, t, fits-at c.args.code.now c.args.m.pc 12 is (stepping-fits g t), c.requires.kind_value.3, omega (arith, stepping-low g t), c.requires.kind_value.4);
      stack_fits = stepping-stack g t;
    }

pub take_marked-next-requires : goal.take_marked-next-requires
take_marked-next-requires c = let t = c.requires.kind_value.1 in
    let g = stepping-start c.args.code.now c.args.sub.now c.args.regs.now c.args.work.now c.args.m c.args.left c.requires.by_index in
    record {
      kind_value = (c.requires.kind_value.0, only-marked _ c.requires.several c.if-kind-eq-RUN.false c.if-kind-eq-REFERENCE.false c.if-kind-eq-BREAK.false, c.requires.kind_value.3, omega (arith, stepping-low g t, c.requires.kind_value.2), stepping-short g t);
      fits = stepping-fits g t;
      stack_fits = stepping-stack g t;
    }

pub returns : goal.returns
returns c = let t = c.requires.kind_value.1 in
    let g = stepping-start c.args.code.now c.args.sub.now c.args.regs.now c.args.work.now c.args.m c.args.left c.requires.by_index in
    let k = only-marked _ c.requires.several c.if-kind-eq-RUN.false c.if-kind-eq-REFERENCE.false c.if-kind-eq-BREAK.false in
    (omega arith, c.requires.kind_value.2, one-marked c.args.code.now c.args.sub.now c.args.regs.now c.args.work.now c.take_marked-next.new.regs c.take_marked-next.new.work c.args.m c.take_marked-next.result t (omega (arith, c.requires.kind_value.0, k)) (stepping-fits g t) (c.take_marked-next.ensures c.args.sub.now))
