-- `advance` meets its contract: branches and nodes that are taken together lead as their functions say, and any other node by its one move.
use mathlib.Core.Path.{sym, ◌∙◌}
use native.Mathlib.Omega.{arith}
use Rattle.walker.proofs.Stepping.{rest-again, stepping-start, stepping-fits, stepping-stack, stepping-low, one-node}
use Rattle.walker.proofs.advance.Goals as goal

pub take_bytes-requires : goal.take_bytes-requires
take_bytes-requires c = record {
  pc_value = (sym c.requires.kind_value.0 ∙ c.if-kind-eq-BYTE.true, c.requires.kind_value.2, c.requires.kind_value.3, c.requires.kind_value.4, c.requires.kind_value.5, c.requires.kind_value.6);
  by_index = c.requires.by_index;
}

pub shape_of-regs-then-kind-eq-BYTE : goal.shape_of-regs-then-kind-eq-BYTE
shape_of-regs-then-kind-eq-BYTE c = c.take_bytes.auto.regs

pub shape_of-work-then-kind-eq-BYTE : goal.shape_of-work-then-kind-eq-BYTE
shape_of-work-then-kind-eq-BYTE c = c.take_bytes.auto.work

pub returns-then-kind-eq-BYTE : goal.returns-then-kind-eq-BYTE
returns-then-kind-eq-BYTE c = c.take_bytes.ensures

pub end_group-requires : goal.end_group-requires
end_group-requires c = record {
  pc_value = (sym c.requires.kind_value.0 ∙ c.if-kind-eq-CLOSE.true, c.requires.kind_value.2, c.requires.kind_value.3, c.requires.kind_value.4, c.requires.kind_value.5, c.requires.kind_value.6);
  by_index = c.requires.by_index;
}

pub shape_of-regs-then-kind-eq-CLOSE : goal.shape_of-regs-then-kind-eq-CLOSE
shape_of-regs-then-kind-eq-CLOSE c = c.end_group.auto.regs

pub shape_of-work-then-kind-eq-CLOSE : goal.shape_of-work-then-kind-eq-CLOSE
shape_of-work-then-kind-eq-CLOSE c = c.end_group.auto.work

pub returns-then-kind-eq-CLOSE : goal.returns-then-kind-eq-CLOSE
returns-then-kind-eq-CLOSE c = c.end_group.ensures

pub take_branch-on-requires : goal.take_branch-on-requires
take_branch-on-requires c = record {
  pc_value = (sym c.requires.kind_value.0 ∙ c.if-kind-eq-BRANCH.true, c.requires.kind_value.2, c.requires.kind_value.3, c.requires.kind_value.5, c.requires.kind_value.6);
  by_index = (c.args.regs.now, c.requires.by_index.0, c.requires.by_index.1, c.requires.by_index.2);
}

pub overflow_sub-fewer : goal.overflow_sub-fewer
overflow_sub-fewer c = c.take_branch-on.ensures.1

pub shape_of-work-then-kind-eq-BRANCH : goal.shape_of-work-then-kind-eq-BRANCH
shape_of-work-then-kind-eq-BRANCH c = c.take_branch-on.auto.work

pub returns-then-kind-eq-BRANCH : goal.returns-then-kind-eq-BRANCH
returns-then-kind-eq-BRANCH c = let r = c.take_branch-on in
    (omega (arith, r.ensures.0, r.ensures.1), rw (rest-again c.args.left r.result.used r.ensures.1) (r.ensures.2 c.args.regs.now))

pub carry-next-requires : goal.carry-next-requires
carry-next-requires c = let g = stepping-start c.args.code.now c.args.sub.now c.args.regs.now c.args.work.now c.args.m c.args.left c.requires.by_index in
    let t = c.requires.kind_value.2 in
    record {
      kind_value = (c.requires.kind_value.0, c.requires.kind_value.1, c.if-kind-eq-BRANCH.false, c.requires.kind_value.4, omega (arith, stepping-low g t, c.requires.kind_value.3), c.requires.kind_value.5, c.requires.kind_value.6);
      fits = stepping-fits g t;
      stack_fits = stepping-stack g t;
    }

pub overflow_sub-rest : goal.overflow_sub-rest
overflow_sub-rest c = omega (arith, c.requires.kind_value.3)

pub shape_of-regs : goal.shape_of-regs
shape_of-regs c = c.carry-next.auto.regs

pub shape_of-work : goal.shape_of-work
shape_of-work c = c.carry-next.auto.work

pub returns : goal.returns
returns c = let r = c.carry-next in
    (omega (arith, c.requires.kind_value.3), rw (rest-again c.args.left 1 c.requires.kind_value.3) (one-node c.args.code.now c.args.sub.now c.args.regs.now c.args.work.now r.new.regs r.new.work c.args.m r.result c.requires.kind_value.2 (omega (arith, c.requires.kind_value.0, c.requires.kind_value.1)) r.ensures))
