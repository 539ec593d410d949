-- `make_move` meets its contract: each way carries out the node of its kind, which is in range because the node at hand is.
use mathlib.Core.Path.{refl, sym, ◌∙◌}
use native.Mathlib.Omega.{arith}
use Rattle.machine.specs.Laws.Code.{fits-at}
use Rattle.plain.specs.Telling.{leads-plain}
use Rattle.plain.proofs.Moving.{kind-low, leads-kind}
use Rattle.plain.proofs.make_move.Goals as goal

pub begin_branch-requires : goal.begin_branch-requires
begin_branch-requires c = let f = fits-at c.args.code.now c.args.m.pc 5 c.if-kind-eq-BRANCH.true c.requires.fits in
    (f, omega (arith, c.requires.fact))

pub returns-then-kind-eq-BRANCH : goal.returns-then-kind-eq-BRANCH
returns-then-kind-eq-BRANCH c = c.begin_branch.ensures c.args.sub.now c.args.regs.now ∙ sym (leads-kind c.args.code.now c.args.sub.now c.args.regs.now c.args.work.now c.args.m c.args.note 5 c.if-kind-eq-BRANCH.true (λ k. omega arith))

pub make_run-requires : goal.make_run-requires
make_run-requires c = let f = fits-at c.args.code.now c.args.m.pc 10 c.if-kind-eq-RUN.true c.requires.fits in
    record {
      pc_in_bounds = (f.0, f.1, c.requires.fact.3, c.requires.fact.1, omega (arith, c.requires.fact));
      stack_fits = c.requires.stack_fits;
    }

pub returns-then-kind-eq-RUN : goal.returns-then-kind-eq-RUN
returns-then-kind-eq-RUN c = c.make_run.ensures ∙ sym (leads-kind c.args.code.now c.args.sub.now c.args.regs.now c.args.work.now c.args.m c.args.note 10 c.if-kind-eq-RUN.true (λ k. omega arith))

pub follow_reference-requires : goal.follow_reference-requires
follow_reference-requires c = let f = fits-at c.args.code.now c.args.m.pc 11 c.if-kind-eq-REFERENCE.true c.requires.fits in
    record {
      pc_in_bounds = (f.0, f.1, c.requires.fact.3, c.requires.fact.1, omega (arith, c.requires.fact));
      stack_fits = c.requires.stack_fits;
    }

pub returns-then-kind-eq-REFERENCE : goal.returns-then-kind-eq-REFERENCE
returns-then-kind-eq-REFERENCE c = c.follow_reference.ensures ∙ sym (leads-kind c.args.code.now c.args.sub.now c.args.regs.now c.args.work.now c.args.m c.args.note 11 c.if-kind-eq-REFERENCE.true (λ k. omega arith))

pub make_break-requires : goal.make_break-requires
make_break-requires c = let f = fits-at c.args.code.now c.args.m.pc 12 c.if-kind-eq-BREAK.true c.requires.fits in
    record {
      pc_value = (c.if-kind-eq-BREAK.true, f, c.requires.fact.3, c.requires.fact.1, omega (arith, c.requires.fact));
      stack_fits = c.requires.stack_fits;
    }

pub returns-then-kind-eq-BREAK : goal.returns-then-kind-eq-BREAK
returns-then-kind-eq-BREAK c = c.make_break.ensures ∙ sym (leads-plain c.args.code.now c.args.sub.now c.args.note _ (λ k. omega (arith, c.if-kind-eq-BREAK.true)))

pub make_marked-requires : goal.make_marked-requires
make_marked-requires c = record {
  kind_value = (refl, c.if-kind-ge-MARK.true, c.requires.fact.1, c.requires.fact.2, c.requires.fact.5);
  fits = c.requires.fits;
  stack_fits = c.requires.stack_fits;
}

pub step-requires : goal.step-requires
step-requires c = record {
  kind_value = (refl, kind-low _ c.requires.fact.0 c.if-kind-eq-RUN.false c.if-kind-eq-REFERENCE.false c.if-kind-eq-BREAK.false (omega (arith, c.if-kind-ge-MARK.false)), c.if-kind-eq-BRANCH.false, c.requires.fact.1, c.requires.fact.2, omega (arith, c.requires.fact), c.requires.fact.4);
  fits = c.requires.fits;
  stack_fits = c.requires.stack_fits;
}

pub returns : goal.returns
returns c = c.step.ensures ∙ sym (leads-plain c.args.code.now c.args.sub.now c.args.note _ (λ k. omega (arith, c.if-kind-ge-MARK.false)))
