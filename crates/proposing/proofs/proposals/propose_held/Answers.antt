-- The rule is held, so that it can be walked from the row's start; what is made is what was accepted.
use native.Mathlib.Omega.{arith}
use lib.ListN.{length-take}
use Rattle.syntax.specs.Limits.{unset, registers, height_limit, nesting_limit, spans_length, group_limit, row_length, rule_area_need, subject_limit}
use Rattle.proposing.proofs.Accepting.{held-ready, proposes}
use Rattle.proposing.proofs.proposals.propose_held.Goals as goal

pub bounds-wanted-0 : goal.bounds-wanted-0
unfolding row_length
bounds-wanted-0 c = omega (arith, c.requires.1)

pub overflow_cast-wanted : goal.overflow_cast-wanted
overflow_cast-wanted c = omega (arith, c.type_inv.wanted 0)

pub walk_to-requires : goal.walk_to-requires
unfolding unset registers height_limit nesting_limit spans_length group_limit rule_area_need subject_limit
walk_to-requires c = let h = c.requires.0 in
    record {
      regs_len = (omega arith, c.requires.1, omega (arith, h.subject_fits), omega (arith, h.code_size));
      by_index = held-ready c.args.code.now c.args.subject.now c.args.work.now c.args.entry c.args.budget _ h (λ i. omega (arith, c.type_inv.subject i)) (omega (arith, c.if-subject-wanted.false));
    }

pub slice_bounds-accept-end : goal.slice_bounds-accept-end
slice_bounds-accept-end c = c.in_ok-n.ensures

pub slice_bounds-accept-end-2 : goal.slice_bounds-accept-end-2
slice_bounds-accept-end-2 c = simp length-take (omega (arith, c.in_ok-n.ensures))

pub returns : goal.returns
returns c = let a = c.args in
    proposes a.code.now a.subject.now a.wanted.now _ _ a.entry a.budget c.accept.result c.in_ok-n.ensures c.accept.ensures
