-- `branch_body` meets its contract: the branch that is looked for is as many links behind as are left.
use mathlib.Core.Path.{refl, sym, ◌∙◌}
use Prim.Native.Nat.{◌-◌}
use native.Mathlib.Omega.{arith}
use Rattle.turns.proofs.Turning.{body_at, last-body-at, no-body-at, no-other-at, other_at}
use Rattle.turns.proofs.turns.branch_body.Goals as goal

pub returns-then-kind-ne-BRANCH : goal.returns-then-kind-ne-BRANCH
returns-then-kind-ne-BRANCH c = sym (c.loop-k.invariant.0 ∙ no-other-at c.args.code.now c.loop-k.k c.loop-k.q (omega arith) (λ e. c.if-kind-ne-BRANCH.true (c.number-kind.ensures ∙ e)))

pub loop-k-preserved : goal.loop-k-preserved
loop-k-preserved c = (c.loop-k.invariant.0 ∙ other_at c.args.code.now c.loop-k.k (c.loop-k.k - 1) c.loop-k.q c.number-q.result (omega arith) refl (sym c.number-kind.ensures ∙ c.if-kind-ne-BRANCH.false) (sym c.number-q.ensures), omega arith, omega arith)

pub returns-in-5 : goal.returns-in-5
returns-in-5 c = sym (c.loop-k.invariant.0 ∙ body_at c.args.code.now c.loop-k.k c.loop-k.q c.number-body.result (omega arith) (sym c.number-kind-2.ensures ∙ c.in-5.is) (sym c.number-body.ensures))

pub returns-in-6 : goal.returns-in-6
returns-in-6 c = sym (c.loop-k.invariant.0 ∙ last-body-at c.args.code.now c.loop-k.k c.loop-k.q c.number-body.result (omega arith) (sym c.number-kind-2.ensures ∙ c.in-6.is) (sym c.number-body.ensures))

pub returns-in_default : goal.returns-in_default
returns-in_default c = sym (c.loop-k.invariant.0 ∙ no-body-at c.args.code.now c.loop-k.k c.loop-k.q (omega arith) (λ e. c.in_default.in_default-own.rest.0.1 (c.number-kind-2.ensures ∙ e)) (λ e. c.in_default.in_default-own.rest.1 (c.number-kind-2.ensures ∙ e)))
