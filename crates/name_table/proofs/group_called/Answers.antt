-- `group_called` meets its contract: the groups down to the one looked at do not have the name, so that those that are left decide.
use mathlib.Core.Path.{◌≡◌, sym, refl, ◌∙◌}
use Prim.Native.Nat.{◌+◌, ◌-◌}
use native.Mathlib.Omega.{arith}
use Rattle.name_table.proofs.Called.{compared, called-here, called-below, called-none}
use Rattle.name_table.proofs.group_called.Goals as goal

pub loop-others-init : goal.loop-others-init
loop-others-init c = refl

pub returns-then-eq : goal.returns-then-eq
returns-then-eq c = let k : c.loop-others.others - 1 + 1 ≡ c.loop-others.others = omega arith in (k ∙ sym (c.loop-others.invariant ∙ called-here _ _ _ _ (omega arith) (compared c.args.rule.now _ _ c.args.from c.args.len _ _ c.name_behind.ensures c.eq.ensures (omega arith) ∙ c.if-eq.true)), (omega arith, omega (arith, c.loop-others.auto.others)))

pub loop-others-preserved : goal.loop-others-preserved
loop-others-preserved c = c.loop-others.invariant ∙ called-below _ _ _ _ (omega arith) (compared c.args.rule.now _ _ c.args.from c.args.len _ _ c.name_behind.ensures c.eq.ensures (omega arith) ∙ c.if-eq.false)

pub returns : goal.returns
returns c = (sym (c.loop-others.invariant ∙ called-none _ _ _ _ (omega arith)), tt)
