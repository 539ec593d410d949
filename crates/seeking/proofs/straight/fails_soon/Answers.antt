-- `fails_soon` meets its contract. The loop's invariant: if the node that was come to fails, the start does, after the steps that led there. The measure is the
-- looks that are left.
use mathlib.Core.Path.{◌≡◌}
use Prim.Native.Nat.{suc, ◌+◌, ◌-◌}
use native.Mathlib.Omega.{arith}
use Rattle.seeking.proofs.straight.fails_soon.Goals as goal

pub returns-then-begin-eq0 : goal.returns-then-begin-eq0
returns-then-begin-eq0 c = λ h. absurd (omega arith)

pub loop-left-init : goal.loop-left-init
loop-left-init c = (omega arith, λ n f. let z : c.args.looks - c.args.looks + n ≡ n = omega arith in rw z f)

pub look-requires : goal.look-requires
look-requires c = c.requires

pub returns-then-left-steps : goal.returns-then-left-steps
returns-then-left-steps c = λ h. absurd (omega arith)

pub overflow_sub-result : goal.overflow_sub-result
overflow_sub-result c = c.loop-left.invariant.0

pub overflow_add-result : goal.overflow_add-result
overflow_add-result c = omega (arith, c.loop-left.invariant.0, c.if-left-steps.false)

pub returns-in-Missed : goal.returns-in-Missed
returns-in-Missed c = let seen = rw c.in-Missed.is at c.look.ensures in
    λ h. (omega (arith, c.loop-left.invariant.0, c.if-left-steps.false), c.loop-left.invariant.1 _ seen.1)

pub loop-left-preserved : goal.loop-left-preserved
loop-left-preserved c = let seen = rw c.in-Next.is at c.look.ensures in
    (omega (arith, c.loop-left.invariant.0), λ n f. let z : c.args.looks - (c.loop-left.left - 1) + n ≡ c.args.looks - c.loop-left.left + suc n = omega (arith, c.loop-left.invariant.0) in rw z (c.loop-left.invariant.1 (suc n) (seen n f)))

pub returns-in-Unknown : goal.returns-in-Unknown
returns-in-Unknown c = λ h. absurd (omega arith)

pub returns : goal.returns
returns c = λ h. absurd (omega arith)
