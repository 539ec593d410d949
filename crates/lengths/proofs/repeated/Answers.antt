-- `repeated` meets its contract: a product that is capped, and its own place behind those in its body.
use mathlib.Core.Path.{refl, ◌∙◌}
use Prim.Native.Nat.{◌*◌, ◌≤◌}
use native.Mathlib.Nat.{mul-le-mul}
use native.Mathlib.Omega.{arith}
use Rattle.syntax.specs.Limits.{length_limit}
use Rattle.syntax.specs.Lengths.{capped}
use Rattle.lengths.proofs.repeated.Goals as goal

pub overflow_mul-least : goal.overflow_mul-least
unfolding length_limit
overflow_mul-least c = let few : c.word-least.result ≤ 4294967295 = omega (arith, c.word-least.ensures.1) in
    let h : c.word-least.result * c.args.body.least ≤ 4294967295 * 65536 = mul-le-mul few c.requires.1 in
    omega arith

pub returns : goal.returns
unfolding capped length_limit
returns c = record { least = rw (← c.word-least.ensures.0) c.min.ensures; reference = refl; idle = c.or.ensures ∙ rw c.own_idle.ensures; form = refl; crowd = refl }
