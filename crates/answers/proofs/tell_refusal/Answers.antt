-- `tell_refusal` meets its contract: the refusal's number is the one that is defined, and its place fits into 32 bits.
use mathlib.Core.Path.{◌∙◌, ap}
use Prim.Native.Nat.{ℕ}
use native.Mathlib.Omega.{arith}
use Rattle.syntax.specs.Limits.{rule_limit}
use Rattle.answers.specs.Answers.{numbers, refusal_numbers}
use Rattle.answers.proofs.tell_refusal.Goals as goal

pub overflow_cast-f : goal.overflow_cast-f
unfolding rule_limit
overflow_cast-f c = omega (arith, c.requires)

pub returns : goal.returns
unfolding refusal_numbers
returns c = c.tell.ensures ∙ ap (λ (n : ℕ). numbers 3 n c.args.f.place 0 0) c.from.ensures
