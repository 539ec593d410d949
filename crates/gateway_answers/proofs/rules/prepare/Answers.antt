-- A rule that is not too long is as compiling tells.
use native.Mathlib.Omega.{arith}
use mathlib.Core.Path.{◌∙◌}
use Rattle.syntax.specs.Limits.{rule_limit}
use Rattle.gateway_answers.specs.Limits.{gateway_flags}
use Rattle.gateway_answers.specs.Laws.Rules.{long_rule, denied, prepared}
use Rattle.gateway_answers.proofs.rules.prepare.Goals as goal

pub returns-then-rule-gt-RULE_LIMIT : goal.returns-then-rule-gt-RULE_LIMIT
unfolding rule_limit
returns-then-rule-gt-RULE_LIMIT c = rw c.at.ensures (denied c.args.rule.now c.args.checked _ (long_rule c.args.rule.now (omega arith)))

pub compile-requires : goal.compile-requires
unfolding rule_limit
compile-requires c = (omega arith, omega (arith, c.requires))

pub returns : goal.returns
unfolding rule_limit gateway_flags
returns c = prepared c.args.rule.now (omega arith) c.compile.ensures (c.compile.ensures.long ∙ c.requires)
