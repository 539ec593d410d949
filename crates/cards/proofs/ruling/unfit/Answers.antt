-- Each return has passed the tests before its own, and which refusal follows is a law for each.
use mathlib.Core.Path.{sym}
use native.Mathlib.Omega.{arith}
use Rattle.syntax.specs.Limits.{rule_limit, rule_area_need, flag_bits}
use Rattle.refusals.specs.Fitness.{fitness_of}
use Rattle.card_format.proofs.Laws.Ruling.{rule-long, flag-unknown, budget-large, area-short, fit}
use Rattle.cards.proofs.ruling.unfit.Goals as goal

pub returns-then-size-gt-RULE_LIMIT : goal.returns-then-size-gt-RULE_LIMIT
unfolding fitness_of rule_limit
returns-then-size-gt-RULE_LIMIT c = sym (rule-long _ _ _ _ (omega arith))

pub returns-then-flags-ge-FLAGS_LIMIT : goal.returns-then-flags-ge-FLAGS_LIMIT
unfolding fitness_of rule_limit flag_bits
returns-then-flags-ge-FLAGS_LIMIT c = sym (flag-unknown _ _ _ _ (omega arith) (omega arith))

pub returns-then-budget-gt-CARD_BUDGET_LIMIT : goal.returns-then-budget-gt-CARD_BUDGET_LIMIT
unfolding fitness_of rule_limit flag_bits
returns-then-budget-gt-CARD_BUDGET_LIMIT c = sym (budget-large _ _ _ _ (omega arith) (omega arith) (omega arith))

pub returns-then-rule_area-lt-RULE_AREA_NEED : goal.returns-then-rule_area-lt-RULE_AREA_NEED
unfolding fitness_of rule_limit flag_bits rule_area_need
returns-then-rule_area-lt-RULE_AREA_NEED c = sym (area-short _ _ _ _ (omega arith) (omega arith) (omega arith) (omega arith))

pub returns : goal.returns
unfolding fitness_of rule_limit flag_bits rule_area_need
returns c = sym (fit _ _ _ _ (omega arith) (omega arith) (omega arith) (omega arith))
