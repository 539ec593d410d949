-- Each return has passed the tests before its own, and which refusal follows is a law for each.
use mathlib.Core.Path.{◌∙◌}
use native.Mathlib.Omega.{arith}
use Rattle.syntax.specs.Limits.{rule_limit, subject_limit, budget_limit, rule_area_need, work_per_step, flag_bits, group_limit, name_limit, name_entry, name_index_need}
use Rattle.semantics.specs.Calls.{work_area_need}
use Rattle.refusals.specs.Fitness.{fitness_of}
use Rattle.refusals.specs.Laws.{rule-long, subject-long, flag-unknown, budget-large, rule_area-short, work_area-short, results-short, names-short, acceptable}
use Rattle.refusals.proofs.unfit.Goals as goal

pub returns-then-rule-gt-RULE_LIMIT : goal.returns-then-rule-gt-RULE_LIMIT
unfolding fitness_of rule_limit
returns-then-rule-gt-RULE_LIMIT c need d s = rule-long need d (omega arith)

pub returns-then-subject-gt-SUBJECT_LIMIT : goal.returns-then-subject-gt-SUBJECT_LIMIT
unfolding fitness_of rule_limit subject_limit
returns-then-subject-gt-SUBJECT_LIMIT c need d s = subject-long need d (omega arith) (omega arith)

pub returns-then-flags-ge-FLAGS_LIMIT : goal.returns-then-flags-ge-FLAGS_LIMIT
unfolding fitness_of rule_limit subject_limit flag_bits
returns-then-flags-ge-FLAGS_LIMIT c need d s = flag-unknown need d (omega arith) (omega arith) (omega arith)

pub returns-then-budget-gt-BUDGET_LIMIT : goal.returns-then-budget-gt-BUDGET_LIMIT
unfolding fitness_of rule_limit subject_limit flag_bits budget_limit
returns-then-budget-gt-BUDGET_LIMIT c need d s = budget-large need d (omega arith) (omega arith) (omega arith) (omega arith)

pub returns-then-rule_area-lt-RULE_AREA_NEED : goal.returns-then-rule_area-lt-RULE_AREA_NEED
unfolding fitness_of rule_limit subject_limit flag_bits budget_limit rule_area_need
returns-then-rule_area-lt-RULE_AREA_NEED c need d s = rule_area-short need d (omega arith) (omega arith) (omega arith) (omega arith) (omega arith)

pub returns-then-work_area-budget : goal.returns-then-work_area-budget
unfolding fitness_of rule_limit subject_limit flag_bits budget_limit rule_area_need work_area_need work_per_step
returns-then-work_area-budget c need d s = work_area-short need d (omega arith) (omega arith) (omega arith) (omega arith) (omega arith) (omega arith)

pub returns-then-short : goal.returns-then-short
unfolding fitness_of rule_limit subject_limit flag_bits budget_limit rule_area_need work_area_need work_per_step
returns-then-short c need d s = results-short need d (omega arith) (omega arith) (omega arith) (omega arith) (omega arith) (omega arith) (s.short_is ∙ c.if-short.true)

pub returns-then-names-lt-NAME_INDEX_NEED : goal.returns-then-names-lt-NAME_INDEX_NEED
unfolding fitness_of rule_limit subject_limit flag_bits budget_limit rule_area_need work_area_need work_per_step group_limit name_limit name_entry name_index_need
returns-then-names-lt-NAME_INDEX_NEED c need d s = names-short need d (omega arith) (omega arith) (omega arith) (omega arith) (omega arith) (omega arith) (s.short_is ∙ c.if-short.false) (omega arith)

pub returns : goal.returns
unfolding fitness_of rule_limit subject_limit flag_bits budget_limit rule_area_need work_area_need work_per_step group_limit name_limit name_entry name_index_need
returns c need d s = acceptable need d (omega arith) (omega arith) (omega arith) (omega arith) (omega arith) (omega arith) (s.short_is ∙ c.if-short.false) (omega arith)
