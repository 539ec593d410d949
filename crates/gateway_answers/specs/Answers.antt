-- The rule that the gateway program reads, and its answer to a line: 01, "The gateway program".
-- docs/REFERENCE.md, 19.1
use Rattle.std.specs.Prelude.{List, ℕ, length, ltb, if◌then◌else◌}
use Rattle.syntax.specs.declared.Reason.TheVariants.{RuleTooLong}
use Rattle.syntax.specs.Limits.{rule_limit}
use Rattle.syntax.specs.Read.{Read, refused}
use Rattle.syntax.specs.Tree.{Rule}
use Rattle.syntax.specs.Reading.{reading}
use Rattle.semantics.specs.Answers.{answer}
use Rattle.gateway_text.specs.Lines.{too_long_line, outcome_line}
use Rattle.gateway_answers.specs.Limits.{line_limit, gateway_budget, gateway_flags}

-- The rule that the gateway reads: its tree and its number of groups, or the refusal that a call gives.
unfoldable pub gateway_rule : List ℕ → Read (Rule × ℕ)
gateway_rule s = if ltb rule_limit (length s) then refused 0 RuleTooLong else reading s gateway_flags

-- the answer to a line
unfoldable pub answer_line : Rule × ℕ → List ℕ → List ℕ
answer_line r s = if ltb line_limit (length s) then too_long_line else outcome_line r.1 (answer s r.0 gateway_budget).outcome
