-- The areas are as long as is needed.
use native.Mathlib.Omega.{arith}
use Rattle.gateway_answers.specs.Limits.{line_limit, held_limit, gateway_budget}
use Rattle.syntax.specs.Limits.{work_per_step, group_limit, spans_length, row_length}
use Rattle.semantics.specs.Calls.{work_area_need}
use Rattle.gateway.proofs.serve.Goals as goal

pub answer_input-answered-requires : goal.answer_input-answered-requires
unfolding work_area_need work_per_step gateway_budget row_length spans_length group_limit held_limit line_limit
answer_input-answered-requires c = let s = c.requires.by_index.1 in
    record {
      lent = record { tree = s.tree; stands = s.stands; few = s.few; code_size = c.requires.code_len.0; work_area_fits = omega arith; results_fit = omega arith };
      held_limit_in_bounds = (omega arith, omega arith);
    }
