-- A line of the gateway is a subject, and a row has its room.
use native.Mathlib.Omega.{arith}
use Rattle.syntax.specs.Limits.{group_limit, spans_length, row_length, subject_limit}
use Rattle.gateway_check.proofs.answering.answer_sent.Goals as goal

pub check_held-requires : goal.check_held-requires
unfolding group_limit spans_length row_length subject_limit
check_held-requires c = (c.requires.0, omega arith, omega arith)
