-- One text of two bytes.
use native.Mathlib.Omega.{arith}
use Rattle.gateway_text.specs.Limits.{answer_room}
use Rattle.gateway_text.specs.Laws.Lines.{too_long_wrote}
use Rattle.gateway_text.proofs.write_too_long.Goals as goal

pub append-requires : goal.append-requires
unfolding answer_room
append-requires c = omega arith

pub returns : goal.returns
returns c = too_long_wrote c.append.ensures
