-- What fits the room is written behind the part that is held.
use Rattle.std.proofs.Common.{arith, length-take}
use Rattle.text.specs.Laws.Gathering.{gathered_fitting}
use Rattle.text.proofs.gather.Goals as goal

pub append-requires : goal.append-requires
append-requires c = simp length-take (omega arith)

pub returns : goal.returns
returns c = let a = c.args in
    gathered_fitting a.limit a.line.now a.piece.now a.have c.requires.0 c.requires.1 (rw c.min-fitting.ensures at c.append.ensures)
