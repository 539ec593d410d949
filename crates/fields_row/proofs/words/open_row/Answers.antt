-- The text of the word is short enough.
use native.Mathlib.Omega.{arith}
use Rattle.fields_row.specs.Laws.Parts.{wider}
use Rattle.fields_row.proofs.words.open_row.Goals as goal

pub write_opening-requires : goal.write_opening-requires
write_opening-requires c = omega (arith, c.text.ensures.few)

pub returns : goal.returns
returns c = rw c.text.ensures.value at (wider {more = 32} (omega (arith, c.text.ensures.few)) c.write_opening.ensures)
