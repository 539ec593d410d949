-- Three texts, one behind another.
use Rattle.fields_text.proofs.Laws.Writing.{wrote_hex}
use Rattle.fields_text.proofs.write_hex.Goals as goal

pub returns : goal.returns
returns c = wrote_hex c.args.byte c.requires c.append-digits.ensures (rw c.hex_digit.ensures at c.append_byte-last.ensures) (rw c.hex_digit-2.ensures at c.append_byte.ensures)
