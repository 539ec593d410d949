-- Four texts, one behind another.
use Rattle.page_text.proofs.Laws.Writing.{wrote_numbered}
use Rattle.page_text.proofs.write_numbered.Goals as goal

pub returns : goal.returns
returns c = wrote_numbered c.args.byte c.requires c.append-digits.ensures (rw c.hex_digit.ensures at c.append_byte-last.ensures) (rw c.hex_digit-2.ensures at c.append_byte-close.ensures) c.append.ensures
