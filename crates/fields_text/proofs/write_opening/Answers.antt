-- Three texts, one behind another; a number of 64 bits has at most twenty digits.
use native.Mathlib.Omega.{arith}
use Rattle.text.specs.Laws.Numbers.{twenty_digits}
use Rattle.fields_text.specs.Table.{tab}
use Rattle.fields_text.proofs.Laws.Writing.{wrote_opening}
use Rattle.fields_text.proofs.write_opening.Goals as goal

pub append_number-first-requires : goal.append_number-first-requires
append_number-first-requires c = omega (arith, twenty_digits c.args.number (omega arith))

pub append_byte-second-requires : goal.append_byte-second-requires
append_byte-second-requires c = omega (arith, twenty_digits c.args.number (omega arith), c.append_number-first.ensures.ends)

pub append-requires : goal.append-requires
append-requires c = omega (arith, twenty_digits c.args.number (omega arith), c.append_number-first.ensures.ends, c.append_byte-second.ensures.ends)

pub returns : goal.returns
unfolding tab
returns c = let a = c.args in wrote_opening a.number a.word.now (omega arith) c.requires c.append_number-first.ensures c.append_byte-second.ensures c.append.ensures
