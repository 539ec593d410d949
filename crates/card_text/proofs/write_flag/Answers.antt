-- A flag that is not set has no line; else its line is written in three parts.
use native.Mathlib.Omega.{arith}
use Rattle.text.specs.Lines.{newline}
use Rattle.card_text.specs.Laws.Writing.{lined, flag-unset, flag-set}
use Rattle.card_text.proofs.write_flag.Goals as goal

pub returns-then-not-set : goal.returns-then-not-set
returns-then-not-set c = flag-unset c.args.words.now c.args.set (c.if-not-set.true)

pub returns : goal.returns
unfolding newline
returns c = flag-set c.args.words.now c.args.set (c.if-not-set.false) (lined (omega arith) c.append-first.ensures (record { wrote = c.append-last.ensures; near = omega (arith, c.append-last.ensures.ends) }) c.append_byte.ensures)
