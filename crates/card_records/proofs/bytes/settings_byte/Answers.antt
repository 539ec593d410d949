-- Each position in turn.
use mathlib.Core.Path.{◌≡◌}
use Rattle.card_format.proofs.Laws.Written.{fifth}
use Rattle.card_records.proofs.bytes.settings_byte.Goals as goal

pub returns-in-2 : goal.returns-in-2
returns-in-2 c = rw c.in-2.is c.low_byte.ensures

pub returns-in-3 : goal.returns-in-3
returns-in-3 c = rw c.in-3.is c.high_byte.ensures

pub returns-in_default : goal.returns-in_default
returns-in_default c = let n = c.in_default.in_default-own.rest in
    let last : c.args.i ≡ 4 = fifth _ n.0.0.0.1 n.0.0.1 n.0.1 n.1 c.requires.3 in
    rw last
