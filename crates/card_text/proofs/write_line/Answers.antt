-- Three parts, one behind another.
use mathlib.Core.Path.{◌≡◌}
use native.Mathlib.Omega.{arith}
use lib.ListN.{length}
use Rattle.text.specs.Lines.{newline}
use Rattle.card_text.specs.Laws.Writing.{lined}
use Rattle.card_text.proofs.write_line.Goals as goal

pub returns : goal.returns
unfolding newline
returns c = let eight : length c.args.label.now ≡ 8 = omega arith in
    let w = lined (omega arith) c.append-first.ensures c.write_each-last.ensures c.append_byte.ensures in
    rw eight at w
