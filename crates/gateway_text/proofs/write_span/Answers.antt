-- A span that is not set is one text; any other is its parts, one behind another.
use native.Mathlib.Omega.{arith}
use Rattle.text.specs.Laws.Numbers.{ten_digits}
use Rattle.gateway_text.specs.Limits.{span_room}
use Rattle.gateway_text.specs.Laws.Lines.{span_unset, span_set}
use Rattle.syntax.specs.Limits.{unset}
use Rattle.gateway_text.proofs.write_span.Goals as goal

pub append-requires : goal.append-requires
unfolding span_room
append-requires c = omega arith

pub returns-then-from-eq-UNSET : goal.returns-then-from-eq-UNSET
unfolding unset
returns-then-from-eq-UNSET c = span_unset c.args.to c.args.from c.if-from-eq-UNSET.true c.append.ensures

pub append_byte-blank-requires : goal.append_byte-blank-requires
unfolding span_room
append_byte-blank-requires c = omega arith

pub append_number-first-requires : goal.append_number-first-requires
unfolding span_room
append_number-first-requires c = omega (arith, ten_digits c.args.from c.ranges.from.fits)

pub append_byte-dash-requires : goal.append_byte-dash-requires
unfolding span_room
append_byte-dash-requires c = omega (arith, ten_digits c.args.from c.ranges.from.fits)

pub append_number-requires : goal.append_number-requires
unfolding span_room
append_number-requires c = omega (arith, ten_digits c.args.from c.ranges.from.fits, ten_digits c.args.to c.ranges.to.fits)

pub returns : goal.returns
unfolding unset
returns c = span_set
    c.args.to
    c.args.from
    c.ranges.from.fits
    c.ranges.to.fits
    c.requires
    c.append_byte-blank.ensures
    c.append_number-first.ensures
    c.append_byte-dash.ensures
    c.append_number.ensures
    c.if-from-eq-UNSET.false
