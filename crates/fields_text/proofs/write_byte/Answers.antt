-- Each arm is one case of the definition.
use Rattle.std.proofs.Common.{arith}
use Rattle.fields_text.proofs.Laws.Writing.{escape-tab, escape-newline, escape-return, escape-backslash, escape-low, escape-high, escape-plain, wrote_few, wrote_as}
use Rattle.fields_text.proofs.write_byte.Goals as goal
use Rattle.fields_text.proofs.write_byte.Goals.{in_default-via-then-byte-lt32, in_default-via-else-byte-lt32+else-byte-lt127}

pub returns-in-9 : goal.returns-in-9
returns-in-9 c = wrote_few 4 (escape-tab c.args.byte (omega arith)) (omega arith) c.append.ensures

pub returns-in-10 : goal.returns-in-10
returns-in-10 c = wrote_few 4 (escape-newline c.args.byte (λ e. omega arith) (omega arith)) (omega arith) c.append-in-10.ensures

pub returns-in-13 : goal.returns-in-13
returns-in-13 c = wrote_few 4 (escape-return c.args.byte (λ e. omega arith) (λ e. omega arith) (omega arith)) (omega arith) c.append-in-13.ensures

pub returns-in-92 : goal.returns-in-92
returns-in-92 c = wrote_few 4 (escape-backslash c.args.byte (λ e. omega arith) (λ e. omega arith) (λ e. omega arith) (omega arith)) (omega arith) c.append-in-92.ensures

pub returns-in-32-to-126 : goal.returns-in-32-to-126
returns-in-32-to-126 c = wrote_few 4 (escape-plain c.args.byte (λ e. omega arith) (λ e. omega arith) (λ e. omega arith) (λ e. omega arith) (omega arith) (omega arith)) (omega arith) c.append_byte.ensures

pub returns-in_default : goal.returns-in_default
returns-in_default c = elim c.in_default.branch [
  | in_default-via-then-byte-lt32 w ↦ wrote_as (escape-low c.args.byte (λ e. omega arith) (λ e. omega arith) (λ e. omega arith) (λ e. omega arith) (omega arith)) c.write_hex.ensures
  | in_default-via-else-byte-lt32+else-byte-lt127 w ↦ wrote_as (escape-high c.args.byte (λ e. omega arith) (λ e. omega arith) (λ e. omega arith) (λ e. omega arith) (omega arith) (omega arith)) c.write_hex.ensures
]
