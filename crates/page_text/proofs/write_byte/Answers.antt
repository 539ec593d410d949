-- Each arm is one case of the definition.
use Rattle.std.proofs.Common.{arith}
use Rattle.fields_text.proofs.Laws.Writing.{wrote_few, wrote_as}
use Rattle.page_text.proofs.Laws.Writing.{show-less, show-greater, show-and, show-double, show-single, show-low, show-high, show-plain}
use Rattle.page_text.proofs.write_byte.Goals as goal
use Rattle.page_text.proofs.write_byte.Goals.{in_default-via-then-byte-lt32, in_default-via-else-byte-lt32+else-byte-lt127, in-61-1, in_default+else-byte-lt32+then-byte-lt127}

pub returns-in-60 : goal.returns-in-60
returns-in-60 c = wrote_few 16 (show-less c.args.byte (omega arith)) (omega arith) c.append.ensures

pub returns-in-62 : goal.returns-in-62
returns-in-62 c = wrote_few 16 (show-greater c.args.byte (λ e. omega arith) (omega arith)) (omega arith) c.append-in-62.ensures

pub returns-in-38 : goal.returns-in-38
returns-in-38 c = wrote_few 16 (show-and c.args.byte (λ e. omega arith) (λ e. omega arith) (omega arith)) (omega arith) c.append-in-38.ensures

pub returns-in-34 : goal.returns-in-34
returns-in-34 c = wrote_few 16 (show-double c.args.byte (λ e. omega arith) (λ e. omega arith) (λ e. omega arith) (omega arith)) (omega arith) c.append-in-34.ensures

pub returns-in-39 : goal.returns-in-39
returns-in-39 c = wrote_few 16 (show-single c.args.byte (λ e. omega arith) (λ e. omega arith) (λ e. omega arith) (λ e. omega arith) (omega arith)) (omega arith) c.append-in-39.ensures

pub returns-in-32-to-126 : goal.returns-in-32-to-126
returns-in-32-to-126 c = elim c.in-32-to-126-1.branch [
  | in-61-1 w ↦ wrote_few 16 (show-plain c.args.byte (λ e. omega arith) (λ e. omega arith) (λ e. omega arith) (λ e. omega arith) (λ e. omega arith) (omega arith) (omega arith)) (omega arith) c.append_byte.ensures
  | in_default+else-byte-lt32+then-byte-lt127 w ↦ wrote_few 16 (show-plain c.args.byte (λ e. omega arith) (λ e. omega arith) (λ e. omega arith) (λ e. omega arith) (λ e. omega arith) (omega arith) (omega arith)) (omega arith) c.append_byte.ensures
]

pub returns-in_default : goal.returns-in_default
returns-in_default c = elim c.in_default.branch [
  | in_default-via-then-byte-lt32 w ↦ wrote_as (show-low c.args.byte (λ e. omega arith) (λ e. omega arith) (λ e. omega arith) (λ e. omega arith) (λ e. omega arith) (omega arith)) c.write_numbered.ensures
  | in_default-via-else-byte-lt32+else-byte-lt127 w ↦ wrote_as (show-high c.args.byte (λ e. omega arith) (λ e. omega arith) (λ e. omega arith) (λ e. omega arith) (λ e. omega arith) (omega arith) (omega arith)) c.write_numbered.ensures
]
