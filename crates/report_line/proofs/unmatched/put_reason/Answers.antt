-- The marks lent are as many as the rule's bytes.
use native.Mathlib.Omega.{arith}
use lib.ListN.{length-take}
use Rattle.report_line.proofs.unmatched.put_reason.Goals as goal

pub slice_bounds-marked-end : goal.slice_bounds-marked-end
slice_bounds-marked-end c = simp length-take (omega arith)

pub put_marked-p-requires : goal.put_marked-p-requires
put_marked-p-requires c = (simp length-take (omega arith), omega arith, omega arith)

pub put_sentence-requires : goal.put_sentence-requires
put_sentence-requires c = record {
  marks_len = simp length-take (omega arith);
  start_le_stop = (c.requires.start_le_stop.0, c.requires.start_le_stop.1);
}
