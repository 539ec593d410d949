-- The marks lent are as many as the rule's bytes, and so are the signs.
use native.Mathlib.Omega.{arith}
use lib.ListN.{length-take}
use Rattle.page_lines.proofs.shown_parts.show_reason.Goals as goal

pub slice_bounds-marked-end : goal.slice_bounds-marked-end
slice_bounds-marked-end c = simp length-take (omega arith)

pub sign_items-requires : goal.sign_items-requires
sign_items-requires c = (simp length-take (omega arith), omega arith)

pub slice_bounds-put_marked-end : goal.slice_bounds-put_marked-end
slice_bounds-put_marked-end c = simp length-take (omega arith)

pub put_marked-p-requires : goal.put_marked-p-requires
put_marked-p-requires c = simp length-take (omega arith)

pub show_sentence-requires : goal.show_sentence-requires
show_sentence-requires c = record {
  marks_len = simp length-take (omega arith);
  start_le_stop = (c.requires.start_le_stop.0, c.requires.start_le_stop.1);
}
