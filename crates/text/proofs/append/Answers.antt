-- What was copied into the part is pasted there.
use Rattle.std.proofs.Common.{refl, sym, ◌∙◌, arith, length}
use Rattle.std.proofs.lemmas.Slice.{put_mid-paste}
use Rattle.text.specs.Laws.Writing.{as_paste}
use Rattle.text.proofs.append.Goals as goal

pub returns : goal.returns
returns c = let a = c.args in
    record {
      ends = refl;
      holds = put_mid-paste a.at _ a.out.now _ a.text.now (length a.text.now) c.copy_from_slice.ensures.after (omega arith) refl ∙ sym (as_paste a.out.now a.at a.text.now);
    }
