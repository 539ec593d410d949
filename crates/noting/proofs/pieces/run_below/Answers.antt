-- What stands in the part that is lent on stands in the whole area, whose rest is as it was.
use mathlib.Core.Path.{◌≡◌, sym, ◌∙◌}
use lib.ListN.{length, take}
use lib.Seq.{length-take-le}
use Rattle.noting.specs.Laws.Parts.{front-back, front_rest}
use Rattle.noting.proofs.pieces.run_below.Goals as goal

pub slice_bounds-run_to_end-end-2 : goal.slice_bounds-run_to_end-end-2
slice_bounds-run_to_end-end-2 c = sym (length-take-le c.args.half c.args.work.now c.requires.regs_len.3)

pub run_to_end-requires : goal.run_to_end-requires
run_to_end-requires c = let a = c.args in
    let p = c.requires in
    let long : length (take a.half a.work.now) ≡ a.half = length-take-le a.half a.work.now p.regs_len.3 in
    record {
      regs_len = (p.regs_len.0, p.regs_len.1, p.regs_len.2);
      by_index = (p.by_index.0, p.by_index.1, rw long p.by_index.2);
    }

pub returns : goal.returns
returns c = let a = c.args in
    let p = c.requires in
    let r = c.run_to_end in
    let lent : length (take a.half a.work.now) ≡ a.half = length-take-le a.half a.work.now p.regs_len.3 in
    let long : length r.new.work ≡ a.half = r.auto.work ∙ lent in
    record {
      by_index_2 = λ first t h. rw (front-back a.work.now a.half r.new.work p.regs_len.3 long) (rw lent at (r.ensures first t (rw lent h)));
      work_unchanged = front_rest a.work.now a.half r.new.work p.regs_len.3 long;
    }
