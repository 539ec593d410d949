-- What stands in the part that is lent on stands in the whole area, whose rest is as it was.
use mathlib.Core.Path.{◌≡◌, sym, ◌∙◌}
use native.Mathlib.Omega.{arith}
use lib.ListN.{length}
use lib.Seq.{length-take-le}
use Rattle.noting.specs.Laws.Parts.{front-back, front_rest}
use Rattle.noting.proofs.pieces.fall_below.Goals as goal

pub slice_bounds-fall_back-end-2 : goal.slice_bounds-fall_back-end-2
slice_bounds-fall_back-end-2 c = sym (length-take-le c.args.half c.args.work.now c.requires.regs_len.2)

pub fall_back-requires : goal.fall_back-requires
fall_back-requires c = let a = c.args in
    let p = c.requires in
    record {
      regs_len = (p.regs_len.0, omega (arith, length-take-le a.half a.work.now p.regs_len.2));
      stack_fits = p.stack_fits;
    }

pub returns : goal.returns
returns c = let a = c.args in
    let p = c.requires in
    let f = c.fall_back in
    let long : length f.new.work ≡ a.half = f.auto.work ∙ length-take-le a.half a.work.now p.regs_len.2 in
    record {
      result_after = rw (front-back a.work.now a.half f.new.work p.regs_len.2 long) f.ensures;
      work_unchanged = front_rest a.work.now a.half f.new.work p.regs_len.2 long;
    }
