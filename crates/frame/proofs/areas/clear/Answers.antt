-- `clear` meets its contract: the part of the first numbers is filled, and the others are as they were.
use mathlib.Core.Path.{refl}
use lib.Seq.{length-take-le}
use Rattle.frame.specs.Laws.Areas.{cleared-is}
use Rattle.frame.proofs.areas.clear.Goals as goal

pub returns : goal.returns
returns c = let a = c.args in
    rw (cleared-is a.n a.area.now, c.fill.ensures.after (λ y h. h), length-take-le a.n a.area.now c.requires) refl
