-- A card fits into what is lent for it.
use native.Mathlib.Omega.{arith}
use lib.ListN.{length-take}
use Rattle.card.proofs.Fitting.{card-fits}
use Rattle.card.proofs.writing.write_rule.Goals as goal

pub slice_bounds-card-end : goal.slice_bounds-card-end
slice_bounds-card-end c = let a = c.args in
    let fits = card-fits a.rule.now a.flags a.budget _ _ _ c.write_card.ensures _ c.in-Ok.is in
    omega (arith, fits)

pub slice_bounds-save-end : goal.slice_bounds-save-end
slice_bounds-save-end c = let a = c.args in
    let fits = card-fits a.rule.now a.flags a.budget _ _ _ c.write_card.ensures _ c.in-Ok.is in
    simp length-take (omega (arith, fits))

pub slice_bounds-card-end-then-save : goal.slice_bounds-card-end-then-save
slice_bounds-card-end-then-save c = let a = c.args in
    let fits = card-fits a.rule.now a.flags a.budget _ _ _ c.write_card.ensures _ c.in-Ok.is in
    omega (arith, fits)

pub slice_bounds-show-end : goal.slice_bounds-show-end
slice_bounds-show-end c = let a = c.args in
    let fits = card-fits a.rule.now a.flags a.budget _ _ _ c.write_card.ensures _ c.in-Ok.is in
    simp length-take (omega (arith, fits))
