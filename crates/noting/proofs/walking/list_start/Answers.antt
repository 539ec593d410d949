-- The loop keeps, for each course of the listing that it began with, that the course goes on, and that the rows of this start are indexed. An end
-- is noted and fallen back from; where nothing is left, no row is left or no step is left, the course is through.
use mathlib.Core.Path.{refl, sym, ◌∙◌}
use Prim.Native.Nat.{◌*◌}
use native.Mathlib.Omega.{arith}
use lib.ListN.{drop}
use Rattle.machine.specs.Laws.Code.{spans-in-registers}
use Rattle.index.specs.Index.{words}
use Rattle.index.specs.Laws.Index.{indexed-none}
use Rattle.noting.specs.Noting.{all_listed, none_left, cut_short}
use Rattle.noting.proofs.EndsLemmas.{earlier-fit, noted_one, going-spent, going-few, going-nothing, going_end, going_on, going-full}
use Rattle.noting.proofs.walking.list_start.Goals as goal

pub loop-used-init : goal.loop-used-init
loop-used-init c = let a = c.args in
    (c.requires.regs_len.0, refl, refl, omega arith, indexed-none a.results.now (drop (8 * a.budget) a.work.now) a.budget a.spans a.earlier, λ k h. h)

pub run_below-requires : goal.run_below-requires
run_below-requires c = let l = c.loop-used in
    let y = c.requires.going in
    let g = l.invariant.5 y.0 y.1 in
    record {
      regs_len = (l.invariant.0, c.requires.regs_len.1, c.requires.regs_len.2, omega (arith, l.invariant.1, c.requires.regs_len.3));
      by_index = (y.0.first, g.rest, g.ready);
    }

pub overflow_sub-left : goal.overflow_sub-left
overflow_sub-left c = let l = c.loop-used in
    let y = c.requires.going in
    let g = l.invariant.5 y.0 y.1 in
    let r = c.run_below in
    let m = going_end g r.ensures.by_index_2 _ _ c.in-End.is in
    m.enough

pub note-requires : goal.note-requires
unfolding words
note-requires c = let l = c.loop-used in
    let y = c.requires.going in
    let g = l.invariant.5 y.0 y.1 in
    let r = c.run_below in
    let m = going_end g r.ensures.by_index_2 _ _ c.in-End.is in
    record {
      earlier_le_rows = ((earlier-fit g).0, (earlier-fit g).1, omega (arith, spans-in-registers, r.auto.regs, l.invariant.0));
      heads_nonzero = (omega (arith, m.some, m.enough, g.few), omega (arith, c.well_formed), c.requires.regs_len.4, omega (arith, l.invariant.3, m.some, m.enough, c.well_formed), omega (arith, l.invariant.1, l.invariant.3, m.some, m.enough, r.auto.work, c.requires.regs_len.3));
      indexed = rw r.ensures.work_unchanged l.invariant.4;
    }

pub fall_below-head-requires : goal.fall_below-head-requires
fall_below-head-requires c = let l = c.loop-used in
    let y = c.requires.going in
    let g = l.invariant.5 y.0 y.1 in
    let r = c.run_below in
    let m = going_end g r.ensures.by_index_2 _ _ c.in-End.is in
    let n = c.note in
    record {
      regs_len = (r.auto.regs ∙ l.invariant.0, m.low, omega (arith, n.auto.work, r.auto.work, l.invariant.1, c.requires.regs_len.3));
      stack_fits = rw n.ensures.work_unchanged m.fits;
    }

pub loop-used-smaller : goal.loop-used-smaller
loop-used-smaller c = let l = c.loop-used in
    let y = c.requires.going in
    let g = l.invariant.5 y.0 y.1 in
    let r = c.run_below in
    let m = going_end g r.ensures.by_index_2 _ _ c.in-End.is in
    omega (arith, m.some, m.enough)

pub loop-used-preserved : goal.loop-used-preserved
loop-used-preserved c = let l = c.loop-used in
    let y = c.requires.going in
    let g = l.invariant.5 y.0 y.1 in
    let r = c.run_below in
    let m = going_end g r.ensures.by_index_2 _ _ c.in-End.is in
    let n = c.note in
    let f = c.fall_below-head in
    let size = r.auto.regs ∙ l.invariant.0 in
    let noted = rw c.in-Some.is at n.ensures.notes in
    (f.auto.regs ∙ size, f.auto.work ∙ n.auto.work ∙ r.auto.work ∙ l.invariant.1, n.auto.results ∙ l.invariant.2, omega (arith, l.invariant.3, m.some, m.enough, noted_one noted), rw f.ensures.work_unchanged (n.ensures.by_index _ c.in-Some.is), λ k h. going_on (l.invariant.5 k h) r.ensures.by_index_2 c.in-End.is size noted (rw n.ensures.work_unchanged at f.ensures.result_after))

pub overflow_sub-result : goal.overflow_sub-result
overflow_sub-result c = let l = c.loop-used in
    let y = c.requires.going in
    let g = l.invariant.5 y.0 y.1 in
    let r = c.run_below in
    let m = going_end g r.ensures.by_index_2 _ _ c.in-End.is in
    omega (arith, g.few)

pub shape_of-regs-in-None : goal.shape_of-regs-in-None
shape_of-regs-in-None c = c.run_below.auto.regs ∙ c.loop-used.invariant.0 ∙ sym c.requires.regs_len.0

pub shape_of-work-in-None : goal.shape_of-work-in-None
shape_of-work-in-None c = c.note.auto.work ∙ c.run_below.auto.work ∙ c.loop-used.invariant.1

pub shape_of-results-in-None : goal.shape_of-results-in-None
shape_of-results-in-None c = c.note.auto.results ∙ c.loop-used.invariant.2

pub returns-in-None : goal.returns-in-None
returns-in-None c = let l = c.loop-used in
    let y = c.requires.going in
    let g = l.invariant.5 y.0 y.1 in
    let r = c.run_below in
    λ k h. none_left (going-full (l.invariant.5 k h) r.ensures.by_index_2 c.in-End.is (r.auto.regs ∙ l.invariant.0) (rw c.in-None.is at c.note.ensures.notes)) (omega (arith, g.few))

pub overflow_sub-unused : goal.overflow_sub-unused
overflow_sub-unused c = let l = c.loop-used in
    let y = c.requires.going in
    let g = l.invariant.5 y.0 y.1 in
    going-few g c.run_below.ensures.by_index_2 _ c.in-Nothing.is

pub overflow_sub-result-in-Nothing : goal.overflow_sub-result-in-Nothing
overflow_sub-result-in-Nothing c = let l = c.loop-used in
    let y = c.requires.going in
    let g = l.invariant.5 y.0 y.1 in
    omega (arith, g.few)

pub shape_of-regs-in-Nothing : goal.shape_of-regs-in-Nothing
shape_of-regs-in-Nothing c = c.run_below.auto.regs ∙ c.loop-used.invariant.0 ∙ sym c.requires.regs_len.0

pub shape_of-work-in-Nothing : goal.shape_of-work-in-Nothing
shape_of-work-in-Nothing c = c.run_below.auto.work ∙ c.loop-used.invariant.1

pub shape_of-results-in-Nothing : goal.shape_of-results-in-Nothing
shape_of-results-in-Nothing c = c.loop-used.invariant.2

pub returns-in-Nothing : goal.returns-in-Nothing
returns-in-Nothing c = λ k h. all_listed (going-nothing (c.loop-used.invariant.5 k h) c.run_below.ensures.by_index_2 _ c.in-Nothing.is)

pub shape_of-regs-in-Spent : goal.shape_of-regs-in-Spent
shape_of-regs-in-Spent c = c.run_below.auto.regs ∙ c.loop-used.invariant.0 ∙ sym c.requires.regs_len.0

pub shape_of-work-in-Spent : goal.shape_of-work-in-Spent
shape_of-work-in-Spent c = c.run_below.auto.work ∙ c.loop-used.invariant.1

pub shape_of-results-in-Spent : goal.shape_of-results-in-Spent
shape_of-results-in-Spent c = c.loop-used.invariant.2

pub returns-in-Spent : goal.returns-in-Spent
returns-in-Spent c = λ k h. cut_short (going-spent (c.loop-used.invariant.5 k h) c.run_below.ensures.by_index_2 c.in-Spent.is)
