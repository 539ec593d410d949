-- The loop keeps, for each rule that stands in the area, the rows and the steps of the starts before this one. A start that is through
-- leads to the next one that may begin, or is the last.
use mathlib.Core.Path.{refl, ◌∙◌, ap}
use mathlib.Core.List.{List}
use Prim.Native.Nat.{ℕ, ◌*◌, ◌^◌, ◌≤◌, ◌<◌}
use native.Mathlib.Omega.{arith}
use lib.ListN.{length, take}
use Rattle.syntax.specs.Limits.{subject_limit, budget_limit}
use Rattle.gathering.proofs.Starts.{between_first, turn-begins, turn-few, turn_last, turn-next, turn-full, turn-spent, turning-from}
use Rattle.gathering.proofs.walking.list_starts.Goals as goal

cheap : (budget : ℕ) → budget ≤ budget_limit → 2 * budget < 2 ^ 32
unfolding budget_limit
cheap budget h = omega arith

pub find_opening-open-requires : goal.find_opening-open-requires
find_opening-open-requires c = c.requires.clear.2

pub overflow_cast-last : goal.overflow_cast-last
unfolding subject_limit
overflow_cast-last c = omega (arith, c.requires.clear.1)

pub loop-n-init : goal.loop-n-init
loop-n-init c = record {
  bytes = λ i. omega (arith, c.type_inv.sub i);
  short = c.requires.clear.1;
  cheap = cheap c.args.budget c.requires.clear.5;
  clear = c.requires.clear.0;
  same = refl;
  wide = refl;
  fits = c.requires.clear.3;
  long = refl;
  inside = omega arith;
  small = omega arith;
  between = λ x h. between_first c.args.sub.now x c.args.budget c.args.results.now;
}

pub list_start-requires : goal.list_start-requires
unfolding subject_limit
list_start-requires c = let l = c.loop-n in
    let y = c.requires.stands in
    record {
      regs_len = (l.invariant.clear.size, omega (arith, l.invariant.short), c.requires.clear.2, l.invariant.fits, c.requires.clear.4);
      going = (_, turn-begins l.invariant (c.start-m.ensures l.regs (take (8 * c.args.budget) l.work)) y.0 y.1);
    }

pub overflow_add-result : goal.overflow_add-result
unfolding subject_limit
overflow_add-result c = let l = c.loop-n in
    let r = c.list_start in
    let e = c.start-m.ensures l.regs (take (8 * c.args.budget) l.work) in
    omega (arith, l.invariant.small, l.invariant.cheap, l.invariant.inside, l.invariant.short, turn-few l.invariant e r.ensures _ _ c.in-Done.is c.requires.stands)

pub shape_of-regs-then-start-last : goal.shape_of-regs-then-start-last
shape_of-regs-then-start-last c = c.list_start.auto.regs ∙ ap (λ (l : List ℕ). length l) c.loop-n.invariant.same

pub shape_of-work-then-start-last : goal.shape_of-work-then-start-last
shape_of-work-then-start-last c = c.list_start.auto.work ∙ c.loop-n.invariant.wide

pub shape_of-results-then-start-last : goal.shape_of-results-then-start-last
shape_of-results-then-start-last c = c.list_start.auto.results ∙ c.loop-n.invariant.long

pub returns-then-start-last : goal.returns-then-start-last
returns-then-start-last c = let l = c.loop-n in
    let r = c.list_start in
    let e = c.start-m.ensures l.regs (take (8 * c.args.budget) l.work) in
    turn_last l.invariant e r.ensures _ _ c.in-Done.is c.if-start-last.true

pub overflow_add-start : goal.overflow_add-start
unfolding subject_limit
overflow_add-start c = omega (arith, c.loop-n.invariant.inside, c.loop-n.invariant.short)

pub overflow_add-steps : goal.overflow_add-steps
unfolding subject_limit
overflow_add-steps c = let l = c.loop-n in
    let r = c.list_start in
    let e = c.start-m.ensures l.regs (take (8 * c.args.budget) l.work) in
    omega (arith, l.invariant.small, l.invariant.cheap, l.invariant.inside, l.invariant.short, turn-few l.invariant e r.ensures _ _ c.in-Done.is c.requires.stands)

pub pass_starts-on-requires : goal.pass_starts-on-requires
unfolding subject_limit
pass_starts-on-requires c = let l = c.loop-n in
    let r = c.list_start in
    let e = c.start-m.ensures l.regs (take (8 * c.args.budget) l.work) in
    (omega (arith, l.invariant.inside), l.invariant.short, omega (arith, l.invariant.small, l.invariant.cheap, l.invariant.inside, l.invariant.short, turn-few l.invariant e r.ensures _ _ c.in-Done.is c.requires.stands))

pub loop-n-smaller : goal.loop-n-smaller
loop-n-smaller c = omega (arith, c.pass_starts-on.ensures.passed.on, c.loop-n.invariant.inside, c.if-start-last.false)

pub loop-n-preserved : goal.loop-n-preserved
loop-n-preserved c = let l = c.loop-n in
    let r = c.list_start in
    let e = c.start-m.ensures l.regs (take (8 * c.args.budget) l.work) in
    let t = turn-next l.invariant e r.ensures _ _ c.in-Done.is (omega (arith, l.invariant.inside, c.if-start-last.false)) c.requires.stands r.auto.work r.auto.results in
    rw c.pass_starts-on.ensures.steps_value (turning-from c.find_opening-open.result c.find_opening-open.ensures _ _ _ (omega arith) c.pass_starts-on.ensures.passed t)

pub overflow_add-result-in-Full : goal.overflow_add-result-in-Full
unfolding subject_limit
overflow_add-result-in-Full c = let l = c.loop-n in
    let r = c.list_start in
    let e = c.start-m.ensures l.regs (take (8 * c.args.budget) l.work) in
    let y = c.requires.stands in
    omega (arith, l.invariant.small, l.invariant.cheap, l.invariant.inside, l.invariant.short, (turn-full l.invariant e r.ensures _ _ c.in-Full.is y.0 y.1).1)

pub shape_of-regs-in-Full : goal.shape_of-regs-in-Full
shape_of-regs-in-Full c = c.list_start.auto.regs ∙ ap (λ (l : List ℕ). length l) c.loop-n.invariant.same

pub shape_of-work-in-Full : goal.shape_of-work-in-Full
shape_of-work-in-Full c = c.list_start.auto.work ∙ c.loop-n.invariant.wide

pub shape_of-results-in-Full : goal.shape_of-results-in-Full
shape_of-results-in-Full c = c.list_start.auto.results ∙ c.loop-n.invariant.long

pub returns-in-Full : goal.returns-in-Full
returns-in-Full c = let l = c.loop-n in
    let r = c.list_start in
    let e = c.start-m.ensures l.regs (take (8 * c.args.budget) l.work) in
    λ x h. (turn-full l.invariant e r.ensures _ _ c.in-Full.is x h).0

pub overflow_add-result-in-Spent : goal.overflow_add-result-in-Spent
unfolding subject_limit
overflow_add-result-in-Spent c = let l = c.loop-n in omega (arith, l.invariant.small, l.invariant.cheap, l.invariant.inside, l.invariant.short)

pub shape_of-regs-in-Spent : goal.shape_of-regs-in-Spent
shape_of-regs-in-Spent c = c.list_start.auto.regs ∙ ap (λ (l : List ℕ). length l) c.loop-n.invariant.same

pub shape_of-work-in-Spent : goal.shape_of-work-in-Spent
shape_of-work-in-Spent c = c.list_start.auto.work ∙ c.loop-n.invariant.wide

pub shape_of-results-in-Spent : goal.shape_of-results-in-Spent
shape_of-results-in-Spent c = c.list_start.auto.results ∙ c.loop-n.invariant.long

pub returns-in-Spent : goal.returns-in-Spent
returns-in-Spent c = let l = c.loop-n in
    let r = c.list_start in
    let e = c.start-m.ensures l.regs (take (8 * c.args.budget) l.work) in
    turn-spent l.invariant e r.ensures _ c.in-Spent.is
