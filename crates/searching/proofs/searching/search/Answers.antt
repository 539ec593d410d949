-- `search_from` meets its contract: the first try answers it, or the starts behind it do, of which those that cannot begin are passed over.
use Prim.Native.Nat.{◌+◌}
use native.Mathlib.Omega.{arith}
use Rattle.syntax.specs.Limits.{subject_limit}
use Rattle.semantics.specs.Calls.{work_area_need}
use Rattle.semantics.specs.Scans.{search_from as searched}
use Rattle.frame.specs.Laws.Parts.{between-all}
use Rattle.seeking.specs.Laws.Starts.{seeks-behind, Lent, seeks-from, near-from}
use Rattle.searching.proofs.searching.search.Goals as goal

pub try_first-requires : goal.try_first-requires
try_first-requires c = let p = c.requires in (p.held.0, p.held.1, p.from_in_bounds)

pub overflow_add-from : goal.overflow_add-from
unfolding subject_limit
overflow_add-from c = omega (arith, c.requires.held.0.subject_fits, c.requires.from_in_bounds)

pub next_start-on-requires : goal.next_start-on-requires
unfolding subject_limit
next_start-on-requires c = (omega (arith, c.requires.from_in_bounds), c.requires.held.0.subject_fits, omega arith)

pub seek-requires : goal.seek-requires
unfolding work_area_need
seek-requires c = let a = c.args in
    let h = c.requires.held.0 in
    let g : Lent a.code.now a.subject.now a.regs.now a.work.now a.entry a.budget (record { cost = a.cost; any = a.any; set = a.set.now }) = record { held = c.requires.held.0; clear = c.requires.held.1; opens = c.requires.held.2; bytes = λ i. omega (arith, c.type_inv.subject i); budget_small = omega arith; cost_small = omega arith } in
    let t = c.try_first in
    let w = rw c.in-Nothing.is at (t.ensures h.tree h.stands) in
    let n = near-from g (a.from + 1) _ c.in-Nothing.used c.next_start-on.ensures.passed (record { few = omega (arith, c.requires.from_in_bounds); small = omega (arith, w.0) }) in
    rw (between-all a.subject.now)
    (record {
      from_le_to = (omega arith, omega arith, rw c.next_start-on.ensures.steps_value n);
      held = (record { tree = h.tree; stands = h.stands; code_size = h.code_size; subject_fits = h.subject_fits; work_fits = omega (arith, h.work_fits, t.auto.work); budget_fits = h.budget_fits }, rw w.1 g.clear, g.opens);
    })

pub returns-in-End : goal.returns-in-End
returns-in-End c = λ x st. (rw c.in-End.is at (c.try_first.ensures x st)).1

pub returns-in-Nothing : goal.returns-in-Nothing
returns-in-Nothing c = let a = c.args in
    let g : Lent a.code.now a.subject.now a.regs.now a.work.now a.entry a.budget (record { cost = a.cost; any = a.any; set = a.set.now }) = record { held = c.requires.held.0; clear = c.requires.held.1; opens = c.requires.held.2; bytes = λ i. omega (arith, c.type_inv.subject i); budget_small = omega arith; cost_small = omega arith } in
    λ x st. (
    let w = rw c.in-Nothing.is at (c.try_first.ensures x st) in
    (rw (between-all a.subject.now) at c.seek.ensures.answers) x (searched a.subject.now x a.budget a.from a.barred) st (rw c.next_start-on.ensures.steps_value (seeks-from g _ _ _ c.next_start-on.ensures.passed st (omega arith) (seeks-behind a.subject.now x a.budget _ _ a.from _ c.requires.from_in_bounds w.2))))

pub returns-in-Spent : goal.returns-in-Spent
returns-in-Spent c = λ x st. rw c.in-Spent.is at (c.try_first.ensures x st)
