-- `find_failures` meets its contract: the closest attempt is one of the failures, so that it has a start, and the registers are clear again.
use mathlib.Core.Path.{ap}
use native.Mathlib.Omega.{arith}
use Rattle.semantics.specs.Explanations.{Failure}
use Rattle.failures.specs.Laws.Walks.{closest-starts}
use Rattle.failures.proofs.marking.find_failures.Goals as goal

pub mark_attempt-requires : goal.mark_attempt-requires
mark_attempt-requires c = let w = c.walk_all-best in
    let tree = c.requires.stands in
    let is = ap (λ (f : Failure). f.start) (w.ensures.0 tree.0 tree.1).near in
    record {
      sized = (record { code_small = c.requires.sized.0.code_small; sub_small = c.requires.sized.0.sub_small; work_fits = omega (arith, w.auto.work, c.requires.sized.0.work_fits); budget_small = c.requires.sized.0.budget_small }, rw w.ensures.1 c.requires.sized.1, omega (arith, is, closest-starts c.args.sub.now tree.0));
      stands = tree;
      fruitless = c.requires.fruitless;
    }

pub returns : goal.returns
returns c = λ x st. (c.walk_all-best.ensures.0 x st, c.mark_attempt.ensures x st)
