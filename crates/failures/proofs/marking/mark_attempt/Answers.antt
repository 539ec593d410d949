-- `mark_attempt` meets its contract: the walk from the attempt's start is plain, and it marks bytes that are all 0.
use mathlib.Core.Path.{◌∙◌, ap}
use native.Mathlib.Omega.{arith}
use Rattle.semantics.specs.Explanations.{marked, marks}
use Rattle.failures.specs.Accounts.{marking}
use Rattle.failures.specs.Laws.Accounts.{marking-all}
use Rattle.failures.specs.Laws.Walks.{plain-begins}
use Rattle.failures.proofs.marking.mark_attempt.Goals as goal

pub mark_start-requires : goal.mark_start-requires
mark_start-requires c = let b = c.shared_slice_known-2-1 in
    record {
      regs_len = (c.requires.sized.1.size, c.requires.sized.0.sub_small, c.requires.sized.0.code_small);
      by_index = (_, _, _, plain-begins _ _ (marking c.args.attempt.at) c.requires.stands.0 _ _ _ _ _ _ c.requires.stands.1 (λ i. omega (arith, c.type_inv.sub i)) c.requires.sized.1 (c.requires.fruitless c.requires.stands.0 c.requires.stands.1) c.requires.sized.2 c.requires.sized.0.work_fits c.requires.sized.0.budget_small);
    }

pub returns : goal.returns
unfolding marks
returns c = λ x st.
    (let b = c.shared_slice_known-2-1 in
    c.mark_start.ensures _ _ _ (plain-begins _ _ (marking c.args.attempt.at) x _ _ _ _ _ _ st (λ i. omega (arith, c.type_inv.sub i)) c.requires.sized.1 (c.requires.fruitless x st) c.requires.sized.2 c.requires.sized.0.work_fits c.requires.sized.0.budget_small) ∙ marking-all c.args.attempt.start c.args.attempt.at _ _ ∙ ap (marked _) (c.fill.ensures.after (λ y e. e)))
