-- `check_held` meets its contract: a proposal that names no start of the line is no reading in no step, and otherwise the answer is that of the path of its choices.
use mathlib.Core.Path.{refl, sym, subst}
use native.Mathlib.Omega.{arith}
use Rattle.syntax.specs.Limits.{unset, registers, height_limit, nesting_limit, spans_length, group_limit}
use Rattle.semantics.specs.Proposals.{Check}
use Rattle.machine.specs.Theorem.{clear-all}
use Rattle.checking.specs.Verdicts.{Reports}
use Rattle.checking.specs.Laws.Verdicts.{check-short, check-beyond, check-within}
use Rattle.checking.proofs.verdicts.check_held.Goals as goal

pub returns-then-all-lt2 : goal.returns-then-all-lt2
returns-then-all-lt2 c x stands = let a = c.args in (check-short a.subject.now x a.budget a.proposal.now (omega arith), refl)

pub returns-then-subject-start : goal.returns-then-subject-start
returns-then-subject-start c x stands = let a = c.args in (check-beyond a.subject.now x a.budget a.proposal.now (omega arith) (omega (arith, c.two_bytes-start.ensures.0)), refl)

pub check_from-requires : goal.check_from-requires
unfolding unset registers height_limit nesting_limit spans_length group_limit
check_from-requires c = let p = c.requires in
    (p.0, clear-all, p.1, omega arith, p.2)

pub returns : goal.returns
returns c x stands = let a = c.args in
    subst (λ (answer : Check). Reports a.results.now c.check_from.new.results c.check_from.result answer) (sym (check-within a.subject.now x a.budget a.proposal.now _ (omega arith) c.two_bytes-start.ensures.0 (omega arith))) (c.check_from.ensures x stands)
