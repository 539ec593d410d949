-- The row is that of the reading that the check tells, and the one that was asked for.
use mathlib.Core.Path.{refl, sym, ◌∙◌}
use Rattle.std.specs.Cmp.Lexicographic.{same_text}
use native.Mathlib.Omega.{arith}
use Rattle.syntax.specs.Limits.{group_limit, spans_length, row_length}
use Rattle.semantics.specs.Proposals.{check}
use Rattle.proposing.proofs.Accepting.{reading-accepted}
use Rattle.proposing.proofs.proposals.accept.Goals as goal

pub check_held-requires : goal.check_held-requires
unfolding group_limit spans_length row_length
check_held-requires c = let p = c.requires in (p.0, p.1, omega arith)

pub returns-then-eq : goal.returns-then-eq
unfolding group_limit spans_length row_length
returns-then-eq c = let a = c.args in
    let same = sym c.as_slice.ensures ∙ same_text _ _ (sym c.if-eq.true ∙ c.eq.ensures) in
    (refl, λ x stands. reading-accepted _ _ a.wanted.now (check a.subject.now x a.budget a.proposal.now) c.check_held.result _ c.in-Reading.is (c.check_held.ensures x stands) (omega arith) same)
