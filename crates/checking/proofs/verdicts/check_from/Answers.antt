-- `check_from` meets its contract: the path of the choices is trodden from clear registers, so that what following it tells is what `within` says of that path, with
-- a reading's row written.
use native.Mathlib.Omega.{arith}
use Rattle.syntax.specs.Limits.{registers, spans_length, subject_limit}
use Rattle.semantics.specs.Proposals.{path_of}
use Rattle.following.specs.Laws.Follows.{treads-path}
use Rattle.checking.specs.Laws.Verdicts.{arrived-reports, missed-reports, spent-reports}
use Rattle.checking.proofs.verdicts.check_from.Goals as goal

pub follow_path-requires : goal.follow_path-requires
unfolding subject_limit
follow_path-requires c = let a = c.args in
    let p = c.requires in
    ((path_of a.subject.now p.0.0 a.start a.choices.now, treads-path a.code.now a.subject.now p.0.0 a.entry a.start a.regs.now a.choices.now p.0.1 (λ i. omega (arith, c.type_inv.subject i)) p.1 p.3), omega (arith, p.2))

pub write_row-requires : goal.write_row-requires
unfolding spans_length registers
write_row-requires c = (omega (arith, c.requires.4), omega (arith, c.regs-1.given, c.requires.1.size))

pub returns-in-Arrived : goal.returns-in-Arrived
unfolding spans_length registers
returns-in-Arrived c x stands = let a = c.args in
    let p = c.requires in
    arrived-reports a.budget _ c.follow_path.ensures (λ i. omega (arith, c.type_inv.subject i)) p.1 p.3 x stands _ _ c.in-Arrived.is a.results.now c.write_row.ensures (omega (arith, c.regs-1.given, p.1.size))

pub returns-in-Missed : goal.returns-in-Missed
returns-in-Missed c x stands = let a = c.args in
    let p = c.requires in
    missed-reports a.budget _ c.follow_path.ensures (λ i. omega (arith, c.type_inv.subject i)) p.1 p.3 x stands _ c.in-Missed.is a.results.now

pub returns-in-Spent : goal.returns-in-Spent
returns-in-Spent c x stands = let a = c.args in
    let p = c.requires in
    spent-reports a.budget _ c.follow_path.ensures (λ i. omega (arith, c.type_inv.subject i)) p.1 p.3 x stands c.in-Spent.is a.results.now
