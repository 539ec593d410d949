-- `assertion_holds` meets its contract: each arm is the test of the assertion that has its number, and the last is that of all others.
use mathlib.Core.Path.{sym, ap, ◌∙◌}
use mathlib.Core.Bool.{not}
use Rattle.syntax.specs.declared.Assertion.{Assertion}
use Rattle.semantics.specs.Assertions.{holds}
use Rattle.machine.specs.Code.{assertion_of}
use Rattle.nodes.proofs.Tests.{text-start, text-end, no-boundary, numbered, assertion-rest}
use Rattle.nodes.proofs.assertions.assertion_holds.Goals as goal

pub returns-in-0 : goal.returns-in-0
unfolding assertion_of
returns-in-0 c = numbered c.args.sub.now _ _ 0 c.in-0.is (text-start c.args.sub.now _)

pub returns-in-1 : goal.returns-in-1
unfolding assertion_of
returns-in-1 c = numbered c.args.sub.now _ _ 1 c.in-1.is c.at_line_start.ensures

pub returns-in-2 : goal.returns-in-2
unfolding assertion_of
returns-in-2 c = numbered c.args.sub.now _ _ 2 c.in-2.is (text-end c.args.sub.now _)

pub returns-in-3 : goal.returns-in-3
unfolding assertion_of
returns-in-3 c = numbered c.args.sub.now _ _ 3 c.in-3.is c.at_last_line_end.ensures

pub returns-in-4 : goal.returns-in-4
unfolding assertion_of
returns-in-4 c = numbered c.args.sub.now _ _ 4 c.in-4.is c.at_line_end.ensures

pub returns-in-5 : goal.returns-in-5
unfolding assertion_of
returns-in-5 c = numbered c.args.sub.now _ _ 5 c.in-5.is c.at_word_boundary.ensures

pub returns-in_default : goal.returns-in_default
returns-in_default c = let n = c.in_default.in_default-own.rest in
    ap not c.at_word_boundary-in_default.ensures ∙ no-boundary c.args.sub.now _ ∙ ap (λ (z : Assertion). holds c.args.sub.now z c.args.at) (sym (assertion-rest _ n.0.0.0.0.0.1 n.0.0.0.0.1 n.0.0.0.1 n.0.0.1 n.0.1 n.1))
