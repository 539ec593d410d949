-- `calls_by_name` meets its contract: no brace, the rule's end, no word byte, or one that may be a digit.
use mathlib.Core.Path.{◌∙◌, sym}
use Rattle.lexemes.proofs.CalledCases.{calls-unbraced, calls-end, calls-nothing, calls-unless-digit}
use Rattle.lexemes.proofs.called.calls_by_name.Goals as goal

pub returns-then-peek-ne-OPENING_BRACE : goal.returns-then-peek-ne-OPENING_BRACE
returns-then-peek-ne-OPENING_BRACE c = calls-unbraced _ _ _ c.peek.ensures.is c.if-peek-ne-OPENING_BRACE.true

pub returns-then-b-eq-END : goal.returns-then-b-eq-END
returns-then-b-eq-END c = calls-end _ _ _ c.peek.ensures.is c.if-peek-ne-OPENING_BRACE.false _ c.peek-b.ensures.is c.if-b-eq-END.true

pub returns-then-not-in_named : goal.returns-then-not-in_named
returns-then-not-in_named c = calls-nothing _ _ _ c.peek.ensures.is c.if-peek-ne-OPENING_BRACE.false _ c.peek-b.ensures.is (sym c.in_named.ensures ∙ c.if-not-in_named.true)

pub returns : goal.returns
returns c = calls-unless-digit _ _ _ c.peek.ensures.is c.if-peek-ne-OPENING_BRACE.false _ c.peek-b.ensures.is (sym c.in_named.ensures ∙ c.if-not-in_named.false) _ c.in_named-2.ensures
