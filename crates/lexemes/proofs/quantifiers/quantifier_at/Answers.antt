-- `quantifier_at` meets its contract: the byte that it tests settles the case of the definition.
use mathlib.Core.Path.{◌∙◌}
use Rattle.lexemes.proofs.Repeats.{quantifier-star, quantifier-plus, quantifier-option, quantifier-brace, quantifier-none}
use Rattle.lexemes.proofs.quantifiers.quantifier_at.Goals as goal

pub returns-then-b-eq42 : goal.returns-then-b-eq42
returns-then-b-eq42 c = c.with_greed.ensures ∙ quantifier-star _ _ _ c.peek-b.ensures.is c.if-b-eq42.true

pub returns-then-b-eq43 : goal.returns-then-b-eq43
returns-then-b-eq43 c = c.with_greed-then-b-eq43.ensures ∙ quantifier-plus _ _ _ c.peek-b.ensures.is c.if-b-eq43.true

pub returns-then-b-eq63 : goal.returns-then-b-eq63
returns-then-b-eq63 c = c.with_greed-then-b-eq63.ensures ∙ quantifier-option _ _ _ c.peek-b.ensures.is c.if-b-eq63.true

pub returns-then-b-eq123 : goal.returns-then-b-eq123
returns-then-b-eq123 c = c.braces_at.ensures ∙ quantifier-brace _ _ _ c.peek-b.ensures.is c.if-b-eq123.true

pub returns : goal.returns
returns c = quantifier-none _ _ _ c.peek-b.ensures.is c.if-b-eq42.false c.if-b-eq43.false c.if-b-eq63.false c.if-b-eq123.false
