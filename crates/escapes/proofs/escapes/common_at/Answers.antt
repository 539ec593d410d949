-- `common_at` meets its contract: the rule's end, a byte that is no word byte, or the letter that follows.
use Rattle.std.proofs.lemmas.Bool.{ltb-false}
use mathlib.Core.Path.{◌∙◌, refl, sym}
use native.Mathlib.Omega.{arith}
use Rattle.lexemes.proofs.Bytes.{byte-read, read-in}
use Rattle.syntax.specs.Laws.Fuel.{byte_past}
use Rattle.escapes.proofs.EscapeCases.{common-end, common-itself, common-hex, common-octal, common-control, common-letter}
use Rattle.escapes.proofs.escapes.common_at.Goals as goal

pub returns-in_default : goal.returns-in_default
returns-in_default c = rw c.at.ensures (common-end _ _ _ (sym (byte_past _ _ (ltb-false _ _ (sym c.in_default.ensures.lookup.0)))) refl)

pub returns-then-not-in_named : goal.returns-then-not-in_named
returns-then-not-in_named c = c.single.ensures ∙ common-itself _ _ _ (byte-read _ _ _ c.in-Some.ensures.lookup.0 c.in-Some.ensures.lookup.1) (read-in _ (λ i. omega (arith, c.type_inv.rule i)) _ _ c.in-Some.ensures.lookup.0 c.in-Some.ensures.lookup.1) (sym c.in_named.ensures ∙ c.if-not-in_named.true)

pub returns-in-120 : goal.returns-in-120
returns-in-120 c = c.hex_at.ensures ∙ common-hex _ _ _ (byte-read _ _ _ c.in-Some.ensures.lookup.0 c.in-Some.ensures.lookup.1) (read-in _ (λ i. omega (arith, c.type_inv.rule i)) _ _ c.in-Some.ensures.lookup.0 c.in-Some.ensures.lookup.1) (sym c.in_named.ensures ∙ c.if-not-in_named.false) c.in-120.is

pub returns-in-111 : goal.returns-in-111
returns-in-111 c = c.braced_octal_at.ensures ∙ common-octal _ _ _ (byte-read _ _ _ c.in-Some.ensures.lookup.0 c.in-Some.ensures.lookup.1) (read-in _ (λ i. omega (arith, c.type_inv.rule i)) _ _ c.in-Some.ensures.lookup.0 c.in-Some.ensures.lookup.1) (sym c.in_named.ensures ∙ c.if-not-in_named.false) (λ e. omega (arith, c.in-111.is)) c.in-111.is

pub returns-in-99 : goal.returns-in-99
returns-in-99 c = c.control_at.ensures ∙ common-control _ _ _ (byte-read _ _ _ c.in-Some.ensures.lookup.0 c.in-Some.ensures.lookup.1) (read-in _ (λ i. omega (arith, c.type_inv.rule i)) _ _ c.in-Some.ensures.lookup.0 c.in-Some.ensures.lookup.1) (sym c.in_named.ensures ∙ c.if-not-in_named.false) (λ e. omega (arith, c.in-99.is)) (λ e. omega (arith, c.in-99.is)) c.in-99.is

pub returns-in_default-b : goal.returns-in_default-b
returns-in_default-b c = c.letter_at.ensures ∙ common-letter _ _ _ (byte-read _ _ _ c.in-Some.ensures.lookup.0 c.in-Some.ensures.lookup.1) (read-in _ (λ i. omega (arith, c.type_inv.rule i)) _ _ c.in-Some.ensures.lookup.0 c.in-Some.ensures.lookup.1) (sym c.in_named.ensures ∙ c.if-not-in_named.false) (λ e. omega (arith, c.in_default-b)) (λ e. omega (arith, c.in_default-b)) (λ e. omega (arith, c.in_default-b))
