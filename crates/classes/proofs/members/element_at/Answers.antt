-- `element_at` meets its contract, by the byte that stands there.
use Rattle.std.proofs.lemmas.Bool.{ltb-false}
use mathlib.Core.Path.{◌∙◌, refl, sym}
use native.Mathlib.Omega.{arith}
use Rattle.lexemes.proofs.Bytes.{byte-read, read-in}
use Rattle.syntax.specs.Laws.Fuel.{byte_past}
use Rattle.classes.proofs.MemberCases.{element-end, element-escape, element-bracket, element-byte}
use Rattle.classes.proofs.members.element_at.Goals as goal

pub returns-in_default : goal.returns-in_default
returns-in_default c = rw c.at.ensures (element-end _ _ _ _ (sym (byte_past _ _ (ltb-false _ _ (sym c.in_default.ensures.lookup.0)))) refl)

pub returns-in-92 : goal.returns-in-92
returns-in-92 c = c.class_escape_at.ensures ∙ element-escape _ _ _ _ (byte-read _ _ _ c.in-Some.ensures.lookup.0 c.in-Some.ensures.lookup.1) c.in-92.is

pub returns-in-91 : goal.returns-in-91
returns-in-91 c = c.posix_at.ensures ∙ element-bracket _ _ _ _ (byte-read _ _ _ c.in-Some.ensures.lookup.0 c.in-Some.ensures.lookup.1) c.in-91.is

pub returns-in_default-b : goal.returns-in_default-b
returns-in_default-b c = element-byte _ _ _ _ (byte-read _ _ _ c.in-Some.ensures.lookup.0 c.in-Some.ensures.lookup.1) (read-in _ (λ i. omega (arith, c.type_inv.rule i)) _ _ c.in-Some.ensures.lookup.0 c.in-Some.ensures.lookup.1) (λ e. omega (arith, c.in_default-b)) (λ e. omega (arith, c.in_default-b))
