-- `escape_at` meets its contract, by the byte behind the backslash.
use mathlib.Core.Logic.{inl, inr, ⊎_elim}
use Rattle.std.proofs.lemmas.Bool.{ltb-false, ltb-true}
use mathlib.Core.Path.{refl, sym, ◌∙◌}
use Rattle.lexemes.proofs.Bytes.{byte-read}
use Rattle.syntax.specs.Laws.Fuel.{byte_past}
use native.Mathlib.Omega.{arith}
use Rattle.syntax.specs.Sets.{not_newline}
use Rattle.syntax.specs.Read.{read_of}
use Rattle.lexer.proofs.ItemCases.{same_item, escape-newline, escape-text-start, escape-text-end, escape-last-line-end, escape-boundary, escape-no-boundary, escape-octal, escape-called, escape-number, escape_end, escape-common}
use Rattle.lexer.proofs.items.escape_at.Goals as goal

pub returns-in_default : goal.returns-in_default
returns-in_default c = λ known. same_item _ _ known _ c.common_item.result (escape_end _ _ known _ _ _ (sym (byte_past _ _ (ltb-false _ _ (sym c.in_default.ensures.lookup.0)))) refl _ refl) (c.common_item.ensures _ known)

pub group_at-requires : goal.group_at-requires
group_at-requires c = (c.requires.0, omega (arith, ltb-true _ _ (sym c.in-Some.ensures.lookup.0)), sym (byte-read _ _ _ c.in-Some.ensures.lookup.0 c.in-Some.ensures.lookup.1) ∙ c.in-103.is)

pub returns-in-78 : goal.returns-in-78
returns-in-78 c = λ known. same_item _ _ known _ c.byte_item.result (sym (escape-newline _ _ known _ _ _ (byte-read _ _ _ c.in-Some.ensures.lookup.0 c.in-Some.ensures.lookup.1) c.in-78.is)) (c.byte_item.ensures _ _ known not_newline (c.not_newline.ensures _))

pub returns-in-65 : goal.returns-in-65
returns-in-65 c = λ known. same_item _ _ known _ c.assertion.result (escape-text-start _ _ known _ _ _ (byte-read _ _ _ c.in-Some.ensures.lookup.0 c.in-Some.ensures.lookup.1) c.in-65.is) (c.assertion.ensures _ _ known _)

pub returns-in-122 : goal.returns-in-122
returns-in-122 c = λ known. same_item _ _ known _ c.assertion-in-122.result (escape-text-end _ _ known _ _ _ (byte-read _ _ _ c.in-Some.ensures.lookup.0 c.in-Some.ensures.lookup.1) c.in-122.is) (c.assertion-in-122.ensures _ _ known _)

pub returns-in-90 : goal.returns-in-90
returns-in-90 c = λ known. same_item _ _ known _ c.assertion-in-90.result (escape-last-line-end _ _ known _ _ _ (byte-read _ _ _ c.in-Some.ensures.lookup.0 c.in-Some.ensures.lookup.1) c.in-90.is) (c.assertion-in-90.ensures _ _ known _)

pub returns-in-98 : goal.returns-in-98
returns-in-98 c = λ known. same_item _ _ known _ c.assertion-in-98.result (escape-boundary _ _ known _ _ _ (byte-read _ _ _ c.in-Some.ensures.lookup.0 c.in-Some.ensures.lookup.1) c.in-98.is) (c.assertion-in-98.ensures _ _ known _)

pub returns-in-66 : goal.returns-in-66
returns-in-66 c = λ known. same_item _ _ known _ c.assertion-in-66.result (escape-no-boundary _ _ known _ _ _ (byte-read _ _ _ c.in-Some.ensures.lookup.0 c.in-Some.ensures.lookup.1) c.in-66.is) (c.assertion-in-66.ensures _ _ known _)

pub returns-in-48 : goal.returns-in-48
returns-in-48 c = λ known. same_item _ _ known _ c.octal_item.result (escape-octal _ _ known _ _ _ (byte-read _ _ _ c.in-Some.ensures.lookup.0 c.in-Some.ensures.lookup.1) c.in-48.is _ refl) (c.octal_item.ensures _ known)

pub returns-in-107 : goal.returns-in-107
returns-in-107 c = λ known. same_item _ _ known _ c.called_item.result (escape-called _ _ known _ _ _ (byte-read _ _ _ c.in-Some.ensures.lookup.0 c.in-Some.ensures.lookup.1) c.in-107.is) (c.called_item.ensures _ _ known _ _ c.called_at.ensures)

pub returns-in-103 : goal.returns-in-103
returns-in-103 c = λ known. c.group_at.ensures _ known _

pub returns-in-49-to-57 : goal.returns-in-49-to-57
returns-in-49-to-57 c = λ known. same_item _ _ known _ c.group_item.result (escape-number _ _ known _ _ _ (byte-read _ _ _ c.in-Some.ensures.lookup.0 c.in-Some.ensures.lookup.1) (omega arith) (λ e. omega arith) (omega arith) (read_of (λ n. n) c.forward_at.result) c.forward_at.ensures) (c.group_item.ensures _ _ known _)

pub returns-in_default-b : goal.returns-in_default-b
returns-in_default-b c = λ known. let n = c.in_default-1.rest in
    same_item _ _ known _ c.common_item-in_default-b.result (escape-common _ _ known _ _ _ (byte-read _ _ _ c.in-Some.ensures.lookup.0 c.in-Some.ensures.lookup.1) n.0.0.0.0.0.0.0.0.1 n.0.0.0.0.0.0.0.1 n.0.0.0.0.0.0.1 n.0.0.0.0.0.1 n.0.0.0.0.1 n.0.0.0.1 n.0.0.1 n.0.1 n.1 (⊎_elim (λ w. inl (omega arith)) (λ w. inr (omega arith)) c.in_default-b.branch-raw) _ refl) (c.common_item-in_default-b.ensures _ known)
