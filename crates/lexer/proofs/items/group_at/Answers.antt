-- `group_at` meets its contract, by whether a name follows the brace.
use mathlib.Core.Path.{refl, sym, ◌∙◌}
use Rattle.syntax.specs.Read.{read_of}
use Rattle.lexemes.proofs.CalledCases.{calls-in}
use Rattle.lexer.proofs.ItemCases.{same_item, escape-by-name, escape-by-number}
use Rattle.lexer.proofs.items.group_at.Goals as goal

pub name_at-requires : goal.name_at-requires
name_at-requires c = calls-in _ _ (sym c.calls_by_name.ensures ∙ c.if-calls_by_name.true)

pub returns-then-calls_by_name : goal.returns-then-calls_by_name
returns-then-calls_by_name c = λ folded known words. same_item _ folded known words c.called_item.result (escape-by-name _ folded known _ _ 103 (sym c.requires.2) refl (sym c.calls_by_name.ensures ∙ c.if-calls_by_name.true)) (c.called_item.ensures _ folded known words _ (c.name_at.ensures "}" refl))

pub returns : goal.returns
returns c = λ folded known words. same_item _ folded known words c.group_item.result (escape-by-number _ folded known _ _ 103 (sym c.requires.2) refl (sym c.calls_by_name.ensures ∙ c.if-calls_by_name.false) (read_of (λ n. n) c.group_number_at.result) c.group_number_at.ensures) (c.group_item.ensures _ folded known words)
