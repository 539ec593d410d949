-- `name_at` meets its contract: no name, one that what follows does not close, or one that it does.
use mathlib.Core.Path.{◌∙◌, sym}
use native.Mathlib.Omega.{arith}
use Rattle.lexemes.proofs.CalledCases.{no_name, name-unclosed, name-closed}
use Rattle.lexemes.proofs.called.name_at.Goals as goal

pub returns-then-not-is_name : goal.returns-then-not-is_name
returns-then-not-is_name c = λ k e. rw c.at.ensures (sym (no_name _ _ _ k (sym c.is_name.ensures ∙ c.if-not-is_name.true)))

pub returns-then-peek-closer : goal.returns-then-peek-closer
returns-then-peek-closer c = λ k e.
    rw c.at-then-peek-closer.ensures (sym (name-unclosed _ _ _ k (sym c.is_name.ensures ∙ c.if-not-is_name.false) _ c.word_end-end.ensures.0 _ c.peek.ensures (λ h. c.if-peek-closer.true (h ∙ e))))

pub returns : goal.returns
returns c = λ k e. name-closed _ _ _ k (sym c.is_name.ensures ∙ c.if-not-is_name.false) _ c.word_end-end.ensures.0 _ c.peek.ensures (c.if-peek-closer.false ∙ sym e) (omega arith)
