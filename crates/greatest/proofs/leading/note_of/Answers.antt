-- Each return is one case of `note_of`.
use mathlib.Core.Path.{sym, ◌∙◌}
use native.Mathlib.Omega.{arith}
use Rattle.greatest.specs.Laws.Leading.{note-nowhere, note-greater, note-not}
use Rattle.greatest.proofs.leading.note_of.Goals.{else-at-ne-NOWHERE-via-then-at-ne-NOWHERE+else-leads, else-at-ne-NOWHERE-via-else-at-ne-NOWHERE}
use Rattle.greatest.proofs.leading.note_of.Goals as goal

pub returns-then-leads : goal.returns-then-leads
returns-then-leads c = λ start. note-greater start _ _ (omega (arith, c.if-at-ne-NOWHERE.true)) (sym (c.leads.ensures start) ∙ c.if-leads.true)

pub returns : goal.returns
returns c = λ start. elim c.else-at-ne-NOWHERE.branch [
  | else-at-ne-NOWHERE-via-then-at-ne-NOWHERE+else-leads w ↦ note-not start _ _ (omega (arith, w.if-at-ne-NOWHERE.true)) (sym (w.leads.ensures start) ∙ w.if-leads.false)
  | else-at-ne-NOWHERE-via-else-at-ne-NOWHERE w ↦ note-nowhere start _ _ w.if-at-ne-NOWHERE.false
]
