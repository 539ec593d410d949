-- Each return is one case of `better`.
use mathlib.Core.Path.{sym, ◌∙◌}
use native.Mathlib.Omega.{arith}
use Rattle.greatest.specs.Laws.Leading.{lead-nowhere, lead-greater, lead-not}
use Rattle.greatest.proofs.leading.further.Goals.{else-next-ne-NOWHERE-via-then-next-ne-NOWHERE+else-leads, else-next-ne-NOWHERE-via-else-next-ne-NOWHERE}
use Rattle.greatest.proofs.leading.further.Goals as goal

pub returns-then-leads : goal.returns-then-leads
returns-then-leads c = λ start. lead-greater start _ _ (omega (arith, c.if-next-ne-NOWHERE.true)) _ (sym (c.leads.ensures start) ∙ c.if-leads.true)

pub returns : goal.returns
returns c = λ start. elim c.else-next-ne-NOWHERE.branch [
  | else-next-ne-NOWHERE-via-then-next-ne-NOWHERE+else-leads w ↦ lead-not start _ _ (omega (arith, w.if-next-ne-NOWHERE.true)) _ (sym (w.leads.ensures start) ∙ w.if-leads.false)
  | else-next-ne-NOWHERE-via-else-next-ne-NOWHERE w ↦ lead-nowhere start _ _ _ w.if-next-ne-NOWHERE.false
]
