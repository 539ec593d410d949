-- `make_marked` meets its contract: a `(?!` is entered with the note, and a note makes no difference to the others.
use mathlib.Core.Path.{sym, ◌∙◌}
use native.Mathlib.Omega.{arith}
use Rattle.machine.specs.Laws.Code.{fits-at}
use Rattle.plain.specs.Telling.{leads-plain, leads-forbid}
use Rattle.plain.proofs.make_marked.Goals as goal

pub forbid-requires : goal.forbid-requires
forbid-requires c = let f = fits-at c.args.code.now c.args.m.pc 16 (sym c.requires.kind_value.0 ∙ c.if-kind-eq-FORBID.true) c.requires.fits in
    omega (arith, f.0, f.1, c.requires.kind_value)

pub returns-then-kind-eq-FORBID : goal.returns-then-kind-eq-FORBID
returns-then-kind-eq-FORBID c = c.forbid.ensures ∙ sym (leads-forbid c.args.code.now c.args.sub.now c.args.note _ (sym c.requires.kind_value.0 ∙ c.if-kind-eq-FORBID.true))

pub returns : goal.returns
returns c = c.take_marked.ensures c.args.sub.now ∙ sym (leads-plain c.args.code.now c.args.sub.now c.args.note _ (λ k. c.if-kind-eq-FORBID.false (c.requires.kind_value.0 ∙ k)))
