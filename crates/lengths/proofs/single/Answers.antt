-- `single` meets its contract, by the kind.
use Rattle.std.specs.Prelude.{Some}
use native.Mathlib.Omega.{arith}
use mathlib.Core.Path.{ap, ◌∙◌}
use mathlib.Core.Logic.{inl, inr, ⊎_elim}
use borrow.Author.Tests.{ne_eqb}
use Rattle.lengths.specs.Measures.{form_at}
use Rattle.lengths.proofs.single.Goals as goal

pub returns-in-0 : goal.returns-in-0
unfolding form_at
returns-in-0 c = let n = c.nothing.ensures in record { least = rw c.in-0.is; reference = n.reference ∙ rw c.in-0.is; idle = n.idle; form = n.form ∙ rw c.in-0.is; crowd = n.crowd }

pub returns-in-12 : goal.returns-in-12
unfolding form_at
returns-in-12 c = let n = c.nothing-in-12.ensures in record { least = rw c.in-12.is; reference = n.reference ∙ rw c.in-12.is; idle = n.idle; form = rw (c.in-12.is, c.word-place.ensures.0); crowd = n.crowd }

pub returns-in-11 : goal.returns-in-11
unfolding form_at
returns-in-11 c = let n = c.nothing-in-11.ensures in ⊎_elim (λ e. record { least = n.least ∙ rw e; reference = ap Some c.word-place.ensures.0 ∙ rw e; idle = n.idle; form = n.form ∙ rw e; crowd = n.crowd })
    (λ e. record { least = n.least ∙ rw e; reference = ap Some c.word-place.ensures.0 ∙ rw e; idle = n.idle; form = n.form ∙ rw e; crowd = n.crowd }) c.in-11.is

pub returns-in_default : goal.returns-in_default
unfolding form_at
returns-in_default c = let n = c.nothing-in_default.ensures in
    let d = c.in_default.in_default-own.rest in
    let e₀ = ne_eqb c.args.kind 0 (λ e. omega arith) in
    let e₁₂ = ne_eqb c.args.kind 12 (λ e. omega arith) in
    let e₁₁ = ne_eqb c.args.kind 11 (λ e. d.1 (inr e)) in
    let e₂ = ne_eqb c.args.kind 2 (λ e. d.1 (inl e)) in
    record { least = n.least ∙ rw (e₀, e₁₂); reference = n.reference ∙ rw (e₀, e₁₂, e₁₁, e₂); idle = n.idle; form = n.form ∙ rw e₁₂; crowd = n.crowd }
