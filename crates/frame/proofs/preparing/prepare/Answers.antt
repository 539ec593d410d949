-- `prepare` meets its contract: a call is refused by its sizes, or they are those that compiling asks for.
use mathlib.Core.Path.{refl}
use mathlib.Core.List.{List}
use Prim.Native.Nat.{ℕ}
use lib.ListN.{replicate, length-replicate}
use Rattle.frame.specs.Inputs.{call_of}
use Rattle.frame.specs.Preparing.{unread}
use Rattle.frame.specs.Laws.Calls.{sized, some-results, is-fit, is-unfit}
use Rattle.refusals.specs.Laws.{accepted}
use Rattle.frame.proofs.preparing.prepare.Goals as goal

pub compile_or_clear-requires : goal.compile_or_clear-requires
compile_or_clear-requires c = let a = c.args in
    let line : List ℕ = replicate a.subject 0 in
    let lent = some-results a.short in
    let need = lent.0 in
    let d = call_of a.rule.now a.flags line a.budget a.rule_area.now a.work_area.now lent.1 a.names.now in
    let f = c.unfit.ensures need d (sized need a.rule.now a.flags line a.budget a.rule_area.now a.work_area.now lent.1 a.names.now (length-replicate {A = ℕ} a.subject 0) lent.2) in
    let z = accepted need d (is-fit need d f _ c.in-Ok.is) in
    record { rule_fits = z.rule_fits; rule_area_fits = z.rule_area_fits; work_area_fits = z.work_area_fits; names_fit = z.names_fit }

pub returns-in-Err : goal.returns-in-Err
returns-in-Err c = λ need line results l s.
    (let a = c.args in
    let d = call_of a.rule.now a.flags line a.budget a.rule_area.now a.work_area.now results a.names.now in
    let f = c.unfit.ensures need d (sized need a.rule.now a.flags line a.budget a.rule_area.now a.work_area.now results a.names.now l s) in
    rw c.at.ensures (unread refl (is-unfit need d f _ c.in-Err.is) refl refl refl))

pub returns-in-Ok : goal.returns-in-Ok
returns-in-Ok c = λ need line results l s.
    (let a = c.args in
    let d = call_of a.rule.now a.flags line a.budget a.rule_area.now a.work_area.now results a.names.now in
    let f = c.unfit.ensures need d (sized need a.rule.now a.flags line a.budget a.rule_area.now a.work_area.now results a.names.now l s) in
    c.compile_or_clear.ensures need line results (is-fit need d f _ c.in-Ok.is))
