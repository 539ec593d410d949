-- `compile_or_clear` meets its contract: what compiling tells is what the definition reads. A sound rule stands in the needed part of its area, and
-- where the rule is refused both areas are cleared as if nothing had been written.
use mathlib.Core.Path.{refl, sym, ap, subst, ◌∙◌}
use native.Mathlib.Omega.{arith}
use Rattle.syntax.specs.Limits.{rule_area_need, group_limit, spans_length, work_per_step}
use Rattle.syntax.specs.Names.{Names}
use Rattle.syntax.specs.Laws.Names.{Short, names_of-short}
use Rattle.reader.specs.Areas.{table_start}
use Rattle.semantics.specs.NameIndex.{name_index}
use Rattle.semantics.specs.Calls.{work_area_need, over}
use Rattle.frame.specs.Laws.Areas.{cleared-alike}
use Rattle.frame.specs.Laws.Compiled.{compile-failed, compile-sound, compile-named}
use Rattle.frame.specs.Laws.Preparing.{failed-denied}
use Rattle.frame.proofs.preparing.compile_or_clear.Goals as goal

pub compile-requires : goal.compile-requires
compile-requires c = (c.requires.rule_fits, c.requires.rule_area_fits)

pub slice_bounds-fill-end : goal.slice_bounds-fill-end
unfolding rule_area_need
slice_bounds-fill-end c = omega (arith, c.compile.ensures.long, c.requires.rule_area_fits)

pub fill-requires : goal.fill-requires
unfolding table_start rule_area_need spans_length group_limit
fill-requires c = let m = c.compile.ensures in
    let z = compile-named m _ c.in-Ok.is (omega (arith, m.long, c.requires.rule_area_fits)) in
    (z.0, subst Short (sym z.1) (names_of-short _ _), z.2, c.requires.names_fit)

pub finish-requires : goal.finish-requires
unfolding work_area_need work_per_step
finish-requires c = (omega (arith, c.compile.ensures.long, c.requires.rule_area_fits), omega (arith, c.requires.work_area_fits))

pub returns-in-Ok : goal.returns-in-Ok
unfolding table_start rule_area_need spans_length group_limit
returns-in-Ok c = λ need line results e.
    (let m = c.compile.ensures in
    let z = compile-sound m _ c.in-Ok.is (omega (arith, m.long, c.requires.rule_area_fits)) in
    let w = compile-named m _ c.in-Ok.is (omega (arith, m.long, c.requires.rule_area_fits)) in
    record { accepted = e; tree = z.0; stop = z.1; reads = z.2; stands = z.3; long = m.long; rest = m.rest; untouched = refl; filled = c.fill.ensures ∙ ap (λ (ns : Names). over (name_index ns) c.args.names.now) w.1; followed = z.4 })

pub returns-in-Err : goal.returns-in-Err
returns-in-Err c = λ need line results e.
    (let m = c.compile.ensures in
    failed-denied _ (compile-failed m _ c.in-Err.is) e (c.finish.ensures.rule_area_after ∙ cleared-alike rule_area_need _ _ m.rest) c.finish.ensures.work_area_after refl)
