-- The loop's invariant: what is asked of all entries is asked of those that are left.
use mathlib.Core.Path.{refl, sym, ◌∙◌}
use Prim.Native.Nat.{suc, ◌-◌, ◌*◌, ◌<◌}
use native.Mathlib.Omega.{arith}
use native.Mathlib.Numerals.{add-one}
use lib.ListN.{length}
use Rattle.syntax.specs.Limits.{group_limit, name_limit, name_entry}
use Rattle.lookup.specs.Names.{group_named}
use Rattle.lookup.specs.Laws.Names.{entry-told, named_here, named-on, named_none, named-all, at_none, at_some}
use Rattle.lookup.proofs.names.group_named.Goals as goal

pub loop-passed-init : goal.loop-passed-init
unfolding group_named group_limit
loop-passed-init c = (omega arith, refl)

pub returns-then-names-to : goal.returns-then-names-to
unfolding name_entry name_limit
returns-then-names-to c = let a = c.args in
    let short : length a.names.now < name_entry * suc c.loop-passed.passed = omega arith in
    at_none (sym (c.loop-passed.invariant.1 ∙ named_none a.name.now a.names.now (group_limit - c.loop-passed.passed) (suc c.loop-passed.passed) (omega arith) short))

pub returns-then-is_of : goal.returns-then-is_of
unfolding group_limit name_entry name_limit
returns-then-is_of c = let a = c.args in
    let known = entry-told a.name.now a.names.now c.loop-passed.passed _ c.is_of.ensures ∙ c.if-is_of.true in
    rw (add-one c.loop-passed.passed) (at_some (sym (c.loop-passed.invariant.1 ∙ named_here a.name.now a.names.now group_limit c.loop-passed.passed (omega arith) known)))

pub loop-passed-smaller : goal.loop-passed-smaller
unfolding group_limit
loop-passed-smaller c = omega arith

pub loop-passed-preserved : goal.loop-passed-preserved
unfolding group_limit name_entry name_limit
loop-passed-preserved c = let a = c.args in
    let known = entry-told a.name.now a.names.now c.loop-passed.passed _ c.is_of.ensures ∙ c.if-is_of.false in
    (omega arith, rw (add-one c.loop-passed.passed) (c.loop-passed.invariant.1 ∙ named-on a.name.now a.names.now group_limit c.loop-passed.passed (omega arith) known))

pub returns : goal.returns
unfolding group_limit
returns c = let a = c.args in
    at_none (sym (c.loop-passed.invariant.1 ∙ named-all a.name.now a.names.now group_limit c.loop-passed.passed (omega arith)))
