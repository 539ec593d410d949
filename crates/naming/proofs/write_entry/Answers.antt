-- The loop's invariant: the first i bytes of the entry are pasted in, and all else is as it was.
use mathlib.Core.Path.{◌≡◌, refl, ◌∙◌}
use Prim.Native.Nat.{◌+◌}
use native.Mathlib.Omega.{arith}
use native.Mathlib.Numerals.{add-one}
use lib.ListN.{length-set}
use lib.Seq.{slice, paste-zero}
use Rattle.syntax.specs.Limits.{name_limit, name_entry}
use Rattle.semantics.specs.NameIndex.{entry}
use Rattle.naming.specs.Laws.Entries.{byte-pasted, entry-pasted}
use Rattle.naming.proofs.write_entry.Goals as goal

pub loop-i-init : goal.loop-i-init
loop-i-init c = let a = c.args in
    (omega arith, refl, paste-zero a.names.now a.base (entry (slice a.from (a.from + a.len) a.rule.now)))

pub entry_byte-requires : goal.entry_byte-requires
unfolding name_entry name_limit
entry_byte-requires c = (c.requires.0, c.requires.1, omega arith)

pub overflow_add-names : goal.overflow_add-names
unfolding name_entry name_limit
overflow_add-names c = omega arith

pub bounds-names-base : goal.bounds-names-base
unfolding name_entry name_limit
bounds-names-base c = omega arith

pub loop-i-smaller : goal.loop-i-smaller
unfolding name_entry name_limit
loop-i-smaller c = omega arith

pub loop-i-preserved : goal.loop-i-preserved
unfolding name_entry name_limit
loop-i-preserved c = let a = c.args in
    let l = c.loop-i in
    let n = slice a.from (a.from + a.len) a.rule.now in (
      omega arith,
      simp length-set l.invariant.1,
      rw (add-one l.i) (byte-pasted a.names.now a.base n l.i c.entry_byte.result l.names (omega arith) (omega arith) l.invariant.2 c.entry_byte.ensures),
    )

pub shape_of-names : goal.shape_of-names
shape_of-names c = c.loop-i.invariant.1

pub returns : goal.returns
unfolding name_entry name_limit
returns c = let a = c.args in
    let l = c.loop-i in
    let all : l.i ≡ name_entry = omega arith in
    l.invariant.2 ∙ rw all (entry-pasted a.names.now a.base (slice a.from (a.from + a.len) a.rule.now))
