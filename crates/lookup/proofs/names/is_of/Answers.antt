-- By cases on the tests, in the order of the definition; the name's bytes are compared by `same`.
use Prim.Native.Nat.{◌+◌, ◌-◌, ◌≤◌, ◌<◌}
use lib.ListN.{get_or}
use native.Mathlib.Omega.{arith}
use borrow.Author.Tests.{eq-eqb, ne_eqb, le-leb, lt-leb}
use Rattle.syntax.specs.Limits.{name_limit, name_entry}
use Rattle.lookup.specs.Names.{is_whole, name_length, is_of}
use Rattle.lookup.specs.Laws.Names.{same-told, name-told}
use Rattle.lookup.proofs.names.is_of.Goals as goal

pub returns-then-bytes-ne-NAME_ENTRY : goal.returns-then-bytes-ne-NAME_ENTRY
unfolding is_of is_whole name_entry name_limit
returns-then-bytes-ne-NAME_ENTRY c = rw (ne_eqb _ name_entry c.if-bytes-ne-NAME_ENTRY.true)

pub overflow_cast-size : goal.overflow_cast-size
overflow_cast-size c = omega (arith, c.type_inv.bytes 0)

pub returns-then-size-eq0 : goal.returns-then-size-eq0
unfolding is_of is_whole name_entry name_limit name_length
returns-then-size-eq0 c = let h : get_or c.args.bytes.now 0 0 < 1 = omega arith in
    rw (eq-eqb _ name_entry c.if-bytes-ne-NAME_ENTRY.false, lt-leb 1 _ h)

pub returns-then-size-gt-NAME_LIMIT : goal.returns-then-size-gt-NAME_LIMIT
unfolding is_of is_whole name_entry name_limit name_length
returns-then-size-gt-NAME_LIMIT c = let h : 1 ≤ get_or c.args.bytes.now 0 0 = omega arith in
    rw (eq-eqb _ name_entry c.if-bytes-ne-NAME_ENTRY.false, le-leb 1 _ h, lt-leb _ name_limit c.if-size-gt-NAME_LIMIT.true)

pub returns : goal.returns
unfolding is_of is_whole name_entry name_limit name_length
returns c = let entry = c.args.bytes.now in
    let h : 1 ≤ get_or entry 0 0 = omega arith in
    rw (eq-eqb _ name_entry c.if-bytes-ne-NAME_ENTRY.false, le-leb 1 _ h, le-leb _ name_limit c.if-size-gt-NAME_LIMIT.false)
    (name-told c.args.name.now entry (get_or entry 0 0 + 1 - 1) _ (omega arith) (same-told _ _ _ c.same.ensures.0 c.same.ensures.1))
