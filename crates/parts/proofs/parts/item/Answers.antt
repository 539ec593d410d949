-- By what kind of item was read: one law for each return.
use native.Mathlib.Omega.{arith}
use Rattle.std.specs.Prelude.{Ok}
use Rattle.std.proofs.lemmas.Result.{err_from_is_err_and}
use Rattle.parts.proofs.Items.{beside, says-same, items-behind, item-bad, item-byte, item-assert, item-reference, named-within, item-named}
use Rattle.parts.proofs.parts.item.Goals as goal

pub overflow_cast-from : goal.overflow_cast-from
overflow_cast-from c = let a = c.args in
    let l = named-within a.rule.now _ _ a.flags a.so_far.node c.requires.0 c.requires.1 c.in_ok-next.ensures _ c.in-Called.is in
    omega (arith, l, c.requires.0.narrow)

pub overflow_cast-len : goal.overflow_cast-len
overflow_cast-len c = let a = c.args in
    let l = named-within a.rule.now _ _ a.flags a.so_far.node c.requires.0 c.requires.1 c.in_ok-next.ensures _ c.in-Called.is in
    omega (arith, l, c.requires.0.narrow)

pub returns-in_err-next : goal.returns-in_err-next
returns-in_err-next c = let a = c.args in
    let p = err_from_is_err_and c.from_residual.result c.from_residual.ensures.1 in
    let b = beside a.area.now _ a.so_far.cursor c.requires.0 c.requires.1 c.item_at.auto.words in
    rw (p.1, p.2) (item-bad a.rule.now a.area.now _ a.so_far.cursor a.flags a.so_far.node _ b.same c.in_err-next.ensures)

pub returns-in-Byte : goal.returns-in-Byte
returns-in-Byte c = let a = c.args in
    let b = beside a.area.now _ a.so_far.cursor c.requires.0 c.requires.1 c.item_at.auto.words in
    let says = λ (known : _). says-same _ _ known _ _ _ b.left _ (c.in_ok-next.ensures known) in
    items-behind a.rule.now a.so_far.cursor a.flags a.so_far.node (Ok c.step.result) b.same (rw c.step.ensures (item-byte a.rule.now _ _ a.flags a.so_far.node b.ready c.requires.1 says c.in-Byte.is c.put_byte_head.ensures))

pub returns-in-Assert : goal.returns-in-Assert
returns-in-Assert c = let a = c.args in
    let b = beside a.area.now _ a.so_far.cursor c.requires.0 c.requires.1 c.item_at.auto.words in
    items-behind a.rule.now a.so_far.cursor a.flags a.so_far.node (Ok c.step-in-Assert.result) b.same (rw c.step-in-Assert.ensures (item-assert a.rule.now _ _ a.flags a.so_far.node b.ready c.requires.1 c.in_ok-next.ensures _ c.in-Assert.is (rw c.from.ensures at c.put_four.ensures)))

pub returns-in-Reference : goal.returns-in-Reference
returns-in-Reference c = let a = c.args in
    let b = beside a.area.now _ a.so_far.cursor c.requires.0 c.requires.1 c.item_at.auto.words in
    items-behind a.rule.now a.so_far.cursor a.flags a.so_far.node (Ok c.step-in-Reference.result) b.same (rw c.step-in-Reference.ensures (item-reference a.rule.now _ _ a.flags a.so_far.node b.ready c.requires.1 c.in_ok-next.ensures _ c.in-Reference.is (rw c.folded_word.ensures at c.put_reference.ensures)))

pub returns-in-Called : goal.returns-in-Called
returns-in-Called c = let a = c.args in
    let b = beside a.area.now _ a.so_far.cursor c.requires.0 c.requires.1 c.item_at.auto.words in
    items-behind a.rule.now a.so_far.cursor a.flags a.so_far.node (Ok c.step-in-Called.result) b.same (rw c.step-in-Called.ensures (item-named a.rule.now _ _ a.flags a.so_far.node b.ready c.requires.1 c.in_ok-next.ensures _ c.in-Called.is (rw c.folded_word-in-Called.ensures at c.put_named.ensures)))
