-- Each of the three ways gives a byte of the entry: its length, a byte of the name, or a zero behind it.
use Prim.Native.Nat.{◌+◌, ◌-◌, ◌≤◌}
use native.Mathlib.Omega.{arith}
use lib.ListN.{length}
use Rattle.syntax.specs.Limits.{name_limit}
use Rattle.naming.specs.Laws.Entries.{byte-length, byte-name, byte-padding}
use Rattle.naming.proofs.entry_byte.Goals as goal

pub overflow_cast-result : goal.overflow_cast-result
unfolding name_limit
overflow_cast-result c = omega arith

pub returns-then-i-eq0 : goal.returns-then-i-eq0
returns-then-i-eq0 c = let a = c.args in
    byte-length a.rule.now a.from a.len a.i c.requires.1 (omega arith)

pub overflow_add-result : goal.overflow_add-result
overflow_add-result c = let a = c.args in
    let h : a.from + a.len ≤ length a.rule.now = c.requires.1 (omega arith) in
    omega arith

pub bounds-rule-from : goal.bounds-rule-from
bounds-rule-from c = let a = c.args in
    let h : a.from + a.len ≤ length a.rule.now = c.requires.1 (omega arith) in
    omega arith

pub returns-then-k-len : goal.returns-then-k-len
returns-then-k-len c = let a = c.args in
    byte-name a.rule.now a.from a.len a.i c.requires.1 (a.i - 1) (omega arith) (omega arith) (omega arith)

pub returns : goal.returns
returns c = let a = c.args in
    byte-padding a.rule.now a.from a.len a.i c.requires.1 (a.i - 1) (omega arith) (omega arith) (omega arith)
