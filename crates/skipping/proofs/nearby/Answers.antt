-- `nearby` meets its contract: each byte that is looked at in vain is one more that is not in the set.
use Prim.Native.Nat.{◌+◌}
use native.Mathlib.Omega.{arith}
use Rattle.skipping.proofs.Passing.{misses-none, misses-next}
use Rattle.skipping.proofs.nearby.Goals as goal

pub returns-then-contains : goal.returns-then-contains
returns-then-contains c = (omega arith, misses-none c.args.set.now c.args.subject.now c.args.at (c.args.at + 0) (omega arith))

pub returns-then-contains-2 : goal.returns-then-contains-2
returns-then-contains-2 c = let look = misses-next c.args.set.now c.args.subject.now c.args.at in
    let m₁ = look c.args.at (c.args.at + 1) c.contains.result (misses-none c.args.set.now c.args.subject.now c.args.at c.args.at (omega arith)) (omega arith) c.contains.ensures c.if-contains.false (omega arith) in
    (omega arith, m₁)

pub returns-then-contains-3 : goal.returns-then-contains-3
returns-then-contains-3 c = let look = misses-next c.args.set.now c.args.subject.now c.args.at in
    let m₁ = look c.args.at (c.args.at + 1) c.contains.result (misses-none c.args.set.now c.args.subject.now c.args.at c.args.at (omega arith)) (omega arith) c.contains.ensures c.if-contains.false (omega arith) in
    let m₂ = look (c.args.at + 1) (c.args.at + 2) c.contains-2.result m₁ (omega arith) c.contains-2.ensures c.if-contains-2.false (omega arith) in
    (omega arith, m₂)

pub returns-then-contains-4 : goal.returns-then-contains-4
returns-then-contains-4 c = let look = misses-next c.args.set.now c.args.subject.now c.args.at in
    let m₁ = look c.args.at (c.args.at + 1) c.contains.result (misses-none c.args.set.now c.args.subject.now c.args.at c.args.at (omega arith)) (omega arith) c.contains.ensures c.if-contains.false (omega arith) in
    let m₂ = look (c.args.at + 1) (c.args.at + 2) c.contains-2.result m₁ (omega arith) c.contains-2.ensures c.if-contains-2.false (omega arith) in
    let m₃ = look (c.args.at + 2) (c.args.at + 3) c.contains-3.result m₂ (omega arith) c.contains-3.ensures c.if-contains-3.false (omega arith) in
    (omega arith, m₃)

pub returns : goal.returns
returns c = let look = misses-next c.args.set.now c.args.subject.now c.args.at in
    let m₁ = look c.args.at (c.args.at + 1) c.contains.result (misses-none c.args.set.now c.args.subject.now c.args.at c.args.at (omega arith)) (omega arith) c.contains.ensures c.if-contains.false (omega arith) in
    let m₂ = look (c.args.at + 1) (c.args.at + 2) c.contains-2.result m₁ (omega arith) c.contains-2.ensures c.if-contains-2.false (omega arith) in
    let m₃ = look (c.args.at + 2) (c.args.at + 3) c.contains-3.result m₂ (omega arith) c.contains-3.ensures c.if-contains-3.false (omega arith) in
    let m₄ = look (c.args.at + 3) (c.args.at + 4) c.contains-4.result m₃ (omega arith) c.contains-4.ensures c.if-contains-4.false (omega arith) in
    (omega arith, m₄)
