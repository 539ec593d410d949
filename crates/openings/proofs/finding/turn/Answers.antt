-- `turn` meets its contract: each arm is the law of what was seen of the topmost node.
use native.Mathlib.Omega.{arith}
use Rattle.openings.specs.Laws.Searching.{turned-leaf, turned-byte, turned_on, turned-both, turned-byte-on}
use Rattle.openings.proofs.finding.turn.Goals as goal

pub count-requires : goal.count-requires
count-requires c = let red = (rw c.in-Leaf.is at c.in_ok-seen.ensures) in (omega arith, omega (arith, red.few))

pub count-requires-in-Byte : goal.count-requires-in-Byte
count-requires-in-Byte c = let red = (rw c.in-Byte.is at c.in_ok-seen.ensures) in (omega arith, omega (arith, red.1.few))

pub widen-requires : goal.widen-requires
widen-requires c = (rw c.in-Byte.is at c.in_ok-seen.ensures).0

pub count-requires-in-On : goal.count-requires-in-On
count-requires-in-On c = let red = (rw c.in-On.is at c.in_ok-seen.ensures) in (omega arith, omega (arith, red.few))

pub push-requires : goal.push-requires
push-requires c = rw c.count-in-On.ensures (omega arith)

pub count-requires-in-Both : goal.count-requires-in-Both
count-requires-in-Both c = let red = (rw c.in-Both.is at c.in_ok-seen.ensures) in (omega arith, omega (arith, red.few))

pub push-requires-in-Both : goal.push-requires-in-Both
push-requires-in-Both c = rw c.count-in-Both.ensures (omega arith)

pub push-requires-in-Both-2 : goal.push-requires-in-Both-2
push-requires-in-Both-2 c = rw (c.push-in-Both.ensures, c.count-in-Both.ensures) (omega arith)

pub count-requires-in-ByteOn : goal.count-requires-in-ByteOn
count-requires-in-ByteOn c = let red = (rw c.in-ByteOn.is at c.in_ok-seen.ensures) in (omega arith, omega (arith, red.1.few))

pub widen-requires-in-ByteOn : goal.widen-requires-in-ByteOn
widen-requires-in-ByteOn c = (rw c.in-ByteOn.is at c.in_ok-seen.ensures).0

pub push-requires-in-ByteOn : goal.push-requires-in-ByteOn
push-requires-in-ByteOn c = rw (c.widen-in-ByteOn.ensures.height, c.count-in-ByteOn.ensures) (omega arith)

pub returns-in-Leaf : goal.returns-in-Leaf
returns-in-Leaf c = rw c.count.ensures (turned-leaf c.args.code.now c.args.search (omega arith) (omega arith) _ (rw c.in-Leaf.is at c.in_ok-seen.ensures))

pub returns-in-Byte : goal.returns-in-Byte
returns-in-Byte c = turned-byte c.args.code.now c.args.search (omega arith) (omega arith) _ _ _ (rw c.count-in-Byte.ensures at c.widen.ensures) (rw c.in-Byte.is at c.in_ok-seen.ensures).1

pub returns-in-On : goal.returns-in-On
returns-in-On c = rw (c.push.ensures, c.count-in-On.ensures) (turned_on c.args.code.now c.args.search (omega arith) (omega arith) _ _ (rw c.in-On.is at c.in_ok-seen.ensures))

pub returns-in-Both : goal.returns-in-Both
returns-in-Both c = rw (c.push-in-Both-2.ensures, c.push-in-Both.ensures, c.count-in-Both.ensures) (turned-both c.args.code.now c.args.search (omega arith) (omega arith) _ _ _ (rw c.in-Both.is at c.in_ok-seen.ensures))

pub returns-in-ByteOn : goal.returns-in-ByteOn
returns-in-ByteOn c = rw c.push-in-ByteOn.ensures (turned-byte-on c.args.code.now c.args.search (omega arith) (omega arith) _ _ _ _ (rw c.count-in-ByteOn.ensures at c.widen-in-ByteOn.ensures) (rw c.in-ByteOn.is at c.in_ok-seen.ensures).1)
