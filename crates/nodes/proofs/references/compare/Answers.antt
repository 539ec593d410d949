-- `compare` meets its contract. The loop's invariant: the bytes before `i` are the same, so that what is left decides. The measure is how many
-- bytes may still be compared.
use mathlib.Core.Path.{◌≡◌}
use native.Mathlib.Omega.{arith}
use Rattle.nodes.proofs.Comparing.{read_same, alike-none, alike-more, unlike-byte, too_many, unlike-end, unlike-past, all_same}
use Rattle.nodes.proofs.references.compare.Goals as goal

pub loop-i-init : goal.loop-i-init
loop-i-init c = (omega arith, omega (arith, c.min-stop.ensures), omega (arith, c.min-stop.ensures, c.requires), λ h. omega (arith, c.min-stop.ensures), alike-none _ _ _ _ _)

pub returns-then-sub-y : goal.returns-then-sub-y
returns-then-sub-y c = let l = c.loop-i.invariant in
    unlike-end _ c.args.sub.now _ _ _ c.args.left c.loop-i.i l.4 (omega (arith, c.loop-i-test.true, l.1)) c.if-sub-y.true (omega (arith, c.loop-i-test.true, l.2))

pub returns-then-not-same : goal.returns-then-not-same
returns-then-not-same c = let l = c.loop-i.invariant in
    unlike-byte _ c.args.sub.now _ _ _ c.args.left c.loop-i.i l.4 (omega (arith, c.loop-i-test.true, l.1)) c.if-sub-y.false (read_same _ _ _ _ _ _ _ _ c.byte_at-c.ensures c.byte_at-d.ensures c.same_byte-same.ensures c.if-not-same.true-raw) (omega (arith, c.loop-i-test.true, l.2))

pub loop-i-preserved : goal.loop-i-preserved
loop-i-preserved c = let l = c.loop-i.invariant in
    let t = c.loop-i-test.true in
    (omega arith, l.1, l.2, l.3, alike-more _ c.args.sub.now _ _ _ c.args.left c.loop-i.i l.4 (omega (arith, t, l.1)) c.if-sub-y.false (read_same _ _ _ _ _ _ _ _ c.byte_at-c.ensures c.byte_at-d.ensures c.same_byte-same.ensures c.if-not-same.false-raw))

pub returns-then-end-sub : goal.returns-then-end-sub
returns-then-end-sub c = let l = c.loop-i.invariant in
    let e : c.loop-i.i ≡ c.min-stop.result = omega (arith, c.loop-i-test.false, l.0) in
    let h = l.3 c.if-stop-n.true in
    too_many _ c.args.sub.now _ _ _ c.args.left c.min-stop.result (rw e at l.4) c.if-stop-n.true c.if-end-sub.true (omega (arith, h))

pub returns-then-stop-n : goal.returns-then-stop-n
returns-then-stop-n c = let l = c.loop-i.invariant in
    let e : c.loop-i.i ≡ c.min-stop.result = omega (arith, c.loop-i-test.false, l.0) in
    unlike-end _ c.args.sub.now _ _ _ c.args.left c.min-stop.result (rw e at l.4) c.if-stop-n.true c.if-end-sub.false l.2

pub returns-then-sub-end : goal.returns-then-sub-end
returns-then-sub-end c = let l = c.loop-i.invariant in
    let e : c.loop-i.i ≡ c.min-stop.result = omega (arith, c.loop-i-test.false, l.0) in
    unlike-past _ c.args.sub.now _ _ _ c.args.left c.min-stop.result (rw e at l.4) c.if-stop-n.false l.2 c.if-sub-end.true

pub returns : goal.returns
returns c = let l = c.loop-i.invariant in
    let e : c.loop-i.i ≡ c.min-stop.result = omega (arith, c.loop-i-test.false, l.0) in
    all_same _ c.args.sub.now _ _ _ c.args.left c.min-stop.result (rw e at l.4) c.if-stop-n.false l.2 c.if-sub-end.false
