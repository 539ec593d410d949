-- Nothing is answered to an empty piece, and any other is a line.
use native.Mathlib.Omega.{arith}
use Prim.Native.Nat.{◌<◌}
use lib.ListN.{length}
use Rattle.text.specs.Laws.Writing.{wrote_nothing}
use Rattle.gateway_line.specs.Laws.Streams.{nothing_held, last_of}
use Rattle.gateway_line.proofs.streaming.finish.Goals as goal

pub returns-then-held-eq0 : goal.returns-then-held-eq0
returns-then-held-eq0 c = λ tree stands.
    (let a = c.args in
    rw (nothing_held (tree, a.groups) a.held.now c.if-held-eq0.true) (record { wrote = wrote_nothing a.out.now a.put; near = omega arith }))

pub returns : goal.returns
returns c = λ tree stands.
    (let a = c.args in
    let f = c.if-held-eq0.false in
    let h : 0 < length a.held.now = omega arith in
    rw (last_of (tree, a.groups) a.held.now h) (c.answer.ensures.answered tree stands))
