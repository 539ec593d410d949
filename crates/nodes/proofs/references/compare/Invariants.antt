use Prim.Native.Nat.{◌+◌, ◌≤◌, ◌<◌}
use Rattle.nodes.proofs.Comparing.{Alike}
use Rattle.nodes.proofs.references.compare.Given as goal

abbrev pub invariant-loop-i : goal.invariant-loop-i
invariant-loop-i l = (l.i ≤ l.stop) ×
    (l.stop ≤ l.n) ×
    (l.stop < l.left) ×
    (l.stop < l.n → l.left ≤ l.stop + 1) ×
    Alike l.folded l.sub l.n l.a l.b l.i
