use mathlib.Core.Path.{◌≡◌}
use mathlib.Core.Bool.{false}
use Prim.Native.Nat.{◌+◌, ◌≤◌, max}
use lib.ListN.{length, drop}
use Rattle.syntax.specs.Grammar.{skipped}
use Rattle.lexemes.proofs.blanks.skip_blanks.Given as goal

abbrev pub invariant-loop-i : goal.invariant-loop-i
invariant-loop-i l = (l.from + skipped false (drop l.from l.rule) ≡ l.i + skipped l.comment (drop l.i l.rule)) × (l.i ≤ max l.from (length l.rule))
