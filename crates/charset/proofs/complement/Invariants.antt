use mathlib.Core.Bool.{not}
use Rattle.charset.specs.Class.{has}
use Rattle.charset.proofs.Words.{Done}
use Rattle.charset.proofs.complement.Given as goal

abbrev pub invariant-loop-i : goal.invariant-loop-i
invariant-loop-i l = Done (λ x. not (has l.class x)) l.i l.c
