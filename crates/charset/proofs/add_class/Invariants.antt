use mathlib.Core.Bool.{◌||◌}
use Rattle.charset.specs.Class.{has}
use Rattle.charset.proofs.Words.{Done}
use Rattle.charset.proofs.add_class.Given as goal

abbrev pub invariant-loop-i : goal.invariant-loop-i
invariant-loop-i l = Done (λ x. has l.other x || has l.class x) l.i l.c
