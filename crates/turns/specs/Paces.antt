-- How the code's results stand for turns.
use Rattle.std.specs.Prelude as option
use Rattle.std.specs.Prelude.{List, ℕ, None, Some, Result, Ok, Err, drop}
use Rattle.std.proofs.Math.Option.{Option, none, some}
use Rattle.machine.specs.Code.{Program, decode_as}
use Rattle.turns.specs.declared.Step.{Step}
use Rattle.turns.specs.declared.Lost.{Lost}
use Rattle.turns.specs.Turns.{Turn, onward, astray, turn_by}

abbrev pub said_by : Result Step Lost → (regs choices : List ℕ) → Turn
said_by (Ok step) regs cs = onward step.more step.pc step.at regs (drop step.read cs)
said_by (Err lost) regs cs = astray lost.steps

abbrev pub branch_said : option.Option ℕ → Option ℕ
branch_said (Some body) = some body
branch_said None = none

-- a turn at a node of a known kind
abbrev pub turn_as : ℕ → Program → (sub : List ℕ) → (pc at : ℕ) → (regs choices : List ℕ) → Turn
turn_as kind p sub pc at regs cs = turn_by p sub (decode_as kind p pc) pc at regs cs
