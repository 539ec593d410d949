-- Where the nodes lead that `walker` carries out together with others: a run, a reference and `\R`; and which nodes are left beside them. Assumes nothing.
use Rattle.std.specs.Prelude.{None, Some}
use mathlib.Core.Path.{◌≡◌, refl, sym, ◌∙◌}
use mathlib.Core.List.{List}
use mathlib.Core.Bool.{true}
use Prim.Native.Nat.{ℕ, ◌+◌, ◌≤◌, ◌<◌}
use native.Mathlib.Omega.{arith}
use lib.ListN.{get_or}
use Rattle.semantics.specs.States.{moved}
use Rattle.machine.specs.declared.Machine.{Machine}
use Rattle.machine.specs.Code.{repeat_at}
use Rattle.machine.specs.Moves.{Stack, go, below, fall, tried, bytes_of, carry_out}
use Rattle.machine.specs.Words.{stack_of, configuration_of, moved_on, carried}
use Rattle.machine.specs.Laws.Stack.{paid-after}
use Rattle.breaks.specs.declared.Break.{Break}
use Rattle.breaks.specs.Breaks.{BreaksAs}
use Rattle.breaks.proofs.Breaking.{break-back as falling, break-on as going}
use Rattle.runs.proofs.Leaving.{ran-few, ran-enough}
use Rattle.walker.proofs.Stepping.{moved_as}
use Rattle.plain.specs.Telling.{leads, leads-plain}
use Rattle.plain.specs.Misses.{RefersAs}

module _ (p sub regs work : List ℕ) (m : Machine) where
  abbrev stack : Stack
  stack = stack_of work m.height

  abbrev next : ℕ
  next = get_or p (m.pc + 7) 0

  -- a run of k bytes
  module _ (k : ℕ) (all : k ≡ bytes_of p sub (repeat_at p (m.pc + 2)) 0 m.at) where
    pub run-few : k < get_or p (m.pc + 2) 0 → carried 10 p sub regs work m ≡ fall p regs stack
    unfolding carry_out
    run-few h = rw (carried, ← all) (ran-few p m.pc k m.at regs stack h)

    pub run-enough : get_or p (m.pc + 2) 0 ≤ k → carried 10 p sub regs work m ≡ go next (m.at + k) regs (below next (m.at + k) (m.at + get_or p (m.pc + 2) 0) stack)
    unfolding carry_out
    run-enough h = rw (carried, ← all) (ran-enough p m.pc k m.at regs stack h)

  -- a reference
  pub reference-back : RefersAs p sub regs m.pc m.at None → carried 11 p sub regs work m ≡ fall p regs stack
  unfolding carry_out tried
  reference-back w = rw (paid-after, w)

  pub reference-on : (behind : ℕ) → RefersAs p sub regs m.pc m.at (Some behind) → carried 11 p sub regs work m ≡ go (get_or p (m.pc + 1) 0) behind regs stack
  unfolding carry_out tried moved
  reference-on behind w = rw (paid-after, w)

  -- `\R`: a move is the same whether the machine is said to be at work or not
  module _ (is : get_or p m.pc 0 ≡ 12) (b : Break) (tells : BreaksAs sub m.at b) where
    abbrev at_work : Machine
    at_work = record { pc = m.pc; at = m.at; height = m.height; live = true }

    pub break-back : b.bytes ≡ 0 → moved_on p sub regs work m ≡ fall p regs stack
    break-back = falling p sub regs work at_work is refl b tells

    pub break-on : (b.bytes ≡ 0 → ⊥) → moved_on p sub regs work m ≡ go (get_or p (m.pc + 1) 0) (m.at + b.bytes) regs stack
    break-on = going p sub regs work at_work is refl b tells

-- all that is left are nodes of one step
pub kind-low : (n : ℕ) → (n ≡ 9 → ⊥) → (n ≡ 10 → ⊥) → (n ≡ 11 → ⊥) → (n ≡ 12 → ⊥) → n < 13 → n ≤ 8
kind-low n a b c d h = omega arith

-- where a move leads with a note, at a node of a known kind that keeps none
pub leads-kind : (p sub regs work : List ℕ) (m : Machine) (n kind : ℕ) → get_or p m.pc 0 ≡ kind → (kind ≡ 16 → ⊥) → leads p sub n (configuration_of regs work m) ≡ carried kind p sub regs work m
leads-kind p sub regs work m n kind e ne = leads-plain p sub n (configuration_of regs work m) (λ k. ne (sym e ∙ k)) ∙ moved_as p sub regs work m kind e
