-- A rule that the reader compiled is one that the machine can walk, with the registers clear.
use mathlib.Core.Path.{◌≡◌}
use mathlib.Core.Bool.{false}
use mathlib.Core.List.{List, []}
use Prim.Native.Nat.{ℕ, ◌*◌, ◌≤◌, ◌<◌, ◌^◌}
use native.Mathlib.Omega.{arith}
use lib.ListN.{length, replicate}
use Rattle.syntax.specs.Limits.{unset, rule_area_need, group_limit, registers}
use Rattle.syntax.specs.Tree.{Rule}
use Rattle.syntax.specs.Laws.Formation.{well-formed}
use Rattle.semantics.specs.Walk.{Trace, trace}
use Rattle.machine.specs.declared.Machine.{Machine}
use Rattle.machine.specs.Moves.{Bytes, go}
use Rattle.machine.specs.Words.{now_of}
use Rattle.machine.specs.Ready.{Ready}
use Rattle.machine.specs.Theorem.{Stands, clear-all, begins}
use Rattle.reader.specs.Compiles.{Stands as Compiled}

pub walkable : (s : List ℕ) (flags : ℕ) (area : List ℕ) (pc groups : ℕ) → Compiled false s flags area pc groups → length area ≡ rule_area_need → (x : Rule) × Stands area x pc
walkable s flags area pc groups c n = (c.tree, record { low = 1; high = rule_area_need; within = omega arith; end = c.end; compiled = c.compiled })

pub few-groups : (s : List ℕ) (flags : ℕ) (area : List ℕ) (pc groups : ℕ) → Compiled false s flags area pc groups → groups ≤ group_limit
few-groups s flags area pc groups c = (rw c.reads at (well-formed s flags)).few

-- the machine at a start, with fresh registers, is ready for the rule's walk from there
pub ready : (code sub work : List ℕ) (x : Rule) (pc start budget : ℕ) (m : Machine) → Stands code x pc → Bytes sub → start ≤ length sub → 8 * budget ≤ length work → 2 * budget < 2 ^ 32
    → ((regs work : List ℕ) → now_of regs work m ≡ go pc start regs []) → (first : List ℕ) × (t : Trace) × Ready code sub (length work) budget first (now_of (replicate registers unset) work m) t
ready code sub work x pc start budget m stands bytes inside wide few at =
    (replicate registers unset, trace sub x start, rw (at (replicate registers unset) work) (begins code sub x pc start budget (length work) (replicate registers unset) stands bytes clear-all inside wide few))
