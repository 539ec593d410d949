-- Two registers written, undone, and seen.
use Rattle.std.specs.Prelude.{◌≡◌, List, ◌≢◌, ℕ, ◌+◌, ◌≤◌, length, get_or, set, take}
use Rattle.std.proofs.Common.{arith, length-set, set-set, get_or-set_same, get_or-set_other}
use Rattle.std.proofs.lemmas.List.{set_comm, set-get_or, take-set-le}
use Rattle.std.proofs.Math.Seq.{take-set-lt}
use Rattle.machine.specs.Moves.{set2}

-- what a register had, put back
pub undo-set2 : (regs : List ℕ) (i a b : ℕ) → set2 (set2 regs i a b) i (get_or regs i 0) (get_or regs (i + 1) 0) ≡ regs
undo-set2 regs i a b = rw (set_comm (set regs i a) (i + 1) i b (get_or regs i 0) (omega arith), set-set regs i a (get_or regs i 0), set-get_or regs i 0, set-set regs (i + 1) b (get_or regs (i + 1) 0), set-get_or regs (i + 1) 0)

pub length-set2 : (regs : List ℕ) (j x y : ℕ) → length (set2 regs j x y) ≡ length regs
length-set2 regs j x y = simp length-set

pub get_or-set2 : (regs : List ℕ) (j x y i : ℕ) → i ≢ j → i ≢ j + 1 → get_or (set2 regs j x y) i 0 ≡ get_or regs i 0
get_or-set2 regs j x y i h h' = rw (get_or-set_other (set regs j x) (j + 1) i y 0 h', get_or-set_other regs j i x 0 h)

pub first-set2 : (regs : List ℕ) (j x y : ℕ) → j + 2 ≤ length regs → get_or (set2 regs j x y) j 0 ≡ x
first-set2 regs j x y h = rw (get_or-set_other (set regs j x) (j + 1) j y 0 (omega arith), get_or-set_same regs j x 0 (omega arith))

pub second-set2 : (regs : List ℕ) (j x y : ℕ) → j + 2 ≤ length regs → get_or (set2 regs j x y) (j + 1) 0 ≡ y
second-set2 regs j x y h = get_or-set_same (set regs j x) (j + 1) y 0 (rw length-set (omega arith))

-- the first n registers do not see those behind them
pub take_behind : (n : ℕ) (regs : List ℕ) (j x y : ℕ) → n ≤ j → take n (set2 regs j x y) ≡ take n regs
take_behind n regs j x y h = rw (take-set-le n (set regs j x) (j + 1) y (omega arith), take-set-le n regs j x h)

pub take_within : (n : ℕ) (regs : List ℕ) (j x y : ℕ) → j + 2 ≤ n → take n (set2 regs j x y) ≡ set2 (take n regs) j x y
take_within n regs j x y h = rw (take-set-lt n (set regs j x) (j + 1) y (omega arith), take-set-lt n regs j x (omega arith))
