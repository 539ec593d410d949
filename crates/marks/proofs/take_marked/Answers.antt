-- `take_marked` meets its contract: each arm carries out the node of its kind, which is in range because the node at hand is.
use mathlib.Core.Path.{◌≡◌, sym, ◌∙◌}
use mathlib.Core.List.{List}
use Prim.Native.Nat.{ℕ, ◌≤◌}
use lib.ListN.{get_or}
use native.Mathlib.Omega.{arith}
use Rattle.machine.specs.Code.{Fits}
use Rattle.machine.specs.Moves.{carry_out}
use Rattle.machine.specs.Laws.Code.{fits-at}
use Rattle.marks.proofs.Marking.{moved_as, only-refute}
use Rattle.marks.proofs.take_marked.Goals as goal

-- the only kind that is left
refutes : {n : ℕ} (p : List ℕ) (pc : ℕ) → n ≡ get_or p pc 0 → 13 ≤ n → (n ≡ 13 → ⊥) → (n ≡ 14 → ⊥) → (n ≡ 15 → ⊥) → (n ≡ 16 → ⊥) → Fits p pc → get_or p pc 0 ≡ 17
refutes {n} p pc e h a b c d f = sym e ∙ only-refute p pc n h a b c d (rw (← e) at f.node)

pub enter_part-requires : goal.enter_part-requires
enter_part-requires c = let f = fits-at c.args.code.now c.args.m.pc 13 (sym c.requires.kind_value.0 ∙ c.in-13.is) c.requires.fits in
    omega (arith, f.0, f.1, c.requires.kind_value)

pub keep_first-requires : goal.keep_first-requires
keep_first-requires c = let f = fits-at c.args.code.now c.args.m.pc 14 (sym c.requires.kind_value.0 ∙ c.in-14.is) c.requires.fits in
    omega (arith, f.0, f.1, c.requires.kind_value)

pub return_first-requires : goal.return_first-requires
return_first-requires c = let f = fits-at c.args.code.now c.args.m.pc 15 (sym c.requires.kind_value.0 ∙ c.in-15.is) c.requires.fits in
    omega (arith, f.0, f.1, c.requires.kind_value)

pub forbid-requires : goal.forbid-requires
forbid-requires c = let f = fits-at c.args.code.now c.args.m.pc 16 (sym c.requires.kind_value.0 ∙ c.in-16.is) c.requires.fits in
    omega (arith, f.0, f.1, c.requires.kind_value)

pub refute-requires : goal.refute-requires
refute-requires c = let n = c.in_default.in_default-own.rest in
    let f = fits-at c.args.code.now c.args.m.pc 17 (refutes c.args.code.now c.args.m.pc c.requires.kind_value.0 c.requires.kind_value.1 n.0.0.0.1 n.0.0.1 n.0.1 n.1 c.requires.fits) c.requires.fits in
    record {
      pc_in_bounds = omega (arith, f.0, f.1, c.requires.kind_value);
      stack_fits = c.requires.stack_fits;
    }

pub returns-in-13 : goal.returns-in-13
returns-in-13 c = λ sub. c.enter_part.ensures sub ∙ sym (moved_as c.args.code.now sub c.args.regs.now c.args.work.now c.args.m 13 (sym c.requires.kind_value.0 ∙ c.in-13.is))

pub returns-in-14 : goal.returns-in-14
returns-in-14 c = λ sub. c.keep_first.ensures sub ∙ sym (moved_as c.args.code.now sub c.args.regs.now c.args.work.now c.args.m 14 (sym c.requires.kind_value.0 ∙ c.in-14.is))

pub returns-in-15 : goal.returns-in-15
returns-in-15 c = λ sub. c.return_first.ensures sub ∙ sym (moved_as c.args.code.now sub c.args.regs.now c.args.work.now c.args.m 15 (sym c.requires.kind_value.0 ∙ c.in-15.is))

pub returns-in-16 : goal.returns-in-16
unfolding carry_out
returns-in-16 c = λ sub. c.forbid.ensures ∙ sym (moved_as c.args.code.now sub c.args.regs.now c.args.work.now c.args.m 16 (sym c.requires.kind_value.0 ∙ c.in-16.is))

pub returns-in_default : goal.returns-in_default
returns-in_default c = let n = c.in_default.in_default-own.rest in
    λ sub. c.refute.ensures sub ∙ sym (moved_as c.args.code.now sub c.args.regs.now c.args.work.now c.args.m 17 (refutes c.args.code.now c.args.m.pc c.requires.kind_value.0 c.requires.kind_value.1 n.0.0.0.1 n.0.0.1 n.0.1 n.1 c.requires.fits))
