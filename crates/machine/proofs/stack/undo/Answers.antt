-- `undo` meets its contract. The loop's invariant: falling back from the lower height leads where it leads from the start, and the frames there fit as
-- those did. The measure is the height.
use mathlib.Core.Path.{◌≡◌, refl, sym, ◌∙◌}
use Prim.Native.Nat.{ℕ, ◌+◌, ◌-◌, ◌*◌}
use native.Mathlib.Omega.{arith}
use Rattle.machine.proofs.Frames.{pop-undo, fits-rest, fits-undo}
use Rattle.machine.proofs.stack.undo.Goals as goal

-- where the frame on top stands
last_frame : (h : ℕ) → 4 * h - 4 ≡ 4 * (h - 1)
last_frame h = omega arith

pub loop-h-init : goal.loop-h-init
loop-h-init c = (omega arith, refl, λ p f. f, λ p. refl)

pub overflow_mul-w : goal.overflow_mul-w
overflow_mul-w c = omega (arith, c.loop-h.invariant.0)

pub overflow_sub-w : goal.overflow_sub-w
overflow_sub-w c = omega (arith, c.loop-h-test.true)

pub bounds-work-w : goal.bounds-work-w
bounds-work-w c = omega (arith, c.loop-h.invariant.0)

pub shape_of-regs-then-work-w-lt-UNDO : goal.shape_of-regs-then-work-w-lt-UNDO
shape_of-regs-then-work-w-lt-UNDO c = c.loop-h.invariant.1

pub returns-then-work-w-lt-UNDO : goal.returns-then-work-w-lt-UNDO
returns-then-work-w-lt-UNDO c = record { lower = c.loop-h.invariant.0; fits = c.loop-h.invariant.2; falls = c.loop-h.invariant.3; top = λ _. rw (last_frame c.loop-h.h) at c.if-work-w-lt-UNDO.true }

pub bounds-work-w-in-loop-h : goal.bounds-work-w-in-loop-h
bounds-work-w-in-loop-h c = omega (arith, c.loop-h.invariant.0)

pub bounds-work-w-in-loop-h-2 : goal.bounds-work-w-in-loop-h-2
bounds-work-w-in-loop-h-2 c = omega (arith, c.loop-h.invariant.0)

pub overflow_cast-i : goal.overflow_cast-i
overflow_cast-i c = omega (arith, c.type_inv.work (4 * c.loop-h.h - 4 + 2))

pub bounds-work-w-in-loop-h-3 : goal.bounds-work-w-in-loop-h-3
bounds-work-w-in-loop-h-3 c = omega (arith, c.loop-h.invariant.0)

pub write_pair-requires : goal.write_pair-requires
write_pair-requires c = let l = c.loop-h in
    let k = rw (last_frame l.h) at c.if-work-w-lt-UNDO.false in
    rw (last_frame l.h) (omega (arith, fits-undo c.requires.by_index.0 c.args.work.now l.h c.loop-h-test.true (l.invariant.2 c.requires.by_index.0 c.requires.by_index.1) (λ e. omega (arith, k)) (λ e. omega (arith, k)) (λ e. omega (arith, k)), l.invariant.1, c.requires.regs_len.0))

pub loop-h-preserved : goal.loop-h-preserved
loop-h-preserved c = let l = c.loop-h in
    let t = c.loop-h-test.true in
    let k = rw (last_frame l.h) at c.if-work-w-lt-UNDO.false in
    let e = rw (last_frame l.h) at c.write_pair.ensures in
    (omega (arith, l.invariant.0), c.write_pair.auto.regs ∙ l.invariant.1, λ p f. fits-rest p _ _ t (l.invariant.2 p f), λ p. rw e (sym (pop-undo p _ _ t _ (λ e. omega (arith, k)) (λ e. omega (arith, k)) (λ e. omega (arith, k))) ∙ l.invariant.3 p))

pub shape_of-regs : goal.shape_of-regs
shape_of-regs c = c.loop-h.invariant.1

pub returns : goal.returns
returns c = record { lower = c.loop-h.invariant.0; fits = c.loop-h.invariant.2; falls = c.loop-h.invariant.3; top = λ h. absurd (omega (arith, c.loop-h-test.false)) }
