-- `reset` meets its contract: the groups' registers are filled, and the others are as they were.
use mathlib.Core.Path.{◌≡◌, sym, ◌∙◌}
use mathlib.Core.List.{List, ◌++◌}
use Prim.Native.Nat.{ℕ, ◌≤◌}
use native.Mathlib.Omega.{arith}
use lib.ListN.{length, drop, replicate, length-append, length-drop, length-replicate}
use lib.Seq.{length-take-le, take_at}
use Rattle.syntax.specs.Limits.{unset, spans_length, registers}
use Rattle.machine.specs.Theorem.{Clear}
use Rattle.machine.specs.Laws.Code.{spans-in-registers}
use Rattle.scans.proofs.reset.Goals as goal

within : (regs : List ℕ) → length regs ≡ registers → spans_length ≤ length regs
within regs size = omega (arith, size, spans-in-registers)

-- all groups' registers are unset
filled : (regs : List ℕ) → length regs ≡ registers → Clear (replicate spans_length unset ++ drop spans_length regs)
filled regs size = record {
  size = length-append (replicate spans_length unset) (drop spans_length regs) ∙ omega (arith, length-replicate spans_length unset, length-drop spans_length regs, size, spans-in-registers);
  spans = take_at (replicate spans_length unset) (drop spans_length regs) spans_length (length-replicate spans_length unset);
}

pub slice_bounds-fill-end : goal.slice_bounds-fill-end
unfolding spans_length
slice_bounds-fill-end c = within c.args.regs.now c.requires

pub slice_bounds-fill-end-2 : goal.slice_bounds-fill-end-2
unfolding spans_length
slice_bounds-fill-end-2 c = sym (length-take-le spans_length c.args.regs.now (within c.args.regs.now c.requires))

pub returns : goal.returns
unfolding spans_length unset
returns c = let regs = c.args.regs.now in
    rw (c.fill.ensures.after (λ y h. h), length-take-le spans_length regs (within regs c.requires)) (filled regs c.requires)
