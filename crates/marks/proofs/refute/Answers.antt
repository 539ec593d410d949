-- `refute` meets its contract: with the choices since given up, falling back undoes all and leads to what was left before.
use mathlib.Core.Path.{ap, sym, ◌∙◌, subst}
use Prim.Native.Nat.{◌+◌}
use native.Mathlib.Omega.{arith}
use lib.ListN.{get_or}
use Rattle.machine.specs.Moves.{Stack, fall, carry_out}
use Rattle.machine.specs.Ready.{StackFits}
use Rattle.machine.specs.Laws.Stack.{cut_fits}
use Rattle.marks.proofs.refute.Goals as goal

pub overflow_cast-mark : goal.overflow_cast-mark
overflow_cast-mark c = omega (arith, c.type_inv.regs (get_or c.args.code.now (c.args.m.pc + 2) 0))

pub fall_back-requires : goal.fall_back-requires
fall_back-requires c = let e = c.cut_to-h.ensures in
    record {
      regs_len = (c.requires.pc_in_bounds.3, omega (arith, e.0, c.requires.pc_in_bounds.2, c.cut_to-h.auto.work));
      stack_fits = subst (λ (st : Stack). StackFits c.args.code.now st) (sym e.1) (cut_fits c.args.code.now _ _ c.requires.stack_fits);
    }

pub returns : goal.returns
unfolding carry_out
returns c = λ sub. c.fall_back.ensures ∙ ap (λ (st : Stack). fall c.args.code.now c.args.regs.now st) c.cut_to-h.ensures.1
