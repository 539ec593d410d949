-- `fall_back` meets its contract: changes are undone, and then the frame on top, if there is one, is gone on with by its kind.
use mathlib.Core.Path.{sym, ◌∙◌}
use Prim.Native.Nat.{◌+◌, ◌-◌, ◌*◌}
use native.Mathlib.Omega.{arith}
use borrow.Author.Rules.{rules}
use Rattle.machine.proofs.Frames.{pop-explore, pop-again, pop-stretch, pop-none, fits-again, only-stretch}
use Rattle.machine.proofs.stack.fall_back.Goals as goal

pub undo-top-requires : goal.undo-top-requires
undo-top-requires c = record {
  regs_len = search rules;
  by_index = (c.args.code.now, c.requires.stack_fits);
}

pub returns-then-top-eq0 : goal.returns-then-top-eq0
returns-then-top-eq0 c = let u = c.undo-top in
    let code = c.args.code.now in
    let work = c.args.work.now in
    sym (pop-none code work u.result _ (omega (arith, c.if-top-eq0.true))) ∙ u.ensures.falls code

pub returns-then-kind-eq-EXPLORE : goal.returns-then-kind-eq-EXPLORE
returns-then-kind-eq-EXPLORE c = let u = c.undo-top in
    let code = c.args.code.now in
    let work = c.args.work.now in
    sym (pop-explore code work u.result (omega (arith, c.if-top-eq0.false)) _ c.if-kind-eq-EXPLORE.true) ∙ u.ensures.falls code

pub overflow_cast-q : goal.overflow_cast-q
overflow_cast-q c = omega (arith, c.type_inv.work (4 * (c.undo-top.result - 1) + 1))

pub begin_round-requires : goal.begin_round-requires
begin_round-requires c = let u = c.undo-top in
    let code = c.args.code.now in
    let work = c.args.work.now in
    let f = fits-again code work u.result (omega (arith, c.if-top-eq0.false)) (u.ensures.fits code c.requires.stack_fits) c.if-kind-eq-AGAIN.true in
    omega (arith, f.0, f.1, u.auto.regs, u.ensures.lower, c.requires.regs_len.0, c.requires.regs_len.1)

pub returns-then-kind-eq-AGAIN : goal.returns-then-kind-eq-AGAIN
returns-then-kind-eq-AGAIN c = let u = c.undo-top in
    let code = c.args.code.now in
    let work = c.args.work.now in
    c.begin_round.ensures ∙ sym (pop-again code work u.result (omega (arith, c.if-top-eq0.false)) _ c.if-kind-eq-AGAIN.true) ∙ u.ensures.falls code

pub go_down-requires : goal.go_down-requires
go_down-requires c = omega (arith, c.undo-top.ensures.lower, c.requires.regs_len.1)

pub returns : goal.returns
returns c = let u = c.undo-top in
    let code = c.args.code.now in
    let work = c.args.work.now in
    c.go_down.ensures _ ∙ sym (pop-stretch code work u.result (omega (arith, c.if-top-eq0.false)) _ (only-stretch _ (u.ensures.top (omega (arith, c.if-top-eq0.false))) c.if-kind-eq-EXPLORE.false c.if-kind-eq-AGAIN.false)) ∙ u.ensures.falls code
