-- `decide` meets its contract: each way on is the decision that its tests single out.
use mathlib.Core.Path.{refl, sym, ◌∙◌}
use Rattle.machine.specs.Words.{stack_of}
use Rattle.repeats.proofs.Decisions.{begins-as, decides-round, decides-full, decides-still, decides-both}
use Rattle.repeats.proofs.decide.Goals as goal

pub returns-then-n-least : goal.returns-then-n-least
returns-then-n-least c = (rw c.count_round-round.ensures at c.begin_over.ensures) ∙ begins-as c.args.code.now c.args.q _ c.args.at c.args.k.register _ c.args.regs.now _ c.requires.register_in_bounds.1 refl ∙ sym (decides-round c.args.code.now c.args.q c.args.n c.args.at c.args.regs.now (stack_of c.args.work.now c.args.height) c.args.still c.if-n-least.true)

pub returns-then-is_full : goal.returns-then-is_full
returns-then-is_full c = sym (decides-full c.args.code.now c.args.q c.args.n c.args.at c.args.regs.now (stack_of c.args.work.now c.args.height) c.args.still c.if-n-least.false (sym c.is_full.ensures ∙ c.if-is_full.true))

pub returns-then-still : goal.returns-then-still
returns-then-still c = sym (decides-still c.args.code.now c.args.q c.args.n c.args.at c.args.regs.now (stack_of c.args.work.now c.args.height) c.args.still c.if-n-least.false (sym c.is_full.ensures ∙ c.if-is_full.false) c.if-still.true)

pub returns : goal.returns
returns c = c.offer_both.ensures ∙ sym (decides-both c.args.code.now c.args.q c.args.n c.args.at c.args.regs.now (stack_of c.args.work.now c.args.height) c.args.still c.if-n-least.false (sym c.is_full.ensures ∙ c.if-is_full.false) c.if-still.false)
