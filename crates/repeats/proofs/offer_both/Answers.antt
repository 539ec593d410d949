-- `offer_both` meets its contract, by the greed: the frame pushed is the choice that is kept for later.
use mathlib.Core.Path.{sym, ◌∙◌}
use Rattle.machine.specs.Words.{frame_of, stack_of}
use Rattle.machine.proofs.Frames.{go-pushed}
use Rattle.repeats.proofs.Decisions.{begins-as, both-greedy, both-lazy}
use Rattle.repeats.proofs.offer_both.Goals as goal

pub returns-then-greed-eq0 : goal.returns-then-greed-eq0
returns-then-greed-eq0 c = (rw (c.count_round-round.ensures, c.push_explore-kept.ensures.0, c.push_explore-kept.ensures.1) at c.begin_over.ensures) ∙ begins-as c.args.code.now c.args.q _ c.args.at c.args.k.register c.args.body c.args.regs.now _ c.requires.register_in_bounds.1 c.requires.q_in_bounds.3 ∙ sym (both-greedy c.args.code.now c.args.q c.args.n c.args.at c.args.regs.now (stack_of c.args.work.now c.args.height) c.if-greed-eq0.true)

pub returns : goal.returns
unfolding frame_of
returns c = go-pushed _ _ _ _ _ _ c.push-deferred.ensures.0 c.push-deferred.ensures.1 ∙ rw c.count_round-round.ensures (sym (both-lazy c.args.code.now c.args.q c.args.n c.args.at c.args.regs.now (stack_of c.args.work.now c.args.height) c.if-greed-eq0.false))
