-- `take_turn` meets its contract: a turn at a node of its kind. What each of them reads is in range, as the node fits.
use mathlib.Core.Path.{◌∙◌}
use native.Mathlib.Omega.{arith}
use Rattle.machine.specs.Laws.Code.{spans-in-registers, fits-at}
use Rattle.turns.proofs.Turning.{turn-as, enters-as, runs_as, other-turn}
use Rattle.turns.proofs.turns.take_turn.Goals as goal

pub take_byte-requires : goal.take_byte-requires
take_byte-requires c = (fits-at c.args.code.now c.args.pc 0 c.in-0.is c.requires.0.fits, c.requires.2, c.requires.0.inside)

pub test_assertion-requires : goal.test_assertion-requires
test_assertion-requires c = fits-at c.args.code.now c.args.pc 1 c.in-1.is c.requires.0.fits

pub open_group-requires : goal.open_group-requires
open_group-requires c = (let f = fits-at c.args.code.now c.args.pc 3 c.in-3.is c.requires.0.fits in (f.0, omega (arith, f.1, c.requires.0.size)))

pub close_group-requires : goal.close_group-requires
close_group-requires c = (let f = fits-at c.args.code.now c.args.pc 4 c.in-4.is c.requires.0.fits in (f.0, omega (arith, f.1, c.requires.0.size), omega (arith, f.2, spans-in-registers, c.requires.0.size)))

pub decide-requires : goal.decide-requires
decide-requires c = (let f = fits-at c.args.code.now c.args.pc 7 c.in-7.is c.requires.0.fits in (f.0, omega (arith, f.1, c.requires.0.size)))

pub end_round-requires : goal.end_round-requires
end_round-requires c = (let f = fits-at c.args.code.now c.args.pc 8 c.in-8.is c.requires.0.fits in (omega (arith, f.0), omega (arith, f.1, c.requires.0.size)))

pub decide-requires-in-10 : goal.decide-requires-in-10
decide-requires-in-10 c = (let f = c.requires.0.run_fits c.in-10.is in (f.0, omega (arith, f.1, c.requires.0.size)))

pub take_reference-requires : goal.take_reference-requires
take_reference-requires c = (let f = fits-at c.args.code.now c.args.pc 11 c.in-11.is c.requires.0.fits in (f.0, f.1, omega (arith, spans-in-registers, c.requires.0.size), c.requires.2))

pub returns-in-0 : goal.returns-in-0
returns-in-0 c = c.take_byte.ensures c.args.regs.now c.args.choices.now ∙ turn-as c.args.code.now c.args.sub.now c.args.pc c.args.at c.args.regs.now _ 0 c.in-0.is

pub returns-in-1 : goal.returns-in-1
returns-in-1 c = c.test_assertion.ensures c.args.regs.now c.args.choices.now ∙ turn-as c.args.code.now c.args.sub.now c.args.pc c.args.at c.args.regs.now _ 1 c.in-1.is

pub returns-in-3 : goal.returns-in-3
returns-in-3 c = c.open_group.ensures c.args.sub.now c.args.choices.now ∙ turn-as c.args.code.now c.args.sub.now c.args.pc c.args.at c.args.regs.now _ 3 c.in-3.is

pub returns-in-4 : goal.returns-in-4
returns-in-4 c = c.close_group.ensures c.args.sub.now c.args.choices.now ∙ turn-as c.args.code.now c.args.sub.now c.args.pc c.args.at c.args.regs.now _ 4 c.in-4.is

pub returns-in-5 : goal.returns-in-5
returns-in-5 c = c.begin_branch.ensures c.args.sub.now c.args.regs.now ∙ turn-as c.args.code.now c.args.sub.now c.args.pc c.args.at c.args.regs.now _ 5 c.in-5.is

pub returns-in-7 : goal.returns-in-7
returns-in-7 c = c.decide.ensures ∙ enters-as c.args.code.now c.args.sub.now c.args.pc c.args.at c.args.regs.now _ c.in-7.is

pub returns-in-8 : goal.returns-in-8
returns-in-8 c = c.end_round.ensures c.args.sub.now ∙ turn-as c.args.code.now c.args.sub.now c.args.pc c.args.at c.args.regs.now _ 8 c.in-8.is

pub returns-in-10 : goal.returns-in-10
returns-in-10 c = c.decide-in-10.ensures ∙ runs_as c.args.code.now c.args.sub.now c.args.pc c.args.at c.args.regs.now _ c.in-10.is

pub returns-in-11 : goal.returns-in-11
returns-in-11 c = c.take_reference.ensures c.args.choices.now ∙ turn-as c.args.code.now c.args.sub.now c.args.pc c.args.at c.args.regs.now _ 11 c.in-11.is

pub returns-in_default : goal.returns-in_default
returns-in_default c = (let n = c.in_default.in_default-own.rest in other-turn c.args.code.now c.args.sub.now c.args.pc c.args.at c.args.regs.now _ c.requires.0.fits.node n.0.0.0.0.0.0.0.0.1 n.0.0.0.0.0.0.0.1 n.0.0.0.0.0.0.1 n.0.0.0.0.0.1 n.0.0.0.0.1 n.0.0.0.1 n.0.0.1 c.requires.1 n.0.1 n.1)
