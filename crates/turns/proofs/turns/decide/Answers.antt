-- `decide` meets its contract: each way is the decision's.
use mathlib.Core.Path.{sym, ◌∙◌}
use native.Mathlib.Omega.{arith}
use Rattle.turns.proofs.Turning.{decides-round, decides-full, decides-still, choice-missing, choice-on, choice-again, choice-other}
use Rattle.turns.proofs.turns.decide.Goals as goal

pub returns-then-n-least : goal.returns-then-n-least
returns-then-n-least c = c.begin_round.ensures c.args.choices.now ∙ decides-round c.args.code.now c.args.q c.args.n c.args.at c.args.still c.args.regs.now _ (omega (arith, c.if-n-least.true))

pub returns-then-is_full : goal.returns-then-is_full
returns-then-is_full c = decides-full c.args.code.now c.args.q c.args.n c.args.at c.args.still c.args.regs.now (omega (arith, c.if-n-least.false)) _ (sym c.is_full.ensures ∙ c.if-is_full.true)

pub returns-then-still : goal.returns-then-still
returns-then-still c = decides-still c.args.code.now c.args.q c.args.n c.args.at c.args.still c.args.regs.now (omega (arith, c.if-n-least.false)) (sym c.is_full.ensures ∙ c.if-is_full.false) _ c.if-still.true

pub returns-then-choices-read : goal.returns-then-choices-read
returns-then-choices-read c = choice-missing c.args.code.now c.args.q c.args.n c.args.at c.args.still c.args.regs.now (omega (arith, c.if-n-least.false)) (sym c.is_full.ensures ∙ c.if-is_full.false) c.if-still.false c.args.choices.now c.args.read (omega (arith, c.if-choices-read.true))

pub returns-then-c-eq0 : goal.returns-then-c-eq0
returns-then-c-eq0 c = choice-on c.args.code.now c.args.q c.args.n c.args.at c.args.still c.args.regs.now (omega (arith, c.if-n-least.false)) (sym c.is_full.ensures ∙ c.if-is_full.false) c.if-still.false c.args.choices.now c.args.read (omega (arith, c.if-choices-read.false)) c.if-c-eq0.true

pub returns-then-c-eq1 : goal.returns-then-c-eq1
returns-then-c-eq1 c = c.begin_round-then-c-eq1.ensures c.args.choices.now ∙ choice-again c.args.code.now c.args.q c.args.n c.args.at c.args.still c.args.regs.now (omega (arith, c.if-n-least.false)) (sym c.is_full.ensures ∙ c.if-is_full.false) c.if-still.false c.args.choices.now c.args.read (omega (arith, c.if-choices-read.false)) c.if-c-eq1.true

pub returns : goal.returns
returns c = choice-other c.args.code.now c.args.q c.args.n c.args.at c.args.still c.args.regs.now (omega (arith, c.if-n-least.false)) (sym c.is_full.ensures ∙ c.if-is_full.false) c.if-still.false c.args.choices.now c.args.read (omega (arith, c.if-choices-read.false)) c.if-c-eq0.false c.if-c-eq1.false
