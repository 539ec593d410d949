-- `digit_at` meets its contract: past the end no digit stands, and within the rule std answers below 16 what the definition says.
use Rattle.std.proofs.lemmas.Bool.{ltb-false}
use mathlib.Core.Path.{sym, ◌∙◌}
use Rattle.lexemes.proofs.Bytes.{byte-read}
use Rattle.lexemes.proofs.Digits.{digit-past, told-at}
use Rattle.lexemes.proofs.numbers.digit_at.Goals as goal

pub returns-in_err-b : goal.returns-in_err-b
returns-in_err-b c = rw c.from_residual.ensures (digit-past c.args.rule.now c.args.at c.args.base (ltb-false _ _ (sym c.in_err-b.ensures.lookup.0)) c.requires.1)

pub returns : goal.returns
returns c = told-at c.args.base c.args.rule.now c.args.at c.requires.1 c.from.result (c.from.ensures ∙ byte-read _ _ _ c.in_ok-b.ensures.lookup.0 c.in_ok-b.ensures.lookup.1) _ c.to_digit.ensures.value
