-- By position: in the first record, in those of the rule, or in the last.
use mathlib.Core.Path.{sym, ap, ◌∙◌}
use mathlib.Core.List.{[], ◌∷◌}
use Prim.Native.Nat.{ℕ, ◌-◌, ◌/◌, ◌%◌}
use native.Mathlib.Omega.{arith}
use lib.ListN.{length, get_or}
use Rattle.syntax.specs.Limits.{rule_limit}
use Rattle.card_format.specs.Cards.{length_kind, pieces_for}
use Rattle.card_format.specs.CardDemands.{card_of}
use Rattle.card_format.specs.Places.{text_end}
use Rattle.card_format.proofs.Laws.Written.{written-long, byte-first, byte-text, byte-size}
use Rattle.card_records.proofs.bytes.card_byte.Goals as goal

pub returns-then-i-lt-SETTINGS : goal.returns-then-i-lt-SETTINGS
returns-then-i-lt-SETTINGS c = let a = c.args in
    c.settings_byte.ensures ∙ sym (byte-first (card_of a.rule.now a.flags a.budget a.groups) a.i (omega arith))

pub text_end-end-requires : goal.text_end-end-requires
unfolding rule_limit
text_end-end-requires c = omega (arith, c.requires.0.rule_fits)

pub piece_byte-requires : goal.piece_byte-requires
unfolding rule_limit text_end pieces_for
piece_byte-requires c = omega (arith, c.requires.0.rule_fits)

pub returns-then-i-end : goal.returns-then-i-end
returns-then-i-end c = let a = c.args in
    c.piece_byte.ensures ∙ sym (byte-text (card_of a.rule.now a.flags a.budget a.groups) a.i (omega arith) (omega (arith, c.text_end-end.ensures)))

pub overflow_cast-rule : goal.overflow_cast-rule
unfolding rule_limit
overflow_cast-rule c = omega (arith, c.requires.0.rule_fits)

pub length_byte-requires : goal.length_byte-requires
unfolding rule_limit
length_byte-requires c = let a = c.args in
    (omega (arith, c.requires.0.rule_fits), omega (arith, c.text_end-end.ensures, written-long (card_of a.rule.now a.flags a.budget a.groups)))

pub returns : goal.returns
returns c = let a = c.args in
    let size = length a.rule.now in
    c.length_byte.ensures
    ∙ ap (λ (end : ℕ). get_or (length_kind ∷ size % 256 ∷ size / 256 ∷ []) (a.i - end) 0) c.text_end-end.ensures
    ∙ sym (byte-size (card_of a.rule.now a.flags a.budget a.groups) a.i (omega (arith, c.text_end-end.ensures)))
