-- What the calls tell fits into what is lent: the rule of a card, and a card.
use mathlib.Core.Path.{◌≡◌, sym, ◌∙◌}
use mathlib.Core.List.{List}
use Prim.Native.Nat.{ℕ, ◌≤◌}
use Rattle.syntax.specs.Limits.{rule_limit}
use Rattle.card_format.specs.Cards.{pieces_for, card_need, write_call, read_call}
use Rattle.card_format.specs.CardDemands.{Bytes}
use Rattle.card_format.proofs.CardTheorems.{wrote-fits, read_fits}
use Rattle.std.specs.Prelude.{Result, Ok}
use Rattle.syntax.specs.declared.Refusal.{Refusal}
use Rattle.cards.specs.declared.reading.Card.{Card}
use Rattle.cards.specs.Answers.{Returned, written_of, read_of}

pub rule_fits : (card rule_area area : List ℕ) (r : Result Card Refusal) {after rule : List ℕ} → Returned (read_call card rule_area area) (read_of r) after rule → Bytes card
    → (k : Card) → r ≡ Ok k → k.size ≤ 1000
unfolding read_of rule_limit
rule_fits card rule_area area r z bytes k e = read_fits card rule_area area bytes k.size k.flags k.budget k.groups (sym z.outcome_is ∙ rw e)

pub card-fits : (rule : List ℕ) (flags budget : ℕ) (rule_area area : List ℕ) (r : Result ℕ Refusal) {after card : List ℕ} → Returned (write_call rule flags budget rule_area area) (written_of r) after card
    → (n : ℕ) → r ≡ Ok n → n ≤ 1064
unfolding written_of card_need pieces_for rule_limit
card-fits rule flags budget rule_area area r z n e = wrote-fits rule flags budget rule_area area n (sym z.outcome_is ∙ rw e)
