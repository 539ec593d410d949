-- What the numbers of a card are, by the code's own cases, and where a refusal's place fits into 32 bits.
use Rattle.std.specs.Prelude.{◌≡◌, refl, [], ◌∷◌, ℕ, ◌≤◌, Result, Ok, Err}
use Rattle.syntax.specs.declared.Refusal.{Refusal}
use Rattle.syntax.specs.Limits.{rule_limit}
use Rattle.syntax.specs.Refusals.{number_of}
use Rattle.cards.specs.declared.reading.Card.{Card}
use Rattle.card_format.specs.Cards.{WriteOutcome, write_wrote, write_refused, ReadOutcome, read_holds, read_refused}
use Rattle.cards.specs.Answers.{written_of, read_of}
use Rattle.semantics.specs.Batches.{low, high}
use Rattle.answers.specs.Answers.{numbers, refusal_numbers}
use Rattle.answers.specs.Cards.{write_numbers, read_numbers}

-- Places ------------------------------------------------------------------------

abbrev pub WritePlaced : WriteOutcome → Type 0
WritePlaced (write_wrote n) = Unit
WritePlaced (write_refused place why) = place ≤ rule_limit

abbrev pub ReadPlaced : ReadOutcome → Type 0
ReadPlaced (read_holds size flags budget groups) = Unit
ReadPlaced (read_refused place why) = place ≤ rule_limit

pub written-place : (o : Result ℕ Refusal) (f : Refusal) → o ≡ Err f → WritePlaced (written_of o) → f.place ≤ rule_limit
unfolding written_of
written-place o f e h = rw e at h

pub read-place : (o : Result Card Refusal) (f : Refusal) → o ≡ Err f → ReadPlaced (read_of o) → f.place ≤ rule_limit
unfolding read_of
read-place o f e h = rw e at h

-- Numbers -----------------------------------------------------------------------

pub of-wrote : (o : Result ℕ Refusal) (n : ℕ) → o ≡ Ok n → numbers 0 0 0 0 n ≡ write_numbers (written_of o)
unfolding write_numbers written_of
of-wrote o n e = rw e refl

pub of-unwritten : (o : Result ℕ Refusal) (f : Refusal) → o ≡ Err f → refusal_numbers f.place f.reason ≡ write_numbers (written_of o)
unfolding write_numbers written_of
of-unwritten o f e = rw e refl

pub of-held : (o : Result Card Refusal) (k : Card) (told : ℕ) → o ≡ Ok k → told ≡ low k.size → 0 ∷ 0 ∷ 0 ∷ 0 ∷ 0 ∷ told ∷ k.flags ∷ k.budget ∷ k.groups ∷ [] ≡ read_numbers (read_of o)
unfolding read_numbers read_of numbers low high
of-held o k told e h = rw (e, h) refl

pub of-unread : (o : Result Card Refusal) (f : Refusal) (number : ℕ) → o ≡ Err f → number ≡ number_of f.reason → 3 ∷ number ∷ f.place ∷ 0 ∷ 0 ∷ 0 ∷ 0 ∷ 0 ∷ 0 ∷ [] ≡ read_numbers (read_of o)
unfolding read_numbers read_of refusal_numbers numbers low high
of-unread o f number e h = rw (e, h) refl
