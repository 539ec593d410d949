-- What the code finds out about the bytes of a card, step by step.
-- docs/REFERENCE.md, 17.3
use Rattle.std.specs.Prelude.{◌≡◌, Bool, true, false, ◌&&◌, List, [], ◌∷◌, ◌⊎◌, ℕ, zero, suc, ◌≤◌, ◌<◌, Result, Ok, Err, eqb, length, get_or, replicate}
use Rattle.syntax.specs.Sets.{same_bytes}
use Rattle.syntax.specs.declared.Reason.{Reason}
use Rattle.syntax.specs.declared.Reason.TheVariants.{UnknownKind, CardCutShort}
use Rattle.card_records.specs.declared.scanning.Cut.{Cut}
use Rattle.card_format.specs.Cards.{settings_kind, piece_kind, in_bytes, kinds, Card, holds, fails, card_in}
use Rattle.card_format.specs.CardDemands.{Unknown, Short, Parts}
use Rattle.card_format.specs.Places.{place}

-- the kind of the record behind so many, if all are in order, and the kinds of so many
unfoldable pub kind_at : ℕ → ℕ
kind_at zero = settings_kind
kind_at (suc n) = piece_kind

unfoldable pub orderly : ℕ → List ℕ
orderly zero = []
orderly (suc n) = settings_kind ∷ replicate n piece_kind

unfoldable pub goes_on : (ordered : Bool) (many kind : ℕ) → Bool
goes_on ordered many kind = ordered && eqb kind (kind_at many)

-- the records end at a kind 3, with its position, their number, and whether they are in order so far as their number goes
pub record CutsAt (card : List ℕ) (at many : ℕ) (ordered : Bool) : Type 0 where
  pub parts : Parts card
  pub long : length (in_bytes parts.records) ≡ at
  pub count : length parts.records ≡ many
  pub order : ordered ≡ same_bytes (kinds parts.records) (orderly many)

-- they end so, or before: at a byte that is no kind, or too early
abbrev pub Cuts : List ℕ → Result Cut Reason → Type 0
Cuts card (Ok c) = CutsAt card c.at c.many c.ordered
Cuts card (Err why) = ((why ≡ UnknownKind) × Unknown card) ⊎ ((why ≡ CardCutShort) × Short card)

-- whether what stands at these places of the rule is all 00
abbrev pub IsPadding : (card : List ℕ) (from to : ℕ) → Bool → Type 0
IsPadding card from to true = (i : ℕ) → from ≤ i → i < to → get_or card (place i) 0 ≡ 0
IsPadding card from to false = (i : ℕ) × (from ≤ i) × (i < to) × (¬ (get_or card (place i) 0 ≡ 0))

-- bytes are a card whose rule is so long
pub record IsCard (card : List ℕ) (size : ℕ) : Type 0 where
  pub said : Card
  pub is : card_in card ≡ holds said
  pub sized : length said.rule ≡ size

abbrev pub Finds : List ℕ → Result ℕ Reason → Type 0
Finds card (Ok size) = IsCard card size
Finds card (Err why) = card_in card ≡ fails why
