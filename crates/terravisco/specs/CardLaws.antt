-- The place of a refusal that a call on a card gives fits into 32 bits, so that it can be told.
use Rattle.std.specs.Prelude.{◌≡◌, List, ℕ, ◌≤◌, length}
use Rattle.std.proofs.Common.{sym, arith}
use Rattle.syntax.specs.declared.Reason.{Reason}
use Rattle.syntax.specs.Limits.{rule_limit}
use Rattle.syntax.specs.Read.{Read, refused}
use Rattle.syntax.specs.Reading.{reading}
use Rattle.syntax.proofs.Laws.Places.{Placed, reading-placed}
use Rattle.card_format.specs.Cards.{WriteOutcome, write_wrote, write_refused, write_call, ReadOutcome, read_holds, read_refused, read_call}
use Rattle.card_format.specs.CardDemands.{Bytes, Unsound, itself, its_own, WriteRefuses, area_short, unsound, ReadRefuses, no_card, miscounted}
use Rattle.card_format.proofs.CardDemandsHold.{write-meets-demands, read-meets-demands}
use Rattle.card_format.proofs.Laws.Ruling.{faultless-fitting}
use Rattle.answers.specs.CardLaws.{WritePlaced, ReadPlaced}

of-reading : {A : Type 0} (n : ℕ) (x : Read A) (place : ℕ) (why : Reason) → x ≡ refused place why → Placed n x → place ≤ n
of-reading n x place why e h = rw e at h

unsound-placed : {rule : List ℕ} {flags budget : ℕ} {rule_area : List ℕ} {place : ℕ} {why : Reason} → Unsound rule flags budget rule_area place why → place ≤ rule_limit
unsound-placed (itself f) = omega arith
unsound-placed {rule} {flags} {budget} {rule_area} (its_own {place} {why} f e) =
    omega (arith, of-reading (length rule) (reading rule flags) place why e (reading-placed rule flags), (faultless-fitting rule flags budget rule_area f).rule_fits)

write-placed : {rule : List ℕ} {flags budget : ℕ} {rule_area area : List ℕ} {place : ℕ} {why : Reason} → WriteRefuses rule flags budget rule_area area place why → place ≤ rule_limit
write-placed (area_short l) = omega arith
write-placed (unsound room u) = unsound-placed u

read-placed : {card rule_area area : List ℕ} {place : ℕ} {why : Reason} → ReadRefuses card rule_area area place why → place ≤ rule_limit
read-placed (area_short l) = omega arith
read-placed (no_card room f) = omega arith
read-placed (unsound room k is u) = unsound-placed u
read-placed (miscounted room k is groups z h) = omega arith

-- what the code's outcome is, a place in it fits
pub write-told : (rule : List ℕ) (flags budget : ℕ) (rule_area area : List ℕ) (o : WriteOutcome) → o ≡ (write_call rule flags budget rule_area area).outcome → WritePlaced o
write-told rule flags budget rule_area area (write_wrote n) e = tt
write-told rule flags budget rule_area area (write_refused place why) e = write-placed (((write-meets-demands rule flags budget rule_area area).refused_exactly place why).0 (sym e))

pub read_told : (card rule_area area : List ℕ) → Bytes card → (o : ReadOutcome) → o ≡ (read_call card rule_area area).outcome → ReadPlaced o
read_told card rule_area area bytes (read_holds size flags budget groups) e = tt
read_told card rule_area area bytes (read_refused place why) e = read-placed (((read-meets-demands card rule_area area bytes).refused_exactly place why).0 (sym e))
