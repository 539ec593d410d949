use mathlib.Core.Path.{◌≡◌}
use Prim.Native.Nat.{◌≤◌}
use lib.ListN.{length}
use Rattle.card_format.specs.Cards.{written}
use Rattle.card_format.specs.CardDemands.{card_of}
use Rattle.card_format.proofs.Laws.Filling.{filled}
use Rattle.card_records.proofs.bytes.put_card.Given as goal

abbrev pub invariant-loop-i : goal.invariant-loop-i
invariant-loop-i l = (l.i ≤ l.total) × (length l.area ≡ length l.initial.area) × (l.area ≡ filled (written (card_of l.rule l.flags l.budget l.groups)) l.initial.area l.i)
