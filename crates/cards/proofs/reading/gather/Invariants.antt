use mathlib.Core.Path.{◌≡◌}
use Prim.Native.Nat.{◌≤◌}
use lib.ListN.{length}
use Rattle.card_format.specs.Cards.{Card, written}
use Rattle.card_format.proofs.Laws.Filling.{filled}
use Rattle.cards.proofs.reading.gather.Given as goal

abbrev pub invariant-loop-i : goal.invariant-loop-i
invariant-loop-i l = (l.i ≤ l.size) × (length l.area ≡ length l.initial.area) × ((k : Card) → l.card ≡ written k → length k.rule ≡ l.size → l.area ≡ filled k.rule l.initial.area l.i)
