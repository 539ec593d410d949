use mathlib.Core.Path.{◌≡◌}
use lib.ListN.{length}
use Rattle.choosing.specs.Logs.{Within}
use Rattle.choosing.proofs.choices.note_rounds.Given as goal

abbrev pub invariant-loop : goal.invariant-loop
invariant-loop l = Within l.proposal l.ways l.on × (length l.proposal ≡ length l.initial.proposal) × (length l.ways ≡ length l.initial.ways)
