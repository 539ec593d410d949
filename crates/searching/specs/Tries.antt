-- The first try of a search: what the code tells of it, and what is left to the starts behind it.
-- docs/REFERENCE.md, 16.4
use Rattle.std.specs.Prelude.{◌≡◌, List, [], Bool, ℕ, ◌-◌, ◌≤◌, length}
use Rattle.syntax.specs.Tree.{Rule}
use Rattle.semantics.specs.Answers.{exhausted}
use Rattle.semantics.specs.Scans.{search_from}
use Rattle.semantics.proofs.Laws.Loops.{SeekAt}
use Rattle.machine.specs.declared.Stop.{Stop}
use Rattle.machine.specs.declared.Stop.TheVariants.{End, Nothing, Spent}
use Rattle.seeking.specs.Starts.{Match}

-- How the first try came out, with these registers left behind, which were `first`: it answers the search, or nothing is left of its walk and the
-- starts behind it answer the search.
abbrev pub Tried : (sub : List ℕ) (x : Rule) (budget from : ℕ) (barred : Bool) (first regs : List ℕ) → Stop → Type 0
Tried sub x budget from barred first regs (End used m) = (used ≤ budget) × Match regs from m.at used (search_from sub x budget from barred)
Tried sub x budget from barred first regs (Nothing used) = (used ≤ budget) × (regs ≡ first) × SeekAt sub x budget (search_from sub x budget from barred) used from (length sub - from) (budget - used) []
Tried sub x budget from barred first regs Spent = search_from sub x budget from barred ≡ record { outcome = exhausted from; steps = budget }
