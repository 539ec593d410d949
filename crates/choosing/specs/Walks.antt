-- What a walk wrote down is part of the proposal's area.
use Rattle.std.specs.Prelude.{List, ℕ, ◌≤◌, Result, IfOk, length}
use Rattle.choosing.specs.declared.Unmade.{Unmade}

abbrev pub Noted : (proposal : List ℕ) → Result ℕ Unmade → Type 0
Noted proposal r = IfOk r (λ n. n ≤ length proposal)
