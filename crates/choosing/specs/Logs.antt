-- The log stays within what is lent for it.
use Rattle.std.specs.Prelude.{List, ℕ, ◌≤◌, length}
use Rattle.choosing.specs.declared.log.Log.{Log}

abbrev pub Within : (proposal ways : List ℕ) → Log → Type 0
Within proposal ways log = (log.used ≤ length proposal) × (log.used ≤ length ways)
