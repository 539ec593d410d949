-- What a writer of numbers promises.
use Rattle.std.specs.Prelude.{◌≡◌, List, ℕ, ◌+◌, ◌<◌, get_or}

-- nothing below a position changed
abbrev pub Below : ℕ → (new old : List ℕ) → Type 0
Below p new old = (i : ℕ) → i < p → get_or new i 0 ≡ get_or old i 0

-- the first n of some numbers were written from p on, and nothing below p changed
pub record Wrote (old new : List ℕ) (p n : ℕ) (numbers : List ℕ) : Type 0 where
  pub below : Below p new old
  pub at : (i : ℕ) → i < n → get_or new (p + i) 0 ≡ get_or numbers i 0
