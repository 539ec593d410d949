-- Filling the front of an area with a list, one number after another.
use Rattle.std.specs.Prelude.{◌≡◌, refl, List, [], ◌∷◌, ◌++◌, ℕ, zero, suc, ◌+◌, ◌≤◌, ◌<◌, length, get_or, set, take, drop}
use Rattle.std.proofs.Common.{ap, arith, add-one, take_all}
use Rattle.semantics.specs.Calls.{over}

-- its first ones, and behind them what stood there
abbrev pub filled : (s area : List ℕ) (i : ℕ) → List ℕ
filled s area i = take i s ++ drop i area

set_next : (s area : List ℕ) (i : ℕ) → i < length s → length s ≤ length area → set (filled s area i) i (get_or s i 0) ≡ filled s area (suc i)
set_next [] area i l h = absurd (omega arith)
set_next (b ∷ s) [] i l h = absurd (omega arith)
set_next (b ∷ s) (a ∷ area) zero l h = refl
set_next (b ∷ s) (a ∷ area) (suc i) l h = ap (λ (x : List ℕ). b ∷ x) (set_next s area i (omega arith) (omega arith))

-- one more, as a loop stores it
pub filled_more : (s area now : List ℕ) (i b : ℕ) → i < length s → length s ≤ length area → now ≡ filled s area i → b ≡ get_or s i 0 → set now i b ≡ filled s area (i + 1)
filled_more s area now i b l h e f = rw (e, f, add-one i) (set_next s area i l h)

pub filled-all : (s area : List ℕ) (i : ℕ) → i ≡ length s → filled s area i ≡ over s area
unfolding over
filled-all s area i e = rw (e, take_all (length s) s (omega arith))
