-- Areas of which the first numbers are written, as a call leaves them.
use Rattle.std.specs.Prelude.{◌≡◌, refl, List, [], ◌++◌, ℕ, ◌+◌, ◌≤◌, length, take, drop, replicate}
use Rattle.std.proofs.Common.{sym, ◌∙◌, ap, arith, length-append, length-drop}
use Rattle.std.proofs.lemmas.List.{length-replicate}
use Rattle.semantics.specs.Calls.{over, cleared}
use Rattle.semantics.proofs.Laws.Areas.{over-more}

pub cleared-is : (n : ℕ) (area : List ℕ) → cleared n area ≡ replicate n 0 ++ drop n area
unfolding cleared over
cleared-is n area = ap (λ (k : ℕ). replicate n 0 ++ drop k area) (length-replicate n 0)

-- it does not matter what stood in the part that is cleared
pub cleared-alike : (n : ℕ) (a b : List ℕ) → drop n a ≡ drop n b → cleared n a ≡ cleared n b
cleared-alike n a b e = cleared-is n a ∙ ap (λ (l : List ℕ). replicate n 0 ++ l) e ∙ sym (cleared-is n b)

pub over_none : (area : List ℕ) → over [] area ≡ area
unfolding over
over_none area = refl

pub over-length : (xs area : List ℕ) → length xs ≤ length area → length (over xs area) ≡ length area
unfolding over
over-length xs area h = simp (length-append, length-drop) (omega arith)

-- numbers written where none were written before
pub over_first : (ys area : List ℕ) (n : ℕ) → length ys ≡ n → take 0 area ++ (ys ++ drop (0 + n) area) ≡ over ys area
unfolding over
over_first ys area n h = over-more [] ys area 0 n refl h
