-- The first line of what is left of a buffer ends where `text` finds its end, and the others stand behind that.
use Rattle.std.specs.Prelude.{◌≡◌, refl, List, [], ◌∷◌, Bool, true, false, cond, ℕ, suc, ◌+◌, ◌-◌, ◌<◌, eqb, length, take, drop}
use Rattle.std.proofs.Common.{ap, arith, length-drop, drop-drop}
use Rattle.text.specs.Lines.{newline, line_length}
use Rattle.frame.specs.Inputs.{between}
use Rattle.semantics.specs.Assertions.{is_newline}
use Rattle.semantics.specs.Batches.{before, lines_of}

first-line : (s : List ℕ) → 0 < length s → lines_of s ≡ take (line_length s) s ∷ lines_of (drop (suc (line_length s)) s)
unfolding lines_of before is_newline line_length newline
first-line [] h = absurd (omega arith)
first-line (b ∷ []) h = go (eqb b 10)
  where
    go : (t : Bool) → before t b [] ≡ take (cond t 0 1) (b ∷ []) ∷ lines_of (drop (suc (cond t 0 1)) (b ∷ []))
    go true = refl
    go false = refl
first-line (b ∷ a ∷ s) h = go (eqb b 10) (first-line (a ∷ s) (omega arith))
  where
    go : (t : Bool) → lines_of (a ∷ s) ≡ take (line_length (a ∷ s)) (a ∷ s) ∷ lines_of (drop (suc (line_length (a ∷ s))) (a ∷ s))
        → before t b (lines_of (a ∷ s)) ≡ take (cond t 0 (suc (line_length (a ∷ s)))) (b ∷ a ∷ s) ∷ lines_of (drop (suc (cond t 0 (suc (line_length (a ∷ s))))) (b ∷ a ∷ s))
    go true e = refl
    go false e = ap (before false b) e

-- the same from a position on, up to the position of the line's end
pub next-line : (buffer : List ℕ) (from to : ℕ) → from < length buffer → to ≡ from + line_length (drop from buffer)
    → lines_of (drop from buffer) ≡ between buffer from to ∷ lines_of (drop (to + 1) buffer)
next-line buffer from to h e =
    let s = drop from buffer in
    let n : to - from ≡ line_length s = omega arith in
    let m : to + 1 ≡ from + suc (line_length s) = omega arith in
    rw (n, m, ← (drop-drop (suc (line_length s)) from buffer)) (first-line s (omega (arith, length-drop from buffer)))
