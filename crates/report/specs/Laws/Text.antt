-- Facts about the text that is shown, and about the search for a byte that is shown as a dot.
use Rattle.std.specs.Prelude.{◌≡◌, refl, List, [], ◌∷◌, ◌++◌, true, false, not, ℕ, zero, suc, ◌≤◌, ◌<◌, min, length, take, drop, get_or}
use Rattle.std.proofs.Common.{ap, ◌∙◌, zero-add, drop_of_length-le, drop-cons}
use Rattle.std.proofs.lemmas.List.{length-map, take_min}
use Rattle.std.proofs.Math.ListN.{get_or-map}
use Rattle.std.proofs.Math.Seq.{paste}
use Rattle.std.specs.List.{list_any}
use Rattle.report.specs.Text.{is_printed, shown_byte, shown_text, is_odd}

-- The text ------------------------------------------------------------------

pub shown-length : (line : List ℕ) → length (shown_text line) ≡ length line
unfolding shown_text
shown-length line = length-map line shown_byte

pub shown-at : (line : List ℕ) (i : ℕ) → get_or (shown_text line) i (shown_byte 0) ≡ shown_byte (get_or line i 0)
unfolding shown_text
shown-at line i = get_or-map shown_byte line i 0

shown-take : (n : ℕ) (line : List ℕ) → take n (shown_text line) ≡ shown_text (take n line)
unfolding shown_text
shown-take zero line = refl
shown-take (suc n) [] = refl
shown-take (suc n) (b ∷ bs) = ap (λ (l : List ℕ). shown_byte b ∷ l) (shown-take n bs)

-- what stands in a window after as many bytes were shown as there are and as there is room for
pub shown-whole : (line out : List ℕ) (n : ℕ) → n ≡ min (length out) (length line) → paste out 0 (shown_text line) n ≡ shown_text (take (length out) line) ++ drop n out
shown-whole line out n e =
    rw (zero-add n)
    (ap (λ (l : List ℕ). l ++ drop n out)
    (shown-take n line ∙ ap (λ (k : ℕ). shown_text (take k line)) e ∙ ap shown_text (take_min (length out) line)))

-- Dots ------------------------------------------------------------------------

pub odd-next : (line : List ℕ) (i : ℕ) → i < length line → is_printed (get_or line i 0) ≡ true → is_odd (drop i line) ≡ is_odd (drop (suc i) line)
unfolding is_odd
odd-next line i h e = rw (drop-cons line i 0 h, e)

pub odd-here : (line : List ℕ) (i : ℕ) → i < length line → is_printed (get_or line i 0) ≡ false → is_odd (drop i line) ≡ true
unfolding is_odd
odd-here line i h e = rw (drop-cons line i 0 h, e)

pub odd-none : (line : List ℕ) (i : ℕ) → length line ≤ i → is_odd (drop i line) ≡ false
unfolding is_odd
odd-none line i h = rw (drop_of_length-le line h)

-- the search for such a byte
pub odd-is_any : (line : List ℕ) → list_any (λ b. not (is_printed b)) line ≡ is_odd line
unfolding is_odd
odd-is_any [] = refl
odd-is_any (b ∷ bs) = rw (odd-is_any bs)
