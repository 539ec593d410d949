-- Laws of the ends of words, by their positions in a line. Assumes nothing.
use Rattle.std.specs.Prelude.{◌≡◌, Bool, ℕ, ◌+◌, ◌-◌, ◌≤◌, ◌<◌, get_or, take, drop, eqb}
use Rattle.std.proofs.Math.Path.{refl}
use Rattle.std.proofs.Common.{sym, ◌∙◌, drop_of_length-le, drop-cons, get_or-take, length-take-le, take_all, eq-eqb, ne_eqb}
use mathlib.Core.List.{List, [], ◌∷◌}
use Rattle.std.proofs.Math.Bool.{true, false}
use native.Mathlib.Omega.{arith}
use Rattle.std.proofs.Math.Numerals.{add-one}
use Rattle.std.proofs.Math.ListN.{length, length-drop}
use Rattle.vectors.specs.Text.{up_to, end_by, word_end, next_word}

-- The first of a byte ---------------------------------------------------------

module _ (x : ℕ) where
  up_by : (b : ℕ) (bs : List ℕ) (t : Bool) → eqb b x ≡ t → length (up_to x bs) ≤ length bs → length (up_to x (b ∷ bs)) ≤ length (b ∷ bs)
  unfolding up_to
  up_by b bs true e h = simp e (omega arith)
  up_by b bs false e h = simp e (omega arith)

  up-within : (s : List ℕ) → length (up_to x s) ≤ length s
  unfolding up_to
  up-within [] = omega arith
  up-within (b ∷ bs) = up_by b bs (eqb b x) refl (up-within bs)

  module _ (s : List ℕ) (i : ℕ) where
    pub end-least : i ≤ end_by x s i
    unfolding end_by
    end-least = omega arith

    pub end-within : i ≤ length s → end_by x s i ≤ length s
    unfolding end_by
    end-within h = let k : length (up_to x (drop i s)) ≤ length s - i = simp length-drop at (up-within (drop i s)) in omega arith

    -- how a loop that looks for the byte goes: it is here, it is not, or the bytes end
    pub end-here : i < length s → get_or s i 0 ≡ x → end_by x s i ≡ i
    unfolding end_by up_to
    end-here h e = rw (drop-cons s i 0 h) (simp (eq-eqb _ x e) (omega arith))

    pub end_later : i < length s → (get_or s i 0 ≡ x → ⊥) → end_by x s i ≡ end_by x s (i + 1)
    unfolding end_by up_to
    end_later h e = rw (drop-cons s i 0 h, add-one i) (simp (ne_eqb _ x e) (omega arith))

    pub end-past : length s ≤ i → end_by x s i ≡ i
    unfolding end_by up_to
    end-past h = rw (drop_of_length-le s h) (omega arith)

-- Words -------------------------------------------------------------

module _ (s : List ℕ) (to : ℕ) (k : to ≤ length s) where
  cut : length (take to s) ≡ to
  cut = length-take-le to s k

  module _ (i : ℕ) where
    pub word-here : i < to → get_or s i 0 ≡ 32 → word_end s i to ≡ i
    word-here h e = end-here 32 (take to s) i (omega (arith, cut)) (get_or-take to s i 0 h ∙ e)

    pub word-later : i < to → (get_or s i 0 ≡ 32 → ⊥) → word_end s i to ≡ word_end s (i + 1) to
    word-later h e = end_later 32 (take to s) i (omega (arith, cut)) (λ q. e (sym (get_or-take to s i 0 h) ∙ q))

    pub word-past : to ≤ i → word_end s i to ≡ i
    word-past h = end-past 32 (take to s) i (omega (arith, cut))

  module _ (from r : ℕ) (e : r ≡ word_end s from to) where
    pub word-least : from ≤ r
    word-least = rw e (end-least 32 (take to s) from)

    pub word-within : from ≤ to → r ≤ to
    word-within h = rw e (rw cut at (end-within 32 (take to s) from (omega (arith, cut))))

module _ (from to r : ℕ) (e : r ≡ next_word from to) where
  pub next-within : r ≤ to
  unfolding next_word
  next-within = omega arith

-- What is cut at a byte, by positions: the cut is made where the byte stands, and what is behind it begins behind that.
module _ (x : ℕ) (s l : List ℕ) where
  pub cut-ends : l ≡ up_to x s → length l ≡ end_by x s 0
  unfolding end_by
  cut-ends e = rw e (omega arith)

  pub cut-next : l ≡ drop (length (up_to x s) + 1) s → length l ≡ length s - next_word (end_by x s 0) (length s)
  unfolding end_by next_word
  cut-next e = rw e (simp length-drop (omega arith))

-- the blank is such a byte: the word before it ends there
pub cut-word : (s l : List ℕ) → l ≡ up_to 32 s → length l ≡ word_end s 0 (length s)
cut-word s l e = rw (take_all (length s) s (omega arith)) (cut-ends 32 s l e)
