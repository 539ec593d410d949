-- The answers to an input that comes in pieces. A line of which only so many bytes are kept as tell that it is too long has the answer of
-- the whole line; and the answers to an input are those to its first line and then those to the rest.
use Rattle.std.specs.Prelude.{◌≡◌, Bool, ℕ, zero, suc, ◌+◌, ◌-◌, ◌≤◌, ◌<◌, drop, if◌then◌else◌}
use Rattle.std.proofs.Math.Path.{refl, sym, ap}
use Rattle.std.proofs.Common.{◌∙◌, arith, add-suc, add-one, length-drop, take_all, take-take, drop-drop}
use mathlib.Core.List.{List, [], ◌∷◌, ◌++◌, append-nil}
use Rattle.std.proofs.Math.Bool.{true, false}
use Rattle.std.proofs.Math.Logic.{inl, inr}
use Rattle.std.proofs.Math.ListN.{length, take, length-take}
use Rattle.std.proofs.Math.Seq.{drop-length, append_snoc}
use Rattle.std.proofs.Math.Dec.{eqb}
use Rattle.syntax.specs.Tree.{Rule}
use Rattle.semantics.proofs.Laws.Cases.{le-or}
use Rattle.text.specs.Gathering.{Gathered}
use Rattle.text.specs.Lines.{newline, line_length}
use Rattle.text.specs.Laws.Lines.{line_within}
use Rattle.gateway_answers.specs.Limits.{line_limit, held_limit}
use Rattle.gateway_answers.specs.Answers.{answer_line}
use Rattle.gateway_line.specs.Gateway.{last_answer, answers}
use Rattle.gateway_answers.specs.Laws.Calls.{long_answer}

-- Parts of lists ------------------------------------------------------------

take-cut : (n : ℕ) (h t : List ℕ) → take n (h ++ t) ≡ take n (take n h ++ t)
take-cut zero h t = refl
take-cut (suc n) [] t = refl
take-cut (suc n) (x ∷ h) t = ap (λ (l : List ℕ). x ∷ l) (take-cut n h t)

-- what two lists that agree at their beginning are continued by
take_more : (n : ℕ) (h g t : List ℕ) → take n h ≡ take n g → take n (h ++ t) ≡ take n (g ++ t)
take_more n h g t e = take-cut n h t ∙ ap (λ (l : List ℕ). take n (l ++ t)) e ∙ sym (take-cut n g t)

-- Lines that are cut --------------------------------------------------------

module _ (r : Rule × ℕ) where
  pub cut_answer : (h : List ℕ) → answer_line r (take held_limit h) ≡ answer_line r h
  unfolding held_limit
  cut_answer h = elim (le-or (length h) line_limit) [
    | inl k ↦ ap (λ (l : List ℕ). answer_line r l) (take_all (suc line_limit) h (omega arith))
    | inr k ↦ long_answer r (take (suc line_limit) h) (omega (arith, length-take (suc line_limit) h)) ∙ sym (long_answer r h k)
  ]

  cut_last : (h : List ℕ) → last_answer r (take held_limit h) ≡ last_answer r h
  unfolding held_limit last_answer
  cut_last [] = refl
  cut_last (b ∷ h) = cut_answer (b ∷ h)

  -- it is enough to hold so much of a line
  pub alike : (h g s : List ℕ) → take held_limit h ≡ take held_limit g → answers r h s ≡ answers r g s
  unfolding answers
  alike h g [] e = sym (cut_last h) ∙ ap (λ (l : List ℕ). last_answer r l) e ∙ cut_last g
  alike h g (b ∷ s) e = go (alike (h ++ (b ∷ [])) (g ++ (b ∷ [])) s (take_more held_limit h g (b ∷ []) e)) (eqb b newline)
    where
      same : answer_line r h ≡ answer_line r g
      same = sym (cut_answer h) ∙ ap (λ (l : List ℕ). answer_line r l) e ∙ cut_answer g

      go : answers r (h ++ (b ∷ [])) s ≡ answers r (g ++ (b ∷ [])) s → (t : Bool) → (if t then answer_line r h ++ answers r [] s else answers r (h ++ (b ∷ [])) s) ≡ (if t then answer_line r g ++ answers r [] s else answers r (g ++ (b ∷ [])) s)
      go later true = ap (λ (l : List ℕ). l ++ answers r [] s) same
      go later false = later

  -- The first line ------------------------------------------------------------

  -- an input in which it ends
  line_ends : (h s rest : List ℕ) → line_length s < length s → answers r h (s ++ rest) ≡ answer_line r (h ++ take (line_length s) s) ++ answers r [] (drop (suc (line_length s)) s ++ rest)
  unfolding answers line_length
  line_ends h [] rest k = absurd (omega arith)
  line_ends h (b ∷ s) rest k = go (line_ends (h ++ (b ∷ [])) s rest) (eqb b newline) refl
    where
      go : (line_length s < length s → answers r (h ++ (b ∷ [])) (s ++ rest) ≡ answer_line r (h ++ (b ∷ []) ++ take (line_length s) s) ++ answers r [] (drop (suc (line_length s)) s ++ rest))
          → (t : Bool) → eqb b newline ≡ t → answers r h ((b ∷ s) ++ rest) ≡ answer_line r (h ++ take (line_length (b ∷ s)) (b ∷ s)) ++ answers r [] (drop (suc (line_length (b ∷ s))) (b ∷ s) ++ rest)
      go later true e = rw (e, append-nil h)
      go later false e = rw (e, ← append_snoc h b (take (line_length s) s)) (later (omega (arith, rw e at k)))

  -- and one in which it does not
  line_goes_on : (h s rest : List ℕ) → length s ≤ line_length s → answers r h (s ++ rest) ≡ answers r (h ++ s) rest
  unfolding answers line_length
  line_goes_on h [] rest k = rw (append-nil h)
  line_goes_on h (b ∷ s) rest k = go (line_goes_on (h ++ (b ∷ [])) s rest) (eqb b newline) refl
    where
      go : (length s ≤ line_length s → answers r (h ++ (b ∷ [])) (s ++ rest) ≡ answers r (h ++ (b ∷ []) ++ s) rest) → (t : Bool) → eqb b newline ≡ t → answers r h ((b ∷ s) ++ rest) ≡ answers r (h ++ (b ∷ s)) rest
      go later true e = absurd (omega (arith, rw e at k))
      go later false e = rw (e, ← append_snoc h b s) (later (omega (arith, rw e at k)))

  -- the last piece
  pub last_of : (h : List ℕ) → 0 < length h → answers r h [] ≡ answer_line r h
  unfolding answers last_answer
  last_of [] k = absurd (omega arith)
  last_of (b ∷ h) k = refl

  pub nothing_held : (h : List ℕ) → length h ≡ 0 → answers r h [] ≡ []
  unfolding answers last_answer
  nothing_held [] e = refl
  nothing_held (b ∷ h) e = absurd (omega arith)

-- One line of a piece -------------------------------------------------------

pub end_within : (piece : List ℕ) (at end : ℕ) → at ≤ length piece → end ≡ at + line_length (drop at piece) → (at ≤ end) × (end ≤ length piece)
end_within piece at end k e = let w = line_within (drop at piece) in let l = length-drop at piece in (omega arith, omega arith)

module _ (r : Rule × ℕ) (piece line : List ℕ) (at have end held : ℕ) {new : List ℕ} (k : at ≤ length piece) (e : end ≡ at + line_length (drop at piece))
    (g : Gathered held_limit line have (take (end - at) (drop at piece)) new held) where
  -- the bytes of the line that are in the piece
  abbrev part : List ℕ
  part = take (line_length (drop at piece)) (drop at piece)

  holds : take held new ≡ take held_limit (take have line ++ part)
  holds = let f : end - at ≡ line_length (drop at piece) = omega arith in rw f at g.holds

  -- a line that does not end in the piece is held
  pub held_on : end ≡ length piece → (rest : List ℕ) → answers r (take have line) (drop at piece ++ rest) ≡ answers r (take held new) (drop end piece ++ rest)
  held_on f rest =
      let h = take have line in
      let s = drop at piece in
      let l = length-drop at piece in
      let j : length s ≤ line_length s = omega arith in
      line_goes_on r h s rest j
      ∙ alike r (h ++ s) (take held new) rest (rw (holds, take_all (line_length s) s j) (sym (take-take held_limit held_limit (h ++ s) (omega arith))))
      ∙ rw (f, drop-length piece)

  -- a line that ends in it is answered
  pub answered_at : (end ≡ length piece → ⊥)
      → (rest : List ℕ) → answers r (take have line) (drop at piece ++ rest) ≡ answer_line r (take held new) ++ answers r [] (drop (end + 1) piece ++ rest)
  answered_at f rest =
      let h = take have line in
      let s = drop at piece in
      let l = length-drop at piece in
      let w = line_within s in
      line_ends r h s rest (omega arith)
      ∙ rw (holds, cut_answer r (h ++ part), e, add-one, ← add-suc, ← drop-drop (suc (line_length s)) at piece)
