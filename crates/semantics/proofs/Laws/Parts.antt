-- The parts that stand for lines: each has as many numbers as it needs, so that the part of a line stands where 02 says, and what is written of the
-- first lines can be gone on with. Areas that are the same part by part are the same.
use Rattle.std.specs.Prelude.{◌≡◌, refl, ◌↔◌, get_or, take}
use Rattle.std.proofs.Common.{ap, ◌∙◌, arith, div-lt_iff_lt-mul, zero-mul, one-mul, add-mul, take-append-drop, take-take, length-take-le}
use Rattle.std.proofs.Math.Path.{sym}
use mathlib.Core.List.{List, [], ◌∷◌, ◌++◌, append_assoc, append-nil}
use Prim.Native.Nat.{ℕ, zero, suc, ◌+◌, ◌*◌, ◌/◌, ◌≤◌, ◌<◌}
use Rattle.std.proofs.Math.Nat.{suc-mul}
use Rattle.std.proofs.Math.ListN.{length, drop, length-append, length-drop}
use Rattle.std.proofs.Math.Seq.{take_at, drop_at, drop-drop, drop-append-add}
use Rattle.syntax.specs.Limits.{row_length, part_length}
use Rattle.semantics.specs.Calls.{Call, over, MatchOutcome, match_matched, match_not_matched, match_exhausted, match_refused, match_call}
use Rattle.semantics.specs.Batches.{line_call, outcome_numbers, told, part_of, parts, parts_need}
use Rattle.semantics.specs.BatchDemands.{part}
use Rattle.semantics.proofs.Laws.Areas.{over_nothing, over-more}
use Rattle.semantics.proofs.Laws.LentAreas.{results-keep-length}

-- Lengths -------------------------------------------------------------------------

pub part-is-long : 0 < part_length
unfolding part_length
part-is-long = omega arith

pub row-in-part : row_length ≤ part_length
unfolding part_length
row-in-part = omega arith

-- "7 is given here only if lines outnumber parts": the parts that fit into an area
pub lines-outnumber-parts : (lines : List (List ℕ)) (area : List ℕ) → (length area < parts_need lines) ↔ (length area / part_length < length lines)
unfolding parts_need
lines-outnumber-parts lines area = let f = div-lt_iff_lt-mul {k = part_length} {x = length area} {y = length lines} part-is-long in (f.1, f.0)

-- "then four numbers"
pub four-numbers : (o : MatchOutcome) → length (outcome_numbers o) ≡ 4
unfolding outcome_numbers
four-numbers (match_matched steps) = refl
four-numbers (match_not_matched steps) = refl
four-numbers (match_exhausted start steps) = refl
four-numbers (match_refused place why) = refl

-- Areas that parts are written into ---------------------------------------------------

-- the area has room for the parts of these lines
abbrev Fit : List (List ℕ) → List ℕ → Type 0
Fit lines area = parts_need lines ≤ length area

pub fit-first : (line : List ℕ) (lines : List (List ℕ)) (area : List ℕ) → Fit (line ∷ lines) area → (part_length ≤ length area) × Fit lines (drop part_length area)
unfolding parts_need
fit-first line lines area h = let e = suc-mul (length lines) part_length in (omega arith, omega (arith, length-drop part_length area))

fit_next : (lines : List (List ℕ)) (line area : List ℕ) → Fit (lines ++ (line ∷ [])) area → parts_need lines + part_length ≤ length area
unfolding parts_need
fit_next lines line area h = omega (arith, rw (length-append lines (line ∷ []), add-mul (length lines) 1 part_length, one-mul part_length) at h)

over-behind : (xs ys area : List ℕ) → over (xs ++ ys) area ≡ xs ++ over ys (drop (length xs) area)
unfolding over
over-behind xs ys area = rw (append_assoc xs ys (drop (length (xs ++ ys)) area), length-append xs ys, drop-drop (length ys) (length xs) area)

later : (i : ℕ) (xs ys : List ℕ) → length xs ≡ part_length → drop (suc i * part_length) (xs ++ ys) ≡ drop (i * part_length) ys
later i xs ys e = let q : suc i * part_length ≡ length xs + i * part_length = omega (arith, suc-mul i part_length) in rw q (drop-append-add xs ys (i * part_length))

-- One part and all of them --------------------------------------------------------------

module _ (c : Call) where
  -- of a line's match with a whole row to write into
  abbrev Whole : List ℕ → Type 0
  Whole there = row_length ≤ length there

  row-length : (line there : List ℕ) → Whole there → length (match_call (line_call c line (take row_length there))).result_area ≡ row_length
  row-length line there h = results-keep-length (line_call c line (take row_length there)) ∙ length-take-le row_length there h

  pub part_length_lem : (line there : List ℕ) → Whole there → length (part_of c line there) ≡ part_length
  unfolding part_of told part_length
  part_length_lem line there h =
      let x = match_call (line_call c line (take row_length there)) in
      length-append x.result_area (outcome_numbers x.outcome) ∙ omega (arith, row-length line there h, four-numbers x.outcome)

  -- its row, and then its four numbers
  pub part-row : (line there : List ℕ) → Whole there → take row_length (part_of c line there) ≡ (match_call (line_call c line (take row_length there))).result_area
  unfolding part_of told
  part-row line there h = let x = match_call (line_call c line (take row_length there)) in take_at x.result_area (outcome_numbers x.outcome) row_length (row-length line there h)

  pub part-numbers : (line there : List ℕ) → Whole there → drop row_length (part_of c line there) ≡ outcome_numbers (match_call (line_call c line (take row_length there))).outcome
  unfolding part_of told
  part-numbers line there h = let x = match_call (line_call c line (take row_length there)) in drop_at x.result_area (outcome_numbers x.outcome) row_length (row-length line there h)

  -- what stands behind the part does not matter
  part-alone : (line area : List ℕ) → part_of c line area ≡ part_of c line (take part_length area)
  unfolding part_of
  part-alone line area = rw (take-take row_length part_length area row-in-part)

  pub parts-length : (lines : List (List ℕ)) (area : List ℕ) → Fit lines area → length (parts c lines area) ≡ parts_need lines
  unfolding parts parts_need
  parts-length [] area h = sym (zero-mul part_length)
  parts-length (line ∷ lines) area h =
      let f = fit-first line lines area h in
      length-append (part_of c line area) (parts c lines (drop part_length area)) ∙ omega (arith, part_length_lem line area (omega (arith, row-in-part, f.0)), parts-length lines (drop part_length area) f.1, suc-mul (length lines) part_length)

  -- Where a line's part stands ----------------------------------------------------------

  -- the first part, and then those of the later lines over what stands behind it
  pub first_part : (line : List ℕ) (lines : List (List ℕ)) (area : List ℕ) → Fit (line ∷ lines) area → over (parts c (line ∷ lines) area) area ≡ part_of c line area ++ over (parts c lines (drop part_length area)) (drop part_length area)
  unfolding parts
  first_part line lines area h =
      let l = part_length_lem line area (omega (arith, row-in-part, (fit-first line lines area h).0)) in
      over-behind (part_of c line area) (parts c lines (drop part_length area)) area ∙ rw l

  pub part_of-line : (lines : List (List ℕ)) (area : List ℕ) → Fit lines area → (i : ℕ) → i < length lines → part i (over (parts c lines area) area) ≡ part_of c (get_or lines i []) (part i area)
  part_of-line [] area h i l = absurd (omega arith)
  part_of-line (line ∷ lines) area h zero l =
      let f = fit-first line lines area h in
      let size = part_length_lem line area (omega (arith, row-in-part, f.0)) in
      rw (first_part line lines area h, zero-mul part_length) (take_at (part_of c line area) _ part_length size ∙ part-alone line area)
  part_of-line (line ∷ lines) area h (suc i) l =
      let f = fit-first line lines area h in
      let size = part_length_lem line area (omega (arith, row-in-part, f.0)) in
      let q : suc i * part_length ≡ part_length + i * part_length = omega (arith, suc-mul i part_length) in
      rw (first_part line lines area h, later i (part_of c line area) (over (parts c lines (drop part_length area)) (drop part_length area)) size)
      (part_of-line lines (drop part_length area) f.1 i (omega arith) ∙ rw (drop-drop (i * part_length) part_length area, q))

  pub others-stay : (lines : List (List ℕ)) (area : List ℕ) → Fit lines area → drop (parts_need lines) (over (parts c lines area) area) ≡ drop (parts_need lines) area
  unfolding over
  others-stay lines area h = let l = parts-length lines area h in rw l (drop_at (parts c lines area) (drop (parts_need lines) area) (parts_need lines) l)

  -- Going on ----------------------------------------------------------------------------

  -- the parts of some lines, and then those of more
  pub parts-append : (lines more : List (List ℕ)) (area : List ℕ) → parts c (lines ++ more) area ≡ parts c lines area ++ parts c more (drop (parts_need lines) area)
  unfolding parts parts_need
  parts-append [] more area = rw (zero-mul part_length)
  parts-append (line ∷ lines) more area =
      let q : suc (length lines) * part_length ≡ part_length + length lines * part_length = omega (arith, suc-mul (length lines) part_length) in
      rw (parts-append lines more (drop part_length area), append_assoc (part_of c line area) (parts c lines (drop part_length area)) _, drop-drop (length lines * part_length) part_length area, q)

  -- one line more: its part is written behind those that stand, over what was there
  pub next-part : (lines : List (List ℕ)) (line area : List ℕ) → Fit (lines ++ (line ∷ [])) area → (n : ℕ) (now : List ℕ) → n ≡ parts_need lines → now ≡ over (parts c lines area) area
      → over (parts c (lines ++ (line ∷ [])) area) area ≡ take n now ++ (part_of c line (drop n now) ++ drop (n + part_length) now)
  unfolding parts
  next-part lines line area h n now e f =
      let k = fit_next lines line area h in
      let p = parts-length lines area (omega arith) in
      let behind : drop n now ≡ drop n area = rw (e, f) (others-stay lines area (omega arith)) in
      let q = part_length_lem line (drop n area) (omega (arith, row-in-part, length-drop n area)) in
      let all : parts c (lines ++ (line ∷ [])) area ≡ parts c lines area ++ part_of c line (drop n area) = parts-append lines (line ∷ []) area ∙ rw (← e) (ap (λ (l : List ℕ). parts c lines area ++ l) (append-nil (part_of c line (drop n area)))) in
      rw (all, behind, f) (sym (over-more (parts c lines area) (part_of c line (drop n area)) area n part_length (p ∙ sym e) q))

  -- the same by what is left: where a line's part is written, the rest of the area stays to be written over by the later lines
  pub part-written : (line : List ℕ) (lines : List (List ℕ)) (at : ℕ) (old new : List ℕ) → at + parts_need (line ∷ lines) ≤ length old → new ≡ take at old ++ (part_of c line (drop at old) ++ drop (at + part_length) old)
      → take at old ++ over (parts c (line ∷ lines) (drop at old)) (drop at old) ≡ take (at + part_length) new ++ over (parts c lines (drop (at + part_length) new)) (drop (at + part_length) new)
  part-written line lines at old new h e =
      let f : Fit (line ∷ lines) (drop at old) = omega (arith, length-drop at old) in
      let p = part_of c line (drop at old) in
      let q = part_length_lem line (drop at old) (omega (arith, row-in-part, (fit-first line lines (drop at old) f).0)) in
      let rest = drop (at + part_length) old in
      let n : length (take at old ++ p) ≡ at + part_length = length-append (take at old) p ∙ omega (arith, q, length-take-le at old (omega arith)) in
      let g : new ≡ (take at old ++ p) ++ rest = e ∙ sym (append_assoc (take at old) p rest) in
      rw (first_part line lines (drop at old) f, drop-drop part_length at old, g, take_at (take at old ++ p) rest (at + part_length) n, drop_at (take at old ++ p) rest (at + part_length) n)
      (sym (append_assoc (take at old) p (over (parts c lines rest) rest)))

  pub nothing_left : (at : ℕ) (area : List ℕ) → take at area ++ over (parts c [] (drop at area)) (drop at area) ≡ area
  unfolding parts
  nothing_left at area = rw (over_nothing (drop at area)) (take-append-drop at area)

-- Areas by parts ------------------------------------------------------------------------

pub same-by-parts : (n : ℕ) (xs ys : List ℕ) → ((i : ℕ) → i < n → part i xs ≡ part i ys) → drop (n * part_length) xs ≡ drop (n * part_length) ys → xs ≡ ys
same-by-parts zero xs ys f e = rw (zero-mul part_length) at e
same-by-parts (suc n) xs ys f e =
    let first : take part_length xs ≡ take part_length ys = rw (zero-mul part_length) at (f 0 (omega arith)) in
    let q : (i : ℕ) → suc i * part_length ≡ part_length + i * part_length = λ i. omega (arith, suc-mul i part_length) in
    let onwards : (i : ℕ) (zs : List ℕ) → drop (i * part_length) (drop part_length zs) ≡ drop (suc i * part_length) zs = λ i zs. drop-drop (i * part_length) part_length zs ∙ ap (λ (k : ℕ). drop k zs) (sym (q i)) in
    let rest = same-by-parts n (drop part_length xs) (drop part_length ys) (λ i l. rw (onwards i xs, onwards i ys) (f (suc i) (omega arith))) (rw (onwards n xs, onwards n ys) e) in
    sym (take-append-drop part_length xs) ∙ rw (first, rest) (take-append-drop part_length ys)
