-- "No ambiguous quantity reaches a forecast unmarked": where the word is matched, every reading from the match's start to its end gives each named field
-- the same bytes, and where it is ambiguous, one of them does not. The readings are all that have a derivation, listed or not. And no line forges a
-- column.
-- docs/REFERENCE.md, 19.3
use Rattle.std.proofs.Math.Path.{◌≡◌, refl, ap}
use Rattle.std.proofs.Common.{sym, ◌∙◌}
use Rattle.std.specs.Prelude.{Bool, not, ◌&&◌, ◌||◌, ℕ, ◌+◌, ◌≤◌, ◌<◌, leb, eqb, length, if◌then◌else◌}
use Rattle.std.proofs.Math.Bool.{true, false}
use mathlib.Core.List.{List, [], ◌∷◌}
use Rattle.std.proofs.Math.Logic.{inl, inr}
use native.Mathlib.Omega.{arith}
use borrow.Author.Tests.{eqb-true, eqb-false, leb-true, not-true, not-false}
use Rattle.std.proofs.Math.Dec.{ltb}
use Rattle.std.proofs.Math.ListN.{get_or}
use Rattle.std.proofs.lemmas.List.{length-map}
use Rattle.syntax.specs.Limits.{subject_limit}
use Rattle.syntax.specs.Read.{bytes}
use Rattle.syntax.specs.Sets.{same_bytes}
use Rattle.syntax.specs.Tree.{Rule}
use Rattle.semantics.specs.States.{State, Row, row}
use Rattle.semantics.specs.Answers.{Outcome, matched, not_matched, exhausted, answer, Ending, complete, full, exhausted_at, Listing, listing, known}
use Rattle.semantics.specs.Demands.{In, Reading, MatchedWhen, Precedes}
use Rattle.semantics.proofs.Laws.Cases.{clash, three, same_or, bool}
use Rattle.semantics.proofs.Laws.Matches.{demand_2, derives-reaches}
use Rattle.semantics.proofs.Laws.Listings.{demand_3}
use Rattle.semantics.proofs.Laws.ListCalls.{rows-read}
use Rattle.semantics.proofs.Laws.Newness.{known_in, new-not}
use Rattle.index.specs.Laws.Known.{same_self, same-equal}
use Rattle.text.specs.Lines.{newline}
use Rattle.fields_text.specs.Table.{tab}
use Rattle.fields_text.proofs.Laws.Columns.{Visible, count, columns-of-row, lines-of-row}
use Rattle.fields_row.specs.declared.words.Word.{Word}
use Rattle.fields_row.specs.declared.words.Word.TheVariants.{Matched, Ambiguous, Undecided, NotMatched, Exhausted, TooLong}
use Rattle.fields_row.specs.Fields.{field_named, fields, text_of, kind_of}
use Rattle.fields_compared.specs.Readings.{agree, is_other, is_ambiguous}
use Rattle.fields_line.specs.Answers.{Table, last_start, is_cut, verdict, tells, told, fields_of, row_for}
use Rattle.fields_compared.specs.Laws.Comparing.{same-stretch}

-- The readings of the match's start --------------------------------------------------

-- the last reading listed, if it is of another start
last-listed : (start : ℕ) (rows : List Row) → (last_start start rows ≡ start → ⊥) → (z : Row) × In z rows × (get_or z 0 0 ≡ last_start start rows)
unfolding last_start
last-listed start [] h = absurd (h refl)
last-listed start (x ∷ rows) h = elim (same_or (last_start (get_or x 0 0) rows) (get_or x 0 0)) [
  | inl e ↦ (x, inl refl, sym e)
  | inr k ↦ let z = last-listed (get_or x 0 0) rows k in (z.0, inr z.1, z.2)
]

module _ (line : List ℕ) (rule : Rule) (budget room start : ℕ) (end : State) (is : (answer line rule budget).outcome ≡ matched start end) where
  abbrev l : Listing
  l = listing line rule budget room

  when : MatchedWhen line rule budget start end
  when = ((demand_2 line rule budget).matched_exactly start end).0 is

  begins : (y : Row) (r : Reading line rule y) → get_or y 0 0 ≡ r.n
  unfolding row
  begins y r = rw r.is

  -- no reading begins before the match
  none_before : (y : Row) → Reading line rule y → start ≤ get_or y 0 0
  none_before y r = elim (three r.n start) [
    | inl h ↦ absurd ((when.leftmost r.n h).0 r.t r.derives)
    | inr x ↦ elim x [ inl e ↦ omega (arith, begins y r) | inr h ↦ omega (arith, begins y r) ]
  ]

  -- the earlier of two readings does not begin later
  in_order : (x y : Row) → Precedes line rule x y → get_or x 0 0 ≤ get_or y 0 0
  unfolding row
  in_order x y p = rw (p.left.is, p.right.is) (elim p.sooner [ inl h ↦ omega arith | inr h ↦ omega (arith, h.0) ])

  -- a listing that was not cut there has all readings of the match's start
  all_listed : is_cut start l.ending l.rows ≡ false → (y : Row) → Reading line rule y → get_or y 0 0 ≡ start → In y l.rows
  unfolding is_cut
  all_listed uncut y r s = go l.ending refl uncut
    where
      go : (e : Ending) → l.ending ≡ e → is_cut start e l.rows ≡ false → In y l.rows
      go complete e u = ((demand_3 line rule budget room).complete_rows e y).1 r
      go (exhausted_at n) e u =
          let other : n ≡ start → ⊥ = eqb-false n start u in
          let cut = ((demand_3 line rule budget room).cut_by_budget n).0 e in
          let reached = derives-reaches line rule r.n r.t r.start r.derives in
          let before : r.n < n = elim (three start n) [
            | inl h ↦ omega (arith, begins y r)
            | inr x ↦ elim x [ inl f ↦ absurd (other (sym f)) | inr h ↦ absurd (omega (arith, (when.leftmost n h).1, cut.overruns)) ]
          ] in
          ((demand_3 line rule budget room).rows_before_budget n e y).1 (record { m = r.n; k = reached.0; t = r.t; earlier = inl before; reaches = reached.1; is = r.is })
      go full e u = elim (bool (known y l.rows)) [
        | inl k ↦ known_in y l.rows k
        | inr k ↦
            let z = last-listed start l.rows (eqb-false (last_start start l.rows) start u) in
            let reading = rows-read line rule budget room l (demand_3 line rule budget room) z.0 z.1 in
            let late : start ≤ get_or z.0 0 0 = none_before z.0 reading in
            let p = (demand_3 line rule budget room).first_of_order z.0 y z.1 r (new-not y l.rows k) in
            absurd (eqb-false (last_start start l.rows) start u (omega (arith, z.2, late, s, in_order z.0 y p)))
      ]

-- The same fields ---------------------------------------------------------------------

or-false : (a b : Bool) → (a || b) ≡ false → (a ≡ false) × (b ≡ false)
or-false true b e = absurd (clash (cc))
or-false false b e = (refl, e)

and-true : (a b : Bool) → (a && b) ≡ true → (a ≡ true) × (b ≡ true)
and-true true b e = (refl, e)
and-true false b e = absurd (clash (cc))

module _ (index line standing : List ℕ) where
  -- none of the readings listed is another one
  not-other : (names : List (List ℕ)) (x : Row) (rows : List Row) → is_ambiguous index line standing names x rows ≡ false → (y : Row) → In y rows → is_other index line standing names x y ≡ false
  unfolding is_ambiguous
  not-other names x (z ∷ rows) e y (inl i) = rw (← i) (or-false (is_other index line standing names x z) (is_ambiguous index line standing names x rows) e).0
  not-other names x (z ∷ rows) e y (inr i) = not-other names x rows (or-false (is_other index line standing names x z) (is_ambiguous index line standing names x rows) e).1 y i
  not-other names x [] e y h = elim h [ ]

  -- readings that agree have the same fields
  same-fields : (x y : Row) (names : List (List ℕ)) → agree index line standing x y names ≡ true → fields index line standing 0 y names ≡ fields index line standing 0 x names
  unfolding agree fields
  same-fields x y [] e = refl
  same-fields x y (name ∷ names) e =
      let both = and-true (same_bytes (field_named index line standing 0 x name) (field_named index line standing 0 y name)) (agree index line standing x y names) e in
      ap (λ (f : List ℕ). f ∷ fields index line standing 0 y names) (sym (same-equal (field_named index line standing 0 x name) (field_named index line standing 0 y name) both.0))
      ∙ ap (λ (fs : List (List ℕ)). field_named index line standing 0 x name ∷ fs) (same-fields x y names both.1)

-- A line that is told as matched ----------------------------------------------------------

module _ (t : Table) (line : List ℕ) where
  chosen : (ambiguous cut : Bool) → (if ambiguous then Ambiguous else if cut then Undecided else Matched) ≡ Matched → (ambiguous ≡ false) × (cut ≡ false)
  chosen true cut e = absurd (clash (cc))
  chosen false true e = absurd (clash (cc))
  chosen false false e = (refl, refl)

  settled-by : (o : Outcome) → (answer line t.rule t.budget).outcome ≡ o → told t line ≡ tells t line o → (tells t line o).word ≡ Matched
      → (y : Row) → Reading line t.rule y → get_or y 0 0 ≡ get_or (told t line).reading 0 0 → get_or y 1 0 ≡ get_or (told t line).reading 1 0
      → fields t.index line t.standing 0 y t.names ≡ fields_of t line
  unfolding tells verdict fields_of kind_of row
  settled-by (matched start end) is told_is w y r s e =
      let x : Row = row start end in
      let l : Listing = listing line t.rule t.budget t.room in
      let v = chosen (is_ambiguous t.index line t.standing t.names x l.rows) (is_cut (get_or x 0 0) l.ending l.rows) w in
      let starts : get_or y 0 0 ≡ get_or x 0 0 = rw told_is at s in
      let ends : get_or y 1 0 ≡ get_or x 1 0 = rw told_is at e in
      let listed : In y l.rows = all_listed line t.rule t.budget t.room start end is v.1 y r starts in
      let alike : agree t.index line t.standing x y t.names ≡ true = not-false _ (sym (same-stretch t.index line t.standing t.names x y starts ends) ∙ not-other t.index line t.standing t.names x l.rows v.0 y listed) in
      rw (told_is, w) (same-fields t.index line t.standing x y t.names alike)
  settled-by not_matched is told_is w y r s e = absurd (clash (cc))
  settled-by (exhausted start) is told_is w y r s e = absurd (clash (cc))

  pub matched-settles : (told t line).word ≡ Matched
      → (y : Row) → Reading line t.rule y → get_or y 0 0 ≡ get_or (told t line).reading 0 0 → get_or y 1 0 ≡ get_or (told t line).reading 1 0
      → fields t.index line t.standing 0 y t.names ≡ fields_of t line
  unfolding told
  matched-settles w = go (ltb subject_limit (length line)) refl
    where
      go : (b : Bool) → ltb subject_limit (length line) ≡ b → (y : Row) → Reading line t.rule y → get_or y 0 0 ≡ get_or (told t line).reading 0 0 → get_or y 1 0 ≡ get_or (told t line).reading 1 0
          → fields t.index line t.standing 0 y t.names ≡ fields_of t line
      go true b = let z : ◌≡◌ {A = Word} TooLong Matched = rw b at w in absurd (clash (cc))
      go false b = settled-by (answer line t.rule t.budget).outcome refl (rw b) (rw b at w)

-- A line that is told as ambiguous -----------------------------------------------------------

module _ (index line standing : List ℕ) where
  other-one : (names : List (List ℕ)) (x : Row) (rows : List Row) → is_ambiguous index line standing names x rows ≡ true → (y : Row) × In y rows × (is_other index line standing names x y ≡ true)
  unfolding is_ambiguous
  other-one names x [] e = absurd (clash (cc))
  other-one names x (z ∷ rows) e = elim (bool (is_other index line standing names x z)) [
    | inl h ↦ (z, inl refl, h)
    | inr h ↦ let more = other-one names x rows (rw h at e) in (more.0, inr more.1, more.2)
  ]

  other-fields : (x y : Row) (names : List (List ℕ)) → agree index line standing x y names ≡ false → fields index line standing 0 y names ≡ fields index line standing 0 x names → ⊥
  unfolding agree fields
  other-fields x y [] e f = clash (cc)
  other-fields x y (name ∷ names) e f =
      let here : field_named index line standing 0 y name ≡ field_named index line standing 0 x name = cc in
      let more : fields index line standing 0 y names ≡ fields index line standing 0 x names = cc in
      let same : same_bytes (field_named index line standing 0 x name) (field_named index line standing 0 y name) ≡ true = rw here (same_self (field_named index line standing 0 x name)) in
      other-fields x y names (rw same at e) more

three-true : (a b c : Bool) → (a && b && c) ≡ true → (a ≡ true) × (b ≡ true) × (c ≡ true)
three-true true true true e = (refl, refl, refl)
three-true true true false e = absurd (clash (cc))
three-true true false c e = absurd (clash (cc))
three-true false b c e = absurd (clash (cc))

-- there is another reading from the match's start to its end, with other fields
pub record Doubt (t : Table) (line : List ℕ) : Type 0 where
  pub other : Row
  pub reading : Reading line t.rule other
  pub starts : get_or other 0 0 ≡ get_or (told t line).reading 0 0
  pub ends : get_or other 1 0 ≡ get_or (told t line).reading 1 0
  pub differs : fields t.index line t.standing 0 other t.names ≡ fields_of t line → ⊥

module _ (t : Table) (line : List ℕ) where
  in-doubt : (ambiguous cut : Bool) → (if ambiguous then Ambiguous else if cut then Undecided else Matched) ≡ Ambiguous → ambiguous ≡ true
  in-doubt true cut e = refl
  in-doubt false true e = absurd (clash (cc))
  in-doubt false false e = absurd (clash (cc))

  doubt-by : (o : Outcome) → (answer line t.rule t.budget).outcome ≡ o → told t line ≡ tells t line o → (tells t line o).word ≡ Ambiguous → Doubt t line
  unfolding tells verdict fields_of kind_of is_other
  doubt-by (matched start end) is told_is w =
      let x : Row = row start end in
      let l : Listing = listing line t.rule t.budget t.room in
      let y = other-one t.index line t.standing t.names x l.rows (in-doubt (is_ambiguous t.index line t.standing t.names x l.rows) (is_cut (get_or x 0 0) l.ending l.rows) w) in
      let all = three-true (eqb (get_or y.0 0 0) (get_or x 0 0)) (eqb (get_or y.0 1 0) (get_or x 1 0)) (not (agree t.index line t.standing x y.0 t.names)) y.2 in
      record {
        other = y.0;
        reading = rows-read line t.rule t.budget t.room l (demand_3 line t.rule t.budget t.room) y.0 y.1;
        starts = rw told_is (eqb-true (get_or y.0 0 0) (get_or x 0 0) all.0);
        ends = rw told_is (eqb-true (get_or y.0 1 0) (get_or x 1 0) all.1);
        differs = λ e. other-fields t.index line t.standing x y.0 t.names (not-true _ all.2) (rw (told_is, w) at e);
      }
  doubt-by not_matched is told_is w = absurd (clash (cc))
  doubt-by (exhausted start) is told_is w = absurd (clash (cc))

  pub ambiguous-doubts : (told t line).word ≡ Ambiguous → Doubt t line
  unfolding told
  ambiguous-doubts w = go (ltb subject_limit (length line)) refl
    where
      go : (b : Bool) → ltb subject_limit (length line) ≡ b → Doubt t line
      go true b = let z : ◌≡◌ {A = Word} TooLong Ambiguous = rw b at w in absurd (clash (cc))
      go false b = doubt-by (answer line t.rule t.budget).outcome refl (rw b) (rw b at w)

-- Columns -------------------------------------------------------------------------------

-- "a line can never forge a column": the row of a line has as many columns as the head, and is one line
abbrev is_visible : List ℕ → Bool
is_visible [] = true
is_visible (b ∷ s) = leb 32 b && is_visible s

visible : (s : List ℕ) → is_visible s ≡ true → Visible s
visible [] e = tt
visible (b ∷ s) e = let both = and-true (leb 32 b) (is_visible s) e in (leb-true 32 b both.0, visible s both.1)

word-visible : (w : Word) → Visible (text_of w)
unfolding text_of
word-visible Matched = visible (bytes "matched") refl
word-visible Ambiguous = visible (bytes "ambiguous") refl
word-visible Undecided = visible (bytes "undecided") refl
word-visible NotMatched = visible (bytes "not matched") refl
word-visible Exhausted = visible (bytes "exhausted") refl
word-visible TooLong = visible (bytes "too long") refl

module _ (t : Table) (number : ℕ) (line : List ℕ) where
  pub columns-of-line : count tab (row_for t number line) ≡ 1 + length t.names
  unfolding row_for fields_of fields
  columns-of-line = columns-of-row number (text_of (told t line).word) (word-visible (told t line).word) (fields_of t line) ∙ ap (λ (n : ℕ). 1 + n) (length-map t.names (field_named t.index line t.standing (kind_of (told t line).word) (told t line).reading))

  pub lines-of-line : count newline (row_for t number line) ≡ 1
  unfolding row_for
  lines-of-line = lines-of-row number (text_of (told t line).word) (word-visible (told t line).word) (fields_of t line)
