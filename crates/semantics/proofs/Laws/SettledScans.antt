-- The demands settle successive matches: of two lists of rows each has the match of the same search first, and what ends one ends the other.
use Rattle.std.specs.Prelude.{◌≡◌, refl, List, [], ◌∷◌, ◌⊎◌, Bool, false, ℕ, suc, ◌+◌, ◌-◌, ◌≤◌, length}
use Rattle.std.proofs.Common.{ap, sym, ◌∙◌, inl, inr, arith}
use Rattle.syntax.specs.Tree.{Rule}
use Rattle.semantics.specs.States.{State, Row, row}
use Rattle.semantics.specs.Walk.{trace}
use Rattle.semantics.specs.Answers.{Ending, complete, full, exhausted_at, Listing}
use Rattle.semantics.specs.ScanDemands.{row_end, empty_row, end_behind, empty_behind, steps_between, SearchMatched, Finds, Successive, ScanDemand}
use Rattle.semantics.proofs.Laws.Searches.{matched-not-exhausted, matched-not-nothing}
use Rattle.semantics.proofs.Laws.Scans.{finds-once}

module _ (sub : List ℕ) (r : Rule) (budget : ℕ) where
  -- no row can follow: there is no room, or no further match
  abbrev NoMore : (from : ℕ) (barred : Bool) (limit : ℕ) → List Row → Type 0
  NoMore from barred limit rows = (length rows ≡ limit) ⊎ ((n : ℕ) (t : State) → ¬ SearchMatched sub r budget (end_behind from rows) (empty_behind barred rows) n t)

  same_rows : (from : ℕ) (barred : Bool) (limit : ℕ) (a b : List Row) (i j : ℕ) → Successive sub r budget from barred a i → Successive sub r budget from barred b j → length a ≤ limit → length b ≤ limit → NoMore from barred limit a → NoMore from barred limit b → (a ≡ b) × (i ≡ j)
  same_rows from barred limit [] [] i j s u k l x y = (refl, s ∙ sym u)
  same_rows from barred limit [] (z ∷ b) i j s u k l x y = absurd (elim x [ inl e ↦ omega arith | inr h ↦ h u.2.n u.2.t u.2.found ])
  same_rows from barred limit (z ∷ a) [] i j s u k l x y = absurd (elim y [ inl e ↦ omega arith | inr h ↦ h s.2.n s.2.t s.2.found ])
  same_rows from barred limit (v ∷ a) (w ∷ b) i j s u k l x y =
      let q = finds-once sub r budget from barred v w s.0 u.0 s.2 u.2 in
      let z = same_rows (row_end v) (empty_row v) (limit - 1) a b s.1 u.1 s.3 (rw q.0 u.3) (omega arith) (omega arith) (elim x [ inl e ↦ inl (omega arith) | inr h ↦ inr h ]) (elim y [ inl e ↦ inl (omega arith) | inr h ↦ inr (rw q.0 h) ]) in
      (cc (q.0, z.0), s.4 ∙ rw (q.1, z.1) (sym u.4))

  no_more : (limit : ℕ) (l : Listing) → ScanDemand sub r budget limit l → NoMore 0 false limit l.rows
  no_more limit l d = go l.ending refl
    where
      go : (e : Ending) → l.ending ≡ e → NoMore 0 false limit l.rows
      go complete e = inr (λ n t m. matched-not-nothing sub r budget _ _ n t m (d.complete_exactly.0 e))
      go full e = inl (d.full_rows e)
      go (exhausted_at i) e = inr (λ n t m. matched-not-exhausted sub r budget _ _ n i t m ((d.exhausted_exactly i).0 e))

  pub scan-demand-settles : (limit : ℕ) (k l : Listing) → ScanDemand sub r budget limit k → ScanDemand sub r budget limit l → k ≡ l
  scan-demand-settles limit k l x y = go k.ending refl
    where
      both : (k.rows ≡ l.rows) × (x.spent ≡ y.spent)
      both = same_rows 0 false limit k.rows l.rows x.spent y.spent x.successive y.successive x.rows_fit y.rows_fit (no_more limit k x) (no_more limit l y)

      from : ℕ
      from = end_behind 0 k.rows

      barred : Bool
      barred = empty_behind false k.rows

      same_from : end_behind 0 l.rows ≡ from
      same_from = ap (λ (rows : List Row). end_behind 0 rows) (sym both.0)

      same-barred : empty_behind false l.rows ≡ barred
      same-barred = ap (λ (rows : List Row). empty_behind false rows) (sym both.0)

      all : k.ending ≡ l.ending → k.steps ≡ l.steps → k ≡ l
      all e f = let h = both.0 in rw (e, f, h)

      go : (e : Ending) → k.ending ≡ e → k ≡ l
      go complete e =
          let f = y.complete_exactly.1 (rw (same_from, same-barred) (x.complete_exactly.0 e)) in
          all (e ∙ sym f) (x.steps_complete e ∙ rw both.1 (sym (rw same_from at (y.steps_complete f))))
      go full e =
          let m = x.full_exactly.0 e in
          let f = y.full_exactly.1 (m.0, m.1, rw (same_from, same-barred) m.2) in
          let last = steps_between (trace sub r) from m.0 + suc m.2.in_time.0 in
          let g : Finds sub r budget from barred (row m.0 m.1) last = record { n = m.0; t = m.1; found = m.2; is = refl; j = m.2.in_time.0; reaches = m.2.in_time.2; cost = refl } in
          all (e ∙ sym f) (x.steps_full (row m.0 m.1) last e g ∙ rw both.1 (sym (y.steps_full (row m.0 m.1) last f (rw (same_from, same-barred) g))))
      go (exhausted_at n) e =
          let f = (y.exhausted_exactly n).1 (rw (same_from, same-barred) ((x.exhausted_exactly n).0 e)) in
          all (e ∙ sym f) (x.steps_exhausted n e ∙ rw both.1 (sym (rw same_from at (y.steps_exhausted n f))))
