-- What the loops of successive matches keep: within a try what is left of its walk, in which barred ends are plain steps; over the searches the rows
-- found so far, and then what the searches from the next one on make. One law for each thing that a turn can meet.
use Rattle.std.specs.Prelude.{◌≡◌, refl, Bool, true, ◌&&◌, length, if◌then◌else◌}
use Rattle.std.proofs.Common.{ap, sym, ◌∙◌, subst}
use mathlib.Core.List.{List, [], ◌∷◌, ◌++◌, append_assoc, append-nil}
use Rattle.std.proofs.Math.Bool.{false}
use Prim.Native.Nat.{ℕ, suc, ◌+◌, ◌-◌, ◌≤◌}
use native.Mathlib.Omega.{arith}
use borrow.Author.Tests.{eq-eqb}
use Rattle.syntax.specs.Tree.{Rule}
use Rattle.semantics.specs.States.{State, Row, row}
use Rattle.semantics.specs.Walk.{Event, step, miss, end, Trace, trace}
use Rattle.semantics.specs.Answers.{matched, not_matched, exhausted, Answer, complete, full, exhausted_at}
use Rattle.semantics.specs.Scans.{is_empty, barring, tries, search_from, row_then, on_from, scan}
use Rattle.semantics.proofs.Laws.Searches.{allowed-end}
use Rattle.semantics.proofs.Laws.Loops.{Quiet, after_steps, ahead, SeekAt, seek-quiet, seek-end, seek-over, after_rows}
use Rattle.semantics.proofs.Laws.Scans.{scan_on, scan-goes_on, scan-is, search-fewer}

-- A search's loop -------------------------------------------------------------------

barring-quiet : (barred : Bool) (start : ℕ) (p es : Trace) → Quiet p → barring barred start (p ++ es) ≡ p ++ barring barred start es
unfolding barring
barring-quiet barred start [] es q = refl
barring-quiet barred start (step ∷ p) es q = rw (barring-quiet barred start p es q)
barring-quiet barred start (miss place at ∷ p) es q = rw (barring-quiet barred start p es q)
barring-quiet barred start (end t ∷ p) es q = absurd q

module _ (sub : List ℕ) (r : Rule) (budget from : ℕ) (barred : Bool) where
  -- es is left of the walk of the first try
  abbrev pub TryAt : ℕ → ℕ → Trace → Type 0
  TryAt s b es = SeekAt sub r budget (search_from sub r budget from barred) s from (length sub - from) b (barring barred from es)

  pub try-begin : TryAt 0 budget (trace sub r from)
  unfolding ahead search_from tries after_steps
  try-begin = let a = search_from sub r budget from barred in let e : 0 + a.steps ≡ a.steps = omega arith in rw e

  -- no step is left of the try's budget
  pub try-over : (s : ℕ) (e : Event) (es : Trace) → TryAt s 0 (e ∷ es) → search_from sub r budget from barred ≡ record { outcome = exhausted from; steps = s }
  unfolding barring
  try-over s step es h = seek-over sub r budget (search_from sub r budget from barred) s from (length sub - from) 0 step (barring barred from es) h
  try-over s (miss place at) es h = seek-over sub r budget (search_from sub r budget from barred) s from (length sub - from) 0 (miss place at) (barring barred from es) h
  try-over s (end t) es h = seek-over sub r budget (search_from sub r budget from barred) s from (length sub - from) 0 (if barred && is_empty from t then step else end t) (barring barred from es) h

  module _ (s b : ℕ) where
    pub try-quiet : (p es : Trace) → Quiet p → length p ≤ b → TryAt s b (p ++ es) → TryAt (s + length p) (b - length p) es
    try-quiet p es q l h = seek-quiet sub r budget (search_from sub r budget from barred) s from (length sub - from) b p (barring barred from es) q l (subst (λ (u : Trace). SeekAt sub r budget (search_from sub r budget from barred) s from (length sub - from) b u) (barring-quiet barred from p es q) h)

    -- "a barred end costs its step and the walk goes on"
    pub try-barred : (t : State) (es : Trace) → barred ≡ true → t.at ≡ from → TryAt s (suc b) (end t ∷ es) → TryAt (suc s) b es
    unfolding barring is_empty
    try-barred t es e f h =
        let steps : (if barred && is_empty from t then step else end t) ≡ step = rw (e, eq-eqb from t.at (sym f)) in
        let g : barring barred from (end t ∷ es) ≡ step ∷ barring barred from es = ap (λ (z : Event). z ∷ barring barred from es) steps in
        let k = seek-quiet sub r budget (search_from sub r budget from barred) s from (length sub - from) (suc b) (step ∷ []) (barring barred from es) tt (omega arith) (subst (λ (u : Trace). SeekAt sub r budget (search_from sub r budget from barred) s from (length sub - from) (suc b) u) g h) in
        let i : s + 1 ≡ suc s = omega arith in
        let j : suc b - 1 ≡ b = omega arith in
        rw (i, j) at k

    pub try-end : (t : State) (es : Trace) → ¬ ((barred ≡ true) × (t.at ≡ from)) → TryAt s (suc b) (end t ∷ es) → search_from sub r budget from barred ≡ record { outcome = matched from t; steps = s + 1 }
    unfolding barring
    try-end t es n h = seek-end sub r budget (search_from sub r budget from barred) s from (length sub - from) b t (barring barred from es) (rw (allowed-end barred from t n) at h)

-- The loop over searches --------------------------------------------------------------

module _ (sub : List ℕ) (r : Rule) (budget limit : ℕ) where
  -- some rows are found, s steps are taken, and there is room for so many rows more
  pub record ScanAt (found : List Row) (s room from : ℕ) (barred : Bool) : Type 0 where
    pub inside : from ≤ length sub
    pub whole : scan sub r budget limit ≡ after_rows found s (scan_on sub r budget room from barred)

  pub scan-begin : ScanAt [] 0 limit 0 false
  unfolding after_rows
  scan-begin = let l = scan_on sub r budget limit 0 false in let e : 0 + l.steps ≡ l.steps = omega arith in record { inside = omega arith; whole = scan-is sub r budget limit ∙ rw e }

  module _ (found : List Row) (s from : ℕ) (barred : Bool) (steps : ℕ) where
    abbrev Answers : Answer → Type 0
    Answers a = search_from sub r budget from barred ≡ a

    pub scan-row : (room n : ℕ) (t : State) → Answers (record { outcome = matched n t; steps = steps }) → ScanAt found s (suc room) from barred → ScanAt (found ++ row n t ∷ []) (s + steps) room t.at (is_empty n t)
    unfolding after_rows on_from row_then
    scan-row room n t e h =
        let i : s + (steps + (scan_on sub r budget room t.at (is_empty n t)).steps) ≡ s + steps + (scan_on sub r budget room t.at (is_empty n t)).steps = omega arith in
        record { inside = (search-fewer sub r budget from barred n t h.inside (ap (λ (a : Answer). a.outcome) e)).0; whole = h.whole ∙ rw (scan-goes_on sub r budget (suc room) from barred h.inside) (rw (e, i) (rw (append_assoc found (row n t ∷ []) (scan_on sub r budget room t.at (is_empty n t)).rows))) }

    pub scan-full : (n : ℕ) (t : State) → Answers (record { outcome = matched n t; steps = steps }) → ScanAt found s 0 from barred → scan sub r budget limit ≡ record { rows = found; ending = full; steps = s + steps }
    unfolding after_rows on_from
    scan-full n t e h = h.whole ∙ rw (scan-goes_on sub r budget 0 from barred h.inside) (rw (e, append-nil found))

    pub scan-over : (room n : ℕ) → Answers (record { outcome = exhausted n; steps = steps }) → ScanAt found s room from barred → scan sub r budget limit ≡ record { rows = found; ending = exhausted_at n; steps = s + steps }
    unfolding after_rows on_from
    scan-over room n e h = h.whole ∙ rw (scan-goes_on sub r budget room from barred h.inside) (rw (e, append-nil found))

    pub scan-last : (room : ℕ) → Answers (record { outcome = not_matched; steps = steps }) → ScanAt found s room from barred → scan sub r budget limit ≡ record { rows = found; ending = complete; steps = s + steps }
    unfolding after_rows on_from
    scan-last room e h = h.whole ∙ rw (scan-goes_on sub r budget room from barred h.inside) (rw (e, append-nil found))
