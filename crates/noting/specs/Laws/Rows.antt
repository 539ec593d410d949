-- Rows in the result area: one that is written behind others, and those that are read there again.
use Rattle.std.specs.Prelude.{◌≡◌, refl, List, [], ◌∷◌, ◌++◌, ℕ, suc, ◌+◌, ◌*◌, length, take, drop}
use Rattle.std.proofs.Common.{sym, subst, ◌∙◌, ap, append_assoc, append-nil, suc-mul, add_comm, arith, length-append, take_at}
use Rattle.std.proofs.Math.Seq.{drop-append_seam}
use Rattle.syntax.specs.Limits.{row_length}
use Rattle.semantics.specs.States.{Row}
use Rattle.semantics.specs.Calls.{over, joined}
use Rattle.index.specs.Rows.{rows_at, Whole}
use Rattle.semantics.proofs.Laws.Areas.{over-more, joined-append}

pub joined-last : (rows : List Row) (x : Row) → joined (rows ++ (x ∷ [])) ≡ joined rows ++ x
unfolding joined
joined-last rows x = joined-append rows (x ∷ []) ∙ ap (λ (l : List ℕ). joined rows ++ l) (append-nil x)

pub joined_length : (rows : List Row) → Whole rows → length (joined rows) ≡ length rows * row_length
unfolding joined
joined_length [] h = omega arith
joined_length (x ∷ rows) h = rw (length-append x (joined rows), h.0, joined_length rows h.1) (sym (suc-mul (length rows) row_length ∙ add_comm (length rows * row_length) row_length))

-- a row written behind others
pub row-behind : (rows : List Row) (x : Row) (area : List ℕ) (base : ℕ) → length (joined rows) ≡ base → length x ≡ row_length
    → take base (over (joined rows) area) ++ (x ++ drop (base + row_length) (over (joined rows) area)) ≡ over (joined (rows ++ (x ∷ []))) area
row-behind rows x area base hb hx = rw (joined-last rows x) (over-more (joined rows) x area base row_length hb hx)

rows-between : (p : List ℕ) (rows : List Row) (q : List ℕ) → Whole rows → rows_at (p ++ (joined rows ++ q)) (length p) (length rows) ≡ rows
unfolding joined rows_at
rows-between p [] q h = refl
rows-between p (x ∷ rows) q h =
    let r : List ℕ = joined rows ++ q in
    let here : take row_length (drop (length p) (p ++ (x ++ r))) ≡ x = rw drop-append_seam (take_at x r row_length h.0) in
    let there : rows_at ((p ++ x) ++ r) (length (p ++ x)) (length rows) ≡ rows = rows-between (p ++ x) rows q h.1 in
    let there' : rows_at (p ++ (x ++ r)) (length p + row_length) (length rows) ≡ rows = rw (← h.0, ← length-append p x, ← append_assoc p x r) there in
    let both : (take row_length (drop (length p) (p ++ (x ++ r))) ∷ rows_at (p ++ (x ++ r)) (length p + row_length) (length rows)) ≡ x ∷ rows = cc in
    let same : p ++ (x ++ r) ≡ p ++ ((x ++ joined rows) ++ q) = ap (λ (z : List ℕ). p ++ z) (sym (append_assoc x (joined rows) q)) in
    subst (λ (a : List ℕ). rows_at a (length p) (suc (length rows)) ≡ x ∷ rows) same both

-- the rows that were written behind others stand there
pub rows_written : (earlier rows : List Row) (area : List ℕ) (from count : ℕ) → Whole rows → length (joined earlier) ≡ from → length rows ≡ count
    → rows_at (over (joined (earlier ++ rows)) area) from count ≡ rows
unfolding over
rows_written earlier rows area from count h hf hc =
    rw (← hf, ← hc, joined-append earlier rows, append_assoc) (rows-between (joined earlier) rows (drop (length (joined earlier ++ joined rows)) area) h)
