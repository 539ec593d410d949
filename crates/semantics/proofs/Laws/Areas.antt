-- Areas: numbers written over their first ones, how long the name index is, and how many rows an area holds.
use Rattle.std.specs.Prelude.{◌≡◌, refl, ℕ, zero, suc, ◌+◌, ◌*◌, ◌≤◌, ◌<◌, length, take, drop, replicate}
use Rattle.std.proofs.Common.{sym, ◌∙◌, inl, inr, arith, le-div_iff_mul-le, zero-mul, suc-mul, take-append-drop, length-take, length-append, drop-drop}
use mathlib.Core.List.{List, [], ◌∷◌, ◌++◌, append_assoc}
use Rattle.std.proofs.lemmas.List.{length-replicate}
use Rattle.std.proofs.Math.Seq.{take-append_seam, drop-append_seam, drop-append-add, take_at}
use Rattle.syntax.specs.Limits.{group_limit, spans_length, row_length, name_entry, name_index_need}
use Rattle.syntax.specs.Names.{Name, Names}
use Rattle.semantics.specs.NameIndex.{name_of, entry, entries, name_index}
use Rattle.semantics.specs.States.{Row}
use Rattle.semantics.specs.Calls.{over, cleared, joined, room}
use Rattle.semantics.specs.Demands.{In, Written}

pub over_nothing : (area : List ℕ) → over [] area ≡ area
unfolding over
over_nothing area = refl

pub written : (numbers area : List ℕ) → length numbers ≤ length area → Written numbers area (over numbers area)
unfolding over
written numbers area h = record { fits = h; first = take-append_seam numbers (drop (length numbers) area); rest = drop-append_seam numbers (drop (length numbers) area) }

-- what is written settles the area
pub written_over : (numbers before after : List ℕ) → Written numbers before after → after ≡ over numbers before
unfolding over
written_over numbers before after w = sym (take-append-drop (length numbers) after) ∙ rw (w.first, w.rest)

pub zeroed : (need : ℕ) (area : List ℕ) → need ≤ length area → Written (replicate need 0) area (cleared need area)
unfolding cleared
zeroed need area h = written (replicate need 0) area (rw (length-replicate {A = ℕ} need 0) h)

-- numbers written behind those that were written before
pub over-more : (xs ys area : List ℕ) (base n : ℕ) → length xs ≡ base → length ys ≡ n
    → take base (over xs area) ++ (ys ++ drop (base + n) (over xs area)) ≡ over (xs ++ ys) area
unfolding over
over-more xs ys area base n hb hn =
    let d : List ℕ = drop (length xs) area in
    rw (← hb, ← hn, take-append_seam xs d, drop-append-add xs d (length ys), drop-drop (length ys) (length xs) area, length-append xs ys)
    (sym (append_assoc xs ys (drop (length xs + length ys) area)))

-- The name index ----------------------------------------------------------------

pub entry-long : (n : Name) → length (entry n) ≡ name_entry
unfolding entry
entry-long n = omega (arith, length-take name_entry (length n ∷ (n ++ replicate name_entry 0)), length-append n (replicate name_entry 0), length-replicate {A = ℕ} name_entry 0)

pub entries-long : (many : ℕ) (names : Names) (group : ℕ) → length (entries many names group) ≡ many * name_entry
unfolding entries
entries-long zero names group = sym (zero-mul name_entry)
entries-long (suc many) names group = length-append (entry (name_of names group)) (entries many names (suc group)) ∙ omega (arith, entry-long (name_of names group), entries-long many names (suc group), suc-mul many name_entry)

pub index-long : (names : Names) → length (name_index names) ≡ name_index_need
unfolding name_index name_index_need
index-long names = entries-long group_limit names 1

-- Rows --------------------------------------------------------------------------

row-is-long : 0 < row_length
unfolding row_length spans_length group_limit
row-is-long = omega arith

pub room-holds : (rows : ℕ) (area : List ℕ) → rows ≤ room area → rows * row_length ≤ length area
unfolding room
room-holds rows area h = (le-div_iff_mul-le row-is-long).0 h

pub room-for-one : (area : List ℕ) → row_length ≤ length area → 1 ≤ room area
unfolding room
room-for-one area h = (le-div_iff_mul-le row-is-long).1 (omega arith)

pub joined_length : (rows : List Row) → ((x : Row) → In x rows → length x ≡ row_length) → length (joined rows) ≡ length rows * row_length
unfolding joined
joined_length [] f = omega arith
joined_length (x ∷ rows) f = length-append x (joined rows) ∙ omega (arith, f x (inl refl), joined_length rows (λ y i. f y (inr i)))

pub joined-append : (rows more : List Row) → joined (rows ++ more) ≡ joined rows ++ joined more
unfolding joined
joined-append [] more = refl
joined-append (x ∷ rows) more = rw (joined-append rows more, append_assoc x (joined rows) (joined more))

-- rows that were written, with others behind them or none
module _ (rows : List Row) (area : List ℕ) (sizes : (x : Row) → In x rows → length x ≡ row_length) where
  pub rows-in-front : (more : List Row) → take (length rows * row_length) (over (joined (rows ++ more)) area) ≡ joined rows
  unfolding over
  rows-in-front more = rw (joined-append rows more, append_assoc (joined rows) (joined more) _) (take_at (joined rows) _ (length rows * row_length) (joined_length rows sizes))

  pub own-rows : take (length rows * row_length) (over (joined rows) area) ≡ joined rows
  unfolding over
  own-rows = take_at (joined rows) _ (length rows * row_length) (joined_length rows sizes)

-- the first row in an area
pub first-of-joined : (x : Row) (more : List Row) (area : List ℕ) → length x ≡ row_length → take row_length (over (joined (x ∷ more)) area) ≡ x
unfolding over joined
first-of-joined x more area e = rw (append_assoc x (joined more) _) (take_at x _ row_length e)
