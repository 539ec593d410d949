-- What a listing told and left, as the definition has it.
use Rattle.std.specs.Prelude.{◌≡◌, ℕ, zero, suc, ◌+◌, ◌-◌, ◌*◌, ◌≤◌, Ok, get_or, take, drop}
use Rattle.std.proofs.Math.Path.{refl, ap}
use Rattle.std.proofs.Common.{sym, ◌∙◌, inl, inr, arith, get_or-take, get_or-drop}
use mathlib.Core.List.{List, [], ◌∷◌}
use Rattle.std.proofs.Math.Dec.{eqb}
use Rattle.std.proofs.Math.ListN.{length}
use Rattle.syntax.specs.Limits.{row_length}
use Rattle.syntax.specs.Tree.{Rule}
use Rattle.syntax.specs.WellFormed.{WellFormed}
use Rattle.semantics.specs.States.{Row}
use Rattle.semantics.specs.Answers.{Ending, complete, full, exhausted_at, Listing, listing}
use Rattle.semantics.specs.Calls.{joined, room, list_outcome}
use Rattle.semantics.specs.Demands.{In, rows_reported}
use Rattle.semantics.proofs.Laws.ListCalls.{rows-read}
use Rattle.semantics.proofs.Laws.Listings.{demand_3}
use Rattle.semantics.proofs.Laws.Rows.{row-facts}
use Rattle.semantics.proofs.Laws.Areas.{room-holds}
use Rattle.index.specs.Rows.{rows_at, Whole}
use Rattle.gathering.specs.declared.Listing.{Listing as Answer}
use Rattle.gathering.specs.Listing.{listing_of, Lists}
use Rattle.noting.specs.Laws.Rows.{rows_written}
use Rattle.fields_line.specs.Answers.{last_start, is_cut, verdict}
use Rattle.fields_line.specs.Promises.{cut_by, verdict_by}

-- The last row ------------------------------------------------------------------

-- its start
pub last_of : (start : ℕ) (results : List ℕ) (from n : ℕ) → last_start start (rows_at results from (suc n)) ≡ get_or results (from + n * row_length) 0
unfolding last_start rows_at row_length
last_of start results from zero = get_or-take row_length (drop from results) 0 0 (omega arith) ∙ get_or-drop from results 0 0
last_of start results from (suc n) = last_of (get_or (take row_length (drop from results)) 0 0) results (from + row_length) n ∙ ap (λ (k : ℕ). get_or results k 0) (omega arith)

pub last_none : (start : ℕ) (results : List ℕ) (from n : ℕ) → n ≡ 0 → last_start start (rows_at results from n) ≡ start
unfolding last_start rows_at
last_none start results from n e = rw e

pub last_some : (start : ℕ) (results : List ℕ) (n : ℕ) → (n ≡ 0 → ⊥) → get_or results ((n - 1) * row_length) 0 ≡ last_start start (rows_at results 0 n)
last_some start results zero h = absurd (h refl)
last_some start results (suc n) h = sym (last_of start results 0 n ∙ ap (λ (k : ℕ). get_or results k 0) (same n))
  where
    same : (n : ℕ) → 0 + n * row_length ≡ (suc n - 1) * row_length
    same n = let e : suc n - 1 ≡ n = omega arith in rw e (omega arith)

-- The rows that a listing leaves --------------------------------------------------

all_whole : (rows : List Row) → ((x : Row) → In x rows → length x ≡ row_length) → Whole rows
all_whole [] f = tt
all_whole (x ∷ rows) f = (f x (inl refl), all_whole rows (λ y i. f y (inr i)))

module _ (line : List ℕ) (rule : Rule) (budget : ℕ) (old new : List ℕ) (r : Answer) (lists : Lists line rule budget old new r) where
  abbrev l : Listing
  l = listing line rule budget (room old)

  reported : rows_reported (listing_of (Ok r)) ≡ length l.rows
  unfolding list_outcome
  reported = rw lists.outcome (go l.ending)
    where
      go : (e : Ending) → rows_reported (list_outcome e (length l.rows) l.steps) ≡ length l.rows
      go complete = refl
      go full = refl
      go (exhausted_at n) = refl

  -- there is room for the rows that it tells
  pub rows-within : rows_reported (listing_of (Ok r)) * row_length ≤ length old
  rows-within = rw reported (room-holds (length l.rows) old (demand_3 line rule budget (room old)).rows_fit)

  module _ (groups : ℕ) (formed : WellFormed groups rule) where
    rows_whole : Whole l.rows
    rows_whole = all_whole l.rows λ x i.
        let w = rows-read line rule budget (room old) l (demand_3 line rule budget (room old)) x i in
        rw w.is (row-facts line w.n groups formed.few rule formed.proper w.start w.t w.derives).size

    -- they stand in the area
    rows_left : rows_at new 0 (rows_reported (listing_of (Ok r))) ≡ l.rows
    unfolding joined
    rows_left = rw lists.results (rows_written [] l.rows old 0 (rows_reported (listing_of (Ok r))) rows_whole refl (sym reported))

    cut-told : (start : ℕ) → cut_by (listing_of (Ok r)) start new ≡ is_cut start l.ending l.rows
    unfolding cut_by is_cut list_outcome
    cut-told start = rw lists.outcome (go l.ending)
      where
        go : (e : Ending) → cut_by (list_outcome e (length l.rows) l.steps) start new ≡ is_cut start e l.rows
        go complete = refl
        go full = ap (λ (rows : List Row). eqb (last_start start rows) start) (rw reported at rows_left)
        go (exhausted_at n) = refl

    -- the word for a match
    pub verdict-told : (index standing : List ℕ) (names : List (List ℕ)) (x : Row)
        → verdict_by index line standing names x (listing_of (Ok r)) new ≡ verdict (record { rule = rule; index = index; budget = budget; room = room old; names = names; standing = standing }) line x l
    unfolding verdict_by verdict
    verdict-told index standing names x = rw (rows_left, cut-told (get_or x 0 0))
