-- Match and listing agree: by induction on what a run met, up to its first end, whose reading is new. Match and successive matches agree, since the first
-- search is the match.
use Rattle.std.specs.Prelude.{◌≡◌, refl, List, [], ◌∷◌, Bool, false, ℕ, suc, ◌-◌, ◌≤◌}
use Rattle.std.proofs.Common.{ap, ◌∙◌, inl, inr, arith}
use Rattle.syntax.specs.Tree.{Rule}
use Rattle.semantics.specs.Runs.{Moment, plain, ends, Stop, finished, beyond, runs}
use Rattle.semantics.specs.Answers.{Outcome, matched, not_matched, exhausted, Answer, unmatched, one_step_more, first, answer, Listing, known, unless, fresh, unfilled, plainly, with_row, fill, listing}
use Rattle.semantics.specs.Scans.{row_then, on_from, scan}
use Rattle.semantics.specs.Demands.{Agreement}
use Rattle.semantics.proofs.Laws.Cases.{clash}
use Rattle.semantics.proofs.Laws.Searches.{answer-is-search}
use Rattle.semantics.proofs.Laws.Scans.{scan_on, scan-goes_on, scan-is}

stops : (room : ℕ) (x : Stop) → Agreement (first [] x) (fill room [] x)
unfolding first fill unmatched unfilled
stops room finished = record { first_row = λ y more e. absurd (clash (cc)); no_row = λ e. (inl (refl, refl), refl) }
stops room (beyond n) = record { first_row = λ y more e. absurd (clash (cc)); no_row = λ e. (inr (n, refl, refl), refl) }

agree : (room : ℕ) (ms : List Moment) (x : Stop) → Agreement (first ms x) (fill (suc room) (fresh [] ms) x)
unfolding first one_step_more fill plainly with_row fresh known unless
agree room [] x = stops (suc room) x
agree room (plain ∷ ms) x = let h = agree room ms x in record { first_row = h.first_row; no_row = λ e. (let z = h.no_row e in (z.0, ap suc z.1)) }
agree room (ends n t ∷ ms) x = record { first_row = λ y more e. (n, t, refl, cc); no_row = λ e. absurd (clash (cc)) }

pub agreement : (sub : List ℕ) (r : Rule) (budget limit : ℕ) → 1 ≤ limit → Agreement (answer sub r budget) (listing sub r budget limit)
unfolding answer listing
agreement sub r budget limit h =
    let e : limit ≡ suc (limit - 1) = omega arith in
    rw e (agree (limit - 1) (runs sub r budget).met (runs sub r budget).stop)

-- Successive matches ----------------------------------------------------------------

first-search : (go_on : (room from : ℕ) (barred : Bool) → Listing) (room : ℕ) (a : Answer) (o : Outcome) → a.outcome ≡ o → Agreement a (on_from go_on (suc room) o a.steps)
unfolding on_from row_then
first-search go_on room a (matched n t) e = record { first_row = λ y more f. (n, t, e, cc); no_row = λ f. absurd (clash (cc)) }
first-search go_on room a not_matched e = record { first_row = λ y more f. absurd (clash (cc)); no_row = λ f. (inl (refl, e), refl) }
first-search go_on room a (exhausted n) e = record { first_row = λ y more f. absurd (clash (cc)); no_row = λ f. (inr (n, refl, e), refl) }

scan_begins : (sub : List ℕ) (r : Rule) (budget room : ℕ) → scan sub r budget room ≡ on_from (scan_on sub r budget) room (answer sub r budget).outcome (answer sub r budget).steps
scan_begins sub r budget room = scan-is sub r budget room ∙ scan-goes_on sub r budget room 0 false (omega arith) ∙ rw (answer-is-search sub r budget)

pub scan-agreement : (sub : List ℕ) (r : Rule) (budget limit : ℕ) → 1 ≤ limit → Agreement (answer sub r budget) (scan sub r budget limit)
scan-agreement sub r budget limit h =
    let e : limit ≡ suc (limit - 1) = omega arith in
    let a = answer sub r budget in
    rw (scan_begins sub r budget limit) (rw e (first-search (scan_on sub r budget) (limit - 1) a a.outcome refl))
