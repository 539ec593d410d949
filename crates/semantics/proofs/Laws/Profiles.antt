-- What Profile says holds of every rule that the profile accepts. Rounds: where no repeat without upper bound has a body of least length 0, each round takes
-- a byte. Calls: they see the flags in the refusals, in the reading of the rule and in its names, and these three are the same.
-- docs/REFERENCE.md, 11.3
use Rattle.std.specs.Prelude.{◌≡◌, Bool, true, ◌&&◌, ℕ, zero, suc, min, ◌+◌, ◌^◌, ◌%◌, ◌≤◌, ◌<◌, length, take, drop, eqb, if◌then◌else◌}
use Rattle.std.proofs.Math.Path.{refl}
use mathlib.Core.List.{List, [], ◌∷◌}
use Rattle.std.proofs.Math.Option.{Option, none, some}
use native.Mathlib.Omega.{arith}
use borrow.Author.Tests.{eqb-false, lt-leb}
use Rattle.syntax.specs.declared.Greed.{Greed}
use Rattle.syntax.specs.declared.Most.{Most}
use Rattle.syntax.specs.declared.Reason.{Reason}
use Rattle.syntax.specs.Limits.{flag_bits, depot_bit, row_length, part_length}
use Rattle.syntax.specs.Read.{sound}
use Rattle.syntax.specs.Flags.{depot}
use Rattle.syntax.specs.Tree.{Rule, empty, item, seq, alt, group, repeat, held, look, Branches, one, also}
use Rattle.syntax.specs.Lengths.{least_length, unbounded}
use Rattle.syntax.specs.Reading.{names_of, idle, idle_in, reading}
use Rattle.syntax.specs.Checkable.{uncheckable}
use Rattle.syntax.specs.Laws.Forward.{Given, given-less}
use Rattle.syntax.specs.Laws.Formation.{first-none, tested}
use Rattle.syntax.specs.Laws.Profile.{unprofiled, accepted-as-full, accepted-narrow}
use Rattle.semantics.specs.States.{State, row}
use Rattle.semantics.specs.Repeats.{decision}
use Rattle.semantics.specs.Derivations.{Rounds, stop, turn, Derives}
use Rattle.semantics.specs.Answers.{Outcome, matched, not_matched, exhausted, answer, Listing, listing}
use Rattle.semantics.specs.Explanations.{failures, furthest, closest, marks}
use Rattle.semantics.specs.Scans.{scan}
use Rattle.semantics.specs.Calls.{Call, unacceptable, Return, untouched, declined, leaving, with_reading, unless_refused, call, match_matched, match_not_matched, match_exhausted, match_refused, match_returns, match_rule, match_call, list_refused, list_outcome, joined, room, list_returns, list_rule, list_call, scan_rule, scan_call, explain_fits, explain_unfit, explain_exhausted, explain_refused, markable, explain_returns, explain_rule, explain_call}
use Rattle.semantics.specs.Proposals.{Finding, a_reading, no_reading, exhausts, check}
use Rattle.semantics.specs.Checks.{check_reading, check_no_reading, check_exhausted, check_refused, check_returns, unless_uncheckable, check_rule, check_call}
use Rattle.semantics.specs.Batches.{line_call, lineless, part_of, parts, lines_of, parts_need, batch_done, batch_refused, batch_rule, batch_call}
use Rattle.semantics.specs.Profile.{rounds_of, Advances, AllAdvance, EachAdvances, in_full, AnswersInFull}
use Rattle.semantics.proofs.Laws.Lengths.{again-still, left-still, takes-least}
use Rattle.semantics.proofs.Laws.Walk.{right}

-- Rounds ------------------------------------------------------------------------

-- each round takes a byte or more
rounds-few : {B : State → State → Type 0} (least : ℕ) (most : Most) (g : Greed) {n : ℕ} {idle : Bool} {s t : State} → ((u v : State) → B u v → u.at < v.at) → (d : Rounds B least most g n idle s t) → rounds_of d + s.at ≤ t.at
unfolding rounds_of
rounds-few least most g f (stop {n = n} {idle = idle} {s = s} {t = t} o) = omega (arith, (left-still least most g n idle s t o).1)
rounds-few least most g f (turn {n = n} {idle = idle} {s = s} {t = t} {u = u} a b r) = omega (arith, again-still (decision least most g n idle) s t a, f t u b, rounds-few least most g f r)

module _ (sub : List ℕ) where
  advances : (least : ℕ) (most : Most) (g : Greed) (a : Rule) → 1 ≤ least_length a → Advances sub least most g a
  advances least most g a h =
      let some : (s t : State) → Derives sub a s t → s.at < t.at = λ s t d. omega (arith, takes-least sub a s t d) in
      record {
        no_empty_round = some;
        few_rounds = λ s t l d. omega (arith, rounds-few least most g some d, ((right sub (repeat 0 least most g a) s l).reach t d).inside);
      }

  positive : (n : ℕ) → (n ≡ 0 → ⊥) → 1 ≤ n
  positive zero h = absurd (h refl)
  positive (suc n) h = omega arith

  -- a repeat that was not found is none of those
  not-idle : (at : ℕ) (most : Most) (a : Rule) → (if unbounded most && eqb (least_length a) 0 then some at else none) ≡ none → unbounded most ≡ true → 1 ≤ least_length a
  not-idle at most a e u = let x = tested (unbounded most && eqb (least_length a) 0) at e in positive (least_length a) (eqb-false (least_length a) 0 (rw u at x))

  mutual
    unfolding idle idle_in

    all-advance : (r : Rule) → idle r ≡ none → AllAdvance sub r
    all-advance empty e = tt
    all-advance (item place i) e = tt
    all-advance (seq a b) e = let n = first-none (idle a) (idle b) e in (all-advance a n.0, all-advance b n.1)
    all-advance (alt bs bar b) e = let n = first-none (idle_in bs) (idle b) e in (each-advances bs n.0, all-advance b n.1)
    all-advance (group k a) e = all-advance a e
    all-advance (repeat place least most g a) e =
        let n = first-none (idle a) (if unbounded most && eqb (least_length a) 0 then some place else none) e in
        (λ u. advances least most g a (not-idle place most a n.1 u), all-advance a n.0)
    all-advance (held place a) e = all-advance a e
    all-advance (look place negative a) e = all-advance a e

    each-advances : (bs : Branches) → idle_in bs ≡ none → EachAdvances sub bs
    each-advances (one a) e = all-advance a e
    each-advances (also bs bar b) e = let n = first-none (idle_in bs) (idle b) e in (each-advances bs n.0, all-advance b n.1)

-- under the profile no round of a repeat without upper bound is empty, and its rounds are at most the bytes that are left
pub rounds-advance : (s : List ℕ) (flags : ℕ) → depot flags ≡ true → Given (reading s flags) (λ r at. (sub : List ℕ) → AllAdvance sub r.0)
rounds-advance s flags d = given-less _ _ (reading s flags) (accepted-narrow s flags d) (λ r at n sub. all-advance sub r.0 n.no_idle_repeat)

-- Calls -------------------------------------------------------------------------

-- a rule that is accepted, under flags that there are
pub record Passes (c : Call) : Type 0 where
  pub known : c.flags < 2 ^ flag_bits
  pub tree : Rule
  pub groups : ℕ
  pub stop : ℕ
  pub reads : reading c.rule c.flags ≡ sound (tree, groups) stop

module _ (c : Call) (h : Passes c) where
  in-full : (reading c.rule (unprofiled c.flags) ≡ sound (h.tree, h.groups) h.stop) × (names_of c.rule (unprofiled c.flags) ≡ names_of c.rule c.flags)
  in-full = rw h.reads at (accepted-as-full c.rule c.flags)

  few : (flags : ℕ) → flags % 2 ^ depot_bit < 2 ^ flag_bits
  unfolding flag_bits depot_bit
  few flags = omega arith

  -- the refusals before the rule is read
  fit-in_full : (need : ℕ) → unacceptable need (in_full c) ≡ unacceptable need c
  unfolding unacceptable
  fit-in_full need =
      let a = lt-leb (2 ^ flag_bits) c.flags h.known in
      let b = lt-leb (2 ^ flag_bits) (unprofiled c.flags) (few c.flags) in
      rw (a, b)

  module _ {A : Type 0} (refusal : ℕ → Reason → A) (need : ℕ) (answered : Call → Rule → Return A) where
    verdict-in_full : answered c h.tree ≡ answered (in_full c) h.tree → (o : Option Reason) → unless_refused refusal need answered c o ≡ unless_refused refusal need answered (in_full c) o
    unfolding unless_refused untouched with_reading
    verdict-in_full e (some why) = refl
    verdict-in_full e none = rw (h.reads, in-full.0) e

    call-in_full : answered c h.tree ≡ answered (in_full c) h.tree → call refusal need answered c ≡ call refusal need answered (in_full c)
    unfolding call
    call-in_full e = rw (fit-in_full need) (verdict-in_full e (unacceptable need c))

  leaving-in_full : {A : Type 0} (a : A) (numbers : List ℕ) → leaving a numbers c ≡ leaving a numbers (in_full c)
  unfolding leaving
  leaving-in_full a numbers = rw in-full.1 refl

  match-returns : (o : Outcome) (steps : ℕ) → match_returns c o steps ≡ match_returns (in_full c) o steps
  unfolding match_returns
  match-returns (matched start t) steps = leaving-in_full (match_matched steps) (row start t)
  match-returns not_matched steps = leaving-in_full (match_not_matched steps) []
  match-returns (exhausted start) steps = leaving-in_full (match_exhausted start steps) []

  match-in_full : match_call c ≡ match_call (in_full c)
  unfolding match_call match_rule
  match-in_full = let a = answer c.subject h.tree c.budget in call-in_full match_refused row_length match_rule (match-returns a.outcome a.steps)

  explain-returns : (o : Outcome) (steps : ℕ) → explain_returns c h.tree o steps ≡ explain_returns (in_full c) h.tree o steps
  unfolding explain_returns markable
  explain-returns (matched start t) steps = leaving-in_full (explain_fits steps) []
  explain-returns not_matched steps =
      let l = failures c.subject h.tree in
      leaving-in_full (explain_unfit steps (furthest l) (closest l)) (marks c.subject h.tree (closest l) (min (length c.rule) (length c.result_area)))
  explain-returns (exhausted start) steps = leaving-in_full (explain_exhausted start steps) []

  explain-in_full : explain_call c ≡ explain_call (in_full c)
  unfolding explain_call explain_rule
  explain-in_full = let a = answer c.subject h.tree c.budget in call-in_full explain_refused 0 explain_rule (explain-returns a.outcome a.steps)

  list-returns : (l : Listing) → list_returns c l ≡ list_returns (in_full c) l
  list-returns l = leaving-in_full (list_outcome l.ending (length l.rows) l.steps) (joined l.rows)

  list-in_full : list_call c ≡ list_call (in_full c)
  unfolding list_call list_rule
  list-in_full = call-in_full list_refused row_length list_rule (list-returns (listing c.subject h.tree c.budget (room c.result_area)))

  scan-in_full : scan_call c ≡ scan_call (in_full c)
  unfolding scan_call scan_rule
  scan-in_full = call-in_full list_refused row_length scan_rule (list-returns (scan c.subject h.tree c.budget (room c.result_area)))

  check-returns : (f : Finding) (steps : ℕ) → check_returns c f steps ≡ check_returns (in_full c) f steps
  unfolding check_returns
  check-returns (a_reading start t) steps = leaving-in_full (check_reading steps) (row start t)
  check-returns no_reading steps = leaving-in_full (check_no_reading steps) []
  check-returns (exhausts start) steps = leaving-in_full (check_exhausted start steps) []

  unless-uncheckable : (proposal : List ℕ) (o : Option (ℕ × Reason)) → unless_uncheckable proposal c h.tree o ≡ unless_uncheckable proposal (in_full c) h.tree o
  unfolding unless_uncheckable declined
  unless-uncheckable proposal (some f) = refl
  unless-uncheckable proposal none = let a = check c.subject h.tree c.budget proposal in check-returns a.finding a.steps

  check-in_full : (proposal : List ℕ) → check_call proposal c ≡ check_call proposal (in_full c)
  unfolding check_call check_rule
  check-in_full proposal = call-in_full check_refused row_length (check_rule proposal) (unless-uncheckable proposal (uncheckable h.tree))

  lined : (line results : List ℕ) → Passes (line_call c line results)
  lined line results = record { known = h.known; tree = h.tree; groups = h.groups; stop = h.stop; reads = h.reads }

-- each line of a day is a match of its own
parts-in_full : (c : Call) → Passes c → (lines : List (List ℕ)) (area : List ℕ) → parts c lines area ≡ parts (in_full c) lines area
unfolding parts part_of
parts-in_full c h [] area = refl
parts-in_full c h (line ∷ lines) area = rw (match-in_full (line_call c line (take row_length area)) (lined c h line (take row_length area)), parts-in_full c h lines (drop part_length area)) refl

batch-in_full : (c : Call) → Passes c → batch_call c ≡ batch_call (in_full c)
unfolding batch_call batch_rule
batch-in_full c h =
    let lines = lines_of c.subject in
    let k = lined c h [] c.result_area in
    call-in_full (lineless c) k batch_refused (parts_need lines) (batch_rule lines)
    (rw (parts-in_full (lineless c) k lines c.result_area) (leaving-in_full (lineless c) k (batch_done (length lines)) (parts (in_full (lineless c)) lines c.result_area)))

pub answers-in_full : (c : Call) → Passes c → AnswersInFull c
answers-in_full c h = record { a_match = match-in_full c h; a_listing = list-in_full c h; successive_matches = scan-in_full c h; an_explanation = explain-in_full c h; a_check = check-in_full c h; a_days_lines = batch-in_full c h }
