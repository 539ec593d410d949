-- The demands on a day's lines hold for all inputs, and nothing else meets them. The call equals one call after another, and no byte of one line changes
-- what stands for another.
-- docs/REFERENCE.md, 16.6
use Rattle.std.specs.Prelude.{◌≡◌, List, [], ◌∷◌, ◌++◌, ◌↔◌, ℕ, ◌/◌, ◌≤◌, ◌<◌, length, get_or}
use Rattle.std.proofs.Common.{sym, ◌∙◌}
use Rattle.syntax.specs.declared.Reason.TheVariants.{SubjectTooLong, ResultAreaShort}
use Rattle.syntax.specs.Limits.{subject_limit, part_length}
use Rattle.syntax.specs.Tree.{Rule}
use Rattle.semantics.specs.Calls.{Call, Return, over, leaving, match_call}
use Rattle.semantics.specs.Batches.{lines_of, BatchOutcome, batch_refused, lineless, parts_need, batch_rule, batch_call}
use Rattle.semantics.specs.Demands.{In, Fault, result_area_short, Accepted}
use Rattle.semantics.specs.BatchDemands.{newline, part, BatchDemands, AlikeButLent, in_turn, AlikeButBuffer, SplitStays, newlines, SameAside}
use Rattle.semantics.proofs.Laws.Refusals.{result_area-enough}
use Rattle.semantics.proofs.Laws.Lines.{lines_split, other_byte}
use Rattle.semantics.proofs.Laws.LentAreas.{match-alike}
use Rattle.semantics.proofs.Laws.Parts.{lines-outnumber-parts}
use Rattle.semantics.proofs.Laws.Batches.{never-two, batch-demand_1, batch-is, batch-answers, parts-lineless}
use Rattle.semantics.proofs.Laws.SettledBatches.{batch-settles}
use Rattle.semantics.proofs.Laws.LinesApart.{same-aside, part_apart}
use Rattle.semantics.proofs.Laws.LinesInTurn.{in_turn_lem, accepted-clears, areas-in_turn}

pub batch-meets-demands : (c : Call) → BatchDemands c (batch_call c)
batch-meets-demands c = record { lines = lines_of c.subject; split = lines_split c.subject; demand_1 = batch-demand_1 c; answers = batch-answers c }

pub batch-settled : (c : Call) (x : Return BatchOutcome) → BatchDemands c x → x ≡ batch_call c
batch-settled c x h = batch-settles c x (batch_call c) h (batch-meets-demands c)

-- Refusals 2 and 7 -----------------------------------------------------------------

-- 2 is not given to the whole call
pub no-refusal-2 : (need : ℕ) (c : Call) → ¬ Fault need (lineless c) SubjectTooLong
no-refusal-2 = never-two

-- "7 is given here only if lines outnumber parts": those that fit into the area
pub refusal-7-exactly : (lines : List (List ℕ)) (c : Call) → Fault (parts_need lines) (lineless c) ResultAreaShort ↔ (length c.result_area / part_length < length lines)
refusal-7-exactly lines c = (λ f. (lines-outnumber-parts lines c.result_area).0 (short f), λ h. result_area_short ((lines-outnumber-parts lines c.result_area).1 h))
  where
    short : Fault (parts_need lines) (lineless c) ResultAreaShort → length c.result_area < parts_need lines
    short (result_area_short h) = h

-- "It equals one call after another." ------------------------------------------------

-- what stands in the rule area, the work area and the name index is not looked at
pub match-sees-lengths : (c d : Call) → AlikeButLent c d → ((match_call c).outcome ≡ (match_call d).outcome) × ((match_call c).result_area ≡ (match_call d).result_area)
match-sees-lengths = match-alike

module _ (c : Call) (r : Rule) (groups : ℕ) (a : Accepted (parts_need (lines_of c.subject)) (lineless c) r groups) where
  abbrev lines : List (List ℕ)
  lines = lines_of c.subject

  -- the result area is as the matches of all lines in turn leave it,
  pub one-call-after-another : (batch_call c).result_area ≡ over (in_turn c lines c.result_area).0 c.result_area
  unfolding batch_rule leaving
  one-call-after-another = rw (batch-is c r groups a, parts-lineless c lines c.result_area, in_turn_lem c lines c.result_area)

  -- and so are the others, if one of them was not refused
  pub areas-after-another : (short : List ℕ) → In short lines → length short ≤ subject_limit → (let last = (in_turn c lines c.result_area).1 in ((batch_call c).rule_area ≡ last.rule_area) × ((batch_call c).work_area ≡ last.work_area) × ((batch_call c).names ≡ last.names))
  areas-after-another short i h =
      let x = accepted-clears batch_refused (parts_need lines) (lineless c) r groups a (batch_call c) (batch-demand_1 c) in
      let y = areas-in_turn (parts_need lines) c r groups a lines c.result_area (result_area-enough (parts_need lines) (lineless c) a.faultless) short i h in
      (x.rule_area ∙ sym y.rule_area, x.work_area ∙ sym y.work_area, x.index ∙ sym y.index)

-- "No byte of one line changes the outcome or row of another, as long as the split stays." ------

-- a line that two buffers of as many lines have at one place has the same part; whether the rule is refused, and what is no line's, is the same
pub lines-apart : (c d : Call) → AlikeButBuffer c d → SplitStays c.subject d.subject
    → SameAside (batch_call c) (batch_call d) × ((i : ℕ) → get_or (lines_of c.subject) i [] ≡ get_or (lines_of d.subject) i [] → part i (batch_call c).result_area ≡ part i (batch_call d).result_area)
lines-apart c d h e = (same-aside c d h e, part_apart c d h e)

-- so a byte that is no 0A, changed into another that is none, changes no part but that of its own line
pub bytes_apart : (c d : Call) → AlikeButBuffer c d → (u v : List ℕ) (a b : ℕ) → ¬ (a ≡ newline) → ¬ (b ≡ newline) → c.subject ≡ u ++ (a ∷ v) → d.subject ≡ u ++ (b ∷ v)
    → SameAside (batch_call c) (batch_call d) × ((i : ℕ) → ¬ (i ≡ newlines u) → part i (batch_call c).result_area ≡ part i (batch_call d).result_area)
bytes_apart c d h u v a b f g p q =
    let x = other_byte u v a b f g in
    let e : SplitStays c.subject d.subject = rw (p, q) x.many in
    (same-aside c d h e, λ i k. part_apart c d h e i (rw (p, q) (x.same i k)))
