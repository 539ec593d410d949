-- One call after another: a match sees the lengths of its areas alone, and these stay. So each line's call tells what it would tell by itself, and the first
-- call that is not refused leaves the areas as all later ones do, and as the call with all lines does.
use Rattle.std.specs.Prelude.{◌≡◌, refl, List, [], ◌∷◌, ◌⊎◌, ℕ, ◌≤◌, ◌<◌, length, take, drop, replicate}
use Rattle.std.proofs.Common.{ap, ◌∙◌, arith, length-take-le}
use Rattle.std.proofs.Math.Logic.{inl, inr}
use Rattle.std.proofs.Math.Seq.{drop-append_seam}
use Rattle.syntax.specs.declared.Reason.{Reason}
use Rattle.syntax.specs.declared.Reason.TheVariants.{SubjectTooLong}
use Rattle.syntax.specs.Limits.{subject_limit, rule_area_need, row_length, part_length}
use Rattle.syntax.specs.Tree.{Rule}
use Rattle.syntax.specs.Reading.{names_of}
use Rattle.semantics.specs.NameIndex.{name_index}
use Rattle.semantics.specs.Calls.{Call, work_area_need, Return, over, cleared, match_refused, match_call}
use Rattle.semantics.specs.Batches.{line_call, told, part_of, parts, lineless, parts_need}
use Rattle.semantics.specs.Demands.{In, subject_too_long, Accepted, Demand1}
use Rattle.semantics.specs.BatchDemands.{AlikeButLent, lent_again, in_turn}
use Rattle.semantics.proofs.Laws.Cases.{le-or}
use Rattle.semantics.proofs.Laws.Areas.{written_over}
use Rattle.semantics.proofs.Laws.MatchCalls.{match-demand_1}
use Rattle.semantics.proofs.Laws.LentAreas.{areas-keep-length, names-keep-length, match-alike, accepted-alike}
use Rattle.semantics.proofs.Laws.Parts.{row-in-part, fit-first}
use Rattle.semantics.proofs.Laws.Batches.{line-accepted, line-refused_exactly}

row-whole : (area : List ℕ) → part_length ≤ length area → row_length ≤ length (take row_length area)
row-whole area h = omega (arith, row-in-part, length-take-le row_length area (omega (arith, row-in-part)))

-- What each tells -----------------------------------------------------------------

alike-again : (c d : Call) → AlikeButLent c d → (line results : List ℕ) → AlikeButLent (lent_again c (match_call (line_call c line results))) d
alike-again c d h line results =
    let x = match_call (line_call c line results) in
    let l = areas-keep-length match_refused row_length (line_call c line results) x (match-demand_1 (line_call c line results)) in
    let n = names-keep-length match_refused row_length (line_call c line results) x (match-demand_1 (line_call c line results)) in
    record { rule = h.rule; flags = h.flags; subject = h.subject; budget = h.budget; result_area = h.result_area; rule_area_size = l.0 ∙ h.rule_area_size; work_area_size = l.1 ∙ h.work_area_size; names_size = n ∙ h.names_size }

alike-lined : (c d : Call) → AlikeButLent c d → (line results : List ℕ) → AlikeButLent (line_call c line results) (line_call d line results)
alike-lined c d h line results = record { rule = h.rule; flags = h.flags; subject = refl; budget = h.budget; result_area = refl; rule_area_size = h.rule_area_size; work_area_size = h.work_area_size; names_size = h.names_size }

alike_self : (c : Call) → AlikeButLent c c
alike_self c = record { rule = refl; flags = refl; subject = refl; budget = refl; result_area = refl; rule_area_size = refl; work_area_size = refl; names_size = refl }

-- "It equals one call after another": in calls lent areas that others left
turns : (c d : Call) → AlikeButLent c d → (lines : List (List ℕ)) (area : List ℕ) → (in_turn c lines area).0 ≡ parts d lines area
unfolding parts part_of told
turns c d h [] area = refl
turns c d h (line ∷ lines) area =
    let row = take row_length area in
    let m = match-alike (line_call c line row) (line_call d line row) (alike-lined c d h line row) in
    rw (m.0, m.1, turns (lent_again c (match_call (line_call c line row))) d (alike-again c d h line row) lines (drop part_length area))

pub in_turn_lem : (c : Call) (lines : List (List ℕ)) (area : List ℕ) → (in_turn c lines area).0 ≡ parts c lines area
in_turn_lem c lines area = turns c c (alike_self c) lines area

-- The areas after the last ----------------------------------------------------------

over-twice : (numbers area : List ℕ) → over numbers (over numbers area) ≡ over numbers area
unfolding over
over-twice numbers area = rw (drop-append_seam numbers (drop (length numbers) area))

-- areas that a call of c finds clear, and the index filled
pub record Cleared (c : Call) (rule_words work_words names : List ℕ) : Type 0 where
  pub rule_area : rule_words ≡ cleared rule_area_need c.rule_area
  pub work_area : work_words ≡ cleared (work_area_need c.budget) c.work_area
  pub index : names ≡ over (name_index (names_of c.rule c.flags)) c.names

pub accepted-clears : {A : Type 0} (refusal : ℕ → Reason → A) (need : ℕ) (c : Call) (r : Rule) (groups : ℕ) → Accepted need c r groups → (x : Return A) → Demand1 refusal need c x → Cleared c x.rule_area x.work_area x.names
unfolding cleared
accepted-clears refusal need c r groups a x d = record {
  rule_area = written_over (replicate rule_area_need 0) c.rule_area x.rule_area (d.rule_area_zeroed a.faultless);
  work_area = written_over (replicate (work_area_need c.budget) 0) c.work_area x.work_area (d.work_area_zeroed a.faultless);
  index = written_over (name_index (names_of c.rule c.flags)) c.names x.names (d.index_filled r groups a);
}

module _ (need : ℕ) (c : Call) (r : Rule) (groups : ℕ) (a : Accepted need (lineless c) r groups) where
  -- the areas are as the first call found them, or cleared
  abbrev AsFound : Call → Type 0
  AsFound d = (d.rule_area ≡ c.rule_area) × (d.work_area ≡ c.work_area) × (d.names ≡ c.names)

  abbrev AsCleared : Call → Type 0
  AsCleared d = Cleared c d.rule_area d.work_area d.names

  module _ (d : Call) (h : AlikeButLent d c) (line results : List ℕ) (room : row_length ≤ length results) where
    abbrev next : Call
    next = lent_again d (match_call (line_call d line results))

    -- a line that is not too long clears them
    clears : length line ≤ subject_limit → AsFound d ⊎ AsCleared d → AsCleared next
    unfolding cleared
    clears l was =
        let b = accepted-alike (line_call d line results) (line_call c line results) (alike-lined d c h line results) r groups (line-accepted need c a.faultless line results room r groups a l) in
        let x = accepted-clears match_refused row_length (line_call d line results) r groups b (match_call (line_call d line results)) (match-demand_1 (line_call d line results)) in
        elim was [
          | inl w ↦ record { rule_area = x.rule_area ∙ rw w.0; work_area = x.work_area ∙ rw (w.1, h.budget); index = x.index ∙ rw (w.2, h.rule, h.flags) }
          | inr w ↦ record {
            rule_area = x.rule_area ∙ rw w.rule_area (over-twice (replicate rule_area_need 0) c.rule_area);
            work_area = x.work_area ∙ rw (w.work_area, h.budget) (over-twice (replicate (work_area_need c.budget) 0) c.work_area);
            index = x.index ∙ rw (w.index, h.rule, h.flags) (over-twice (name_index (names_of c.rule c.flags)) c.names);
          }
        ]

    -- one that is too long leaves them
    leaves : subject_limit < length line → (next.rule_area ≡ d.rule_area) × (next.work_area ≡ d.work_area) × (next.names ≡ d.names)
    leaves l =
        let m = match-demand_1 (line_call d line results) in
        let o = (match-alike (line_call d line results) (line_call c line results) (alike-lined d c h line results)).0 ∙ (line-refused_exactly need c a.faultless line results room r groups a 0 SubjectTooLong).1 (l, refl, refl) in
        let u = m.areas_unchanged SubjectTooLong (subject_too_long l) in
        (u.0, u.1, m.index_unchanged 0 SubjectTooLong o)

  -- once cleared, they stay so
  stay-cleared : (d : Call) → AlikeButLent d c → AsCleared d → (lines : List (List ℕ)) (area : List ℕ) → parts_need lines ≤ length area → AsCleared (in_turn d lines area).1
  stay-cleared d h was [] area f = was
  stay-cleared d h was (line ∷ lines) area f =
      let g = fit-first line lines area f in
      let room = row-whole area g.0 in
      let row = take row_length area in
      let kept : AsCleared (next d h line row room) = elim (le-or (length line) subject_limit) [
        | inl l ↦ clears d h line row room l (inr was)
        | inr l ↦ (let k = leaves d h line row room l in record { rule_area = k.0 ∙ was.rule_area; work_area = k.1 ∙ was.work_area; index = k.2 ∙ was.index })
      ] in
      stay-cleared (next d h line row room) (alike-again d c h line row) kept lines (drop part_length area) g.1

  -- and the first line that is not too long clears them
  get-cleared : (d : Call) → AlikeButLent d c → AsFound d → (lines : List (List ℕ)) (area : List ℕ) → parts_need lines ≤ length area → (short : List ℕ) → In short lines → length short ≤ subject_limit → AsCleared (in_turn d lines area).1
  get-cleared d h was [] area f short i s = absurd i
  get-cleared d h was (line ∷ lines) area f short i s =
      let g = fit-first line lines area f in
      let room = row-whole area g.0 in
      let row = take row_length area in
      let on = alike-again d c h line row in
      elim (le-or (length line) subject_limit) [
        | inl l ↦ stay-cleared (next d h line row room) on (clears d h line row room l (inl was)) lines (drop part_length area) g.1
        | inr l ↦ (
            let k = leaves d h line row room l in
            elim i [
              | inl e ↦ absurd (omega (arith, ap {B = ℕ} length e))
              | inr j ↦ get-cleared (next d h line row room) on (k.0 ∙ was.0, k.1 ∙ was.1, k.2 ∙ was.2) lines (drop part_length area) g.1 short j s
            ])
      ]

  pub areas-in_turn : (lines : List (List ℕ)) (area : List ℕ) → parts_need lines ≤ length area → (short : List ℕ) → In short lines → length short ≤ subject_limit → AsCleared (in_turn c lines area).1
  areas-in_turn lines area f short i s = get-cleared c (alike_self c) (refl, refl, refl) lines area f short i s
