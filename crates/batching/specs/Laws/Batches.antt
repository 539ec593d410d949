-- What a day's lines tell is what their call returns.
use Rattle.std.specs.Prelude.{◌≡◌, refl, Bool, List, ℕ, ◌/◌, length, ltb}
use Rattle.std.proofs.Common.{ap, sym, ◌∙◌, inl, inr, arith, lt-ltb, le-ltb}
use Rattle.syntax.specs.Limits.{rule_area_need, part_length}
use Rattle.syntax.specs.Tree.{Rule}
use Rattle.syntax.specs.Reading.{names_of}
use Rattle.semantics.specs.NameIndex.{name_index}
use Rattle.semantics.specs.Calls.{Call, work_area_need, over, cleared, leaving}
use Rattle.semantics.specs.Batches.{batch_done, lineless, parts_need, batch_rule}
use Rattle.semantics.proofs.Laws.Cases.{le-or}
use Rattle.semantics.proofs.Laws.Parts.{lines-outnumber-parts}
use Rattle.semantics.proofs.Laws.Refusals.{none-exactly, result_area-enough}
use Rattle.frame.specs.Inputs.{Told}
use Rattle.frame.specs.Preparing.{Readied}
use Rattle.batch_lines.specs.Parts.{filled}
use Rattle.batching.specs.Laws.Parts.{filled_is}

-- "7 is given here only if lines outnumber parts"
pub short-of-parts : (lines : List (List ℕ)) (area : List ℕ) → ltb (length area) (parts_need lines) ≡ ltb (length area / part_length) (length lines)
short-of-parts lines area = elim (le-or (parts_need lines) (length area)) [
  | inl h ↦ le-ltb (length area) (parts_need lines) h ∙ sym (elim (le-or (length lines) (length area / part_length)) [
    | inl g ↦ le-ltb (length area / part_length) (length lines) g
    | inr g ↦ absurd (omega (arith, (lines-outnumber-parts lines area).1 g))
  ])
  | inr h ↦ lt-ltb (length area) (parts_need lines) h ∙ sym (lt-ltb (length area / part_length) (length lines) ((lines-outnumber-parts lines area).0 h))
]

-- the areas are clear, and the index is filled
pub batch-clears : (lines : List (List ℕ)) (c : Call) (x : Rule) → ((batch_rule lines c x).rule_area ≡ cleared rule_area_need c.rule_area) × ((batch_rule lines c x).work_area ≡ cleared (work_area_need c.budget) c.work_area) × ((batch_rule lines c x).names ≡ over (name_index (names_of c.rule c.flags)) c.names)
unfolding batch_rule leaving
batch-clears lines c x = (refl, refl, refl)

-- the parts that are written are those of the call
pub batch-told : (lines : List (List ℕ)) (c : Call) {checked : Bool} {entry groups : ℕ} {rule_area work_area names : List ℕ} (h : Readied checked (parts_need lines) (lineless c) entry groups rule_area work_area names)
    → (many : ℕ) → many ≡ length lines → (new : List ℕ) → new ≡ filled h.tree c.budget lines c.result_area → Told (batch_rule lines (lineless c) h.tree) (batch_done many) new
unfolding batch_rule leaving
batch-told lines c {groups = groups} h many m new e =
    let f = (none-exactly (parts_need lines) (lineless c)).0 (sym h.accepted) in
    record {
      outcome_is = ap batch_done m;
      result_area_is = e ∙ sym (filled_is (lineless c) lines h.tree groups (record { faultless = f; stop = h.stop; reads = h.reads }) lines c.result_area (result_area-enough (parts_need lines) (lineless c) f));
    }
