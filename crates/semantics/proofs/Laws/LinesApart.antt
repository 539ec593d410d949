-- Two buffers with as many lines: the calls are refused alike or not at all, and a line that both have at one place has the same part. A byte that is
-- changed, and is no 0A before or after, changes its own line alone.
use Rattle.std.specs.Prelude.{◌≡◌, List, [], ℕ, suc, ◌+◌, ◌-◌, ◌*◌, ◌≤◌, length, get_or, take, drop}
use Rattle.std.proofs.Math.Path.{refl, ap}
use Rattle.std.proofs.Common.{sym, ◌∙◌, arith, drop-drop}
use Rattle.std.proofs.Math.Logic.{inl, inr}
use Rattle.std.proofs.Math.Option.{Option, none, some}
use Rattle.std.proofs.Math.Nat.{mul-le-mul_right}
use Rattle.syntax.specs.declared.Reason.{Reason}
use Rattle.syntax.specs.Limits.{part_length}
use Rattle.syntax.specs.Read.{Read, sound, refused}
use Rattle.syntax.specs.Tree.{Rule}
use Rattle.syntax.specs.Reading.{reading}
use Rattle.semantics.specs.Calls.{Call, unacceptable, untouched, declined, leaving, with_reading, unless_refused, call}
use Rattle.semantics.specs.Batches.{lines_of, batch_done, batch_refused, lineless, parts_need, batch_rule, batch_call}
use Rattle.semantics.specs.Demands.{Refuses, Accepted}
use Rattle.semantics.specs.BatchDemands.{part, AlikeButBuffer, SplitStays, SameAside}
use Rattle.semantics.proofs.Laws.Cases.{le-or}
use Rattle.semantics.proofs.Laws.Calls.{verdict}
use Rattle.semantics.proofs.Laws.Refusals.{result_area-enough}
use Rattle.semantics.proofs.Laws.Parts.{part_of-line, others-stay}
use Rattle.semantics.proofs.Laws.Batches.{batch-demand_1, batch-is}

-- What is no line's ---------------------------------------------------------------

module _ (c : Call) (lines others : List (List ℕ)) (e : length lines ≡ length others) (need : ℕ) where
  reading-aside : (x : Read (Rule × ℕ)) → SameAside (with_reading batch_refused need (batch_rule lines) c x) (with_reading batch_refused need (batch_rule others) c x)
  unfolding with_reading declined batch_rule leaving
  reading-aside (sound r at) = record { outcome = ap batch_done e; rule_area = refl; work_area = refl; names = refl }
  reading-aside (refused place why) = record { outcome = refl; rule_area = refl; work_area = refl; names = refl }

  verdict-aside : (o : Option Reason) → SameAside (unless_refused batch_refused need (batch_rule lines) c o) (unless_refused batch_refused need (batch_rule others) c o)
  unfolding unless_refused untouched
  verdict-aside (some why) = record { outcome = refl; rule_area = refl; work_area = refl; names = refl }
  verdict-aside none = reading-aside (reading c.rule c.flags)

  aside : SameAside (call batch_refused need (batch_rule lines) c) (call batch_refused need (batch_rule others) c)
  unfolding call
  aside = verdict-aside (unacceptable need c)

-- Lines -----------------------------------------------------------------------------

-- areas that are the same from one place on are so from a later one
later-too : (n m : ℕ) (xs ys : List ℕ) → n ≤ m → drop n xs ≡ drop n ys → drop m xs ≡ drop m ys
later-too n m xs ys h e = let q : m ≡ n + (m - n) = omega arith in rw (q, ← (drop-drop (m - n) n xs), ← (drop-drop (m - n) n ys)) (ap (drop (m - n)) e)

module _ (c d : Call) (h : AlikeButBuffer c d) (e : SplitStays c.subject d.subject) where
  abbrev ours : List (List ℕ)
  ours = lines_of c.subject

  abbrev theirs : List (List ℕ)
  theirs = lines_of d.subject

  needs : parts_need ours ≡ parts_need theirs
  unfolding parts_need
  needs = ap (λ (n : ℕ). n * part_length) e

  -- without its buffer the one call is the other
  lineless-same : lineless c ≡ lineless d
  lineless-same = rw (h.rule, h.flags, h.budget, h.rule_area, h.work_area, h.result_area, h.names)

  pub same-aside : SameAside (batch_call c) (batch_call d)
  unfolding batch_call
  same-aside = rw (needs, lineless-same) (aside (lineless d) ours theirs e (parts_need theirs))

  module _ (i : ℕ) (same : get_or ours i [] ≡ get_or theirs i []) where
    same-part : (r : Rule) (groups : ℕ) → Accepted (parts_need ours) (lineless c) r groups → part i (batch_call c).result_area ≡ part i (batch_call d).result_area
    unfolding batch_rule leaving parts_need
    same-part r groups a =
        let b : Accepted (parts_need theirs) (lineless d) r groups = rw (← needs, ← lineless-same) a in
        let f = result_area-enough (parts_need ours) (lineless c) a.faultless in
        let g = result_area-enough (parts_need theirs) (lineless d) b.faultless in
        rw (batch-is c r groups a, batch-is d r groups b) (elim (le-or (suc i) (length ours)) [
          | inl l ↦ part_of-line (lineless c) ours c.result_area f i l ∙ rw (same, lineless-same, h.result_area) (sym (part_of-line (lineless d) theirs d.result_area g i (omega arith)))
          | inr l ↦ (
              let p = others-stay (lineless c) ours c.result_area f in
              let q = others-stay (lineless d) theirs d.result_area g in
              let beyond : parts_need ours ≤ i * part_length = mul-le-mul_right part_length (omega arith) in
              ap (take part_length) (later-too (parts_need ours) (i * part_length) _ _ beyond (p ∙ rw (needs, h.result_area) (sym q))))
        ])

    refused-part : (place : ℕ) (why : Reason) → Refuses (parts_need ours) (lineless c) place why → part i (batch_call c).result_area ≡ part i (batch_call d).result_area
    refused-part place why a =
        let p = batch-demand_1 c in
        let q = batch-demand_1 d in
        let o = (p.refused_exactly place why).1 a in
        ap (part i) (p.no_row_changed place why o ∙ h.result_area ∙ sym (q.no_row_changed place why (sym same-aside.outcome ∙ o)))

    pub part_apart : part i (batch_call c).result_area ≡ part i (batch_call d).result_area
    part_apart = elim (verdict (parts_need ours) (lineless c)) [ inl z ↦ same-part z.0 z.1 z.2 | inr z ↦ refused-part z.0 z.1 z.2 ]
