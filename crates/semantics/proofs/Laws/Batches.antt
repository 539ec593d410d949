-- A day's lines: demand 1 is that of any call. Where the call is not refused, a line's own call has no fault but a line that is too long, so that its
-- part is as 02 says.
use Rattle.std.specs.Prelude.{◌≡◌, List, [], ◌∷◌, ◌++◌, ◌⊎◌, ◌↔◌, get_or, drop}
use Rattle.std.proofs.Math.Path.{refl, ap}
use Rattle.std.proofs.Common.{sym, ◌∙◌, mod-lt, div-lt_iff_lt-mul, length-take-le}
use Rattle.std.proofs.Math.Logic.{inl, inr}
use Prim.Native.Nat.{ℕ, suc, ◌+◌, ◌*◌, ◌^◌, ◌≤◌, ◌<◌}
use native.Mathlib.Omega.{arith}
use Rattle.std.proofs.Math.Nat.{mod-add-div, suc-mul, mul-le-mul, mul-le-mul_right}
use Rattle.std.proofs.Math.ListN.{length, take, length-take, length-drop}
use Rattle.syntax.specs.declared.Reason.{Reason}
use Rattle.syntax.specs.declared.Reason.TheVariants.{SubjectTooLong, RuleTooLong, UnknownFlag, BudgetTooLarge, RuleAreaShort, WorkAreaShort, NameIndexShort}
use Rattle.syntax.specs.Limits.{subject_limit, budget_limit, row_length, part_length}
use Rattle.syntax.specs.Tree.{Rule}
use Rattle.semantics.specs.Answers.{Outcome, matched, not_matched, exhausted}
use Rattle.semantics.specs.Calls.{Call, leaving, match_matched, match_refused, match_rule, match_call}
use Rattle.semantics.specs.Batches.{lines_of, line_call, low, high, outcome_numbers, told, part_of, parts, batch_refused, lineless, parts_need, batch_rule, batch_call}
use Rattle.semantics.specs.Demands.{Fault, rule_too_long, subject_too_long, unknown_flag, budget_too_large, rule_area_short, work_area_short, result_area_short, name_index_short, Faultless, Refuses, itself, Accepted, Demand1, step_limit, MatchAnswers}
use Rattle.semantics.specs.BatchDemands.{part, Bits, Tells, matched as tells_matched, not_matched as tells_not_matched, exhausted as tells_exhausted, refused as tells_refused, LineDemands, BatchAnswers}
use Rattle.semantics.proofs.Laws.Cases.{clash, le-or}
use Rattle.semantics.proofs.Laws.Refusals.{result_area-enough}
use Rattle.semantics.proofs.Laws.Calls.{verdict, call-answered, demand_1}
use Rattle.semantics.proofs.Laws.MatchCalls.{match-demand_1, match-answers}
use Rattle.semantics.proofs.Laws.Parts.{part-row, part-numbers, part_of-line, others-stay}

-- Demand 1 ------------------------------------------------------------------------

pub batch-demand_1 : (c : Call) → Demand1 batch_refused (parts_need (lines_of c.subject)) (lineless c) (batch_call c)
unfolding batch_call batch_rule leaving
batch-demand_1 c = let lines = lines_of c.subject in demand_1 batch_refused (parts_need lines) (batch_rule lines) (λ p q v w e. (cc, cc)) (λ d r p w e. clash (cc)) (λ d r. (refl, refl, refl)) (lineless c)

-- 2 is a line's alone
pub never-two : (need : ℕ) (c : Call) → ¬ Fault need (lineless c) SubjectTooLong
never-two need c (subject_too_long h) = omega arith

-- What a match tells in four numbers --------------------------------------------------

bits : (steps : ℕ) → steps < 2 ^ 32 * 2 ^ 32 → Bits steps (low steps) (high steps)
unfolding low high
bits steps h = record { low_fits = mod-lt steps (omega arith); high_fits = (div-lt_iff_lt-mul {k = 2 ^ 32} {x = steps} {y = 2 ^ 32} (omega arith)).1 h; make = sym (mod-add-div steps (2 ^ 32)) }

module _ (c : Call) where
  -- its steps have 64 bits
  steps-fit : Faultless row_length c → (steps : ℕ) → steps ≤ step_limit c → steps < 2 ^ 32 * 2 ^ 32
  unfolding budget_limit subject_limit
  steps-fit f steps h = elim (le-or c.budget budget_limit) [
    | inl b ↦ elim (le-or (length c.subject) subject_limit) [
      | inl l ↦ (let k : step_limit c ≤ budget_limit * (subject_limit + 1) = mul-le-mul b (more l) in omega arith)
      | inr l ↦ absurd (f SubjectTooLong (subject_too_long l))
    ]
    | inr b ↦ absurd (f BudgetTooLarge (budget_too_large b))
  ]
    where
      more : length c.subject ≤ subject_limit → length c.subject + 1 ≤ subject_limit + 1
      more l = omega arith

  match-tells : Tells (match_call c).outcome (outcome_numbers (match_call c).outcome)
  unfolding outcome_numbers
  match-tells = elim (verdict row_length c) [
    | inl z ↦ (let m = match-answers c z.0 z.1 z.2 in of-answer m (bits m.answer.steps (steps-fit z.2.faultless m.answer.steps m.steps_bounded)) m.answer.outcome refl)
    | inr z ↦ rw (((match-demand_1 c).refused_exactly z.0 z.1).1 z.2) tells_refused
  ]
    where
      of-answer : {r : Rule} {groups : ℕ} (m : MatchAnswers c r groups (match_call c)) → Bits m.answer.steps (low m.answer.steps) (high m.answer.steps) → (o : Outcome) → m.answer.outcome ≡ o → Tells (match_call c).outcome (outcome_numbers (match_call c).outcome)
      of-answer m b (matched n t) e = rw (m.when_matched n t e).0 (tells_matched b)
      of-answer m b not_matched e = rw (m.when_not_matched e).0 (tells_not_matched b)
      of-answer m b (exhausted n) e = rw (m.when_exhausted n e).0 (tells_exhausted b)

  -- "its row, unchanged unless matched"
  row_stays : ((steps : ℕ) → ¬ ((match_call c).outcome ≡ match_matched steps)) → (match_call c).result_area ≡ c.result_area
  row_stays f = elim (verdict row_length c) [
    | inl z ↦ (let m = match-answers c z.0 z.1 z.2 in of-answer m m.answer.outcome refl)
    | inr z ↦ (let d = match-demand_1 c in d.no_row_changed z.0 z.1 ((d.refused_exactly z.0 z.1).1 z.2))
  ]
    where
      of-answer : {r : Rule} {groups : ℕ} (m : MatchAnswers c r groups (match_call c)) (o : Outcome) → m.answer.outcome ≡ o → (match_call c).result_area ≡ c.result_area
      of-answer m (matched n t) e = absurd (f m.answer.steps (m.when_matched n t e).0)
      of-answer m not_matched e = (m.when_not_matched e).1
      of-answer m (exhausted n) e = (m.when_exhausted n e).1

-- The call of one line ----------------------------------------------------------------

module _ (need : ℕ) (c : Call) (f : Faultless need (lineless c)) (line results : List ℕ) (room : row_length ≤ length results) where
  abbrev lined : Call
  lined = line_call c line results

  only-long : (why : Reason) → Fault row_length lined why → (subject_limit < length line) × (why ≡ SubjectTooLong)
  only-long why (rule_too_long h) = absurd (f RuleTooLong (rule_too_long h))
  only-long why (subject_too_long h) = (h, refl)
  only-long why (unknown_flag h) = absurd (f UnknownFlag (unknown_flag h))
  only-long why (budget_too_large h) = absurd (f BudgetTooLarge (budget_too_large h))
  only-long why (rule_area_short h) = absurd (f RuleAreaShort (rule_area_short h))
  only-long why (work_area_short h) = absurd (f WorkAreaShort (work_area_short h))
  only-long why (result_area_short h) = absurd (omega arith)
  only-long why (name_index_short h) = absurd (f NameIndexShort (name_index_short h))

  pub line-faultless : length line ≤ subject_limit → Faultless row_length lined
  line-faultless h why x = let z = only-long why x in omega (arith, z.0)

  pub line-too-long : subject_limit < length line → Refuses row_length lined 0 SubjectTooLong
  line-too-long h = itself (record { fault = subject_too_long h; lowest = λ other x. rw (only-long other x).1 (omega arith) })

  module _ (r : Rule) (groups : ℕ) (a : Accepted need (lineless c) r groups) where
    pub line-accepted : length line ≤ subject_limit → Accepted row_length lined r groups
    line-accepted h = record { faultless = line-faultless h; stop = a.stop; reads = a.reads }

    -- "A line over 65,535 bytes gets refusal 2 in its own outcome", and no line another
    pub line-refused_exactly : (place : ℕ) (why : Reason) → ((match_call lined).outcome ≡ match_refused place why) ↔ ((subject_limit < length line) × (place ≡ 0) × (why ≡ SubjectTooLong))
    line-refused_exactly place why = (λ e. known (le-or (length line) subject_limit) e, λ z. long z.0 ∙ rw (z.1, z.2))
      where
        long : subject_limit < length line → (match_call lined).outcome ≡ match_refused 0 SubjectTooLong
        long h = ((match-demand_1 lined).refused_exactly 0 SubjectTooLong).1 (line-too-long h)

        answers : (m : MatchAnswers lined r groups (match_call lined)) (o : Outcome) → m.answer.outcome ≡ o → ¬ ((match_call lined).outcome ≡ match_refused place why)
        answers m (matched n t) q e = clash (cc (e, (m.when_matched n t q).0))
        answers m not_matched q e = clash (cc (e, (m.when_not_matched q).0))
        answers m (exhausted n) q e = clash (cc (e, (m.when_exhausted n q).0))

        known : (length line ≤ subject_limit) ⊎ (subject_limit < length line) → (match_call lined).outcome ≡ match_refused place why → (subject_limit < length line) × (place ≡ 0) × (why ≡ SubjectTooLong)
        known (inl h) e = let m = match-answers lined r groups (line-accepted h) in absurd (answers m m.answer.outcome refl e)
        known (inr h) e = (h, cc (e, long h), cc (e, long h))

-- The parts of all lines ----------------------------------------------------------------

-- a line's call has its own subject
part-lineless : (c : Call) (line there : List ℕ) → part_of (lineless c) line there ≡ part_of c line there
unfolding part_of
part-lineless c line there = refl

pub parts-lineless : (c : Call) (lines : List (List ℕ)) (area : List ℕ) → parts (lineless c) lines area ≡ parts c lines area
unfolding parts
parts-lineless c [] area = refl
parts-lineless c (line ∷ lines) area = rw (part-lineless c line area, parts-lineless c lines (drop part_length area))

module _ (c : Call) (lines : List (List ℕ)) (r : Rule) (groups : ℕ) (a : Accepted (parts_need lines) (lineless c) r groups) where
  -- of a line's part that is whole, its row
  row-whole : (there : List ℕ) → row_length ≤ length there → row_length ≤ length (take row_length there)
  row-whole there h = omega (arith, length-take-le row_length there h)

  line-demands : (line there : List ℕ) → row_length ≤ length there → LineDemands c line there (part_of c line there)
  line-demands line there h =
      let row = take row_length there in
      record {
        match_of_line = match_call (line_call c line row);
        demands = record { demand_1 = match-demand_1 (line_call c line row); answers = match-answers (line_call c line row) };
        row = part-row c line there h;
        unchanged = λ f. part-row c line there h ∙ row_stays (line_call c line row) f;
        numbers = rw (part-numbers c line there h) (match-tells (line_call c line row));
        refused_exactly = line-refused_exactly (parts_need lines) c a.faultless line row (row-whole there h) r groups a;
      }

  -- what is written for a line that is too long,
  pub part-too-long : (line there : List ℕ) → row_length ≤ length there → subject_limit < length line → part_of c line there ≡ take row_length there ++ (3 ∷ 2 ∷ 0 ∷ 0 ∷ [])
  unfolding part_of told outcome_numbers
  part-too-long line there h long =
      let row = take row_length there in
      let o = (line-refused_exactly (parts_need lines) c a.faultless line row (row-whole there h) r groups a 0 SubjectTooLong).1 (long, refl, refl) in
      rw (o, (match-demand_1 (line_call c line row)).no_row_changed 0 SubjectTooLong o)

  -- and for any other: what the rule's tree answers
  pub part-answered : (line there : List ℕ) → row_length ≤ length there → length line ≤ subject_limit → part_of c line there ≡ told (match_rule (line_call c line (take row_length there)) r)
  unfolding part_of match_call
  part-answered line there h short =
      let row = take row_length there in
      ap told (call-answered match_refused row_length match_rule (line_call c line row) r groups (line-accepted (parts_need lines) c a.faultless line row (row-whole there h) r groups a short))

  abbrev area : List ℕ
  area = c.result_area

  fits : parts_need lines ≤ length area
  fits = result_area-enough (parts_need lines) (lineless c) a.faultless

  -- every part is whole
  pub part-whole : (i : ℕ) → i < length lines → row_length ≤ length (part i area)
  unfolding parts_need part_length
  part-whole i h =
      let more : suc i * part_length ≤ length lines * part_length = mul-le-mul_right part_length h in
      omega (arith, length-take part_length (drop (i * part_length) area), length-drop (i * part_length) area, suc-mul i part_length, fits)

  -- nothing is written behind the last part
  rest-stays : drop (parts_need lines) (batch_rule lines (lineless c) r).result_area ≡ drop (parts_need lines) area
  unfolding batch_rule leaving
  rest-stays = others-stay (lineless c) lines area fits

  parts-answer : BatchAnswers c lines (batch_rule lines (lineless c) r)
  unfolding batch_rule leaving
  parts-answer = record {
    done = refl;
    each_line = λ i h. rw (part_of-line (lineless c) lines area fits i h, part-lineless c (get_or lines i []) (part i area)) (line-demands (get_or lines i []) (part i area) (part-whole i h));
    others = rest-stays;
  }

pub batch-is : (c : Call) (r : Rule) (groups : ℕ) → Accepted (parts_need (lines_of c.subject)) (lineless c) r groups → batch_call c ≡ batch_rule (lines_of c.subject) (lineless c) r
unfolding batch_call
batch-is c r groups a = let lines = lines_of c.subject in call-answered batch_refused (parts_need lines) (batch_rule lines) (lineless c) r groups a

pub batch-answers : (c : Call) (r : Rule) (groups : ℕ) → Accepted (parts_need (lines_of c.subject)) (lineless c) r groups → BatchAnswers c (lines_of c.subject) (batch_call c)
batch-answers c r groups a = rw (batch-is c r groups a) (parts-answer c (lines_of c.subject) r groups a)
