-- A check as a call, case by case: refused for itself, for its rule, for l)'s forms or for too many branches, or else it returns `check` of its rule's tree, and writes its
-- row.
use Rattle.std.specs.Prelude.{◌≡◌, List, ◌⊎◌, ℕ, ◌≤◌, length, eqb, if◌then◌else◌}
use Rattle.std.proofs.Math.Path.{refl, ap}
use Rattle.std.proofs.Common.{sym, ◌∙◌, arith}
use Rattle.std.proofs.Math.Logic.{inl, inr}
use Rattle.std.proofs.Math.Option.{Option, none, some}
use Rattle.syntax.specs.declared.Reason.{Reason}
use Rattle.syntax.specs.declared.Reason.TheVariants.{HeldOrLook, TooManyBranches}
use Rattle.syntax.specs.Limits.{rule_area_need, row_length, branch_limit}
use Rattle.syntax.specs.Read.{refused}
use Rattle.syntax.specs.Tree.{Rule, empty, item, seq, alt, group, repeat, held, look, Branches, one, also, branch_count}
use Rattle.syntax.specs.Reading.{first_some, names_of, reading}
use Rattle.syntax.specs.Checkable.{lowest, unfollowed, unfollowed_in, crowded_at, crowded, crowded_in, uncheckable}
use Rattle.syntax.specs.Laws.Checkable.{form-uncheckable, crowd-uncheckable, is-checkable}
use Rattle.syntax.proofs.Laws.Places.{ItemsIn, BranchesIn, Found, first_found, if-found, reading-items}
use Rattle.semantics.specs.States.{State, row}
use Rattle.semantics.specs.NameIndex.{name_index}
use Rattle.semantics.specs.Calls.{Call, work_area_need, Return, over, cleared, untouched, declined, leaving}
use Rattle.semantics.specs.Proposals.{Finding, a_reading, no_reading, exhausts, Check, check}
use Rattle.semantics.specs.Checks.{CheckOutcome, check_reading, check_no_reading, check_exhausted, check_refused, check_returns, unless_uncheckable, check_rule, check_call}
use Rattle.semantics.specs.Demands.{Fault, Faultless, FirstFault, Refuses, itself, its_rule, Accepted, Written, Regular, RowFacts}
use Rattle.semantics.specs.CheckDemands.{CheckRefuses, like_match, held_or_look, too_many_branches, Checkable, CheckAnswers, CheckDemands}
use Rattle.semantics.proofs.Laws.Cases.{clash}
use Rattle.semantics.proofs.Laws.Refusals.{some-exactly, rule_area-enough, work_area-enough, result_area-enough, index-enough}
use Rattle.semantics.proofs.Laws.Areas.{over_nothing, written, written_over, zeroed, index-long}
use Rattle.semantics.proofs.Laws.Rows.{row-facts}
use Rattle.semantics.proofs.Laws.Calls.{verdict, call-refused, call-rule-refused, call-answered}
use Rattle.semantics.proofs.Laws.MatchCalls.{accepted-formed}
use Rattle.semantics.proofs.Laws.Checks.{check-demand, check-steps, check-settles}
use Rattle.semantics.proofs.Laws.SettledCalls.{Told, returns-same}

-- Places ------------------------------------------------------------------------------------

lowest-found : (n place : ℕ) (o : Option ℕ) → place ≤ n → lowest place o ≤ n
unfolding lowest
lowest-found n place none l = l
lowest-found n place (some p) l = omega arith

mutual
  unfolding unfollowed unfollowed_in

  form-found : (n : ℕ) (t : Rule) → ItemsIn n t → Found n (unfollowed t)
  form-found n empty h = tt
  form-found n (item at i) h = tt
  form-found n (seq a b) h = first_found n (unfollowed a) (unfollowed b) (form-found n a h.0) (form-found n b h.1)
  form-found n (alt bs bar b) h = first_found n (unfollowed_in bs) (unfollowed b) (form-in-found n bs h.0) (form-found n b h.2)
  form-found n (group k a) h = form-found n a h
  form-found n (repeat at l m g a) h = form-found n a h.1
  form-found n (held at a) h = lowest-found n at (unfollowed a) h.0
  form-found n (look at negative a) h = lowest-found n at (unfollowed a) h.0

  form-in-found : (n : ℕ) (bs : Branches) → BranchesIn n bs → Found n (unfollowed_in bs)
  form-in-found n (one a) h = form-found n a h
  form-in-found n (also bs bar b) h = first_found n (unfollowed_in bs) (unfollowed b) (form-in-found n bs h.0) (form-found n b h.2)

bar-found : (n : ℕ) (bs : Branches) (bar : ℕ) (b : Rule) → Found n (crowded_in bs) → bar ≤ n → Found n (crowded b) → Found n (first_some (crowded_in bs) (first_some (crowded_at (branch_count bs) bar) (crowded b)))
unfolding crowded_at
bar-found n bs bar b f l h = first_found n (crowded_in bs) (first_some (if eqb (branch_count bs) branch_limit then some bar else none) (crowded b)) f (first_found n (if eqb (branch_count bs) branch_limit then some bar else none) (crowded b) (if-found n bar (eqb (branch_count bs) branch_limit) l) h)

mutual
  unfolding crowded crowded_in

  crowd-found : (n : ℕ) (t : Rule) → ItemsIn n t → Found n (crowded t)
  crowd-found n empty h = tt
  crowd-found n (item at i) h = tt
  crowd-found n (seq a b) h = first_found n (crowded a) (crowded b) (crowd-found n a h.0) (crowd-found n b h.1)
  crowd-found n (alt bs bar b) h = bar-found n bs bar b (crowd-in-found n bs h.0) h.1 (crowd-found n b h.2)
  crowd-found n (group k a) h = crowd-found n a h
  crowd-found n (repeat at l m g a) h = crowd-found n a h.1
  crowd-found n (held at a) h = crowd-found n a h.1
  crowd-found n (look at negative a) h = crowd-found n a h.1

  crowd-in-found : (n : ℕ) (bs : Branches) → BranchesIn n bs → Found n (crowded_in bs)
  crowd-in-found n (one a) h = crowd-found n a h
  crowd-in-found n (also bs bar b) h = bar-found n bs bar b (crowd-in-found n bs h.0) h.1 (crowd-found n b h.2)

-- the places of 35 and 36 are within the rule, as every other
pub form-placed : (c : Call) (r : Rule) (groups place : ℕ) → Accepted row_length c r groups → unfollowed r ≡ some place → place ≤ length c.rule
form-placed c r groups place a e = rw e at (form-found (length c.rule) r (rw a.reads at (reading-items c.rule c.flags)))

pub crowd-placed : (c : Call) (r : Rule) (groups bar : ℕ) → Accepted row_length c r groups → crowded r ≡ some bar → bar ≤ length c.rule
crowd-placed c r groups bar a e = rw e at (crowd-found (length c.rule) r (rw a.reads at (reading-items c.rule c.flags)))

-- Cases -------------------------------------------------------------------------------------

never : (c : Call) (f : Finding) (steps p : ℕ) (w : Reason) → ¬ ((check_returns c f steps).outcome ≡ check_refused p w)
unfolding check_returns leaving
never c (a_reading n t) steps p w e = clash (cc)
never c no_reading steps p w e = clash (cc)
never c (exhausts n) steps p w e = clash (cc)

clears : (c : Call) (f : Finding) (steps : ℕ) → ((check_returns c f steps).rule_area ≡ cleared rule_area_need c.rule_area) × ((check_returns c f steps).work_area ≡ cleared (work_area_need c.budget) c.work_area) × ((check_returns c f steps).names ≡ over (name_index (names_of c.rule c.flags)) c.names)
unfolding check_returns leaving
clears c (a_reading n t) steps = (refl, refl, refl)
clears c no_reading steps = (refl, refl, refl)
clears c (exhausts n) steps = (refl, refl, refl)

module _ (proposal : List ℕ) (c : Call) where
  abbrev x : Return CheckOutcome
  x = check_call proposal c

  abbrev of : Rule → Check
  of r = check c.subject r c.budget proposal

  by_itself : (why : Reason) → FirstFault row_length c why → x ≡ untouched (check_refused 0 why) c
  unfolding check_call
  by_itself why f = call-refused check_refused row_length (check_rule proposal) c why ((some-exactly row_length c why).1 f)

  by-rule : (place : ℕ) (why : Reason) → Faultless row_length c → reading c.rule c.flags ≡ refused place why → x ≡ declined (check_refused place why) c
  unfolding check_call
  by-rule place why f e = call-rule-refused check_refused row_length (check_rule proposal) c place why f e

  read_as : (r : Rule) (groups : ℕ) → Accepted row_length c r groups → (o : Option (ℕ × Reason)) → uncheckable r ≡ o → x ≡ unless_uncheckable proposal c r o
  unfolding check_call check_rule
  read_as r groups a o e = call-answered check_refused row_length (check_rule proposal) c r groups a ∙ ap (λ (p : Option (ℕ × Reason)). unless_uncheckable proposal c r p) e

  by_form : (r : Rule) (groups place : ℕ) → Accepted row_length c r groups → unfollowed r ≡ some place → x ≡ declined (check_refused place HeldOrLook) c
  unfolding unless_uncheckable
  by_form r groups place a e = read_as r groups a (some (place, HeldOrLook)) (form-uncheckable r place e)

  by-crowd : (r : Rule) (groups bar : ℕ) → Accepted row_length c r groups → unfollowed r ≡ none → crowded r ≡ some bar → x ≡ declined (check_refused bar TooManyBranches) c
  unfolding unless_uncheckable
  by-crowd r groups bar a f e = read_as r groups a (some (bar, TooManyBranches)) (crowd-uncheckable r bar f e)

  pub check-as : (r : Rule) (groups : ℕ) → Checkable c r groups → (f : Finding) → (of r).finding ≡ f → x ≡ check_returns c f (of r).steps
  unfolding unless_uncheckable
  check-as r groups k f e = read_as r groups k.accepted none (is-checkable r k.followed k.few_branches) ∙ ap (λ (g : Finding). check_returns c g (of r).steps) e

  -- Every input -------------------------------------------------------------------------------

  -- refused for itself; or otherwise; or answered
  abbrev Case : Type 0
  Case = ((why : Reason) × FirstFault row_length c why × (x ≡ untouched (check_refused 0 why) c))
      ⊎ (((place : ℕ) × (why : Reason) × Faultless row_length c × CheckRefuses c place why × (x ≡ declined (check_refused place why) c)) ⊎ ((r : Rule) × (groups : ℕ) × Checkable c r groups))

  refused-case : {place : ℕ} {why : Reason} → Refuses row_length c place why → Case
  refused-case (itself {why = why} f) = inl (why, f, by_itself why f)
  refused-case (its_rule {place = place} {why = why} f e) = inr (inl (place, why, f, like_match (its_rule f e), by-rule place why f e))

  followed-case : (r : Rule) (groups : ℕ) → Accepted row_length c r groups → unfollowed r ≡ none → (o : Option ℕ) → crowded r ≡ o → Case
  followed-case r groups a f (some bar) e = inr (inl (bar, TooManyBranches, a.faultless, too_many_branches a f e, by-crowd r groups bar a f e))
  followed-case r groups a f none e = inr (inr (r, groups, record { accepted = a; followed = f; few_branches = e }))

  accepted-case : (r : Rule) (groups : ℕ) → Accepted row_length c r groups → (o : Option ℕ) → unfollowed r ≡ o → Case
  accepted-case r groups a (some place) e = inr (inl (place, HeldOrLook, a.faultless, held_or_look a e, by_form r groups place a e))
  accepted-case r groups a none e = followed-case r groups a e (crowded r) refl

  which : Case
  which = elim (verdict row_length c) [ inl a ↦ accepted-case a.0 a.1 a.2 (unfollowed a.0) refl | inr z ↦ refused-case z.2 ]

  -- Refusals ----------------------------------------------------------------------------------

  as-match : {place : ℕ} {why : Reason} → Refuses row_length c place why → x.outcome ≡ check_refused place why
  unfolding untouched declined
  as-match (itself {why = why} f) = rw (by_itself why f) refl
  as-match (its_rule {place = place} {why = why} f e) = rw (by-rule place why f e) refl

  as-named : {place : ℕ} {why : Reason} → CheckRefuses c place why → x.outcome ≡ check_refused place why
  unfolding declined
  as-named (like_match z) = as-match z
  as-named (held_or_look {r = r} {groups = groups} {place = place} a e) = rw (by_form r groups place a e) refl
  as-named (too_many_branches {r = r} {groups = groups} {bar = bar} a f e) = rw (by-crowd r groups bar a f e) refl

  not-answered : (r : Rule) (groups place : ℕ) (why : Reason) → Checkable c r groups → x.outcome ≡ check_refused place why → ⊥
  not-answered r groups place why k e = never c (of r).finding (of r).steps place why (ap (λ (y : Return CheckOutcome). y.outcome) (sym (check-as r groups k (of r).finding refl)) ∙ e)

  named : (place : ℕ) (why : Reason) → x.outcome ≡ check_refused place why → CheckRefuses c place why
  unfolding untouched declined
  named place why e = elim which [
    | inl z ↦ (
        let o : x.outcome ≡ check_refused 0 z.0 = ap (λ (y : Return CheckOutcome). y.outcome) z.2 in
        let p : 0 ≡ place = cc (o, e) in
        let q : z.0 ≡ why = cc (o, e) in
        rw (← p, ← q) (like_match (itself z.1)))
    | inr y ↦ elim y [
      | inl z ↦ (
          let o : x.outcome ≡ check_refused z.0 z.1 = ap (λ (y : Return CheckOutcome). y.outcome) z.4 in
          let p : z.0 ≡ place = cc (o, e) in
          let q : z.1 ≡ why = cc (o, e) in
          rw (p, q) at z.3)
      | inr z ↦ absurd (not-answered z.0 z.1 place why z.2 e)
    ]
  ]

  -- a refused call leaves rows and index
  kept : (place : ℕ) (why : Reason) → x.outcome ≡ check_refused place why → (x.result_area ≡ c.result_area) × (x.names ≡ c.names)
  unfolding untouched declined
  kept place why e = elim which [
    | inl z ↦ rw z.2 (refl, refl)
    | inr y ↦ elim y [ inl z ↦ rw z.4 (refl, refl) | inr z ↦ absurd (not-answered z.0 z.1 place why z.2 e) ]
  ]

  unchanged : (why : Reason) → Fault row_length c why → (x.rule_area ≡ c.rule_area) × (x.work_area ≡ c.work_area)
  unfolding untouched
  unchanged why f = elim which [
    | inl z ↦ rw z.2 (refl, refl)
    | inr y ↦ elim y [ inl z ↦ absurd (z.2 why f) | inr z ↦ absurd (z.2.accepted.faultless why f) ]
  ]

  emptied : Faultless row_length c → (x.rule_area ≡ cleared rule_area_need c.rule_area) × (x.work_area ≡ cleared (work_area_need c.budget) c.work_area)
  unfolding declined
  emptied f = elim which [
    | inl z ↦ absurd (f z.0 z.1.fault)
    | inr y ↦ elim y [
      | inl z ↦ rw z.4 (refl, refl)
      | inr z ↦ (let r = z.0 in let k = clears c (of r).finding (of r).steps in rw (check-as r z.1 z.2 (of r).finding refl) (k.0, k.1))
    ]
  ]

  filled : (r : Rule) (groups : ℕ) → Checkable c r groups → Written (name_index (names_of c.rule c.flags)) c.names x.names
  filled r groups k =
      let n = names_of c.rule c.flags in
      rw (check-as r groups k (of r).finding refl, (clears c (of r).finding (of r).steps).2) (written (name_index n) c.names (rw (index-long n) (index-enough row_length c k.accepted.faultless)))

  pub check-demand_1 : Regular check_refused (Fault row_length c) (CheckRefuses c) (Checkable c) c x
  check-demand_1 = record {
    answers_or_refuses = elim which [
      | inl z ↦ inr (0, z.0, like_match (itself z.1))
      | inr y ↦ elim y [ inl z ↦ inr (z.0, z.1, z.3) | inr z ↦ inl z ]
    ];
    refused_exactly = λ place why. (named place why, as-named);
    no_row_changed = λ place why e. (kept place why e).0;
    areas_unchanged = unchanged;
    index_unchanged = λ place why e. (kept place why e).1;
    index_filled = filled;
    rule_area_zeroed = λ f. rw (emptied f).0 (zeroed rule_area_need c.rule_area (rule_area-enough row_length c f));
    work_area_zeroed = λ f. rw (emptied f).1 (zeroed (work_area_need c.budget) c.work_area (work_area-enough row_length c f));
  }

  -- Answers -----------------------------------------------------------------------------------

  module _ (r : Rule) (groups : ℕ) (k : Checkable c r groups) where
    right-row : (n : ℕ) (t : State) → (of r).finding ≡ a_reading n t → RowFacts c.subject groups (row n t)
    right-row n t e =
        let w = ((check-demand c.subject r c.budget k.followed proposal).accepted_exactly n t).0 e in
        let f = accepted-formed c r groups k.accepted in
        row-facts c.subject n groups f.few r f.proper w.sent.start t w.derives

    pub returns-reading : (n : ℕ) (t : State) → (of r).finding ≡ a_reading n t → (x.outcome ≡ check_reading (of r).steps) × Written (row n t) c.result_area x.result_area
    unfolding check_returns leaving
    returns-reading n t e = rw (check-as r groups k (a_reading n t) e) (refl, written (row n t) c.result_area (rw (right-row n t e).size (result_area-enough row_length c k.accepted.faultless)))

    returns-none : (of r).finding ≡ no_reading → (x.outcome ≡ check_no_reading (of r).steps) × (x.result_area ≡ c.result_area)
    unfolding check_returns leaving
    returns-none e = rw (check-as r groups k no_reading e) (refl, over_nothing c.result_area)

    returns-exhausted : (n : ℕ) → (of r).finding ≡ exhausts n → (x.outcome ≡ check_exhausted n (of r).steps) × (x.result_area ≡ c.result_area)
    unfolding check_returns leaving
    returns-exhausted n e = rw (check-as r groups k (exhausts n) e) (refl, over_nothing c.result_area)

    pub check-answers : CheckAnswers proposal c r groups x
    check-answers = record {
      check = of r;
      demand = check-demand c.subject r c.budget k.followed proposal;
      steps_bounded = check-steps c.subject r c.budget proposal;
      when_accepted = λ n t e. ((returns-reading n t e).0, (returns-reading n t e).1, right-row n t e);
      when_none = returns-none;
      when_exhausted = returns-exhausted;
    }

-- Nothing else meets the demands -----------------------------------------------------------------

check-told : (proposal : List ℕ) (c : Call) (r : Rule) (groups : ℕ) (x y : Return CheckOutcome) → CheckAnswers proposal c r groups x → CheckAnswers proposal c r groups y → Told x y
check-told proposal c r groups x y v w = go v.check.finding refl
  where
    same : v.check ≡ w.check
    same = check-settles c.subject r c.budget proposal v.check w.check v.demand w.demand

    too : (f : Finding) → v.check.finding ≡ f → w.check.finding ≡ f
    too f e = ap (λ (a : Check). a.finding) (sym same) ∙ e

    go : (f : Finding) → v.check.finding ≡ f → Told x y
    go (a_reading n t) e =
        let p = v.when_accepted n t e in
        let q = w.when_accepted n t (too (a_reading n t) e) in
        (cc (p.0, q.0, same), written_over (row n t) c.result_area x.result_area p.1 ∙ sym (written_over (row n t) c.result_area y.result_area q.1))
    go no_reading e = let p = v.when_none e in let q = w.when_none (too no_reading e) in (cc (p.0, q.0, same), p.1 ∙ sym q.1)
    go (exhausts n) e = let p = v.when_exhausted n e in let q = w.when_exhausted n (too (exhausts n) e) in (cc (p.0, q.0, same), p.1 ∙ sym q.1)

pub check_call-settles : (proposal : List ℕ) (c : Call) (x y : Return CheckOutcome) → CheckDemands proposal c x → CheckDemands proposal c y → x ≡ y
check_call-settles proposal c x y v w = returns-same check_refused row_length c x y v.demand_1 w.demand_1 (λ r groups k. check-told proposal c r groups x y (v.answers r groups k) (w.answers r groups k))
