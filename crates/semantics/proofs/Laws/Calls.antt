-- The calls, case by case: refused for themselves, refused for their rule, or answered. Demand 1 follows for all kinds at once.
use Rattle.std.specs.Prelude.{◌≡◌, ◌⊎◌, ◌↔◌, ℕ}
use Rattle.std.proofs.Math.Path.{refl}
use Rattle.std.proofs.Common.{ap, sym, ◌∙◌}
use Rattle.std.proofs.Math.Logic.{inl, inr}
use Rattle.std.proofs.Math.Option.{none, some}
use Rattle.syntax.specs.declared.Reason.{Reason}
use Rattle.syntax.specs.Limits.{rule_area_need}
use Rattle.syntax.specs.Read.{Read, sound, refused}
use Rattle.syntax.specs.Tree.{Rule}
use Rattle.syntax.specs.Reading.{names_of, reading}
use Rattle.semantics.specs.NameIndex.{name_index}
use Rattle.semantics.specs.Calls.{Call, work_area_need, unacceptable, Return, over, cleared, untouched, declined, with_reading, unless_refused, call}
use Rattle.semantics.specs.Demands.{Fault, Faultless, Refuses, itself, its_rule, Accepted, Written, Demand1}
use Rattle.semantics.proofs.Laws.Refusals.{found, none-exactly, some-exactly, rule_area-enough, work_area-enough, index-enough}
use Rattle.semantics.proofs.Laws.Areas.{written, zeroed, index-long}

-- every input has a refusal or is accepted
pub verdict : (need : ℕ) (c : Call) → ((r : Rule) × (groups : ℕ) × Accepted need c r groups) ⊎ ((place : ℕ) × (why : Reason) × Refuses need c place why)
verdict need c = elim (found need c) [ inl x ↦ of-rule x.1 (reading c.rule c.flags) refl | inr x ↦ inr (0, x.0, itself x.2) ]
  where
    of-rule : Faultless need c → (x : Read (Rule × ℕ)) → reading c.rule c.flags ≡ x → ((r : Rule) × (groups : ℕ) × Accepted need c r groups) ⊎ ((place : ℕ) × (why : Reason) × Refuses need c place why)
    of-rule f (sound r stop) e = inl (r.0, r.1, record { faultless = f; stop = stop; reads = e })
    of-rule f (refused place why) e = inr (place, why, its_rule f e)

-- the refusal that 01 names, by the tests of a call
pub refuses-as-tested : (need : ℕ) (c : Call) (place : ℕ) (why : Reason) → Refuses need c place why ↔ (((unacceptable need c ≡ some why) × (place ≡ 0)) ⊎ ((unacceptable need c ≡ none) × (reading c.rule c.flags ≡ refused place why)))
refuses-as-tested need c place why = (tested, λ x. elim x [ inl y ↦ rw y.1 (itself ((some-exactly need c why).0 y.0)) | inr y ↦ its_rule ((none-exactly need c).0 y.0) y.1 ])
  where
    tested : {p : ℕ} {w : Reason} → Refuses need c p w → ((unacceptable need c ≡ some w) × (p ≡ 0)) ⊎ ((unacceptable need c ≡ none) × (reading c.rule c.flags ≡ refused p w))
    tested (itself {why = w} f) = inl ((some-exactly need c w).1 f, refl)
    tested (its_rule f e) = inr ((none-exactly need c).1 f, e)

module _ {A : Type 0} (refusal : ℕ → Reason → A) (need : ℕ) (answered : Call → Rule → Return A) where
  pub call-refused : (c : Call) (why : Reason) → unacceptable need c ≡ some why → call refusal need answered c ≡ untouched (refusal 0 why) c
  unfolding call unless_refused
  call-refused c why e = rw e

  pub call-rule-refused : (c : Call) (place : ℕ) (why : Reason) → Faultless need c → reading c.rule c.flags ≡ refused place why → call refusal need answered c ≡ declined (refusal place why) c
  unfolding call unless_refused with_reading
  call-rule-refused c place why f e = let n = (none-exactly need c).1 f in rw (n, e)

  pub call-answered : (c : Call) (r : Rule) (groups : ℕ) → Accepted need c r groups → call refusal need answered c ≡ answered c r
  unfolding call unless_refused with_reading
  call-answered c r groups a = let n = (none-exactly need c).1 a.faultless in rw (n, a.reads)

  call-refuses : (c : Call) (place : ℕ) (why : Reason) → Refuses need c place why → ((call refusal need answered c).outcome ≡ refusal place why) × ((call refusal need answered c).result_area ≡ c.result_area) × ((call refusal need answered c).names ≡ c.names)
  unfolding untouched declined
  call-refuses c place why (itself f) = rw (call-refused c why ((some-exactly need c why).1 f)) (refl, refl, refl)
  call-refuses c place why (its_rule f e) = rw (call-rule-refused c place why f e) (refl, refl, refl)

  -- what all kinds of calls have: refusals that tell their place and reason, answers that are none, areas cleared, and the index filled
  module _ (tells : (p q : ℕ) (v w : Reason) → refusal p v ≡ refusal q w → (p ≡ q) × (v ≡ w))
      (never : (c : Call) (r : Rule) (p : ℕ) (w : Reason) → ¬ ((answered c r).outcome ≡ refusal p w))
      (clears : (c : Call) (r : Rule) → ((answered c r).rule_area ≡ cleared rule_area_need c.rule_area) × ((answered c r).work_area ≡ cleared (work_area_need c.budget) c.work_area) × ((answered c r).names ≡ over (name_index (names_of c.rule c.flags)) c.names)) where
    refused-as-named : (c : Call) (place : ℕ) (why : Reason) → (call refusal need answered c).outcome ≡ refusal place why → Refuses need c place why
    refused-as-named c place why e = elim (verdict need c) [
      | inl x ↦ absurd (never c x.0 place why (ap (λ (y : Return A). y.outcome) (sym (call-answered c x.0 x.1 x.2)) ∙ e))
      | inr x ↦ (let q = tells x.0 place x.1 why (sym (call-refuses c x.0 x.1 x.2).0 ∙ e) in rw (q.0, q.1) at x.2)
    ]

    areas-cleared : (c : Call) → Faultless need c → ((call refusal need answered c).rule_area ≡ cleared rule_area_need c.rule_area) × ((call refusal need answered c).work_area ≡ cleared (work_area_need c.budget) c.work_area)
    unfolding declined
    areas-cleared c f = go (reading c.rule c.flags) refl
      where
        go : (x : Read (Rule × ℕ)) → reading c.rule c.flags ≡ x → ((call refusal need answered c).rule_area ≡ cleared rule_area_need c.rule_area) × ((call refusal need answered c).work_area ≡ cleared (work_area_need c.budget) c.work_area)
        go (sound r stop) e = rw (call-answered c r.0 r.1 (record { faultless = f; stop = stop; reads = e })) ((clears c r.0).0, (clears c r.0).1)
        go (refused place why) e = rw (call-rule-refused c place why f e) (refl, refl)

    areas-kept : (c : Call) (why : Reason) → Fault need c why → ((call refusal need answered c).rule_area ≡ c.rule_area) × ((call refusal need answered c).work_area ≡ c.work_area)
    unfolding untouched
    areas-kept c why f = elim (found need c) [ inl x ↦ absurd (x.1 why f) | inr x ↦ rw (call-refused c x.0 x.1) (refl, refl) ]

    filled : (c : Call) (r : Rule) (groups : ℕ) → Accepted need c r groups → Written (name_index (names_of c.rule c.flags)) c.names (call refusal need answered c).names
    filled c r groups a =
        let n = names_of c.rule c.flags in
        rw (call-answered c r groups a, (clears c r).2) (written (name_index n) c.names (rw (index-long n) (index-enough need c a.faultless)))

    pub demand_1 : (c : Call) → Demand1 refusal need c (call refusal need answered c)
    demand_1 c = record {
      answers_or_refuses = verdict need c;
      refused_exactly = λ place why. (refused-as-named c place why, λ x. (call-refuses c place why x).0);
      no_row_changed = λ place why e. (call-refuses c place why (refused-as-named c place why e)).1;
      index_unchanged = λ place why e. (call-refuses c place why (refused-as-named c place why e)).2;
      index_filled = filled c;
      areas_unchanged = areas-kept c;
      rule_area_zeroed = λ f. rw (areas-cleared c f).0 (zeroed rule_area_need c.rule_area (rule_area-enough need c f));
      work_area_zeroed = λ f. rw (areas-cleared c f).1 (zeroed (work_area_need c.budget) c.work_area (work_area-enough need c f));
    }
