-- Refusals 1 to 8: one test after another, so that the first fault in 01's order is given, and none where there is no fault.
use Rattle.std.specs.Prelude.{◌≡◌, ◌⊎◌, ◌↔◌, Bool, true, false, ℕ, suc, ◌≤◌, ◌^◌, length, ltb, leb, eqb, if◌then◌else◌}
use Rattle.std.proofs.Math.Path.{refl}
use Rattle.std.proofs.Common.{ap, sym, ◌∙◌, inr, arith, ltb-true, ltb-false, leb-true, leb-false}
use Rattle.std.proofs.Math.Logic.{inl}
use Rattle.std.proofs.Math.Option.{Option, none, some}
use Rattle.syntax.specs.declared.Reason.{Reason}
use Rattle.syntax.specs.declared.Reason.TheVariants.{RuleTooLong, SubjectTooLong, UnknownFlag, BudgetTooLarge, RuleAreaShort, WorkAreaShort, ResultAreaShort, NameIndexShort}
use Rattle.syntax.specs.Limits.{rule_limit, subject_limit, budget_limit, rule_area_need, flag_bits, name_index_need}
use Rattle.syntax.specs.Refusals.{number_of}
use Rattle.semantics.specs.Calls.{Call, work_area_need, unacceptable}
use Rattle.semantics.specs.Demands.{Fault, rule_too_long, subject_too_long, unknown_flag, budget_too_large, rule_area_short, work_area_short, result_area_short, name_index_short, Faultless, FirstFault}
use Rattle.semantics.proofs.Laws.Cases.{clash, le-or}

-- the reason of a number from 1 to 8
unfoldable reason_of : ℕ → Reason
reason_of n =
    if eqb n 1 then RuleTooLong
    else if eqb n 2 then SubjectTooLong
    else if eqb n 3 then UnknownFlag
    else if eqb n 4 then BudgetTooLarge
    else if eqb n 5 then RuleAreaShort
    else if eqb n 6 then WorkAreaShort
    else if eqb n 7 then ResultAreaShort
    else NameIndexShort

module _ (need : ℕ) (c : Call) where
  reason-of : {why : Reason} → Fault need c why → reason_of (number_of why) ≡ why
  unfolding reason_of
  reason-of (rule_too_long h) = refl
  reason-of (subject_too_long h) = refl
  reason-of (unknown_flag h) = refl
  reason-of (budget_too_large h) = refl
  reason-of (rule_area_short h) = refl
  reason-of (work_area_short h) = refl
  reason-of (result_area_short h) = refl
  reason-of (name_index_short h) = refl

  -- no fault has a number below k
  abbrev NoneBelow : ℕ → Type 0
  NoneBelow k = (other : Reason) → Fault need c other → k ≤ number_of other

  from-1 : NoneBelow 1
  from-1 other (rule_too_long h) = omega arith
  from-1 other (subject_too_long h) = omega arith
  from-1 other (unknown_flag h) = omega arith
  from-1 other (budget_too_large h) = omega arith
  from-1 other (rule_area_short h) = omega arith
  from-1 other (work_area_short h) = omega arith
  from-1 other (result_area_short h) = omega arith
  from-1 other (name_index_short h) = omega arith

  from_next : (k : ℕ) → NoneBelow k → ¬ Fault need c (reason_of k) → NoneBelow (suc k)
  from_next k low none_here other f = elim (le-or (suc k) (number_of other)) [
    | inl h ↦ h
    | inr h ↦ (let e : number_of other ≡ k = omega (arith, low other f) in absurd (none_here (rw (← e, reason-of f) f)))
  ]

  rule_fits : ltb rule_limit (length c.rule) ≡ false → ¬ Fault need c RuleTooLong
  rule_fits e (rule_too_long h) = omega (arith, ltb-false rule_limit (length c.rule) e)

  subject_fits : ltb subject_limit (length c.subject) ≡ false → ¬ Fault need c SubjectTooLong
  subject_fits e (subject_too_long h) = omega (arith, ltb-false subject_limit (length c.subject) e)

  flags-known : leb (2 ^ flag_bits) c.flags ≡ false → ¬ Fault need c UnknownFlag
  flags-known e (unknown_flag h) = omega (arith, leb-false (2 ^ flag_bits) c.flags e)

  budget_fits : ltb budget_limit c.budget ≡ false → ¬ Fault need c BudgetTooLarge
  budget_fits e (budget_too_large h) = omega (arith, ltb-false budget_limit c.budget e)

  rule_area_fits : ltb (length c.rule_area) rule_area_need ≡ false → ¬ Fault need c RuleAreaShort
  rule_area_fits e (rule_area_short h) = omega (arith, ltb-false (length c.rule_area) rule_area_need e)

  work_area_fits : ltb (length c.work_area) (work_area_need c.budget) ≡ false → ¬ Fault need c WorkAreaShort
  work_area_fits e (work_area_short h) = omega (arith, ltb-false (length c.work_area) (work_area_need c.budget) e)

  result_area-fits : ltb (length c.result_area) need ≡ false → ¬ Fault need c ResultAreaShort
  result_area-fits e (result_area_short h) = omega (arith, ltb-false (length c.result_area) need e)

  names_fit : ltb (length c.names) name_index_need ≡ false → ¬ Fault need c NameIndexShort
  names_fit e (name_index_short h) = omega (arith, ltb-false (length c.names) name_index_need e)

  none-from-9 : (why : Reason) → Fault need c why → ¬ (9 ≤ number_of why)
  none-from-9 why (rule_too_long h) l = omega arith
  none-from-9 why (subject_too_long h) l = omega arith
  none-from-9 why (unknown_flag h) l = omega arith
  none-from-9 why (budget_too_large h) l = omega arith
  none-from-9 why (rule_area_short h) l = omega arith
  none-from-9 why (work_area_short h) l = omega arith
  none-from-9 why (result_area_short h) l = omega arith
  none-from-9 why (name_index_short h) l = omega arith

  -- tests find no fault, or the first one
  abbrev pub Finds : Option Reason → Type 0
  Finds verdict = ((verdict ≡ none) × Faultless need c) ⊎ ((why : Reason) × (verdict ≡ some why) × FirstFault need c why)

  -- the test of one fault, and then those of the later ones
  one-test : (k : ℕ) → number_of (reason_of k) ≡ k → NoneBelow k → (b : Bool) (later : Option Reason) → (b ≡ true → Fault need c (reason_of k)) → (b ≡ false → ¬ Fault need c (reason_of k)) → (NoneBelow (suc k) → Finds later)
      → Finds (if b then some (reason_of k) else later)
  one-test k e low true later f g h = inr (reason_of k, refl, record { fault = f refl; lowest = rw e low })
  one-test k e low false later f g h = h (from_next k low (g refl))

  pub found : Finds (unacceptable need c)
  unfolding unacceptable reason_of
  found =
      one-test 1 refl from-1 _ _ (λ e. rule_too_long (ltb-true _ _ e)) rule_fits (λ low2.
      one-test 2 refl low2 _ _ (λ e. subject_too_long (ltb-true _ _ e)) subject_fits (λ low3.
      one-test 3 refl low3 _ _ (λ e. unknown_flag (leb-true _ _ e)) flags-known (λ low4.
      one-test 4 refl low4 _ _ (λ e. budget_too_large (ltb-true _ _ e)) budget_fits (λ low5.
      one-test 5 refl low5 _ _ (λ e. rule_area_short (ltb-true _ _ e)) rule_area_fits (λ low6.
      one-test 6 refl low6 _ _ (λ e. work_area_short (ltb-true _ _ e)) work_area_fits (λ low7.
      one-test 7 refl low7 _ _ (λ e. result_area_short (ltb-true _ _ e)) result_area-fits (λ low8.
      one-test 8 refl low8 _ _ (λ e. name_index_short (ltb-true _ _ e)) names_fit (λ low9.
      inl (refl, λ why f. none-from-9 why f (low9 why f))))))))))

  pub none-exactly : (unacceptable need c ≡ none) ↔ Faultless need c
  none-exactly = elim found [
    | inl x ↦ (λ e. x.1, λ f. x.0)
    | inr x ↦ (λ e. absurd (clash (cc (x.1, e))), λ f. absurd (f x.0 x.2.fault))
  ]

  first-once : (v w : Reason) → FirstFault need c v → FirstFault need c w → v ≡ w
  first-once v w x y =
      let e : number_of v ≡ number_of w = omega (arith, x.lowest w y.fault, y.lowest v x.fault) in
      sym (reason-of x.fault) ∙ ap reason_of e ∙ reason-of y.fault

  pub some-exactly : (why : Reason) → (unacceptable need c ≡ some why) ↔ FirstFault need c why
  some-exactly why = elim found [
    | inl x ↦ (λ e. absurd (clash (cc (x.0, e))), λ f. absurd (x.1 why f.fault))
    | inr x ↦ (λ e. (let q : x.0 ≡ why = cc (x.1, e) in rw q at x.2), λ f. x.1 ∙ ap some (first-once x.0 why x.2 f))
  ]

  -- without a fault the areas are large enough, and the subject is no longer than it may be
  pub rule_area-enough : Faultless need c → rule_area_need ≤ length c.rule_area
  rule_area-enough f = elim (le-or rule_area_need (length c.rule_area)) [ inl h ↦ h | inr h ↦ absurd (f RuleAreaShort (rule_area_short h)) ]

  pub work_area-enough : Faultless need c → work_area_need c.budget ≤ length c.work_area
  work_area-enough f = elim (le-or (work_area_need c.budget) (length c.work_area)) [ inl h ↦ h | inr h ↦ absurd (f WorkAreaShort (work_area_short h)) ]

  pub subject-enough : Faultless need c → length c.subject ≤ subject_limit
  subject-enough f = elim (le-or (length c.subject) subject_limit) [ inl h ↦ h | inr h ↦ absurd (f SubjectTooLong (subject_too_long h)) ]

  pub result_area-enough : Faultless need c → need ≤ length c.result_area
  result_area-enough f = elim (le-or need (length c.result_area)) [ inl h ↦ h | inr h ↦ absurd (f ResultAreaShort (result_area_short h)) ]

  pub index-enough : Faultless need c → name_index_need ≤ length c.names
  index-enough f = elim (le-or name_index_need (length c.names)) [ inl h ↦ h | inr h ↦ absurd (f NameIndexShort (name_index_short h)) ]
