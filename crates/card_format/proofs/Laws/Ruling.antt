-- What both calls do with a rule: 1 and 3 to 5, one test after another, so that the first fault in that order is given; then the rule's own refusal, or
-- the number of its groups.
use Rattle.std.specs.Prelude.{◌≡◌, refl, List, [], ◌⊎◌, ℕ, ◌^◌, ◌≤◌, ◌<◌, length}
use Rattle.std.proofs.Common.{inl, inr, arith}
use Rattle.std.proofs.Math.Option.{Option, none, some}
use borrow.Author.Tests.{lt-ltb, le-ltb, le-leb, lt-leb}
use Rattle.syntax.specs.declared.Reason.{Reason}
use Rattle.syntax.specs.declared.Reason.TheVariants.{RuleTooLong, UnknownFlag, BudgetTooLarge, RuleAreaShort}
use Rattle.syntax.specs.Limits.{rule_limit, rule_area_need, flag_bits}
use Rattle.syntax.specs.Refusals.{number_of}
use Rattle.syntax.specs.Read.{Read, sound, refused}
use Rattle.syntax.specs.Tree.{Rule}
use Rattle.syntax.specs.Reading.{reading}
use Rattle.semantics.proofs.Laws.Cases.{clash, le-or}
use Rattle.card_format.specs.Cards.{CardReturn, untouched, leaving, card_budget_limit, unfit, with_reading, unless_unfit, ruled}
use Rattle.card_format.specs.CardDemands.{RuleFault, rule_too_long, unknown_flag, budget_too_large, rule_area_short, Faultless, Fitting, FirstFault, Sound}

-- The tests --------------------------------------------------------------------------------

module _ (size flags budget room : ℕ) where
  pub rule-long : rule_limit < size → unfit size flags budget room ≡ some RuleTooLong
  unfolding unfit
  rule-long h = rw (lt-ltb rule_limit size h)

  module _ (p₁ : size ≤ rule_limit) where
    pub flag-unknown : 2 ^ flag_bits ≤ flags → unfit size flags budget room ≡ some UnknownFlag
    unfolding unfit
    flag-unknown h = rw (le-ltb rule_limit size p₁, le-leb (2 ^ flag_bits) flags h)

    module _ (p₂ : flags < 2 ^ flag_bits) where
      pub budget-large : card_budget_limit < budget → unfit size flags budget room ≡ some BudgetTooLarge
      unfolding unfit
      budget-large h = rw (le-ltb rule_limit size p₁, lt-leb (2 ^ flag_bits) flags p₂, lt-ltb card_budget_limit budget h)

      module _ (p₃ : budget ≤ card_budget_limit) where
        pub area-short : room < rule_area_need → unfit size flags budget room ≡ some RuleAreaShort
        unfolding unfit
        area-short h = rw (le-ltb rule_limit size p₁, lt-leb (2 ^ flag_bits) flags p₂, le-ltb card_budget_limit budget p₃, lt-ltb room rule_area_need h)

        pub fit : rule_area_need ≤ room → unfit size flags budget room ≡ none
        unfolding unfit
        fit p₄ = rw (le-ltb rule_limit size p₁, lt-leb (2 ^ flag_bits) flags p₂, le-ltb card_budget_limit budget p₃, le-ltb room rule_area_need p₄)

-- The first fault ------------------------------------------------------------------------------

module _ (rule : List ℕ) (flags budget : ℕ) (rule_area : List ℕ) where
  abbrev verdict : Option Reason
  verdict = unfit (length rule) flags budget (length rule_area)

  pub fitting-none : Fitting rule flags budget rule_area → verdict ≡ none
  fitting-none f = fit (length rule) flags budget (length rule_area) f.rule_fits f.flags_fit f.budget_fits f.area_fits

  pub fitting-faultless : Fitting rule flags budget rule_area → Faultless rule flags budget rule_area
  fitting-faultless f why (rule_too_long h) = omega (arith, f.rule_fits)
  fitting-faultless f why (unknown_flag h) = omega (arith, f.flags_fit)
  fitting-faultless f why (budget_too_large h) = omega (arith, f.budget_fits)
  fitting-faultless f why (rule_area_short h) = omega (arith, f.area_fits)

  pub faultless-fitting : Faultless rule flags budget rule_area → Fitting rule flags budget rule_area
  faultless-fitting f = record {
    rule_fits = elim (le-or (length rule) rule_limit) [ inl h ↦ h | inr h ↦ absurd (f RuleTooLong (rule_too_long h)) ];
    flags_fit = elim (le-or (2 ^ flag_bits) flags) [ inl h ↦ absurd (f UnknownFlag (unknown_flag h)) | inr h ↦ h ];
    budget_fits = elim (le-or budget card_budget_limit) [ inl h ↦ h | inr h ↦ absurd (f BudgetTooLarge (budget_too_large h)) ];
    area_fits = elim (le-or rule_area_need (length rule_area)) [ inl h ↦ h | inr h ↦ absurd (f RuleAreaShort (rule_area_short h)) ];
  }

  -- no fault has a number below k
  lowest-is : (k : ℕ) → (rule_limit < length rule → k ≤ 1) → (2 ^ flag_bits ≤ flags → k ≤ 3) → (card_budget_limit < budget → k ≤ 4) → (length rule_area < rule_area_need → k ≤ 5)
      → (other : Reason) → RuleFault rule flags budget rule_area other → k ≤ number_of other
  lowest-is k a b c d other (rule_too_long h) = a h
  lowest-is k a b c d other (unknown_flag h) = b h
  lowest-is k a b c d other (budget_too_large h) = c h
  lowest-is k a b c d other (rule_area_short h) = d h

  pub first_or_none : ((why : Reason) × FirstFault rule flags budget rule_area why) ⊎ Fitting rule flags budget rule_area
  first_or_none = elim (le-or (length rule) rule_limit) [
    | inr h ↦ inl (RuleTooLong, record { fault = rule_too_long h; lowest = lowest-is 1 (λ l. omega arith) (λ l. omega arith) (λ l. omega arith) (λ l. omega arith) })
    | inl p₁ ↦ elim (le-or (2 ^ flag_bits) flags) [
      | inl h ↦ inl (UnknownFlag, record { fault = unknown_flag h; lowest = lowest-is 3 (λ l. omega arith) (λ l. omega arith) (λ l. omega arith) (λ l. omega arith) })
      | inr p₂ ↦ elim (le-or budget card_budget_limit) [
        | inr h ↦ inl (BudgetTooLarge, record { fault = budget_too_large h; lowest = lowest-is 4 (λ l. omega arith) (λ l. omega arith) (λ l. omega arith) (λ l. omega arith) })
        | inl p₃ ↦ elim (le-or rule_area_need (length rule_area)) [
          | inr h ↦ inl (RuleAreaShort, record { fault = rule_area_short h; lowest = lowest-is 5 (λ l. omega arith) (λ l. omega arith) (λ l. omega arith) (λ l. omega arith) })
          | inl p₄ ↦ inr (record { rule_fits = p₁; flags_fit = p₂; budget_fits = p₃; area_fits = p₄ })
        ]
      ]
    ]
  ]

  -- where no fault has a number below k, the tests of such numbers are passed
  module _ {k : ℕ} (lowest : (other : Reason) → RuleFault rule flags budget rule_area other → k ≤ number_of other) where
    passes-1 : 1 < k → length rule ≤ rule_limit
    passes-1 l = elim (le-or (length rule) rule_limit) [ inl h ↦ h | inr h ↦ absurd (omega (arith, lowest RuleTooLong (rule_too_long h))) ]

    passes-3 : 3 < k → flags < 2 ^ flag_bits
    passes-3 l = elim (le-or (2 ^ flag_bits) flags) [ inl h ↦ absurd (omega (arith, lowest UnknownFlag (unknown_flag h))) | inr h ↦ h ]

    passes-4 : 4 < k → budget ≤ card_budget_limit
    passes-4 l = elim (le-or budget card_budget_limit) [ inl h ↦ h | inr h ↦ absurd (omega (arith, lowest BudgetTooLarge (budget_too_large h))) ]

  given_by : {why : Reason} → RuleFault rule flags budget rule_area why → ((other : Reason) → RuleFault rule flags budget rule_area other → number_of why ≤ number_of other) → verdict ≡ some why
  given_by (rule_too_long h) lowest = rule-long (length rule) flags budget (length rule_area) h
  given_by (unknown_flag h) lowest = flag-unknown (length rule) flags budget (length rule_area) (passes-1 lowest (omega arith)) h
  given_by (budget_too_large h) lowest = budget-large (length rule) flags budget (length rule_area) (passes-1 lowest (omega arith)) (passes-3 lowest (omega arith)) h
  given_by (rule_area_short h) lowest = area-short (length rule) flags budget (length rule_area) (passes-1 lowest (omega arith)) (passes-3 lowest (omega arith)) (passes-4 lowest (omega arith)) h

  -- the first fault is the one that the tests meet
  pub first-given : {why : Reason} → FirstFault rule flags budget rule_area why → verdict ≡ some why
  first-given f = given_by f.fault f.lowest

  pub none-fitting : verdict ≡ none → Fitting rule flags budget rule_area
  none-fitting e = elim first_or_none [ inl z ↦ absurd (clash (cc (first-given z.1))) | inr f ↦ f ]

  -- The three ends of a rule ---------------------------------------------------------------------

  pub data Ruling : Type 0 where
    unread : (why : Reason) → FirstFault rule flags budget rule_area why → Ruling
    unsound : (place : ℕ) (why : Reason) → Fitting rule flags budget rule_area → reading rule flags ≡ refused place why → Ruling
    counted : (groups : ℕ) → Sound rule flags budget rule_area groups → Ruling

  read-ruling : Fitting rule flags budget rule_area → (x : Read (Rule × ℕ)) → reading rule flags ≡ x → Ruling
  read-ruling f (refused place why) e = unsound place why f e
  read-ruling f (sound r at) e = counted r.1 (record { faultless = fitting-faultless f; tree = r.0; stop = at; reads = e })

  pub ruling : Ruling
  ruling = elim first_or_none [ inl z ↦ unread z.0 z.1 | inr f ↦ read-ruling f (reading rule flags) refl ]

  -- what comes of each end
  module _ {A : Type 0} (refusal : ℕ → Reason → A) (area : List ℕ) (goes : (groups : ℕ) → CardReturn A) where
    pub ruled-given : {why : Reason} → verdict ≡ some why → ruled refusal rule_area area goes rule flags budget ≡ untouched (refusal 0 why) rule_area area
    unfolding ruled unless_unfit
    ruled-given e = rw e

    pub ruled-unread : {why : Reason} → FirstFault rule flags budget rule_area why → ruled refusal rule_area area goes rule flags budget ≡ untouched (refusal 0 why) rule_area area
    ruled-unread f = ruled-given (first-given f)

    pub ruled-unsound : (place : ℕ) (why : Reason) → Fitting rule flags budget rule_area → reading rule flags ≡ refused place why → ruled refusal rule_area area goes rule flags budget ≡ leaving (refusal place why) [] rule_area area
    unfolding ruled unless_unfit with_reading
    ruled-unsound place why f e = rw (fitting-none f, e)

    pub ruled-counted : (groups : ℕ) → Sound rule flags budget rule_area groups → ruled refusal rule_area area goes rule flags budget ≡ goes groups
    unfolding ruled unless_unfit with_reading
    ruled-counted groups z = rw (fitting-none (faultless-fitting z.faultless), z.reads)
