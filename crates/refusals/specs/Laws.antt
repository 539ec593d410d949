-- Which refusal a call meets: it has passed the tests before, and fails this one. A call that passes them all is acceptable.
use Rattle.std.specs.Prelude.{◌≡◌, true, false, ℕ, ◌^◌, ◌≤◌, ◌<◌, ltb, leb, length}
use Rattle.std.proofs.Math.Option.{none, some}
use Rattle.std.proofs.Common.{lt_of_not-le, le_of_suc-le-suc, arith}
use borrow.Author.Tests.{lt-ltb, le-ltb, le-leb, lt-leb}
use Rattle.syntax.specs.declared.Reason.{Reason}
use Rattle.syntax.specs.declared.Reason.TheVariants.{RuleTooLong, SubjectTooLong, UnknownFlag, BudgetTooLarge, RuleAreaShort, WorkAreaShort, ResultAreaShort, NameIndexShort}
use Rattle.syntax.specs.Limits.{rule_limit, subject_limit, budget_limit, rule_area_need, flag_bits, name_index_need}
use Rattle.semantics.specs.Calls.{Call, work_area_need, unacceptable}

module _ (need : ℕ) (d : Call) where
  pub rule-long : rule_limit < length d.rule → some RuleTooLong ≡ unacceptable need d
  unfolding unacceptable
  rule-long h = rw (lt-ltb rule_limit (length d.rule) h)

  module _ (p₁ : length d.rule ≤ rule_limit) where
    t₁ : ltb rule_limit (length d.rule) ≡ false
    t₁ = le-ltb rule_limit (length d.rule) p₁

    pub subject-long : subject_limit < length d.subject → some SubjectTooLong ≡ unacceptable need d
    unfolding unacceptable
    subject-long h = rw (t₁, lt-ltb subject_limit (length d.subject) h)

    module _ (p₂ : length d.subject ≤ subject_limit) where
      t₂ : ltb subject_limit (length d.subject) ≡ false
      t₂ = le-ltb subject_limit (length d.subject) p₂

      pub flag-unknown : 2 ^ flag_bits ≤ d.flags → some UnknownFlag ≡ unacceptable need d
      unfolding unacceptable
      flag-unknown h = rw (t₁, t₂, le-leb (2 ^ flag_bits) d.flags h)

      module _ (p₃ : d.flags < 2 ^ flag_bits) where
        t₃ : leb (2 ^ flag_bits) d.flags ≡ false
        t₃ = lt-leb (2 ^ flag_bits) d.flags p₃

        pub budget-large : budget_limit < d.budget → some BudgetTooLarge ≡ unacceptable need d
        unfolding unacceptable
        budget-large h = rw (t₁, t₂, t₃, lt-ltb budget_limit d.budget h)

        module _ (p₄ : d.budget ≤ budget_limit) where
          t₄ : ltb budget_limit d.budget ≡ false
          t₄ = le-ltb budget_limit d.budget p₄

          pub rule_area-short : length d.rule_area < rule_area_need → some RuleAreaShort ≡ unacceptable need d
          unfolding unacceptable
          rule_area-short h = rw (t₁, t₂, t₃, t₄, lt-ltb (length d.rule_area) rule_area_need h)

          module _ (p₅ : rule_area_need ≤ length d.rule_area) where
            t₅ : ltb (length d.rule_area) rule_area_need ≡ false
            t₅ = le-ltb (length d.rule_area) rule_area_need p₅

            pub work_area-short : length d.work_area < work_area_need d.budget → some WorkAreaShort ≡ unacceptable need d
            unfolding unacceptable
            work_area-short h = rw (t₁, t₂, t₃, t₄, t₅, lt-ltb (length d.work_area) (work_area_need d.budget) h)

            module _ (p₆ : work_area_need d.budget ≤ length d.work_area) where
              t₆ : ltb (length d.work_area) (work_area_need d.budget) ≡ false
              t₆ = le-ltb (length d.work_area) (work_area_need d.budget) p₆

              pub results-short : ltb (length d.result_area) need ≡ true → some ResultAreaShort ≡ unacceptable need d
              unfolding unacceptable
              results-short t₇ = rw (t₁, t₂, t₃, t₄, t₅, t₆, t₇)

              module _ (t₇ : ltb (length d.result_area) need ≡ false) where
                pub names-short : length d.names < name_index_need → some NameIndexShort ≡ unacceptable need d
                unfolding unacceptable
                names-short h = rw (t₁, t₂, t₃, t₄, t₅, t₆, t₇, lt-ltb (length d.names) name_index_need h)

                pub acceptable : name_index_need ≤ length d.names → none ≡ unacceptable need d
                unfolding unacceptable
                acceptable p₈ = rw (t₁, t₂, t₃, t₄, t₅, t₆, t₇, le-ltb (length d.names) name_index_need p₈)

-- what is known of a call that meets no refusal
pub record Acceptable (need : ℕ) (d : Call) : Type 0 where
  pub rule_fits : length d.rule ≤ rule_limit
  pub subject_fits : length d.subject ≤ subject_limit
  pub flags_fit : d.flags < 2 ^ flag_bits
  pub budget_fits : d.budget ≤ budget_limit
  pub rule_area_fits : rule_area_need ≤ length d.rule_area
  pub work_area_fits : work_area_need d.budget ≤ length d.work_area
  pub results_fit : need ≤ length d.result_area
  pub names_fit : name_index_need ≤ length d.names

not-lt : {m n : ℕ} → (m < n → ⊥) → n ≤ m
not-lt h = le_of_suc-le-suc (lt_of_not-le h)

pub accepted : (need : ℕ) (d : Call) → none ≡ unacceptable need d → Acceptable need d
accepted need d e =
    let p₁ : length d.rule ≤ rule_limit = not-lt (λ h. differ (rule-long need d h)) in
    let p₂ : length d.subject ≤ subject_limit = not-lt (λ h. differ (subject-long need d p₁ h)) in
    let p₃ : d.flags < 2 ^ flag_bits = lt_of_not-le (λ h. differ (flag-unknown need d p₁ p₂ h)) in
    let p₄ : d.budget ≤ budget_limit = not-lt (λ h. differ (budget-large need d p₁ p₂ p₃ h)) in
    let p₅ : rule_area_need ≤ length d.rule_area = not-lt (λ h. differ (rule_area-short need d p₁ p₂ p₃ p₄ h)) in
    let p₆ : work_area_need d.budget ≤ length d.work_area = not-lt (λ h. differ (work_area-short need d p₁ p₂ p₃ p₄ p₅ h)) in
    let p₇ : need ≤ length d.result_area = not-lt (λ h. differ (results-short need d p₁ p₂ p₃ p₄ p₅ p₆ (lt-ltb (length d.result_area) need h))) in
    let p₈ : name_index_need ≤ length d.names = not-lt (λ h. differ (names-short need d p₁ p₂ p₃ p₄ p₅ p₆ (le-ltb (length d.result_area) need p₇) h)) in
    record { rule_fits = p₁; subject_fits = p₂; flags_fit = p₃; budget_fits = p₄; rule_area_fits = p₅; work_area_fits = p₆; results_fit = p₇; names_fit = p₈ }
  where
    differ : {why : Reason} → some why ≡ unacceptable need d → ⊥
    differ h = let z : ◌≡◌ {A = ℕ} 0 1 = cc in omega arith
