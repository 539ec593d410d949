-- What is returned to a call that is refused or accepted.
use Rattle.std.specs.Prelude.{◌≡◌, refl, Bool, true, false, List, [], ℕ, Result, Ok, Err, ⊤, length, ltb}
use Rattle.std.proofs.Math.Option.{none, some}
use Rattle.syntax.specs.declared.Reason.{Reason}
use Rattle.syntax.specs.Read.{sound, refused}
use Rattle.syntax.specs.Tree.{Rule}
use Rattle.syntax.specs.Reading.{reading}
use Rattle.semantics.specs.Calls.{Call, Return, unacceptable, untouched, declined, with_reading, unless_refused, call}
use Rattle.refusals.specs.Fitness.{fitness_of, Sized}
use Rattle.frame.specs.Inputs.{call_of}

-- the sizes of a call are those of the code's arguments
pub sized : (need : ℕ) (rule : List ℕ) (flags : ℕ) (subject : List ℕ) (budget : ℕ) (rule_area work_area result_area names : List ℕ) {long : ℕ} {short : Bool} → length subject ≡ long → ltb (length result_area) need ≡ short
    → Sized need (call_of rule flags subject budget rule_area work_area result_area names) (length rule) flags long budget (length rule_area) (length work_area) short (length names)
sized need rule flags subject budget rule_area work_area result_area names l s = record { rule_is = refl; flags_is = refl; subject_is = l; budget_is = refl; rule_area_is = refl; work_area_is = refl; short_is = s; names_is = refl }

-- some need has a result area that is short of it, and some has one that is not
pub some-results : (short : Bool) → (need : ℕ) × (results : List ℕ) × (ltb (length results) need ≡ short)
some-results true = (1, [], refl)
some-results false = (0, [], refl)

module _ (need : ℕ) (c : Call) {f : Result ⊤ Reason} (is : fitness_of f ≡ unacceptable need c) where
  pub is-fit : (t : ⊤) → f ≡ Ok t → none ≡ unacceptable need c
  unfolding fitness_of
  is-fit t e = rw e at is

  pub is-unfit : (why : Reason) → f ≡ Err why → some why ≡ unacceptable need c
  unfolding fitness_of
  is-unfit why e = rw e at is

module _ {A : Type 0} (refusal : ℕ → Reason → A) (need : ℕ) (answered : Call → Rule → Return A) (c : Call) where
  pub refused-call : (why : Reason) → some why ≡ unacceptable need c → untouched (refusal 0 why) c ≡ call refusal need answered c
  unfolding call unless_refused
  refused-call why e = rw (← e)

  pub accepted-call : none ≡ unacceptable need c → with_reading refusal need answered c (reading c.rule c.flags) ≡ call refusal need answered c
  unfolding call unless_refused
  accepted-call e = rw (← e)

  -- a rule that is refused, and one that is sound
  pub refused-rule : (place : ℕ) (why : Reason) → reading c.rule c.flags ≡ refused place why
      → declined (refusal place why) c ≡ with_reading refusal need answered c (reading c.rule c.flags)
  unfolding with_reading
  refused-rule place why e = rw e

  pub sound-rule : (x : Rule) (groups at : ℕ) → reading c.rule c.flags ≡ sound (x, groups) at
      → answered c x ≡ with_reading refusal need answered c (reading c.rule c.flags)
  unfolding with_reading
  sound-rule x groups at e = rw e
