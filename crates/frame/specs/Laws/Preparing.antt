-- A call is what preparing it, its inside and finishing it make: what is returned to it is what `call` defines, whatever its inside is.
use Rattle.std.specs.Prelude.{◌≡◌, refl, Bool, true, false, List, ℕ, ◌≤◌, Result, Ok, Err, length, take, drop}
use Rattle.std.proofs.Common.{sym, ◌∙◌, inl, inr, arith, length-take-le}
use Rattle.std.proofs.Math.Path.{subst}
use Rattle.std.proofs.Math.Option.{none, some}
use Rattle.syntax.specs.declared.Reason.{Reason}
use Rattle.syntax.specs.declared.Refusal.{Refusal}
use Rattle.syntax.specs.Limits.{rule_area_need}
use Rattle.syntax.specs.Tree.{Rule}
use Rattle.syntax.specs.Reading.{names_of}
use Rattle.syntax.specs.Checkable.{uncheckable}
use Rattle.semantics.specs.Calls.{Call, Return, work_area_need, unacceptable, over, cleared, untouched, declined, call}
use Rattle.semantics.specs.NameIndex.{name_index}
use Rattle.reader.specs.Compiles.{Fails}
use Rattle.reader.specs.declared.compiling.Compiled.{Compiled}
use Rattle.frame.specs.Inputs.{Returned, Told, Held}
use Rattle.frame.specs.Preparing.{Denied, unread, unsound, unfollowed, Readied, Prepares}
use Rattle.frame.specs.Laws.Areas.{cleared-alike}
use Rattle.refusals.specs.Laws.{Acceptable, accepted}
use Rattle.frame.specs.Laws.Calls.{refused-call, accepted-call, refused-rule, sound-rule}

-- what preparing says, once its answer is known
module _ {checked : Bool} {need : ℕ} {c : Call} {r : Result Compiled Refusal} {rule_area work_area names : List ℕ} (h : Prepares checked need c r rule_area work_area names) where
  pub is-ready : (k : Compiled) → r ≡ Ok k → Readied checked need c k.entry k.groups rule_area work_area names
  is-ready k e = subst (λ (x : Result Compiled Refusal). Prepares checked need c x rule_area work_area names) e h

  pub is-denied : (f : Refusal) → r ≡ Err f → Denied checked need c f rule_area work_area names
  is-denied f e = subst (λ (x : Result Compiled Refusal). Prepares checked need c x rule_area work_area names) e h

module _ {checked : Bool} {need : ℕ} {c : Call} {entry groups : ℕ} {rule_area work_area names : List ℕ} (h : Readied checked need c entry groups rule_area work_area names) where
  fit : Acceptable need c
  fit = accepted need c h.accepted

  -- the areas are as long as is needed
  pub rule_area-long : rule_area_need ≤ length rule_area
  rule_area-long = omega (arith, h.long, fit.rule_area_fits)

  pub work_area-long : work_area_need c.budget ≤ length work_area
  work_area-long = rw h.untouched fit.work_area_fits

  pub results-long : need ≤ length c.result_area
  results-long = fit.results_fit

  -- an inside finds its rule, its line and its work area
  pub readied-held : Held (take rule_area_need rule_area) c.subject work_area entry c.budget
  readied-held = record {
    tree = h.tree;
    stands = h.stands;
    code_size = length-take-le rule_area_need rule_area rule_area-long;
    subject_fits = fit.subject_fits;
    work_fits = work_area-long;
    budget_fits = fit.budget_fits;
  }

-- a rule that does not stand once it is compiled denies the call
pub failed-denied : (checked : Bool) {need : ℕ} {c : Call} {f : Refusal} {rule_area work_area names : List ℕ} → Fails checked c.rule c.flags f → none ≡ unacceptable need c → rule_area ≡ cleared rule_area_need c.rule_area → work_area ≡ cleared (work_area_need c.budget) c.work_area → names ≡ c.names
    → Denied checked need c f rule_area work_area names
failed-denied false e a r w n = unsound a e r w n
failed-denied true (inl e) a r w n = unsound a e r w n
failed-denied true (inr u) a r w n = unfollowed refl a u.reads u.found r w n

module _ {A : Type 0} (refusal : ℕ → Reason → A) (need : ℕ) (answered : Call → Rule → Return A) {c : Call} where
  -- a refused call, whose answer to a rule that a check cannot follow is that refusal, if it is one
  pub denied-as : {checked : Bool} {f : Refusal} {rule_area work_area names : List ℕ} → ((t : Rule) → checked ≡ true → uncheckable t ≡ some (f.place, f.reason) → declined (refusal f.place f.reason) c ≡ answered c t)
      → Denied checked need c f rule_area work_area names → Returned (call refusal need answered c) (refusal f.place f.reason) rule_area work_area c.result_area names
  unfolding untouched declined
  denied-as {f = f} {rule_area} {work_area} {names} refuses (unread p e r w n) =
      rw p
      (subst (λ (x : Return A). Returned x (refusal 0 f.reason) rule_area work_area c.result_area names) (refused-call refusal need answered c f.reason e)
      (record { outcome_is = refl; rule_area_is = r; work_area_is = w; result_area_is = refl; names_is = n }))
  denied-as {f = f} {rule_area} {work_area} {names} refuses (unsound a e r w n) =
      subst (λ (x : Return A). Returned x (refusal f.place f.reason) rule_area work_area c.result_area names) (refused-rule refusal need answered c f.place f.reason e ∙ accepted-call refusal need answered c a)
      (record { outcome_is = refl; rule_area_is = r; work_area_is = w; result_area_is = refl; names_is = n })
  denied-as {f = f} {rule_area} {work_area} {names} refuses (unfollowed {tree = t} {groups = g} {stop = s} on a e u r w n) =
      subst (λ (x : Return A). Returned x (refusal f.place f.reason) rule_area work_area c.result_area names) (refuses t on u ∙ sound-rule refusal need answered c t g s e ∙ accepted-call refusal need answered c a)
      (record { outcome_is = refl; rule_area_is = r; work_area_is = w; result_area_is = refl; names_is = n })

  -- one that is no check
  pub denied-returns : {f : Refusal} {rule_area work_area names : List ℕ} → Denied false need c f rule_area work_area names → Returned (call refusal need answered c) (refusal f.place f.reason) rule_area work_area c.result_area names
  denied-returns d = denied-as (λ t e u. let bad : ◌≡◌ {A = ℕ} 0 1 = cc e in absurd (omega arith)) d

  -- A call that is answered, where its answer leaves the areas cleared and the index filled. Its inside wrote `worked` into the work area, and no more
  -- than it needs.
  pub readied-as : {checked : Bool} {entry groups : ℕ} {ruled work_area names : List ℕ} (h : Readied checked need c entry groups ruled work_area names)
      → ((answered c h.tree).rule_area ≡ cleared rule_area_need c.rule_area) × ((answered c h.tree).work_area ≡ cleared (work_area_need c.budget) c.work_area) × ((answered c h.tree).names ≡ over (name_index (names_of c.rule c.flags)) c.names)
      → (worked : List ℕ) → drop (work_area_need c.budget) worked ≡ drop (work_area_need c.budget) work_area
      → {told : A} {rule_area' work_area' result_area : List ℕ} → Told (answered c h.tree) told result_area
      → rule_area' ≡ cleared rule_area_need ruled → work_area' ≡ cleared (work_area_need c.budget) worked
      → Returned (call refusal need answered c) told rule_area' work_area' result_area names
  readied-as {groups = groups} {ruled} {work_area} {names} h z worked kept {told} {rule_area'} {work_area'} {result_area} t r w =
      subst (λ (x : Return A). Returned x told rule_area' work_area' result_area names) (sound-rule refusal need answered c h.tree groups h.stop h.reads ∙ accepted-call refusal need answered c h.accepted)
      (record {
        outcome_is = t.outcome_is;
        rule_area_is = r ∙ cleared-alike rule_area_need _ _ h.rest ∙ sym z.0;
        work_area_is = w ∙ cleared-alike (work_area_need c.budget) _ _ (kept ∙ rw h.untouched) ∙ sym z.1;
        result_area_is = t.result_area_is;
        names_is = h.filled ∙ sym z.2;
      })

  -- where every answer leaves them so
  pub readied-returns : ((x : Rule) → ((answered c x).rule_area ≡ cleared rule_area_need c.rule_area) × ((answered c x).work_area ≡ cleared (work_area_need c.budget) c.work_area) × ((answered c x).names ≡ over (name_index (names_of c.rule c.flags)) c.names))
      → {checked : Bool} {entry groups : ℕ} {ruled work_area names : List ℕ} (h : Readied checked need c entry groups ruled work_area names) (worked : List ℕ) → drop (work_area_need c.budget) worked ≡ drop (work_area_need c.budget) work_area
      → {told : A} {rule_area' work_area' result_area : List ℕ} → Told (answered c h.tree) told result_area
      → rule_area' ≡ cleared rule_area_need ruled → work_area' ≡ cleared (work_area_need c.budget) worked
      → Returned (call refusal need answered c) told rule_area' work_area' result_area names
  readied-returns clears h worked kept t r w = readied-as h (clears h.tree) worked kept t r w
