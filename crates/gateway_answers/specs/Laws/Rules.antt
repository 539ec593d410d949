-- The gateway's rule: refused for its length, or as it reads.
use Rattle.std.proofs.Math.Path.{◌≡◌, refl}
use Rattle.std.proofs.Common.{sym, ap, ◌∙◌, inl, inr, arith, length-take, take_all}
use Rattle.std.specs.Prelude.{List, Bool, ℕ, suc, ◌≤◌, ◌<◌, Result, Ok, Err, take, if◌then◌else◌}
use Rattle.std.proofs.Math.Bool.{true, false}
use borrow.Author.Tests.{lt-ltb, le-ltb, ltb-false}
use Rattle.std.proofs.Math.ListN.{length}
use Rattle.std.proofs.Math.Dec.{ltb}
use Rattle.syntax.specs.declared.Reason.TheVariants.{RuleTooLong}
use Rattle.syntax.specs.Limits.{rule_limit, rule_area_need, group_limit}
use Rattle.syntax.specs.Read.{sound, refused}
use Rattle.syntax.specs.Tree.{Rule}
use Rattle.syntax.specs.Reading.{reading}
use Rattle.syntax.specs.WellFormed.{WellFormed}
use Rattle.syntax.specs.Laws.Formation.{well-formed}
use Rattle.syntax.specs.declared.Refusal.{Refusal}
use Rattle.semantics.proofs.Laws.Cases.{le-or}
use Rattle.reader.specs.declared.compiling.Compiled.{Compiled}
use Rattle.reader.specs.Compiles.{Fails, Compiles}
use Rattle.frame.specs.Laws.Compiled.{compile-failed, compile-sound}
use Rattle.gateway_answers.specs.Limits.{gateway_flags}
use Rattle.gateway_answers.specs.Answers.{gateway_rule}
use Rattle.gateway_answers.specs.Promises.{Reads, Standing, Denies, Prepares}

module _ (s : List ℕ) where
  pub long_rule : rule_limit < length s → gateway_rule s ≡ refused 0 RuleTooLong
  unfolding gateway_rule
  long_rule h = rw (lt-ltb rule_limit (length s) h)

  pub short_rule : length s ≤ rule_limit → gateway_rule s ≡ reading s gateway_flags
  unfolding gateway_rule
  short_rule h = rw (le-ltb rule_limit (length s) h)

  module _ {tree : Rule} {groups : ℕ} (r : Reads s tree groups) where
    -- a sound rule is not too long
    pub sound_fits : length s ≤ rule_limit
    unfolding gateway_rule
    sound_fits = go (ltb rule_limit (length s)) refl r.1
      where
        go : (t : Bool) → ltb rule_limit (length s) ≡ t → (if t then refused 0 RuleTooLong else reading s gateway_flags) ≡ sound (tree, groups) r.0 → length s ≤ rule_limit
        go true e f = let z : ◌≡◌ {A = ℕ} 0 1 = cc in absurd (omega arith)
        go false e f = ltb-false rule_limit (length s) e

    pub sound_reads : reading s gateway_flags ≡ sound (tree, groups) r.0
    sound_reads = rw (short_rule sound_fits) at r.1

    pub few_groups : groups ≤ group_limit
    few_groups = let w : WellFormed groups tree = rw sound_reads at (well-formed s gateway_flags) in w.few

  -- a rule that is refused is refused, whether a check asks or not
  pub denied : (checked : Bool) (f : Refusal) → gateway_rule s ≡ refused f.place f.reason → Denies checked s f
  denied false f e = e
  denied true f e = inl e

  -- as it reads, if it is not too long
  denied_as : length s ≤ rule_limit → (checked : Bool) (f : Refusal) → Fails checked s gateway_flags f → Denies checked s f
  denied_as short false f e = short_rule short ∙ e
  denied_as short true f (inl e) = inl (short_rule short ∙ e)
  denied_as short true f (inr u) = inr u

  -- what compiling tells of a rule that is not too long
  module _ (short : length s ≤ rule_limit) {checked : Bool} {old new : List ℕ} {x : Result Compiled Refusal} (done : Compiles checked s gateway_flags old new x) where
    pub compiled_refused : (f : Refusal) → x ≡ Err f → Denies checked s f
    compiled_refused f e = denied_as short checked f (compile-failed done f e)

    -- in an area that is no longer than is needed
    pub compiled_sound : (k : Compiled) → x ≡ Ok k → length new ≡ rule_area_need → Standing s new k.entry k.groups
    compiled_sound k e l =
        let z = compile-sound done k e (omega arith) in
        let r : Reads s z.0 k.groups = (z.1, short_rule short ∙ z.2) in
        record { tree = z.0; reads = r; stands = rw (take_all rule_area_need new (omega arith)) at z.3; few = few_groups r }

  pub prepared : length s ≤ rule_limit → {checked : Bool} {old new : List ℕ} {x : Result Compiled Refusal} → Compiles checked s gateway_flags old new x → length new ≡ rule_area_need → Prepares checked s new x
  prepared short {x = Err f} done l = compiled_refused short done f refl
  prepared short {x = Ok k} done l = compiled_sound short done k refl l

-- of a rule that is too long, one byte more than the limit is enough to read
pub cut_rule : (s : List ℕ) → gateway_rule (take (suc rule_limit) s) ≡ gateway_rule s
cut_rule s = elim (le-or (length s) rule_limit) [
  | inl k ↦ ap gateway_rule (take_all (suc rule_limit) s (omega arith))
  | inr k ↦ long_rule (take (suc rule_limit) s) (omega (arith, length-take (suc rule_limit) s)) ∙ sym (long_rule s k)
]
