-- The inside of a group, or of the whole rule: nothing, an alternation, which its last branch's kind tells, or else a sequence. And what the whole rule is
-- judged by.
use mathlib.Core.Path.{◌≡◌, refl, sym, subst, ◌∙◌}
use mathlib.Core.Bool.{Bool, true, false}
use mathlib.Core.List.{List}
use Rattle.std.specs.Prelude.{⊤, Option, None, Some, Result, Ok, Err, MatchOption, MatchResult}
use Prim.Native.Nat.{ℕ, ◌+◌, ◌≤◌, ◌<◌}
use native.Mathlib.Omega.{arith}
use lib.ListN.{get_or, length}
use Rattle.syntax.specs.declared.Reason.{Reason}
use Rattle.syntax.specs.declared.Refusal.{Refusal}
use Rattle.syntax.specs.declared.Reason.TheVariants.{BarredReference, IdleRepeat, HeldOrLook, TooManyBranches}
use Rattle.syntax.specs.Tree.{Rule, empty, item, seq, alt, group, repeat, held, look, Branches, branch_count}
use Rattle.syntax.specs.Lengths.{least_length}
use Rattle.syntax.specs.Reading.{unresolved, unresolved_in, idle, idle_in, unless, profiled}
use Rattle.syntax.specs.Checkable.{unfollowed, unfollowed_in, crowded_at, crowded, crowded_in}
use Rattle.syntax.specs.WellFormed.{Proper, levels}
use Rattle.syntax.specs.Laws.Checkable.{form-uncheckable, crowd-uncheckable, is-checkable}
use Rattle.linker.specs.Nodes.{Branch, Chain, Inside, Preceding}
use Rattle.linker.proofs.Regions.{part-here, chain-order}
use Rattle.linker.specs.Linking.{noted}
use Rattle.linker.proofs.Insides.{is-chain, for-alt, nothing-noted, place-noted}
use Rattle.lengths.specs.declared.Measured.{Measured}
use Rattle.lengths.specs.Measures.{IsNothing, Deep, DeepBranches, Of, Finds, FindsBranches, Judges, Follows}
use Rattle.lengths.proofs.Numbers.{noted-first, noted-three}

-- A place that may have been found, and what it is refused for ----------------------------------

abbrev Told : Option ℕ → Reason → Result ⊤ Refusal → Type 0
Told o why r = MatchOption o (r ≡ Ok tt) (λ place. r ≡ Err (record { place = place; reason = why }))

ok-err : {e : Refusal} → ◌≡◌ {A = Result ⊤ Refusal} (Ok tt) (Err e) → ⊥
ok-err e = subst (λ (r : Result ⊤ Refusal). MatchResult r (λ _. ⊤) (λ _. ⊥)) e tt

told-at : (o : Option ℕ) (why : Reason) (r : Result ⊤ Refusal) (Q : Result ⊤ Refusal → Type 0) → (o ≡ None → r ≡ Ok tt → Q r) → ((place : ℕ) → o ≡ Some place → Q (Err (record { place = place; reason = why }))) → Told o why r → Q r
told-at None why r Q f g h = f refl h
told-at (Some place) why r Q f g h = subst Q (sym h) (g place refl)

told-none : (o : Option ℕ) (why : Reason) (r : Result ⊤ Refusal) → Told o why r → r ≡ Ok tt → o ≡ None
told-none None why r h u = refl
told-none (Some place) why r h u = absurd (ok-err (sym u ∙ h))

module _ (a : List ℕ) (p : ℕ) where
  -- Nothing ---------------------------------------------------------------------------------

  pub none_found : (m : Measured) → p ≡ 0 → IsNothing m → Finds Inside a p m
  unfolding Finds Inside least_length unresolved idle unfollowed crowded noted
  none_found m e n rule known groups empty lo top q h = record { least = n.least; reference = n.reference; idle = n.idle; form = n.form; crowd = n.crowd }
  none_found m e n rule known groups (seq x y) lo top q h = absurd (omega (arith, (part-here rule known a y h.mid top p h.right).some))
  none_found m e n rule known groups (alt bs bar t) lo top q h = absurd (omega (arith, h.node.some))
  none_found m e n rule known groups (item place i) lo top q h = absurd h
  none_found m e n rule known groups (group k t) lo top q h = absurd h
  none_found m e n rule known groups (repeat place least most g t) lo top q h = absurd h
  none_found m e n rule known groups (held place t) lo top q h = absurd h
  none_found m e n rule known groups (look place negative t) lo top q h = absurd h

  -- the position lies within the area
  pub inside-fits : (depth : ℕ) → (p ≡ 0 → ⊥) → Deep Inside a p depth → p < length a
  unfolding Inside
  inside-fits depth l d = go d.tree d.holds
    where
      go : (t : Rule) → Inside d.rule d.known a t d.lo d.top p → p < length a
      go empty h = absurd (l h.0)
      go (seq x y) h = omega (arith, (part-here d.rule d.known a y h.mid d.top p h.right).high, d.within)
      go (alt bs bar t) h = omega (arith, h.node.high, d.within)
      go (item place i) h = absurd h
      go (group n t) h = absurd h
      go (repeat place least most g t) h = absurd h
      go (held place t) h = absurd h
      go (look place negative t) h = absurd h

  -- A sequence --------------------------------------------------------------------------------

  pub chain-at : (depth : ℕ) → (get_or a p 0 ≡ 6 → ⊥) → Deep Inside a p depth → Deep Chain a p depth
  chain-at depth e d = record { rule = d.rule; known = d.known; tree = d.tree; lo = d.lo; top = d.top; holds = is-chain d.rule d.known a p e d.tree d.lo d.top d.holds; within = d.within; groups = d.groups; proper = d.proper; deep = d.deep }

  pub chain-found : (m : Measured) → (get_or a p 0 ≡ 6 → ⊥) → Finds Chain a p m → Finds Inside a p m
  unfolding Finds
  chain-found m e f rule known groups t lo top q h = f rule known groups t lo top q (is-chain rule known a p e t lo top h)

  -- An alternation ------------------------------------------------------------------------------

  pub record AltAt (depth : ℕ) : Type 0 where
    pub fits : p + 3 ≤ length a
    pub inner : Deep Chain a (get_or a (p + 1) 0) depth
    pub others : DeepBranches a (get_or a (p + 2) 0) depth

  pub alt-at : (depth : ℕ) → (p ≡ 0 → ⊥) → get_or a p 0 ≡ 6 → Deep Inside a p depth → AltAt depth
  alt-at depth l e d = for-alt d.rule d.known a d.lo d.top p (λ t. Proper d.groups t → levels t ≤ depth → AltAt depth) go (positive p l) e d.tree d.holds d.proper d.deep
    where
      positive : (n : ℕ) → (n ≡ 0 → ⊥) → 1 ≤ n
      positive n h = omega arith

      go : (bs : Branches) (bar : ℕ) (t : Rule) → Branch a 6 (Preceding d.rule d.known a bs bar) (Chain d.rule d.known a t) d.lo d.top p → Proper d.groups (alt bs bar t) → levels (alt bs bar t) ≤ depth → AltAt depth
      go bs bar t h q u =
          let o = chain-order d.rule d.known a t h.mid p h.inside h.right in
          let w = d.within in
          let n = h.node in
          let high : p + 3 ≤ d.top = n.high in
          record {
            fits = omega arith;
            inner = rw h.of (record { rule = d.rule; known = d.known; tree = t; lo = h.mid; top = p; holds = h.right; within = omega arith; groups = d.groups; proper = q.1; deep = omega arith });
            others = rw h.link (record { rule = d.rule; known = d.known; branches = bs; bar = bar; lo = d.lo; top = h.mid; holds = h.left; within = omega arith; groups = d.groups; proper = q.0; deep = omega arith });
          }

  pub alt-found : (last m : Measured) → (p ≡ 0 → ⊥) → get_or a p 0 ≡ 6 → Finds Chain a (get_or a (p + 1) 0) last → FindsBranches a (get_or a (p + 2) 0) last m → Finds Inside a p m
  unfolding Finds FindsBranches least_length unresolved idle unfollowed crowded
  alt-found last m l e f g rule known groups t lo top q h = for-alt rule known a lo top p (λ t. Proper groups t → Of t m) go (positive p l) e t h q
    where
      positive : (n : ℕ) → (n ≡ 0 → ⊥) → 1 ≤ n
      positive n h = omega arith

      go : (bs : Branches) (bar : ℕ) (t : Rule) → Branch a 6 (Preceding rule known a bs bar) (Chain rule known a t) lo top p → Proper groups (alt bs bar t) → Of (alt bs bar t) m
      go bs bar t h q =
          let o = f rule known groups t h.mid p q.1 (rw h.of h.right) in
          let b = g rule known groups bs bar lo h.mid q.0 (rw h.link h.left) in
          record {
            least = b.least ∙ rw o.least;
            reference = b.reference ∙ rw o.reference (sym (noted-first (unresolved_in 0 bs) (unresolved 0 t) None));
            idle = b.idle ∙ rw o.idle (sym (noted-first (idle_in bs) (idle t) None));
            form = b.form ∙ rw o.form (sym (noted-first (unfollowed_in bs) (unfollowed t) None));
            crowd = b.crowd ∙ rw o.crowd (sym (noted-three (crowded_in bs) (crowded_at (branch_count bs) bar) (crowded t) None));
          }

  -- The whole rule ------------------------------------------------------------------------------

  module _ (m : Measured) (f : Finds Inside a p m) where
    pub judged-reference : (place : ℕ) → m.reference ≡ Some place → Judges true a p (Err (record { place = place; reason = BarredReference }))
    unfolding Finds Judges profiled unless
    judged-reference place z rule known groups t lo top q h rest = rw (place-noted (unresolved 0 t) place (sym (f rule known groups t lo top q h).reference ∙ z))

    pub judged-idle : m.reference ≡ None → (place : ℕ) → m.idle ≡ Some place → Judges true a p (Err (record { place = place; reason = IdleRepeat }))
    unfolding Finds Judges profiled unless
    judged-idle z place i rule known groups t lo top q h rest =
        let o = f rule known groups t lo top q h in
        rw (nothing-noted (unresolved 0 t) (sym o.reference ∙ z), place-noted (idle t) place (sym o.idle ∙ i))

    pub judged-passes : m.reference ≡ None → m.idle ≡ None → Judges true a p (Ok tt)
    unfolding Finds Judges profiled unless
    judged-passes z i rule known groups t lo top q h rest =
        let o = f rule known groups t lo top q h in
        rw (nothing-noted (unresolved 0 t) (sym o.reference ∙ z), nothing-noted (idle t) (sym o.idle ∙ i))

    pub judged-first : (r : Result ⊤ Refusal) (e : Refusal) → Told m.reference BarredReference r → r ≡ Err e → Judges true a p (Err e)
    judged-first r e h u = subst (Judges true a p) u (told-at m.reference BarredReference r (Judges true a p) (λ n o. absurd (ok-err (sym o ∙ u))) judged-reference h)

    pub judged-rest : (r s : Result ⊤ Refusal) → Told m.reference BarredReference r → r ≡ Ok tt → Told m.idle IdleRepeat s → Judges true a p s
    judged-rest r s h u k = let z = told-none m.reference BarredReference r h u in told-at m.idle IdleRepeat s (Judges true a p) (λ n o. subst (Judges true a p) (sym o) (judged-passes z n)) (judged-idle z) k

    -- What a check cannot follow --------------------------------------------------------------

    pub followed-form : (place : ℕ) → m.form ≡ Some place → Follows true a p (Err (record { place = place; reason = HeldOrLook }))
    unfolding Finds Follows
    followed-form place z rule known groups t lo top q h = (refl, form-uncheckable t place (place-noted (unfollowed t) place (sym (f rule known groups t lo top q h).form ∙ z)))

    pub followed-crowd : m.form ≡ None → (place : ℕ) → m.crowd ≡ Some place → Follows true a p (Err (record { place = place; reason = TooManyBranches }))
    unfolding Finds Follows
    followed-crowd z place i rule known groups t lo top q h =
        let o = f rule known groups t lo top q h in
        (refl, crowd-uncheckable t place (nothing-noted (unfollowed t) (sym o.form ∙ z)) (place-noted (crowded t) place (sym o.crowd ∙ i)))

    pub followed-all : m.form ≡ None → m.crowd ≡ None → Follows true a p (Ok tt)
    unfolding Finds Follows
    followed-all z i rule known groups t lo top q h e =
        let o = f rule known groups t lo top q h in
        is-checkable t (nothing-noted (unfollowed t) (sym o.form ∙ z)) (nothing-noted (crowded t) (sym o.crowd ∙ i))

    pub followed-first : (r : Result ⊤ Refusal) (e : Refusal) → Told m.form HeldOrLook r → r ≡ Err e → Follows true a p (Err e)
    followed-first r e h u = subst (Follows true a p) u (told-at m.form HeldOrLook r (Follows true a p) (λ n o. absurd (ok-err (sym o ∙ u))) followed-form h)

    pub followed-rest : (r s : Result ⊤ Refusal) → Told m.form HeldOrLook r → r ≡ Ok tt → Told m.crowd TooManyBranches s → Follows true a p s
    followed-rest r s h u k = let z = told-none m.form HeldOrLook r h u in told-at m.crowd TooManyBranches s (Follows true a p) (λ n o. subst (Follows true a p) (sym o) (followed-all z n)) (followed-crowd z) k

-- where no check asks, everything passes
pub followed-not : (a : List ℕ) (p : ℕ) (checked : Bool) → checked ≡ false → Follows checked a p (Ok tt)
unfolding Follows
followed-not a p checked off rule known groups t lo top q h e = let bad : ◌≡◌ {A = ℕ} 0 1 = cc (off, e) in absurd (omega arith)

-- where the profile is not asked for, everything passes
pub judged-not : (a : List ℕ) (p : ℕ) (strict : Bool) → strict ≡ false → Judges strict a p (Ok tt)
unfolding Judges profiled
judged-not a p strict e rule known groups t lo top q h rest = rw e
