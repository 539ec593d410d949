-- The walk's ends are the derivations, in strictly increasing priority: one induction over the rule, a lemma of Laws.Right or Laws.Rounds
-- for each form. And the equation of a repeat's walk in which no bound on its decisions is seen.
use Rattle.std.specs.Prelude.{◌≡◌, refl, List, ◌∷◌, ◌++◌, ◌⊎◌, Bool, true, ℕ, suc, ◌≤◌, ◌<◌, length, eqb}
use Rattle.std.proofs.Math.Path.{ap}
use Rattle.std.proofs.Common.{inl, inr, arith}
use Rattle.std.proofs.Math.Bool.{false}
use Rattle.syntax.specs.declared.Greed.{Greed}
use Rattle.syntax.specs.declared.Most.{Most}
use Rattle.syntax.specs.Tree.{Rule, empty, item, seq, alt, group, repeat, held, look, Branches, one, also, branch_count}
use Rattle.semantics.specs.States.{Choice, branch, earlier, State, chose, moved, closed}
use Rattle.semantics.specs.Items.{toll, try}
use Rattle.semantics.specs.Repeats.{decision}
use Rattle.semantics.specs.Derivations.{Derives, Picks}
use Rattle.semantics.specs.Walk.{step, Trace, ◌▹◌, decide, ending, rounds, enough, walk, walks}
use Rattle.semantics.proofs.Laws.Traces.{bind-same}
use Rattle.semantics.proofs.Laws.Right.{reach-still, reach-self, Right, Makes, right-step, right-as, right-done, right-bind, right-append, right-first, right-lacking, right-paying, right-tried, right-chose, makes-chose, try-reach, again-reach}
use Rattle.semantics.proofs.Laws.Rounds.{unless_idle, left, fewer-states, decide-same, right-rounds, rounds-same}

-- a branch whose number is below n
abbrev BranchBelow : ℕ → Choice → Type 0
BranchBelow n c = (i : ℕ) × (i < n) × (c ≡ branch i)

-- one branch more, behind n others
right-also : {N n : ℕ} {s : State} {a b : Trace} {D E : State → Type 0} → s.at ≤ N → Right N s a D × Makes s (BranchBelow n) D → Right N (chose (branch n) s) b E
    → Right N s (a ++ (step ∷ b)) (λ u. D u ⊎ E u) × Makes s (BranchBelow (suc n)) (λ u. D u ⊎ E u)
right-also {n = n} {s = s} l x y =
    let m = makes-chose s (branch n) y in (
      right-append x.0 x.1 (right-step (right-chose s (branch n) l y)) m (λ c d p q. rw (p.2, q) (earlier p.1)),
      λ u d. elim d [
        | inl h ↦ let k = x.1 u h in (k.0, (k.1.0, omega (arith, k.1.1), k.1.2), k.2)
        | inr h ↦ let k = m u h in (k.0, (n, omega arith, k.1), k.2)
      ],
    )

module _ (sub : List ℕ) where
  mutual
    unfolding walk chose moved closed branch_count enough left unless_idle

    pub right : (r : Rule) (s : State) → s.at ≤ length sub → Right (length sub) s (walk sub r s) (Derives sub r s)
    right empty s l = right-done s (reach-self _ s l)
    right (item place i) s l = right-paying (toll sub i s) (right-tried place (try sub i s) (λ t e. try-reach sub i s t l e))
    right (seq a b) s l = let x = right a s l in right-bind x (λ t d. right b t (x.reach t d).inside)
    right (alt bs bar b) s l = (right-also l (rights bs s l) (right b (chose (branch (branch_count bs)) s) l)).0
    right (group n a) s l = let x = right a s l in right-step (right-bind x (λ t d. right-step (right-done (closed n s.at t) (reach-still (x.reach t d).inside refl refl))))
    right (repeat place least most g a) s l = right-rounds (walk sub a) (Derives sub a) least most g (right a) (enough sub least s.at) 0 false s l (omega arith)
    right (held place a) s l = let x = right a s l in right-as (λ u d. rw (← d.2) at d.1) (λ u d. (u, d, refl)) (right-first x (λ t d. right-done t (x.reach t d)))
    right (look place false a) s l = let x = right a s l in right-first x (λ t d. right-done (moved s.at t) (record { up = omega arith; inside = l; path = (x.reach t d).path }))
    right (look place true a) s l = right-lacking place l (right a s l) (ending (walk sub a s)) refl

    rights : (bs : Branches) (s : State) → s.at ≤ length sub → Right (length sub) s (walks sub bs s) (Picks sub bs s) × Makes s (BranchBelow (branch_count bs)) (Picks sub bs s)
    rights (one a) s l =
        let x = right a (chose (branch 0) s) l in
        (right-step (right-chose s (branch 0) l x), λ u d. let m = makes-chose s (branch 0) x u d in (m.0, (0, omega arith, m.1), m.2))
    rights (also bs bar b) s l = right-also l (rights bs s l) (right b (chose (branch (branch_count bs)) s) l)

-- A repeat's walk from a decision -----------------------------------------------

module _ (sub : List ℕ) (least : ℕ) (most : Most) (g : Greed) (a : Rule) where
  -- after n rounds
  unfoldable pub decision_walk : ℕ → Bool → State → Trace
  decision_walk n idle s = rounds (walk sub a) least most g (suc (left (length sub) least n idle s.at)) n idle s

  pub walk-repeat : (place : ℕ) (s : State) → s.at ≤ length sub → walk sub (repeat place least most g a) s ≡ decision_walk 0 false s
  unfolding walk decision_walk left unless_idle enough
  walk-repeat place s l = rounds-same (walk sub a) (Derives sub a) least most g (right sub a) (enough sub least s.at) (suc (left (length sub) least 0 false s.at)) 0 false s l (omega arith) (omega arith)

  pub decision-walk : (n : ℕ) (idle : Bool) (s : State) → s.at ≤ length sub
      → decision_walk n idle s ≡ step ∷ decide (decision least most g n idle) s (λ t. walk sub a t ▹ (λ u. decision_walk (suc n) (eqb t.at u.at) u))
  unfolding decision_walk rounds
  decision-walk n idle s l =
      let d = decision least most g n idle in
      ap (λ (es : Trace). step ∷ es) (decide-same d s _ _ (λ t a'.
      let q = again-reach (length sub) d s t l a' in
      let b = right sub a t q.inside in
      bind-same (walk sub a t) _ _ (λ u e.
      let w = b.reach u (b.sound u e) in
      let m = fewer-states (length sub) least most g n idle s t u a' w in
      rounds-same (walk sub a) (Derives sub a) least most g (right sub a) (left (length sub) least n idle s.at) (suc (left (length sub) least (suc n) (eqb t.at u.at) u.at)) (suc n) (eqb t.at u.at) u w.inside (omega arith) (omega arith))))
