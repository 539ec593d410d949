-- A repeat's path from a decision: any two bounds on its decisions that are great enough give one path, so that there is an equation in which no bound is seen.
use Rattle.std.specs.Prelude.{◌≡◌, refl, List, [], ◌∷◌, ◌++◌, map, Bool, eqb}
use Rattle.std.proofs.Math.Path.{ap}
use Rattle.std.proofs.Common.{◌∙◌, arith, length-append}
use Rattle.std.proofs.Math.Bool.{false}
use Prim.Native.Nat.{ℕ, zero, suc, ◌+◌, ◌-◌, ◌≤◌, ◌<◌}
use Rattle.std.proofs.Math.ListN.{length}
use Rattle.std.proofs.lemmas.List.{length-map}
use Rattle.syntax.specs.declared.Greed.{Greed}
use Rattle.syntax.specs.declared.Most.{Most}
use Rattle.syntax.specs.Tree.{Rule, repeat}
use Rattle.semantics.specs.States.{Choice, again, code, State, chose}
use Rattle.semantics.specs.Repeats.{Next, round, leave, either, decision}
use Rattle.semantics.specs.Derivations.{Again}
use Rattle.semantics.specs.Proposals.{Trail, step_then, arrives, strays, Follow, ◌▸◌, choosing, either_way, settling, laps, follow}
use Rattle.semantics.proofs.Laws.Following.{Leads, made, begun, begun-fewer}

path-same : (p : Trail) (j k : Follow) → ((t : State) (ds : List ℕ) → Leads p t ds → j t ds ≡ k t ds) → p ▸ j ≡ p ▸ k
unfolding ◌▸◌
path-same (step_then p) j k h = ap step_then (path-same p j k h)
path-same (arrives t ds) j k h = h t ds (refl, refl)
path-same strays j k h = refl

settling-same : (d : Next) (s : State) (cs : List ℕ) (q r : Follow) → ((t : State) (ds : List ℕ) → cs ≡ map code (begun d) ++ ds → Again d s t → q t ds ≡ r t ds) → settling d s cs q ≡ settling d s cs r
unfolding settling choosing either_way code
settling-same round s cs q r h = h s cs refl refl
settling-same leave s cs q r h = refl
settling-same (either g) s [] q r h = refl
settling-same (either g) s (zero ∷ cs) q r h = refl
settling-same (either g) s (suc zero ∷ cs) q r h = h (chose (again g) s) cs refl refl
settling-same (either g) s (suc (suc c) ∷ cs) q r h = refl

-- how many choices are left behind those of p
left_over : (p : List Choice) (cs ds : List ℕ) → cs ≡ map code p ++ ds → length cs ≡ length p + length ds
left_over p cs ds e = ap (λ (l : List ℕ). length l) e ∙ length-append (map code p) ds ∙ ap (λ (n : ℕ). n + length ds) (length-map p code)

module _ (body : Follow) (shorter : (s : State) (cs : List ℕ) (t : State) (ds : List ℕ) → Leads (body s cs) t ds → length ds ≤ length cs) (least : ℕ) (most : Most) (g : Greed) where
  pub laps-same : (e f n : ℕ) (idle : Bool) (s : State) (cs : List ℕ) → (least - n) + length cs < e → (least - n) + length cs < f → laps body least most g e n idle s cs ≡ laps body least most g f n idle s cs
  unfolding laps
  laps-same zero f n idle s cs x y = absurd (omega arith)
  laps-same (suc e) zero n idle s cs x y = absurd (omega arith)
  laps-same (suc e) (suc f) n idle s cs x y =
      let d = decision least most g n idle in
      ap step_then (settling-same d s cs _ _ (λ t ds u a. path-same (body t ds) _ _ (λ v es l.
      let fewer : (least - suc n) + length es < (least - n) + length cs = omega (arith, begun-fewer least most g n idle s t a, left_over (begun (decision least most g n idle)) cs ds u, shorter t ds v es l) in
      laps-same e f (suc n) (eqb t.at v.at) v es (omega arith) (omega arith))))

module _ (sub : List ℕ) where
  -- no choice comes back
  follow-shorter : (r : Rule) (s : State) (cs : List ℕ) (t : State) (ds : List ℕ) → Leads (follow sub r s cs) t ds → length ds ≤ length cs
  follow-shorter r s cs t ds h = let u = (made sub r s cs t ds h).1 in omega (arith, left_over u.0 cs ds u.2)

  module _ (least : ℕ) (most : Most) (g : Greed) (a : Rule) where
    -- after n rounds
    unfoldable pub decision_path : ℕ → Bool → State → List ℕ → Trail
    decision_path n idle s cs = laps (follow sub a) least most g (suc ((least - n) + length cs)) n idle s cs

    pub follow-repeat : (place : ℕ) (s : State) (cs : List ℕ) → follow sub (repeat place least most g a) s cs ≡ decision_path 0 false s cs
    unfolding follow decision_path
    follow-repeat place s cs = laps-same (follow sub a) (follow-shorter a) least most g (suc (least + length cs)) (suc ((least - 0) + length cs)) 0 false s cs (omega arith) (omega arith)

    pub decision-path : (n : ℕ) (idle : Bool) (s : State) (cs : List ℕ)
        → decision_path n idle s cs ≡ step_then (settling (decision least most g n idle) s cs (λ t ds. follow sub a t ds ▸ (λ u es. decision_path (suc n) (eqb t.at u.at) u es)))
    unfolding decision_path laps
    decision-path n idle s cs =
        let d = decision least most g n idle in
        ap step_then (settling-same d s cs _ _ (λ t ds u a'. path-same (follow sub a t ds) _ _ (λ v es l.
        let fewer : (least - suc n) + length es < (least - n) + length cs = omega (arith, begun-fewer least most g n idle s t a', left_over (begun (decision least most g n idle)) cs ds u, follow-shorter a t ds v es l) in
        laps-same (follow sub a) (follow-shorter a) least most g ((least - n) + length cs) (suc ((least - suc n) + length es)) (suc n) (eqb t.at v.at) v es (omega arith) (omega arith))))
