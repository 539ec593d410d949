-- A repeat's rounds: at each decision fewer can still follow, so that the bound on them is never reached, and the walk is right.
use Rattle.std.specs.Prelude.{◌≡◌, refl, ◌∷◌, ◌⊎◌, Bool, true, false, ltb, eqb}
use Rattle.std.proofs.Math.Path.{ap}
use Rattle.std.proofs.Math.Logic.{inl, inr}
use Prim.Native.Nat.{ℕ, zero, suc, ◌+◌, ◌-◌, ◌*◌, ◌≤◌, ◌<◌}
use Rattle.std.proofs.Common.{arith, ltb-true, eqb-true}
use Rattle.std.proofs.lemmas.Bool.{eqb-false}
use Rattle.syntax.specs.declared.Greed.{Greed}
use Rattle.syntax.specs.declared.Greed.TheVariants.{Greedy, Lazy}
use Rattle.syntax.specs.declared.Most.{Most}
use Rattle.semantics.specs.States.{again, State, chose}
use Rattle.semantics.specs.Repeats.{Next, round, leave, either, is_full, allowed, decision}
use Rattle.semantics.specs.Derivations.{Again, On, Rounds, stop, turn}
use Rattle.semantics.specs.Walk.{step, Trace, Go, decide, rounds}
use Rattle.semantics.proofs.Laws.Traces.{bind-same}
use Rattle.semantics.proofs.Laws.Right.{Reach, Right, right-step, right-as, right-bind, again-reach, right-decide}

-- The decisions that can still follow ----------------------------------------

unfoldable pub unless_idle : Bool → ℕ
unless_idle true = 0
unless_idle false = 1

-- after n rounds at a position: those owed, two for each byte left, one more if the last round took bytes
unfoldable pub left : ℕ → ℕ → ℕ → Bool → ℕ → ℕ
left N least n idle at = (least - n) + 2 * (N - at) + unless_idle idle

taken : (N a b : ℕ) → a ≤ b → b ≤ N → 2 * (N - b) + unless_idle (eqb a b) ≤ 2 * (N - a)
unfolding unless_idle
taken N a b h l = go (eqb a b) refl
  where
    go : (x : Bool) → eqb a b ≡ x → 2 * (N - b) + unless_idle x ≤ 2 * (N - a)
    go true e = omega (arith, eqb-true a b e)
    go false e = let ne : ¬ (a ≡ b) = eqb-false a b e in omega arith

-- a decision that may begin a round
abbrev pub Begins : Next → Type 0
Begins round = Unit {0}
Begins leave = ⊥
Begins (either g) = Unit {0}

-- a round from a to b leaves fewer decisions
pub fewer : (N least : ℕ) (most : Most) (g : Greed) (n : ℕ) (idle : Bool) (a b : ℕ) → Begins (decision least most g n idle) → a ≤ b → b ≤ N → left N least (suc n) (eqb a b) b < left N least n idle a
unfolding left decision allowed unless_idle
fewer N least most g n idle a b h up inside = go (ltb n least) refl (is_full most n) idle h
  where
    d : 2 * (N - b) + unless_idle (eqb a b) ≤ 2 * (N - a)
    d = taken N a b up inside

    go : (x : Bool) → ltb n least ≡ x → (y i : Bool) → Begins (allowed x y i g) → left N least (suc n) (eqb a b) b < left N least n i a
    go true l y i h = omega (arith, d, ltb-true n least l)
    go false l true i h = absurd h
    go false l false true h = absurd h
    go false l false false h = omega (arith, d)

again-at : (d : Next) (s t : State) → Again d s t → t.at ≡ s.at
unfolding chose
again-at round s t e = ap (λ (x : State). x.at) e
again-at leave s t e = absurd e
again-at (either g) s t e = ap (λ (x : State). x.at) e

again-begins : (d : Next) (s t : State) → Again d s t → Begins d
again-begins round s t e = tt
again-begins leave s t e = absurd e
again-begins (either g) s t e = tt

-- the same of states: a round begun at s, walked from t to u
pub fewer-states : (N least : ℕ) (most : Most) (g : Greed) (n : ℕ) (idle : Bool) (s t u : State) → Again (decision least most g n idle) s t → Reach N t u → left N least (suc n) (eqb t.at u.at) u.at < left N least n idle s.at
fewer-states N least most g n idle s t u a w =
    let d = decision least most g n idle in
    rw (← again-at d s t a) (fewer N least most g n idle t.at u.at (again-begins d s t a) w.up w.inside)

-- The walk of a repeat ----------------------------------------------------------

unturn : {B : State → State → Type 0} {least : ℕ} {most : Most} {g : Greed} {n : ℕ} {idle : Bool} {s u : State} → Rounds B least most g n idle s u
    → On (decision least most g n idle) s u ⊎ ((t : State) × Again (decision least most g n idle) s t × ((m : State) × B t m × Rounds B least most g (suc n) (eqb t.at m.at) m u))
unturn (stop o) = inl o
unturn (turn {t = t} {u = m} a b r) = inr (t, a, (m, b, r))

pub decide-same : (d : Next) (s : State) (q r : Go) → ((t : State) → Again d s t → q t ≡ r t) → decide d s q ≡ decide d s r
unfolding decide
decide-same round s q r x = x s refl
decide-same leave s q r x = refl
decide-same (either Greedy) s q r x = rw (x (chose (again Greedy) s) refl)
decide-same (either Lazy) s q r x = rw (x (chose (again Lazy) s) refl)

module _ {N : ℕ} (body : Go) (B : State → State → Type 0) (least : ℕ) (most : Most) (g : Greed) (body-right : (s : State) → s.at ≤ N → Right N s (body s) (B s)) where
  pub right-rounds : (f n : ℕ) (idle : Bool) (s : State) → s.at ≤ N → left N least n idle s.at < f → Right N s (rounds body least most g f n idle s) (Rounds B least most g n idle s)
  unfolding rounds
  right-rounds zero n idle s l h = absurd (omega arith)
  right-rounds (suc f) n idle s l h =
      let d = decision least most g n idle in
      right-step (right-as (λ u e. elim e [ inl o ↦ stop o | inr x ↦ turn x.1 x.2.1 x.2.2 ]) (λ u e. unturn e) (right-decide d s _ l (λ t a.
      let r = again-reach N d s t l a in
      let x = body-right t r.inside in
      right-bind x (λ u b.
      let w = x.reach u b in
      let m = fewer-states N least most g n idle s t u a w in
      right-rounds f (suc n) (eqb t.at u.at) u w.inside (omega arith)))))

  -- any two bounds that are great enough give one walk
  pub rounds-same : (e f n : ℕ) (idle : Bool) (s : State) → s.at ≤ N → left N least n idle s.at < e → left N least n idle s.at < f → rounds body least most g e n idle s ≡ rounds body least most g f n idle s
  unfolding rounds
  rounds-same zero f n idle s h x y = absurd (omega arith)
  rounds-same (suc e) zero n idle s h x y = absurd (omega arith)
  rounds-same (suc e) (suc f) n idle s h x y =
      let d = decision least most g n idle in
      ap (λ (es : Trace). step ∷ es) (decide-same d s _ _ (λ t a.
      let r = again-reach N d s t h a in
      let b = body-right t r.inside in
      bind-same (body t) _ _ (λ u z.
      let w = b.reach u (b.sound u z) in
      let m = fewer-states N least most g n idle s t u a w in
      rounds-same e f (suc n) (eqb t.at u.at) u w.inside (omega arith) (omega arith))))
