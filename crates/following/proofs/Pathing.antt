-- Following a path turn by turn: what is still to come of it, and what the budget makes of that.
use mathlib.Core.Path.{◌≡◌, refl, ap, ◌∙◌}
use mathlib.Core.List.{List}
use Prim.Native.Nat.{ℕ, zero, suc, ◌+◌, ◌-◌, ◌≤◌, ◌<◌}
use native.Mathlib.Omega.{arith}
use lib.ListN.{length, get_or, take, drop, drop_of_length-le}
use lib.Seq.{drop-cons}
use Rattle.syntax.specs.Limits.{spans_length}
use Rattle.semantics.specs.States.{State}
use Rattle.semantics.specs.Proposals.{Trail, step_then, arrives, strays, steps_then, exhausts, Check, unless_left, one_more, within}
use Rattle.semantics.proofs.Laws.Cases.{clash}
use Rattle.machine.specs.Laws.Code.{decode-at}
use Rattle.following.specs.declared.Followed.TheVariants.{Arrived, Missed, Spent}
use Rattle.turns.specs.Turns.{onward, astray, finished, turn_by, turn, Safe, Treads, moves, stops, ended}
use Rattle.following.specs.Paths.{told, Follows}

-- The budget ----------------------------------------------------------------------------

abbrev plus : ℕ → Check → Check
plus n a = record { finding = a.finding; steps = n + a.steps }

plus_none : (a : Check) → a ≡ plus 0 a
plus_none a = let z : a.steps ≡ 0 + a.steps = omega arith in ap (λ (k : ℕ). told a.finding k) z

plus_one : (n : ℕ) (a : Check) → told a.finding (suc (n + a.steps)) ≡ plus (suc n) a
plus_one n a = let z : suc (n + a.steps) ≡ suc n + a.steps = omega arith in ap (λ (k : ℕ). told a.finding k) z

pub steps-within : (start left n : ℕ) (rest : Trail) → n ≤ left → within start left (steps_then n rest) ≡ plus n (within start (left - n) rest)
unfolding steps_then within one_more
steps-within start left zero rest h = let e : left - 0 ≡ left = omega arith in rw e (plus_none (within start left rest))
steps-within start zero (suc n) rest h = absurd (omega arith)
steps-within start (suc left) (suc n) rest h = let e : suc left - suc n ≡ left - n = omega arith in rw e (ap one_more (steps-within start left n rest (omega arith)) ∙ plus_one n (within start (left - n) rest))

pub steps-beyond : (start left n : ℕ) (rest : Trail) → left < n → within start left (steps_then n rest) ≡ told (exhausts start) left
unfolding steps_then within one_more
steps-beyond start left zero rest h = absurd (omega arith)
steps-beyond start zero (suc n) rest h = refl
steps-beyond start (suc left) (suc n) rest h = ap one_more (steps-beyond start left n rest (omega arith))

-- What is trodden from here -----------------------------------------------------------------

module _ (p sub : List ℕ) where
  pub safe-here : {pc at : ℕ} {regs cs : List ℕ} {path : Trail} → Treads p sub pc at regs cs path → Safe p sub pc at regs
  safe-here (moves more pc' at' regs' cs' rest z e f w) = z
  safe-here (stops n z e f) = z
  safe-here (ended s z e f g h) = z

  end-turn : (pc at : ℕ) (regs cs : List ℕ) → get_or p pc 0 ≡ 9 → turn p sub pc at regs cs ≡ finished
  unfolding turn_by
  end-turn pc at regs cs e = rw (decode-at p pc 9 e)

  pub end-here : {pc at : ℕ} {regs cs : List ℕ} {path : Trail} → turn p sub pc at regs cs ≡ finished → Treads p sub pc at regs cs path → (s : State) × (s.at ≡ at) × (s.spans ≡ take spans_length regs) × (path ≡ step_then (arrives s cs))
  end-here t (moves more pc' at' regs' cs' rest z e f w) = absurd (clash (cc (t, e)))
  end-here t (stops n z e f) = absurd (clash (cc (t, e)))
  end-here t (ended s z e f g h) = (s, f, g, h)

  pub lost-here : {pc at : ℕ} {regs cs : List ℕ} {path : Trail} (n : ℕ) → turn p sub pc at regs cs ≡ astray n → Treads p sub pc at regs cs path → path ≡ steps_then n strays
  lost-here n t (moves more pc' at' regs' cs' rest z e f w) = absurd (clash (cc (t, e)))
  lost-here n t (stops m z e f) = let q : m ≡ n = cc (t, e) in f ∙ ap (λ (k : ℕ). steps_then k strays) q
  lost-here n t (ended s z e f g h) = absurd (clash (cc (t, e)))

  pub on-here : {pc at : ℕ} {regs cs : List ℕ} {path : Trail} (more pc' at' : ℕ) (regs' cs' : List ℕ) → turn p sub pc at regs cs ≡ onward more pc' at' regs' cs' → Treads p sub pc at regs cs path → (rest : Trail) × (path ≡ steps_then (suc more) rest) × Treads p sub pc' at' regs' cs' rest
  on-here more pc' at' regs' cs' t (moves more₁ pc₁ at₁ regs₁ cs₁ rest z e f w) =
      let q₀ : more₁ ≡ more = cc (t, e) in
      let q₁ : pc₁ ≡ pc' = cc (t, e) in
      let q₂ : at₁ ≡ at' = cc (t, e) in
      let q₃ : regs₁ ≡ regs' = cc (t, e) in
      let q₄ : cs₁ ≡ cs' = cc (t, e) in
      (rest, f ∙ ap (λ (k : ℕ). steps_then (suc k) rest) q₀, rw (q₁, q₂, q₃, q₄) at w)
  on-here more pc' at' regs' cs' t (stops m z e f) = absurd (clash (cc (t, e)))
  on-here more pc' at' regs' cs' t (ended s z e f g h) = absurd (clash (cc (t, e)))

-- What the loop keeps -------------------------------------------------------------------------

pub record Going (code sub choices regs₀ : List ℕ) (entry start budget : ℕ) (regs : List ℕ) (pc at read left : ℕ) : Type 0 where
  pub few : left ≤ budget
  pub size : length regs ≡ length regs₀
  pub here : (rest : Trail) × Treads code sub pc at regs (drop read choices) rest
  pub each : (path : Trail) → Treads code sub entry start regs₀ choices path → (rest : Trail) × Treads code sub pc at regs (drop read choices) rest × (within start budget path ≡ plus (budget - left) (within start left rest))

module _ (code sub choices regs₀ : List ℕ) (entry start budget : ℕ) where
  pub going_start : (path : Trail) → Treads code sub entry start regs₀ choices path → Going code sub choices regs₀ entry start budget regs₀ entry start 0 budget
  going_start path w = record {
    few = omega arith;
    size = refl;
    here = (path, w);
    each = λ t v. (t, v, let e : budget - budget ≡ 0 = omega arith in rw e (plus_none (within start budget t)));
  }

  module _ (regs : List ℕ) (pc at read left : ℕ) (g : Going code sub choices regs₀ entry start budget regs pc at read left) where
    abbrev Here : Trail → Type 0
    Here rest = Treads code sub pc at regs (drop read choices) rest

    pub going_on : (more pc' at' read' left' : ℕ) (regs' : List ℕ) → turn code sub pc at regs (drop read choices) ≡ onward more pc' at' regs' (drop read' choices) → suc more ≤ left → left' ≡ left - suc more → length regs' ≡ length regs
        → Going code sub choices regs₀ entry start budget regs' pc' at' read' left'
    going_on more pc' at' read' left' regs' t l e s = record {
      few = omega (arith, g.few);
      size = s ∙ g.size;
      here = (let x = on-here code sub more pc' at' regs' (drop read' choices) t g.here.1 in (x.0, x.2));
      each = λ path v.
          let y = g.each path v in
          let x = on-here code sub more pc' at' regs' (drop read' choices) t y.1 in
          let q : budget - left' ≡ (budget - left) + suc more = omega (arith, g.few) in
          (x.0, x.2, y.2 ∙ ap (λ (r : Trail). plus (budget - left) (within start left r)) x.1 ∙ ap (plus (budget - left)) (steps-within start left (suc more) x.0 l) ∙ both (budget - left) (suc more) (budget - left') (left - suc more) left' x.0 q e);
    }
      where
        both : (a b c l m : ℕ) (r : Trail) → c ≡ a + b → m ≡ l → plus a (plus b (within start l r)) ≡ plus c (within start m r)
        both a b c l m r q e = let z : a + (b + (within start l r).steps) ≡ (a + b) + (within start l r).steps = omega arith in rw (e, q, z) refl

    pub spent-here : (n : ℕ) (regs' : List ℕ) → ((rest : Trail) → Here rest → (u : Trail) × (rest ≡ steps_then n u)) → left < n → Follows code sub entry start budget choices regs₀ regs' Spent
    spent-here n regs' f l path v =
        let y = g.each path v in
        let u = f y.0 y.1 in
        let q : budget - left + left ≡ budget = omega (arith, g.few) in
        y.2 ∙ ap (λ (r : Trail). plus (budget - left) (within start left r)) u.1 ∙ ap (plus (budget - left)) (steps-beyond start left n u.0 l) ∙ ap (λ (k : ℕ). told (exhausts start) k) q

    pub lost-at : (n steps : ℕ) (regs' : List ℕ) → turn code sub pc at regs (drop read choices) ≡ astray n → n ≤ left → steps ≡ budget - left + n → Follows code sub entry start budget choices regs₀ regs' (Missed steps)
    unfolding within
    lost-at n steps regs' t l e path v =
        let y = g.each path v in
        let z : n + 0 ≡ n = omega arith in
        y.2 ∙ ap (λ (r : Trail). plus (budget - left) (within start left r)) (lost-here code sub n t y.1) ∙ ap (plus (budget - left)) (steps-within start left n strays l) ∙ rw (e, z) refl

    pub lost-spent : (n : ℕ) (regs' : List ℕ) → turn code sub pc at regs (drop read choices) ≡ astray n → left < n → Follows code sub entry start budget choices regs₀ regs' Spent
    lost-spent n regs' t l = spent-here n regs' (λ rest w. (strays, lost-here code sub n t w)) l

    pub on-spent : (more pc' at' : ℕ) (regs' cs' regs'' : List ℕ) → turn code sub pc at regs (drop read choices) ≡ onward more pc' at' regs' cs' → left ≤ more → Follows code sub entry start budget choices regs₀ regs'' Spent
    on-spent more pc' at' regs' cs' regs'' t l = spent-here (suc more) regs'' (λ rest w. let x = on-here code sub more pc' at' regs' cs' t w in (x.0, x.1)) (omega arith)

    module _ (is : get_or code pc 0 ≡ 9) where
      at-end : (path : Trail) → Here path → (s : State) × (s.at ≡ at) × (s.spans ≡ take spans_length regs) × (path ≡ step_then (arrives s (drop read choices)))
      at-end path w = end-here code sub (end-turn code sub pc at regs (drop read choices) is) w

      one-step : (p : Trail) → step_then p ≡ steps_then 1 p
      unfolding steps_then
      one-step p = refl

      pub end-spent : (regs' : List ℕ) → left ≡ 0 → Follows code sub entry start budget choices regs₀ regs' Spent
      end-spent regs' e = spent-here 1 regs' (λ rest w. let x = at-end rest w in (arrives x.0 (drop read choices), x.3 ∙ one-step (arrives x.0 (drop read choices)))) (omega arith)

      -- with its step, whatever is left of the choices
      ends-told : (s : State) (steps : ℕ) → 1 ≤ left → steps ≡ budget - left + 1 → plus (budget - left) (within start left (step_then (arrives s (drop read choices)))) ≡ told (unless_left start s (drop read choices)) steps
      unfolding within
      ends-told s steps l e =
          let z : budget - left + (1 + 0) ≡ steps = omega arith in
          ap (λ (r : Trail). plus (budget - left) (within start left r)) (one-step (arrives s (drop read choices))) ∙ ap (plus (budget - left)) (steps-within start left 1 (arrives s (drop read choices)) l) ∙ ap (λ (k : ℕ). told (unless_left start s (drop read choices)) k) z

      pub end-missed : (steps : ℕ) (regs' : List ℕ) → 1 ≤ left → steps ≡ budget - left + 1 → read < length choices → Follows code sub entry start budget choices regs₀ regs' (Missed steps)
      unfolding unless_left
      end-missed steps regs' l e r path v =
          let y = g.each path v in
          let x = at-end y.0 y.1 in
          y.2 ∙ ap (λ (r : Trail). plus (budget - left) (within start left r)) x.3 ∙ ends-told x.0 steps l e ∙ rw (drop-cons choices read 0 r) refl

      pub end-arrived : (steps : ℕ) → 1 ≤ left → steps ≡ budget - left + 1 → length choices ≤ read → Follows code sub entry start budget choices regs₀ regs (Arrived at steps)
      unfolding unless_left
      end-arrived steps l e r path v =
          let y = g.each path v in
          let x = at-end y.0 y.1 in
          (x.0, y.2 ∙ ap (λ (r : Trail). plus (budget - left) (within start left r)) x.3 ∙ ends-told x.0 steps l e ∙ rw (drop_of_length-le choices r) refl, x.1, x.2)
