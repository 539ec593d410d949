-- The misses of a walk lie between where it began and the line's end, and a walk without an end has one. One induction over the rule for both,
-- with a lemma for each way of putting traces together, as in Laws.Right and Laws.Rounds.
use Rattle.std.specs.Prelude.{◌≡◌, refl, ◌⊎◌, Bool, length, eqb}
use mathlib.Core.List.{List, [], ◌∷◌, ◌++◌}
use Rattle.std.proofs.Math.Logic.{inl, inr}
use Rattle.std.proofs.Math.Bool.{true, false}
use Prim.Native.Nat.{ℕ, zero, suc, ◌≤◌, ◌<◌}
use Rattle.std.proofs.Common.{arith}
use Rattle.syntax.specs.declared.Greed.{Greed}
use Rattle.syntax.specs.declared.Greed.TheVariants.{Greedy, Lazy}
use Rattle.syntax.specs.declared.Most.{Most}
use Rattle.syntax.specs.Tree.{Rule, empty, item, seq, alt, group, repeat, held, look, Branches, one, also, branch_count}
use Rattle.semantics.specs.States.{branch, again, go_on, State, starting, chose, moved, closed}
use Rattle.semantics.specs.Items.{Tried, fails, goes, toll, try}
use Rattle.semantics.specs.Repeats.{Next, round, leave, either, decision}
use Rattle.semantics.specs.Derivations.{Again, Derives, Derivation}
use Rattle.semantics.specs.Walk.{step, miss, end, Trace, Go, ◌▹◌, done, tried, paying, decide, to_first, ending, entering, rounds, enough, walk, walks, trace}
use Rattle.semantics.specs.Explanations.{Failure, failures, position, furthest, reach, closest}
use Rattle.semantics.specs.Demands.{In, Start, NoDerivation}
use Rattle.semantics.proofs.Laws.Cases.{clash}
use Rattle.semantics.proofs.Laws.Members.{in_left, in_right, in-or}
use Rattle.semantics.proofs.Laws.Traces.{Ends, ends-left, bind-join, other-first, ends-reaches}
use Rattle.semantics.proofs.Laws.Right.{Right, again-reach}
use Rattle.semantics.proofs.Laws.Rounds.{unless_idle, left, fewer-states}
use Rattle.semantics.proofs.Laws.Walk.{right}
use Rattle.semantics.proofs.Laws.Matches.{reaches-derives}
use Rattle.semantics.proofs.Laws.Failures.{FirstGreatest, greatest-in, furthest-first, closest-first, failed_from-miss, miss-failed_from}

-- Misses of ▹ ------------------------------------------------------------------

bind-miss-or : (es : Trace) (k : Go) (place at : ℕ) → In (miss place at) (es ▹ k) → In (miss place at) es ⊎ ((t : State) × Ends es t × In (miss place at) (k t))
unfolding ◌▹◌
bind-miss-or [] k place at i = absurd i
bind-miss-or (step ∷ es) k place at (inl e) = absurd (clash (cc))
bind-miss-or (step ∷ es) k place at (inr i) = elim (bind-miss-or es k place at i) [ inl j ↦ inl (inr j) | inr j ↦ inr j ]
bind-miss-or (miss p a ∷ es) k place at (inl e) = inl (inl e)
bind-miss-or (miss p a ∷ es) k place at (inr i) = elim (bind-miss-or es k place at i) [ inl j ↦ inl (inr j) | inr j ↦ inr j ]
bind-miss-or (end t ∷ es) k place at i = elim (in-or (miss place at) (k t) (es ▹ k) i) [
  | inl j ↦ inr (t, inl refl, j)
  | inr j ↦ elim (bind-miss-or es k place at j) [ inl h ↦ inl (inr h) | inr h ↦ inr (h.0, inr h.1, h.2) ]
]

bind-miss-before : (es : Trace) (k : Go) (place at : ℕ) → In (miss place at) es → In (miss place at) (es ▹ k)
unfolding ◌▹◌
bind-miss-before [] k place at i = absurd i
bind-miss-before (step ∷ es) k place at (inl e) = absurd (clash (cc))
bind-miss-before (step ∷ es) k place at (inr i) = inr (bind-miss-before es k place at i)
bind-miss-before (miss p a ∷ es) k place at (inl e) = inl e
bind-miss-before (miss p a ∷ es) k place at (inr i) = inr (bind-miss-before es k place at i)
bind-miss-before (end t ∷ es) k place at (inl e) = absurd (clash (cc))
bind-miss-before (end t ∷ es) k place at (inr i) = in_right (miss place at) (k t) (es ▹ k) (bind-miss-before es k place at i)

bind-miss-behind : (es : Trace) (k : Go) (t : State) (place at : ℕ) → Ends es t → In (miss place at) (k t) → In (miss place at) (es ▹ k)
unfolding ◌▹◌
bind-miss-behind [] k t place at h i = absurd h
bind-miss-behind (step ∷ es) k t place at h i = inr (bind-miss-behind es k t place at h i)
bind-miss-behind (miss p a ∷ es) k t place at h i = inr (bind-miss-behind es k t place at h i)
bind-miss-behind (end u ∷ es) k t place at (inl e) i = in_left (miss place at) (k u) (es ▹ k) (rw e i)
bind-miss-behind (end u ∷ es) k t place at (inr h) i = in_right (miss place at) (k u) (es ▹ k) (bind-miss-behind es k t place at h i)

-- Misses of to_first --------------------------------------------------------------

first-miss-or : (es : Trace) (k : Go) (other : Trace) (place at : ℕ) → In (miss place at) (to_first es k other) → In (miss place at) es ⊎ (((t : State) × Ends es t × In (miss place at) (k t)) ⊎ In (miss place at) other)
unfolding to_first
first-miss-or [] k other place at i = inr (inr i)
first-miss-or (step ∷ es) k other place at (inl e) = absurd (clash (cc))
first-miss-or (step ∷ es) k other place at (inr i) = elim (first-miss-or es k other place at i) [ inl j ↦ inl (inr j) | inr j ↦ inr j ]
first-miss-or (miss p a ∷ es) k other place at (inl e) = inl (inl e)
first-miss-or (miss p a ∷ es) k other place at (inr i) = elim (first-miss-or es k other place at i) [ inl j ↦ inl (inr j) | inr j ↦ inr j ]
first-miss-or (end t ∷ es) k other place at (inl e) = absurd (clash (cc))
first-miss-or (end t ∷ es) k other place at (inr i) = inr (inl (t, inl refl, i))

-- What a trace from s tells -------------------------------------------------------

-- es has an end
abbrev pub HasEnd : Trace → Type 0
HasEnd es = (t : State) × Ends es t

-- something failed in es
abbrev pub HasMiss : Trace → Type 0
HasMiss es = (place : ℕ) × (at : ℕ) × In (miss place at) es

pub record Tells (N : ℕ) (s : State) (es : Trace) : Type 0 where
  pub between : (place at : ℕ) → In (miss place at) es → (s.at ≤ at) × (at ≤ N)
  pub end_or_miss : HasEnd es ⊎ HasMiss es

module _ {N : ℕ} {s : State} where
  tells-step : {es : Trace} → Tells N s es → Tells N s (step ∷ es)
  tells-step x = record {
    between = λ p a i. elim i [ inl e ↦ absurd (clash (cc)) | inr j ↦ x.between p a j ];
    end_or_miss = elim x.end_or_miss [ inl e ↦ inl e | inr m ↦ inr (m.0, m.1, inr m.2) ];
  }

  tells-done : (t : State) → Tells N s (done t)
  unfolding done
  tells-done t = record { between = λ p a i. elim i [ inl e ↦ absurd (clash (cc)) | inr z ↦ absurd z ]; end_or_miss = inl (t, inl refl) }

  tells-paying : (n : ℕ) {es : Trace} → Tells N s es → Tells N s (paying n es)
  unfolding paying
  tells-paying zero x = x
  tells-paying (suc n) x = tells-step (tells-paying n x)

  tells-tried : (place : ℕ) (x : Tried) → s.at ≤ N → Tells N s (tried place s x)
  unfolding tried
  tells-tried place fails l = record {
    between = λ p a i. elim i [ inl e ↦ (let q : s.at ≡ a = cc in (omega (arith, q), omega (arith, q))) | inr z ↦ absurd z ];
    end_or_miss = inr (place, s.at, inl refl);
  }
  tells-tried place (goes t) l = tells-step (tells-done t)

  tells-from : {t : State} {es : Trace} → s.at ≤ t.at → Tells N t es → Tells N s es
  tells-from l x = record { between = λ p a i. (let z = x.between p a i in (omega (arith, z.0), z.1)); end_or_miss = x.end_or_miss }

  tells-append : {a b : Trace} → Tells N s a → Tells N s b → Tells N s (a ++ b)
  tells-append {a} {b} x y = record {
    between = λ p at i. elim (in-or (miss p at) a b i) [ inl j ↦ x.between p at j | inr j ↦ y.between p at j ];
    end_or_miss = elim x.end_or_miss [ inl e ↦ inl (e.0, ends-left a b e.0 e.1) | inr m ↦ inr (m.0, m.1, in_left _ a b m.2) ];
  }

  tells-bind : {es : Trace} {k : Go} → Tells N s es → ((t : State) → Ends es t → (s.at ≤ t.at) × Tells N t (k t)) → Tells N s (es ▹ k)
  tells-bind {es} {k} x y = record {
    between = λ p a i. elim (bind-miss-or es k p a i) [
      | inl j ↦ x.between p a j
      | inr j ↦ (let w = y j.0 j.1 in let z = w.1.between p a j.2 in (omega (arith, w.0, z.0), z.1))
    ];
    end_or_miss = elim x.end_or_miss [
      | inl e ↦ elim (y e.0 e.1).1.end_or_miss [
        | inl f ↦ inl (f.0, bind-join es k e.0 f.0 e.1 f.1)
        | inr m ↦ inr (m.0, m.1, bind-miss-behind es k e.0 m.0 m.1 e.1 m.2)
      ]
      | inr m ↦ inr (m.0, m.1, bind-miss-before es k m.0 m.1 m.2)
    ];
  }

  -- an inner walk up to its first end, and on from there
  tells_first : {es : Trace} {k : Go} → Tells N s es → ((t : State) → Ends es t → Tells N s (k t)) → Tells N s (to_first es k [])
  unfolding to_first
  tells_first {es} {k} x y = record {
    between = λ p a i. elim (first-miss-or es k [] p a i) [
      | inl j ↦ x.between p a j
      | inr j ↦ elim j [ inl h ↦ (y h.0 h.1).between p a h.2 | inr h ↦ absurd h ]
    ];
    end_or_miss = by es x.end_or_miss (λ t e. (y t e).end_or_miss);
  }
    where
      by : (es : Trace) → HasEnd es ⊎ HasMiss es → ((t : State) → Ends es t → HasEnd (k t) ⊎ HasMiss (k t)) → HasEnd (to_first es k []) ⊎ HasMiss (to_first es k [])
      by [] (inl e) f = absurd e.1
      by [] (inr m) f = absurd m.2
      by (step ∷ es) (inl e) f = elim (by es (inl e) f) [ inl h ↦ inl h | inr m ↦ inr (m.0, m.1, inr m.2) ]
      by (step ∷ es) (inr m) f = elim m.2 [ inl e ↦ absurd (clash (cc)) | inr i ↦ elim (by es (inr (m.0, m.1, i)) f) [ inl h ↦ inl h | inr n ↦ inr (n.0, n.1, inr n.2) ] ]
      by (miss p a ∷ es) h f = inr (p, a, inl refl)
      by (end t ∷ es) h f = elim (f t (inl refl)) [ inl e ↦ inl e | inr m ↦ inr (m.0, m.1, inr m.2) ]

  -- negative looking ahead, whose inside has an end or not
  tells-lacking : (place : ℕ) {es : Trace} → s.at ≤ N → Tells N s es → (b : Bool) → ending es ≡ b → Tells N s (entering place s b ∷ to_first es (λ t. []) (done s))
  unfolding entering done
  tells-lacking place {es} l x true e = record {
    between = λ p a i. elim i [ inl q ↦ (let z : s.at ≡ a = cc in (omega (arith, z), omega (arith, z))) | inr j ↦ within p a j ];
    end_or_miss = inr (place, s.at, inl refl);
  }
    where
      within : (p a : ℕ) → In (miss p a) (to_first es (λ t. []) (done s)) → (s.at ≤ a) × (a ≤ N)
      within p a j = elim (first-miss-or es (λ t. []) (done s) p a j) [
        | inl h ↦ x.between p a h
        | inr h ↦ elim h [ inl z ↦ absurd z.2 | inr z ↦ elim z [ inl q ↦ absurd (clash (cc)) | inr y ↦ absurd y ] ]
      ]
  tells-lacking place {es} l x false e = tells-step (record {
    between = λ p a j. elim (first-miss-or es (λ t. []) (done s) p a j) [
      | inl h ↦ x.between p a h
      | inr h ↦ elim h [ inl z ↦ absurd z.2 | inr z ↦ elim z [ inl q ↦ absurd (clash (cc)) | inr y ↦ absurd y ] ]
    ];
    end_or_miss = inl (s, other-first es (λ t. []) (done s) s e (inl refl));
  })

tells-decide : {N : ℕ} (d : Next) (s : State) (r : Go) → s.at ≤ N → ((t : State) → Again d s t → Tells N t (r t)) → Tells N s (decide d s r)
unfolding decide
tells-decide round s r l f = f s refl
tells-decide leave s r l f = tells-done s
tells-decide {N} (either Greedy) s r l f = let t = chose (again Greedy) s in tells-append (tells-from (again-reach N (either Greedy) s t l refl).up (f t refl)) (tells-done (chose (go_on Greedy) s))
tells-decide {N} (either Lazy) s r l f = let t = chose (again Lazy) s in tells-append (tells-done (chose (go_on Lazy) s)) (tells-from (again-reach N (either Lazy) s t l refl).up (f t refl))

tells-rounds : {N : ℕ} (body : Go) (B : State → State → Type 0) (least : ℕ) (most : Most) (g : Greed) → ((s : State) → s.at ≤ N → Right N s (body s) (B s)) → ((s : State) → s.at ≤ N → Tells N s (body s))
    → (f n : ℕ) (idle : Bool) (s : State) → s.at ≤ N → left N least n idle s.at < f → Tells N s (rounds body least most g f n idle s)
unfolding rounds
tells-rounds body B least most g body-right body-tells zero n idle s l h = absurd (omega arith)
tells-rounds {N} body B least most g body-right body-tells (suc f) n idle s l h =
    let d = decision least most g n idle in
    tells-step (tells-decide d s _ l (λ t a.
    let r = again-reach N d s t l a in
    let x = body-right t r.inside in
    tells-bind (body-tells t r.inside) (λ u e.
    let w = x.reach u (x.sound u e) in
    let m = fewer-states N least most g n idle s t u a w in
    (w.up, tells-rounds body B least most g body-right body-tells f (suc n) (eqb t.at u.at) u w.inside (omega arith)))))

-- The walk ---------------------------------------------------------------------

module _ (sub : List ℕ) where
  mutual
    unfolding walk walks chose closed enough left unless_idle

    pub tells : (r : Rule) (s : State) → s.at ≤ length sub → Tells (length sub) s (walk sub r s)
    tells empty s l = tells-done s
    tells (item place i) s l = tells-paying (toll sub i s) (tells-tried place (try sub i s) l)
    tells (seq a b) s l = tells-bind (tells a s l) (λ t e. (let x = right sub a s l in let w = x.reach t (x.sound t e) in (w.up, tells b t w.inside)))
    tells (alt bs bar b) s l = tells-append (tells-branches bs s l) (tells-step (tells-from (omega arith) (tells b (chose (branch (branch_count bs)) s) l)))
    tells (group n a) s l = tells-step (tells-bind (tells a s l) (λ t e. (let x = right sub a s l in ((x.reach t (x.sound t e)).up, tells-step (tells-done (closed n s.at t))))))
    tells (repeat place least most g a) s l = tells-rounds (walk sub a) (Derives sub a) least most g (right sub a) (tells a) (enough sub least s.at) 0 false s l (omega arith)
    tells (held place a) s l = tells-step (tells_first (tells a s l) (λ t e. tells-done t))
    tells (look place false a) s l = tells-step (tells_first (tells a s l) (λ t e. tells-done (moved s.at t)))
    tells (look place true a) s l = tells-lacking place l (tells a s l) (ending (walk sub a s)) refl

    tells-branches : (bs : Branches) (s : State) → s.at ≤ length sub → Tells (length sub) s (walks sub bs s)
    tells-branches (one a) s l = tells-step (tells-from (omega arith) (tells a (chose (branch 0) s) l))
    tells-branches (also bs bar b) s l = tells-append (tells-branches bs s l) (tells-step (tells-from (omega arith) (tells b (chose (branch (branch_count bs)) s) l)))

-- Of the walk from a start -------------------------------------------------------

module _ (sub : List ℕ) (r : Rule) where
  from_start : (n : ℕ) → Start sub n → Tells (length sub) (starting n) (trace sub r n)
  unfolding trace starting
  from_start n l = tells sub r (starting n) l

  pub miss-inside : (n : ℕ) → Start sub n → (place at : ℕ) → In (miss place at) (trace sub r n) → (n ≤ at) × (at ≤ length sub)
  unfolding starting
  miss-inside n l place at i = (from_start n l).between place at i

  derives-or-fails : (n : ℕ) → Start sub n → ((t : State) × Derivation sub r n t) ⊎ HasMiss (trace sub r n)
  derives-or-fails n l = elim (from_start n l).end_or_miss [
    | inl e ↦ (let z = ends-reaches (trace sub r n) e.0 e.1 in inl (e.0, reaches-derives sub r n z.0 e.0 l z.1))
    | inr m ↦ inr m
  ]

  -- "A walk that isn't exhausted and in which nothing failed always matches."
  pub nothing-failed : (n : ℕ) → Start sub n → ¬ HasMiss (trace sub r n) → (t : State) × Derivation sub r n t
  nothing-failed n l h = elim (derives-or-fails n l) [ inl d ↦ d | inr m ↦ absurd (h m) ]

  pub something-failed : (n : ℕ) → Start sub n → NoDerivation sub r n → HasMiss (trace sub r n)
  something-failed n l h = elim (derives-or-fails n l) [ inl d ↦ absurd (h d.0 d.1) | inr m ↦ m ]

  -- Of the walks from all starts -----------------------------------------------------

  -- the failures are the misses of the walks
  pub failure-misses : (x : Failure) → In x (failures sub r) → Start sub x.start × In (miss x.place x.at) (trace sub r x.start)
  unfolding failures
  failure-misses x i = let z = failed_from-miss (trace sub r) _ _ x i in (omega (arith, z.1), z.2)

  pub miss-fails : (n place at : ℕ) → Start sub n → In (miss place at) (trace sub r n) → In (record { start = n; at = at; place = place }) (failures sub r)
  unfolding failures
  miss-fails n place at l i = miss-failed_from (trace sub r) _ _ n place at (omega arith) (omega arith) i

  pub failure-inside : (x : Failure) → In x (failures sub r) → (x.start ≤ x.at) × (x.at ≤ length sub)
  failure-inside x i = let z = failure-misses x i in miss-inside x.start z.0 x.place x.at z.1

  -- At the last start of a line that isn't matched something fails, and it can fail nowhere but at the line's end.
  module _ (unfit : (n : ℕ) → Start sub n → NoDerivation sub r n) where
    pub fails-at-end : (x : Failure) × In x (failures sub r) × (x.at ≡ length sub)
    fails-at-end =
        let l : Start sub (length sub) = omega arith in
        let m = something-failed (length sub) l (unfit (length sub) l) in
        let w = miss-inside (length sub) l m.0 m.1 m.2 in
        (record { start = length sub; at = m.1; place = m.0 }, miss-fails (length sub) m.0 m.1 l m.2, omega (arith, w.0, w.1))

    pub furthest-told : FirstGreatest position (failures sub r) (furthest (failures sub r))
    furthest-told = furthest-first (failures sub r) fails-at-end.0 fails-at-end.1

    pub closest-told : FirstGreatest reach (failures sub r) (closest (failures sub r))
    closest-told = closest-first (failures sub r) fails-at-end.0 fails-at-end.1

    -- so the greatest place is always the line's length
    pub furthest-at-end : position (furthest (failures sub r)) ≡ length sub
    furthest-at-end =
        let g = furthest-told in
        let z = fails-at-end in
        omega (arith, g.most z.0 z.1, z.2, (failure-inside (furthest (failures sub r)) (greatest-in position g)).1)
