-- Facts about traces alone: no rule stands here.
use Rattle.std.specs.Prelude.{◌≡◌, refl, List, [], ◌∷◌, ◌++◌, map, ◌⊎◌, true, false, ℕ, zero, suc, ◌<◌}
use Rattle.std.proofs.Common.{ap, sym, ◌∙◌, append_assoc, append-nil, inl, inr, arith}
use Rattle.semantics.specs.States.{Choice, Sooner, earlier, round_first, go_on_first, Before, here, there, code, State}
use Rattle.semantics.specs.Walk.{step, miss, end, Trace, Go, ◌▹◌, done, to_first, ending, Reaches}
use Rattle.semantics.proofs.Laws.Cases.{clash}

-- u is among the ends of a trace
abbrev pub Ends : Trace → State → Type 0
Ends [] u = ⊥
Ends (step ∷ es) u = Ends es u
Ends (miss p a ∷ es) u = Ends es u
Ends (end t ∷ es) u = (t ≡ u) ⊎ Ends es u

-- the ends of a trace come in that order
abbrev pub Ordered : Trace → Type 0
Ordered [] = Unit {0}
Ordered (step ∷ es) = Ordered es
Ordered (miss p a ∷ es) = Ordered es
Ordered (end t ∷ es) = ((u : State) → Ends es u → Before t.path u.path) × Ordered es

abbrev pub Extends : List Choice → List Choice → Type 0
Extends p q = (x : List Choice) × (q ≡ p ++ x)

pub before-extends : {p q : List Choice} (x y : List Choice) → Before p q → Before (p ++ x) (q ++ y)
before-extends x y (here h) = here h
before-extends x y (there h) = there (before-extends x y h)

pub fork : (p : List Choice) (c d : Choice) → Sooner c d → Before (p ++ (c ∷ [])) (p ++ (d ∷ []))
fork [] c d h = here h
fork (e ∷ p) c d h = there (fork p c d h)

sooner-codes : {c d : Choice} → Sooner c d → code c ≡ code d → ⊥
unfolding code
sooner-codes (earlier h) e = omega arith
sooner-codes round_first e = omega arith
sooner-codes go_on_first e = omega arith

sooner-not-both : {c d : Choice} → Sooner c d → Sooner d c → ⊥
sooner-not-both (earlier h) (earlier l) = omega arith
sooner-not-both round_first h = elim h [ ]
sooner-not-both go_on_first h = elim h [ ]

-- the first choices differ, or are the same and the rest decides
before-cases : {c d : Choice} {p q : List Choice} → Before (c ∷ p) (d ∷ q) → Sooner c d ⊎ ((c ≡ d) × Before p q)
before-cases (here h) = inl h
before-cases (there h) = inr (refl, h)

pub not-both : {p q : List Choice} → Before p q → Before q p → ⊥
not-both (here a) k = elim (before-cases k) [ inl b ↦ sooner-not-both a b | inr e ↦ sooner-codes a (sym (ap code e.0)) ]
not-both (there a) k = elim (before-cases k) [ inl b ↦ sooner-not-both b b | inr e ↦ not-both a e.1 ]

-- the codes tell two runs apart
pub before-codes : {p q : List Choice} → Before p q → map code p ≡ map code q → ⊥
before-codes (here {c = c} {d = d} {p = p} {q = q} h) e = sooner-codes h (cc)
before-codes (there {c = c} {p = p} {q = q} h) e = before-codes h (cc)

-- ++
pub ends-split : (a b : Trace) (u : State) → Ends (a ++ b) u → Ends a u ⊎ Ends b u
ends-split [] b u h = inr h
ends-split (step ∷ a) b u h = ends-split a b u h
ends-split (miss p q ∷ a) b u h = ends-split a b u h
ends-split (end t ∷ a) b u (inl e) = inl (inl e)
ends-split (end t ∷ a) b u (inr h) = elim (ends-split a b u h) [ inl x ↦ inl (inr x) | inr y ↦ inr y ]

pub ends-left : (a b : Trace) (u : State) → Ends a u → Ends (a ++ b) u
ends-left [] b u h = absurd h
ends-left (step ∷ a) b u h = ends-left a b u h
ends-left (miss p q ∷ a) b u h = ends-left a b u h
ends-left (end t ∷ a) b u (inl e) = inl e
ends-left (end t ∷ a) b u (inr h) = inr (ends-left a b u h)

pub ends-right : (a b : Trace) (u : State) → Ends b u → Ends (a ++ b) u
ends-right [] b u h = h
ends-right (step ∷ a) b u h = ends-right a b u h
ends-right (miss p q ∷ a) b u h = ends-right a b u h
ends-right (end t ∷ a) b u h = inr (ends-right a b u h)

pub ordered-append : (a b : Trace) → Ordered a → Ordered b → ((t u : State) → Ends a t → Ends b u → Before t.path u.path) → Ordered (a ++ b)
ordered-append [] b x y f = y
ordered-append (step ∷ a) b x y f = ordered-append a b x y f
ordered-append (miss p q ∷ a) b x y f = ordered-append a b x y f
ordered-append (end t ∷ a) b x y f = (λ u h. elim (ends-split a b u h) [ inl l ↦ x.0 u l | inr r ↦ f t u (inl refl) r ], ordered-append a b x.1 y (λ v u l r. f v u (inr l) r))

-- ▹
pub bind-split : (es : Trace) (k : Go) (u : State) → Ends (es ▹ k) u → (t : State) × Ends es t × Ends (k t) u
unfolding ◌▹◌
bind-split [] k u h = absurd h
bind-split (step ∷ es) k u h = bind-split es k u h
bind-split (miss p a ∷ es) k u h = bind-split es k u h
bind-split (end t ∷ es) k u h = elim (ends-split (k t) _ u h) [ inl x ↦ (t, inl refl, x) | inr y ↦ let z = bind-split es k u y in (z.0, inr z.1, z.2) ]

pub bind-join : (es : Trace) (k : Go) (t u : State) → Ends es t → Ends (k t) u → Ends (es ▹ k) u
unfolding ◌▹◌
bind-join [] k t u h x = absurd h
bind-join (step ∷ es) k t u h x = bind-join es k t u h x
bind-join (miss p a ∷ es) k t u h x = bind-join es k t u h x
bind-join (end v ∷ es) k t u (inl e) x = ends-left (k v) _ u (rw (← e) at x)
bind-join (end v ∷ es) k t u (inr h) x = ends-right (k v) _ u (bind-join es k t u h x)

pub bind-ordered : (es : Trace) (k : Go) → Ordered es → ((t : State) → Ends es t → Ordered (k t)) → ((t u : State) → Ends es t → Ends (k t) u → Extends t.path u.path) → Ordered (es ▹ k)
unfolding ◌▹◌
bind-ordered [] k o x y = tt
bind-ordered (step ∷ es) k o x y = bind-ordered es k o x y
bind-ordered (miss p a ∷ es) k o x y = bind-ordered es k o x y
bind-ordered (end t ∷ es) k o x y = ordered-append (k t) (es ▹ k) (x t (inl refl)) (bind-ordered es k o.1 (λ v h. x v (inr h)) (λ v u h e. y v u (inr h) e)) (λ u v a b.
    let z = bind-split es k v b in
    let p = y t u (inl refl) a in
    let q = y z.0 v (inr z.1) z.2 in
    rw (p.1, q.1) (before-extends p.0 q.0 (o.0 z.0 z.1)))

pub bind-same : (es : Trace) (j k : Go) → ((t : State) → Ends es t → j t ≡ k t) → es ▹ j ≡ es ▹ k
unfolding ◌▹◌
bind-same [] j k h = refl
bind-same (step ∷ es) j k h = rw (bind-same es j k h)
bind-same (miss p a ∷ es) j k h = rw (bind-same es j k h)
bind-same (end t ∷ es) j k h = rw (h t (inl refl), bind-same es j k (λ v e. h v (inr e)))

-- two ends of an ordered trace are one, or one comes before the other
pub apart : (es : Trace) (t u : State) → Ordered es → Ends es t → Ends es u → (t ≡ u) ⊎ (Before t.path u.path ⊎ Before u.path t.path)
apart [] t u o x y = absurd x
apart (step ∷ es) t u o x y = apart es t u o x y
apart (miss p a ∷ es) t u o x y = apart es t u o x y
apart (end v ∷ es) t u o (inl e) (inl f) = inl (sym e ∙ f)
apart (end v ∷ es) t u o (inl e) (inr y) = inr (inl (rw e at (o.0 u y)))
apart (end v ∷ es) t u o (inr x) (inl f) = inr (inr (rw f at (o.0 t x)))
apart (end v ∷ es) t u o (inr x) (inr y) = apart es t u o.1 x y

-- the laws of ▹
pub bind-append : (a b : Trace) (k : Go) → (a ++ b) ▹ k ≡ (a ▹ k) ++ (b ▹ k)
unfolding ◌▹◌
bind-append [] b k = refl
bind-append (step ∷ a) b k = rw (bind-append a b k)
bind-append (miss p q ∷ a) b k = rw (bind-append a b k)
bind-append (end t ∷ a) b k = rw (bind-append a b k) (sym (append_assoc (k t) (a ▹ k) (b ▹ k)))

pub bind-bind : (es : Trace) (j k : Go) → (es ▹ j) ▹ k ≡ es ▹ (λ t. j t ▹ k)
unfolding ◌▹◌
bind-bind [] j k = refl
bind-bind (step ∷ es) j k = rw (bind-bind es j k)
bind-bind (miss p q ∷ es) j k = rw (bind-bind es j k)
bind-bind (end t ∷ es) j k = bind-append (j t) (es ▹ j) k ∙ rw (bind-bind es j k)

pub bind_done : (s : State) (k : Go) → done s ▹ k ≡ k s
unfolding ◌▹◌ done
bind_done s k = append-nil (k s)

pub bind-end : (es : Trace) → es ▹ done ≡ es
unfolding ◌▹◌ done
bind-end [] = refl
bind-end (step ∷ es) = rw (bind-end es)
bind-end (miss p q ∷ es) = rw (bind-end es)
bind-end (end t ∷ es) = rw (bind-end es)

-- to_first
pub first-split : (es : Trace) (k : Go) (u : State) → Ordered es → Ends (to_first es k []) u → (t : State) × Ends es t × ((v : State) → Ends es v → (t ≡ v) ⊎ Before t.path v.path) × Ends (k t) u
unfolding to_first
first-split [] k u o h = absurd h
first-split (step ∷ es) k u o h = first-split es k u o h
first-split (miss p a ∷ es) k u o h = first-split es k u o h
first-split (end t ∷ es) k u o h = (t, inl refl, λ v e. elim e [ inl q ↦ inl q | inr x ↦ inr (o.0 v x) ], h)

pub first-join : (es : Trace) (k : Go) (t u : State) → Ordered es → Ends es t → ((v : State) → Ends es v → (t ≡ v) ⊎ Before t.path v.path) → Ends (k t) u → Ends (to_first es k []) u
unfolding to_first
first-join [] k t u o h f x = absurd h
first-join (step ∷ es) k t u o h f x = first-join es k t u o h f x
first-join (miss p a ∷ es) k t u o h f x = first-join es k t u o h f x
first-join (end v ∷ es) k t u o (inl e) f x = rw (← e) at x
first-join (end v ∷ es) k t u o (inr h) f x = elim (f v (inl refl)) [ inl e ↦ rw e at x | inr b ↦ absurd (not-both b (o.0 t h)) ]

pub first-ordered : (es : Trace) (k : Go) (other : Trace) → ((t : State) → Ends es t → Ordered (k t)) → Ordered other → Ordered (to_first es k other)
unfolding to_first
first-ordered [] k other x y = y
first-ordered (step ∷ es) k other x y = first-ordered es k other x y
first-ordered (miss p a ∷ es) k other x y = first-ordered es k other x y
first-ordered (end t ∷ es) k other x y = x t (inl refl)

-- nothing behind the first end, and the other way only where there is none
pub first-none : (es : Trace) (other : Trace) (u : State) → ending es ≡ true → Ends (to_first es (λ t. []) other) u → ⊥
unfolding to_first ending
first-none [] other u e h = clash (cc)
first-none (step ∷ es) other u e h = first-none es other u e h
first-none (miss p a ∷ es) other u e h = first-none es other u e h
first-none (end t ∷ es) other u e h = h

pub first-other : (es : Trace) (k : Go) (other : Trace) (u : State) → ending es ≡ false → Ends (to_first es k other) u → Ends other u
unfolding to_first ending
first-other [] k other u e h = h
first-other (step ∷ es) k other u e h = first-other es k other u e h
first-other (miss p a ∷ es) k other u e h = first-other es k other u e h
first-other (end t ∷ es) k other u e h = absurd (clash (cc))

pub other-first : (es : Trace) (k : Go) (other : Trace) (u : State) → ending es ≡ false → Ends other u → Ends (to_first es k other) u
unfolding to_first ending
other-first [] k other u e h = h
other-first (step ∷ es) k other u e h = other-first es k other u e h
other-first (miss p a ∷ es) k other u e h = other-first es k other u e h
other-first (end t ∷ es) k other u e h = absurd (clash (cc))

pub ending-true : (es : Trace) → ending es ≡ true → (t : State) × Ends es t
unfolding ending
ending-true [] e = absurd (clash (cc))
ending-true (step ∷ es) e = ending-true es e
ending-true (miss p a ∷ es) e = ending-true es e
ending-true (end t ∷ es) e = (t, inl refl)

pub ending-false : (es : Trace) (t : State) → ending es ≡ false → Ends es t → ⊥
unfolding ending
ending-false [] t e h = h
ending-false (step ∷ es) t e h = ending-false es t e h
ending-false (miss p a ∷ es) t e h = ending-false es t e h
ending-false (end v ∷ es) t e h = clash (cc)

pub first-bind : (es : Trace) (j k : Go) (other : Trace) → to_first es j other ▹ k ≡ to_first es (λ t. j t ▹ k) (other ▹ k)
unfolding to_first ◌▹◌
first-bind [] j k other = refl
first-bind (step ∷ es) j k other = rw (first-bind es j k other)
first-bind (miss p a ∷ es) j k other = rw (first-bind es j k other)
first-bind (end t ∷ es) j k other = refl

-- Ends by their place in the trace -----------------------------------------------

pub reaches-ends : (es : Trace) (j : ℕ) (t : State) → Reaches es j t → Ends es t
reaches-ends [] j t h = absurd h
reaches-ends (step ∷ es) zero t h = absurd (clash (cc))
reaches-ends (miss p a ∷ es) zero t h = absurd (clash (cc))
reaches-ends (end u ∷ es) zero t h = inl (cc)
reaches-ends (step ∷ es) (suc j) t h = reaches-ends es j t h
reaches-ends (miss p a ∷ es) (suc j) t h = reaches-ends es j t h
reaches-ends (end u ∷ es) (suc j) t h = inr (reaches-ends es j t h)

pub ends-reaches : (es : Trace) (t : State) → Ends es t → (j : ℕ) × Reaches es j t
ends-reaches [] t h = absurd h
ends-reaches (step ∷ es) t h = let z = ends-reaches es t h in (suc z.0, z.1)
ends-reaches (miss p a ∷ es) t h = let z = ends-reaches es t h in (suc z.0, z.1)
ends-reaches (end u ∷ es) t (inl e) = (0, ap end e)
ends-reaches (end u ∷ es) t (inr h) = let z = ends-reaches es t h in (suc z.0, z.1)

pub reaches-one : (es : Trace) (j : ℕ) (t u : State) → Reaches es j t → Reaches es j u → t ≡ u
reaches-one [] j t u g h = absurd h
reaches-one (e ∷ es) zero t u g h = cc
reaches-one (e ∷ es) (suc j) t u g h = reaches-one es j t u g h

pub reaches-ordered : (es : Trace) (i j : ℕ) (t u : State) → Ordered es → i < j → Reaches es i t → Reaches es j u → Before t.path u.path
reaches-ordered [] i j t u o l g h = absurd h
reaches-ordered (e ∷ es) i zero t u o l g h = absurd (omega arith)
reaches-ordered (step ∷ es) zero (suc j) t u o l g h = absurd (clash (cc))
reaches-ordered (miss p a ∷ es) zero (suc j) t u o l g h = absurd (clash (cc))
reaches-ordered (end v ∷ es) zero (suc j) t u o l g h = let e : v ≡ t = cc in rw e at (o.0 u (reaches-ends es j u h))
reaches-ordered (step ∷ es) (suc i) (suc j) t u o l g h = reaches-ordered es i j t u o (omega arith) g h
reaches-ordered (miss p a ∷ es) (suc i) (suc j) t u o l g h = reaches-ordered es i j t u o (omega arith) g h
reaches-ordered (end v ∷ es) (suc i) (suc j) t u o l g h = reaches-ordered es i j t u o.1 (omega arith) g h
