-- What is told of a line that isn't matched is what request f) asks for: where a failure stands in the list of all is where it stands in the
-- walks, and the marks are those of the failures at its position. By induction on a walk, and then on the starts.
use Rattle.std.specs.Prelude.{◌≡◌, refl, List, [], ◌∷◌, ◌++◌, ◌⊎◌, ℕ, zero, suc, ◌+◌, ◌≤◌, ◌<◌, length, replicate}
use Rattle.std.proofs.Common.{sym, ◌∙◌, subst, inl, inr, arith, ext_get_or}
use Rattle.std.proofs.Math.ListN.{length-replicate, get_or-replicate}
use Rattle.syntax.specs.Tree.{Rule}
use Rattle.semantics.specs.Walk.{Event, step, miss, end, Trace, trace}
use Rattle.semantics.specs.Explanations.{Failure, failed, failed_from, failures, places_at, marks}
use Rattle.semantics.specs.Demands.{In, Misses, Earlier, FirstFailure, MarksOf}
use Rattle.semantics.proofs.Laws.Cases.{clash, same_or}
use Rattle.semantics.proofs.Laws.Members.{in_left, in_right, append-split}
use Rattle.semantics.proofs.Laws.Places.{earlier-or}
use Rattle.semantics.proofs.Laws.Failures.{FirstGreatest, failed-miss, miss-failed, places_at-failed, failed-places_at, marked-length, marked-out, marked-in}
use Rattle.semantics.proofs.Laws.Misses.{miss-fails}

in-or-not : (i : ℕ) (l : List ℕ) → In i l ⊎ (¬ In i l)
in-or-not i [] = inr (λ h. h)
in-or-not i (j ∷ l) = elim (same_or j i) [
  | inl e ↦ inl (inl e)
  | inr d ↦ elim (in-or-not i l) [ inl h ↦ inl (inr h) | inr n ↦ inr (λ h. elim h [ inl e ↦ d e | inr k ↦ n k ]) ]
]

-- Misses by their place in a trace ------------------------------------------------

pub misses-in : (es : Trace) (k place at : ℕ) → Misses es k place at → In (miss place at) es
misses-in [] k place at h = absurd h
misses-in (e ∷ es) zero place at h = inl h
misses-in (e ∷ es) (suc k) place at h = inr (misses-in es k place at h)

pub in-misses : (es : Trace) (place at : ℕ) → In (miss place at) es → (k : ℕ) × Misses es k place at
in-misses [] place at i = absurd i
in-misses (e ∷ es) place at (inl h) = (0, h)
in-misses (e ∷ es) place at (inr i) = let z = in-misses es place at i in (suc z.0, z.1)

misses-one : (es : Trace) (k p a q b : ℕ) → Misses es k p a → Misses es k q b → (p ≡ q) × (a ≡ b)
misses-one [] k p a q b x y = absurd x
misses-one (e ∷ es) zero p a q b x y = (cc, cc)
misses-one (e ∷ es) (suc k) p a q b x y = misses-one es k p a q b x y

-- Where a failure stands --------------------------------------------------------------

-- what fails in the first k steps of a walk is in p
abbrev FailedBefore : (start : ℕ) → Trace → ℕ → List Failure → Type 0
FailedBefore start es k p = (i place at : ℕ) → Misses es i place at → i < k → In (record { start = start; at = at; place = place }) p

before-quiet : (start : ℕ) (e : Event) (es : Trace) (k : ℕ) (p : List Failure) → ((place at : ℕ) → ¬ (e ≡ miss place at)) → FailedBefore start es k p → FailedBefore start (e ∷ es) (suc k) p
before-quiet start e es k p h f zero place at m l = absurd (h place at m)
before-quiet start e es k p h f (suc i) place at m l = f i place at m (omega arith)

before-miss : (start a b : ℕ) (es : Trace) (k : ℕ) (y : Failure) (p : List Failure) → y ≡ record { start = start; at = b; place = a } → FailedBefore start es k p → FailedBefore start (miss a b ∷ es) (suc k) (y ∷ p)
before-miss start a b es k y p h f zero place at m l = let e : a ≡ place = cc in let g : b ≡ at = cc in inl (h ∙ rw (e, g))
before-miss start a b es k y p h f (suc i) place at m l = inr (f i place at m (omega arith))

-- in a walk
failed-place : (start : ℕ) (es : Trace) (p q : List Failure) (x : Failure) → failed start es ≡ p ++ x ∷ q → (k : ℕ) × (x.start ≡ start) × Misses es k x.place x.at × FailedBefore start es k p
unfolding failed
failed-place start [] [] q x e = absurd (clash (cc))
failed-place start [] (y ∷ p) q x e = absurd (clash (cc))
failed-place start (step ∷ es) p q x e = let z = failed-place start es p q x e in (suc z.0, z.1, z.2, before-quiet start step es z.0 p (λ a b h. clash (cc)) z.3)
failed-place start (end t ∷ es) p q x e = let z = failed-place start es p q x e in (suc z.0, z.1, z.2, before-quiet start (end t) es z.0 p (λ a b h. clash (cc)) z.3)
failed-place start (miss a b ∷ es) [] q x e = let h : x ≡ record { start = start; at = b; place = a } = cc in rw h (0, refl, refl, λ i place at m l. absurd (omega arith))
failed-place start (miss a b ∷ es) (y ∷ p) q x e =
    let z = failed-place start es p q x (cc) in
    let h : y ≡ record { start = start; at = b; place = a } = cc in
    (suc z.0, z.1, z.2, before-miss start a b es z.0 y p h z.3)

-- in the walks from start on: after k steps of one, and p has all that failed earlier
pub record FailurePlace (walk_from : ℕ → Trace) (start stop : ℕ) (p : List Failure) (x : Failure) : Type 0 where
  pub k : ℕ
  pub from : start ≤ x.start
  pub to : x.start < stop
  pub misses : Misses (walk_from x.start) k x.place x.at
  pub earlier : (i : ℕ) (y : Failure) → start ≤ y.start → Misses (walk_from y.start) i y.place y.at → Earlier y.start i x.start k → In y p

failed_from-place : (walk_from : ℕ → Trace) (start n : ℕ) (p q : List Failure) (x : Failure) → failed_from walk_from start n ≡ p ++ x ∷ q → FailurePlace walk_from start (start + n) p x
unfolding failed_from
failed_from-place w start zero [] q x e = absurd (clash (cc))
failed_from-place w start zero (y ∷ p) q x e = absurd (clash (cc))
failed_from-place w start (suc n) p q x e = elim (append-split (failed start (w start)) (failed_from w (suc start) n) p q x e) [
  | inl o ↦
      let z = failed-place start (w start) p o.0 x o.1 in
      record {
        k = z.0;
        from = omega (arith, z.1);
        to = omega (arith, z.1);
        misses = subst (λ (n : ℕ). Misses (w n) z.0 x.place x.at) (sym z.1) z.2;
        earlier = λ i y l m h. elim h [
          | inl v ↦ absurd (omega (arith, z.1))
          | inr v ↦ (let g : y.start ≡ start = v.0 ∙ z.1 in rw (← g) at (z.3 i y.place y.at (rw g at m) v.1))
        ];
      }
  | inr o ↦
      let z = failed_from-place w (suc start) n o.0 q x o.2 in
      record {
        k = z.k;
        from = omega (arith, z.from);
        to = omega (arith, z.to);
        misses = z.misses;
        earlier = λ i y l m h. rw o.1 (elim (same_or y.start start) [
          | inl g ↦ in_left y (failed start (w start)) o.0 (rw (← g) (miss-failed y.start (w y.start) y.place y.at (misses-in (w y.start) i y.place y.at m)))
          | inr d ↦ in_right y (failed start (w start)) o.0 (z.earlier i y (omega arith) m h)
        ]);
      }
]

-- The first of the greatest is told ----------------------------------------------------

module _ (sub : List ℕ) (r : Rule) (by : Failure → ℕ) where
  pub first-failure : (x : Failure) → FirstGreatest by (failures sub r) x → FirstFailure sub r by x
  unfolding failures
  first-failure x g =
      let z = failed_from-place (trace sub r) 0 (suc (length sub)) g.before g.after x g.splits in
      record {
        after = z.k;
        fails = (omega (arith, z.to), z.misses);
        greatest = λ k y f. g.most y (miss-fails sub r y.start y.place y.at f.0 (misses-in (trace sub r y.start) k y.place y.at f.1));
        first = λ k y f h. g.less y (z.earlier k y (omega arith) f.1 h);
      }

  -- there is one at most
  pub first-failure-once : (x y : Failure) → FirstFailure sub r by x → FirstFailure sub r by y → x ≡ y
  first-failure-once x y f g = elim (earlier-or x.start f.after y.start g.after) [
    | inl h ↦ absurd (omega (arith, g.first f.after x f.fails h, f.greatest g.after y g.fails))
    | inr v ↦ elim v [
      | inl e ↦ (let m = misses-one (trace sub r y.start) g.after x.place x.at y.place y.at (rw (e.0, e.1) at f.fails.1) g.fails.1 in rw (e.0, m.0, m.1))
      | inr h ↦ absurd (omega (arith, f.first g.after y g.fails h, g.greatest f.after x f.fails))
    ]
  ]

-- Marks ----------------------------------------------------------------------------------

module _ (sub : List ℕ) (r : Rule) (x : Failure) (many : ℕ) where
  abbrev there : List ℕ
  there = places_at x.at (failed x.start (trace sub r x.start))

  miss-there : (i k : ℕ) → Misses (trace sub r x.start) k i x.at → In i there
  miss-there i k m =
      let es = trace sub r x.start in
      failed-places_at x.at (failed x.start es) (record { start = x.start; at = x.at; place = i }) (miss-failed x.start es i x.at (misses-in es k i x.at m)) refl

  there-miss : (i : ℕ) → In i there → (k : ℕ) × Misses (trace sub r x.start) k i x.at
  there-miss i h =
      let es = trace sub r x.start in
      let z = places_at-failed x.at (failed x.start es) i h in
      let m = failed-miss x.start es z.0 z.1 in
      in-misses es i x.at (rw (z.2, z.3) at m.1)

  pub marks-of : MarksOf sub r x many (marks sub r x many)
  unfolding marks
  marks-of = record {
    size = marked-length there (replicate many 0) ∙ length-replicate {A = ℕ} many 0;
    one_where_failed = λ i k l m. marked-in there (replicate many 0) i 0 (miss-there i k m) (rw (length-replicate {A = ℕ} many 0) l);
    zero_elsewhere = λ i l h. marked-out there (replicate many 0) i 0 (λ j. (let z = there-miss i j in h z.0 z.1)) ∙ get_or-replicate many i 0 0 l;
  }

  -- they are settled
  pub marks-once : (a b : List ℕ) → MarksOf sub r x many a → MarksOf sub r x many b → a ≡ b
  marks-once a b v w = ext_get_or 0 a b (v.size ∙ sym w.size) (λ i l. (
      let h : i < many = omega (arith, v.size) in
      elim (in-or-not i there) [
        | inl j ↦ (let z = there-miss i j in v.one_where_failed i z.0 h z.1 ∙ sym (w.one_where_failed i z.0 h z.1))
        | inr n ↦ v.zero_elsewhere i h (λ k m. n (miss-there i k m)) ∙ sym (w.zero_elsewhere i h (λ k m. n (miss-there i k m)))
      ]))
