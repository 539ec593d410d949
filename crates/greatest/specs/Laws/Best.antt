-- Keeping the best over one list of failures after another.
use Rattle.std.specs.Prelude as option
use Rattle.std.specs.Prelude.{◌≡◌, Bool, None, Some, unwrap_or, ℕ, ◌≤◌, ◌<◌, if◌then◌else◌}
use Rattle.std.proofs.Math.Path.{refl, ap}
use Rattle.std.proofs.Common.{sym, ◌∙◌, inl, inr, arith}
use mathlib.Core.List.{List, [], ◌∷◌, ◌++◌}
use Rattle.std.proofs.Math.Bool.{true, false}
use Rattle.std.proofs.Math.Option.{Option, none, some}
use borrow.Author.Tests.{lt-ltb, le-ltb, ltb-true, ltb-false}
use Rattle.std.proofs.Math.Dec.{ltb}
use Rattle.semantics.specs.Walk.{step, miss, end, Trace}
use Rattle.semantics.specs.Explanations.{Failure, failed, greater, greatest, or_nowhere, position, furthest, reach, closest}
use Rattle.semantics.specs.Demands.{In}
use Rattle.semantics.proofs.Laws.Failures.{greatest-append}
use Rattle.greatest.specs.declared.greatest.Failed.{Failed}
use Rattle.greatest.specs.declared.greatest.Best.{Best}
use Rattle.plain.specs.declared.Miss.{Miss}
use Rattle.greatest.specs.Leading.{kept_of, listed}
use Rattle.greatest.specs.Best.{failure_of, furthest_of, closest_of, Blank, Keeps, Finds}

-- One more failure ----------------------------------------------------------------

module _ (by : Failure → ℕ) (best x : Failed) where
  pub first_one : some (failure_of x) ≡ greater by none (failure_of x)
  unfolding greater
  first_one = refl

  pub greater-one : by (failure_of best) < by (failure_of x) → some (failure_of x) ≡ greater by (some (failure_of best)) (failure_of x)
  unfolding greater
  greater-one h = rw (lt-ltb (by (failure_of best)) (by (failure_of x)) h)

  pub no_greater : by (failure_of x) ≤ by (failure_of best) → some (failure_of best) ≡ greater by (some (failure_of best)) (failure_of x)
  unfolding greater
  no_greater h = rw (le-ltb (by (failure_of best)) (by (failure_of x)) h)

-- The greatest of one start ---------------------------------------------------------

-- what was kept of the walk from a start, as failures
pub listed-none : (start : ℕ) → listed (kept_of start None) ≡ []
unfolding listed kept_of
listed-none start = refl

pub listed-one : (start : ℕ) (k : Miss) → listed (kept_of start (Some k)) ≡ record { start = start; at = k.at; place = k.place } ∷ []
unfolding listed kept_of
listed-one start k = refl

-- all failures of one start, each at it or behind
abbrev Since : (start : ℕ) → Failure → Type 0
Since start x = (x.start ≡ start) × (start ≤ x.at)

abbrev SinceAll : (start : ℕ) → List Failure → Type 0
SinceAll start [] = Unit {0}
SinceAll start (x ∷ l) = Since start x × SinceAll start l

abbrev SinceSome : (start : ℕ) → Option Failure → Type 0
SinceSome start none = Unit {0}
SinceSome start (some x) = Since start x

-- A measure that grows with the position, among the failures of one start.
module _ (by : Failure → ℕ) (start : ℕ) (grows : (x y : Failure) → Since start x → Since start y → ltb (by x) (by y) ≡ ltb x.at y.at) where
  greater-since : (o : Option Failure) (b : Option Failure) (x : Failure) → SinceSome start b → Since start x → greater by (greatest by o (listed b)) x ≡ greatest by o (listed (greater position b x))
  unfolding listed greatest greater
  greater-since o none x s t = refl
  greater-since none (some y) x s t = rw (grows y x s t)
  greater-since (some z) (some y) x s t = cases (ltb (by z) (by y)) (ltb y.at x.at) refl refl
    where
      cases : (u v : Bool) → ltb (by z) (by y) ≡ u → ltb y.at x.at ≡ v
          → some (if ltb (by (if u then y else z)) (by x) then x else (if u then y else z)) ≡ some (if ltb (by z) (by (if v then x else y)) then (if v then x else y) else z)
      cases true true e f = let a = ltb-true (by z) (by y) e in let b = ltb-true (by y) (by x) (grows y x s t ∙ f) in rw (grows y x s t, f, lt-ltb (by z) (by x) (omega arith))
      cases true false e f = rw (grows y x s t, f, e)
      cases false true e f = refl
      cases false false e f = let a = ltb-false (by z) (by y) e in let b = ltb-false (by y) (by x) (grows y x s t ∙ f) in rw (e, le-ltb (by z) (by x) (omega arith))

  since-greater : (b : Option Failure) (x : Failure) → SinceSome start b → Since start x → SinceSome start (greater position b x)
  unfolding greater
  since-greater none x s t = t
  since-greater (some y) x s t = cases (ltb y.at x.at)
    where
      cases : (u : Bool) → Since start (if u then x else y)
      cases true = t
      cases false = s

  -- the greatest of all is the greatest of what was before and the first of the greatest here
  pub greatest-start : (o b : Option Failure) (l : List Failure) → SinceSome start b → SinceAll start l → greatest by (greatest by o (listed b)) l ≡ greatest by o (listed (greatest position b l))
  unfolding greatest
  greatest-start o b [] s t = refl
  greatest-start o b (x ∷ l) s t = ap (λ (z : Option Failure). greatest by z l) (greater-since o b x s t.0) ∙ greatest-start o (greater position b x) l (since-greater b x s t.0) t.1

reach-grows : (start : ℕ) (x y : Failure) → Since start x → Since start y → ltb (reach x) (reach y) ≡ ltb x.at y.at
reach-grows start x y s t = cases (ltb x.at y.at) refl
  where
    cases : (u : Bool) → ltb x.at y.at ≡ u → ltb (reach x) (reach y) ≡ u
    cases true e = let a = ltb-true x.at y.at e in lt-ltb (reach x) (reach y) (omega (arith, s.0, s.1, t.0, t.1))
    cases false e = let a = ltb-false x.at y.at e in le-ltb (reach x) (reach y) (omega (arith, s.0, s.1, t.0, t.1))

-- keeping the greatest of a walk is keeping them all
pub keeps-start : (start : ℕ) (l : List Failure) (b r : option.Option Best) → SinceAll start l → Keeps b (listed (greatest position none l)) r → Keeps b l r
unfolding listed greatest
keeps-start start l b r s k = record {
  far = k.far ∙ sym (greatest-start position start (λ x y _ _. refl) (furthest_of b) none l tt s);
  near = k.near ∙ sym (greatest-start reach start (reach-grows start) (closest_of b) none l tt s);
}

-- the failures of a walk are
pub walk-since : (start : ℕ) (t : Trace) → ((place at : ℕ) → In (miss place at) t → start ≤ at) → SinceAll start (failed start t)
unfolding failed
walk-since start [] h = tt
walk-since start (step ∷ t) h = walk-since start t (λ place at i. h place at (inr i))
walk-since start (miss place at ∷ t) h = ((refl, h place at (inl refl)), walk-since start t (λ q n i. h q n (inr i)))
walk-since start (end s ∷ t) h = walk-since start t (λ place at i. h place at (inr i))

-- Failures one after another -------------------------------------------------------

pub keeps-one : (b r : Best) (x : Failure) → some (failure_of r.furthest) ≡ greater position (some (failure_of b.furthest)) x → some (failure_of r.closest) ≡ greater reach (some (failure_of b.closest)) x → Keeps (Some b) (x ∷ []) (Some r)
unfolding furthest_of closest_of greatest
keeps-one b r x far near = record { far = far; near = near }

pub keeps-first : (x : Failed) → Keeps None (failure_of x ∷ []) (Some (record { furthest = x; closest = x }))
unfolding furthest_of closest_of greatest greater
keeps-first x = record { far = refl; near = refl }

pub keeps-none : (b : option.Option Best) → Keeps b [] b
unfolding greatest
keeps-none b = record { far = refl; near = refl }

pub keeps-more : {b r s : option.Option Best} (l m : List Failure) → Keeps b l r → Keeps r m s → Keeps b (l ++ m) s
keeps-more {b} {r} {s} l m x y = record {
  far = y.far ∙ ap (λ (o : Option Failure). greatest position o m) x.far ∙ sym (greatest-append position (furthest_of b) l m);
  near = y.near ∙ ap (λ (o : Option Failure). greatest reach o m) x.near ∙ sym (greatest-append reach (closest_of b) l m);
}

-- what is kept is told, once it began with nothing: it is the failure itself, or nothing failed
pub keeps-finds : (l : List Failure) (n : Best) (r : option.Option Best) → Blank n → Keeps None l r → Finds l (unwrap_or r n)
unfolding furthest_of closest_of furthest closest or_nowhere
keeps-finds l n None blank k = record { far = blank.far ∙ ap or_nowhere k.far; near = blank.near ∙ ap or_nowhere k.near }
keeps-finds l n (Some b) blank k = record { far = ap or_nowhere k.far; near = ap or_nowhere k.near }
