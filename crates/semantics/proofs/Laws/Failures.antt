-- Lists of failures: the first of the greatest, the failures of walks one after another, and the bytes that are marked. Inductions on the lists;
-- what was met before is carried along, as a loop carries it.
use Rattle.std.specs.Prelude.{◌≡◌, ◌⊎◌, ◌↔◌, Bool, true, false, length, get_or, set, eqb, if◌then◌else◌}
use Rattle.std.proofs.Math.Path.{refl, ap}
use Rattle.std.proofs.Common.{sym, ◌∙◌, length-set, get_or-set_same, get_or-set_other}
use mathlib.Core.List.{List, [], ◌∷◌, ◌++◌, append_assoc, append-nil}
use Rattle.std.proofs.Math.Logic.{inl, inr}
use Rattle.std.proofs.Math.Option.{Option, none, some}
use Prim.Native.Nat.{ℕ, zero, suc, ◌+◌, ◌≤◌, ◌<◌}
use native.Mathlib.Omega.{arith}
use Rattle.std.proofs.lemmas.List.{set-append_left}
use Rattle.std.proofs.Math.Seq.{set_out}
use borrow.Author.Tests.{ltb-true, ltb-false, eqb-true, eq-eqb}
use Rattle.semantics.specs.Walk.{Trace, step, miss, end, paying}
use Rattle.semantics.specs.Explanations.{Failure, failed, failed_from, greater, greatest, or_nowhere, position, furthest, reach, closest, places_at, marked}
use Rattle.semantics.specs.Demands.{In}
use Rattle.semantics.proofs.Laws.Cases.{clash, bool, same_or}
use Rattle.semantics.proofs.Laws.Members.{in_left, in_right, in-or}

-- The first of the greatest ------------------------------------------------------

module _ (by : Failure → ℕ) where
  -- x stands in a list, all before it are less, and none is greater
  pub record FirstGreatest (l : List Failure) (x : Failure) : Type 0 where
    pub before : List Failure
    pub after : List Failure
    pub splits : l ≡ before ++ x ∷ after
    pub less : (y : Failure) → In y before → by y < by x
    pub most : (y : Failure) → In y l → by y ≤ by x

  pub greatest-in : {l : List Failure} {x : Failure} → FirstGreatest l x → In x l
  greatest-in {x = x} g = rw g.splits (in_right x g.before (x ∷ g.after) (inl refl))

  pub greatest-append : (best : Option Failure) (l m : List Failure) → greatest by best (l ++ m) ≡ greatest by (greatest by best l) m
  unfolding greatest
  greatest-append best [] m = refl
  greatest-append best (x ∷ l) m = greatest-append (greater by best x) l m

  -- the next one of a loop
  pub greatest-next : (best : Option Failure) (l : List Failure) (x : Failure) → greatest by best (l ++ x ∷ []) ≡ greater by (greatest by best l) x
  unfolding greatest
  greatest-next best l x = greatest-append best l (x ∷ [])

  -- the second is no greater than the first: it is passed over
  passed : (x z : Failure) (l : List Failure) (y : Failure) → by z ≤ by x → FirstGreatest (x ∷ l) y → FirstGreatest (x ∷ z ∷ l) y
  passed x z l y h g = go g.before g.splits g.less
    where
      most : (u : Failure) → In u (x ∷ z ∷ l) → by u ≤ by y
      most u (inl e) = g.most u (inl e)
      most u (inr (inl e)) = rw (← e) (omega (arith, h, g.most x (inl refl)))
      most u (inr (inr i)) = g.most u (inr i)

      go : (p : List Failure) → x ∷ l ≡ p ++ y ∷ g.after → ((u : Failure) → In u p → by u < by y) → FirstGreatest (x ∷ z ∷ l) y
      go [] e f = record { before = []; after = z ∷ l; splits = ap (λ (u : Failure). u ∷ z ∷ l) (cc); less = λ u i. absurd i; most = most }
      go (w ∷ p) e f =
          let first : w ≡ x = cc in
          let rest : l ≡ p ++ y ∷ g.after = cc in
          record {
            before = x ∷ z ∷ p;
            after = g.after;
            splits = ap (λ (k : List Failure). x ∷ z ∷ k) rest;
            less = λ u i. elim i [
              | inl v ↦ f u (inl (first ∙ v))
              | inr j ↦ elim j [ inl v ↦ rw (← v) (omega (arith, h, f x (inl first))) | inr k ↦ f u (inr k) ]
            ];
            most = most;
          }

  -- the first is less than the second
  surpassed : (x z : Failure) (l : List Failure) (y : Failure) → by x < by z → FirstGreatest (z ∷ l) y → FirstGreatest (x ∷ z ∷ l) y
  surpassed x z l y h g =
      let up : by x < by y = omega (arith, h, g.most z (inl refl)) in
      record {
        before = x ∷ g.before;
        after = g.after;
        splits = ap (λ (k : List Failure). x ∷ k) g.splits;
        less = λ u i. elim i [ inl e ↦ rw (← e) up | inr j ↦ g.less u j ];
        most = λ u i. elim i [ inl e ↦ rw (← e) (omega (arith, up)) | inr j ↦ g.most u j ];
      }

  -- the next one is greater, or what was met before stays
  abbrev Greater : (x z : Failure) → Option Failure → Type 0
  Greater x z best = ((best ≡ some z) × (by x < by z)) ⊎ ((best ≡ some x) × (by z ≤ by x))

  either_way : (x z : Failure) (b : Bool) → (b ≡ true → by x < by z) → (b ≡ false → by z ≤ by x) → Greater x z (some (if b then z else x))
  either_way x z true up down = inl (refl, up refl)
  either_way x z false up down = inr (refl, down refl)

  greater-or : (x z : Failure) → Greater x z (greater by (some x) z)
  unfolding greater
  greater-or x z = either_way x z _ (λ e. ltb-true _ _ e) (λ e. ltb-false _ _ e)

  greatest-from : (x : Failure) (l : List Failure) → (y : Failure) × (greatest by (some x) l ≡ some y) × FirstGreatest (x ∷ l) y
  unfolding greatest
  greatest-from x [] = (x, refl, record { before = []; after = []; splits = refl; less = λ u i. absurd i; most = λ u i. elim i [ inl e ↦ rw e (omega arith) | inr z ↦ absurd z ] })
  greatest-from x (z ∷ l) = elim (greater-or x z) [
    | inl e ↦ let g = greatest-from z l in (g.0, rw e.0 g.1, surpassed x z l g.0 e.1 g.2)
    | inr e ↦ let g = greatest-from x l in (g.0, rw e.0 g.1, passed x z l g.0 e.1 g.2)
  ]

  something : (x : Failure) (l : List Failure) → ¬ (greatest by (some x) l ≡ none)
  something x l e = clash (cc ((greatest-from x l).1, e))

  -- nothing is the greatest of nothing alone
  pub greatest-none : (l : List Failure) → (greatest by none l ≡ none) ↔ (l ≡ [])
  unfolding greatest greater
  greatest-none [] = (λ e. refl, λ e. refl)
  greatest-none (x ∷ l) = (λ e. absurd (something _ l e), λ e. absurd (clash (cc)))

  pub greatest-some : (l : List Failure) (x : Failure) → greatest by none l ≡ some x → FirstGreatest l x
  unfolding greatest greater
  greatest-some [] x e = absurd (clash (cc))
  greatest-some (z ∷ l) x e = let g = greatest-from z l in let q : g.0 ≡ x = cc (g.1, e) in rw q at g.2

  -- where there is one, there is a greatest
  pub greatest-of : (l : List Failure) (z : Failure) → In z l → (x : Failure) × (greatest by none l ≡ some x) × FirstGreatest l x
  unfolding greatest greater
  greatest-of [] z i = absurd i
  greatest-of (y ∷ l) z i = greatest-from y l

-- the two that are told
module _ (l : List Failure) (z : Failure) (i : In z l) where
  pub furthest-first : FirstGreatest position l (furthest l)
  unfolding furthest or_nowhere
  furthest-first = let g = greatest-of position l z i in rw g.1 g.2

  pub closest-first : FirstGreatest reach l (closest l)
  unfolding closest or_nowhere
  closest-first = let g = greatest-of reach l z i in rw g.1 g.2

-- The failures of walks ------------------------------------------------------------

pub failed-append : (start : ℕ) (a b : Trace) → failed start (a ++ b) ≡ failed start a ++ failed start b
unfolding failed
failed-append start [] b = refl
failed-append start (step ∷ a) b = failed-append start a b
failed-append start (miss place at ∷ a) b = rw (failed-append start a b)
failed-append start (end t ∷ a) b = failed-append start a b

pub failed-paying : (start n : ℕ) (es : Trace) → failed start (paying n es) ≡ failed start es
unfolding failed paying
failed-paying start zero es = refl
failed-paying start (suc n) es = failed-paying start n es

-- they are the misses of the walk
pub failed-miss : (start : ℕ) (es : Trace) (x : Failure) → In x (failed start es) → (x.start ≡ start) × In (miss x.place x.at) es
unfolding failed
failed-miss start [] x i = absurd i
failed-miss start (step ∷ es) x i = let z = failed-miss start es x i in (z.0, inr z.1)
failed-miss start (miss place at ∷ es) x (inl e) = rw (← e) (refl, inl refl)
failed-miss start (miss place at ∷ es) x (inr i) = let z = failed-miss start es x i in (z.0, inr z.1)
failed-miss start (end t ∷ es) x i = let z = failed-miss start es x i in (z.0, inr z.1)

pub miss-failed : (start : ℕ) (es : Trace) (place at : ℕ) → In (miss place at) es → In (record { start = start; at = at; place = place }) (failed start es)
unfolding failed
miss-failed start [] place at i = absurd i
miss-failed start (step ∷ es) place at (inl e) = absurd (clash (cc))
miss-failed start (step ∷ es) place at (inr i) = miss-failed start es place at i
miss-failed start (miss p a ∷ es) place at (inl e) = let f : p ≡ place = cc in let g : a ≡ at = cc in inl (rw (f, g))
miss-failed start (miss p a ∷ es) place at (inr i) = inr (miss-failed start es place at i)
miss-failed start (end t ∷ es) place at (inl e) = absurd (clash (cc))
miss-failed start (end t ∷ es) place at (inr i) = miss-failed start es place at i

module _ (walk_from : ℕ → Trace) where
  pub failed_from-append : (start n m : ℕ) → failed_from walk_from start (n + m) ≡ failed_from walk_from start n ++ failed_from walk_from (start + n) m
  unfolding failed_from
  failed_from-append start zero m = let e : 0 + m ≡ m = omega arith in let f : start + 0 ≡ start = omega arith in rw (e, f)
  failed_from-append start (suc n) m =
      let e : suc n + m ≡ suc (n + m) = omega arith in
      let f : start + suc n ≡ suc start + n = omega arith in
      rw (e, f) (rw (failed_from-append (suc start) n m) (sym (append_assoc (failed start (walk_from start)) (failed_from walk_from (suc start) n) (failed_from walk_from (suc start + n) m))))

  -- the next start of a loop
  pub failed_from-next : (start n : ℕ) → failed_from walk_from start (suc n) ≡ failed_from walk_from start n ++ failed (start + n) (walk_from (start + n))
  unfolding failed_from
  failed_from-next start n =
      let e : suc n ≡ n + 1 = omega arith in
      ap (failed_from walk_from start) e ∙ failed_from-append start n 1 ∙ ap (λ (l : List Failure). failed_from walk_from start n ++ l) (append-nil (failed (start + n) (walk_from (start + n))))

  pub failed_from-miss : (start n : ℕ) (x : Failure) → In x (failed_from walk_from start n) → (start ≤ x.start) × (x.start < start + n) × In (miss x.place x.at) (walk_from x.start)
  unfolding failed_from
  failed_from-miss start zero x i = absurd i
  failed_from-miss start (suc n) x i = elim (in-or x (failed start (walk_from start)) (failed_from walk_from (suc start) n) i) [
    | inl j ↦ (let z = failed-miss start (walk_from start) x j in (omega (arith, z.0), omega (arith, z.0), rw z.0 z.1))
    | inr j ↦ (let z = failed_from-miss (suc start) n x j in (omega (arith, z.0), omega (arith, z.1), z.2))
  ]

  pub miss-failed_from : (start n m place at : ℕ) → start ≤ m → m < start + n → In (miss place at) (walk_from m) → In (record { start = m; at = at; place = place }) (failed_from walk_from start n)
  unfolding failed_from
  miss-failed_from start zero m place at l h i = absurd (omega arith)
  miss-failed_from start (suc n) m place at l h i = elim (same_or m start) [
    | inl e ↦ in_left _ (failed start (walk_from start)) (failed_from walk_from (suc start) n) (rw e (miss-failed start (walk_from start) place at (rw e at i)))
    | inr d ↦ in_right _ (failed start (walk_from start)) (failed_from walk_from (suc start) n) (miss-failed_from (suc start) n m place at (omega arith) (omega arith) i)
  ]

-- Marks ------------------------------------------------------------------------------

pub places_at-append : (at : ℕ) (l m : List Failure) → places_at at (l ++ m) ≡ places_at at l ++ places_at at m
unfolding places_at
places_at-append at [] m = refl
places_at-append at (x ∷ l) m = elim (bool (eqb x.at at)) [ inl e ↦ rw e (rw (places_at-append at l m)) | inr e ↦ rw e (rw (places_at-append at l m)) ]

-- the places of those that failed there, and no others
pub places_at-failed : (at : ℕ) (l : List Failure) (i : ℕ) → In i (places_at at l) → (x : Failure) × In x l × (x.at ≡ at) × (x.place ≡ i)
unfolding places_at
places_at-failed at [] i h = absurd h
places_at-failed at (x ∷ l) i h = elim (bool (eqb x.at at)) [
  | inl e ↦ elim (rw e at h) [
    | inl q ↦ (x, inl refl, eqb-true x.at at e, q)
    | inr j ↦ let z = places_at-failed at l i j in (z.0, inr z.1, z.2, z.3)
  ]
  | inr e ↦ let z = places_at-failed at l i (rw e at h) in (z.0, inr z.1, z.2, z.3)
]

pub failed-places_at : (at : ℕ) (l : List Failure) (x : Failure) → In x l → x.at ≡ at → In x.place (places_at at l)
unfolding places_at
failed-places_at at [] x h q = absurd h
failed-places_at at (y ∷ l) x (inl e) q = let t : eqb y.at at ≡ true = eq-eqb y.at at (ap (λ (z : Failure). z.at) e ∙ q) in rw t (inl (ap (λ (z : Failure). z.place) e))
failed-places_at at (y ∷ l) x (inr h) q = elim (bool (eqb y.at at)) [
  | inl e ↦ rw e (inr (failed-places_at at l x h q))
  | inr e ↦ rw e (failed-places_at at l x h q)
]

pub marked_append : (a b bytes : List ℕ) → marked (a ++ b) bytes ≡ marked b (marked a bytes)
unfolding marked
marked_append [] b bytes = refl
marked_append (place ∷ a) b bytes = marked_append a b (set bytes place 1)

pub marked-length : (places bytes : List ℕ) → length (marked places bytes) ≡ length bytes
unfolding marked
marked-length [] bytes = refl
marked-length (place ∷ places) bytes = marked-length places (set bytes place 1) ∙ length-set bytes place 1

-- every other byte stays
pub marked-out : (places bytes : List ℕ) (i other : ℕ) → ¬ In i places → get_or (marked places bytes) i other ≡ get_or bytes i other
unfolding marked
marked-out [] bytes i other h = refl
marked-out (place ∷ places) bytes i other h = marked-out places (set bytes place 1) i other (λ j. h (inr j)) ∙ get_or-set_other bytes place i 1 other (λ e. h (inl (sym e)))

marked-stays : (places bytes : List ℕ) (i other : ℕ) → i < length bytes → get_or bytes i other ≡ 1 → get_or (marked places bytes) i other ≡ 1
unfolding marked
marked-stays [] bytes i other l e = e
marked-stays (place ∷ places) bytes i other l e = marked-stays places (set bytes place 1) i other (rw (length-set bytes place 1) l) (elim (same_or i place) [
  | inl q ↦ rw q (get_or-set_same bytes place 1 other (rw q at l))
  | inr d ↦ get_or-set_other bytes place i 1 other d ∙ e
])

pub marked-in : (places bytes : List ℕ) (i other : ℕ) → In i places → i < length bytes → get_or (marked places bytes) i other ≡ 1
unfolding marked
marked-in [] bytes i other h l = absurd h
marked-in (place ∷ places) bytes i other (inl e) l = marked-stays places (set bytes place 1) i other (rw (length-set bytes place 1) l) (rw e (get_or-set_same bytes i 1 other l))
marked-in (place ∷ places) bytes i other (inr h) l = marked-in places (set bytes place 1) i other h (rw (length-set bytes place 1) l)

-- one more mark of a loop, in the bytes at the front of an area: set if there is room for it
pub marked_next : (places bytes rest : List ℕ) (place : ℕ) → place < length bytes → set (marked places bytes ++ rest) place 1 ≡ marked (places ++ place ∷ []) bytes ++ rest
unfolding marked
marked_next places bytes rest place l = set-append_left (marked places bytes) rest place 1 (rw (marked-length places bytes) l) ∙ ap (λ (b : List ℕ). b ++ rest) (sym (marked_append places (place ∷ []) bytes))

pub marked-beyond : (places bytes : List ℕ) (place : ℕ) → length bytes ≤ place → marked (places ++ place ∷ []) bytes ≡ marked places bytes
unfolding marked
marked-beyond places bytes place l = marked_append places (place ∷ []) bytes ∙ set_out (marked places bytes) place 1 (rw (marked-length places bytes) l)
