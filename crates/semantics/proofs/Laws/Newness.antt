-- Newness: `fresh` keeps each reading where it is met first. By induction on what was met, with the readings seen before.
use Rattle.std.specs.Prelude.{◌≡◌, refl, List, [], ◌∷◌, ◌++◌, ◌⊎◌, Bool, true, false, ◌&&◌, ◌||◌, ℕ, eqb}
use Rattle.std.proofs.Common.{ap, sym, ◌∙◌, inl, inr, true≢false, eqb-true, eq-eqb}
use Rattle.std.proofs.lemmas.Bool.{false≢true}
use Rattle.syntax.specs.Sets.{same_bytes}
use Rattle.semantics.specs.States.{State, Row, row}
use Rattle.semantics.specs.Runs.{Moment, plain, ends}
use Rattle.semantics.specs.Answers.{known, unless, fresh}
use Rattle.semantics.specs.Demands.{In}
use Rattle.semantics.proofs.Laws.Cases.{clash, bool}

-- Known rows -------------------------------------------------------------

and-true : (x y : Bool) → x && y ≡ true → (x ≡ true) × (y ≡ true)
and-true true y e = (refl, e)
and-true false y e = absurd (false≢true e)

or-true : (x y : Bool) → x || y ≡ true → (x ≡ true) ⊎ (y ≡ true)
or-true true y e = inl refl
or-true false y e = inr e

or_right : (x : Bool) → x || true ≡ true
or_right true = refl
or_right false = refl

same_bytes_lem : (r s : Row) → same_bytes r s ≡ true → r ≡ s
unfolding same_bytes
same_bytes_lem [] [] e = refl
same_bytes_lem [] (b ∷ s) e = absurd (false≢true e)
same_bytes_lem (a ∷ r) [] e = absurd (false≢true e)
same_bytes_lem (a ∷ r) (b ∷ s) e = let z = and-true (eqb a b) (same_bytes r s) e in cc (eqb-true a b z.0, same_bytes_lem r s z.1)

same_self : (r : Row) → same_bytes r r ≡ true
unfolding same_bytes
same_self [] = refl
same_self (a ∷ r) = rw (eq-eqb a a refl) (same_self r)

pub known_in : (r : Row) (l : List Row) → known r l ≡ true → In r l
unfolding known
known_in r [] e = absurd (false≢true e)
known_in r (s ∷ l) e = elim (or-true (same_bytes r s) (known r l) e) [ inl f ↦ inl (sym (same_bytes_lem r s f)) | inr h ↦ inr (known_in r l h) ]

pub in-known : (r : Row) (l : List Row) → In r l → known r l ≡ true
unfolding known
in-known r [] h = absurd h
in-known r (s ∷ l) (inl e) = rw (e, same_self r)
in-known r (s ∷ l) (inr h) = rw (in-known r l h) (or_right (same_bytes r s))

pub new-not : (r : Row) (l : List Row) → known r l ≡ false → ¬ In r l
new-not r l e h = true≢false (sym (in-known r l h) ∙ e)

pub not_new : (r : Row) (l : List Row) → ¬ In r l → known r l ≡ false
not_new r l h = go (known r l) refl
  where
    go : (x : Bool) → known r l ≡ x → known r l ≡ false
    go true e = absurd (h (known_in r l e))
    go false e = e

-- What was met ------------------------------------------------------------

-- the readings of what was met, as often as it was
unfoldable pub rows_of : List Moment → List Row
rows_of [] = []
rows_of (plain ∷ ms) = rows_of ms
rows_of (ends n t ∷ ms) = row n t ∷ rows_of ms

pub rows_of-append : (a b : List Moment) → rows_of (a ++ b) ≡ rows_of a ++ rows_of b
unfolding rows_of
rows_of-append [] b = refl
rows_of-append (plain ∷ a) b = rows_of-append a b
rows_of-append (ends n t ∷ a) b = rw (rows_of-append a b)

pub in-rows_of : (n : ℕ) (t : State) (ms : List Moment) → In (ends n t) ms → In (row n t) (rows_of ms)
unfolding rows_of
in-rows_of n t [] h = absurd h
in-rows_of n t (plain ∷ ms) (inl e) = absurd (clash (cc))
in-rows_of n t (plain ∷ ms) (inr h) = in-rows_of n t ms h
in-rows_of n t (ends m u ∷ ms) (inl e) = inl (cc)
in-rows_of n t (ends m u ∷ ms) (inr h) = inr (in-rows_of n t ms h)

pub rows_of-in : (r : Row) (ms : List Moment) → In r (rows_of ms) → (n : ℕ) × (t : State) × In (ends n t) ms × (r ≡ row n t)
unfolding rows_of
rows_of-in r [] h = absurd h
rows_of-in r (plain ∷ ms) h = let z = rows_of-in r ms h in (z.0, z.1, inr z.2, z.3)
rows_of-in r (ends m u ∷ ms) (inl e) = (m, u, inl refl, sym e)
rows_of-in r (ends m u ∷ ms) (inr h) = let z = rows_of-in r ms h in (z.0, z.1, inr z.2, z.3)

-- the readings seen when ms have been met
unfoldable pub seen_after : List Row → List Moment → List Row
seen_after seen [] = seen
seen_after seen (plain ∷ ms) = seen_after seen ms
seen_after seen (ends n t ∷ ms) = seen_after (row n t ∷ seen) ms

pub fresh-append : (seen : List Row) (a b : List Moment) → fresh seen (a ++ b) ≡ fresh seen a ++ fresh (seen_after seen a) b
unfolding fresh seen_after
fresh-append seen [] b = refl
fresh-append seen (plain ∷ a) b = rw (fresh-append seen a b)
fresh-append seen (ends n t ∷ a) b = rw (fresh-append (row n t ∷ seen) a b)

pub in-seen_after : (r : Row) (seen : List Row) (ms : List Moment) → In r seen ⊎ In r (rows_of ms) → In r (seen_after seen ms)
unfolding seen_after rows_of
in-seen_after r seen [] (inl h) = h
in-seen_after r seen [] (inr h) = absurd h
in-seen_after r seen (plain ∷ ms) h = in-seen_after r seen ms h
in-seen_after r seen (ends n t ∷ ms) (inl h) = in-seen_after r (row n t ∷ seen) ms (inl (inr h))
in-seen_after r seen (ends n t ∷ ms) (inr (inl e)) = in-seen_after r (row n t ∷ seen) ms (inl (inl e))
in-seen_after r seen (ends n t ∷ ms) (inr (inr h)) = in-seen_after r (row n t ∷ seen) ms (inr h)

pub seen_after-in : (r : Row) (seen : List Row) (ms : List Moment) → In r (seen_after seen ms) → In r seen ⊎ In r (rows_of ms)
unfolding seen_after rows_of
seen_after-in r seen [] h = inl h
seen_after-in r seen (plain ∷ ms) h = seen_after-in r seen ms h
seen_after-in r seen (ends n t ∷ ms) h = elim (seen_after-in r (row n t ∷ seen) ms h) [
  | inl i ↦ elim i [ inl e ↦ inr (inl e) | inr j ↦ inl j ]
  | inr j ↦ inr (inr j)
]

unless-ends : (k : Bool) (x : Moment) (n : ℕ) (t : State) → unless k x ≡ ends n t → (k ≡ false) × (x ≡ ends n t)
unfolding unless
unless-ends true x n t e = absurd (clash (cc))
unless-ends false x n t e = (refl, e)

-- an end of the fresh ones is one that was met, its reading not seen before
pub fresh_in : (seen : List Row) (ms : List Moment) (n : ℕ) (t : State) → In (ends n t) (fresh seen ms)
    → (p : List Moment) × (q : List Moment) × (ms ≡ p ++ ends n t ∷ q) × (known (row n t) (seen_after seen p) ≡ false)
unfolding fresh seen_after
fresh_in seen [] n t h = absurd h
fresh_in seen (plain ∷ ms) n t (inl e) = absurd (clash (cc))
fresh_in seen (plain ∷ ms) n t (inr h) = let z = fresh_in seen ms n t h in (plain ∷ z.0, z.1, ap (λ (l : List Moment). plain ∷ l) z.2, z.3)
fresh_in seen (ends m u ∷ ms) n t (inl e) =
    let z = unless-ends (known (row m u) seen) (ends m u) n t e in
    let r : row m u ≡ row n t = cc z.1 in
    ([], ms, ap (λ (x : Moment). x ∷ ms) z.1, rw (← r) z.0)
fresh_in seen (ends m u ∷ ms) n t (inr h) = let z = fresh_in (row m u ∷ seen) ms n t h in (ends m u ∷ z.0, z.1, ap (λ (l : List Moment). ends m u ∷ l) z.2, z.3)

rows_of-unless : (k : Bool) (r : Row) (n : ℕ) (t : State) (fs : List Moment) → (known-k : k ≡ true → row n t ≡ r → ⊥) → (row n t ≡ r) ⊎ In r (rows_of fs) → In r (rows_of (unless k (ends n t) ∷ fs))
unfolding rows_of unless
rows_of-unless true r n t fs f (inl e) = absurd (f refl e)
rows_of-unless true r n t fs f (inr h) = h
rows_of-unless false r n t fs f h = h

-- every reading that was met is among the fresh ones, unless it was seen before
pub met-fresh : (r : Row) (seen : List Row) (ms : List Moment) → known r seen ≡ false → In r (rows_of ms) → In r (rows_of (fresh seen ms))
unfolding fresh rows_of
met-fresh r seen [] e h = absurd h
met-fresh r seen (plain ∷ ms) e h = met-fresh r seen ms e h
met-fresh r seen (ends n t ∷ ms) e h = rows_of-unless (known (row n t) seen) r n t (fresh (row n t ∷ seen) ms) (λ k q. new-not r seen e (rw q at (known_in (row n t) seen k))) (elim h [
  | inl q ↦ inl q
  | inr i ↦ elim (bool (known r (row n t ∷ seen))) [
    | inl k ↦ elim (known_in r (row n t ∷ seen) k) [ inl q ↦ inl q | inr j ↦ absurd (new-not r seen e j) ]
    | inr k ↦ inr (met-fresh r (row n t ∷ seen) ms k i)
  ]
])

pub seen_after-append : (seen : List Row) (a b : List Moment) → seen_after seen (a ++ b) ≡ seen_after (seen_after seen a) b
unfolding seen_after
seen_after-append seen [] b = refl
seen_after-append seen (plain ∷ a) b = seen_after-append seen a b
seen_after-append seen (ends n t ∷ a) b = seen_after-append (row n t ∷ seen) a b
