-- What a match and a listing make of the moments that a run met, by induction on them: two cases each, by the first end, or by the first
-- new reading with no room.
use Rattle.std.specs.Prelude.{◌≡◌, refl, ◌⊎◌, true, false, length}
use Rattle.std.proofs.Math.Path.{ap}
use mathlib.Core.List.{List, [], ◌∷◌, ◌++◌}
use Rattle.std.proofs.Math.Logic.{inl, inr}
use Prim.Native.Nat.{ℕ, zero, suc, ◌≤◌}
use Rattle.std.proofs.Common.{arith}
use Rattle.semantics.specs.States.{State, Row, row}
use Rattle.semantics.specs.Runs.{Moment, plain, ends, Stop}
use Rattle.semantics.specs.Answers.{matched, Answer, unmatched, one_step_more, first, known, unless, fresh, full, Listing, unfilled, plainly, with_row, fill}
use Rattle.semantics.specs.Demands.{In}
use Rattle.semantics.proofs.Laws.Cases.{clash, bool}
use Rattle.semantics.proofs.Laws.Newness.{rows_of, seen_after}

-- A match --------------------------------------------------------------

-- no end was met
pub record NoEnd (ms : List Moment) (x : Stop) (a : Answer) : Type 0 where
  pub none : (m : ℕ) (u : State) → ¬ In (ends m u) ms
  pub is : a ≡ record { outcome = unmatched x; steps = length ms }

-- the first end comes after p
pub record FirstEnd (ms : List Moment) (a : Answer) : Type 0 where
  pub p : List Moment
  pub q : List Moment
  pub n : ℕ
  pub t : State
  pub at : ms ≡ p ++ ends n t ∷ q
  pub none : (m : ℕ) (u : State) → ¬ In (ends m u) p
  pub is : a ≡ record { outcome = matched n t; steps = suc (length p) }

pub first-view : (ms : List Moment) (x : Stop) → NoEnd ms x (first ms x) ⊎ FirstEnd ms (first ms x)
unfolding first one_step_more
first-view [] x = inl (record { none = λ m u h. h; is = refl })
first-view (ends n t ∷ ms) x = inr (record { p = []; q = ms; n = n; t = t; at = refl; none = λ m u h. h; is = refl })
first-view (plain ∷ ms) x = elim (first-view ms x) [
  | inl v ↦ inl (record { none = λ m u h. elim h [ inl e ↦ absurd (clash (cc)) | inr i ↦ v.none m u i ]; is = rw v.is })
  | inr v ↦ inr (record { p = plain ∷ v.p; q = v.q; n = v.n; t = v.t; at = ap (λ (l : List Moment). plain ∷ l) v.at; none = λ m u h. elim h [ inl e ↦ absurd (clash (cc)) | inr i ↦ v.none m u i ]; is = rw v.is })
]

-- A listing ------------------------------------------------------------

-- there is room for every new reading
pub record Fits (room : ℕ) (seen : List Row) (ms : List Moment) (x : Stop) (l : Listing) : Type 0 where
  pub few : length (rows_of (fresh seen ms)) ≤ room
  pub is : l ≡ record { rows = rows_of (fresh seen ms); ending = unfilled x; steps = length ms }

-- the end after p has a new reading, and the rows are taken
pub record Fills (room : ℕ) (seen : List Row) (ms : List Moment) (l : Listing) : Type 0 where
  pub p : List Moment
  pub q : List Moment
  pub n : ℕ
  pub t : State
  pub at : ms ≡ p ++ ends n t ∷ q
  pub new : known (row n t) (seen_after seen p) ≡ false
  pub taken : length (rows_of (fresh seen p)) ≡ room
  pub is : l ≡ record { rows = rows_of (fresh seen p); ending = full; steps = suc (length p) }

abbrev pub FillView : ℕ → List Row → List Moment → Stop → Type 0
FillView room seen ms x = Fits room seen ms x (fill room (fresh seen ms) x) ⊎ Fills room seen ms (fill room (fresh seen ms) x)

module _ (seen : List Row) (n : ℕ) (t : State) (ms : List Moment) (x : Stop) where
  fill_known : (room : ℕ) → known (row n t) seen ≡ true → FillView room (row n t ∷ seen) ms x → FillView room seen (ends n t ∷ ms) x
  unfolding fill plainly fresh rows_of seen_after unless
  fill_known room e (inl v) = inl (record { few = rw e v.few; is = rw e (rw v.is) })
  fill_known room e (inr v) = inr (record { p = ends n t ∷ v.p; q = v.q; n = v.n; t = v.t; at = ap (λ (l : List Moment). ends n t ∷ l) v.at; new = v.new; taken = rw e v.taken; is = rw e (rw v.is) })

  fill-new : (room : ℕ) → known (row n t) seen ≡ false → FillView room (row n t ∷ seen) ms x → FillView (suc room) seen (ends n t ∷ ms) x
  unfolding fill with_row fresh rows_of seen_after unless
  fill-new room e (inl v) = inl (record { few = rw e (omega (arith, v.few)); is = rw e (rw v.is) })
  fill-new room e (inr v) = inr (record { p = ends n t ∷ v.p; q = v.q; n = v.n; t = v.t; at = ap (λ (l : List Moment). ends n t ∷ l) v.at; new = v.new; taken = rw e (ap suc v.taken); is = rw e (rw v.is) })

  fill_none : known (row n t) seen ≡ false → FillView 0 seen (ends n t ∷ ms) x
  unfolding fill fresh rows_of seen_after unless
  fill_none e = inr (record { p = []; q = ms; n = n; t = t; at = refl; new = e; taken = refl; is = rw e })

pub fill-view : (room : ℕ) (seen : List Row) (ms : List Moment) (x : Stop) → FillView room seen ms x
unfolding fill plainly fresh rows_of seen_after
fill-view room seen [] x = inl (record { few = omega arith; is = refl })
fill-view room seen (plain ∷ ms) x = elim (fill-view room seen ms x) [
  | inl v ↦ inl (record { few = v.few; is = rw v.is })
  | inr v ↦ inr (record { p = plain ∷ v.p; q = v.q; n = v.n; t = v.t; at = ap (λ (l : List Moment). plain ∷ l) v.at; new = v.new; taken = v.taken; is = rw v.is })
]
fill-view zero seen (ends n t ∷ ms) x = elim (bool (known (row n t) seen)) [
  | inl e ↦ fill_known seen n t ms x 0 e (fill-view 0 (row n t ∷ seen) ms x)
  | inr e ↦ fill_none seen n t ms x e
]
fill-view (suc room) seen (ends n t ∷ ms) x = elim (bool (known (row n t) seen)) [
  | inl e ↦ fill_known seen n t ms x (suc room) e (fill-view (suc room) (row n t ∷ seen) ms x)
  | inr e ↦ fill-new seen n t ms x room e (fill-view room (row n t ∷ seen) ms x)
]
