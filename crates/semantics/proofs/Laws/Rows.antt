-- 01's facts on rows. Each state of a derivation keeps them of its spans: an item or a choice changes no span, and a group that closes
-- sets its own to where it began and where the derivation stands.
use Rattle.std.specs.Prelude.{◌≡◌, List, ◌⊎◌, Bool, true, false, ℕ, suc, ◌+◌, ◌≤◌, ◌<◌, get_or, set, replicate}
use Rattle.std.proofs.Math.Path.{refl, ap}
use Rattle.std.proofs.Common.{◌∙◌, get_or-set_same}
use Rattle.std.proofs.Math.Logic.{inl, inr}
use native.Mathlib.Omega.{arith}
use Rattle.std.proofs.Math.ListN.{length, length-set, length-replicate}
use Rattle.std.proofs.lemmas.List.{get_or-replicate}
use Rattle.std.proofs.Math.Seq.{get_or-set_other}
use Rattle.syntax.specs.declared.Greed.{Greed}
use Rattle.syntax.specs.declared.Most.{Most}
use Rattle.syntax.specs.Limits.{group_limit, unset, spans_length, row_length, slot}
use Rattle.syntax.specs.Tree.{Item, byte_in, assert, reference, Rule, empty, item, seq, alt, group, repeat, held, look, Branches, one, also}
use Rattle.syntax.specs.WellFormed.{Proper, Propers}
use Rattle.semantics.specs.States.{Choice, again, go_on, State, starting, chose, moved, closed, row}
use Rattle.semantics.specs.Items.{goes, refer, try}
use Rattle.semantics.specs.Repeats.{Next, round, leave, either, decision}
use Rattle.semantics.specs.Derivations.{Again, On, Rounds, stop, turn, Derives, Picks, Derivation}
use Rattle.semantics.specs.Demands.{IsUnset, RowFacts}
use Rattle.semantics.proofs.Laws.Cases.{same_or}
use Rattle.semantics.proofs.Laws.Right.{when-goes, try-reach}
use Rattle.semantics.proofs.Laws.Walk.{right}

-- Spans ------------------------------------------------------------------------

-- unset, or a part of what lies between start and the line's end
abbrev Span : ℕ → ℕ → ℕ → ℕ → Type 0
Span start last from to = IsUnset from to ⊎ ((start ≤ from) × (from ≤ to) × (to ≤ last))

-- the two numbers of group g
abbrev opens : List ℕ → ℕ → ℕ
opens spans g = get_or spans (slot g) 0

abbrev closes : List ℕ → ℕ → ℕ
closes spans g = get_or spans (slot g + 1) 0

slot-fits : (g : ℕ) → 1 ≤ g → g ≤ group_limit → slot g + 1 < spans_length
unfolding slot spans_length group_limit
slot-fits g l h = omega arith

-- setting the span of one group leaves that of another
module _ (spans : List ℕ) (g other from to : ℕ) (positive : 1 ≤ g) (other-positive : 1 ≤ other) (apart : ¬ (g ≡ other)) where
  opens-other : opens (set (set spans (slot other) from) (slot other + 1) to) g ≡ opens spans g
  unfolding slot
  opens-other = get_or-set_other (set spans (slot other) from) (slot other + 1) (slot g) to 0 (λ e. omega arith) ∙ get_or-set_other spans (slot other) (slot g) from 0 (λ e. apart (omega arith))

  closes-other : closes (set (set spans (slot other) from) (slot other + 1) to) g ≡ closes spans g
  unfolding slot
  closes-other = get_or-set_other (set spans (slot other) from) (slot other + 1) (slot g + 1) to 0 (λ e. apart (omega arith)) ∙ get_or-set_other spans (slot other) (slot g + 1) from 0 (λ e. omega arith)

-- and sets its own
module _ (spans : List ℕ) (g from to : ℕ) (fits : slot g + 1 < length spans) where
  opens-own : opens (set (set spans (slot g) from) (slot g + 1) to) g ≡ from
  opens-own = get_or-set_other (set spans (slot g) from) (slot g + 1) (slot g) to 0 (λ e. omega arith) ∙ get_or-set_same spans (slot g) from 0 (omega arith)

  closes-own : closes (set (set spans (slot g) from) (slot g + 1) to) g ≡ to
  closes-own = get_or-set_same (set spans (slot g) from) (slot g + 1) to 0 (rw (length-set spans (slot g) from) fits)

-- What each state keeps -------------------------------------------------------

-- of a rule with so many groups
module _ (sub : List ℕ) (start groups : ℕ) (few : groups ≤ group_limit) where
  record Kept (s : State) : Type 0 where
    from : start ≤ s.at
    inside : s.at ≤ length sub
    size : length s.spans ≡ spans_length
    spans : (g : ℕ) → 1 ≤ g → g ≤ group_limit → Span start (length sub) (opens s.spans g) (closes s.spans g)
    missing : (g : ℕ) → groups < g → g ≤ group_limit → IsUnset (opens s.spans g) (closes s.spans g)

  -- the same spans, further on
  kept_on : (s t : State) → t.spans ≡ s.spans → s.at ≤ t.at → t.at ≤ length sub → Kept s → Kept t
  kept_on s t e up l h = record {
    from = omega (arith, h.from);
    inside = l;
    size = rw e h.size;
    spans = λ g a b. rw e (h.spans g a b);
    missing = λ g a b. rw e (h.missing g a b);
  }

  kept-chose : (c : Choice) (s : State) → Kept s → Kept (chose c s)
  unfolding chose
  kept-chose c s h = kept_on s (chose c s) refl (omega arith) h.inside h

  moved-spans : (n : ℕ) (s t : State) → goes (moved n s) ≡ goes t → t.spans ≡ s.spans
  unfolding moved
  moved-spans n s t e = let z : t ≡ moved n s = cc in ap (λ (u : State). u.spans) z

  try-spans : (i : Item) (s t : State) → try sub i s ≡ goes t → t.spans ≡ s.spans
  unfolding try refer
  try-spans (byte_in folded c) s t e = moved-spans (suc s.at) s t (when-goes _ _ t (when-goes _ _ t e).1).1
  try-spans (assert a) s t e = let z : t ≡ s = cc (when-goes _ _ t e).1 in ap (λ (u : State). u.spans) z
  try-spans (reference folded n) s t e = moved-spans _ s t (when-goes _ _ t (when-goes _ _ t (when-goes _ _ t e).1).1).1

  kept-tried : (i : Item) (s t : State) → try sub i s ≡ goes t → Kept s → Kept t
  kept-tried i s t e h = let x = try-reach sub i s t h.inside e in kept_on s t (try-spans i s t e) x.up x.inside h

  -- a group that opened at s and closes at t
  kept-closed : (n : ℕ) (s t : State) → 1 ≤ n → n ≤ groups → s.at ≤ t.at → Kept s → Kept t → Kept (closed n s.at t)
  unfolding closed
  kept-closed n s t l m up a b =
      let fits : slot n + 1 < length t.spans = omega (arith, slot-fits n l (omega arith), b.size) in
      record {
        from = b.from;
        inside = b.inside;
        size = simp length-set b.size;
        spans = λ g p q. elim (same_or g n) [
          | inl e ↦ rw e (rw (opens-own t.spans n s.at t.at fits, closes-own t.spans n s.at t.at fits) (inr (a.from, up, b.inside)))
          | inr v ↦ rw (opens-other t.spans g n s.at t.at p l v, closes-other t.spans g n s.at t.at p l v) (b.spans g p q)
        ];
        missing = λ g p q. (let v : ¬ (g ≡ n) = λ e. omega arith in rw (opens-other t.spans g n s.at t.at (omega arith) l v, closes-other t.spans g n s.at t.at (omega arith) l v) (b.missing g p q));
      }

  -- looking ahead from s to t: back at s, with the captures of t
  kept_back : (s t : State) → Kept s → Kept t → Kept (moved s.at t)
  unfolding moved
  kept_back s t a b = record { from = a.from; inside = a.inside; size = b.size; spans = b.spans; missing = b.missing }

  kept_again : (d : Next) (s t : State) → Again d s t → Kept s → Kept t
  kept_again round s t e h = rw e h
  kept_again leave s t e h = absurd e
  kept_again (either g) s t e h = rw e (kept-chose (again g) s h)

  kept-left : (d : Next) (s t : State) → On d s t → Kept s → Kept t
  kept-left round s t e h = absurd e
  kept-left leave s t e h = rw e h
  kept-left (either g) s t e h = rw e (kept-chose (go_on g) s h)

  kept-rounds : {B : State → State → Type 0} (least : ℕ) (most : Most) (greed : Greed) {n : ℕ} {idle : Bool} {s t : State} → ((u v : State) → B u v → Kept u → Kept v) → Rounds B least most greed n idle s t → Kept s → Kept t
  kept-rounds least most greed f (stop {n = n} {idle = idle} {s = s} {t = t} o) h = kept-left (decision least most greed n idle) s t o h
  kept-rounds least most greed f (turn {n = n} {idle = idle} {s = s} {t = t} {u = u} a b r) h = kept-rounds least most greed f r (f t u b (kept_again (decision least most greed n idle) s t a h))

  mutual
    kept : (r : Rule) → Proper groups r → (s t : State) → Derives sub r s t → Kept s → Kept t
    kept empty p s t d h = rw d h
    kept (item place i) p s t d h = kept-tried i s t d h
    kept (seq a b) p s t d h = kept b p.1 d.0 t d.2 (kept a p.0 s d.0 d.1 h)
    kept (alt bs bar b) p s t (inl d) h = kept-picked bs p.0 s t d h
    kept (alt bs bar b) p s t (inr d) h = kept b p.1 _ t d (kept-chose _ s h)
    kept (group n a) p s t d h =
        let m = d.0 in
        let up = ((right sub a s h.inside).reach m d.1).up in
        rw d.2 (kept-closed n s m p.0 p.1 up h (kept a p.2 s m d.1 h))
    kept (repeat place least most g a) p s t d h = kept-rounds least most g (λ u v. kept a p.1 u v) d h
    kept (held place a) p s t d h = kept a p s t d.0 h
    kept (look place false a) p s t d h = rw d.2 (kept_back s d.0 h (kept a p s d.0 d.1.0 h))
    kept (look place true a) p s t d h = rw d.1 h

    kept-picked : (bs : Branches) → Propers groups bs → (s t : State) → Picks sub bs s t → Kept s → Kept t
    kept-picked (one a) p s t d h = kept a p _ t d (kept-chose _ s h)
    kept-picked (also bs bar b) p s t (inl d) h = kept-picked bs p.0 s t d h
    kept-picked (also bs bar b) p s t (inr d) h = kept b p.1 _ t d (kept-chose _ s h)

  -- no span is set at the start
  all-unset : (g : ℕ) → 1 ≤ g → g ≤ group_limit → IsUnset (opens (replicate spans_length unset) g) (closes (replicate spans_length unset) g)
  all-unset g l h = let f = slot-fits g l h in (get_or-replicate spans_length (slot g) unset 0 (omega arith), get_or-replicate spans_length (slot g + 1) unset 0 f)

  kept-starting : start ≤ length sub → Kept (starting start)
  unfolding starting
  kept-starting l = record { from = omega arith; inside = l; size = length-replicate spans_length unset; spans = λ g a b. inl (all-unset g a b); missing = λ g a b. all-unset g (omega arith) b }

  pub row-facts : (r : Rule) → Proper groups r → start ≤ length sub → (t : State) → Derivation sub r start t → RowFacts sub groups (row start t)
  unfolding row row_length
  row-facts r p l t d =
      let h = kept r p (starting start) t d (kept-starting l) in
      record { size = rw h.size; forward = h.from; inside = h.inside; spans = h.spans; missing = h.missing }
