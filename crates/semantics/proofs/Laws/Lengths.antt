-- No derivation takes fewer bytes than the rule's least length: one induction over the rule, and within a repeat one over its rounds.
-- docs/REFERENCE.md, 11.2
use Rattle.std.specs.Prelude.{◌≡◌, refl, List, Bool, true, false, ℕ, zero, suc, ◌+◌, ◌-◌, ◌*◌, ◌≤◌, ltb}
use Rattle.std.proofs.Common.{ap, inl, inr, suc-mul, arith, ltb-false}
use Rattle.syntax.specs.declared.Greed.{Greed}
use Rattle.syntax.specs.declared.Most.{Most}
use Rattle.syntax.specs.Tree.{Item, byte_in, assert, reference, Rule, empty, item, seq, alt, group, repeat, held, look, Branches, one, also}
use Rattle.syntax.specs.Lengths.{capped, item_length, least_length, shortest}
use Rattle.semantics.specs.States.{State, chose, moved, closed}
use Rattle.semantics.specs.Items.{goes, refer, try}
use Rattle.semantics.specs.Repeats.{Next, round, leave, either, is_full, allowed, decision}
use Rattle.semantics.specs.Derivations.{Again, On, Rounds, stop, turn, Derives, Picks}
use Rattle.semantics.proofs.Laws.Right.{when-goes}

-- Items --------------------------------------------------------------------

moved_at : (n : ℕ) (s t : State) → goes (moved n s) ≡ goes t → t.at ≡ n
unfolding moved
moved_at n s t e = let z : t ≡ moved n s = cc in ap (λ (u : State). u.at) z

item-takes : (sub : List ℕ) (i : Item) (s t : State) → try sub i s ≡ goes t → s.at + item_length i ≤ t.at
unfolding try refer item_length
item-takes sub (byte_in folded c) s t e = omega (arith, moved_at (suc s.at) s t (when-goes _ _ t (when-goes _ _ t e).1).1)
item-takes sub (assert a) s t e = let z : t ≡ s = cc (when-goes _ _ t e).1 in omega (arith, ap (λ (u : State). u.at) z)
item-takes sub (reference folded n) s t e = omega (arith, moved_at _ s t (when-goes _ _ t (when-goes _ _ t (when-goes _ _ t e).1).1).1)

-- Rounds --------------------------------------------------------------------

-- a decision takes no bytes, and goes on only where no round is owed
pub again-still : (d : Next) (s t : State) → Again d s t → t.at ≡ s.at
unfolding chose
again-still round s t e = ap (λ (u : State). u.at) e
again-still leave s t e = absurd e
again-still (either g) s t e = ap (λ (u : State). u.at) e

on-still : (owed full idle : Bool) (g : Greed) (s t : State) → On (allowed owed full idle g) s t → (owed ≡ false) × (t.at ≡ s.at)
unfolding allowed chose
on-still true full idle g s t e = absurd e
on-still false true idle g s t e = (refl, ap (λ (u : State). u.at) e)
on-still false false true g s t e = (refl, ap (λ (u : State). u.at) e)
on-still false false false g s t e = (refl, ap (λ (u : State). u.at) e)

pub left-still : (least : ℕ) (most : Most) (g : Greed) (n : ℕ) (idle : Bool) (s t : State) → On (decision least most g n idle) s t → (least ≤ n) × (t.at ≡ s.at)
unfolding decision
left-still least most g n idle s t e = let x = on-still (ltb n least) (is_full most n) idle g s t e in (ltb-false n least x.0, x.1)

-- so many times a length, and one time fewer
one_fewer : (k length : ℕ) → k * length ≤ length + (k - 1) * length
one_fewer zero length = omega arith
one_fewer (suc k) length = let z : suc k - 1 ≡ k = omega arith in rw z (omega (arith, suc-mul k length))

add-up : (s t u v length all rest : ℕ) → t ≡ s → t + length ≤ u → u + rest ≤ v → all ≤ length + rest → s + all ≤ v
add-up s t u v length all rest e f g h = omega arith

-- the rounds that are still owed
rounds-take : {B : State → State → Type 0} (length least : ℕ) (most : Most) (g : Greed) {n : ℕ} {idle : Bool} {s t : State} → ((u v : State) → B u v → u.at + length ≤ v.at) → Rounds B least most g n idle s t → s.at + (least - n) * length ≤ t.at
rounds-take length least most g f (stop {n = n} {idle = idle} {s = s} {t = t} o) =
    let x = left-still least most g n idle s t o in
    let z : least - n ≡ 0 = omega (arith, x.0) in
    rw z (omega (arith, x.1))
rounds-take length least most g f (turn {n = n} {idle = idle} {s = s} {t = t} {u = u} {v = v} a b r) =
    let z : least - suc n ≡ least - n - 1 = omega arith in
    add-up s.at t.at u.at v.at length ((least - n) * length) ((least - n - 1) * length) (again-still (decision least most g n idle) s t a) (f t u b) (rw z at (rounds-take length least most g f r)) (one_fewer (least - n) length)

-- Rules ---------------------------------------------------------------------

capped-less : (n : ℕ) → capped n ≤ n
unfolding capped
capped-less n = omega arith

module _ (sub : List ℕ) where
  mutual
    unfolding least_length shortest chose moved closed

    -- 02, request k): "Show that no derivation takes fewer bytes than the least length."
    pub takes-least : (r : Rule) (s t : State) → Derives sub r s t → s.at + least_length r ≤ t.at
    takes-least empty s t d = omega (arith, ap (λ (u : State). u.at) d)
    takes-least (item place i) s t d = item-takes sub i s t d
    takes-least (seq a b) s t d =
        let x = takes-least a s d.0 d.1 in
        let y = takes-least b d.0 t d.2 in
        omega (arith, capped-less (least_length a + least_length b))
    takes-least (alt bs bar b) s t (inl d) = let x = takes-shortest bs s t d in omega arith
    takes-least (alt bs bar b) s t (inr d) = let x = takes-least b _ t d in omega arith
    takes-least (group n a) s t d = let x = takes-least a s d.0 d.1 in omega (arith, ap (λ (u : State). u.at) d.2)
    takes-least (repeat place least most g a) s t d =
        let z : least - 0 ≡ least = omega arith in
        let x = rw z at (rounds-take (least_length a) least most g (λ u v. takes-least a u v) d) in
        omega (arith, x, capped-less (least * least_length a))
    takes-least (held place a) s t d = takes-least a s t d.0
    takes-least (look place false a) s t d = omega (arith, ap (λ (u : State). u.at) d.2)
    takes-least (look place true a) s t d = omega (arith, ap (λ (u : State). u.at) d.1)

    takes-shortest : (bs : Branches) (s t : State) → Picks sub bs s t → s.at + shortest bs ≤ t.at
    takes-shortest (one a) s t d = takes-least a _ t d
    takes-shortest (also bs bar b) s t (inl d) = let x = takes-shortest bs s t d in omega arith
    takes-shortest (also bs bar b) s t (inr d) = let x = takes-least b _ t d in omega arith
