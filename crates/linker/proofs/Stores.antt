-- The numbers that the small functions write, and those that they leave.
use Rattle.std.specs.Prelude.{Option, Some}
use mathlib.Core.Path.{◌≡◌, refl, sym, subst, ◌∙◌}
use mathlib.Core.Bool.{false}
use mathlib.Core.List.{List}
use mathlib.Core.Option.{none, some}
use Prim.Native.Nat.{ℕ, ◌+◌, ◌-◌, ◌*◌, ◌≤◌, ◌<◌}
use native.Mathlib.Omega.{arith}
use borrow.Author.Tests.{eq-eqb, ne_eqb, le-leb, lt-leb}
use lib.ListN.{get_or}
use Rattle.syntax.specs.Limits.{slot}
use Rattle.syntax.specs.Reading.{dangling}
use Rattle.syntax.specs.Tree.{reference}
use Rattle.linker.specs.Nodes.{before_of}
use Rattle.linker.specs.Linking.{noted}
use Rattle.linker.specs.Stores.{Put, Referred}
use Rattle.linker.proofs.Made.{outside-none, outside-then}

-- a number at a position that is written otherwise
pub moved : (a : List ℕ) (i j : ℕ) {x : ℕ} → i ≡ j → get_or a i 0 ≡ x → get_or a j 0 ≡ x
moved a i j {x} e h = subst (λ (k : ℕ). get_or a k 0 ≡ x) e h

-- the part before another, by the node's kind
pub before-repeat : (a : List ℕ) (p : ℕ) → get_or a p 0 ≡ 7 → get_or a (p + 7) 0 ≡ before_of a p
unfolding before_of
before-repeat a p e = rw (eq-eqb (get_or a p 0) 7 e)

pub before-other : (a : List ℕ) (p : ℕ) → (get_or a p 0 ≡ 7 → ⊥) → get_or a (p + 1) 0 ≡ before_of a p
unfolding before_of
before-other a p e = rw (ne_eqb (get_or a p 0) 7 e)

-- References ------------------------------------------------------------------------

zero-dangles : (groups place n : ℕ) → n ≡ 0 → dangling groups place (reference false n) ≡ some place
unfolding dangling
zero-dangles groups place n e = rw (eq-eqb n 0 e)

beyond-dangles : (groups place n : ℕ) → (n ≡ 0 → ⊥) → groups < n → dangling groups place (reference false n) ≡ some place
unfolding dangling
beyond-dangles groups place n e h = rw (ne_eqb n 0 e, lt-leb n groups h)

group-answers : (groups place n : ℕ) → (n ≡ 0 → ⊥) → n ≤ groups → dangling groups place (reference false n) ≡ none
unfolding dangling
group-answers groups place n e h = rw (ne_eqb n 0 e, le-leb n groups h)

dangles : (groups : ℕ) (a : List ℕ) (p next : ℕ) (sofar : Option ℕ) → dangling groups (get_or a (p + 2) 0) (reference false (get_or a (p + 3) 0)) ≡ some (get_or a (p + 2) 0) → Referred groups a a p next sofar (Some (get_or a (p + 2) 0))
unfolding noted
dangles groups a p next sofar e =
    let never : dangling groups (get_or a (p + 2) 0) (reference false (get_or a (p + 3) 0)) ≡ none → ⊥ = λ n. let z : ◌≡◌ {A = ℕ} 0 1 = cc in omega arith in
    record {
      kind = refl;
      origin = refl;
      rest = outside-none p (p + 4) a;
      known = λ n. absurd (never n);
      goes = λ n. absurd (never n);
      span = λ n. absurd (never n);
      first = rw e;
    }

module _ (groups : ℕ) (a : List ℕ) (p next : ℕ) (sofar : Option ℕ) where
  pub none-zero : (place n : ℕ) → place ≡ get_or a (p + 2) 0 → n ≡ get_or a (p + 3) 0 → n ≡ 0 → Referred groups a a p next sofar (Some place)
  none-zero place n e f z = rw e (dangles groups a p next sofar (zero-dangles groups (get_or a (p + 2) 0) (get_or a (p + 3) 0) (sym f ∙ z)))

  pub none-beyond : (place n : ℕ) → place ≡ get_or a (p + 2) 0 → n ≡ get_or a (p + 3) 0 → (n ≡ 0 → ⊥) → groups < n → Referred groups a a p next sofar (Some place)
  none-beyond place n e f z h = rw e (dangles groups a p next sofar (beyond-dangles groups (get_or a (p + 2) 0) (get_or a (p + 3) 0) (λ w. z (f ∙ w)) (omega arith)))

  pub referred : (b c : List ℕ) (n : ℕ) → n ≡ get_or a (p + 3) 0 → (n ≡ 0 → ⊥) → n ≤ groups → Put a b (p + 1) next → Put b c (p + 3) (2 * (n - 1)) → Referred groups a c p next sofar sofar
  unfolding slot noted
  referred b c n e z h u v =
      record {
        kind = v.rest.below p (omega arith) ∙ u.rest.below p (omega arith);
        origin = v.rest.below (p + 2) (omega arith) ∙ u.rest.above (p + 2) (omega arith);
        rest = outside-then (p + 1) (p + 1 + 1) (p + 3) (p + 3 + 1) p (p + 4) a b c (omega arith) (omega arith) (omega arith) (omega arith) u.rest v.rest;
        known = λ w. (omega (arith, e, z), omega (arith, e, h));
        goes = λ w. v.rest.below (p + 1) (omega arith) ∙ u.is;
        span = λ w. v.is ∙ rw e;
        first = rw (group-answers groups (get_or a (p + 2) 0) (get_or a (p + 3) 0) (λ w. z (e ∙ w)) (omega arith));
      }
