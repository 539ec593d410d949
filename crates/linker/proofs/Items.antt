-- Items: the number that named the part before now names the part after, and nothing else of the node changed, but a reference's number. A reference by
-- name first becomes one by number.
use Rattle.std.specs.Prelude.{Option}
use mathlib.Core.Path.{◌≡◌, refl, sym, ap, ◌∙◌}
use mathlib.Core.Bool.{Bool, false}
use mathlib.Core.List.{List}
use mathlib.Core.Logic.{inl, inr}
use mathlib.Core.Option.{none}
use Prim.Native.Nat.{ℕ, ◌+◌, ◌≤◌}
use native.Mathlib.Omega.{arith}
use lib.ListN.{get_or, length}
use Rattle.syntax.specs.Limits.{slot, group_limit, rule_area_need}
use Rattle.syntax.specs.Reading.{first_some, dangling, unresolved}
use Rattle.syntax.specs.Names.{Names}
use Rattle.syntax.specs.Tree.{Item, byte_in, assert, reference, Rule, item, held, line_break}
use Rattle.syntax.specs.Compiled.{Compiled}
use Rattle.linker.specs.Nodes.{Breaking, ByNumber, ByName, Part}
use Rattle.linker.specs.Linking.{Fits, Stands, noted, Made, Links}
use Rattle.linker.specs.Stores.{Bracketed, Put, Referred, NameLinked}
use Rattle.linker.specs.Laws.{slot-fits}
use Rattle.linker.proofs.Regions.{part-here, same_class}
use Rattle.linker.proofs.Made.{outside_wider, outside-then}
use Rattle.linker.proofs.Trees.{ItemKind, for-reference, for-named, for-item}

-- a part of any kind
pub record Begins (a : List ℕ) (p : ℕ) : Type 0 where
  pub some : 1 ≤ p
  pub fits : p + 3 ≤ length a
  pub small : p + 3 ≤ rule_area_need
  pub longer : get_or a p 0 ≡ 7 → p + 8 ≤ length a

module _ (rule : List ℕ) (known : Names) where
  pub begins : (groups r : ℕ) (a : List ℕ) (p : ℕ) → Stands (Part rule known a) groups r a p → Begins a p
  begins groups r a p s =
      let n = part-here rule known a s.tree s.lo s.top p s.holds in
      record { some = n.some; fits = omega (arith, n.high, s.within); small = omega (arith, n.high, s.small); longer = λ e. let w = n.longer e in omega (arith, s.within) }

  pub reference-fits : (groups r : ℕ) (a : List ℕ) (p : ℕ) → Stands (Part rule known a) groups r a p → get_or a p 0 ≡ 11 → (p + 4 ≤ length a) × (groups ≤ group_limit)
  unfolding Part
  reference-fits groups r a p s e =
      (for-reference rule known a s.lo s.top p (λ t. p + 4 ≤ length a) (λ place folded n h. omega (arith, h.node.high, s.within)) e s.tree s.holds, s.fits.few)

  pub named-fits : (groups r : ℕ) (a : List ℕ) (p : ℕ) → Stands (Part rule known a) groups r a p → get_or a p 0 ≡ 2 → (p + 6 ≤ length a) × (groups ≤ group_limit) × (get_or a (p + 3) 0 + get_or a (p + 5) 0 ≤ length rule)
  named-fits groups r a p s e =
      let k : (p + 6 ≤ length a) × (get_or a (p + 3) 0 + get_or a (p + 5) 0 ≤ length rule) = for-named rule known a s.lo s.top p (λ t. (p + 6 ≤ length a) × (get_or a (p + 3) 0 + get_or a (p + 5) 0 ≤ length rule)) (λ place folded n h. (omega (arith, h.node.high, s.within), rw (h.begins, h.long) h.within)) e s.tree s.holds in
      (k.0, s.fits.few, k.1)

  module _ (groups r : ℕ) (a b : List ℕ) (p next : ℕ) (sofar : Option ℕ) where
    pub reference-links : (found : Option ℕ) → get_or a p 0 ≡ 11 → Referred groups a b p next sofar found → Links (Part rule known a) groups r a b p next sofar p found
    unfolding Links Part unresolved dangling Compiled
    reference-links found e w t lo top h f = for-reference rule known a lo top p (λ t. Made groups r t lo top a b next sofar p found) go e t h
      where
        go : (place : ℕ) (folded : Bool) (n : ℕ) → ByNumber a folded n lo top p place → Made groups r (item place (reference folded n)) lo top a b next sofar p found
        go place folded n k =
            let d : dangling groups (get_or a (p + 2) 0) (reference false (get_or a (p + 3) 0)) ≡ dangling groups place (reference folded n) = rw (k.origin, k.number) in
            record {
              outside = outside_wider p (p + 4) lo top a b k.node.low (omega (arith, k.node.high)) w.rest;
              near = omega (arith, k.node.high);
              stands = λ u.
                  let v = w.known (d ∙ u) in
                  record {
                    node = record { low = k.node.low; high = k.node.high; is = w.kind ∙ k.node.is };
                    goes = w.goes (d ∙ u);
                    origin = w.origin ∙ k.origin;
                    span = w.span (d ∙ u) ∙ ap slot k.number;
                    fits = slot-fits n (omega (arith, v.0, k.number)) (omega (arith, v.1, k.number, f.few));
                    folds = w.rest.above (p + 4) (omega arith) ∙ k.folds;
                  };
              first = w.first ∙ ap (λ o. noted o sofar) d;
            }

  -- a reference by name, which first became one by number
  pub named-links : (groups r : ℕ) (a b : List ℕ) (p next : ℕ) (sofar : Option ℕ) (pc : ℕ) (found : Option ℕ) → get_or a p 0 ≡ 2 → NameLinked rule known groups a b p next sofar pc found → Links (Part rule known a) groups r a b p next sofar pc found
  unfolding Links Part
  named-links groups r a b p next sofar pc found e w t lo top h f = rw w.entered (for-named rule known a lo top p (λ t. Fits groups r t → Made groups r t lo top a b next sofar p found) go e t h f)
    where
      m : List ℕ
      m = w.between

      by_number : (place : ℕ) (folded : Bool) (n : ℕ) → ByName rule known a folded n lo top p place → ByNumber m folded n lo top p place
      by_number place folded n k =
          record {
            node = record { some = k.node.some; low = k.node.low; high = omega (arith, k.node.high); is = w.numbered.is };
            origin = w.numbered.origin ∙ k.origin;
            number = w.numbered.number ∙ rw (k.begins, k.long) (sym k.number);
            folds = w.numbered.rest.above (p + 4) (omega arith) ∙ k.folds;
          }

      go : (place : ℕ) (folded : Bool) (n : ℕ) → ByName rule known a folded n lo top p place → Fits groups r (item place (reference folded n)) → Made groups r (item place (reference folded n)) lo top a b next sofar p found
      go place folded n k f =
          let l = reference-links groups r m b p next sofar found w.numbered.is w.referred (item place (reference folded n)) lo top (inl (by_number place folded n k)) f in
          record {
            outside = outside-then p (p + 4) lo top lo top a m b k.node.low (omega (arith, k.node.high)) (omega arith) (omega arith) w.numbered.rest l.outside;
            near = l.near;
            stands = l.stands;
            first = l.first;
          }

  module _ (groups r : ℕ) (a b : List ℕ) (p next : ℕ) (sofar : Option ℕ) where
    pub item-links : (Bracketed (get_or a p 0) → ⊥) → (get_or a p 0 ≡ 7 → ⊥) → (get_or a p 0 ≡ 10 → ⊥) → (get_or a p 0 ≡ 11 → ⊥) → (get_or a p 0 ≡ 2 → ⊥) → Put a b (p + 1) next → Links (Part rule known a) groups r a b p next sofar p sofar
    unfolding Links Part unresolved dangling Compiled noted line_break first_some
    item-links b' e₇ e₁₀ e₁₁ e₂ w t lo top h f = for-item rule known a lo top p (λ t. Made groups r t lo top a b next sofar p sofar) go break b' e₇ e₁₀ t h
      where
        go : (place : ℕ) (i : Item) → ItemKind i (get_or a p 0) → Part rule known a (item place i) lo top p → Made groups r (item place i) lo top a b next sofar p sofar
        go place (byte_in folded c) l k =
            record {
              outside = outside_wider (p + 1) (p + 1 + 1) lo top a b (omega (arith, k.node.low)) (omega (arith, k.node.high)) w.rest;
              near = omega (arith, k.node.high);
              stands = λ u. record {
                node = record { low = k.node.low; high = k.node.high; is = w.rest.below p (omega arith) ∙ k.node.is };
                goes = w.is;
                origin = w.rest.above (p + 2) (omega arith) ∙ k.origin;
                set = λ x v. same_class a b (p + 3) (p + 11) (p + 3) x (λ i i1 i2. w.rest.above i (omega arith)) (omega arith) (omega arith) v ∙ k.set x v;
              };
              first = refl;
            }
        go place (assert c) l k =
            record {
              outside = outside_wider (p + 1) (p + 1 + 1) lo top a b (omega (arith, k.node.low)) (omega (arith, k.node.high)) w.rest;
              near = omega (arith, k.node.high);
              stands = λ u. record {
                node = record { low = k.node.low; high = k.node.high; is = w.rest.below p (omega arith) ∙ k.node.is };
                goes = w.is;
                origin = w.rest.above (p + 2) (omega arith) ∙ k.origin;
                which = w.rest.above (p + 3) (omega arith) ∙ k.which;
              };
              first = refl;
            }
        go place (reference folded n) (inl l) k = absurd (e₁₁ l)
        go place (reference folded n) (inr l) k = absurd (e₂ l)

        -- `\R` refers to no group
        none_in : (place : ℕ) → unresolved groups (line_break place) ≡ none
        none_in place = refl

        break : (place : ℕ) (s : Rule) → held place s ≡ line_break place → Breaking a place lo top p → Made groups r (held place s) lo top a b next sofar p sofar
        break place s e k =
            record {
              outside = outside_wider (p + 1) (p + 1 + 1) lo top a b (omega (arith, k.node.low)) (omega (arith, k.node.high)) w.rest;
              near = omega (arith, k.node.high);
              stands = λ u. inl (
                e,
                record {
                  node = record { low = k.node.low; high = k.node.high; is = w.rest.below p (omega arith) ∙ k.node.is };
                  goes = w.is;
                  origin = w.rest.above (p + 2) (omega arith) ∙ k.origin;
                },
              );
              first = sym (ap (λ o. noted o sofar) (ap (unresolved groups) e ∙ none_in place));
            }
