-- Groups that do not capture: the node is passed over, and what is made of the inside is made of the part.
use Rattle.std.specs.Prelude.{Option}
use mathlib.Core.Path.{◌≡◌}
use mathlib.Core.List.{List}
use Prim.Native.Nat.{ℕ, ◌+◌, ◌≤◌, ◌<◌}
use native.Mathlib.Omega.{arith}
use lib.ListN.{get_or, length}
use Rattle.syntax.specs.Names.{Names}
use Rattle.syntax.specs.Tree.{Rule}
use Rattle.linker.specs.Nodes.{Plain, Part, Inside}
use Rattle.linker.specs.Linking.{Fits, Stands, Made, Links}
use Rattle.linker.proofs.Regions.{inside-below}
use Rattle.linker.proofs.Made.{made-wider}
use Rattle.linker.proofs.Trees.{for-plain}

module _ (rule : List ℕ) (known : Names) where
  -- what is asked where such a group stands, at the inside's position in the code's words
  pub record PlainAt (groups r : ℕ) (a : List ℕ) (p : ℕ) : Type 0 where
    pub fits : p + 3 ≤ length a
    pub lower : get_or a (p + 2) 0 < p
    pub inside : Stands (Inside rule known a) groups r a (get_or a (p + 2) 0)

  pub plain_at : (groups r : ℕ) (a : List ℕ) (p : ℕ) → Stands (Part rule known a) groups r a p → get_or a p 0 ≡ 10 → PlainAt groups r a p
  plain_at groups r a p s e = for-plain rule known a s.lo s.top p (λ t. Fits groups r t → PlainAt groups r a p) go e s.tree s.holds s.fits
    where
      go : (t : Rule) → Plain a (Inside rule known a t) s.lo s.top p → Fits groups r t → PlainAt groups r a p
      go t h f =
          let l = h.node.high in
          let w = s.within in
          let u = s.small in
          record {
            fits = omega arith;
            lower = rw h.is (inside-below rule known a t s.lo p h.inside p (omega arith) h.node.some h.holds);
            inside = rw h.is (record { tree = t; lo = s.lo; top = p; holds = h.holds; fits = f; within = omega arith; small = omega arith });
          }

  pub plain-links : (groups r : ℕ) (a b : List ℕ) (p next : ℕ) (sofar : Option ℕ) (entry : ℕ) (found : Option ℕ) → get_or a p 0 ≡ 10 → Links (Inside rule known a) groups r a b (get_or a (p + 2) 0) next sofar entry found → Links (Part rule known a) groups r a b p next sofar entry found
  unfolding Links
  plain-links groups r a b p next sofar entry found e m t lo top h f = for-plain rule known a lo top p (λ t. Fits groups r t → Made groups r t lo top a b next sofar entry found) go e t h f
    where
      go : (s : Rule) → Plain a (Inside rule known a s) lo top p → Fits groups r s → Made groups r s lo top a b next sofar entry found
      go s k f = made-wider groups r s lo p lo top a b next sofar entry found (omega arith) (omega (arith, k.node.high)) (m s lo p (rw k.is k.holds) f)
