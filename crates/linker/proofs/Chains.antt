-- A sequence's loop: at every turn some parts are left, and whatever is made of them makes the whole sequence.
use Rattle.std.specs.Prelude.{Option}
use mathlib.Core.Path.{◌≡◌, refl, ◌∙◌}
use mathlib.Core.List.{List}
use Prim.Native.Nat.{ℕ, ◌≤◌, ◌<◌, max}
use native.Mathlib.Omega.{arith}
use lib.ListN.{length}
use Rattle.syntax.specs.Limits.{rule_area_need}
use Rattle.syntax.specs.Names.{Names}
use Rattle.syntax.specs.Tree.{Rule, empty, item, seq, alt, group, repeat, held, look}
use Rattle.linker.specs.Nodes.{before_of, Sequence, Part, Chain}
use Rattle.linker.specs.Linking.{Fits, Stands, Made, Links}
use Rattle.linker.proofs.Regions.{part-here, chain-order, chain-below, chain_same}
use Rattle.linker.proofs.Made.{made-empty, made-seq}

fits-left : (groups r : ℕ) (x y : Rule) → Fits groups r (seq x y) → Fits groups r x
fits-left groups r x y f = record { few = f.few; proper = f.proper.0; room = omega (arith, f.room) }

fits-right : (groups r : ℕ) (x y : Rule) → Fits groups r (seq x y) → Fits groups r y
fits-right groups r x y f = record { few = f.few; proper = f.proper.1; room = omega (arith, f.room) }

module _ (rule : List ℕ) (known : Names) where
  -- the parts that are left of the tree t, from p on
  record Left (groups r : ℕ) (old a : List ℕ) (t : Rule) (lo top next : ℕ) (sofar : Option ℕ) (p pc : ℕ) (found : Option ℕ) : Type 0 where
    rest : Rule
    mid : ℕ
    ends : mid ≤ top
    stands : Chain rule known a rest lo mid p
    fits : Fits groups r rest
    near : pc ≤ max next top
    long : length a ≡ length old
    whole : (new : List ℕ) (at : ℕ) (last : Option ℕ) → Made groups r rest lo mid a new pc found at last → Made groups r t lo top old new next sofar at last

  -- of whatever tree the loop began with
  pub Going : (groups r : ℕ) (old a : List ℕ) (first next : ℕ) (sofar : Option ℕ) (p pc : ℕ) (found : Option ℕ) → Type 0
  Going groups r old a first next sofar p pc found = (t : Rule) (lo top : ℕ) → Chain rule known old t lo top first → Fits groups r t → Left groups r old a t lo top next sofar p pc found

  -- parts are left exactly where the position is not 0
  pub for_some : (a : List ℕ) (lo top p : ℕ) (Q : Rule → Type 0) → ((x y : Rule) → Sequence a (Chain rule known a x) (Part rule known a y) lo top p → Q (seq x y)) → 1 ≤ p → (t : Rule) → Chain rule known a t lo top p → Q t
  unfolding Chain
  for_some a lo top p Q f l empty h = absurd (omega (arith, h.0))
  for_some a lo top p Q f l (seq x y) h = f x y h
  for_some a lo top p Q f l (item place i) h = absurd h
  for_some a lo top p Q f l (alt bs bar t) h = absurd h
  for_some a lo top p Q f l (group n t) h = absurd h
  for_some a lo top p Q f l (repeat place least most g t) h = absurd h
  for_some a lo top p Q f l (held place t) h = absurd h
  for_some a lo top p Q f l (look place negative t) h = absurd h

  pub for-none : (a : List ℕ) (lo top p : ℕ) (Q : Rule → Type 0) → Q empty → p ≡ 0 → (t : Rule) → Chain rule known a t lo top p → Q t
  unfolding Chain
  for-none a lo top p Q q e empty h = q
  for-none a lo top p Q q e (seq x y) h = absurd (omega (arith, (part-here rule known a y h.mid top p h.right).some))
  for-none a lo top p Q q e (item place i) h = absurd h
  for-none a lo top p Q q e (alt bs bar t) h = absurd h
  for-none a lo top p Q q e (group n t) h = absurd h
  for-none a lo top p Q q e (repeat place least most g t) h = absurd h
  for-none a lo top p Q q e (held place t) h = absurd h
  for-none a lo top p Q q e (look place negative t) h = absurd h

  pub going_start : (groups r : ℕ) (a : List ℕ) (first next : ℕ) (sofar : Option ℕ) → Going groups r a a first next sofar first next sofar
  unfolding Going
  going_start groups r a first next sofar t lo top h f =
      record { rest = t; mid = top; ends = omega arith; stands = h; fits = f; near = omega arith; long = refl; whole = λ new at last m. m }

  module _ (groups r : ℕ) (old a : List ℕ) (first next : ℕ) (sofar : Option ℕ) (p pc : ℕ) (found : Option ℕ) where
    -- no part is left
    left_end : p ≡ 0 → (t : Rule) (lo top : ℕ) → Left groups r old a t lo top next sofar p pc found → Made groups r t lo top old a next sofar pc found
    left_end e t lo top l = l.whole a pc found (for-none a lo l.mid p (λ x. Made groups r x lo l.mid a a pc found pc found) (made-empty groups r lo l.mid a pc found) e l.rest l.stands)

    pub going_end : p ≡ 0 → Going groups r old a first next sofar p pc found → Links (Chain rule known old) groups r old a first next sofar pc found
    unfolding Going Links
    going_end e g t lo top h f = left_end e t lo top (g t lo top h f)

    -- what is asked of the next part
    pub record Turn : Type 0 where
      pub part : Stands (Part rule known a) groups r a p
      pub near : pc ≤ rule_area_need
      pub lower : before_of a p < p

    pub going-turn : 1 ≤ p → next ≤ rule_area_need → Stands (Chain rule known old) groups r old first → Going groups r old a first next sofar p pc found → Turn
    unfolding Going
    going-turn some n s g = for_some a s.lo l.mid p (λ x. Fits groups r x → Turn) go some l.rest l.stands l.fits
      where
        l : Left groups r old a s.tree s.lo s.top next sofar p pc found
        l = g s.tree s.lo s.top s.holds s.fits

        go : (x y : Rule) → Sequence a (Chain rule known a x) (Part rule known a y) s.lo l.mid p → Fits groups r (seq x y) → Turn
        go x y h f =
            let k = part-here rule known a y h.mid l.mid p h.right in
            record {
              part = record {
                tree = y;
                lo = h.mid;
                top = l.mid;
                holds = h.right;
                fits = fits-right groups r x y f;
                within = omega (arith, l.ends, l.long, s.within);
                small = omega (arith, l.ends, s.small);
              };
              near = omega (arith, l.near, s.small);
              lower = rw h.link (chain-below rule known a x s.lo h.mid h.before p k.low k.some h.left);
            }

    -- the part at p is linked
    module _ (b : List ℕ) (before at : ℕ) (last : Option ℕ) (some : 1 ≤ p) (is : before ≡ before_of a p) (m : Links (Part rule known a) groups r a b p pc found at last) where
      left_step : (t : Rule) (lo top : ℕ) → Left groups r old a t lo top next sofar p pc found → Left groups r old b t lo top next sofar before at last
      unfolding Links
      left_step t lo top l = for_some a lo l.mid p (λ x. Fits groups r x → Completes x → Left groups r old b t lo top next sofar before at last) go some l.rest l.stands l.fits l.whole
        where
          -- whatever is made of x makes t
          Completes : Rule → Type 0
          Completes x = (new : List ℕ) (q : ℕ) (z : Option ℕ) → Made groups r x lo l.mid a new pc found q z → Made groups r t lo top old new next sofar q z

          go : (x y : Rule) → Sequence a (Chain rule known a x) (Part rule known a y) lo l.mid p → Fits groups r (seq x y) → Completes (seq x y) → Left groups r old b t lo top next sofar before at last
          go x y h f k =
              let n = part-here rule known a y h.mid l.mid p h.right in
              let o = chain-order rule known a x lo h.mid h.before h.left in
              let my = m y h.mid l.mid h.right (fits-right groups r x y f) in
              let u : h.mid ≤ l.mid = omega (arith, n.low, n.high) in
              record {
                rest = x;
                mid = h.mid;
                ends = omega (arith, l.ends);
                stands = rw (is ∙ h.link) (chain_same rule known a b x lo h.mid h.before (λ i _ v. my.outside.below i v) h.left);
                fits = fits-left groups r x y f;
                near = omega (arith, my.near, l.near, l.ends);
                long = my.outside.long ∙ l.long;
                whole = λ new q z mx. k new q z (made-seq groups r x y lo h.mid l.mid a b new pc found at last q z o u my mx);
              }

      pub going_step : Going groups r old a first next sofar p pc found → Going groups r old b first next sofar before at last
      unfolding Going
      going_step g t lo top h f = left_step t lo top (g t lo top h f)
