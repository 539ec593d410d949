-- Repeats: the body is linked in the region below the node, and goes on at the loop; then the node's own numbers are written.
use Rattle.std.specs.Prelude.{Option}
use mathlib.Core.Path.{◌≡◌, sym, ◌∙◌}
use mathlib.Core.Bool.{true, false}
use mathlib.Core.List.{List}
use mathlib.Core.Logic.{inl, inr}
use Prim.Native.Nat.{ℕ, ◌+◌, ◌≤◌, ◌<◌}
use native.Mathlib.Omega.{arith}
use lib.ListN.{get_or, length}
use Rattle.syntax.specs.declared.Greed.{Greed}
use Rattle.syntax.specs.declared.Greed.TheVariants.{Greedy, Lazy}
use Rattle.syntax.specs.declared.Most.{Most}
use Rattle.syntax.specs.Limits.{registers, rule_area_need}
use Rattle.syntax.specs.Reading.{unresolved}
use Rattle.syntax.specs.Names.{Names}
use Rattle.syntax.specs.Tree.{byte_in, assert, reference, Rule, empty, item, seq, alt, group, repeat, held, look}
use Rattle.syntax.specs.Compiled.{greed_word, OneByte, RunOf, Compiled}
use Rattle.linker.specs.Nodes.{before_of, Plain, Part, Chain, Inside}
use Rattle.linker.specs.Linking.{Fits, Stands, Made, Links}
use Rattle.linker.specs.Stores.{ByteWithin, IsOneByte, EntryKind, RepeatClosed}
use Rattle.linker.proofs.Regions.{part-here, inside-below}
use Rattle.linker.proofs.Compiled.{keep}
use Rattle.linker.proofs.Made.{outside-then}
use Rattle.linker.proofs.Trees.{KindOf, part-kind, for-repeat, for-plain}

body-fits : (groups r place least : ℕ) (most : Most) (g : Greed) (s : Rule) → Fits groups r (repeat place least most g s) → Fits groups (r + 2) s
body-fits groups r place least most g s f = record { few = f.few; proper = f.proper.1; room = omega (arith, f.room) }

module _ (rule : List ℕ) (known : Names) where
  -- what a group that does not capture holds stands below it
  plain-lower : (a : List ℕ) (t : Rule) (lo top p : ℕ) → Part rule known a t lo top p → get_or a p 0 ≡ 10 → get_or a (p + 2) 0 < p
  plain-lower a t lo top p h e = for-plain rule known a lo top p (λ _. get_or a (p + 2) 0 < p) (λ s q. rw q.is (inside-below rule known a s lo p q.inside p (omega arith) q.node.some q.holds)) e t h

  -- what is asked where a repeat stands, at the body's position in the code's words
  pub record RepeatAt (groups r : ℕ) (a : List ℕ) (p : ℕ) : Type 0 where
    pub fits : p + 8 ≤ length a
    pub small : p + 8 ≤ rule_area_need
    pub room : r + 2 ≤ registers
    pub lower : get_or a (p + 6) 0 < p
    pub body : Stands (Part rule known a) groups (r + 2) a (get_or a (p + 6) 0)
    pub deeper : get_or a (get_or a (p + 6) 0) 0 ≡ 10 → get_or a (get_or a (p + 6) 0 + 2) 0 < get_or a (p + 6) 0

  pub repeat-at : (groups r : ℕ) (a : List ℕ) (p : ℕ) → Stands (Part rule known a) groups r a p → get_or a p 0 ≡ 7 → RepeatAt groups r a p
  unfolding Part
  repeat-at groups r a p s e = for-repeat rule known a s.lo s.top p (λ t. Fits groups r t → RepeatAt groups r a p) go e s.tree s.holds s.fits
    where
      go : (place least : ℕ) (most : Most) (g : Greed) (t : Rule) → Part rule known a (repeat place least most g t) s.lo s.top p → Fits groups r (repeat place least most g t) → RepeatAt groups r a p
      go place least most g t h f =
          let l = h.node.high in
          let w = s.within in
          let u = s.small in
          record {
            fits = omega arith;
            small = omega arith;
            room = omega (arith, f.room);
            lower = rw h.is (omega (arith, (part-here rule known a t s.lo p h.body h.holds).high));
            deeper = rw h.is (λ e. plain-lower a t s.lo p h.body h.holds e);
            body = rw h.is (record { tree = t; lo = s.lo; top = p; holds = h.holds; fits = body-fits groups r place least most g t f; within = omega arith; small = omega arith });
          }

  -- what is entered as a run is a greedy repeat of one byte item
  byte-item : (a : List ℕ) (s : Rule) (lo top p : ℕ) → Part rule known a s lo top p → get_or a p 0 ≡ 0 → OneByte s
  byte-item a s lo top p h z = go s (part-kind rule known a s lo top p h)
    where
      go : (s : Rule) → KindOf s (get_or a p 0) → OneByte s
      go (item place (byte_in folded c)) k = tt
      go (item place (assert c)) k = absurd (omega (arith, z))
      go (item place (reference folded n)) (inl k) = absurd (omega (arith, z))
      go (item place (reference folded n)) (inr k) = absurd (omega (arith, z))
      go (group n s) k = absurd (omega (arith, z))
      go (repeat place least most g s) k = absurd (omega (arith, z))
      go (held place s) (inl k) = absurd (omega (arith, z))
      go (held place s) (inr k) = absurd (omega (arith, z))
      go (look place false s) k = absurd (omega (arith, z))
      go (look place true s) k = absurd (omega (arith, z))
      go empty k = absurd (omega (arith, z))
      go (seq x y) k = absurd (omega (arith, z))
      go (alt bs bar t) k = absurd (omega (arith, z))

  -- a chain of no parts is empty
  none_before : (a : List ℕ) (x y : Rule) (lo top p : ℕ) → p ≡ 0 → Chain rule known a x lo top p → OneByte y → OneByte (seq x y)
  unfolding Part
  none_before a empty y lo top p e h o = o
  none_before a (seq x z) y lo top p e h o = absurd (omega (arith, (part-here rule known a z h.mid top p h.right).some))
  none_before a (item place i) y lo top p e h o = absurd h
  none_before a (alt bs bar t) y lo top p e h o = absurd h
  none_before a (group n t) y lo top p e h o = absurd h
  none_before a (repeat place least most g t) y lo top p e h o = absurd h
  none_before a (held place t) y lo top p e h o = absurd h
  none_before a (look place negative t) y lo top p e h o = absurd h

  within-plain : (a : List ℕ) (s : Rule) (lo top p : ℕ) → Part rule known a s lo top p → ByteWithin a p → OneByte s
  unfolding Part before_of
  within-plain a s lo top p h w = for-plain rule known a lo top p OneByte go w.plain s h
    where
      byte-is : (q : ℕ) → get_or a (p + 2) 0 ≡ q → get_or a q 0 ≡ 0
      byte-is q e = rw e at w.byte

      go : (s : Rule) → Plain a (Inside rule known a s) lo top p → OneByte s
      go empty h = absurd (omega (arith, w.some, h.is, h.holds.0))
      go (seq x y) h =
          let b : get_or a h.inside 0 ≡ 0 = byte-is h.inside h.is in
          let z : h.holds.before ≡ 0 = sym h.holds.link ∙ rw b (rw h.is at w.alone) in
          none_before a x y lo h.holds.mid h.holds.before z h.holds.left (byte-item a y h.holds.mid p h.inside h.holds.right b)
      go (alt bs bar t) h = absurd (omega (arith, byte-is h.inside h.is, h.holds.node.is))
      go (item place i) h = absurd h.holds
      go (group n t) h = absurd h.holds
      go (repeat place least most g t) h = absurd h.holds
      go (held place t) h = absurd h.holds
      go (look place negative t) h = absurd h.holds

  run_of : (a : List ℕ) (g : Greed) (s : Rule) (lo top p x : ℕ) → x ≡ greed_word g → x ≡ 0 → Part rule known a s lo top p → IsOneByte a p → RunOf g s
  unfolding greed_word
  run_of a Lazy s lo top p x e z h k = absurd (omega arith)
  run_of a Greedy s lo top p x e z h (inl k) = byte-item a s lo top p h k
  run_of a Greedy s lo top p x e z h (inr k) = within-plain a s lo top p h k

  module _ (groups r : ℕ) (a b c : List ℕ) (p kind next : ℕ) (sofar : Option ℕ) (entry : ℕ) (found : Option ℕ) where
    repeat-made : (place least : ℕ) (most : Most) (g : Greed) (s : Rule) (lo top : ℕ) → Part rule known a (repeat place least most g s) lo top p → Fits groups r (repeat place least most g s)
        → EntryKind a p (get_or a (p + 6) 0) kind → Made groups (r + 2) s lo p a b (p + 1) sofar entry found → RepeatClosed b c p kind next r entry → Made groups r (repeat place least most g s) lo top a c next sofar p found
    unfolding Part unresolved Compiled
    repeat-made place least most g s lo top h f x m w =
        let l = h.node.low in
        let u = h.node.high in
        -- four of the node's numbers are as they were
        let kept : (k : ℕ) → 1 ≤ k → k < 5 → get_or c (p + k) 0 ≡ get_or a (p + k) 0 = λ k o v. w.kept k o v ∙ m.outside.above (p + k) (omega arith) in
        record {
          outside = outside-then lo p p (p + 8) lo top a b c (omega arith) (omega arith) (omega arith) u m.outside w.rest;
          near = omega arith;
          stands = λ e. record {
            room = omega (arith, f.room);
            bounds = f.proper.0;
            kind = kind;
            entered = elim x [ inl e ↦ inl e | inr e ↦ inr (e.0, run_of a g s lo p h.body (get_or a (p + 4) 0) h.greed e.1 h.holds (rw h.is at e.2)) ];
            node = record { low = l; high = u; is = w.is };
            loop = kept 1 (omega arith) (omega arith) ∙ h.loop;
            least = kept 2 (omega arith) (omega arith) ∙ h.least;
            most = kept 3 (omega arith) (omega arith) ∙ h.most;
            greed = kept 4 (omega arith) (omega arith) ∙ h.greed;
            register = w.register;
            body = entry;
            enters = w.enters;
            goes = w.goes;
            inner = keep b c lo p lo top (omega arith) (omega arith) (λ i _ v. w.rest.below i (omega arith)) s entry (p + 1) (r + 2) (m.stands e);
          };
          first = m.first;
        }

    pub repeat-links : get_or a p 0 ≡ 7 → EntryKind a p (get_or a (p + 6) 0) kind → Links (Part rule known a) groups (r + 2) a b (get_or a (p + 6) 0) (p + 1) sofar entry found → RepeatClosed b c p kind next r entry → Links (Part rule known a) groups r a c p next sofar p found
    unfolding Links Part
    repeat-links e x m w t lo top h f = for-repeat rule known a lo top p (λ t. Fits groups r t → Made groups r t lo top a c next sofar p found) go e t h f
      where
        go : (place least : ℕ) (most : Most) (g : Greed) (s : Rule) → Part rule known a (repeat place least most g s) lo top p → Fits groups r (repeat place least most g s) → Made groups r (repeat place least most g s) lo top a c next sofar p found
        go place least most g s k f = repeat-made place least most g s lo top k f x (m s lo p (rw k.is k.holds) (body-fits groups r place least most g s f)) w
