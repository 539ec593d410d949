-- Groups that capture, held parts and looking ahead: the inside is linked in the region below the node, and goes on at the inner end; then the node's own
-- numbers are written.
use Rattle.std.specs.Prelude.{Option}
use mathlib.Core.Path.{◌≡◌, refl, sym, subst, ◌∙◌}
use mathlib.Core.Bool.{true, false}
use mathlib.Core.List.{List}
use mathlib.Core.Logic.{inr}
use mathlib.Core.Option.{none}
use Prim.Native.Nat.{ℕ, suc, ◌+◌, ◌≤◌, ◌<◌}
use native.Mathlib.Omega.{arith}
use lib.ListN.{get_or, length}
use Rattle.syntax.specs.Limits.{registers, rule_area_need}
use Rattle.syntax.specs.Reading.{unresolved}
use Rattle.syntax.specs.Names.{Names}
use Rattle.syntax.specs.Tree.{Rule, group, held, look}
use Rattle.syntax.specs.WellFormed.{Proper, height}
use Rattle.syntax.specs.Compiled.{CompiledMarked, Compiled}
use Rattle.linker.specs.Nodes.{Marked, Forbidden, Part, Inside}
use Rattle.linker.specs.Linking.{Outside, Fits, Stands, Made, Links}
use Rattle.linker.specs.Stores.{Bracketed, GroupClosed}
use Rattle.linker.specs.Laws.{slot-fits}
use Rattle.linker.proofs.Regions.{inside-below}
use Rattle.linker.proofs.Compiled.{keep}
use Rattle.linker.proofs.Made.{outside-then}
use Rattle.linker.proofs.Stores.{moved}
use Rattle.linker.proofs.Trees.{for-bracketed}

-- what such a part asks for, its inside asks for with two registers less
inner-fits : (groups r : ℕ) (t s : Rule) → height t ≡ suc (height s) → Proper groups s → Fits groups r t → Fits groups (r + 2) s
inner-fits groups r t s e p f = record { few = f.few; proper = p; room = omega (arith, f.room, e) }

module _ (rule : List ℕ) (known : Names) where
  -- what is asked where such a part stands, at the inside's position in the code's words
  pub record GroupAt (groups r : ℕ) (a : List ℕ) (p : ℕ) : Type 0 where
    pub fits : p + 7 ≤ length a
    pub small : p + 7 ≤ rule_area_need
    pub longer : get_or a p 0 ≡ 17 → p + 8 ≤ length a
    pub room : r + 2 ≤ registers
    pub lower : get_or a (p + 5) 0 < p
    pub inside : Stands (Inside rule known a) groups (r + 2) a (get_or a (p + 5) 0)
    pub behind : (b : List ℕ) (next : ℕ) (sofar : Option ℕ) (pc : ℕ) (found : Option ℕ) → Links (Inside rule known a) groups (r + 2) a b (get_or a (p + 5) 0) next sofar pc found → get_or b p 0 ≡ get_or a p 0

  -- from where its inside stands and what it asks for
  standing : (groups r : ℕ) (a : List ℕ) (p : ℕ) (s : Stands (Part rule known a) groups r a p) (u t : Rule) (size inside : ℕ) → height u ≡ suc (height t) → Proper groups t → Fits groups r u → p + size ≤ s.top → 7 ≤ size → (get_or a p 0 ≡ 17 → 8 ≤ size) → 1 ≤ p
      → get_or a (p + 5) 0 ≡ inside → Inside rule known a t s.lo p inside → GroupAt groups r a p
  unfolding Links
  standing groups r a p s u t size inside e q f l seven eight some is h =
      let w = s.within in
      let v = s.small in
      record {
        fits = omega arith;
        small = omega arith;
        longer = λ z. let k = eight z in omega arith;
        room = omega (arith, f.room, e);
        lower = rw is (inside-below rule known a t s.lo p inside p (omega arith) some h);
        inside = rw is (record { tree = t; lo = s.lo; top = p; holds = h; fits = inner-fits groups r u t e q f; within = omega arith; small = omega arith });
        behind = λ b next sofar pc found m. stays b next sofar pc found (subst (λ x. Links (Inside rule known a) groups (r + 2) a b x next sofar pc found) is m);
      }
    where
      stays : (b : List ℕ) (next : ℕ) (sofar : Option ℕ) (pc : ℕ) (found : Option ℕ) → Links (Inside rule known a) groups (r + 2) a b inside next sofar pc found → get_or b p 0 ≡ get_or a p 0
      stays b next sofar pc found m = (m t s.lo p h (inner-fits groups r u t e q f)).outside.above p (omega arith)

  pub group_at : (groups r : ℕ) (a : List ℕ) (p : ℕ) → Stands (Part rule known a) groups r a p → Bracketed (get_or a p 0) → GroupAt groups r a p
  unfolding Part
  group_at groups r a p s e = for-bracketed rule known a s.lo s.top p (λ t. Fits groups r t → GroupAt groups r a p) captures holds ahead not-ahead e s.tree s.holds s.fits
    where
      captures : (n : ℕ) (t : Rule) → Part rule known a (group n t) s.lo s.top p → Fits groups r (group n t) → GroupAt groups r a p
      captures n t h f = standing groups r a p s (group n t) t 7 h.inside refl f.proper.2 f h.node.high (omega arith) (λ z. absurd (omega (arith, h.node.is))) h.node.some h.is h.holds

      holds : (place : ℕ) (t : Rule) → Marked a 14 place (Inside rule known a t) s.lo s.top p → Fits groups r (held place t) → GroupAt groups r a p
      holds place t h f = standing groups r a p s (held place t) t 7 h.inside refl f.proper f h.node.high (omega arith) (λ z. absurd (omega (arith, h.node.is))) h.node.some h.is h.holds

      ahead : (place : ℕ) (t : Rule) → Marked a 15 place (Inside rule known a t) s.lo s.top p → Fits groups r (look place false t) → GroupAt groups r a p
      ahead place t h f = standing groups r a p s (look place false t) t 7 h.inside refl f.proper f h.node.high (omega arith) (λ z. absurd (omega (arith, h.node.is))) h.node.some h.is h.holds

      not-ahead : (place : ℕ) (t : Rule) → Forbidden a place (Inside rule known a t) s.lo s.top p → Fits groups r (look place true t) → GroupAt groups r a p
      not-ahead place t h f = standing groups r a p s (look place true t) t 8 h.inside refl f.proper f h.node.high (omega arith) (λ z. omega arith) h.node.some h.is h.holds

  module _ (groups r : ℕ) (a b c : List ℕ) (p next : ℕ) (sofar : Option ℕ) (entry : ℕ) (found : Option ℕ) where
    -- the inside as it was made, kept while the node's own numbers are written
    kept-inside : (s : Rule) (lo top : ℕ) → p ≤ top → Made groups (r + 2) s lo p a b p sofar entry found → GroupClosed b c p next r entry → unresolved groups s ≡ none → Compiled c lo top s entry p (r + 2)
    kept-inside s lo top u m w e = keep b c lo p lo top (omega arith) u (λ i _ v. w.rest.below i v) s entry p (r + 2) (m.stands e)

    group-made : (n : ℕ) (s : Rule) (lo top : ℕ) → Part rule known a (group n s) lo top p → Fits groups r (group n s) → Made groups (r + 2) s lo p a b p sofar entry found → GroupClosed b c p next r entry
        → Made groups r (group n s) lo top a c next sofar (p + 4) found
    unfolding Part unresolved Compiled
    group-made n s lo top h f m w =
        let l = h.node.low in
        let u = h.node.high in
        let kind : get_or b p 0 ≡ 4 = m.outside.above p (omega arith) ∙ h.node.is in
        record {
          outside = outside-then lo p p (p + 7) lo top a b c (omega arith) (omega arith) l u m.outside (w.alone (λ z. omega arith));
          near = omega arith;
          stands = λ e. record {
            room = omega (arith, f.room);
            opening = record { low = omega arith; high = omega arith; is = w.opening ∙ m.outside.above (p + 4) (omega arith) ∙ h.opening };
            body = entry;
            enters = moved c (p + 5) (p + 4 + 1) (omega arith) w.enters;
            opener = moved c (p + 6) (p + 4 + 2) (omega arith) w.opener;
            close = p;
            inner = kept-inside s lo top (omega arith) m w e;
            node = record { low = l; high = omega arith; is = w.kind ∙ kind };
            goes = w.goes;
            closer = w.closer;
            span = w.span ∙ m.outside.above (p + 3) (omega arith) ∙ h.span;
            fits = slot-fits n f.proper.0 (omega (arith, f.proper.1, f.few));
          };
          first = m.first;
        }

    -- a held part, or looking ahead
    module _ (kind place : ℕ) (s : Rule) (lo top : ℕ) (h : Marked a kind place (Inside rule known a s) lo top p) (other : kind ≡ 17 → ⊥) (room : r + 2 ≤ registers) (m : Made groups (r + 2) s lo p a b p sofar entry found) (w : GroupClosed b c p next r entry) where
      is-kind : get_or b p 0 ≡ kind
      is-kind = m.outside.above p (omega arith) ∙ h.node.is

      marked-outside : Outside lo top a c
      marked-outside = outside-then lo p p (p + 7) lo top a b c (omega arith) (omega (arith, h.node.high)) h.node.low h.node.high m.outside (w.alone (λ z. other (sym is-kind ∙ z)))

      marked-stands : unresolved groups s ≡ none → CompiledMarked c lo top kind (λ q n x. Compiled c lo top s q n x) (p + 4) next r
      marked-stands e =
          let l = h.node.low in
          let u = h.node.high in
          record {
            room = room;
            opening = record { low = omega arith; high = omega arith; is = w.opening ∙ m.outside.above (p + 4) (omega arith) ∙ h.opening };
            body = entry;
            enters = moved c (p + 5) (p + 4 + 1) (omega arith) w.enters;
            opener = moved c (p + 6) (p + 4 + 2) (omega arith) w.opener;
            close = p;
            inner = kept-inside s lo top (omega arith) m w e;
            node = record { low = l; high = omega arith; is = w.kind ∙ is-kind };
            goes = w.goes;
            closer = w.closer;
          }

    held-made : (place : ℕ) (s : Rule) (lo top : ℕ) → Marked a 14 place (Inside rule known a s) lo top p → Fits groups r (held place s) → Made groups (r + 2) s lo p a b p sofar entry found → GroupClosed b c p next r entry
        → Made groups r (held place s) lo top a c next sofar (p + 4) found
    unfolding unresolved Compiled
    held-made place s lo top h f m w =
        let room : r + 2 ≤ registers = omega (arith, f.room) in
        record {
          outside = marked-outside 14 place s lo top h (λ e. omega arith) room m w;
          near = omega (arith, h.node.high);
          stands = λ e. inr (marked-stands 14 place s lo top h (λ e. omega arith) room m w e);
          first = m.first;
        }

    ahead-made : (place : ℕ) (s : Rule) (lo top : ℕ) → Marked a 15 place (Inside rule known a s) lo top p → Fits groups r (look place false s) → Made groups (r + 2) s lo p a b p sofar entry found → GroupClosed b c p next r entry
        → Made groups r (look place false s) lo top a c next sofar (p + 4) found
    unfolding unresolved Compiled
    ahead-made place s lo top h f m w =
        let room : r + 2 ≤ registers = omega (arith, f.room) in
        record {
          outside = marked-outside 15 place s lo top h (λ e. omega arith) room m w;
          near = omega (arith, h.node.high);
          stands = λ e. marked-stands 15 place s lo top h (λ e. omega arith) room m w e;
          first = m.first;
        }

    not-ahead-made : (place : ℕ) (s : Rule) (lo top : ℕ) → Forbidden a place (Inside rule known a s) lo top p → Fits groups r (look place true s) → Made groups (r + 2) s lo p a b p sofar entry found → GroupClosed b c p next r entry
        → Made groups r (look place true s) lo top a c next sofar (p + 4) found
    unfolding unresolved Compiled
    not-ahead-made place s lo top h f m w =
        let l = h.node.low in
        let u = h.node.high in
        let kind : get_or b p 0 ≡ 17 = m.outside.above p (omega arith) ∙ h.node.is in
        record {
          outside = outside-then lo p p (p + 8) lo top a b c (omega arith) (omega arith) l u m.outside w.rest;
          near = omega arith;
          stands = λ e. record {
            room = omega (arith, f.room);
            opening = record { low = omega arith; high = omega arith; is = w.opening ∙ m.outside.above (p + 4) (omega arith) ∙ h.opening };
            body = entry;
            enters = moved c (p + 5) (p + 4 + 1) (omega arith) w.enters;
            opener = moved c (p + 6) (p + 4 + 2) (omega arith) w.opener;
            goes = moved c (p + 7) (p + 4 + 3) (omega arith) (w.after kind);
            close = p;
            inner = kept-inside s lo top (omega arith) m w e;
            node = record { low = l; high = omega arith; is = w.kind ∙ kind };
            closer = w.closer;
            origin = w.span ∙ m.outside.above (p + 3) (omega arith) ∙ h.origin;
          };
          first = m.first;
        }

    pub group-links : Bracketed (get_or a p 0) → Links (Inside rule known a) groups (r + 2) a b (get_or a (p + 5) 0) p sofar entry found → GroupClosed b c p next r entry → Links (Part rule known a) groups r a c p next sofar (p + 4) found
    unfolding Links Part
    group-links e m w t lo top h f = for-bracketed rule known a lo top p (λ t. Fits groups r t → Made groups r t lo top a c next sofar (p + 4) found)
        (λ n s k f. group-made n s lo top k f (m s lo p (rw k.is k.holds) (inner-fits groups r (group n s) s refl f.proper.2 f)) w)
        (λ place s k f. held-made place s lo top k f (m s lo p (rw k.is k.holds) (inner-fits groups r (held place s) s refl f.proper f)) w)
        (λ place s k f. ahead-made place s lo top k f (m s lo p (rw k.is k.holds) (inner-fits groups r (look place false s) s refl f.proper f)) w)
        (λ place s k f. not-ahead-made place s lo top k f (m s lo p (rw k.is k.holds) (inner-fits groups r (look place true s) s refl f.proper f)) w)
        e t h f
