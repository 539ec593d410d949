-- What stands in a region depends on that region's numbers alone: each relation by its clauses, a part's children in regions below it.
use Rattle.std.specs.Prelude.{if◌then◌else◌}
use mathlib.Core.Path.{◌≡◌, refl, sym, ◌∙◌}
use mathlib.Core.List.{List}
use mathlib.Core.Logic.{inl, inr}
use mathlib.Core.Bool.{Bool, true, false}
use Prim.Native.Nat.{ℕ, ◌+◌, ◌/◌, ◌≤◌, ◌<◌}
use native.Mathlib.Omega.{arith}
use borrow.Author.Tests.{eqb-true}
use lib.Dec.{eqb}
use lib.ListN.{get_or, drop}
use lib.Seq.{get_or-drop}
use Rattle.charset.specs.Class.{has}
use Rattle.syntax.specs.Names.{Names}
use Rattle.syntax.specs.Tree.{Item, byte_in, assert, reference, Rule, empty, item, seq, alt, group, repeat, held, look, Branches, one, also}
use Rattle.linker.specs.Nodes.{before_of, Last, Region, Nothing, Sequence, Branch, Plain, Marked, ItemPart, Part, Chain, Inside, Several, Preceding}

-- equal numbers in a region
abbrev pub Same : ℕ → ℕ → List ℕ → List ℕ → Type 0
Same lo top a b = (i : ℕ) → lo ≤ i → i < top → get_or b i 0 ≡ get_or a i 0

-- a class whose words lie in the region
pub same_class : (a b : List ℕ) (lo top p x : ℕ) → Same lo top a b → lo ≤ p → p + 8 ≤ top → x < 256 → has (drop p b) x ≡ has (drop p a) x
unfolding has
same_class a b lo top p x s l h u = rw (get_or-drop p b (x / 32) 0, get_or-drop p a (x / 32) 0, s (p + x / 32) (omega arith) (omega arith))

-- Where nodes stand -------------------------------------------------------------

-- what is known of the node of a part of any kind
pub record Here (a : List ℕ) (lo top p : ℕ) : Type 0 where
  pub some : 1 ≤ p
  pub low : lo ≤ p
  pub high : p + 3 ≤ top
  pub longer : get_or a p 0 ≡ 7 → p + 8 ≤ top

here : (a : List ℕ) (lo top p size kind : ℕ) → 3 ≤ size → (kind ≡ 7 → 8 ≤ size) → Last a lo top p size kind → Here a lo top p
here a lo top p size kind l w n =
    record { some = n.some; low = n.low; high = omega arith; longer = λ e. let u : 8 ≤ size = w (sym n.is ∙ e) in omega (arith, n.high) }

module _ (rule : List ℕ) (known : Names) where
  item-here : (a : List ℕ) (i : Item) (lo top p place : ℕ) → ItemPart rule known a i lo top p place → Here a lo top p
  item-here a (byte_in folded c) lo top p place h = here a lo top p 11 0 (omega arith) (λ e. omega arith) h.node
  item-here a (assert k) lo top p place h = here a lo top p 4 1 (omega arith) (λ e. omega arith) h.node
  item-here a (reference folded n) lo top p place (inl h) = here a lo top p 5 11 (omega arith) (λ e. omega arith) h.node
  item-here a (reference folded n) lo top p place (inr h) = here a lo top p 6 2 (omega arith) (λ e. omega arith) h.node

  pub part-here : (a : List ℕ) (t : Rule) (lo top p : ℕ) → Part rule known a t lo top p → Here a lo top p
  unfolding Part
  part-here a (item place i) lo top p h = item-here a i lo top p place h
  part-here a (group n t) lo top p h = here a lo top p 7 4 (omega arith) (λ e. omega arith) h.node
  part-here a (repeat place least most g t) lo top p h = here a lo top p 8 7 (omega arith) (λ e. omega arith) h.node
  part-here a (held place t) lo top p (inl h) = here a lo top p 3 12 (omega arith) (λ e. omega arith) h.1.node
  part-here a (held place t) lo top p (inr h) = here a lo top p 7 14 (omega arith) (λ e. omega arith) h.node
  part-here a (look place false t) lo top p h = here a lo top p 7 15 (omega arith) (λ e. omega arith) h.node
  part-here a (look place true t) lo top p h = here a lo top p 8 17 (omega arith) (λ e. omega arith) h.node
  part-here a empty lo top p h = here a lo top p 3 10 (omega arith) (λ e. omega arith) h.node
  part-here a (seq x y) lo top p h = here a lo top p 3 10 (omega arith) (λ e. omega arith) h.node
  part-here a (alt bs bar t) lo top p h = here a lo top p 3 10 (omega arith) (λ e. omega arith) h.node

  pub chain-order : (a : List ℕ) (t : Rule) (lo top p : ℕ) → Chain rule known a t lo top p → lo ≤ top
  unfolding Part
  chain-order a empty lo top p h = h.1
  chain-order a (seq x y) lo top p h =
      let l = chain-order a x lo h.mid h.before h.left in
      let n = part-here a y h.mid top p h.right in
      omega (arith, n.low, n.high)
  chain-order a (item place i) lo top p h = absurd h
  chain-order a (alt bs bar t) lo top p h = absurd h
  chain-order a (group n t) lo top p h = absurd h
  chain-order a (repeat place least most g t) lo top p h = absurd h
  chain-order a (held place t) lo top p h = absurd h
  chain-order a (look place negative t) lo top p h = absurd h

  -- the position of a chain or an inside, which may be none, lies below every bound of its region
  pub chain-below : (a : List ℕ) (t : Rule) (lo top p n : ℕ) → top ≤ n → 1 ≤ n → Chain rule known a t lo top p → p < n
  unfolding Part
  chain-below a empty lo top p n l u h = omega (arith, h.0)
  chain-below a (seq x y) lo top p n l u h = omega (arith, (part-here a y h.mid top p h.right).high)
  chain-below a (item place i) lo top p n l u h = absurd h
  chain-below a (alt bs bar t) lo top p n l u h = absurd h
  chain-below a (group k t) lo top p n l u h = absurd h
  chain-below a (repeat place least most g t) lo top p n l u h = absurd h
  chain-below a (held place t) lo top p n l u h = absurd h
  chain-below a (look place negative t) lo top p n l u h = absurd h

  pub inside-below : (a : List ℕ) (t : Rule) (lo top p n : ℕ) → top ≤ n → 1 ≤ n → Inside rule known a t lo top p → p < n
  unfolding Part
  inside-below a empty lo top p n l u h = omega (arith, h.0)
  inside-below a (seq x y) lo top p n l u h = omega (arith, (part-here a y h.mid top p h.right).high)
  inside-below a (alt bs bar t) lo top p n l u h = omega (arith, h.node.high)
  inside-below a (item place i) lo top p n l u h = absurd h
  inside-below a (group k t) lo top p n l u h = absurd h
  inside-below a (repeat place least most g t) lo top p n l u h = absurd h
  inside-below a (held place t) lo top p n l u h = absurd h
  inside-below a (look place negative t) lo top p n l u h = absurd h

  pub several-node : (a : List ℕ) (bs : Branches) (lo top p : ℕ) → Several rule known a bs lo top p → Last a lo top p 3 5
  unfolding Part
  several-node a (one t) lo top p h = h.node
  several-node a (also bs bar t) lo top p h = h.node

-- The same numbers, the same nodes ------------------------------------------------

module _ (a b : List ℕ) where
  pub before_same : (lo top p : ℕ) → Same lo top a b → Here a lo top p → before_of b p ≡ before_of a p
  unfolding before_of
  before_same lo top p s n = rw (s p n.low (omega (arith, n.high))) (go (eqb (get_or a p 0) 7) refl)
    where
      go : (t : Bool) → eqb (get_or a p 0) 7 ≡ t → (if t then get_or b (p + 7) 0 else get_or b (p + 1) 0) ≡ (if t then get_or a (p + 7) 0 else get_or a (p + 1) 0)
      go true e = let w = n.longer (eqb-true (get_or a p 0) 7 e) in s (p + 7) (omega (arith, n.low)) (omega arith)
      go false e = s (p + 1) (omega (arith, n.low)) (omega (arith, n.high))

  last-same : (lo top p size kind : ℕ) → 1 ≤ size → Same lo top a b → Last a lo top p size kind → Last b lo top p size kind
  last-same lo top p size kind l s n = record { some = n.some; low = n.low; high = n.high; is = s p n.low (omega (arith, n.high)) ∙ n.is }

  -- a number of a node
  word : (lo top p size kind k : ℕ) {x : ℕ} → k < size → Same lo top a b → Last a lo top p size kind → get_or a (p + k) 0 ≡ x → get_or b (p + k) 0 ≡ x
  word lo top p size kind k l s n e = s (p + k) (omega (arith, n.low)) (omega (arith, n.high)) ∙ e

module _ (rule : List ℕ) (known : Names) (a b : List ℕ) where
  item-same : (i : Item) (lo top p place : ℕ) → Same lo top a b → ItemPart rule known a i lo top p place → ItemPart rule known b i lo top p place
  item-same (byte_in folded c) lo top p place s h =
      record {
        node = last-same a b lo top p 11 0 (omega arith) s h.node;
        origin = word a b lo top p 11 0 2 (omega arith) s h.node h.origin;
        set = λ x l. same_class a b lo top (p + 3) x s (omega (arith, h.node.low)) (omega (arith, h.node.high)) l ∙ h.set x l;
      }
  item-same (assert k) lo top p place s h =
      record {
        node = last-same a b lo top p 4 1 (omega arith) s h.node;
        origin = word a b lo top p 4 1 2 (omega arith) s h.node h.origin;
        which = word a b lo top p 4 1 3 (omega arith) s h.node h.which;
      }
  item-same (reference folded n) lo top p place s (inl h) =
      inl (record {
        node = last-same a b lo top p 5 11 (omega arith) s h.node;
        origin = word a b lo top p 5 11 2 (omega arith) s h.node h.origin;
        number = word a b lo top p 5 11 3 (omega arith) s h.node h.number;
        folds = word a b lo top p 5 11 4 (omega arith) s h.node h.folds;
      })
  item-same (reference folded n) lo top p place s (inr h) =
      inr (record {
        node = last-same a b lo top p 6 2 (omega arith) s h.node;
        origin = word a b lo top p 6 2 2 (omega arith) s h.node h.origin;
        from = h.from;
        begins = word a b lo top p 6 2 3 (omega arith) s h.node h.begins;
        folds = word a b lo top p 6 2 4 (omega arith) s h.node h.folds;
        len = h.len;
        long = word a b lo top p 6 2 5 (omega arith) s h.node h.long;
        within = h.within;
        number = h.number;
      })

  -- what holds of a region in one area holds of it in the other
  abbrev Carries : Region → Region → Type 0
  Carries X Y = (lo top p : ℕ) → Same lo top a b → X lo top p → Y lo top p

  sequence-same : (x y : Rule) → Carries (Chain rule known a x) (Chain rule known b x) → Carries (Part rule known a y) (Part rule known b y)
      → Carries (Sequence a (Chain rule known a x) (Part rule known a y)) (Sequence b (Chain rule known b x) (Part rule known b y))
  sequence-same x y f g lo top p s h =
      let l = chain-order rule known a x lo h.mid h.before h.left in
      let n = part-here rule known a y h.mid top p h.right in
      let upper : Same h.mid top a b = λ i i1 i2. s i (omega arith) i2 in
      record {
        mid = h.mid;
        before = h.before;
        link = before_same a b h.mid top p upper n ∙ h.link;
        left = f lo h.mid h.before (λ i i1 i2. s i i1 (omega (arith, n.low, n.high))) h.left;
        right = g h.mid top p upper h.right;
      }

  branch_same : (kind : ℕ) (X Y : Region) (t : Rule) → ((lo top p : ℕ) → X lo top p → lo ≤ top) → Carries X Y → Carries (Chain rule known a t) (Chain rule known b t)
      → Carries (Branch a kind X (Chain rule known a t)) (Branch b kind Y (Chain rule known b t))
  branch_same kind X Y t order f g lo top p s h =
      let l = order lo h.mid h.before h.left in
      let n = chain-order rule known a t h.mid p h.inside h.right in
      let w = h.node.high in
      record {
        node = last-same a b lo top p 3 kind (omega arith) s h.node;
        inside = h.inside;
        of = word a b lo top p 3 kind 1 (omega arith) s h.node h.of;
        before = h.before;
        link = word a b lo top p 3 kind 2 (omega arith) s h.node h.link;
        mid = h.mid;
        left = f lo h.mid h.before (λ i i1 i2. s i i1 (omega arith)) h.left;
        right = g h.mid p h.inside (λ i i1 i2. s i (omega arith) (omega arith)) h.right;
      }

  plain-same : (X Y : Region) → Carries X Y → Carries (Plain a X) (Plain b Y)
  plain-same X Y f lo top p s h =
      record {
        node = last-same a b lo top p 3 10 (omega arith) s h.node;
        inside = h.inside;
        is = word a b lo top p 3 10 2 (omega arith) s h.node h.is;
        holds = f lo p h.inside (λ i i1 i2. s i i1 (omega (arith, h.node.high))) h.holds;
      }

  marked-same : (kind place : ℕ) (X Y : Region) → Carries X Y → Carries (Marked a kind place X) (Marked b kind place Y)
  marked-same kind place X Y f lo top p s h =
      record {
        node = last-same a b lo top p 7 kind (omega arith) s h.node;
        origin = word a b lo top p 7 kind 3 (omega arith) s h.node h.origin;
        opening = word a b lo top p 7 kind 4 (omega arith) s h.node h.opening;
        inside = h.inside;
        is = word a b lo top p 7 kind 5 (omega arith) s h.node h.is;
        holds = f lo p h.inside (λ i i1 i2. s i i1 (omega (arith, h.node.high))) h.holds;
      }

  nothing-same : Carries Nothing Nothing
  nothing-same lo top p s h = h

  several-order : (bs : Branches) (lo top p : ℕ) → Several rule known a bs lo top p → lo ≤ top
  several-order bs lo top p h = let n = several-node rule known a bs lo top p h in omega (arith, n.low, n.high)

  preceding-order : (bs : Branches) (bar lo top p : ℕ) → Preceding rule known a bs bar lo top p → lo ≤ top
  preceding-order bs bar lo top p h = several-order bs lo top p h.earlier

  -- the bar's number lies in the region too
  barred-same : (bs : Branches) (bar : ℕ) → Carries (Several rule known a bs) (Several rule known b bs) → Carries (Preceding rule known a bs bar) (Preceding rule known b bs bar)
  barred-same bs bar f lo top p s h =
      let n = several-node rule known a bs lo top p h.earlier in
      record { earlier = f lo top p s h.earlier; fits = h.fits; bar = s (p + 3) (omega (arith, n.low)) (omega (arith, h.fits)) ∙ h.bar }

  mutual
    unfolding Part

    pub part_same : (t : Rule) (lo top p : ℕ) → Same lo top a b → Part rule known a t lo top p → Part rule known b t lo top p
    part_same (item place i) lo top p s h = item-same i lo top p place s h
    part_same (group n t) lo top p s h =
        record {
          node = last-same a b lo top p 7 4 (omega arith) s h.node;
          span = word a b lo top p 7 4 3 (omega arith) s h.node h.span;
          opening = word a b lo top p 7 4 4 (omega arith) s h.node h.opening;
          inside = h.inside;
          is = word a b lo top p 7 4 5 (omega arith) s h.node h.is;
          holds = inside-same t lo p h.inside (λ i i1 i2. s i i1 (omega (arith, h.node.high))) h.holds;
        }
    part_same (repeat place least most g t) lo top p s h =
        record {
          node = last-same a b lo top p 8 7 (omega arith) s h.node;
          loop = word a b lo top p 8 7 1 (omega arith) s h.node h.loop;
          least = word a b lo top p 8 7 2 (omega arith) s h.node h.least;
          most = word a b lo top p 8 7 3 (omega arith) s h.node h.most;
          greed = word a b lo top p 8 7 4 (omega arith) s h.node h.greed;
          origin = word a b lo top p 8 7 5 (omega arith) s h.node h.origin;
          body = h.body;
          is = word a b lo top p 8 7 6 (omega arith) s h.node h.is;
          holds = part_same t lo p h.body (λ i i1 i2. s i i1 (omega (arith, h.node.high))) h.holds;
        }
    part_same (held place t) lo top p s (inl h) = inl (h.0, record { node = last-same a b lo top p 3 12 (omega arith) s h.1.node; origin = word a b lo top p 3 12 2 (omega arith) s h.1.node h.1.origin })
    part_same (held place t) lo top p s (inr h) = inr (marked-same 14 place (Inside rule known a t) (Inside rule known b t) (λ l u q v w. inside-same t l u q v w) lo top p s h)
    part_same (look place false t) lo top p s h = marked-same 15 place (Inside rule known a t) (Inside rule known b t) (λ l u q v w. inside-same t l u q v w) lo top p s h
    part_same (look place true t) lo top p s h =
        record {
          node = last-same a b lo top p 8 17 (omega arith) s h.node;
          origin = word a b lo top p 8 17 3 (omega arith) s h.node h.origin;
          opening = word a b lo top p 8 17 4 (omega arith) s h.node h.opening;
          inside = h.inside;
          is = word a b lo top p 8 17 5 (omega arith) s h.node h.is;
          holds = inside-same t lo p h.inside (λ i i1 i2. s i i1 (omega (arith, h.node.high))) h.holds;
        }
    part_same empty lo top p s h = plain-same Nothing Nothing nothing-same lo top p s h
    part_same (seq x y) lo top p s h = plain-same (Sequence a (Chain rule known a x) (Part rule known a y)) (Sequence b (Chain rule known b x) (Part rule known b y)) (sequence-same x y (λ l u q v w. chain_same x l u q v w) (λ l u q v w. part_same y l u q v w)) lo top p s h
    part_same (alt bs bar t) lo top p s h = plain-same (Branch a 6 (Preceding rule known a bs bar) (Chain rule known a t)) (Branch b 6 (Preceding rule known b bs bar) (Chain rule known b t)) (branch_same 6 (Preceding rule known a bs bar) (Preceding rule known b bs bar) t (preceding-order bs bar) (barred-same bs bar (λ l u q v w. several-same bs l u q v w)) (λ l u q v w. chain_same t l u q v w)) lo top p s h

    pub chain_same : (t : Rule) (lo top p : ℕ) → Same lo top a b → Chain rule known a t lo top p → Chain rule known b t lo top p
    chain_same empty lo top p s h = h
    chain_same (seq x y) lo top p s h = sequence-same x y (λ l u q v w. chain_same x l u q v w) (λ l u q v w. part_same y l u q v w) lo top p s h
    chain_same (item place i) lo top p s h = absurd h
    chain_same (alt bs bar t) lo top p s h = absurd h
    chain_same (group n t) lo top p s h = absurd h
    chain_same (repeat place least most g t) lo top p s h = absurd h
    chain_same (held place t) lo top p s h = absurd h
    chain_same (look place negative t) lo top p s h = absurd h

    pub inside-same : (t : Rule) (lo top p : ℕ) → Same lo top a b → Inside rule known a t lo top p → Inside rule known b t lo top p
    inside-same empty lo top p s h = h
    inside-same (seq x y) lo top p s h = sequence-same x y (λ l u q v w. chain_same x l u q v w) (λ l u q v w. part_same y l u q v w) lo top p s h
    inside-same (alt bs bar t) lo top p s h = branch_same 6 (Preceding rule known a bs bar) (Preceding rule known b bs bar) t (preceding-order bs bar) (barred-same bs bar (λ l u q v w. several-same bs l u q v w)) (λ l u q v w. chain_same t l u q v w) lo top p s h
    inside-same (item place i) lo top p s h = absurd h
    inside-same (group n t) lo top p s h = absurd h
    inside-same (repeat place least most g t) lo top p s h = absurd h
    inside-same (held place t) lo top p s h = absurd h
    inside-same (look place negative t) lo top p s h = absurd h

    pub several-same : (bs : Branches) (lo top p : ℕ) → Same lo top a b → Several rule known a bs lo top p → Several rule known b bs lo top p
    several-same (one t) lo top p s h = branch_same 5 Nothing Nothing t (λ l u q w. w.1) nothing-same (λ l u q v w. chain_same t l u q v w) lo top p s h
    several-same (also bs bar t) lo top p s h = branch_same 5 (Preceding rule known a bs bar) (Preceding rule known b bs bar) t (preceding-order bs bar) (barred-same bs bar (λ l u q v w. several-same bs l u q v w)) (λ l u q v w. chain_same t l u q v w) lo top p s h

  pub preceding-same : (bs : Branches) (bar lo top p : ℕ) → Same lo top a b → Preceding rule known a bs bar lo top p → Preceding rule known b bs bar lo top p
  preceding-same bs bar = barred-same bs bar (several-same bs)
