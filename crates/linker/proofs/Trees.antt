-- A node's first number tells what stands there: each tree has one kind, and a test of the number leaves the trees of that kind.
use mathlib.Core.Path.{◌≡◌, sym, ◌∙◌}
use mathlib.Core.Bool.{Bool, true, false}
use mathlib.Core.List.{List}
use mathlib.Core.Logic.{◌⊎◌, inl, inr}
use Prim.Native.Nat.{ℕ, ◌≤◌}
use native.Mathlib.Omega.{arith}
use lib.ListN.{get_or}
use Rattle.syntax.specs.Names.{Names}
use Rattle.syntax.specs.Tree.{Item, byte_in, assert, reference, Rule, empty, item, seq, alt, group, repeat, held, look, line_break}
use Rattle.syntax.specs.declared.Greed.{Greed}
use Rattle.syntax.specs.declared.Most.{Most}
use Rattle.linker.specs.Nodes.{Plain, Breaking, Marked, Forbidden, ByNumber, ByName, Part, Inside}
use Rattle.linker.specs.Stores.{Bracketed}

-- the numbers that an item's or a part's node may begin with
abbrev pub ItemKind : Item → ℕ → Type 0
ItemKind (byte_in folded c) k = k ≡ 0
ItemKind (assert c) k = k ≡ 1
ItemKind (reference folded n) k = (k ≡ 11) ⊎ (k ≡ 2)

abbrev pub KindOf : Rule → ℕ → Type 0
KindOf (item place i) k = ItemKind i k
KindOf (group n t) k = k ≡ 4
KindOf (repeat place least most g t) k = k ≡ 7
KindOf (held place t) k = (k ≡ 12) ⊎ (k ≡ 14)
KindOf (look place false t) k = k ≡ 15
KindOf (look place true t) k = k ≡ 17
KindOf empty k = k ≡ 10
KindOf (seq x y) k = k ≡ 10
KindOf (alt bs bar t) k = k ≡ 10

-- no item has a number between
item-other : (i : Item) (k n : ℕ) → ItemKind i k → k ≡ n → 3 ≤ n → n ≤ 10 → ⊥
item-other (byte_in folded c) k n h e l u = omega arith
item-other (assert c) k n h e l u = omega arith
item-other (reference folded m) k n (inl h) e l u = omega arith
item-other (reference folded m) k n (inr h) e l u = omega arith

module _ (rule : List ℕ) (known : Names) where
  pub part-kind : (a : List ℕ) (t : Rule) (lo top p : ℕ) → Part rule known a t lo top p → KindOf t (get_or a p 0)
  unfolding Part
  part-kind a (item place (byte_in folded c)) lo top p h = h.node.is
  part-kind a (item place (assert k)) lo top p h = h.node.is
  part-kind a (item place (reference folded n)) lo top p (inl h) = inl h.node.is
  part-kind a (item place (reference folded n)) lo top p (inr h) = inr h.node.is
  part-kind a (group n t) lo top p h = h.node.is
  part-kind a (repeat place least most g t) lo top p h = h.node.is
  part-kind a (held place t) lo top p (inl h) = inl h.1.node.is
  part-kind a (held place t) lo top p (inr h) = inr h.node.is
  part-kind a (look place false t) lo top p h = h.node.is
  part-kind a (look place true t) lo top p h = h.node.is
  part-kind a empty lo top p h = h.node.is
  part-kind a (seq x y) lo top p h = h.node.is
  part-kind a (alt bs bar t) lo top p h = h.node.is

  -- what holds of every tree of a kind holds of the tree that stands there
  module _ (a : List ℕ) (lo top p : ℕ) (Q : Rule → Type 0) where
    -- what stands between an end and an opening
    pub for-bracketed : ((n : ℕ) (s : Rule) → Part rule known a (group n s) lo top p → Q (group n s)) → ((place : ℕ) (s : Rule) → Marked a 14 place (Inside rule known a s) lo top p → Q (held place s)) → ((place : ℕ) (s : Rule) → Marked a 15 place (Inside rule known a s) lo top p → Q (look place false s))
        → ((place : ℕ) (s : Rule) → Forbidden a place (Inside rule known a s) lo top p → Q (look place true s)) → Bracketed (get_or a p 0) → (t : Rule) → Part rule known a t lo top p → Q t
    unfolding Part
    for-bracketed f g l m e t h = go t h (part-kind a t lo top p h)
      where
        no : {n : ℕ} → (get_or a p 0 ≡ n) → (n ≡ 4 → ⊥) → (n ≡ 14 → ⊥) → (n ≡ 15 → ⊥) → (n ≡ 17 → ⊥) → ⊥
        no k x y z w = elim e [ inl u ↦ x (sym k ∙ u) | inr u ↦ elim u [ inl v ↦ y (sym k ∙ v) | inr v ↦ elim v [ inl c ↦ z (sym k ∙ c) | inr c ↦ w (sym k ∙ c) ] ] ]

        no_item : (i : Item) → ItemKind i (get_or a p 0) → ⊥
        no_item (byte_in folded c) k = no k (λ u. omega arith) (λ u. omega arith) (λ u. omega arith) (λ u. omega arith)
        no_item (assert c) k = no k (λ u. omega arith) (λ u. omega arith) (λ u. omega arith) (λ u. omega arith)
        no_item (reference folded n) (inl k) = no k (λ u. omega arith) (λ u. omega arith) (λ u. omega arith) (λ u. omega arith)
        no_item (reference folded n) (inr k) = no k (λ u. omega arith) (λ u. omega arith) (λ u. omega arith) (λ u. omega arith)

        go : (t : Rule) → Part rule known a t lo top p → KindOf t (get_or a p 0) → Q t
        go (group n s) h k = f n s h
        go (held place s) (inl h) k = absurd (no h.1.node.is (λ u. omega arith) (λ u. omega arith) (λ u. omega arith) (λ u. omega arith))
        go (held place s) (inr h) k = g place s h
        go (look place false s) h k = l place s h
        go (look place true s) h k = m place s h
        go (item place i) h k = absurd (no_item i k)
        go (repeat place least most g s) h k = absurd (no k (λ u. omega arith) (λ u. omega arith) (λ u. omega arith) (λ u. omega arith))
        go empty h k = absurd (no k (λ u. omega arith) (λ u. omega arith) (λ u. omega arith) (λ u. omega arith))
        go (seq x y) h k = absurd (no k (λ u. omega arith) (λ u. omega arith) (λ u. omega arith) (λ u. omega arith))
        go (alt bs bar s) h k = absurd (no k (λ u. omega arith) (λ u. omega arith) (λ u. omega arith) (λ u. omega arith))

    pub for-repeat : ((place least : ℕ) (most : Most) (g : Greed) (s : Rule) → Part rule known a (repeat place least most g s) lo top p → Q (repeat place least most g s)) → get_or a p 0 ≡ 7 → (t : Rule) → Part rule known a t lo top p → Q t
    for-repeat f e t h = go t h (part-kind a t lo top p h)
      where
        go : (t : Rule) → Part rule known a t lo top p → KindOf t (get_or a p 0) → Q t
        go (repeat place least most g s) h k = f place least most g s h
        go (item place i) h k = absurd (item-other i _ _ k e (omega arith) (omega arith))
        go (group n s) h k = absurd (omega (arith, e))
        go (held place s) h (inl k) = absurd (omega (arith, e))
        go (held place s) h (inr k) = absurd (omega (arith, e))
        go (look place false s) h k = absurd (omega (arith, e))
        go (look place true s) h k = absurd (omega (arith, e))
        go empty h k = absurd (omega (arith, e))
        go (seq x y) h k = absurd (omega (arith, e))
        go (alt bs bar t) h k = absurd (omega (arith, e))

    pub for-plain : ((s : Rule) → Plain a (Inside rule known a s) lo top p → Q s) → get_or a p 0 ≡ 10 → (t : Rule) → Part rule known a t lo top p → Q t
    unfolding Part
    for-plain f e t h = go t h (part-kind a t lo top p h)
      where
        go : (t : Rule) → Part rule known a t lo top p → KindOf t (get_or a p 0) → Q t
        go empty h k = f empty h
        go (seq x y) h k = f (seq x y) h
        go (alt bs bar t) h k = f (alt bs bar t) h
        go (item place i) h k = absurd (item-other i _ _ k e (omega arith) (omega arith))
        go (group n s) h k = absurd (omega (arith, e))
        go (repeat place least most g s) h k = absurd (omega (arith, e))
        go (held place s) h (inl k) = absurd (omega (arith, e))
        go (held place s) h (inr k) = absurd (omega (arith, e))
        go (look place false s) h k = absurd (omega (arith, e))
        go (look place true s) h k = absurd (omega (arith, e))

    -- a reference, by number or by name
    for-either : ((place : ℕ) (folded : Bool) (n : ℕ) → Part rule known a (item place (reference folded n)) lo top p → Q (item place (reference folded n))) → (get_or a p 0 ≡ 11) ⊎ (get_or a p 0 ≡ 2) → (t : Rule) → Part rule known a t lo top p → Q t
    for-either f e t h = go t h (part-kind a t lo top p h)
      where
        no : {n : ℕ} → get_or a p 0 ≡ n → (n ≡ 11 → ⊥) → (n ≡ 2 → ⊥) → ⊥
        no k x y = elim e [ inl u ↦ x (sym k ∙ u) | inr u ↦ y (sym k ∙ u) ]

        go : (t : Rule) → Part rule known a t lo top p → KindOf t (get_or a p 0) → Q t
        go (item place (reference folded n)) h k = f place folded n h
        go (item place (byte_in folded c)) h k = absurd (no k (λ u. omega arith) (λ u. omega arith))
        go (item place (assert c)) h k = absurd (no k (λ u. omega arith) (λ u. omega arith))
        go (group n s) h k = absurd (no k (λ u. omega arith) (λ u. omega arith))
        go (repeat place least most g s) h k = absurd (no k (λ u. omega arith) (λ u. omega arith))
        go (held place s) h (inl k) = absurd (no k (λ u. omega arith) (λ u. omega arith))
        go (held place s) h (inr k) = absurd (no k (λ u. omega arith) (λ u. omega arith))
        go (look place false s) h k = absurd (no k (λ u. omega arith) (λ u. omega arith))
        go (look place true s) h k = absurd (no k (λ u. omega arith) (λ u. omega arith))
        go empty h k = absurd (no k (λ u. omega arith) (λ u. omega arith))
        go (seq x y) h k = absurd (no k (λ u. omega arith) (λ u. omega arith))
        go (alt bs bar t) h k = absurd (no k (λ u. omega arith) (λ u. omega arith))

    pub for-reference : ((place : ℕ) (folded : Bool) (n : ℕ) → ByNumber a folded n lo top p place → Q (item place (reference folded n))) → get_or a p 0 ≡ 11 → (t : Rule) → Part rule known a t lo top p → Q t
    unfolding Part
    for-reference f e = for-either (λ place folded n h. elim h [ inl k ↦ f place folded n k | inr k ↦ absurd (omega (arith, e, k.node.is)) ]) (inl e)

    pub for-named : ((place : ℕ) (folded : Bool) (n : ℕ) → ByName rule known a folded n lo top p place → Q (item place (reference folded n))) → get_or a p 0 ≡ 2 → (t : Rule) → Part rule known a t lo top p → Q t
    unfolding Part
    for-named f e = for-either (λ place folded n h. elim h [ inl k ↦ absurd (omega (arith, e, k.node.is)) | inr k ↦ f place folded n k ]) (inr e)

    -- an item of any kind, or `\R`
    pub for-item : ((place : ℕ) (i : Item) → ItemKind i (get_or a p 0) → Part rule known a (item place i) lo top p → Q (item place i)) → ((place : ℕ) (s : Rule) → held place s ≡ line_break place → Breaking a place lo top p → Q (held place s))
        → (Bracketed (get_or a p 0) → ⊥) → (get_or a p 0 ≡ 7 → ⊥) → (get_or a p 0 ≡ 10 → ⊥) → (t : Rule) → Part rule known a t lo top p → Q t
    unfolding Part
    for-item f g b e₇ e₁₀ t h = go t h (part-kind a t lo top p h)
      where
        go : (t : Rule) → Part rule known a t lo top p → KindOf t (get_or a p 0) → Q t
        go (item place i) h k = f place i k h
        go (group n s) h k = absurd (b (inl k))
        go (repeat place least most g s) h k = absurd (e₇ k)
        go (held place s) (inl h) k = g place s h.0 h.1
        go (held place s) (inr h) k = absurd (b (inr (inl h.node.is)))
        go (look place false s) h k = absurd (b (inr (inr (inl k))))
        go (look place true s) h k = absurd (b (inr (inr (inr k))))
        go empty h k = absurd (e₁₀ k)
        go (seq x y) h k = absurd (e₁₀ k)
        go (alt bs bar t) h k = absurd (e₁₀ k)

  -- no part is a last branch
  pub never-last : (a : List ℕ) (t : Rule) (lo top p : ℕ) → Part rule known a t lo top p → get_or a p 0 ≡ 6 → ⊥
  never-last a t lo top p h e = go t (part-kind a t lo top p h)
    where
      go : (t : Rule) → KindOf t (get_or a p 0) → ⊥
      go (item place i) k = item-other i _ _ k e (omega arith) (omega arith)
      go (group n s) k = omega (arith, e)
      go (repeat place least most g s) k = omega (arith, e)
      go (held place s) (inl k) = omega (arith, e)
      go (held place s) (inr k) = omega (arith, e)
      go (look place false s) k = omega (arith, e)
      go (look place true s) k = omega (arith, e)
      go empty k = omega (arith, e)
      go (seq x y) k = omega (arith, e)
      go (alt bs bar t) k = omega (arith, e)
