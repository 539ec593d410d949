-- What stands in the area once a node has been written: a chain with one part more, a group or a repeat around what stood there, a branch.
use mathlib.Core.Path.{◌≡◌, refl, ap, sym, ◌∙◌}
use mathlib.Core.Bool.{Bool, true, false}
use mathlib.Core.List.{List, [], ◌∷◌}
use mathlib.Core.Logic.{inl, inr}
use Prim.Native.Nat.{ℕ, ◌+◌, ◌/◌, ◌%◌, ◌≤◌, ◌<◌}
use native.Mathlib.Omega.{arith}
use borrow.Author.Tests.{ne_eqb}
use lib.ListN.{get_or, drop, length}
use lib.Seq.{slice, get_or-drop, get_or-append-add}
use Rattle.charset.specs.Class.{bit, has}
use Rattle.syntax.specs.declared.Assertion.{Assertion}
use Rattle.syntax.specs.declared.Greed.{Greed}
use Rattle.syntax.specs.declared.Most.{Most}
use Rattle.syntax.specs.Limits.{slot}
use Rattle.syntax.specs.Names.{Names, group_called}
use Rattle.syntax.specs.Sets.{Class, in_class}
use Rattle.syntax.specs.Tree.{byte_in, assert, reference, Rule, empty, item, seq, alt, group, repeat, held, look, Branches, one, also, alternatives, line_break}
use Rattle.syntax.specs.Grammar.{Sequence, unrepeatable, repeatable, repeated, whole}
use Rattle.syntax.specs.Compiled.{assertion_word, most_word, greed_word, folded_word}
use Rattle.linker.specs.Nodes.{bar_word, before_of, Last, Region, Nothing, Branch, Marked, Part, Chain, Inside, Several, Preceding}
use Rattle.linker.proofs.Regions.{Same, part-here, chain-order, several-node, part_same, chain_same, inside-same, preceding-same}
use Rattle.writer.specs.Wrote.{Below, Wrote}
use Rattle.parts.specs.Says.{After, PartAfter, SoFar}

-- equal numbers below a position are equal in each region below it
pub below-same : (new old : List ℕ) (n lo top : ℕ) → top ≤ n → Below n new old → Same lo top old new
below-same new old n lo top h e i l u = e i (omega arith)

-- The part before another ---------------------------------------------------------

before-plain : (a : List ℕ) (p : ℕ) → (get_or a p 0 ≡ 7 → ⊥) → before_of a p ≡ get_or a (p + 1) 0
unfolding before_of
before-plain a p h = rw (ne_eqb (get_or a p 0) 7 h)

before-repeat : (a : List ℕ) (p : ℕ) → get_or a p 0 ≡ 7 → before_of a p ≡ get_or a (p + 7) 0
unfolding before_of
before-repeat a p h = rw h

-- The node just written -----------------------------------------------------------

module _ {old new : List ℕ} {p n kind : ℕ} {ws : List ℕ} (w : Wrote old new p n (kind ∷ ws)) (h : 1 ≤ n) (b : 1 ≤ p) where
  head : get_or new p 0 ≡ kind
  head = let e : p ≡ p + 0 = omega arith in ap (λ (i : ℕ). get_or new i 0) e ∙ w.at 0 (omega arith)

  node : (lo : ℕ) → lo ≤ p → Last new lo (p + n) p n kind
  node lo l = record { some = b; low = l; high = omega arith; is = head }

-- it names the part before it in its second number
after : {old new : List ℕ} {p n kind before : ℕ} {ws : List ℕ} → Wrote old new p n (kind ∷ before ∷ ws) → 2 ≤ n → 1 ≤ p → (kind ≡ 7 → ⊥) → After new before p
after w h b ne = record { plain = λ x. ne (sym (head w (omega arith) b) ∙ x); link = w.at 1 (omega arith) }

-- Items ---------------------------------------------------------------------------

-- equal words hold equal classes
pub has_same : (v w : List ℕ) → ((i : ℕ) → i < 8 → get_or v i 0 ≡ get_or w i 0) → (x : ℕ) → x < 256 → has v x ≡ has w x
unfolding has
has_same v w e x h = ap (λ (n : ℕ). bit n (x % 32)) (e (x / 32) (omega arith))

module _ (s : List ℕ) (known : Names) where
  pub byte-part : {old new : List ℕ} {p before place : ℕ} {words : List ℕ} (folded : Bool) (c : Class) → Wrote old new p 11 (0 ∷ before ∷ place ∷ words) → 1 ≤ p → ((x : ℕ) → x < 256 → has words x ≡ in_class folded c x) → PartAfter s known before new (item place (byte_in folded c)) p (p + 11) p
  unfolding Part
  byte-part {old} {new} {p} {before} {place} {words} folded c w b h = (
    record { node = node w (omega arith) b p (omega arith); origin = w.at 2 (omega arith); set = λ x k. has_same (drop (p + 3) new) words word x k ∙ h x k },
    after w (omega arith) b (λ e. omega arith),
  )
    where
      word : (i : ℕ) → i < 8 → get_or (drop (p + 3) new) i 0 ≡ get_or words i 0
      word i l =
          let e : p + 3 + i ≡ p + (3 + i) = omega arith in
          get_or-drop (p + 3) new i 0 ∙ ap (λ (j : ℕ). get_or new j 0) e ∙ w.at (3 + i) (omega arith) ∙ get_or-append-add (0 ∷ before ∷ place ∷ []) words i 0

  pub assert-part : {old new : List ℕ} {p before place : ℕ} (k : Assertion) → Wrote old new p 4 (1 ∷ before ∷ place ∷ assertion_word k ∷ []) → 1 ≤ p → PartAfter s known before new (item place (assert k)) p (p + 4) p
  unfolding Part
  assert-part {p = p} k w b = (record { node = node w (omega arith) b p (omega arith); origin = w.at 2 (omega arith); which = w.at 3 (omega arith) }, after w (omega arith) b (λ e. omega arith))

  pub reference-part : {old new : List ℕ} {p before place n : ℕ} (folded : Bool) → Wrote old new p 5 (11 ∷ before ∷ place ∷ n ∷ folded_word folded ∷ []) → 1 ≤ p → PartAfter s known before new (item place (reference folded n)) p (p + 5) p
  unfolding Part
  reference-part {p = p} folded w b = (
    inl (record { node = node w (omega arith) b p (omega arith); origin = w.at 2 (omega arith); number = w.at 3 (omega arith); folds = w.at 4 (omega arith) }),
    after w (omega arith) b (λ e. omega arith),
  )

  pub named-part : {old new : List ℕ} {p before place : ℕ} (from len : ℕ) (folded : Bool) → Wrote old new p 6 (2 ∷ before ∷ place ∷ from ∷ folded_word folded ∷ len ∷ []) → 1 ≤ p → from + len ≤ length s
      → PartAfter s known before new (item place (reference folded (group_called (slice from (from + len) s) known))) p (p + 6) p
  unfolding Part
  named-part {p = p} from len folded w b l = (
    inr (record {
      node = node w (omega arith) b p (omega arith);
      origin = w.at 2 (omega arith);
      from = from;
      begins = w.at 3 (omega arith);
      folds = w.at 4 (omega arith);
      len = len;
      long = w.at 5 (omega arith);
      within = l;
      number = refl;
    }),
    after w (omega arith) b (λ e. omega arith),
  )

  pub break-part : {old new : List ℕ} {p before place : ℕ} → Wrote old new p 3 (12 ∷ before ∷ place ∷ []) → 1 ≤ p → PartAfter s known before new (line_break place) p (p + 3) p
  unfolding Part line_break
  break-part {p = p} w b = (inl (refl, record { node = node w (omega arith) b p (omega arith); origin = w.at 2 (omega arith) }), after w (omega arith) b (λ e. omega arith))

  -- Groups --------------------------------------------------------------------------

  inside-order : (a : List ℕ) (t : Rule) (lo top p : ℕ) → Inside s known a t lo top p → lo ≤ top
  unfolding Part
  inside-order a empty lo top p h = h.1
  inside-order a (item place i) lo top p h = absurd h
  inside-order a (seq x y) lo top p h =
      let l = chain-order s known a x lo h.mid h.before h.left in
      let n = part-here s known a y h.mid top p h.right in
      omega (arith, n.low, n.high)
  inside-order a (alt bs bar t) lo top p h = omega (arith, h.node.low, h.node.high)
  inside-order a (group n t) lo top p h = absurd h
  inside-order a (repeat place n m g t) lo top p h = absurd h
  inside-order a (held place t) lo top p h = absurd h
  inside-order a (look place negative t) lo top p h = absurd h

  pub group-part : {old new : List ℕ} {p before inside : ℕ} (number lo : ℕ) (t : Rule) → Wrote old new p 7 (4 ∷ before ∷ 0 ∷ slot number ∷ 3 ∷ inside ∷ 0 ∷ []) → 1 ≤ p → Inside s known old t lo p inside → PartAfter s known before new (group number t) lo (p + 7) p
  unfolding Part
  group-part {old} {new} {p} {before} {inside} number lo t w b h = (
    record {
      node = node w (omega arith) b lo (inside-order old t lo p inside h);
      span = w.at 3 (omega arith);
      opening = w.at 4 (omega arith);
      inside = inside;
      is = w.at 5 (omega arith);
      holds = inside-same s known old new t lo p inside (below-same new old p lo p (omega arith) w.below) h;
    },
    after w (omega arith) b (λ e. omega arith),
  )

  -- held parts and looking ahead
  marked : {old new : List ℕ} {p before inside : ℕ} (kind place lo : ℕ) (t : Rule) → Wrote old new p 7 (kind ∷ before ∷ 0 ∷ place ∷ 13 ∷ inside ∷ 0 ∷ []) → 1 ≤ p → Inside s known old t lo p inside → Marked new kind place (Inside s known new t) lo (p + 7) p
  marked {old} {new} {p} {before} {inside} kind place lo t w b h = record {
    node = node w (omega arith) b lo (inside-order old t lo p inside h);
    origin = w.at 3 (omega arith);
    opening = w.at 4 (omega arith);
    inside = inside;
    is = w.at 5 (omega arith);
    holds = inside-same s known old new t lo p inside (below-same new old p lo p (omega arith) w.below) h;
  }

  pub held-part : {old new : List ℕ} {p before inside : ℕ} (place lo : ℕ) (t : Rule) → Wrote old new p 7 (14 ∷ before ∷ 0 ∷ place ∷ 13 ∷ inside ∷ 0 ∷ []) → 1 ≤ p → Inside s known old t lo p inside → PartAfter s known before new (held place t) lo (p + 7) p
  unfolding Part
  held-part place lo t w b h = (inr (marked 14 place lo t w b h), after w (omega arith) b (λ e. omega arith))

  pub ahead-part : {old new : List ℕ} {p before inside : ℕ} (place lo : ℕ) (t : Rule) → Wrote old new p 7 (15 ∷ before ∷ 0 ∷ place ∷ 13 ∷ inside ∷ 0 ∷ []) → 1 ≤ p → Inside s known old t lo p inside → PartAfter s known before new (look place false t) lo (p + 7) p
  unfolding Part
  ahead-part place lo t w b h = (marked 15 place lo t w b h, after w (omega arith) b (λ e. omega arith))

  pub not-ahead-part : {old new : List ℕ} {p before inside : ℕ} (place lo : ℕ) (t : Rule) → Wrote old new p 8 (17 ∷ before ∷ 0 ∷ place ∷ 16 ∷ inside ∷ 0 ∷ 0 ∷ []) → 1 ≤ p → Inside s known old t lo p inside
      → PartAfter s known before new (look place true t) lo (p + 8) p
  unfolding Part
  not-ahead-part {old} {new} {p} {before} {inside} place lo t w b h = (
    record {
      node = node w (omega arith) b lo (inside-order old t lo p inside h);
      origin = w.at 3 (omega arith);
      opening = w.at 4 (omega arith);
      inside = inside;
      is = w.at 5 (omega arith);
      holds = inside-same s known old new t lo p inside (below-same new old p lo p (omega arith) w.below) h;
    },
    after w (omega arith) b (λ e. omega arith),
  )

  pub plain-part : {old new : List ℕ} {p before inside : ℕ} (lo : ℕ) (t : Rule) → Wrote old new p 3 (10 ∷ before ∷ inside ∷ []) → 1 ≤ p → Inside s known old t lo p inside → PartAfter s known before new t lo (p + 3) p
  unfolding Part
  plain-part {old} {new} {p} {before} {inside} lo t w b h =
      (part t (inside-same s known old new t lo p inside (below-same new old p lo p (omega arith) w.below) h), after w (omega arith) b (λ e. omega arith))
    where
      last : Last new lo (p + 3) p 3 10
      last = node w (omega arith) b lo (inside-order old t lo p inside h)

      part : (t : Rule) → Inside s known new t lo p inside → Part s known new t lo (p + 3) p
      part empty k = record { node = last; inside = inside; is = w.at 2 (omega arith); holds = k }
      part (item place i) k = absurd k
      part (seq x y) k = record { node = last; inside = inside; is = w.at 2 (omega arith); holds = k }
      part (alt bs bar u) k = record { node = last; inside = inside; is = w.at 2 (omega arith); holds = k }
      part (group n u) k = absurd k
      part (repeat place n m g u) k = absurd k
      part (held place u) k = absurd k
      part (look place negative u) k = absurd k

  -- Sequences -----------------------------------------------------------------------

  pub chain-none : (a : List ℕ) (lo : ℕ) → Chain s known a empty lo lo 0
  unfolding Part
  chain-none a lo = (refl, omega arith)

  chain-of : (a : List ℕ) (lo top p mid before : ℕ) (x y : Rule) → Chain s known a x lo mid before → PartAfter s known before a y mid top p → Chain s known a (seq x y) lo top p
  unfolding Part
  chain-of a lo top p mid before x y h k = record { mid = mid; before = before; link = before-plain a p k.1.plain ∙ k.1.link; left = h; right = k.0 }

  -- one part more
  module _ (old new : List ℕ) (lo top before p next : ℕ) (x y : Rule) (h : Chain s known old x lo top before) (e : Below top new old) (k : PartAfter s known before new y top next p) where
    pub so_far_more : SoFar s known new (repeatable x y) lo next p
    so_far_more = (top, before, chain_same s known old new x lo top before (below-same new old top lo top (omega arith) e) h, k)

    pub chain_more : Chain s known new (seq x y) lo next p
    chain_more = chain-of new lo next p top before x y (chain_same s known old new x lo top before (below-same new old top lo top (omega arith) e) h) k

  pub so-far-chain : (q : Sequence) (a : List ℕ) (lo top p : ℕ) → SoFar s known a q lo top p → Chain s known a (whole q) lo top p
  unfolding whole
  so-far-chain (unrepeatable t) a lo top p h = h
  so-far-chain (repeatable x y) a lo top p h = chain-of a lo top p h.0 h.1 x y h.2 h.3
  so-far-chain (repeated t) a lo top p h = h

  -- a repeat of a part below it
  repeat-part : {old new : List ℕ} {p last least place other : ℕ} (mid : ℕ) (most : Most) (greed : Greed) (y : Rule) → Wrote old new p 8 (7 ∷ 8 ∷ least ∷ most_word most ∷ greed_word greed ∷ place ∷ last ∷ other ∷ []) → 1 ≤ p → Part s known old y mid p last
      → Part s known new (repeat place least most greed y) mid (p + 8) p
  unfolding Part
  repeat-part {old} {new} {p} {last} mid most greed y w b h =
      let k = part-here s known old y mid p last h in
      record {
        node = node w (omega arith) b mid (omega (arith, k.low, k.high));
        loop = w.at 1 (omega arith);
        least = w.at 2 (omega arith);
        most = w.at 3 (omega arith);
        greed = w.at 4 (omega arith);
        origin = w.at 5 (omega arith);
        body = last;
        is = w.at 6 (omega arith);
        holds = part_same s known old new y mid p last (below-same new old p mid p (omega arith) w.below) h;
      }

  -- the last part repeated
  pub repeat-chain : {old new : List ℕ} {p last least place : ℕ} (lo : ℕ) (most : Most) (greed : Greed) (x y : Rule) → Wrote old new p 8 (7 ∷ 8 ∷ least ∷ most_word most ∷ greed_word greed ∷ place ∷ last ∷ get_or old (last + 1) 0 ∷ []) → 1 ≤ p
      → SoFar s known old (repeatable x y) lo p last → Chain s known new (seq x (repeat place least most greed y)) lo (p + 8) p
  unfolding Part
  repeat-chain {old} {new} {p} {last} {least} {place} lo most greed x y w b h =
      let mid = h.0 in
      let k = part-here s known old y mid p last h.3.0 in
      record {
        mid = mid;
        before = h.1;
        link = before-repeat new p (head w (omega arith) b) ∙ w.at 7 (omega arith) ∙ h.3.1.link;
        left = chain_same s known old new x lo mid h.1 (below-same new old p lo mid (omega (arith, k.low, k.high)) w.below) h.2;
        right = repeat-part mid most greed y w b h.3.0;
      }

  -- the last part repeated, and alone in a held part
  pub possessive-chain : {old mid new : List ℕ} {p last least place before : ℕ} (lo own : ℕ) (most : Most) (greed : Greed) (x y : Rule) → Wrote old mid p 8 (7 ∷ 8 ∷ least ∷ most_word most ∷ greed_word greed ∷ place ∷ last ∷ 0 ∷ []) → before ≡ get_or old (last + 1) 0
      → Wrote mid new (p + 8) 7 (14 ∷ before ∷ 0 ∷ own ∷ 13 ∷ p ∷ 0 ∷ []) → 1 ≤ p → SoFar s known old (repeatable x y) lo p last → Chain s known new (seq x (held own (seq empty (repeat place least most greed y)))) lo (p + 15) (p + 8)
  unfolding Part
  possessive-chain {old} {mid} {new} {p} {last} {least} {place} {before} lo own most greed x y w e v b h =
      let low = h.0 in
      let k = part-here s known old y low p last h.3.0 in
      let r : Inside s known mid (seq empty (repeat place least most greed y)) low (p + 8) p = record {
        mid = low;
        before = 0;
        link = before-repeat mid p (head w (omega arith) b) ∙ w.at 7 (omega arith);
        left = (refl, omega arith);
        right = repeat-part low most greed y w b h.3.0;
      } in
      let z : p + 8 + 7 ≡ p + 15 = omega arith in
      let t = seq empty (repeat place least most greed y) in
      let same : before ≡ h.1 = e ∙ h.3.1.link in
      let kept : Chain s known new x lo low h.1 = chain_same s known old new x lo low h.1 (λ i l u. v.below i (omega (arith, k.low, k.high)) ∙ w.below i (omega (arith, k.low, k.high))) h.2 in
      rw z at (chain-of new lo (p + 8 + 7) (p + 8) low before x (held own t) (rw same kept) (held-part own low t v (omega arith) r))

  -- Alternations --------------------------------------------------------------------

  pub chain-inside : (t : Rule) (a : List ℕ) (lo top p : ℕ) → Chain s known a t lo top p → Inside s known a t lo top p
  unfolding Part
  chain-inside empty a lo top p h = h
  chain-inside (item place i) a lo top p h = h
  chain-inside (seq x y) a lo top p h = h
  chain-inside (alt bs bar t) a lo top p h = absurd h
  chain-inside (group n t) a lo top p h = h
  chain-inside (repeat place n m g t) a lo top p h = h
  chain-inside (held place t) a lo top p h = h
  chain-inside (look place negative t) a lo top p h = h

  -- branches of which the last has no node yet: its last part is at `last`, and the branch before it at `before`
  abbrev pub Pending : List ℕ → Branches → (lo top before last : ℕ) → Type 0
  Pending a (one t) lo top before last = (before ≡ 0) × Chain s known a t lo top last
  Pending a (also bs bar t) lo top before last = (mid : ℕ) × Preceding s known a bs bar lo mid before × Chain s known a t mid top last

  -- its node is written behind it
  put : {old new : List ℕ} {p n before last kind : ℕ} {ws : List ℕ} (lo mid : ℕ) (X : Region) (t : Rule) → Wrote old new p n (kind ∷ last ∷ before ∷ ws) → 3 ≤ n → 1 ≤ p → lo ≤ mid → X lo mid before → Chain s known old t mid p last → Branch new kind X (Chain s known new t) lo (p + n) p
  put {old} {new} {p} {n} {before} {last} lo mid X t w three b l x h =
      let o = chain-order s known old t mid p last h in
      record {
        node = record { some = b; low = omega arith; high = omega arith; is = head w (omega arith) b };
        inside = last;
        of = w.at 1 (omega arith);
        before = before;
        link = w.at 2 (omega arith);
        mid = mid;
        left = x;
        right = chain_same s known old new t mid p last (below-same new old p mid p (omega arith) w.below) h;
      }

  put-behind : {old new : List ℕ} {p n before last kind : ℕ} {ws : List ℕ} (lo bar : ℕ) (bs : Branches) (t : Rule) → Wrote old new p n (kind ∷ last ∷ before ∷ ws) → 3 ≤ n → 1 ≤ p → Pending old (also bs bar t) lo p before last
      → Branch new kind (Preceding s known new bs bar) (Chain s known new t) lo (p + n) p
  put-behind {old} {new} {p} {n} {before} {last} lo bar bs t w three b h =
      let mid = h.0 in
      let k = several-node s known old bs lo mid before h.1.earlier in
      let o = chain-order s known old t mid p last h.2 in
      put lo mid (Preceding s known new bs bar) t w three b (omega (arith, k.low, k.high)) (preceding-same s known old new bs bar lo mid before (below-same new old p lo mid o w.below) h.1) h.2

  branch-stands : {old new : List ℕ} {p before last word : ℕ} (lo : ℕ) (bs : Branches) → Wrote old new p 4 (5 ∷ last ∷ before ∷ word ∷ []) → 1 ≤ p → Pending old bs lo p before last → Several s known new bs lo (p + 4) p
  unfolding Part
  branch-stands lo (one t) w b h = put lo lo Nothing t w (omega arith) b (omega arith) (h.0, omega arith) h.1
  branch-stands lo (also bs bar t) w b h = put-behind lo bar bs t w (omega arith) b h

  -- the node of a branch that another follows, with the number of the bar between them
  pub branch-put : {old new : List ℕ} {p before last word : ℕ} (lo bar : ℕ) (bs : Branches) → Wrote old new p 4 (5 ∷ last ∷ before ∷ word ∷ []) → word ≡ bar_word bs bar → 1 ≤ p → Pending old bs lo p before last → Preceding s known new bs bar lo (p + 4) p
  branch-put lo bar bs w e b h = record { earlier = branch-stands lo bs w b h; fits = omega arith; bar = w.at 3 (omega arith) ∙ e }

  -- the node of the last branch, where there are others
  pub last-put : {old new : List ℕ} {p before last : ℕ} (lo : ℕ) (bs : Branches) → Wrote old new p 3 (6 ∷ last ∷ before ∷ []) → 1 ≤ p → (before ≡ 0 → ⊥) → Pending old bs lo p before last → Inside s known new (alternatives bs) lo (p + 3) p
  unfolding Part alternatives
  last-put lo (one t) w b ne h = absurd (ne h.0)
  last-put lo (also bs bar t) w b ne h = put-behind lo bar bs t w (omega arith) b h

  -- a single branch is no alternation
  pub single-branch : (a : List ℕ) (lo top before last : ℕ) (bs : Branches) → before ≡ 0 → Pending a bs lo top before last → Inside s known a (alternatives bs) lo top last
  unfolding alternatives
  single-branch a lo top before last (one t) e h = chain-inside t a lo top last h.1
  single-branch a lo top before last (also bs bar t) e h = let n = several-node s known a bs lo h.0 before h.1.earlier in absurd (omega (arith, n.some))
