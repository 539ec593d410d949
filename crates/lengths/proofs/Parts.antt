-- A part, by its kind: where what it holds stands, that this is no deeper, and what is found of the part from what was found of that.
use Rattle.std.specs.Prelude.{None, Some, if◌then◌else◌}
use Rattle.std.specs.Option.{option_or}
use mathlib.Core.Path.{◌≡◌, refl, ◌∙◌}
use mathlib.Core.Bool.{Bool, true, false, ◌&&◌}
use mathlib.Core.List.{List}
use mathlib.Core.Logic.{inl, inr}
use mathlib.Core.Option as maybe
use mathlib.Core.Option.{none, some}
use Prim.Native.Nat.{ℕ, ◌+◌, ◌-◌, ◌≤◌}
use native.Mathlib.Omega.{arith}
use lib.Dec.{eqb}
use lib.ListN.{get_or, length}
use borrow.Author.Tests.{ne_eqb}
use Rattle.syntax.specs.declared.Greed.{Greed}
use Rattle.syntax.specs.declared.Most.{Most}
use Rattle.syntax.specs.declared.Most.TheVariants.{AtMost, Unlimited}
use Rattle.syntax.specs.Limits.{unset, bound_limit, byte_limit, length_limit, branch_limit}
use Rattle.syntax.specs.Tree.{Item, byte_in, assert, reference, Rule, item, repeat, held, branch_count, line_break}
use Rattle.syntax.specs.Compiled.{most_word}
use Rattle.syntax.specs.Lengths.{capped, item_length, least_length, shortest, unbounded}
use Rattle.syntax.specs.Reading.{first_some, dangling, unresolved, unresolved_in, idle, idle_in}
use Rattle.syntax.specs.Checkable.{lowest, unfollowed, unfollowed_in, crowded_at, crowded, crowded_in}
use Rattle.syntax.specs.WellFormed.{BoundsFit, Proper, levels}
use Rattle.linker.specs.Nodes.{Breaking, Part, Inside}
use Rattle.linker.specs.Stores.{Bracketed}
use Rattle.linker.proofs.Regions.{part-here}
use Rattle.linker.proofs.Trees.{ItemKind, for-bracketed, for-repeat, for-plain, for-item}
use Rattle.linker.specs.Linking.{noted}
use Rattle.lengths.specs.declared.Measured.{Measured}
use Rattle.lengths.specs.Measures.{idle_at, Repeated, Enclosed, form_at, Singled, Deep, Of, Finds}
use Rattle.lengths.proofs.Numbers.{noted-lowest, dangles}

-- whether a repeat has an upper bound is told by its maximum's number
most-told : (least : ℕ) (most : Most) → BoundsFit least most → eqb (most_word most) unset ≡ unbounded most
unfolding most_word unset unbounded bound_limit
most-told least (AtMost m) b = ne_eqb m 4294967295 (λ e. omega (arith, b.1))
most-told least Unlimited b = refl

-- a repeat's own place comes behind those in its body
own-found : (place : ℕ) (inner : maybe.Option ℕ) (b : Bool) → option_or (noted inner None) (if b then Some place else None) ≡ noted (first_some inner (if b then some place else none)) None
unfolding noted first_some
own-found place none true = refl
own-found place none false = refl
own-found place (some q) b = refl

module _ (a : List ℕ) (p : ℕ) where
  -- its first numbers
  pub part-begins : (depth : ℕ) → Deep Part a p depth → (1 ≤ p) × (p + 3 ≤ length a) × (get_or a p 0 ≡ 7 → p + 8 ≤ length a)
  part-begins depth d =
      let n = part-here d.rule d.known a d.tree d.lo d.top p d.holds in
      (n.some, omega (arith, n.high, d.within), λ e. let w = n.longer e in omega (arith, d.within))

  -- Groups that capture, held parts and looking ahead ----------------------------------

  pub record BracketAt (depth : ℕ) : Type 0 where
    pub fits : p + 7 ≤ length a
    pub inner : Deep Inside a (get_or a (p + 5) 0) depth

  pub bracket-at : (depth : ℕ) → Bracketed (get_or a p 0) → Deep Part a p depth → BracketAt depth
  unfolding Part
  bracket-at depth e d = for-bracketed d.rule d.known a d.lo d.top p (λ t. Proper d.groups t → levels t ≤ depth → BracketAt depth) (λ n t h q l. within t h.inside h.is h.holds q.2 l (omega (arith, h.node.high))) (λ place t h q l. within t h.inside h.is h.holds q l (omega (arith, h.node.high)))
      (λ place t h q l. within t h.inside h.is h.holds q l (omega (arith, h.node.high))) (λ place t h q l. within t h.inside h.is h.holds q l (omega (arith, h.node.high))) e d.tree d.holds d.proper d.deep
    where
      within : (t : Rule) (inside : ℕ) → get_or a (p + 5) 0 ≡ inside → Inside d.rule d.known a t d.lo p inside → Proper d.groups t → levels t ≤ depth → p + 7 ≤ d.top → BracketAt depth
      within t inside is h q l u = record {
        fits = omega (arith, d.within);
        inner = rw is (record { rule = d.rule; known = d.known; tree = t; lo = d.lo; top = p; holds = h; within = omega (arith, u, d.within); groups = d.groups; proper = q; deep = l });
      }

  pub bracket-found : (within m : Measured) → Bracketed (get_or a p 0) → Finds Inside a (get_or a (p + 5) 0) within → Enclosed a p (get_or a p 0) within m → Finds Part a p m
  unfolding Finds Part least_length unresolved idle unfollowed crowded
  bracket-found within m e f w rule known groups t lo top proper h = for-bracketed rule known a lo top p (λ t. Proper groups t → Of t m)
      (λ n t h q. let o = f rule known groups t lo p q.2 (rw h.is h.holds) in record { least = w.least ∙ rw h.node.is o.least; reference = w.reference ∙ o.reference; idle = w.idle ∙ o.idle; form = w.form ∙ rw h.node.is o.form; crowd = w.crowd ∙ o.crowd })
      (λ place t h q. let o = f rule known groups t lo p q (rw h.is h.holds) in record { least = w.least ∙ rw h.node.is o.least; reference = w.reference ∙ o.reference; idle = w.idle ∙ o.idle; form = w.form ∙ rw (h.node.is, h.origin, o.form) (noted-lowest place (unfollowed t)); crowd = w.crowd ∙ o.crowd })
      (λ place t h q. let o = f rule known groups t lo p q (rw h.is h.holds) in record { least = w.least ∙ rw h.node.is refl; reference = w.reference ∙ o.reference; idle = w.idle ∙ o.idle; form = w.form ∙ rw (h.node.is, h.origin, o.form) (noted-lowest place (unfollowed t)); crowd = w.crowd ∙ o.crowd })
      (λ place t h q. let o = f rule known groups t lo p q (rw h.is h.holds) in record { least = w.least ∙ rw h.node.is refl; reference = w.reference ∙ o.reference; idle = w.idle ∙ o.idle; form = w.form ∙ rw (h.node.is, h.origin, o.form) (noted-lowest place (unfollowed t)); crowd = w.crowd ∙ o.crowd }) e t h proper

  -- Groups that do not ------------------------------------------------------------------

  pub record PlainAt (depth : ℕ) : Type 0 where
    pub fits : p + 3 ≤ length a
    pub inner : Deep Inside a (get_or a (p + 2) 0) depth

  pub plain_at : (depth : ℕ) → get_or a p 0 ≡ 10 → Deep Part a p depth → PlainAt depth
  plain_at depth e d = for-plain d.rule d.known a d.lo d.top p (λ t. Proper d.groups t → levels t ≤ depth → PlainAt depth)
      (λ t h q l. record {
        fits = omega (arith, h.node.high, d.within);
        inner = rw h.is (record { rule = d.rule; known = d.known; tree = t; lo = d.lo; top = p; holds = h.holds; within = omega (arith, h.node.high, d.within); groups = d.groups; proper = q; deep = l });
      }) e d.tree d.holds d.proper d.deep

  pub plain-found : (m : Measured) → get_or a p 0 ≡ 10 → Finds Inside a (get_or a (p + 2) 0) m → Finds Part a p m
  unfolding Finds
  plain-found m e f rule known groups t lo top proper h = for-plain rule known a lo top p (λ t. Proper groups t → Of t m) (λ t h q. f rule known groups t lo p q (rw h.is h.holds)) e t h proper

  -- Repeats -------------------------------------------------------------------------------

  pub record RepeatAt (depth : ℕ) : Type 0 where
    pub fits : p + 8 ≤ length a
    pub some : 1 ≤ depth
    pub body : Deep Part a (get_or a (p + 6) 0) (depth - 1)

  pub repeat-at : (depth : ℕ) → get_or a p 0 ≡ 7 → Deep Part a p depth → RepeatAt depth
  unfolding Part
  repeat-at depth e d = for-repeat d.rule d.known a d.lo d.top p (λ t. Proper d.groups t → levels t ≤ depth → RepeatAt depth)
      (λ place least most g t h q l. record {
        fits = omega (arith, h.node.high, d.within);
        some = omega (arith, l);
        body = rw h.is (record { rule = d.rule; known = d.known; tree = t; lo = d.lo; top = p; holds = h.holds; within = omega (arith, h.node.high, d.within); groups = d.groups; proper = q.1; deep = omega (arith, l) });
      }) e d.tree d.holds d.proper d.deep

  pub repeat-found : (body m : Measured) → get_or a p 0 ≡ 7 → Finds Part a (get_or a (p + 6) 0) body → Repeated a p body m → Finds Part a p m
  unfolding Finds Part least_length unresolved idle idle_at unfollowed crowded
  repeat-found body m e f w rule known groups t lo top proper h = for-repeat rule known a lo top p (λ t. Proper groups t → Of t m) go e t h proper
    where
      go : (place least : ℕ) (most : Most) (g : Greed) (t : Rule) → Part rule known a (repeat place least most g t) lo top p → Proper groups (repeat place least most g t) → Of (repeat place least most g t) m
      go place least most g t h q =
          let o = f rule known groups t lo p q.1 (rw h.is h.holds) in
          record {
            least = w.least ∙ rw (h.least, o.least);
            reference = w.reference ∙ o.reference;
            idle = w.idle ∙ rw (o.idle, o.least, h.most, h.origin, most-told least most q.0) (own-found place (idle t) (unbounded most && eqb (least_length t) 0));
            form = w.form ∙ o.form;
            crowd = w.crowd ∙ o.crowd;
          }

  -- Items ---------------------------------------------------------------------------------

  pub item-found : (m : Measured) → (Bracketed (get_or a p 0) → ⊥) → (get_or a p 0 ≡ 7 → ⊥) → (get_or a p 0 ≡ 10 → ⊥) → Singled a p (get_or a p 0) m → Finds Part a p m
  unfolding Finds Part line_break least_length item_length shortest capped length_limit unresolved unresolved_in first_some dangling idle idle_in lowest unfollowed unfollowed_in crowded_at crowded crowded_in branch_count branch_limit byte_limit form_at noted
  item-found m b e₇ e₁₀ w rule known groups t lo top proper h = for-item rule known a lo top p (λ t. Of t m) go broken b e₇ e₁₀ t h
    where
      go : (place : ℕ) (i : Item) → ItemKind i (get_or a p 0) → Part rule known a (item place i) lo top p → Of (item place i) m
      go place (byte_in folded c) k h = record { least = w.least ∙ rw k; reference = w.reference ∙ rw k; idle = w.idle; form = w.form ∙ rw k; crowd = w.crowd }
      go place (assert c) k h = record { least = w.least ∙ rw k; reference = w.reference ∙ rw k; idle = w.idle; form = w.form ∙ rw k; crowd = w.crowd }
      go place (reference folded n) (inl k) (inl h) = record { least = w.least ∙ rw k; reference = w.reference ∙ rw (k, h.origin, dangles place folded n); idle = w.idle; form = w.form ∙ rw k; crowd = w.crowd }
      go place (reference folded n) (inl k) (inr h) = absurd (omega (arith, k, h.node.is))
      go place (reference folded n) (inr k) (inl h) = absurd (omega (arith, k, h.node.is))
      go place (reference folded n) (inr k) (inr h) = record { least = w.least ∙ rw k; reference = w.reference ∙ rw (k, h.origin, dangles place folded n); idle = w.idle; form = w.form ∙ rw k; crowd = w.crowd }

      -- `\R` takes one byte or two
      broken : (place : ℕ) (s : Rule) → held place s ≡ line_break place → Breaking a place lo top p → Of (held place s) m
      broken place s e h = rw e (record { least = w.least ∙ rw h.node.is; reference = w.reference ∙ rw h.node.is; idle = w.idle; form = w.form ∙ rw (h.node.is, h.origin); crowd = w.crowd })
