-- What stands compiled in a region stands so in every area that holds the same there, and in a wider region.
use mathlib.Core.Path.{◌≡◌, ◌∙◌}
use mathlib.Core.Bool.{true, false}
use mathlib.Core.List.{List}
use mathlib.Core.Logic.{inl, inr}
use Prim.Native.Nat.{ℕ, ◌+◌, ◌≤◌, ◌<◌}
use native.Mathlib.Omega.{arith}
use lib.ListN.{get_or}
use Rattle.syntax.specs.Tree.{Item, byte_in, assert, reference, Rule, empty, item, seq, alt, group, repeat, held, look, Branches, one, also}
use Rattle.syntax.specs.Compiled.{Node, CompiledItem, CompiledMarked, CompiledForbidden, Compiled, CompiledBranches}
use Rattle.linker.proofs.Regions.{Same, same_class}

module _ (a b : List ℕ) (lo top lo' top' : ℕ) (l : lo' ≤ lo) (h : top ≤ top') (same : Same lo top a b) where
  node-keep : {pc size kind : ℕ} → 1 ≤ size → Node a lo top pc size kind → Node b lo' top' pc size kind
  node-keep {pc} w n = record { low = omega (arith, n.low); high = omega (arith, n.high); is = same pc n.low (omega (arith, n.high)) ∙ n.is }

  -- a number of a node
  word : {pc size kind x : ℕ} (k : ℕ) → k < size → Node a lo top pc size kind → get_or a (pc + k) 0 ≡ x → get_or b (pc + k) 0 ≡ x
  word {pc} k w n e = same (pc + k) (omega (arith, n.low)) (omega (arith, n.high)) ∙ e

  item-keep : (i : Item) (place pc next : ℕ) → CompiledItem a lo top i place pc next → CompiledItem b lo' top' i place pc next
  item-keep (byte_in folded s) place pc next c =
      record {
        node = node-keep (omega arith) c.node;
        goes = word 1 (omega arith) c.node c.goes;
        origin = word 2 (omega arith) c.node c.origin;
        set = λ x u. same_class a b lo top (pc + 3) x same (omega (arith, c.node.low)) (omega (arith, c.node.high)) u ∙ c.set x u;
      }
  item-keep (assert k) place pc next c =
      record {
        node = node-keep (omega arith) c.node;
        goes = word 1 (omega arith) c.node c.goes;
        origin = word 2 (omega arith) c.node c.origin;
        which = word 3 (omega arith) c.node c.which;
      }
  item-keep (reference folded n) place pc next c =
      record {
        node = node-keep (omega arith) c.node;
        goes = word 1 (omega arith) c.node c.goes;
        origin = word 2 (omega arith) c.node c.origin;
        span = word 3 (omega arith) c.node c.span;
        fits = c.fits;
        folds = word 4 (omega arith) c.node c.folds;
      }

  -- what is compiled in a region of one area, by where it stands and goes on and its first register, is so in the other
  abbrev Keeps : (X Y : (pc next r : ℕ) → Type 0) → Type 0
  Keeps X Y = (pc next r : ℕ) → X pc next r → Y pc next r

  marked-keep : (kind : ℕ) (X Y : (pc next r : ℕ) → Type 0) → Keeps X Y → Keeps (CompiledMarked a lo top kind X) (CompiledMarked b lo' top' kind Y)
  marked-keep kind X Y f pc next r c =
      record {
        room = c.room;
        opening = node-keep (omega arith) c.opening;
        body = c.body;
        enters = word 1 (omega arith) c.opening c.enters;
        opener = word 2 (omega arith) c.opening c.opener;
        close = c.close;
        inner = f c.body c.close (r + 2) c.inner;
        node = node-keep (omega arith) c.node;
        goes = word 1 (omega arith) c.node c.goes;
        closer = word 2 (omega arith) c.node c.closer;
      }

  forbidden-keep : (place : ℕ) (X Y : (pc next r : ℕ) → Type 0) → Keeps X Y → Keeps (CompiledForbidden a lo top place X) (CompiledForbidden b lo' top' place Y)
  forbidden-keep place X Y f pc next r c =
      record {
        room = c.room;
        opening = node-keep (omega arith) c.opening;
        body = c.body;
        enters = word 1 (omega arith) c.opening c.enters;
        opener = word 2 (omega arith) c.opening c.opener;
        goes = word 3 (omega arith) c.opening c.goes;
        close = c.close;
        inner = f c.body c.close (r + 2) c.inner;
        node = node-keep (omega arith) c.node;
        closer = word 2 (omega arith) c.node c.closer;
        origin = word 3 (omega arith) c.node c.origin;
      }

  mutual
    unfolding Compiled

    pub keep : (t : Rule) (pc next r : ℕ) → Compiled a lo top t pc next r → Compiled b lo' top' t pc next r
    keep empty pc next r c = c
    keep (item place i) pc next r c = item-keep i place pc next c
    keep (seq x y) pc next r c = record { mid = c.mid; left = keep x pc c.mid r c.left; right = keep y c.mid next r c.right }
    keep (alt bs bar t) pc next r c =
        record {
          last = c.last;
          others = keep_all bs pc c.last next r c.others;
          node = node-keep (omega arith) c.node;
          body = c.body;
          goes = word 1 (omega arith) c.node c.goes;
          inner = keep t c.body next r c.inner;
        }
    keep (group n t) pc next r c =
        record {
          room = c.room;
          opening = node-keep (omega arith) c.opening;
          body = c.body;
          enters = word 1 (omega arith) c.opening c.enters;
          opener = word 2 (omega arith) c.opening c.opener;
          close = c.close;
          inner = keep t c.body c.close (r + 2) c.inner;
          node = node-keep (omega arith) c.node;
          goes = word 1 (omega arith) c.node c.goes;
          closer = word 2 (omega arith) c.node c.closer;
          span = word 3 (omega arith) c.node c.span;
          fits = c.fits;
        }
    keep (repeat place least most g t) pc next r c =
        record {
          room = c.room;
          bounds = c.bounds;
          kind = c.kind;
          entered = c.entered;
          node = node-keep (omega arith) c.node;
          loop = word 1 (omega arith) c.node c.loop;
          least = word 2 (omega arith) c.node c.least;
          most = word 3 (omega arith) c.node c.most;
          greed = word 4 (omega arith) c.node c.greed;
          register = word 5 (omega arith) c.node c.register;
          body = c.body;
          enters = word 6 (omega arith) c.node c.enters;
          goes = word 7 (omega arith) c.node c.goes;
          inner = keep t c.body (pc + 1) (r + 2) c.inner;
        }
    keep (held place t) pc next r (inl c) = inl (c.0, record { node = node-keep (omega arith) c.1.node; goes = word 1 (omega arith) c.1.node c.1.goes; origin = word 2 (omega arith) c.1.node c.1.origin })
    keep (held place t) pc next r (inr c) = inr (marked-keep 14 (Compiled a lo top t) (Compiled b lo' top' t) (λ q n s d. keep t q n s d) pc next r c)
    keep (look place false t) pc next r c = marked-keep 15 (Compiled a lo top t) (Compiled b lo' top' t) (λ q n s d. keep t q n s d) pc next r c
    keep (look place true t) pc next r c = forbidden-keep place (Compiled a lo top t) (Compiled b lo' top' t) (λ q n s d. keep t q n s d) pc next r c

    pub keep_all : (bs : Branches) (pc other next r : ℕ) → CompiledBranches a lo top bs pc other next r → CompiledBranches b lo' top' bs pc other next r
    keep_all (one t) pc other next r c =
        record {
          node = node-keep (omega arith) c.node;
          body = c.body;
          goes = word 1 (omega arith) c.node c.goes;
          fails = word 2 (omega arith) c.node c.fails;
          inner = keep t c.body next r c.inner;
        }
    keep_all (also bs bar t) pc other next r c =
        record {
          last = c.last;
          others = keep_all bs pc c.last next r c.others;
          node = node-keep (omega arith) c.node;
          body = c.body;
          goes = word 1 (omega arith) c.node c.goes;
          fails = word 2 (omega arith) c.node c.fails;
          inner = keep t c.body next r c.inner;
        }
