-- An alternation: its last branch, then a loop over the branches before it, each of which falls back on the one after it.
use Rattle.std.specs.Prelude.{Option}
use mathlib.Core.Path.{◌≡◌, refl, ap, ◌∙◌}
use mathlib.Core.List.{List}
use mathlib.Core.Option.{none}
use Prim.Native.Nat.{ℕ, ◌+◌, ◌≤◌, ◌<◌, max}
use native.Mathlib.Omega.{arith}
use lib.ListN.{get_or, length}
use Rattle.syntax.specs.Limits.{rule_area_need}
use Rattle.syntax.specs.Reading.{first_some, unresolved, unresolved_in}
use Rattle.syntax.specs.Names.{Names}
use Rattle.syntax.specs.Tree.{Rule, alt, Branches, one, also}
use Rattle.syntax.specs.Compiled.{Compiled, CompiledBranches}
use Rattle.linker.specs.Nodes.{Region, Nothing, Branch, Chain, Several, Preceding}
use Rattle.linker.specs.Linking.{Outside, Fits, FitAll, Stands, StandAll, noted, Made, MadeAll, Links, LinksAll}
use Rattle.linker.specs.Stores.{PutTwo}
use Rattle.linker.proofs.Regions.{chain-order, chain-below, several-node, several-same}
use Rattle.linker.proofs.Compiled.{keep, keep_all}
use Rattle.linker.proofs.Made.{outside-then, outside_wider, none_left, none_right, noted-first}
use Rattle.linker.proofs.Stores.{moved}

-- One branch ------------------------------------------------------------------------

-- a branch node that is written, with what it holds below it from mid on
pub record Branched (groups r : ℕ) (a c : List ℕ) (t : Rule) (mid p kind other next : ℕ) (sofar : Option ℕ) (entry : ℕ) (found : Option ℕ) : Type 0 where
  pub outside : Outside mid (p + 3) a c
  pub is : get_or c p 0 ≡ kind
  pub goes : get_or c (p + 1) 0 ≡ entry
  pub fails : get_or c (p + 2) 0 ≡ other
  pub inner : unresolved groups t ≡ none → Compiled c mid p t entry next r
  pub first : found ≡ noted (unresolved groups t) sofar

fits_one : (groups r : ℕ) (t : Rule) → FitAll groups r (one t) → Fits groups r t
fits_one groups r t f = record { few = f.few; proper = f.proper; room = f.room }

pub fits_last : (groups r bar : ℕ) (bs : Branches) (t : Rule) → FitAll groups r (also bs bar t) → Fits groups r t
fits_last groups r bar bs t f = record { few = f.few; proper = f.proper.1; room = omega (arith, f.room) }

pub fits-others : (groups r bar : ℕ) (bs : Branches) (t : Rule) → FitAll groups r (also bs bar t) → FitAll groups r bs
fits-others groups r bar bs t f = record { few = f.few; proper = f.proper.0; room = omega (arith, f.room) }

module _ (rule : List ℕ) (known : Names) where
  pub branched : (groups r : ℕ) (a b c : List ℕ) (X : Region) (t : Rule) (lo top p kind other next : ℕ) (sofar : Option ℕ) (entry : ℕ) (found : Option ℕ) → (h : Branch a kind X (Chain rule known a t) lo top p)
      → Made groups r t h.mid p a b next sofar entry found → PutTwo b c (p + 1) entry other → Branched groups r a c t h.mid p kind other next sofar entry found
  branched groups r a b c X t lo top p kind other next sofar entry found h m w =
      let n = chain-order rule known a t h.mid p h.inside h.right in
      record {
        outside = outside-then h.mid p (p + 1) (p + 1 + 2) h.mid (p + 3) a b c (omega arith) (omega arith) (omega arith) (omega arith) m.outside w.rest;
        is = w.rest.below p (omega arith) ∙ m.outside.above p (omega arith) ∙ h.node.is;
        goes = w.is;
        fails = moved c (p + 1 + 1) (p + 2) (omega arith) w.also;
        inner = λ e. keep b c h.mid p h.mid p (omega arith) (omega arith) (λ i _ v. w.rest.below i (omega arith)) t entry next r (m.stands e);
        first = m.first;
      }

  -- what is asked of a branch, in the code's words
  pub record BranchAt (groups r : ℕ) (a : List ℕ) (p : ℕ) : Type 0 where
    pub some : 1 ≤ p
    pub fits : p + 3 ≤ length a
    pub small : p + 3 ≤ rule_area_need
    pub lower : get_or a (p + 1) 0 < p
    pub inside : Stands (Chain rule known a) groups r a (get_or a (p + 1) 0)

  pub branch-at : (groups r : ℕ) (a : List ℕ) (X : Region) (t : Rule) (lo top p kind : ℕ) → top ≤ length a → top ≤ rule_area_need → Fits groups r t → Branch a kind X (Chain rule known a t) lo top p → BranchAt groups r a p
  branch-at groups r a X t lo top p kind l s f h =
      let u = h.node.high in
      record {
        some = h.node.some;
        fits = omega arith;
        small = omega arith;
        lower = rw h.of (chain-below rule known a t h.mid p h.inside p (omega arith) h.node.some h.right);
        inside = rw h.of (record { tree = t; lo = h.mid; top = p; holds = h.right; fits = f; within = omega arith; small = omega arith });
      }

  -- Branches ----------------------------------------------------------------------------

  module _ (groups r : ℕ) (a c : List ℕ) (t : Rule) (lo top p other next : ℕ) (sofar : Option ℕ) (entry : ℕ) (found : Option ℕ) where
    made_one : (h : Branch a 5 Nothing (Chain rule known a t) lo top p) → Branched groups r a c t h.mid p 5 other next sofar entry found → MadeAll groups r (one t) lo top a c other next sofar p found
    unfolding unresolved Compiled
    made_one h w =
        let l = h.left.1 in
        let u = h.node.high in
        record {
          outside = outside_wider h.mid (p + 3) lo top a c l u w.outside;
          near = omega arith;
          stands = λ e. record {
            node = record { low = h.node.low; high = u; is = w.is };
            body = entry;
            goes = w.goes;
            fails = w.fails;
            inner = keep c c h.mid p lo top l (omega arith) (λ i _ _. refl) t entry next r (w.inner e);
          };
          first = w.first;
        }

    -- the branch at p, then those before it
    record Joined (d : List ℕ) (bs : Branches) (kind pc : ℕ) (last : Option ℕ) : Type 0 where
      outside : Outside lo top a d
      near : pc ≤ top
      is : get_or d p 0 ≡ kind
      goes : get_or d (p + 1) 0 ≡ entry
      fails : get_or d (p + 2) 0 ≡ other
      others : first_some (unresolved_in groups bs) (unresolved groups t) ≡ none → CompiledBranches d lo top bs pc p next r
      inner : first_some (unresolved_in groups bs) (unresolved groups t) ≡ none → Compiled d lo top t entry next r
      first : last ≡ noted (first_some (unresolved_in groups bs) (unresolved groups t)) sofar

    joined : (d : List ℕ) (bs : Branches) (bar kind pc : ℕ) (last : Option ℕ) → (h : Branch a kind (Preceding rule known a bs bar) (Chain rule known a t) lo top p) → Branched groups r a c t h.mid p kind other next sofar entry found
        → MadeAll groups r bs lo h.mid c d p next found pc last → Joined d bs kind pc last
    joined d bs bar kind pc last h w m =
        let u = h.node.high in
        let q = several-node rule known a bs lo h.mid h.before h.left.earlier in
        let l : lo ≤ h.mid = omega (arith, q.low, q.high) in
        let n = chain-order rule known a t h.mid p h.inside h.right in
        let us = unresolved_in groups bs in
        let ut = unresolved groups t in
        record {
          outside = outside-then h.mid (p + 3) lo h.mid lo top a c d l u (omega arith) (omega arith) w.outside m.outside;
          near = omega (arith, m.near);
          is = m.outside.above p n ∙ w.is;
          goes = m.outside.above (p + 1) (omega arith) ∙ w.goes;
          fails = m.outside.above (p + 2) (omega arith) ∙ w.fails;
          others = λ e. keep_all d d lo h.mid lo top (omega arith) (omega arith) (λ i _ _. refl) bs pc p next r (m.stands (none_left us ut e));
          inner = λ e. keep c d h.mid p lo top l (omega arith) (λ i v _. m.outside.above i v) t entry next r (w.inner (none_right us ut e));
          first = m.first ∙ ap (noted us) w.first ∙ noted-first us ut sofar;
        }

    made-also : (d : List ℕ) (bs : Branches) (bar pc : ℕ) (last : Option ℕ) → (h : Branch a 5 (Preceding rule known a bs bar) (Chain rule known a t) lo top p) → Branched groups r a c t h.mid p 5 other next sofar entry found
        → MadeAll groups r bs lo h.mid c d p next found pc last → MadeAll groups r (also bs bar t) lo top a d other next sofar pc last
    unfolding unresolved Compiled
    made-also d bs bar pc last h w m =
        let j = joined d bs bar 5 pc last h w m in
        record {
          outside = j.outside;
          near = j.near;
          stands = λ e. record { last = p; others = j.others e; node = record { low = h.node.low; high = h.node.high; is = j.is }; body = entry; goes = j.goes; fails = j.fails; inner = j.inner e };
          first = j.first;
        }

    pub made-alt : (d : List ℕ) (bs : Branches) (bar pc : ℕ) (last : Option ℕ) → (h : Branch a 6 (Preceding rule known a bs bar) (Chain rule known a t) lo top p) → Branched groups r a c t h.mid p 6 other next sofar entry found
        → MadeAll groups r bs lo h.mid c d p next found pc last → Made groups r (alt bs bar t) lo top a d next sofar pc last
    unfolding unresolved Compiled
    made-alt d bs bar pc last h w m =
        let j = joined d bs bar 6 pc last h w m in
        record {
          outside = j.outside;
          near = omega (arith, j.near);
          stands = λ e. record { last = p; others = j.others e; node = record { low = h.node.low; high = omega (arith, h.node.high); is = j.is }; body = entry; goes = j.goes; inner = j.inner e };
          first = j.first;
        }

  -- The loop ------------------------------------------------------------------------------

  -- the branches that are left, the latest of them at p
  record Remains (groups r : ℕ) (old a : List ℕ) (bs : Branches) (lo top other next : ℕ) (sofar : Option ℕ) (p after : ℕ) (found : Option ℕ) : Type 0 where
    rest : Branches
    mid : ℕ
    ends : mid ≤ top
    stands : Several rule known a rest lo mid p
    fits : FitAll groups r rest
    whole : (new : List ℕ) (at : ℕ) (last : Option ℕ) → MadeAll groups r rest lo mid a new after next found at last → MadeAll groups r bs lo top old new other next sofar at last

  -- all are made, or some are left and whatever is made of them makes all
  record LeftAll (groups r : ℕ) (old a : List ℕ) (bs : Branches) (lo top other next : ℕ) (sofar : Option ℕ) (p after : ℕ) (found : Option ℕ) : Type 0 where
    near : after ≤ max other top
    long : length a ≡ length old
    done : p ≡ 0 → MadeAll groups r bs lo top old a other next sofar after found
    more : 1 ≤ p → Remains groups r old a bs lo top other next sofar p after found

  pub AllGoing : (groups r : ℕ) (old a : List ℕ) (first other next : ℕ) (sofar : Option ℕ) (p after : ℕ) (found : Option ℕ) → Type 0
  AllGoing groups r old a first other next sofar p after found = (bs : Branches) (lo top : ℕ) → Several rule known old bs lo top first → FitAll groups r bs → LeftAll groups r old a bs lo top other next sofar p after found

  pub all_start : (groups r : ℕ) (a : List ℕ) (first other next : ℕ) (sofar : Option ℕ) → AllGoing groups r a a first other next sofar first other sofar
  unfolding AllGoing
  all_start groups r a first other next sofar bs lo top h f =
      let n = several-node rule known a bs lo top first h in
      record {
        near = omega arith;
        long = refl;
        done = λ e. absurd (omega (arith, n.some));
        more = λ l. record { rest = bs; mid = top; ends = omega arith; stands = h; fits = f; whole = λ new at last m. m };
      }

  module _ (groups r : ℕ) (old a : List ℕ) (first other next : ℕ) (sofar : Option ℕ) (p after : ℕ) (found : Option ℕ) where
    pub all_end : p ≡ 0 → AllGoing groups r old a first other next sofar p after found → LinksAll rule known groups r old a first other next sofar after found
    unfolding AllGoing LinksAll
    all_end e g bs lo top h f = (g bs lo top h f).done e

    -- what is asked of the next branch
    pub record AllTurn : Type 0 where
      pub branch : BranchAt groups r a p
      pub near : after ≤ rule_area_need
      pub lower : get_or a (p + 2) 0 < p

    pub all-turn : 1 ≤ p → other ≤ rule_area_need → StandAll rule known groups r old first → AllGoing groups r old a first other next sofar p after found → AllTurn
    unfolding AllGoing Chain
    all-turn some n s g = go k.rest k.stands k.fits
      where
        l : LeftAll groups r old a s.branches s.lo s.top other next sofar p after found
        l = g s.branches s.lo s.top s.holds s.fits

        k : Remains groups r old a s.branches s.lo s.top other next sofar p after found
        k = l.more some

        short : k.mid ≤ length a
        short = omega (arith, k.ends, l.long, s.within)

        small : k.mid ≤ rule_area_need
        small = omega (arith, k.ends, s.small)

        near : after ≤ rule_area_need
        near = omega (arith, l.near, s.small)

        go : (rest : Branches) → Several rule known a rest s.lo k.mid p → FitAll groups r rest → AllTurn
        go (one t) h f = record { branch = branch-at groups r a Nothing t s.lo k.mid p 5 short small (fits_one groups r t f) h; near = near; lower = rw h.link (omega (arith, h.left.0)) }
        go (also bs bar t) h f =
            let q = several-node rule known a bs s.lo h.mid h.before h.left.earlier in
            let o = chain-order rule known a t h.mid p h.inside h.right in
            record { branch = branch-at groups r a (Preceding rule known a bs bar) t s.lo k.mid p 5 short small (fits_last groups r bar bs t f) h; near = near; lower = rw h.link (omega (arith, q.high)) }

    -- the branch at p is linked, and its node written
    module _ (b c : List ℕ) (before entry : ℕ) (last : Option ℕ) (some : 1 ≤ p) (is : before ≡ get_or a (p + 2) 0) (m : Links (Chain rule known a) groups r a b (get_or a (p + 1) 0) next found entry last) (w : PutTwo b c (p + 1) entry after) where
      left_step : (bs : Branches) (lo top : ℕ) → LeftAll groups r old a bs lo top other next sofar p after found → LeftAll groups r old c bs lo top other next sofar before p last
      unfolding Links Chain
      left_step bs lo top l = go k.rest k.stands k.fits k.whole
        where
          k : Remains groups r old a bs lo top other next sofar p after found
          k = l.more some

          go : (rest : Branches) → Several rule known a rest lo k.mid p → FitAll groups r rest
              → ((new : List ℕ) (x : ℕ) (y : Option ℕ) → MadeAll groups r rest lo k.mid a new after next found x y → MadeAll groups r bs lo top old new other next sofar x y)
              → LeftAll groups r old c bs lo top other next sofar before p last
          go (one t) h f whole =
              let z : before ≡ 0 = is ∙ h.link ∙ h.left.0 in
              let mt = m t h.mid p (rw h.of h.right) (fits_one groups r t f) in
              let bt = branched groups r a b c Nothing t lo k.mid p 5 after next found entry last h mt w in
              record {
                near = omega (arith, h.node.high, k.ends);
                long = bt.outside.long ∙ l.long;
                done = λ _. whole c p last (made_one groups r a c t lo k.mid p after next found entry last h bt);
                more = λ e. absurd (omega arith);
              }
          go (also bs' bar t) h f whole =
              let q = several-node rule known a bs' lo h.mid h.before h.left.earlier in
              let o = chain-order rule known a t h.mid p h.inside h.right in
              let u = h.node.high in
              let mt = m t h.mid p (rw h.of h.right) (fits_last groups r bar bs' t f) in
              let bt = branched groups r a b c (Preceding rule known a bs' bar) t lo k.mid p 5 after next found entry last h mt w in
              record {
                near = omega (arith, k.ends);
                long = bt.outside.long ∙ l.long;
                done = λ e. absurd (omega (arith, q.some, is, h.link));
                more = λ e. record {
                  rest = bs';
                  mid = h.mid;
                  ends = omega (arith, k.ends);
                  stands = rw (is ∙ h.link) (several-same rule known a c bs' lo h.mid h.before (λ i _ y. bt.outside.below i y) h.left.earlier);
                  fits = fits-others groups r bar bs' t f;
                  whole = λ new at z mb. whole new at z (made-also groups r a c t lo k.mid p after next found entry last new bs' bar at z h bt mb);
                };
              }

      pub all-step : AllGoing groups r old a first other next sofar p after found → AllGoing groups r old c first other next sofar before p last
      unfolding AllGoing
      all-step g bs lo top h f = left_step bs lo top (g bs lo top h f)
