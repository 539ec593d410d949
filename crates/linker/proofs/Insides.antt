-- The inside of a group, or of the whole rule: nothing, an alternation, which its last branch's kind tells, or else a sequence.
use mathlib.Core.Path.{◌≡◌, refl, sym, ap, ◌∙◌}
use mathlib.Core.List.{List}
use mathlib.Core.Option as maybe
use mathlib.Core.Option.{none, some}
use Rattle.std.specs.Prelude.{Option, Some, None, Ok, Err}
use Rattle.std.proofs.lemmas.Option.{none-some, same_Some}
use Prim.Native.Nat.{ℕ, ◌+◌, ◌≤◌, ◌<◌}
use native.Mathlib.Omega.{arith}
use lib.ListN.{get_or, length}
use Rattle.syntax.specs.Limits.{spans_length}
use Rattle.syntax.specs.Reading.{unresolved}
use Rattle.syntax.specs.Names.{Names}
use Rattle.syntax.specs.Tree.{Rule, empty, item, seq, alt, group, repeat, held, look, Branches, also}
use Rattle.syntax.specs.declared.Reason.TheVariants.{NoSuchGroup}
use Rattle.name_table.specs.Table.{Spelled, names_in, NamesFit, names-are, names_fit}
use Rattle.linker.specs.Nodes.{Branch, Chain, Inside, Several, Preceding}
use Rattle.linker.specs.Linking.{Fits, FitAll, Stands, StandAll, Linkable, noted, Made, Links, LinksAll, LinksWhole}
use Rattle.linker.specs.Stores.{PutTwo}
use Rattle.linker.proofs.Regions.{part-here, chain-order, several-node, several-same}
use Rattle.linker.proofs.Made.{made-empty}
use Rattle.linker.proofs.Trees.{never-last}
use Rattle.linker.proofs.Branches.{Branched, branched, BranchAt, branch-at, fits_last, fits-others, made-alt}

module _ (rule : List ℕ) (known : Names) where
  -- nothing
  pub none-links : (groups r : ℕ) (a : List ℕ) (p next : ℕ) (sofar : Option ℕ) → p ≡ 0 → Links (Inside rule known a) groups r a a p next sofar next sofar
  unfolding Links Inside
  none-links groups r a p next sofar e empty lo top h f = made-empty groups r lo top a next sofar
  none-links groups r a p next sofar e (seq x y) lo top h f = absurd (omega (arith, (part-here rule known a y h.mid top p h.right).some))
  none-links groups r a p next sofar e (alt bs bar t) lo top h f = absurd (omega (arith, h.node.some))
  none-links groups r a p next sofar e (item place i) lo top h f = absurd h
  none-links groups r a p next sofar e (group n t) lo top h f = absurd h
  none-links groups r a p next sofar e (repeat place least most g t) lo top h f = absurd h
  none-links groups r a p next sofar e (held place t) lo top h f = absurd h
  none-links groups r a p next sofar e (look place negative t) lo top h f = absurd h

  -- a sequence: what is no last branch
  pub is-chain : (a : List ℕ) (p : ℕ) → (get_or a p 0 ≡ 6 → ⊥) → (t : Rule) (lo top : ℕ) → Inside rule known a t lo top p → Chain rule known a t lo top p
  unfolding Inside
  is-chain a p e empty lo top h = h
  is-chain a p e (seq x y) lo top h = h
  is-chain a p e (alt bs bar t) lo top h = absurd (e h.node.is)
  is-chain a p e (item place i) lo top h = absurd h
  is-chain a p e (group n t) lo top h = absurd h
  is-chain a p e (repeat place least most g t) lo top h = absurd h
  is-chain a p e (held place t) lo top h = absurd h
  is-chain a p e (look place negative t) lo top h = absurd h

  pub chain-stands : (groups r : ℕ) (a : List ℕ) (p : ℕ) → (get_or a p 0 ≡ 6 → ⊥) → Stands (Inside rule known a) groups r a p → Stands (Chain rule known a) groups r a p
  chain-stands groups r a p e s = record { tree = s.tree; lo = s.lo; top = s.top; holds = is-chain a p e s.tree s.lo s.top s.holds; fits = s.fits; within = s.within; small = s.small }

  pub chain-links : (groups r : ℕ) (a b : List ℕ) (p next : ℕ) (sofar : Option ℕ) (pc : ℕ) (found : Option ℕ) → (get_or a p 0 ≡ 6 → ⊥) → Links (Chain rule known a) groups r a b p next sofar pc found → Links (Inside rule known a) groups r a b p next sofar pc found
  unfolding Links
  chain-links groups r a b p next sofar pc found e m t lo top h f = m t lo top (is-chain a p e t lo top h) f

  -- the position lies within the area
  pub inside-fits : (groups r : ℕ) (a : List ℕ) (p : ℕ) → 1 ≤ p → Stands (Inside rule known a) groups r a p → p < length a
  unfolding Inside
  inside-fits groups r a p l s = go s.tree s.holds
    where
      go : (t : Rule) → Inside rule known a t s.lo s.top p → p < length a
      go empty h = absurd (omega (arith, h.0))
      go (seq x y) h = omega (arith, (part-here rule known a y h.mid s.top p h.right).high, s.within)
      go (alt bs bar t) h = omega (arith, h.node.high, s.within)
      go (item place i) h = absurd h
      go (group n t) h = absurd h
      go (repeat place least most g t) h = absurd h
      go (held place t) h = absurd h
      go (look place negative t) h = absurd h

  -- An alternation ----------------------------------------------------------------------

  pub for-alt : (a : List ℕ) (lo top p : ℕ) (Q : Rule → Type 0) → ((bs : Branches) (bar : ℕ) (t : Rule) → Branch a 6 (Preceding rule known a bs bar) (Chain rule known a t) lo top p → Q (alt bs bar t)) → 1 ≤ p → get_or a p 0 ≡ 6 → (t : Rule) → Inside rule known a t lo top p → Q t
  unfolding Inside
  for-alt a lo top p Q f l e empty h = absurd (omega (arith, h.0))
  for-alt a lo top p Q f l e (seq x y) h = absurd (never-last rule known a y h.mid top p h.right e)
  for-alt a lo top p Q f l e (alt bs bar t) h = f bs bar t h
  for-alt a lo top p Q f l e (item place i) h = absurd h
  for-alt a lo top p Q f l e (group n t) h = absurd h
  for-alt a lo top p Q f l e (repeat place least most g t) h = absurd h
  for-alt a lo top p Q f l e (held place t) h = absurd h
  for-alt a lo top p Q f l e (look place negative t) h = absurd h

  fits-branches : (groups r bar : ℕ) (bs : Branches) (t : Rule) → Fits groups r (alt bs bar t) → FitAll groups r (also bs bar t)
  fits-branches groups r bar bs t f = record { few = f.few; proper = f.proper; room = f.room }

  module _ (groups r : ℕ) (a : List ℕ) (p : ℕ) (l : 1 ≤ p) (e : get_or a p 0 ≡ 6) where
    -- what is asked of the last branch
    pub alt-at : Stands (Inside rule known a) groups r a p → BranchAt rule known groups r a p × (get_or a (p + 2) 0 < p)
    alt-at s = for-alt a s.lo s.top p (λ t. Fits groups r t → BranchAt rule known groups r a p × (get_or a (p + 2) 0 < p)) go l e s.tree s.holds s.fits
      where
        go : (bs : Branches) (bar : ℕ) (t : Rule) → Branch a 6 (Preceding rule known a bs bar) (Chain rule known a t) s.lo s.top p → Fits groups r (alt bs bar t) → BranchAt rule known groups r a p × (get_or a (p + 2) 0 < p)
        go bs bar t h f =
            let q = several-node rule known a bs s.lo h.mid h.before h.left.earlier in
            let o = chain-order rule known a t h.mid p h.inside h.right in
            (branch-at rule known groups r a (Preceding rule known a bs bar) t s.lo s.top p 6 s.within s.small (fits_last groups r bar bs t (fits-branches groups r bar bs t f)) h, rw h.link (omega (arith, q.high)))

    -- the last branch is linked, and its node written
    module _ (b c : List ℕ) (other next : ℕ) (sofar : Option ℕ) (entry : ℕ) (found : Option ℕ) (m : Links (Chain rule known a) groups r a b (get_or a (p + 1) 0) next sofar entry found) (w : PutTwo b c (p + 1) entry other) where
      last-branched : (bs : Branches) (bar : ℕ) (t : Rule) (lo top : ℕ) → (h : Branch a 6 (Preceding rule known a bs bar) (Chain rule known a t) lo top p) → Fits groups r (alt bs bar t) → Branched groups r a c t h.mid p 6 other next sofar entry found
      unfolding Links
      last-branched bs bar t lo top h f = branched rule known groups r a b c (Preceding rule known a bs bar) t lo top p 6 other next sofar entry found h (m t h.mid p (rw h.of h.right) (fits_last groups r bar bs t (fits-branches groups r bar bs t f))) w

      -- the branches before it stand as they stood
      others-stand : (bs : Branches) (bar : ℕ) (t : Rule) (lo top : ℕ) → (h : Branch a 6 (Preceding rule known a bs bar) (Chain rule known a t) lo top p) → Fits groups r (alt bs bar t) → Several rule known c bs lo h.mid (get_or a (p + 2) 0)
      others-stand bs bar t lo top h f = rw h.link (several-same rule known a c bs lo h.mid h.before (λ i _ y. (last-branched bs bar t lo top h f).outside.below i y) h.left.earlier)

      pub alt-others : Stands (Inside rule known a) groups r a p → StandAll rule known groups r c (get_or a (p + 2) 0)
      alt-others s = for-alt a s.lo s.top p (λ t. Fits groups r t → StandAll rule known groups r c (get_or a (p + 2) 0)) go l e s.tree s.holds s.fits
        where
          go : (bs : Branches) (bar : ℕ) (t : Rule) → Branch a 6 (Preceding rule known a bs bar) (Chain rule known a t) s.lo s.top p → Fits groups r (alt bs bar t) → StandAll rule known groups r c (get_or a (p + 2) 0)
          go bs bar t h f =
              let o = chain-order rule known a t h.mid p h.inside h.right in
              let u = h.node.high in
              let long = (last-branched bs bar t s.lo s.top h f).outside.long in
              record {
                branches = bs;
                lo = s.lo;
                top = h.mid;
                holds = others-stand bs bar t s.lo s.top h f;
                fits = fits-others groups r bar bs t (fits-branches groups r bar bs t f);
                within = omega (arith, s.within);
                small = omega (arith, s.small);
              }

      pub alt-links : (d : List ℕ) (pc : ℕ) (last : Option ℕ) → LinksAll rule known groups r c d (get_or a (p + 2) 0) p next found pc last → Links (Inside rule known a) groups r a d p next sofar pc last
      unfolding Links LinksAll
      alt-links d pc last n t lo top h f = for-alt a lo top p (λ t. Fits groups r t → Made groups r t lo top a d next sofar pc last) go l e t h f
        where
          go : (bs : Branches) (bar : ℕ) (t : Rule) → Branch a 6 (Preceding rule known a bs bar) (Chain rule known a t) lo top p → Fits groups r (alt bs bar t) → Made groups r (alt bs bar t) lo top a d next sofar pc last
          go bs bar t h f =
              made-alt rule known groups r a c t lo top p other next sofar entry found d bs bar pc last h (last-branched bs bar t lo top h f)
              (n bs lo h.mid (others-stand bs bar t lo top h f) (fits-others groups r bar bs t (fits-branches groups r bar bs t f)))

-- The whole rule --------------------------------------------------------------------------

pub nothing-noted : (o : maybe.Option ℕ) → noted o None ≡ None → o ≡ none
unfolding noted
nothing-noted none e = refl
nothing-noted (some place) e = absurd (none-some place (sym e))

pub place-noted : (o : maybe.Option ℕ) (place : ℕ) → noted o None ≡ Some place → o ≡ some place
unfolding noted
place-noted none place e = absurd (none-some place e)
place-noted (some p) place e = ap some (same_Some p place e)

module _ (rule table : List ℕ) (groups : ℕ) (a : List ℕ) (p : ℕ) where
  -- the names that the table spells are those that it has
  pub whole-stands : Linkable rule groups table a p → Stands (Inside rule (names_in rule table groups) a) groups spans_length a p
  whole-stands w = rw (names-are rule w.known table groups w.many w.spelled) w.stands

  pub whole-fit : Linkable rule groups table a p → NamesFit rule table groups
  whole-fit w = names_fit rule w.known table groups w.many w.spelled w.room

  module _ (b : List ℕ) (pc : ℕ) (found : Option ℕ) (m : Links (Inside rule (names_in rule table groups) a) groups spans_length a b p 0 None pc found) where
    whole-made : (known : Names) → length known ≡ groups → Spelled rule known table → Links (Inside rule known a) groups spans_length a b p 0 None pc found
    whole-made known e h = rw (names-are rule known table groups e h) at m

    pub whole-entry : found ≡ None → LinksWhole rule groups table a b p (Ok pc)
    unfolding Links LinksWhole
    whole-entry e known many spelled t lo top h f =
        let w = whole-made known many spelled t lo top h f in
        let n = nothing-noted (unresolved groups t) (sym w.first ∙ e) in
        (w.outside, record { resolved = n; compiled = w.stands n; near = omega (arith, w.near) })

    pub whole-none : (place : ℕ) → found ≡ Some place → LinksWhole rule groups table a b p (Err (record { place = place; reason = NoSuchGroup }))
    unfolding Links LinksWhole
    whole-none place e known many spelled t lo top h f = let w = whole-made known many spelled t lo top h f in (w.outside, (place-noted (unresolved groups t) place (sym w.first ∙ e), refl))
