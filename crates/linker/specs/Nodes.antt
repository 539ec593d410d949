-- The rule area after the first pass: each part of a rule as a node that names the part before it, so that a sequence is read off from its
-- last part on. The second pass gives every node what follows it.
--
--   byte       0, before, place, the class in eight words
--   assertion  1, before, place, which
--   reference 11, before, place, the group's number, 1 if it is folded
--   named      2, before, place, where the group's name begins in the rule, 1 if it is folded, how many bytes the name has
--   group      4, before, 0, the slot of its span, 3, inside, 0       the close's four numbers, then the open's three
--   plain     10, before, inside                                      a group that does not capture
--   break     12, before, place                                       `\R`
--   held      14, before, 0, place, 13, inside, 0                     a held part: the inner end's numbers, then those where it is entered
--   ahead     15, before, 0, place, 13, inside, 0                     looking ahead, likewise
--   not ahead 17, before, 0, place, 16, inside, 0, 0                  negative looking ahead
--   repeat     7, 8, least, most, greed, place, body, before
--   branch     5, inside, the branch before it, a bar                 one more than the place of the bar behind it if a 257th branch follows, or 0
--   last       6, inside, the branch before it
--
-- `inside` is the last part of a sequence, or the last branch of an alternation. 0 is no node's position: it stands for none.
-- A reference by name may stand before its group: its number is known only when the whole rule is read.
-- docs/REFERENCE.md, 4.5
use Rattle.std.specs.Prelude.{◌≡◌, Bool, true, false, List, ◌⊎◌, ℕ, ◌+◌, ◌≤◌, ◌<◌, get_or, drop, length, eqb, if◌then◌else◌}
use Rattle.std.proofs.Math.Seq.{slice}
use Rattle.charset.specs.Class.{has}
use Rattle.syntax.specs.Limits.{slot}
use Rattle.syntax.specs.Names.{Names, group_called}
use Rattle.syntax.specs.Sets.{in_class}
use Rattle.syntax.specs.Tree.{Item, byte_in, assert, reference, Rule, empty, item, seq, alt, group, repeat, held, look, Branches, one, also, branch_count, line_break}
use Rattle.syntax.specs.Checkable.{crowded_at}
use Rattle.syntax.specs.Compiled.{marked, assertion_word, most_word, greed_word, folded_word}

-- the part before the one at p
unfoldable pub before_of : List ℕ → ℕ → ℕ
before_of a p = if eqb (get_or a p 0) 7 then get_or a (p + 7) 0 else get_or a (p + 1) 0

-- what the bar behind some branches is marked by: only one before a 257th branch is told
abbrev pub bar_word : Branches → ℕ → ℕ
bar_word bs bar = marked (crowded_at (branch_count bs) bar)

-- a node of so many numbers at p, the first of them its kind, from lo on, and just below top
pub record Last (a : List ℕ) (lo top p size kind : ℕ) : Type 0 where
  pub some : 1 ≤ p
  pub low : lo ≤ p
  pub high : p + size ≤ top
  pub is : get_or a p 0 ≡ kind

-- Shapes. What stands in a region [lo, top) with its last node at p is a relation of the three. -----

abbrev pub Region : Type 1
Region = (lo top p : ℕ) → Type 0

-- no node
abbrev pub Nothing : Region
Nothing lo top p = (p ≡ 0) × (lo ≤ top)

module _ (a : List ℕ) where
  -- a sequence: the last part at p, the parts before it in a region below
  pub record Sequence (Earlier Final : Region) (lo top p : ℕ) : Type 0 where
    pub mid : ℕ
    pub before : ℕ
    pub link : before_of a p ≡ before
    pub left : Earlier lo mid before
    pub right : Final mid top p

  -- branches: the latest at p, what it holds below it, and the branches before it in a region below that
  pub record Branch (kind : ℕ) (Earlier Within : Region) (lo top p : ℕ) : Type 0 where
    pub node : Last a lo top p 3 kind
    pub inside : ℕ
    pub of : get_or a (p + 1) 0 ≡ inside
    pub before : ℕ
    pub link : get_or a (p + 2) 0 ≡ before
    pub mid : ℕ
    pub left : Earlier lo mid before
    pub right : Within mid p inside

  -- branches before a bar: the number behind the latest branch's node is the bar's
  pub record Barred (word : ℕ) (Earlier : Region) (lo top p : ℕ) : Type 0 where
    pub earlier : Earlier lo top p
    pub fits : p + 4 ≤ top
    pub bar : get_or a (p + 3) 0 ≡ word

  -- a group that does not capture: its tree is that of its inside
  pub record Plain (Within : Region) (lo top p : ℕ) : Type 0 where
    pub node : Last a lo top p 3 10
    pub inside : ℕ
    pub is : get_or a (p + 2) 0 ≡ inside
    pub holds : Within lo p inside

  -- `\R`
  pub record Breaking (place lo top p : ℕ) : Type 0 where
    pub node : Last a lo top p 3 12
    pub origin : get_or a (p + 2) 0 ≡ place

  -- a held part, or looking ahead
  pub record Marked (kind place : ℕ) (Within : Region) (lo top p : ℕ) : Type 0 where
    pub node : Last a lo top p 7 kind
    pub origin : get_or a (p + 3) 0 ≡ place
    pub opening : get_or a (p + 4) 0 ≡ 13
    pub inside : ℕ
    pub is : get_or a (p + 5) 0 ≡ inside
    pub holds : Within lo p inside

  -- negative looking ahead
  pub record Forbidden (place : ℕ) (Within : Region) (lo top p : ℕ) : Type 0 where
    pub node : Last a lo top p 8 17
    pub origin : get_or a (p + 3) 0 ≡ place
    pub opening : get_or a (p + 4) 0 ≡ 16
    pub inside : ℕ
    pub is : get_or a (p + 5) 0 ≡ inside
    pub holds : Within lo p inside

  -- a reference by its group's number
  pub record ByNumber (folded : Bool) (n lo top p place : ℕ) : Type 0 where
    pub node : Last a lo top p 5 11
    pub origin : get_or a (p + 2) 0 ≡ place
    pub number : get_or a (p + 3) 0 ≡ n
    pub folds : get_or a (p + 4) 0 ≡ folded_word folded

-- The rule's bytes are s, and the names of its groups are known. -----
module _ (s : List ℕ) (known : Names) (a : List ℕ) where
  -- a reference by its group's name, which is bytes of the rule
  pub record ByName (folded : Bool) (n lo top p place : ℕ) : Type 0 where
    pub node : Last a lo top p 6 2
    pub origin : get_or a (p + 2) 0 ≡ place
    pub from : ℕ
    pub begins : get_or a (p + 3) 0 ≡ from
    pub folds : get_or a (p + 4) 0 ≡ folded_word folded
    pub len : ℕ
    pub long : get_or a (p + 5) 0 ≡ len
    pub within : from + len ≤ length s
    pub number : n ≡ group_called (slice from (from + len) s) known

  abbrev pub ItemPart : Item → (lo top p place : ℕ) → Type 0
  ItemPart (byte_in folded c) lo top p place = record {
    node : Last a lo top p 11 0;
    origin : get_or a (p + 2) 0 ≡ place;
    set : (x : ℕ) → x < 256 → has (drop (p + 3) a) x ≡ in_class folded c x;
  }
  ItemPart (assert k) lo top p place = record { node : Last a lo top p 4 1; origin : get_or a (p + 2) 0 ≡ place; which : get_or a (p + 3) 0 ≡ assertion_word k }
  ItemPart (reference folded n) lo top p place = ByNumber a folded n lo top p place ⊎ ByName folded n lo top p place

  unfoldable mutual
    -- a part of a sequence stands at p, its nodes from lo on and below top: an item, a group, a repeat, a held part or looking ahead; or a group that
    -- does not capture
    pub Part : Rule → Region
    Part (item place i) lo top p = ItemPart i lo top p place
    Part (group n t) lo top p = record {
      node : Last a lo top p 7 4;
      span : get_or a (p + 3) 0 ≡ slot n;
      opening : get_or a (p + 4) 0 ≡ 3;
      inside : ℕ;
      is : get_or a (p + 5) 0 ≡ inside;
      holds : Inside t lo p inside;
    }
    Part (repeat place least most g t) lo top p = record {
      node : Last a lo top p 8 7;
      loop : get_or a (p + 1) 0 ≡ 8;
      least : get_or a (p + 2) 0 ≡ least;
      most : get_or a (p + 3) 0 ≡ most_word most;
      greed : get_or a (p + 4) 0 ≡ greed_word g;
      origin : get_or a (p + 5) 0 ≡ place;
      body : ℕ;
      is : get_or a (p + 6) 0 ≡ body;
      holds : Part t lo p body;
    }
    Part (held place t) lo top p = ((held place t ≡ line_break place) × Breaking a place lo top p) ⊎ Marked a 14 place (λ l h q. Inside t l h q) lo top p
    Part (look place false t) lo top p = Marked a 15 place (λ l h q. Inside t l h q) lo top p
    Part (look place true t) lo top p = Forbidden a place (λ l h q. Inside t l h q) lo top p
    Part empty lo top p = Plain a Nothing lo top p
    Part (seq x y) lo top p = Plain a (Sequence a (λ l h q. Chain x l h q) (λ l h q. Part y l h q)) lo top p
    Part (alt bs bar t) lo top p = Plain a (Branch a 6 (Barred a (bar_word bs bar) (λ l h q. Several bs l h q)) (λ l h q. Chain t l h q)) lo top p

    -- the parts of a sequence, the last of them at p, or 0 for none
    pub Chain : Rule → Region
    Chain empty lo top p = Nothing lo top p
    Chain (seq x y) lo top p = Sequence a (λ l h q. Chain x l h q) (λ l h q. Part y l h q) lo top p
    Chain (item place i) lo top p = ⊥
    Chain (alt bs bar t) lo top p = ⊥
    Chain (group n t) lo top p = ⊥
    Chain (repeat place least most g t) lo top p = ⊥
    Chain (held place t) lo top p = ⊥
    Chain (look place negative t) lo top p = ⊥

    -- what stands in a group: a sequence or an alternation, with its last part or branch at p
    pub Inside : Rule → Region
    Inside empty lo top p = Nothing lo top p
    Inside (seq x y) lo top p = Sequence a (λ l h q. Chain x l h q) (λ l h q. Part y l h q) lo top p
    Inside (alt bs bar t) lo top p = Branch a 6 (Barred a (bar_word bs bar) (λ l h q. Several bs l h q)) (λ l h q. Chain t l h q) lo top p
    Inside (item place i) lo top p = ⊥
    Inside (group n t) lo top p = ⊥
    Inside (repeat place least most g t) lo top p = ⊥
    Inside (held place t) lo top p = ⊥
    Inside (look place negative t) lo top p = ⊥

    -- branches but the last, the latest of them at p
    pub Several : Branches → Region
    Several (one t) lo top p = Branch a 5 Nothing (λ l h q. Chain t l h q) lo top p
    Several (also bs bar t) lo top p = Branch a 5 (Barred a (bar_word bs bar) (λ l h q. Several bs l h q)) (λ l h q. Chain t l h q) lo top p

  -- the branches before a bar
  abbrev pub Preceding : Branches → ℕ → Region
  Preceding bs bar = Barred a (bar_word bs bar) (Several bs)
