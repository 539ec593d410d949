-- The compiled rule: the tree as nodes of numbers in the rule area. A node is also an instruction: it tells where the walk goes on. The walk
-- visits one node for each step, so that sequences and groups that do not capture have none. Only runs, references and breaks make several steps. All
-- that a match visits most often has a number below the end's.
--
--   byte       0, next, place, the class in eight words
--   assertion  1, next, place, which
--   open       3, body, register
--   close      4, next, register, the slot of its group's span
--   branch     5, body, the branch after it
--   last       6, body                                 the last branch
--   repeat     7, 8, least, most, greed, register, body, next    entered at the 7, decided again at the 8
--   end        9
--   run       10, 8, least, most, greed, register, body, next    a greedy repeat of one byte item, `a*` or `(?:a)*`, which is taken as a whole
--   reference 11, next, place, the slot of its group's span, 1 if it is folded
--   break     12, next, place                          `\R`, which is taken as a whole
--   mark      13, body, register                       a held part, or looking ahead, is entered
--   keep      14, next, register                       the inner end of a held part
--   return    15, next, register                       the inner end of looking ahead
--   forbid    16, body, register, next                 negative looking ahead is entered
--   refute    17, next, register, place                its inner end, at which nothing follows
--
-- `next` is the position of the node after it, `place` the item's place in the rule. A group keeps where it was opened, and a repeat its
-- rounds and where the last one began, in two registers from the number given on; nodes inside use those behind. A held part and looking ahead
-- keep there how many frames the stack had when they were entered, and where in the subject that was.
-- docs/REFERENCE.md, 4.5
use Rattle.std.specs.Prelude.{◌≡◌, Bool, true, false, List, ◌⊎◌, ℕ, ◌+◌, ◌≤◌, ◌<◌, get_or, drop}
use Rattle.std.proofs.Math.Option.{Option, none, some}
use Rattle.syntax.specs.declared.Assertion.{Assertion}
use Rattle.syntax.specs.declared.Assertion.TheVariants.{TextStart, LineStart, TextEnd, LastLineEnd, LineEnd, WordBoundary, NoWordBoundary}
use Rattle.syntax.specs.declared.Greed.{Greed}
use Rattle.syntax.specs.declared.Greed.TheVariants.{Greedy, Lazy}
use Rattle.syntax.specs.declared.Most.{Most}
use Rattle.syntax.specs.declared.Most.TheVariants.{AtMost, Unlimited}
use Rattle.charset.specs.Class.{has}
use Rattle.syntax.specs.Limits.{unset, spans_length, slot, registers}
use Rattle.syntax.specs.Sets.{in_class}
use Rattle.syntax.specs.Tree.{Item, byte_in, assert, reference, Rule, empty, item, seq, alt, group, repeat, held, look, Branches, one, also, line_break}
use Rattle.syntax.specs.WellFormed.{BoundsFit}

-- Numbers for what is no number -----------------------------------------------

-- a place that may have been found: one more than it, and 0 for none
unfoldable pub marked : Option ℕ → ℕ
marked none = 0
marked (some place) = place + 1

unfoldable pub assertion_word : Assertion → ℕ
assertion_word TextStart = 0
assertion_word LineStart = 1
assertion_word TextEnd = 2
assertion_word LastLineEnd = 3
assertion_word LineEnd = 4
assertion_word WordBoundary = 5
assertion_word NoWordBoundary = 6

unfoldable pub most_word : Most → ℕ
most_word (AtMost m) = m
most_word Unlimited = unset

unfoldable pub greed_word : Greed → ℕ
greed_word Greedy = 0
greed_word Lazy = 1

unfoldable pub folded_word : Bool → ℕ
folded_word false = 0
folded_word true = 1

-- Runs ----------------------------------------------------------------------------

-- one byte item, by itself or in a group that does not capture
abbrev pub OneByte : Rule → Type 0
OneByte empty = ⊥
OneByte (item place (byte_in folded c)) = Unit {0}
OneByte (item place (assert a)) = ⊥
OneByte (item place (reference folded n)) = ⊥
OneByte (seq empty b) = OneByte b
OneByte (seq (item place i) b) = ⊥
OneByte (seq (seq x y) b) = ⊥
OneByte (seq (alt bs bar x) b) = ⊥
OneByte (seq (group n x) b) = ⊥
OneByte (seq (repeat place least most g x) b) = ⊥
OneByte (seq (held place x) b) = ⊥
OneByte (seq (look place negative x) b) = ⊥
OneByte (alt bs bar b) = ⊥
OneByte (group n a) = ⊥
OneByte (repeat place least most g a) = ⊥
OneByte (held place a) = ⊥
OneByte (look place negative a) = ⊥

-- what can be repeated as a run
abbrev pub RunOf : Greed → Rule → Type 0
RunOf Greedy a = OneByte a
RunOf Lazy a = ⊥

-- the first number of a repeat's node
abbrev pub Entered : ℕ → Greed → Rule → Type 0
Entered kind g a = (kind ≡ 7) ⊎ ((kind ≡ 10) × RunOf g a)

-- Nodes ---------------------------------------------------------------------------

-- all nodes stand in the area p from lo on and below hi
module _ (p : List ℕ) (lo hi : ℕ) where
  -- a node of so many numbers at pc, the first of them its kind
  pub record Node (pc size kind : ℕ) : Type 0 where
    pub low : lo ≤ pc
    pub high : pc + size ≤ hi
    pub is : get_or p pc 0 ≡ kind

  -- the item whose place in the rule is given stands at pc and goes on at next
  abbrev pub CompiledItem : Item → (place pc next : ℕ) → Type 0
  CompiledItem (byte_in folded c) place pc next = record {
    node : Node pc 11 0;
    goes : get_or p (pc + 1) 0 ≡ next;
    origin : get_or p (pc + 2) 0 ≡ place;
    set : (x : ℕ) → x < 256 → has (drop (pc + 3) p) x ≡ in_class folded c x;
  }
  CompiledItem (assert a) place pc next = record {
    node : Node pc 4 1;
    goes : get_or p (pc + 1) 0 ≡ next;
    origin : get_or p (pc + 2) 0 ≡ place;
    which : get_or p (pc + 3) 0 ≡ assertion_word a;
  }
  CompiledItem (reference folded n) place pc next = record {
    node : Node pc 5 11;
    goes : get_or p (pc + 1) 0 ≡ next;
    origin : get_or p (pc + 2) 0 ≡ place;
    span : get_or p (pc + 3) 0 ≡ slot n;
    fits : slot n + 2 ≤ spans_length;
    folds : get_or p (pc + 4) 0 ≡ folded_word folded;
  }

  -- `\R` stands at pc
  pub record CompiledBreak (place pc next : ℕ) : Type 0 where
    pub node : Node pc 3 12
    pub goes : get_or p (pc + 1) 0 ≡ next
    pub origin : get_or p (pc + 2) 0 ≡ place

  -- a part between a mark and an inner end of a kind; what its inside compiles to is given by where that stands and goes on, and by its first register
  pub record CompiledMarked (kind : ℕ) (Inside : (pc next r : ℕ) → Type 0) (pc next r : ℕ) : Type 0 where
    pub room : r + 2 ≤ registers
    pub opening : Node pc 3 13
    pub body : ℕ
    pub enters : get_or p (pc + 1) 0 ≡ body
    pub opener : get_or p (pc + 2) 0 ≡ r
    pub close : ℕ
    pub inner : Inside body close (r + 2)
    pub node : Node close 3 kind
    pub goes : get_or p (close + 1) 0 ≡ next
    pub closer : get_or p (close + 2) 0 ≡ r

  -- negative looking ahead: where its inside ends nothing follows
  pub record CompiledForbidden (place : ℕ) (Inside : (pc next r : ℕ) → Type 0) (pc next r : ℕ) : Type 0 where
    pub room : r + 2 ≤ registers
    pub opening : Node pc 4 16
    pub body : ℕ
    pub enters : get_or p (pc + 1) 0 ≡ body
    pub opener : get_or p (pc + 2) 0 ≡ r
    pub goes : get_or p (pc + 3) 0 ≡ next
    pub close : ℕ
    pub inner : Inside body close (r + 2)
    pub node : Node close 4 17
    pub closer : get_or p (close + 2) 0 ≡ r
    pub origin : get_or p (close + 3) 0 ≡ place

  -- the rule stands at pc, goes on at next, and uses the registers from r on
  unfoldable mutual
    pub Compiled : Rule → (pc next r : ℕ) → Type 0
    Compiled empty pc next r = pc ≡ next
    Compiled (item place i) pc next r = CompiledItem i place pc next
    Compiled (seq a b) pc next r = record { mid : ℕ; left : Compiled a pc mid r; right : Compiled b mid next r }
    Compiled (alt bs bar b) pc next r = record {
      last : ℕ;
      others : CompiledBranches bs pc last next r;
      node : Node last 2 6;
      body : ℕ;
      goes : get_or p (last + 1) 0 ≡ body;
      inner : Compiled b body next r;
    }
    Compiled (group n a) pc next r = record {
      room : r + 2 ≤ registers;
      opening : Node pc 3 3;
      body : ℕ;
      enters : get_or p (pc + 1) 0 ≡ body;
      opener : get_or p (pc + 2) 0 ≡ r;
      close : ℕ;
      inner : Compiled a body close (r + 2);
      node : Node close 4 4;
      goes : get_or p (close + 1) 0 ≡ next;
      closer : get_or p (close + 2) 0 ≡ r;
      span : get_or p (close + 3) 0 ≡ slot n;
      fits : slot n + 2 ≤ spans_length;
    }
    Compiled (repeat place least most g a) pc next r = record {
      room : r + 2 ≤ registers;
      bounds : BoundsFit least most;
      kind : ℕ;
      entered : Entered kind g a;
      node : Node pc 8 kind;
      loop : get_or p (pc + 1) 0 ≡ 8;
      least : get_or p (pc + 2) 0 ≡ least;
      most : get_or p (pc + 3) 0 ≡ most_word most;
      greed : get_or p (pc + 4) 0 ≡ greed_word g;
      register : get_or p (pc + 5) 0 ≡ r;
      body : ℕ;
      enters : get_or p (pc + 6) 0 ≡ body;
      goes : get_or p (pc + 7) 0 ≡ next;
      inner : Compiled a body (pc + 1) (r + 2);
    }
    Compiled (held place a) pc next r = ((held place a ≡ line_break place) × CompiledBreak place pc next) ⊎ CompiledMarked 14 (λ b n q. Compiled a b n q) pc next r
    Compiled (look place false a) pc next r = CompiledMarked 15 (λ b n q. Compiled a b n q) pc next r
    Compiled (look place true a) pc next r = CompiledForbidden place (λ b n q. Compiled a b n q) pc next r

    -- branches from pc on, the last of which goes on to the branch at `other`
    pub CompiledBranches : Branches → (pc other next r : ℕ) → Type 0
    CompiledBranches (one a) pc other next r = record {
      node : Node pc 3 5;
      body : ℕ;
      goes : get_or p (pc + 1) 0 ≡ body;
      fails : get_or p (pc + 2) 0 ≡ other;
      inner : Compiled a body next r;
    }
    CompiledBranches (also bs bar b) pc other next r = record {
      last : ℕ;
      others : CompiledBranches bs pc last next r;
      node : Node last 3 5;
      body : ℕ;
      goes : get_or p (last + 1) 0 ≡ body;
      fails : get_or p (last + 2) 0 ≡ other;
      inner : Compiled b body next r;
    }
