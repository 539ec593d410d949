-- The starts of a listing, one after another: what a start begins with, and what is told behind it.
use Rattle.std.specs.Prelude.{Ok}
use mathlib.Core.Path.{◌≡◌, refl, sym, ◌∙◌}
use mathlib.Core.List.{List, [], ◌++◌, append-nil}
use mathlib.Core.Logic.{inl, inr}
use Prim.Native.Nat.{ℕ, suc, ◌+◌, ◌-◌, ◌*◌, ◌^◌, ◌≤◌, ◌<◌}
use native.Mathlib.Nat.{le_refl}
use native.Mathlib.Numerals.{add-one}
use native.Mathlib.Omega.{arith}
use lib.ListN.{length}
use Rattle.syntax.specs.Limits.{subject_limit}
use Rattle.syntax.specs.Tree.{Rule}
use Rattle.semantics.specs.Walk.{trace}
use Rattle.semantics.specs.Answers.{Ending, complete, full, exhausted_at}
use Rattle.semantics.specs.Calls.{joined, room, list_outcome}
use Rattle.semantics.proofs.Laws.Loops.{list-begin, list-quiet, list-next, list-last}
use Rattle.machine.specs.Moves.{Bytes, Now, go}
use Rattle.machine.specs.Ready.{nothing, until}
use Rattle.machine.specs.Theorem.{Stands, Clear, begins}
use Rattle.machine.specs.Laws.Loop.{until-nothing}
use Rattle.openings.specs.declared.Opening.{Opening}
use Rattle.openings.specs.Openings.{Outside, Opens}
use Rattle.skipping.specs.Passing.{Passed}
use Rattle.noting.specs.declared.walking.Ends.{Ends}
use Rattle.noting.specs.declared.walking.Ends.TheVariants.{Done, Full, Spent}
use Rattle.gathering.specs.declared.Listing.{Listing}
use Rattle.gathering.specs.declared.Listing.TheVariants.{Complete, Full as NoneLeft, Exhausted}
use Rattle.noting.specs.Noting.{Course, Going, Tells, Through, Listed, all_listed, none_left, cut_short}
use Rattle.gathering.specs.Listing.{listing_of, Lists, Between}
use Rattle.frame.specs.Laws.Areas.{over_none}
use Rattle.skipping.specs.Laws.{passes}

-- before the first start
pub between_first : (sub : List ℕ) (x : Rule) (budget : ℕ) (area : List ℕ) → Between sub x budget area area 0 0 0
unfolding joined
between_first sub x budget area =
    let e : length sub - 0 ≡ length sub = omega arith in
    record { old = []; listed = rw e (list-begin sub x budget (room area)); holds = record { whole = tt; many = refl; written = sym (over_none area) } }

-- what a listing told is its answer
pub told : {sub : List ℕ} {x : Rule} {budget : ℕ} {old area : List ℕ} {ending : Ending} {rows steps : ℕ} → Tells sub x budget old area ending rows steps
    → {r : Listing} → listing_of (Ok r) ≡ list_outcome ending rows steps → Lists sub x budget old area r
told t e = record { outcome = rw (t.is, t.holds.many) e; results = rw t.is t.holds.written }

module _ {sub : List ℕ} {x : Rule} {budget : ℕ} {first area : List ℕ} {start rows steps : ℕ} (b : Between sub x budget first area start rows steps) (regs : List ℕ) where
  abbrev pub course : Course
  course = record { tree = x; area = first; old = b.old; before = steps; after = length sub - start; first = regs }

  -- the machine at the rule's first node is at the beginning of the start's course
  pub sets-out : {code : List ℕ} {entry wide : ℕ} → Stands code x entry → Bytes sub → Clear regs → start ≤ length sub → 8 * budget ≤ wide → 2 * budget < 2 ^ 32 → {now : Now} → now ≡ go entry start regs [] → Going code sub budget start rows course wide now area budget rows
  sets-out {code} {entry} {wide} s bytes clear inside fits few e = record {
    seen = [];
    rest = trace sub x start;
    steps = steps;
    ready = rw e (begins code sub x entry start budget wide regs s bytes clear inside fits few);
    listed = b.listed;
    few = omega arith;
    paid = refl;
    counted = b.holds.many;
    holds = rw (append-nil b.old) b.holds;
  }

  module _ {regs' area' : List ℕ} {n used : ℕ} (t : Through sub budget start course regs' area' n used) where
    pub through-last : start ≡ length sub → Tells sub x budget first area' complete n (steps + used)
    through-last e =
        let z : length sub - start ≡ 0 = omega arith in
        record { all = b.old ++ t.seen; holds = t.holds; is = list-last sub x budget (room first) b.old t.seen (steps + used) start 0 t.left (rw z at t.listed) }

    pub through-next : start < length sub → Between sub x budget first area' (start + 1) n (steps + used)
    through-next l =
        let z : length sub - start ≡ suc (length sub - suc start) = omega arith in
        record { old = b.old ++ t.seen; listed = rw (add-one start) (list-next sub x budget (room first) b.old t.seen (steps + used) start (length sub - suc start) t.left (rw z at t.listed)); holds = t.holds }

module _ {sub : List ℕ} {budget start : ℕ} {k : Course} {regs area : List ℕ} where
  is-through : {n used : ℕ} → Listed sub budget start k regs area (Done n used) → Through sub budget start k regs area n used
  is-through (all_listed t) = t

  is-full : {n used : ℕ} → Listed sub budget start k regs area (Full n used) → Tells sub k.tree budget k.area area full n (k.before + used) × (used ≤ budget)
  is-full (none_left t l) = (t, l)

  is_cut : {n : ℕ} → Listed sub budget start k regs area (Spent n) → Tells sub k.tree budget k.area area (exhausted_at start) n (k.before + budget)
  is_cut (cut_short t) = t

-- The loop ------------------------------------------------------------------------

-- what the loop over the starts keeps, for each rule that stands in the area
pub record Turning (code sub : List ℕ) (entry budget : ℕ) (regs₀ work₀ results₀ regs work results : List ℕ) (start rows steps : ℕ) : Type 0 where
  pub bytes : Bytes sub
  pub short : length sub ≤ subject_limit
  pub cheap : 2 * budget < 2 ^ 32
  pub clear : Clear regs
  pub same : regs ≡ regs₀
  pub wide : length work ≡ length work₀
  pub fits : 16 * budget ≤ length work
  pub long : length results ≡ length results₀
  pub inside : start ≤ length sub
  pub small : steps ≤ 2 ^ 32 * start
  pub between : (x : Rule) → Stands code x entry → Between sub x budget results₀ results start rows steps

module _ {code sub : List ℕ} {entry budget : ℕ} {regs₀ work₀ results₀ regs work results : List ℕ} {start rows steps : ℕ} (t : Turning code sub entry budget regs₀ work₀ results₀ regs work results start rows steps) where
  module _ {now : Now} (e : now ≡ go entry start regs []) where
    pub turn-begins : (x : Rule) (h : Stands code x entry) → Going code sub budget start rows (course (t.between x h) regs) (8 * budget) now results budget rows
    turn-begins x h = sets-out (t.between x h) regs h t.bytes t.clear t.inside (le_refl (8 * budget)) t.cheap e

    module _ {o : Ends} {regs' results' : List ℕ} (done : (k : Course) → Going code sub budget start rows k (8 * budget) now results budget rows → Listed sub budget start k regs' results' o) where
      listed : (x : Rule) (h : Stands code x entry) → Listed sub budget start (course (t.between x h) regs) regs' results' o
      listed x h = done _ (turn-begins x h)

      module _ (n used : ℕ) where
        through : o ≡ Done n used → (x : Rule) (h : Stands code x entry) → Through sub budget start (course (t.between x h) regs) regs' results' n used
        through q x h = is-through (rw q at (listed x h))

        pub turn-few : o ≡ Done n used → ((x : Rule) × Stands code x entry) → used ≤ budget
        turn-few q y = (through q y.0 y.1).few

        pub turn_last : o ≡ Done n used → start ≡ length sub → (x : Rule) → Stands code x entry → Lists sub x budget results₀ results' (Complete n (steps + used))
        unfolding listing_of list_outcome
        turn_last q l x h = told (through-last (t.between x h) regs (through q x h) l) refl

        pub turn-next : o ≡ Done n used → start < length sub → ((x : Rule) × Stands code x entry) → {work' : List ℕ} → length work' ≡ length work → length results' ≡ length results
            → Turning code sub entry budget regs₀ work₀ results₀ regs' work' results' (start + 1) n (steps + used)
        turn-next q l y w r =
            let back = (through q y.0 y.1).same in
            record {
              bytes = t.bytes;
              short = t.short;
              cheap = t.cheap;
              clear = rw back t.clear;
              same = back ∙ t.same;
              wide = w ∙ t.wide;
              fits = omega (arith, t.fits);
              long = r ∙ t.long;
              inside = omega arith;
              small = omega (arith, t.small, t.cheap, turn-few q y);
              between = λ x h. through-next (t.between x h) regs (through q x h) l;
            }

        pub turn-full : o ≡ Full n used → (x : Rule) → Stands code x entry → Lists sub x budget results₀ results' (NoneLeft n (steps + used)) × (used ≤ budget)
        unfolding listing_of list_outcome
        turn-full q x h = let z = is-full (rw q at (listed x h)) in (told z.0 refl, z.1)

      pub turn-spent : (n : ℕ) → o ≡ Spent n → (x : Rule) → Stands code x entry → Lists sub x budget results₀ results' (Exhausted start n (steps + budget))
      unfolding listing_of list_outcome
      turn-spent n q x h = told (is_cut (rw q at (listed x h))) refl

-- Starts that are passed --------------------------------------------------------

-- one start, whose walk finds nothing
between-pass : {sub : List ℕ} {x : Rule} {budget : ℕ} {first area : List ℕ} {start rows steps : ℕ} → Between sub x budget first area start rows steps → (used : ℕ) → start < length sub → until budget 0 (trace sub x start) ≡ nothing used
    → Between sub x budget first area (start + 1) rows (steps + used)
between-pass {sub} {x} {budget} {first} {area} {start} {rows} {steps} b used l e =
    let z = until-nothing (trace sub x start) budget 0 used e in
    let k : length (trace sub x start) ≡ used = omega (arith, z.1) in
    let y : length sub - start ≡ suc (length sub - suc start) = omega arith in
    let q = list-quiet sub x budget (room first) b.old [] steps start (length sub - start) budget (trace sub x start) [] z.0 z.2 (rw (append-nil (trace sub x start)) b.listed) in
    let n = list-next sub x budget (room first) b.old [] (steps + used) start (length sub - suc start) (budget - used) (rw (y, k) at q) in
    record { old = b.old; listed = rw (add-one start) (rw (append-nil b.old) at n); holds = b.holds }

turning-pass : {code sub : List ℕ} {entry budget : ℕ} {regs₀ work₀ results₀ regs work results : List ℕ} {start rows steps : ℕ} → Turning code sub entry budget regs₀ work₀ results₀ regs work results start rows steps
    → (used : ℕ) → used ≤ budget → start < length sub → ((x : Rule) → Stands code x entry → until budget 0 (trace sub x start) ≡ nothing used) → Turning code sub entry budget regs₀ work₀ results₀ regs work results (start + 1) rows (steps + used)
turning-pass t used few l e = record {
  bytes = t.bytes;
  short = t.short;
  cheap = t.cheap;
  clear = t.clear;
  same = t.same;
  wide = t.wide;
  fits = t.fits;
  long = t.long;
  inside = omega arith;
  small = omega (arith, t.small, t.cheap);
  between = λ x h. between-pass (t.between x h) used l (e x h);
}

pub turning-from : {code sub : List ℕ} {entry budget : ℕ} {regs₀ work₀ results₀ regs work results : List ℕ} {rows : ℕ} (o : Opening) → Opens code entry budget o → (begin from steps : ℕ) → 1 ≤ begin → Passed o.set o.any sub o.cost begin from
    → Turning code sub entry budget regs₀ work₀ results₀ regs work results begin rows steps → Turning code sub entry budget regs₀ work₀ results₀ regs work results from rows (steps + (from - begin) * o.cost)
turning-from {code} {sub} {entry} {budget} {regs₀} {work₀} {results₀} {regs} {work} {results} {rows} o opens begin from steps later passed t =
    passes (λ i s. Turning code sub entry budget regs₀ work₀ results₀ regs work results i rows s) o.cost passed steps (each opens) t
  where
    each : Opens code entry budget o → (i s : ℕ) → begin ≤ i → i < from → i < length sub → Outside o.set o.any sub i → Turning code sub entry budget regs₀ work₀ results₀ regs work results i rows s → Turning code sub entry budget regs₀ work₀ results₀ regs work results (i + 1) rows (s + o.cost)
    each (inl e) i s l h u out x = absurd (omega (arith, passed.none e))
    each (inr k) i s l h u out x = turning-pass x o.cost k.few u (λ y st. k.tells sub regs (length work) regs (trace sub y i) i x.bytes (begins code sub y entry i budget (length work) regs st x.bytes x.clear x.inside (omega (arith, x.fits)) x.cheap) (omega arith) out)
