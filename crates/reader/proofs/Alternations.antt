-- The loop over the branches of an alternation: what it has passed, and what follows where it goes on, ends or is refused. A bar pays for the
-- node of its branch and leaves enough for that of the last one.
use Rattle.std.specs.Prelude.{Result, Ok, Err}
use mathlib.Core.Path.{◌≡◌, refl, ap, ◌∙◌}
use mathlib.Core.List.{List, [], ◌∷◌}
use Prim.Native.Nat.{ℕ, ◌+◌, ◌-◌, ◌*◌, ◌≤◌, ◌<◌}
use native.Mathlib.Omega.{arith}
use borrow.Author.Tests.{ne_eqb}
use lib.ListN.{length}
use Rattle.syntax.specs.declared.Refusal.{Refusal}
use Rattle.syntax.specs.Read.{Read, sound, refused, and_then}
use Rattle.syntax.specs.Tree.{Rule, Branches, one, also, branch_count, alternatives}
use Rattle.syntax.specs.Names.{Names}
use Rattle.syntax.specs.Checkable.{crowded_at}
use Rattle.syntax.specs.Compiled.{marked}
use Rattle.syntax.specs.Grammar.{branch, further, alternation, inside}
use Rattle.syntax.specs.Laws.Forward.{inside_on}
use Rattle.syntax.specs.Laws.Fuel.{further-turn}
use Rattle.lexemes.specs.Says.{Peeked}
use Rattle.name_table.specs.Table.{names_in, NamesFit}
use Rattle.linker.specs.Nodes.{Chain, Inside}
use Rattle.linker.proofs.Regions.{preceding-same}
use Rattle.parts.specs.declared.Cursor.{Cursor}
use Rattle.parts.specs.declared.Part.{Part}
use Rattle.writer.specs.Wrote.{Below, Wrote}
use Rattle.parts.specs.Says.{price, behind_node, Ready, Moves}
use Rattle.reader.specs.Says.{Naming, Branch, Furthers, Alternates}
use Rattle.reader.proofs.Answers.{says-as, moved_on, ready_on, naming-on}
use Rattle.parts.proofs.Standing.{below-same, Pending, branch-put, last-put, single-branch}

-- the loop stands behind so many branches, the last of which has no node yet; `table` has the names of the groups so far
pub record Pended (s : List ℕ) (flags depth : ℕ) (new table : List ℕ) (lo : ℕ) (d : Cursor) (before last count : ℕ) (known : Names) (reading : Read (Rule × Names)) : Type 0 where
  pub branches : Branches
  pub counted : count ≡ branch_count branches
  pub stand : Pending s known new branches lo d.used before last
  pub rest : reading ≡ further (length s) s flags known (inside depth s flags known) branches (names_in s table d.opened) d.at

-- from the cursor c to d; once there is a branch before the last one, enough has been paid for another node
pub record Branched (s : List ℕ) (flags depth : ℕ) (old new names table : List ℕ) (c : Cursor) (first : ℕ) (d : Cursor) (before last count : ℕ) : Type 0 where
  pub moves : Moves (length s) c 0 d last
  pub saved : d.used + price * c.at + 3 ≤ c.used + price * d.at + 3 * (1 - before)
  pub earlier : before < d.used
  pub many : count ≤ d.at + 1
  pub long : length new ≡ length old
  pub wide : length table ≡ length names
  pub frame : Below c.used new old
  pub fit : NamesFit s table d.opened
  pub claim : (known : Names) (lo : ℕ) (t : Rule) → Chain s known old t lo c.used first
      → Pended s flags depth new table lo d before last count known (further (length s) s flags known (inside depth s flags known) (one t) (names_in s names c.opened) c.at)

pub branched-none : {area table : List ℕ} {c : Cursor} {first : ℕ} (s : List ℕ) (flags depth : ℕ) → Ready (length s) area c → Naming s table c → first < c.used → Branched s flags depth area area table table c first c 0 first 1
unfolding branch_count
branched-none {area} {table} {c} {first} s flags depth r n l = record {
  moves = record { on = omega arith; within = r.within; grown = omega arith; paid = omega arith; address = l; few = r.few };
  saved = omega arith;
  earlier = r.began;
  many = omega arith;
  long = refl;
  wide = refl;
  frame = λ i k. refl;
  fit = n.fit;
  claim = λ known lo t h. record { branches = one t; counted = refl; stand = (refl, h); rest = refl };
}

pub branched-ready : {s old new names table : List ℕ} {c d : Cursor} {flags depth first before last count : ℕ} → Ready (length s) old c → Branched s flags depth old new names table c first d before last count → Ready (length s) new d
branched-ready r h = ready_on r h.moves h.long

pub branched-naming : {s old new names table : List ℕ} {c d : Cursor} {flags depth first before last count : ℕ} → Naming s names c → Branched s flags depth old new names table c first d before last count → Naming s table d
branched-naming {d = d} n h = naming-on d n h.fit h.wide

-- behind the node of a branch, which its bar has paid for
pub bar-ready : {s area : List ℕ} (wrote : List ℕ) {d : Cursor} {b : ℕ} → Ready (length s) area d → Peeked s d.at b → b ≡ 124 → length wrote ≡ length area → Ready (length s) wrote (behind_node d (d.at + 1) 4)
bar-ready wrote r p e l = record { within = omega arith; began = omega (arith, r.began); paid = omega (arith, r.paid); room = omega (arith, r.room); narrow = r.narrow; few = r.few }

at-most-none : (n : ℕ) → (n ≡ 0 → ⊥) → 1 - n ≡ 0
at-most-none n x = omega arith

-- the room for the node of the last branch, where there are others
pub last-room : {s old area names table : List ℕ} {c d : Cursor} {flags depth first before last count : ℕ} → Ready (length s) old c → Branched s flags depth old area names table c first d before last count → (before ≡ 0 → ⊥) → d.used + 3 ≤ length area
last-room {before = before} r h ne = let z = at-most-none before ne in omega (arith, r.paid, r.room, h.saved, h.moves.within, h.long)

module _ {s old area names table : List ℕ} {c d : Cursor} {first before last count b : ℕ} (flags depth : ℕ) (r : Ready (length s) old c) (h : Branched s flags depth old area names table c first d before last count)
    (p : Peeked s d.at b) where
  began : 1 ≤ d.used
  began = omega (arith, r.began, h.moves.grown)

  module _ (none : b ≡ 124 → ⊥) where
    stops : (known : Names) (bs : Branches) → further (length s) s flags known (inside depth s flags known) bs (names_in s table d.opened) d.at ≡ sound (alternatives bs, names_in s table d.opened) d.at
    stops known bs = further-turn s flags known (inside depth s flags known) bs (names_in s table d.opened) d.at (inside_on depth s flags known) ∙ rw (← p.is) (simp (ne_eqb b 124 none))

    pub further-single : before ≡ 0 → Furthers s flags depth old area names table c first (Ok (record { cursor = d; node = last }))
    further-single e = record {
      moved = h.moves;
      frame = h.frame;
      names = h.fit;
      claim = λ known lo t k.
          let y = h.claim known lo t k in
          (alternatives y.branches, y.rest ∙ stops known y.branches, single-branch s known area lo d.used before last y.branches e y.stand);
    }

    pub further-last : {new : List ℕ} → (before ≡ 0 → ⊥) → Wrote area new d.used 3 (6 ∷ last ∷ before ∷ []) → Furthers s flags depth old new names table c first (Ok (record { cursor = behind_node d d.at 3; node = d.used }))
    further-last {new} ne w =
        let m = h.moves in
        record {
          moved = record { on = m.on; within = m.within; grown = omega (arith, m.grown); paid = paid; address = omega arith; few = m.few };
          frame = λ i l. w.below i (omega (arith, m.grown)) ∙ h.frame i l;
          names = h.fit;
          claim = λ known lo t k.
              let y = h.claim known lo t k in
              (alternatives y.branches, y.rest ∙ stops known y.branches, last-put s known lo y.branches w began ne y.stand);
        }
      where
        paid : d.used + 3 + price * c.at ≤ c.used + price * d.at
        paid = let z = at-most-none before ne in omega (arith, h.saved)

  module _ {wrote : List ℕ} (bar : b ≡ 124) (w : Wrote area wrote d.used 4 (5 ∷ last ∷ before ∷ marked (crowded_at count d.at) ∷ [])) where
    goes : (known : Names) (bs : Branches) (a : Read (Rule × Names)) → branch s flags known (inside depth s flags known) (names_in s table d.opened) (d.at + 1) ≡ a
        → further (length s) s flags known (inside depth s flags known) bs (names_in s table d.opened) d.at
        ≡ and_then a (λ y end. further (length s) s flags known (inside depth s flags known) (also bs d.at y.0) y.1 end)
    goes known bs a e = further-turn s flags known (inside depth s flags known) bs (names_in s table d.opened) d.at (inside_on depth s flags known) ∙ rw (← p.is, bar) (rw e)

    module _ {new : List ℕ} (after : List ℕ) where
      -- the branch behind the bar, and what stood there before
      framed : (q : Result Part Refusal) → Branch s flags depth wrote new table after (behind_node d (d.at + 1) 4) q → Below c.used new old
      framed q x i l = x.frame i (omega (arith, h.moves.grown)) ∙ w.below i (omega (arith, h.moves.grown)) ∙ h.frame i l

      pub further-refused : (f : Refusal) → Branch s flags depth wrote new table after (behind_node d (d.at + 1) 4) (Err f) → Furthers s flags depth old new names after c first (Err f)
      further-refused f x = record {
        moved = tt;
        frame = framed (Err f) x;
        names = tt;
        claim = λ known lo t k.
            let y = h.claim known lo t k in
            y.rest ∙ goes known y.branches (refused f.place f.reason) (x.claim known);
      }

      pub branched-more : (q : Part) → Branch s flags depth wrote new table after (behind_node d (d.at + 1) 4) (Ok q) → length new ≡ length area → length after ≡ length table → Branched s flags depth old new names after c first q.cursor d.used q.node (count + 1)
      unfolding branch_count
      branched-more q x long wide =
          let g = h.moves in
          let m = x.moved in
          let one = began in
          record {
            moves = record { on = omega (arith, g.on, m.on); within = m.within; grown = omega (arith, g.grown, m.grown); paid = omega (arith, g.paid, m.paid); address = m.address; few = m.few };
            saved = omega (arith, g.paid, m.paid);
            earlier = omega (arith, m.grown);
            many = omega (arith, h.many, m.on);
            long = long ∙ h.long;
            wide = wide ∙ h.wide;
            frame = framed (Ok q) x;
            fit = x.names;
            claim = λ known lo t k.
                let y = h.claim known lo t k in
                let z = x.claim known in
                record {
                  branches = also y.branches d.at z.0;
                  counted = omega (arith, y.counted);
                  stand = (
                    d.used + 4,
                    preceding-same s known wrote new y.branches d.at lo (d.used + 4) d.used (below-same new wrote (d.used + 4) lo (d.used + 4) (omega arith) x.frame) (branch-put s known lo d.at y.branches w (ap (λ (k : ℕ). marked (crowded_at k d.at)) y.counted) one y.stand),
                    z.2,
                  );
                  rest = y.rest ∙ goes known y.branches (sound (z.0, names_in s after q.cursor.opened) q.cursor.at) z.1;
                };
          }

-- The branches ----------------------------------------------------------------------

first-branch : (s : List ℕ) (flags depth : ℕ) (known names : Names) (at : ℕ) (a : Read (Rule × Names)) → branch s flags known (inside depth s flags known) names at ≡ a
    → alternation s flags known (inside depth s flags known) names at ≡ and_then a (λ r next. further (length s) s flags known (inside depth s flags known) (one r.0) r.1 next)
unfolding alternation
first-branch s flags depth known names at a x = rw x

module _ (s : List ℕ) (flags depth : ℕ) {old mid : List ℕ} (names table : List ℕ) (c : Cursor) where
  pub alternation-refused : (f : Refusal) → Branch s flags depth old mid names table c (Err f) → Alternates s flags depth old mid names table c (Err f)
  alternation-refused f x = record {
    moved = tt;
    frame = x.frame;
    names = tt;
    claim = λ known. first-branch s flags depth known (names_in s names c.opened) c.at (refused f.place f.reason) (x.claim known);
  }

  pub alternation-goes : (q : Part) → Branch s flags depth old mid names table c (Ok q) → (new after : List ℕ) (r : Result Part Refusal) → Furthers s flags depth mid new table after q.cursor q.node r → Alternates s flags depth old new names after c r
  alternation-goes q x new after r z =
      let m = x.moved in
      record {
        moved = moved_on (length s) c q.cursor 0 0 r (omega (arith, m.on)) m.grown m.paid z.moved;
        frame = λ i l. z.frame i (omega (arith, m.grown)) ∙ x.frame i l;
        names = z.names;
        claim = λ known.
            let y = x.claim known in
            says-as (Inside s known) (names_in s after) _ _ new c.used r (first-branch s flags depth known (names_in s names c.opened) c.at (sound (y.0, names_in s table q.cursor.opened) q.cursor.at) y.1) (z.claim known c.used y.0 y.2);
      }
