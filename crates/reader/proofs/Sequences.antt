-- The loop over the parts of a sequence: what it has passed, and what follows where it goes on, ends or is refused.
use Rattle.std.specs.Prelude.{Ok, Err}
use mathlib.Core.Path.{◌≡◌, refl, sym, ◌∙◌}
use mathlib.Core.List.{List}
use mathlib.Core.Bool.{Bool, true, false}
use Prim.Native.Nat.{ℕ, ◌≤◌, ◌<◌}
use native.Mathlib.Omega.{arith}
use borrow.Author.Tests.{ne_eqb}
use lib.ListN.{length}
use Rattle.syntax.specs.declared.Refusal.{Refusal}
use Rattle.syntax.specs.Read.{byte, is_end, Read, sound, refused, and_then}
use Rattle.syntax.specs.Tree.{empty}
use Rattle.syntax.specs.Names.{Names}
use Rattle.syntax.specs.Quantifiers.{quantifier}
use Rattle.syntax.specs.Grammar.{behind_blanks, Sequence, unrepeatable, whole, part, ends, sequence, branch, inside}
use Rattle.syntax.specs.Laws.Blanks.{blanks-on, blanks-in}
use Rattle.syntax.specs.Laws.Forward.{inside_on}
use Rattle.syntax.specs.Laws.Fuel.{sequence-turn}
use Rattle.syntax.specs.Laws.Within.{ends-false}
use Rattle.lexemes.specs.Says.{Peeked}
use Rattle.name_table.specs.Table.{names_in, NamesFit}
use Rattle.parts.specs.declared.Cursor.{Cursor}
use Rattle.parts.specs.declared.Step.{Step}
use Rattle.parts.specs.declared.Before.{Before}
use Rattle.parts.specs.declared.Before.TheVariants.{Nothing}
use Rattle.writer.specs.Wrote.{Below}
use Rattle.parts.specs.Says.{Ready, Moves, SoFar, kind_of}
use Rattle.reader.specs.Says.{Naming, Branch, Turns}
use Rattle.reader.proofs.Answers.{ready_on, naming-on}
use Rattle.parts.proofs.Standing.{chain-none, so-far-chain}

-- the branch is the rest of a sequence of which the last part so far stands at `last`; `names` and `table` are the table of names before and after
pub record Rest (s : List ℕ) (flags depth : ℕ) (new names table : List ℕ) (c d : Cursor) (last : ℕ) (kind : Before) (known : Names) : Type 0 where
  pub before : Sequence
  pub is : kind ≡ kind_of before
  pub stands : SoFar s known new before c.used d.used last
  pub rest : branch s flags known (inside depth s flags known) (names_in s names c.opened) c.at ≡ sequence (length s) s flags known (inside depth s flags known) before (names_in s table d.opened) d.at

-- from the cursor c to d
pub record Passed (s : List ℕ) (flags depth : ℕ) (old new names table : List ℕ) (c d : Cursor) (last : ℕ) (kind : Before) : Type 0 where
  pub moves : Moves (length s) c 0 d last
  pub long : length new ≡ length old
  pub wide : length table ≡ length names
  pub frame : Below c.used new old
  pub fit : NamesFit s table d.opened
  pub claim : (known : Names) → Rest s flags depth new names table c d last kind known

pub passed_none : {area table : List ℕ} {c : Cursor} (s : List ℕ) (flags depth : ℕ) → Ready (length s) area c → Naming s table c → Passed s flags depth area area table table c c 0 Nothing
passed_none {area} {table} {c} s flags depth r n = record {
  moves = record { on = omega arith; within = r.within; grown = omega arith; paid = omega arith; address = r.began; few = r.few };
  long = refl;
  wide = refl;
  frame = λ i l. refl;
  fit = n.fit;
  claim = λ known. record { before = unrepeatable empty; is = refl; stands = chain-none s known area c.used; rest = unfold branch in refl };
}

pub ends-no : (b : ℕ) → (b ≡ 124 → ⊥) → (b ≡ 41 → ⊥) → (b ≡ 256 → ⊥) → ends b ≡ false
unfolding ends is_end
ends-no b n1 n2 n3 = simp (ne_eqb b 124 n1, ne_eqb b 41 n2, ne_eqb b 256 n3)

-- where a sequence goes on, there is a byte
pub goes_on : {s : List ℕ} {at b : ℕ} {done : Bool} → Peeked s at b → done ≡ ends b → done ≡ false → at < length s
goes_on {s} {at} p is e = ends-false s at (rw (← p.is) (sym is ∙ e))

-- Blanks --------------------------------------------------------------------------

-- the cursor at another position
abbrev pub moved_to : Cursor → ℕ → Cursor
moved_to c at = record { at = at; used = c.used; opened = c.opened }

module _ {s old area names table : List ℕ} {c d : Cursor} {flags depth last at : ℕ} {kind : Before} (h : Passed s flags depth old area names table c d last kind) (skips : at ≡ behind_blanks s flags d.at) where
  pub past-blanks : d.at ≤ at
  past-blanks = omega (arith, blanks-on s flags d.at)

  pub moved-past : Moves (length s) c 0 (moved_to d at) last
  moved-past =
      let g = h.moves in
      let l = past-blanks in
      let u = blanks-in s flags d.at g.within in
      record { on = omega (arith, g.on); within = omega arith; grown = g.grown; paid = omega (arith, g.paid); address = g.address; few = g.few }

  pub ready-past : Ready (length s) old c → Ready (length s) area (moved_to d at)
  ready-past r = ready_on r moved-past h.long

  pub naming-past : Naming s names c → Naming s table (moved_to d at)
  naming-past n = naming-on (moved_to d at) n h.fit h.wide

-- The turns of the loop -----------------------------------------------------------

module _ {s old area names table : List ℕ} {c d : Cursor} {last at b : ℕ} {kind : Before} {done : Bool} (flags depth : ℕ) (h : Passed s flags depth old area names table c d last kind)
    (skips : at ≡ behind_blanks s flags d.at) (p : Peeked s at b) (is : done ≡ ends b) where
  pub sequence-stops : done ≡ true → Branch s flags depth old area names table c (Ok (record { cursor = moved_to d at; node = last }))
  sequence-stops e = record {
    moved = moved-past h skips;
    frame = h.frame;
    names = h.fit;
    claim = λ known. let y = h.claim known in (whole y.before, y.rest ∙ stop known y.before, so-far-chain s known y.before area c.used d.used last y.stands);
  }
    where
      t : ends (byte s at) ≡ true
      t = rw (← p.is) (sym is ∙ e)

      stop : (known : Names) (q : Sequence) → sequence (length s) s flags known (inside depth s flags known) q (names_in s table d.opened) d.at ≡ sound (whole q, names_in s table d.opened) at
      stop known q = sequence-turn s flags known (inside depth s flags known) q (names_in s table d.opened) d.at (inside_on depth s flags known) ∙ rw (← skips, t)

  module _ (on : done ≡ false) where
    goes : (known : Names) (a : Read (Sequence × Names)) → part s flags known (inside depth s flags known) (h.claim known).before (names_in s table d.opened) at (quantifier s at) ≡ a
        → branch s flags known (inside depth s flags known) (names_in s names c.opened) c.at ≡ and_then a (λ y next. sequence (length s) s flags known (inside depth s flags known) y.0 y.1 next)
    goes known a e =
        (h.claim known).rest ∙ sequence-turn s flags known (inside depth s flags known) (h.claim known).before (names_in s table d.opened) d.at (inside_on depth s flags known) ∙ rw (← skips, t) (rw e)
      where
        t : ends (byte s at) ≡ false
        t = rw (← p.is) (sym is ∙ on)

    module _ {new : List ℕ} (after : List ℕ) where
      pub sequence-refused : (f : Refusal) → Turns s flags depth area new table after (moved_to d at) last kind (Err f) → Branch s flags depth old new names after c (Err f)
      sequence-refused f x = record {
        moved = tt;
        frame = λ i l. x.frame i (omega (arith, h.moves.grown)) ∙ h.frame i l;
        names = tt;
        claim = λ known.
            let q = h.claim known in
            goes known (refused f.place f.reason) (x.claim known c.used q.before q.is q.stands);
      }

      pub passed-more : (r : Step) → Turns s flags depth area new table after (moved_to d at) last kind (Ok r) → length new ≡ length area → length after ≡ length table → Passed s flags depth old new names after c r.cursor r.node r.kind
      passed-more r x long wide =
          let m = x.moved in
          let g = moved-past h skips in
          record {
            moves = record { on = omega (arith, g.on, m.on); within = m.within; grown = omega (arith, g.grown, m.grown); paid = omega (arith, g.paid, m.paid); address = m.address; few = m.few };
            long = long ∙ h.long;
            wide = wide ∙ h.wide;
            frame = λ i l. x.frame i (omega (arith, g.grown)) ∙ h.frame i l;
            fit = x.names;
            claim = λ known.
                let z = h.claim known in
                let y = x.claim known c.used z.before z.is z.stands in
                record { before = y.0; is = y.1; stands = y.3; rest = goes known (sound (y.0, names_in s after r.cursor.opened) r.cursor.at) y.2 };
          }
