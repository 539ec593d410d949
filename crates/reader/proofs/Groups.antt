-- Groups and the parts that they are: from what the reader of the inside promises to the promise for the whole group.
use Rattle.std.specs.Prelude.{Result, Ok, Err}
use mathlib.Core.Path.{◌≡◌, refl, ap, sym, ◌∙◌}
use mathlib.Core.List.{List}
use Prim.Native.Nat.{ℕ, ◌+◌, ◌-◌}
use native.Mathlib.Omega.{arith}
use lib.ListN.{length}
use Rattle.syntax.specs.declared.Form.{Form}
use Rattle.syntax.specs.declared.Quantifier.TheVariants.{Absent}
use Rattle.syntax.specs.declared.Refusal.{Refusal}
use Rattle.syntax.specs.Read.{byte, Read, sound, refused, and_then}
use Rattle.syntax.specs.Tree.{Rule, enclosed}
use Rattle.syntax.specs.Names.{Names}
use Rattle.syntax.specs.Quantifiers.{quantifier}
use Rattle.syntax.specs.Grammar.{Inner, closing, grouped, Sequence, repeatable, whole, next_item, part, alternation, inside}
use Rattle.lexemes.specs.Says.{Peeked}
use Rattle.name_table.specs.Table.{names_in, NamesFit, length-names}
use Rattle.parts.specs.declared.Cursor.{Cursor}
use Rattle.parts.specs.declared.Part.{Part}
use Rattle.parts.specs.declared.Step.{Step}
use Rattle.parts.specs.declared.Before.{Before}
use Rattle.parts.specs.declared.Before.TheVariants.{Repeatable}
use Rattle.brackets.specs.declared.Opening.{Opening}
use Rattle.brackets.specs.Says.{Begun, SaysOpening}
use Rattle.parts.specs.Says.{Ready, PartAfter, Closes, Others}
use Rattle.reader.specs.Says.{Groups, Turns, Alternates}
use Rattle.reader.proofs.Answers.{names-stay, names-stay-turn, says-as, moved_on}
use Rattle.parts.proofs.Standing.{so_far_more, so-far-chain}

-- where the inside of a group begins
abbrev pub inner_of : Cursor → ℕ → ℕ → Cursor
inner_of c start next = record { at = start; used = c.used; opened = next }

pub inner-ready : {s table area : List ℕ} {c : Cursor} {start next : ℕ} {form : Form} → Ready (length s) area c → Begun s table (c.at + 1) start next form → Ready (length s) area (inner_of c start next)
inner-ready r b = record { within = b.within; began = r.began; paid = omega (arith, r.paid, b.on); room = r.room; narrow = r.narrow; few = b.few }

module _ (s : List ℕ) (flags depth : ℕ) (c : Cursor) (before : ℕ) (names table : List ℕ) where
  pub group-unopened : (old : List ℕ) (f : Refusal) → SaysOpening s flags depth c.at (names_in s names c.opened) table (Err f) → Groups s flags depth old old names table c before (Err f)
  group-unopened old f says = record { moved = tt; frame = λ i l. refl; names = tt; claim = says }

  module _ (o : Opening) (opens : SaysOpening s flags depth c.at (names_in s names c.opened) table (Ok o)) where
    -- the group by the reading of its inside
    by-inside : (known : Names) (a : Read (Rule × Names)) → alternation s flags known (inside (depth - 1) s flags known) (names_in s table o.opened) o.start ≡ a
        → grouped s (inside depth s flags known) c.at (names_in s names c.opened) ≡ and_then a (λ r end. closing s c.at (enclosed o.form c.at r.0) r.1 end)
    by-inside known a x = opens.goes known ∙ ap (λ (y : Read (Rule × Names)). and_then y (λ r end. closing s c.at (enclosed o.form c.at r.0) r.1 end)) x

    module _ {old mid : List ℕ} (after : List ℕ) where
      pub group-refused : (f : Refusal) → Alternates s flags (depth - 1) old mid table after (inner_of c o.start o.opened) (Err f) → Groups s flags depth old mid names after c before (Err f)
      group-refused f x = record { moved = tt; frame = x.frame; names = tt; claim = λ known. by-inside known (refused f.place f.reason) (x.claim known) }

      pub group-sound : (q : Part) → Alternates s flags (depth - 1) old mid table after (inner_of c o.start o.opened) (Ok q) → (new : List ℕ) (r : Result Part Refusal) → Closes s c.at o.form before mid new q.cursor q.node r
          → Groups s flags depth old new names after c before r
      group-sound q x new r z =
          let on = opens.begins.on in
          let m = x.moved in
          record {
            moved = moved_on (length s) c q.cursor 1 1 r (omega (arith, m.on)) m.grown (omega (arith, m.paid)) z.moved;
            frame = λ i l. z.frame i (omega (arith, m.grown)) ∙ x.frame i l;
            names = names-stay s after q.cursor r x.names z.names;
            claim = λ known.
                let y = x.claim known in
                says-as (PartAfter s known before) (names_in s after) _ _ new c.used r (by-inside known (sound (y.0, names_in s after q.cursor.opened) q.cursor.at) y.1) (z.claim known (names_in s after) c.used y.0 y.2);
          }

-- A part of a sequence -------------------------------------------------------------

quantifier-none : (s : List ℕ) (at : ℕ) → byte s at ≡ 40 → quantifier s at ≡ Absent
unfolding quantifier
quantifier-none s at e = rw e

part-group : {s : List ℕ} {at b : ℕ} (flags : ℕ) (known names : Names) (inner : Inner) (q : Sequence) → Peeked s at b → b ≡ 40 → (a : Read (Rule × Names)) → grouped s inner at names ≡ a
    → part s flags known inner q names at (quantifier s at) ≡ and_then a (λ r next. sound (repeatable (whole q) r.0, r.1) next)
unfolding part next_item
part-group {s} {at} flags known names inner q p e a x = let z : byte s at ≡ 40 = sym p.is ∙ e in rw (quantifier-none s at z) (rw z (rw x))

pub other_byte : {s : List ℕ} {at b : ℕ} → Peeked s at b → (b ≡ 40 → ⊥) → byte s at ≡ 40 → ⊥
other_byte p ne e = ne (p.is ∙ e)

module _ {s : List ℕ} (flags depth : ℕ) (c : Cursor) (last : ℕ) (kind : Before) {b : ℕ} (p : Peeked s c.at b) where
  pub piece-refused : {old new : List ℕ} (names table : List ℕ) (f : Refusal) → b ≡ 40 → Groups s flags depth old new names table c last (Err f) → Turns s flags depth old new names table c last kind (Err f)
  piece-refused names table f e x = record {
    moved = tt;
    frame = x.frame;
    names = tt;
    claim = λ known lo t k h. part-group flags known (names_in s names c.opened) (inside depth s flags known) t p e (refused f.place f.reason) (x.claim known);
  }

  pub piece-group : {old new : List ℕ} (names table : List ℕ) (q : Part) → b ≡ 40 → Groups s flags depth old new names table c last (Ok q)
      → Turns s flags depth old new names table c last kind (Ok (record { cursor = q.cursor; node = q.node; kind = Repeatable }))
  piece-group {old} {new} names table q e x = record {
    moved = x.moved;
    frame = x.frame;
    names = x.names;
    claim = λ known lo t k h.
        let y = x.claim known in (
          repeatable (whole t) y.0,
          refl,
          part-group flags known (names_in s names c.opened) (inside depth s flags known) t p e (sound (y.0, names_in s table q.cursor.opened) q.cursor.at) y.1,
          so_far_more s known old new lo c.used last q.node q.cursor.used (whole t) y.0 (so-far-chain s known t old lo c.used last h) x.frame y.2,
        );
  }

  pub piece-other : {old new : List ℕ} (table : List ℕ) (r : Result Step Refusal) → NamesFit s table c.opened → Others s flags old new c last kind r → Turns s flags depth old new table table c last kind r
  piece-other table r fit x = record {
    moved = x.moved;
    frame = x.frame;
    names = names-stay-turn s table c r fit x.names;
    claim = λ known. x.claim known (names_in s table) (length-names s table c.opened) (inside depth s flags known);
  }
