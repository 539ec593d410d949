-- The end of a group: what follows from the byte that the code met there.
use Rattle.std.specs.Prelude.{Ok, Err}
use mathlib.Core.Path.{◌≡◌, refl}
use mathlib.Core.Bool.{true, false}
use mathlib.Core.List.{List, [], ◌∷◌}
use Prim.Native.Nat.{ℕ, ◌+◌, ◌≤◌}
use native.Mathlib.Omega.{arith}
use borrow.Author.Tests.{ne_eqb}
use lib.ListN.{length}
use Rattle.syntax.specs.declared.Form.{Form}
use Rattle.syntax.specs.declared.Form.TheVariants.{Grouped, Captured, Held, Ahead, NotAhead}
use Rattle.syntax.specs.declared.Reason.TheVariants.{UnclosedGroup}
use Rattle.syntax.specs.Limits.{group_limit, slot}
use Rattle.syntax.specs.Read.{sound, refused}
use Rattle.syntax.specs.Tree.{Rule, group, held, look, enclosed}
use Rattle.syntax.specs.Names.{Names}
use Rattle.syntax.specs.Grammar.{closing}
use Rattle.lexemes.specs.Says.{Peeked}
use Rattle.parts.specs.declared.Cursor.{Cursor}
use Rattle.writer.specs.Wrote.{Wrote}
use Rattle.brackets.specs.Says.{FormFits}
use Rattle.parts.specs.Says.{behind_node, Ready, Closes}
use Rattle.parts.proofs.Standing.{group-part, held-part, ahead-part, not-ahead-part, plain-part}

closing-yes : {s : List ℕ} {at b : ℕ} (opening : ℕ) (t : Rule) (n : Names) → Peeked s at b → b ≡ 41 → closing s opening t n at ≡ sound (t, n) (at + 1)
unfolding closing
closing-yes opening t n p e = rw (← p.is, e)

closing-no : {s : List ℕ} {at b : ℕ} (opening : ℕ) (t : Rule) (n : Names) → Peeked s at b → (b ≡ 41 → ⊥) → closing s opening t n at ≡ refused opening UnclosedGroup
unfolding closing
closing-no {b = b} opening t n p ne = rw (← p.is) (simp (ne_eqb b 41 ne))

-- the number of a group that captures is one that a rule may have
pub form-numbered : {form : Form} {n : ℕ} → form ≡ Captured n → FormFits form → (1 ≤ n) × (n ≤ group_limit)
form-numbered e f = rw e at f

module _ {s old : List ℕ} {c : Cursor} {b : ℕ} (opening before p : ℕ) (r : Ready (length s) old c) (peeked : Peeked s c.at b) where
  pub close-not : (form : Form) → (b ≡ 41 → ⊥) → Closes s opening form before old old c p (Err (record { place = opening; reason = UnclosedGroup }))
  close-not form ne = record { moved = tt; frame = λ i l. refl; names = tt; claim = λ known told lo t h. closing-no opening (enclosed form opening t) (told c.opened) peeked ne }

  module _ {new : List ℕ} (e : b ≡ 41) where
    pub close-plain : Wrote old new c.used 3 (10 ∷ before ∷ p ∷ []) → Closes s opening Grouped before old new c p (Ok (record { cursor = behind_node c (c.at + 1) 3; node = c.used }))
    unfolding enclosed
    close-plain w = record {
      moved = record { on = omega arith; within = omega arith; grown = omega arith; paid = omega arith; address = omega arith; few = r.few };
      frame = w.below;
      names = refl;
      claim = λ known told lo t h. (t, closing-yes opening t (told c.opened) peeked e, plain-part s known lo t w r.began h);
    }

    pub close-group : (number : ℕ) → Wrote old new c.used 7 (4 ∷ before ∷ 0 ∷ slot number ∷ 3 ∷ p ∷ 0 ∷ []) → Closes s opening (Captured number) before old new c p (Ok (record { cursor = behind_node c (c.at + 1) 7; node = c.used }))
    unfolding enclosed
    close-group number w = record {
      moved = record { on = omega arith; within = omega arith; grown = omega arith; paid = omega arith; address = omega arith; few = r.few };
      frame = w.below;
      names = refl;
      claim = λ known told lo t h. (group number t, closing-yes opening (group number t) (told c.opened) peeked e, group-part s known number lo t w r.began h);
    }

    pub close-held : Wrote old new c.used 7 (14 ∷ before ∷ 0 ∷ opening ∷ 13 ∷ p ∷ 0 ∷ []) → Closes s opening Held before old new c p (Ok (record { cursor = behind_node c (c.at + 1) 7; node = c.used }))
    unfolding enclosed
    close-held w = record {
      moved = record { on = omega arith; within = omega arith; grown = omega arith; paid = omega arith; address = omega arith; few = r.few };
      frame = w.below;
      names = refl;
      claim = λ known told lo t h. (held opening t, closing-yes opening (held opening t) (told c.opened) peeked e, held-part s known opening lo t w r.began h);
    }

    pub close-ahead : Wrote old new c.used 7 (15 ∷ before ∷ 0 ∷ opening ∷ 13 ∷ p ∷ 0 ∷ []) → Closes s opening Ahead before old new c p (Ok (record { cursor = behind_node c (c.at + 1) 7; node = c.used }))
    unfolding enclosed
    close-ahead w = record {
      moved = record { on = omega arith; within = omega arith; grown = omega arith; paid = omega arith; address = omega arith; few = r.few };
      frame = w.below;
      names = refl;
      claim = λ known told lo t h. (look opening false t, closing-yes opening (look opening false t) (told c.opened) peeked e, ahead-part s known opening lo t w r.began h);
    }

    pub close-not-ahead : Wrote old new c.used 8 (17 ∷ before ∷ 0 ∷ opening ∷ 16 ∷ p ∷ 0 ∷ 0 ∷ []) → Closes s opening NotAhead before old new c p (Ok (record { cursor = behind_node c (c.at + 1) 8; node = c.used }))
    unfolding enclosed
    close-not-ahead w = record {
      moved = record { on = omega arith; within = omega arith; grown = omega arith; paid = omega arith; address = omega arith; few = r.few };
      frame = w.below;
      names = refl;
      claim = λ known told lo t h. (look opening true t, closing-yes opening (look opening true t) (told c.opened) peeked e, not-ahead-part s known opening lo t w r.began h);
    }
