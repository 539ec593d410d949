-- The text of an item ends where the reader of items says, behind its place and within the rule.
use Rattle.std.specs.Prelude.{◌≡◌, refl, List, [], Bool, true, false, ◌&&◌, ℕ, suc, ◌+◌, ◌≤◌, ◌<◌, eqb, length, if◌then◌else◌}
use Rattle.std.proofs.Math.Path.{sym}
use Rattle.std.proofs.Common.{◌∙◌, arith}
use borrow.Author.Tests.{ne_eqb}
use Rattle.syntax.specs.declared.Quantifier.{Quantifier}
use Rattle.syntax.specs.declared.Quantifier.TheVariants.{Absent, Stray, Unfit, Times}
use Rattle.syntax.specs.Read.{byte, is, Read, sound, refused}
use Rattle.syntax.specs.Tree.{Item}
use Rattle.syntax.specs.Flags.{ignore_case}
use Rattle.syntax.specs.Quantifiers.{quantifier}
use Rattle.syntax.specs.Grammar.{behind_blanks, atom, breaks_line}
use Rattle.syntax.specs.Laws.Blanks.{blanks-on}
use Rattle.syntax.specs.Laws.Forward.{Given, Past, Holding, Bounded, and_right, quantifier-on, atom-on}
use Rattle.syntax.specs.Laws.Within.{Upto, is-in, quantifier-in, atom-in}
use Rattle.lexemes.specs.Says.{Peeked}
use Rattle.syntax.specs.declared.Refusal.{Refusal}
use Rattle.lexer.specs.declared.Token.{Token}
use Rattle.lexer.specs.declared.Token.TheVariants.{Byte, Assert, Reference, Called}
use Rattle.lexer.specs.Says.{ItemIn}
use Rattle.reasons.specs.Items.{behind_repeat, with_repeat, behind_item, opens_not_ahead, item_end}

-- Where the reader says --------------------------------------------------------

module _ (s : List ℕ) (flags at : ℕ) where
  -- an item that was read as a token
  pub end-read : (words : List ℕ) (t : Token) (next : ℕ) → ItemIn s (ignore_case flags) [] (atom s flags [] 0 at) words t next → with_repeat s flags next ≡ behind_item s flags at (atom s flags [] 0 at)
  unfolding behind_item
  end-read words Byte next h = rw h.1
  end-read words (Assert k) next h = rw h
  end-read words (Reference n) next h = rw h
  end-read words (Called n) next h = rw h.0

  -- one that is refused
  pub end-refused : (r : Refusal) → atom s flags [] 0 at ≡ refused r.place r.reason → suc at ≡ behind_item s flags at (atom s flags [] 0 at)
  unfolding behind_item
  end-refused r h = rw h

-- By what stands at the place -----------------------------------------------------

module _ (s : List ℕ) (flags at : ℕ) where
  pub end-break : breaks_line s at ≡ true → with_repeat s flags (at + 2) ≡ item_end s flags at
  unfolding item_end
  end-break e = rw e

  pub end-opening : breaks_line s at ≡ false → opens_not_ahead s at ≡ true → at + 3 ≡ item_end s flags at
  unfolding item_end
  end-opening e f = rw (e, f)

  pub end-item : breaks_line s at ≡ false → opens_not_ahead s at ≡ false → behind_item s flags at (atom s flags [] 0 at) ≡ item_end s flags at
  unfolding item_end
  end-item e f = rw (e, f)

module _ (s : List ℕ) (at : ℕ) {b : ℕ} (p : Peeked s at b) where
  pub opens_not : (b ≡ 40 → ⊥) → false ≡ opens_not_ahead s at
  unfolding opens_not_ahead
  opens_not ne = rw (ne_eqb (byte s at) 40 (λ e. ne (p.is ∙ e)))

  module _ (e : b ≡ 40) {d : ℕ} (q : Peeked s (at + 1) d) where
    pub opens-other : (d ≡ 63 → ⊥) → false ≡ opens_not_ahead s at
    unfolding opens_not_ahead
    opens-other ne = let z : byte s at ≡ 40 = sym p.is ∙ e in rw (z, ne_eqb (byte s (at + 1)) 63 (λ f. ne (q.is ∙ f)))

    pub opens_by : {x : ℕ} → d ≡ 63 → Peeked s (at + 2) x → eqb x 33 ≡ opens_not_ahead s at
    unfolding opens_not_ahead
    opens_by f r = let z : byte s at ≡ 40 = sym p.is ∙ e in let w : byte s (at + 1) ≡ 63 = sym q.is ∙ f in rw (z, w, ← r.is)

-- Bounds -------------------------------------------------------------------------

repeat-within : (s : List ℕ) (next : ℕ) (q : Quantifier) → next ≤ length s → Holding q (λ n m keeps end. end ≤ length s) → behind_repeat next q ≤ length s
unfolding behind_repeat
repeat-within s next Absent h k = h
repeat-within s next Stray h k = h
repeat-within s next Unfit h k = h
repeat-within s next (Times n m g keeps end) h k = k

item-within : (s : List ℕ) (flags at : ℕ) (a : Read Item) → at < length s → Given a (Upto s) → behind_item s flags at a ≤ length s
unfolding behind_item with_repeat
item-within s flags at (sound i next) h g = repeat-within s next (quantifier s (behind_blanks s flags next)) g (quantifier-in s (behind_blanks s flags next))
item-within s flags at (refused p r) h g = h

-- `\R` and `(?!` stand within the rule: behind its end there is no byte
breaks-in : (s : List ℕ) (at : ℕ) → breaks_line s at ≡ true → at + 2 ≤ length s
unfolding breaks_line
breaks-in s at e = let i = is-in s (at + 1) 82 (omega arith) (and_right (is "\\" (byte s at)) (is "R" (byte s (at + 1))) e) in omega arith

opens_in : (s : List ℕ) (at : ℕ) → opens_not_ahead s at ≡ true → at + 3 ≤ length s
unfolding opens_not_ahead
opens_in s at e =
    let i = is-in s (at + 2) 33 (omega arith) (and_right (is "?" (byte s (at + 1))) (is "!" (byte s (at + 2))) (and_right (is "(" (byte s at)) (is "?" (byte s (at + 1)) && is "!" (byte s (at + 2))) e)) in
    omega arith

pub end-within : (s : List ℕ) (flags at : ℕ) → at < length s → item_end s flags at ≤ length s
unfolding item_end with_repeat
end-within s flags at h = by (breaks_line s at) refl (opens_not_ahead s at) refl
  where
    by : (b : Bool) → breaks_line s at ≡ b → (c : Bool) → opens_not_ahead s at ≡ c → (if b then with_repeat s flags (at + 2) else if c then at + 3 else behind_item s flags at (atom s flags [] 0 at)) ≤ length s
    by true e c f = repeat-within s (at + 2) (quantifier s (behind_blanks s flags (at + 2))) (breaks-in s at e) (quantifier-in s (behind_blanks s flags (at + 2)))
    by false e true f = opens_in s at f
    by false e false f = item-within s flags at (atom s flags [] 0 at) h (atom-in s flags [] 0 at h)

repeat-behind : (at next position : ℕ) (q : Quantifier) → at < next → next ≤ position → Holding q (Bounded (position + 1)) → at < behind_repeat next q
unfolding behind_repeat
repeat-behind at next position Absent h l k = h
repeat-behind at next position Stray h l k = h
repeat-behind at next position Unfit h l k = h
repeat-behind at next position (Times n m g keeps end) h l k = omega (arith, k.1)

item-behind : (s : List ℕ) (flags at : ℕ) (a : Read Item) → Given a (Past (at + 1)) → at < behind_item s flags at a
unfolding behind_item with_repeat
item-behind s flags at (sound i next) g = repeat-behind at next (behind_blanks s flags next) (quantifier s (behind_blanks s flags next)) (omega (arith, g)) (blanks-on s flags next) (quantifier-on s (behind_blanks s flags next))
item-behind s flags at (refused p r) g = omega arith

pub end-behind : (s : List ℕ) (flags at : ℕ) → at < item_end s flags at
unfolding item_end with_repeat
end-behind s flags at = by (breaks_line s at) (opens_not_ahead s at)
  where
    by : (b c : Bool) → at < (if b then with_repeat s flags (at + 2) else if c then at + 3 else behind_item s flags at (atom s flags [] 0 at))
    by true c = repeat-behind at (at + 2) (behind_blanks s flags (at + 2)) (quantifier s (behind_blanks s flags (at + 2))) (omega arith) (blanks-on s flags (at + 2)) (quantifier-on s (behind_blanks s flags (at + 2)))
    by false true = omega arith
    by false false = item-behind s flags at (atom s flags [] 0 at) (atom-on s flags [] 0 at)
