-- The parts of a sequence that are no groups: from what the item's reader or the quantifier's says to what the sequence then is.
use Rattle.std.specs.Prelude.{◌⊎◌, Result, Ok, Err}
use mathlib.Core.Path.{◌≡◌, refl, ap, sym, subst, ◌∙◌}
use mathlib.Core.Bool.{Bool, true, false}
use mathlib.Core.List.{List, [], ◌∷◌, ◌++◌}
use mathlib.Core.Logic.{inl, inr}
use Prim.Native.Nat.{ℕ, ◌+◌, ◌-◌, ◌≤◌, ◌<◌}
use native.Mathlib.Omega.{arith}
use borrow.Author.Tests.{ne_eqb}
use lib.ListN.{length, get_or, take, drop, length-drop}
use lib.Seq.{slice, length-take-le, drop-append_seam}
use Rattle.std.proofs.lemmas.List.{get_or_append_left, get_or-take}
use borrow.Rule.Slice.PartMut.{mid_of, post_of, put_mid, same_len_mid}
use Rattle.syntax.specs.declared.Assertion.{Assertion}
use Rattle.syntax.specs.declared.Greed.{Greed}
use Rattle.syntax.specs.declared.Most.{Most}
use Rattle.syntax.specs.declared.Quantifier.{Quantifier}
use Rattle.syntax.specs.declared.Quantifier.TheVariants.{Absent, Stray, Unfit, Times}
use Rattle.syntax.specs.declared.Reason.TheVariants.{NothingToRepeat, BadBraces, RepeatOnRepeat}
use Rattle.syntax.specs.declared.Parsed.{Parsed}
use Rattle.syntax.specs.declared.Refusal.{Refusal}
use Rattle.syntax.specs.Read.{byte, is, Read, sound, refused, and_then}
use Rattle.syntax.specs.Tree.{Item, byte_in, assert, reference, empty, item, seq, repeat, held, possessive, line_break}
use Rattle.syntax.specs.Quantifiers.{quantifier}
use Rattle.syntax.specs.Flags.{ignore_case}
use Rattle.syntax.specs.Names.{Names, group_called}
use Rattle.syntax.specs.Grammar.{atom, Sequence, unrepeatable, repeatable, repeated, whole, with_item, unfit_for, repeating, breaks_line, next_item, part}
use Rattle.syntax.specs.Compiled.{assertion_word, most_word, greed_word, folded_word}
use Rattle.syntax.specs.Laws.Forward.{Given, Past, Holding, Bounded, and_right, atom-on, quantifier-on}
use Rattle.syntax.specs.Laws.Within.{Upto, is-in, atom-in, quantifier-in}
use Rattle.lexemes.specs.declared.Name.{Name as NameAt}
use Rattle.lexer.specs.declared.Token.{Token}
use Rattle.lexer.specs.declared.Token.TheVariants.{Byte, Assert, Reference, Called}
use Rattle.lexer.specs.Says.{ItemIn, SaysItem}
use Rattle.parts.specs.declared.Cursor.{Cursor}
use Rattle.parts.specs.declared.Step.{Step}
use Rattle.parts.specs.declared.Before.{Before}
use Rattle.parts.specs.declared.Before.TheVariants.{Nothing, Repeatable, Repeated}
use Rattle.linker.proofs.Regions.{chain_same}
use Rattle.writer.specs.Wrote.{Below, Wrote}
use Rattle.parts.specs.Says.{behind_node, Ready, MovedTurn, Told, kind_of, SaysTurn, SoFar, Items, plain_item, PlainItems, Others, Repeats}
use Rattle.parts.proofs.Standing.{byte-part, assert-part, reference-part, named-part, break-part, has_same, below-same, so_far_more, so-far-chain, chain_more, repeat-chain, possessive-chain}

-- Repeats -------------------------------------------------------------------------

pub unfit-nothing : (kind : Before) (at : ℕ) → kind ≡ Nothing → (q : Sequence) → kind ≡ kind_of q → unfit_for q at ≡ refused at NothingToRepeat
unfolding unfit_for
unfit-nothing kind at e (unrepeatable t) k = refl
unfit-nothing kind at e (repeatable x y) k = cc
unfit-nothing kind at e (repeated t) k = cc

pub unfit-braces : (kind : Before) (at : ℕ) → (kind ≡ Repeatable) ⊎ (kind ≡ Repeated) → (q : Sequence) → kind ≡ kind_of q → unfit_for q at ≡ refused at BadBraces
unfolding unfit_for
unfit-braces kind at h (unrepeatable t) k = elim h [ inl e ↦ cc | inr e ↦ cc ]
unfit-braces kind at h (repeatable x y) k = refl
unfit-braces kind at h (repeated t) k = refl

module _ {old : List ℕ} {c : Cursor} {next : ℕ} (last : ℕ) (kind : Before) (least : ℕ) (most : Most) (greed : Greed) (keeps : Bool) (r : Ready next old c) where
  pub repeat-nothing : kind ≡ Nothing → Repeats old old c last kind least most greed keeps next (Err (record { place = c.at; reason = NothingToRepeat }))
  repeat-nothing e = record { moved = tt; frame = λ i l. refl; names = tt; claim = λ s known told lo q k h. by (told c.opened) q k }
    where
      by : (names : Names) (q : Sequence) → kind ≡ kind_of q → repeating q c.at least most greed keeps names next ≡ refused c.at NothingToRepeat
      by names (unrepeatable t) k = unfold repeating in refl
      by names (repeatable x y) k = cc
      by names (repeated t) k = cc

  pub repeat-twice : kind ≡ Repeated → Repeats old old c last kind least most greed keeps next (Err (record { place = c.at; reason = RepeatOnRepeat }))
  repeat-twice e = record { moved = tt; frame = λ i l. refl; names = tt; claim = λ s known told lo q k h. by (told c.opened) q k }
    where
      by : (names : Names) (q : Sequence) → kind ≡ kind_of q → repeating q c.at least most greed keeps names next ≡ refused c.at RepeatOnRepeat
      by names (unrepeatable t) k = cc
      by names (repeatable x y) k = cc
      by names (repeated t) k = unfold repeating in refl

  pub repeat-once : {new : List ℕ} → c.at < next → keeps ≡ false → kind ≡ Repeatable
      → Wrote old new c.used 8 (7 ∷ 8 ∷ least ∷ most_word most ∷ greed_word greed ∷ c.at ∷ last ∷ get_or old (last + 1) 0 ∷ [])
      → Repeats old new c last kind least most greed keeps next (Ok (record { cursor = behind_node c next 8; node = c.used; kind = Repeated }))
  unfolding repeating possessive
  repeat-once {new} l plain e w = record {
    moved = record { on = omega arith; within = omega arith; grown = omega arith; paid = omega arith; address = omega arith; few = r.few };
    frame = w.below;
    names = refl;
    claim = λ s known told lo q k h. by s known told lo q k h;
  }
    where
      by : (s : List ℕ) (known : Names) (told : Told) (lo : ℕ) (q : Sequence) → kind ≡ kind_of q → SoFar s known old q lo c.used last
          → SaysTurn s known told (repeating q c.at least most greed keeps (told c.opened) next) new lo (Ok (record { cursor = behind_node c next 8; node = c.used; kind = Repeated }))
      by s known told lo (unrepeatable t) k h = cc
      by s known told lo (repeatable x y) k h = (repeated (seq x (repeat c.at least most greed y)), refl, rw plain, repeat-chain s known lo most greed x y w r.began h)
      by s known told lo (repeated t) k h = cc

  -- a possessive one
  pub repeat-kept : {mid new : List ℕ} {before : ℕ} → keeps ≡ true → c.at + 1 < next → kind ≡ Repeatable → before ≡ get_or old (last + 1) 0
      → Wrote old mid c.used 8 (7 ∷ 8 ∷ least ∷ most_word most ∷ greed_word greed ∷ c.at ∷ last ∷ 0 ∷ []) → Wrote mid new (c.used + 8) 7 (14 ∷ before ∷ 0 ∷ (next - 1) ∷ 13 ∷ c.used ∷ 0 ∷ [])
      → Repeats old new c last kind least most greed keeps next (Ok (record { cursor = behind_node c next 15; node = c.used + 8; kind = Repeated }))
  unfolding repeating possessive
  repeat-kept {mid} {new} {before} own l e is w v = record {
    moved = record { on = omega arith; within = omega arith; grown = omega arith; paid = omega arith; address = omega arith; few = r.few };
    frame = λ i u. v.below i (omega arith) ∙ w.below i u;
    names = refl;
    claim = λ s known told lo q k h. by s known told lo q k h;
  }
    where
      by : (s : List ℕ) (known : Names) (told : Told) (lo : ℕ) (q : Sequence) → kind ≡ kind_of q → SoFar s known old q lo c.used last
          → SaysTurn s known told (repeating q c.at least most greed keeps (told c.opened) next) new lo (Ok (record { cursor = behind_node c next 15; node = c.used + 8; kind = Repeated }))
      by s known told lo (unrepeatable t) k h = cc
      by s known told lo (repeatable x y) k h = (repeated (seq x (held (next - 1) (seq empty (repeat c.at least most greed y)))), refl, rw own, possessive-chain s known lo (next - 1) most greed x y w is v r.began h)
      by s known told lo (repeated t) k h = cc

-- Items ---------------------------------------------------------------------------

given-at : {A : Type 0} (a : Read A) (P : A → ℕ → Type 0) (x : A) (n : ℕ) → a ≡ sound x n → Given a P → P x n
given-at a P x n e g = subst (λ (y : Read _). Given y P) e g

then-sound : {A B : Type 0} (a : Read A) (x : A) (n : ℕ) (k : A → ℕ → Read B) → a ≡ sound x n → and_then a k ≡ k x n
then-sound a x n k e = ap (λ (y : Read _). and_then y k) e

pub item-bad : (s : List ℕ) (old new : List ℕ) (c : Cursor) (flags last : ℕ) (f : Refusal) → Below c.used new old → ((known : Names) → atom s flags known c.opened c.at ≡ refused f.place f.reason) → Items s flags old new c last (Err f)
item-bad s old new c flags last f b says = record { moved = tt; frame = b; names = tt; claim = λ known told lo q h. rw (says known) }

module _ (s : List ℕ) {old : List ℕ} {c : Cursor} (words : List ℕ) (l : Parsed Token) (flags last : ℕ) (r : Ready (length s) old c) (in_rule : c.at < length s)
    (says : (known : Names) → SaysItem s (ignore_case flags) known (atom s flags known c.opened c.at) words (Ok l)) where
  -- what is said once the token is known
  is-token : (t : Token) → l.value ≡ t → (known : Names) → ItemIn s (ignore_case flags) known (atom s flags known c.opened c.at) words t l.next
  is-token t e known = subst (λ (y : Token). ItemIn s (ignore_case flags) known (atom s flags known c.opened c.at) words y l.next) e (says known)

  -- an item ends behind its beginning and within the rule
  module _ (i : Item) (next : ℕ) (is : atom s flags [] c.opened c.at ≡ sound i next) where
    on : c.at + 1 ≤ next
    on = given-at (atom s flags [] c.opened c.at) (Past (c.at + 1)) i next is (atom-on s flags [] c.opened c.at)

    upto : next ≤ length s
    upto = given-at (atom s flags [] c.opened c.at) (Upto s) i next is (atom-in s flags [] c.opened c.at in_rule)

  pub item-byte : {new : List ℕ} → l.value ≡ Byte → Wrote old new c.used 11 (0 ∷ last ∷ c.at ∷ words) → Items s flags old new c last (Ok (record { cursor = behind_node c l.next 11; node = c.used; kind = Repeatable }))
  item-byte {new} e w =
      let z = is-token Byte e [] in
      let n = on (byte_in (ignore_case flags) z.0) l.next z.1 in
      let u = upto (byte_in (ignore_case flags) z.0) l.next z.1 in
      record {
        moved = record { on = n; within = u; grown = omega arith; paid = omega arith; address = omega arith; few = r.few };
        frame = w.below;
        names = refl;
        claim = λ known told lo q h.
            let y = is-token Byte e known in
            let t = item c.at (byte_in (ignore_case flags) y.0) in (
              repeatable (whole q) t,
              refl,
              then-sound _ _ l.next _ y.1 ∙ (unfold with_item in refl),
              so_far_more s known old new lo c.used last c.used (c.used + 11) (whole q) t h w.below (byte-part s known (ignore_case flags) y.0 w r.began y.2),
            );
      }

  pub item-assert : {new : List ℕ} (k : Assertion) → l.value ≡ Assert k → Wrote old new c.used 4 (1 ∷ last ∷ c.at ∷ assertion_word k ∷ []) → Items s flags old new c last (Ok (record { cursor = behind_node c l.next 4; node = c.used; kind = Nothing }))
  item-assert {new} k e w =
      let z = is-token (Assert k) e [] in
      let n = on (assert k) l.next z in
      let u = upto (assert k) l.next z in
      record {
        moved = record { on = n; within = u; grown = omega arith; paid = omega arith; address = omega arith; few = r.few };
        frame = w.below;
        names = refl;
        claim = λ known told lo q h. (
          unrepeatable (seq (whole q) (item c.at (assert k))),
          refl,
          then-sound _ _ l.next _ (is-token (Assert k) e known) ∙ (unfold with_item in refl),
          chain_more s known old new lo c.used last c.used (c.used + 4) (whole q) (item c.at (assert k)) h w.below (assert-part s known k w r.began),
        );
      }

  pub item-reference : {new : List ℕ} (m : ℕ) → l.value ≡ Reference m → Wrote old new c.used 5 (11 ∷ last ∷ c.at ∷ m ∷ folded_word (ignore_case flags) ∷ []) → Items s flags old new c last (Ok (record { cursor = behind_node c l.next 5; node = c.used; kind = Repeatable }))
  item-reference {new} m e w =
      let z = is-token (Reference m) e [] in
      let n = on (reference (ignore_case flags) m) l.next z in
      let u = upto (reference (ignore_case flags) m) l.next z in
      record {
        moved = record { on = n; within = u; grown = omega arith; paid = omega arith; address = omega arith; few = r.few };
        frame = w.below;
        names = refl;
        claim = λ known told lo q h. (
          repeatable (whole q) (item c.at (reference (ignore_case flags) m)),
          refl,
          then-sound _ _ l.next _ (is-token (Reference m) e known) ∙ (unfold with_item in refl),
          so_far_more s known old new lo c.used last c.used (c.used + 5) (whole q) (item c.at (reference (ignore_case flags) m)) h w.below (reference-part s known (ignore_case flags) w r.began),
        );
      }

  -- where a name stands in the rule
  pub named-within : (n : NameAt) → l.value ≡ Called n → n.from + n.len < length s
  named-within n e = (is-token (Called n) e []).1.closed

  -- a reference by name: its number depends on the names of the whole rule
  pub item-named : {new : List ℕ} (n : NameAt) → l.value ≡ Called n → Wrote old new c.used 6 (2 ∷ last ∷ c.at ∷ n.from ∷ folded_word (ignore_case flags) ∷ n.len ∷ [])
      → Items s flags old new c last (Ok (record { cursor = behind_node c l.next 6; node = c.used; kind = Repeatable }))
  item-named {new} n e w =
      let z = is-token (Called n) e [] in
      let after = on (reference (ignore_case flags) (group_called (slice n.from (n.from + n.len) s) [])) l.next z.0 in
      let u = upto (reference (ignore_case flags) (group_called (slice n.from (n.from + n.len) s) [])) l.next z.0 in
      let v = named-within n e in
      record {
        moved = record { on = after; within = u; grown = omega arith; paid = omega arith; address = omega arith; few = r.few };
        frame = w.below;
        names = refl;
        claim = λ known told lo q h.
            let t = item c.at (reference (ignore_case flags) (group_called (slice n.from (n.from + n.len) s) known)) in (
              repeatable (whole q) t,
              refl,
              then-sound _ _ l.next _ (is-token (Called n) e known).0 ∙ (unfold with_item in refl),
              so_far_more s known old new lo c.used last c.used (c.used + 6) (whole q) t h w.below (named-part s known n.from n.len (ignore_case flags) w r.began (omega (arith, v))),
            );
      }

-- The words of a class, k of them, written behind the three first numbers of a byte item at p, before it is known whether one stands there.
module _ (old words : List ℕ) (p k : ℕ) (in_area : p + 3 + k ≤ length old) (many : length words ≡ length (mid_of (p + 3) k old)) where
  beside-long : length (put_mid (p + 3) k old words) ≡ length old
  beside-long = same_len_mid (p + 3) k old words many

  beside-below : Below p (put_mid (p + 3) k old words) old
  beside-below i h =
      let t = length-take-le (p + 3) old (omega arith) in
      get_or_append_left (take (p + 3) old) (words ++ post_of (p + 3) k old) 0 i (omega arith) ∙ get_or-take (p + 3) old i 0 (omega arith)

  beside-words : (i : ℕ) → i < k → get_or (drop (p + 3) (put_mid (p + 3) k old words)) i 0 ≡ get_or words i 0
  beside-words i h =
      let t = length-take-le (p + 3) old (omega arith) in
      let d = length-drop (p + 3) old in
      let m = length-take-le k (drop (p + 3) old) (omega arith) in
      let e = ap (λ (n : ℕ). drop n (put_mid (p + 3) k old words)) (sym t) ∙ drop-append_seam (take (p + 3) old) (words ++ post_of (p + 3) k old) in
      ap (λ (l : List ℕ). get_or l i 0) e ∙ get_or_append_left words (post_of (p + 3) k old) 0 i (omega arith)

ready-same : {size : ℕ} {old mid : List ℕ} {c : Cursor} → length mid ≡ length old → Ready size old c → Ready size mid c
ready-same e r = record { within = r.within; began = r.began; paid = r.paid; room = omega (arith, r.room); narrow = r.narrow; few = r.few }

-- the area with them, at the cursor
pub record Beside (size : ℕ) (old mid words : List ℕ) (c : Cursor) : Type 0 where
  pub same : Below c.used mid old
  pub ready : Ready size mid c
  pub left : (i : ℕ) → i < 8 → get_or (drop (c.used + 3) mid) i 0 ≡ get_or words i 0

pub beside : {size : ℕ} (old words : List ℕ) (c : Cursor) → Ready size old c → c.at < size
    → length words ≡ length (mid_of (c.used + 3) (c.used + 11 - (c.used + 3)) old)
    → Beside size old (put_mid (c.used + 3) (c.used + 11 - (c.used + 3)) old words) words c
beside old words c r h many =
    let k = c.used + 11 - (c.used + 3) in
    let fits : c.used + 3 + k ≤ length old = omega (arith, r.paid, r.room, h) in
    record {
      same = beside-below old words c.used k fits many;
      ready = ready-same (beside-long old words c.used k fits many) r;
      left = λ i l. beside-words old words c.used k fits many i (omega (arith, l));
    }

-- what equal words say is the same
item-same : (s : List ℕ) (folded : Bool) (known : Names) (a : Read Item) (v w : List ℕ) → ((i : ℕ) → i < 8 → get_or w i 0 ≡ get_or v i 0) → (t : Token) (next : ℕ) → ItemIn s folded known a v t next → ItemIn s folded known a w t next
item-same s folded known a v w e Byte next h = (h.0, h.1, λ x u. has_same w v e x u ∙ h.2 x u)
item-same s folded known a v w e (Assert k) next h = h
item-same s folded known a v w e (Reference n) next h = h
item-same s folded known a v w e (Called n) next h = h

pub says-same : (s : List ℕ) (folded : Bool) (known : Names) (a : Read Item) (v w : List ℕ) → ((i : ℕ) → i < 8 → get_or w i 0 ≡ get_or v i 0) → (l : Parsed Token) → SaysItem s folded known a v (Ok l) → SaysItem s folded known a w (Ok l)
says-same s folded known a v w e l h = item-same s folded known a v w e l.value l.next h

-- an item that was read where nothing below it had changed
pub items-behind : (s : List ℕ) {old mid new : List ℕ} (c : Cursor) (flags last : ℕ) (r : Result Step Refusal) → Below c.used mid old → Items s flags mid new c last r → Items s flags old new c last r
items-behind s {old} {mid} {new} c flags last r b y = record {
  moved = y.moved;
  frame = λ i k. y.frame i k ∙ b i k;
  names = y.names;
  claim = λ known told lo q h. y.claim known told lo q (chain_same s known old mid (whole q) lo c.used last (below-same mid old c.used lo c.used (omega arith) b) h);
}

pub turn-as : (s : List ℕ) (known : Names) (told : Told) (a b : Read (Sequence × Names)) (area : List ℕ) (lo : ℕ) (r : Result Step Refusal) → a ≡ b → SaysTurn s known told b area lo r → SaysTurn s known told a area lo r
turn-as s known told a b area lo r e x = subst (λ (y : Read (Sequence × Names)). SaysTurn s known told y area lo r) (sym e) x

-- `\R` stands within the rule: behind its end there is no byte
breaks-in : (s : List ℕ) (at : ℕ) → breaks_line s at ≡ true → at + 2 ≤ length s
unfolding breaks_line
breaks-in s at e = let i = is-in s (at + 1) 82 (omega arith) (and_right (is "\\" (byte s at)) (is "R" (byte s (at + 1))) e) in omega arith

-- `\R`
pub plain-break : (s : List ℕ) {old new : List ℕ} {c : Cursor} (flags last : ℕ) → Ready (length s) old c → breaks_line s c.at ≡ true → Wrote old new c.used 3 (12 ∷ last ∷ c.at ∷ []) → PlainItems s flags old new c last (Ok (record { cursor = behind_node c (c.at + 2) 3; node = c.used; kind = Repeatable }))
unfolding plain_item
plain-break s {old} {new} {c} flags last r e w =
    let l = breaks-in s c.at e in
    record {
      moved = record { on = omega arith; within = omega arith; grown = omega arith; paid = omega arith; address = omega arith; few = r.few };
      frame = w.below;
      names = refl;
      claim = λ known told lo q n h. (
        repeatable (whole q) (line_break c.at),
        refl,
        rw e,
        so_far_more s known old new lo c.used last c.used (c.used + 3) (whole q) (line_break c.at) h w.below (break-part s known w r.began),
      );
    }

-- any other item
pub plain-atom : (s : List ℕ) {old new : List ℕ} (c : Cursor) (flags last : ℕ) (r : Result Step Refusal) → breaks_line s c.at ≡ false → Items s flags old new c last r → PlainItems s flags old new c last r
unfolding plain_item
plain-atom s {old} {new} c flags last r e y = record {
  moved = y.moved;
  frame = y.frame;
  names = y.names;
  claim = λ known told lo q n h. turn-as s known told _ _ new lo r (rw (e, n)) (y.claim known told lo q h);
}

-- Any part that is no group -------------------------------------------------------

moved_upto : (m n : ℕ) (c : Cursor) (r : Result Step Refusal) → m ≤ n → MovedTurn m c r → MovedTurn n c r
moved_upto m n c (Ok r) h x = record { on = x.on; within = omega (arith, x.within); grown = x.grown; paid = x.paid; address = x.address; few = x.few }
moved_upto m n c (Err f) h x = tt

-- a repeat ends behind its beginning and within the rule
pub repeat-ends : (s : List ℕ) (at least : ℕ) (most : Most) (greed : Greed) (keeps : Bool) (next : ℕ) → quantifier s at ≡ Times least most greed keeps next → (at < next) × (next ≤ length s) × (keeps ≡ true → at + 1 < next)
repeat-ends s at least most greed keeps next e =
    let b = subst (λ (x : Quantifier). Holding x (Bounded (at + 1))) e (quantifier-on s at) in
    (omega (arith, b.1), subst (λ (x : Quantifier). Holding x (λ n m keeps end. end ≤ length s)) e (quantifier-in s at), b.2)

module _ (s : List ℕ) (c : Cursor) {x : Quantifier} (flags last : ℕ) (kind : Before) (is : x ≡ quantifier s c.at) where
  pub other_item : {old new : List ℕ} (r : Result Step Refusal) → x ≡ Absent → (byte s c.at ≡ 40 → ⊥) → PlainItems s flags old new c last r → Others s flags old new c last kind r
  unfolding part next_item plain_item
  other_item {old} {new} r e ne y = record {
    moved = y.moved;
    frame = y.frame;
    names = y.names;
    claim = λ known told n inner lo q k h. turn-as s known told _ _ new lo r (rw (← is, e) (simp (ne_eqb (byte s c.at) 40 ne))) (y.claim known told lo q n (so-far-chain s known q old lo c.used last h));
  }

  pub other-stray : (old : List ℕ) → x ≡ Stray → Others s flags old old c last kind (Err (record { place = c.at; reason = BadBraces }))
  unfolding part
  other-stray old e = record { moved = tt; frame = λ i l. refl; names = tt; claim = λ known told n inner lo q k h. rw (← is, e) }

  pub other-unfit : (old : List ℕ) (f : Refusal) → x ≡ Unfit → ((q : Sequence) → kind ≡ kind_of q → unfit_for q c.at ≡ refused f.place f.reason) → Others s flags old old c last kind (Err f)
  unfolding part
  other-unfit old f e y = record { moved = tt; frame = λ i l. refl; names = tt; claim = λ known told n inner lo q k h. rw (← is, e) (y q k) }

  pub other-repeat : {old new : List ℕ} (r : Result Step Refusal) (least : ℕ) (most : Most) (greed : Greed) (keeps : Bool) (next : ℕ) → x ≡ Times least most greed keeps next → Repeats old new c last kind least most greed keeps next r → Others s flags old new c last kind r
  unfolding part
  other-repeat {old} {new} r least most greed keeps next e y =
      let u = repeat-ends s c.at least most greed keeps next (sym is ∙ e) in
      record {
        moved = moved_upto next (length s) c r u.1 y.moved;
        frame = y.frame;
        names = y.names;
        claim = λ known told n inner lo q k h. turn-as s known told _ _ new lo r (rw (← is, e)) (y.claim s known told lo q k h);
      }
