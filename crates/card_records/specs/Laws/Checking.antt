-- Records that end at a kind 3: what their number and order, the padding and what is trailing say about the card.
use Rattle.std.specs.Prelude.{◌≡◌, refl, Bool, false, get_or, drop, replicate}
use Rattle.std.proofs.Math.Path.{sym, ap}
use Rattle.std.proofs.Common.{subst, ◌∙◌, inl, inr, length-append, length-drop, get_or-append-add, get_or-drop}
use Rattle.std.proofs.Math.Bool.{true}
use mathlib.Core.List.{List, [], ◌∷◌, ◌++◌, append_assoc}
use Prim.Native.Nat.{ℕ, suc, ◌+◌, ◌*◌, ◌/◌, ◌≤◌, ◌<◌}
use native.Mathlib.Omega.{arith}
use Rattle.std.proofs.Math.ListN.{length, get_or-append}
use Rattle.std.proofs.Math.Seq.{length-take-le}
use Rattle.syntax.specs.declared.Reason.TheVariants.{WrongRecords, StrayBytes}
use Rattle.syntax.specs.Sets.{same_bytes}
use Rattle.semantics.proofs.Laws.Cases.{clash, le-or}
use Rattle.index.specs.Laws.Known.{same_self, same-equal}
use Rattle.card_format.specs.Cards.{settings_kind, settings_body, piece_kind, piece_body, length_kind, length_body, CardRecord, in_bytes, bodies, kinds, of_two, pieces_for, all_zero, text, is_tidy, said_by, fails, card_in}
use Rattle.card_format.specs.CardDemands.{Whole, whole_settings, whole_piece, AllWhole, Parts, InOrder, wrong_records, stray_padding, stray_trailing}
use Rattle.card_records.specs.Walking.{orderly, CutsAt, IsPadding, IsCard}
use Rattle.card_format.proofs.Laws.Pieces.{pieces-again, pieces-enough, pieces-long, all-zero, text_at}
use Rattle.card_format.proofs.Laws.Scanning.{scan-card, card-in, order-known, fault-fails}
use Rattle.card_format.specs.Places.{place, text_end}
use Rattle.card_format.proofs.Laws.Written.{place_is}
use Rattle.card_records.specs.Laws.Walking.{orderly-long, kinds-long}

-- Records in order -------------------------------------------------------------------------

-- their bytes, and where those of the rule stand, whatever follows
pub record Ordered (rs : List CardRecord) (many : ℕ) : Type 0 where
  pub text_long : length (text rs) ≡ many * piece_body
  pub bytes_long : length (in_bytes rs) ≡ suc settings_body + many * suc piece_body
  pub placed : (rest : List ℕ) (i : ℕ) → i < many * piece_body → get_or (in_bytes rs ++ rest) (place i) 0 ≡ get_or (text rs) i 0

by-settings : {r : CardRecord} → Whole r → r.kind ≡ settings_kind → (ps : List CardRecord) → AllWhole ps → (many : ℕ) → kinds ps ≡ replicate many piece_kind → Ordered (r ∷ ps) many
unfolding in_bytes text place
by-settings (whole_piece l) e ps ws many k = absurd (omega arith)
by-settings (whole_settings {body} l) e ps ws many k =
    let z = pieces-again many ps ws k in
    let long : length (in_bytes ps) ≡ many * suc piece_body = ap (λ (x : List CardRecord). length (in_bytes x)) z.0 ∙ pieces-long many (bodies ps) z.1 in
    record {
      text_long = z.1;
      bytes_long = omega (arith, length-append body (in_bytes ps));
      placed = λ rest i h. (
          let within : suc (i + i / piece_body) < length (in_bytes ps) = omega arith in
          ap (λ (s : List ℕ). get_or s (suc settings_body + suc (i + i / piece_body)) 0) (append_assoc (settings_kind ∷ body) (in_bytes ps) rest)
          ∙ behind body (in_bytes ps ++ rest) l (suc (i + i / piece_body))
          ∙ get_or-append (in_bytes ps) rest 0 (suc (i + i / piece_body)) within
          ∙ ap (λ (x : List CardRecord). get_or (in_bytes x) (suc (i + i / piece_body)) 0) z.0
          ∙ text_at many (bodies ps) z.1 i h);
    }
  where
    behind : (body more : List ℕ) → length body ≡ settings_body → (i : ℕ) → get_or ((settings_kind ∷ body) ++ more) (suc settings_body + i) 0 ≡ get_or more i 0
    behind body more l i =
        let e : length (settings_kind ∷ body) + i ≡ suc settings_body + i = omega arith in
        ap (λ (n : ℕ). get_or ((settings_kind ∷ body) ++ more) n 0) (sym e) ∙ get_or-append-add (settings_kind ∷ body) more i 0

pub ordered-records : (rs : List CardRecord) → AllWhole rs → (many : ℕ) → kinds rs ≡ settings_kind ∷ replicate many piece_kind → Ordered rs many
ordered-records [] w many e = absurd (clash (cc))
ordered-records (r ∷ ps) w many e = by-settings w.0 (cc) ps w.1 many (cc)

none-trailing : (s : List ℕ) → length s ≡ 0 → same_bytes s [] ≡ true
unfolding same_bytes
none-trailing [] e = refl
none-trailing (b ∷ s) e = absurd (omega arith)

-- one more byte of the padding
pub zero_more : (card : List ℕ) (from i : ℕ) → ((j : ℕ) → from ≤ j → j < i → get_or card (place j) 0 ≡ 0) → get_or card (suc settings_body + 1 + i + i / piece_body) 0 ≡ 0 → (j : ℕ) → from ≤ j → j < i + 1 → get_or card (place j) 0 ≡ 0
zero_more card from i h e j l u = elim (le-or i j) [
  | inl k ↦ (let same : j ≡ i = omega arith in rw (same, ← place_is i) e)
  | inr k ↦ h j l k
]

-- At a kind 3 ----------------------------------------------------------------------------------

module _ {card : List ℕ} {at many : ℕ} {ordered : Bool} (z : CutsAt card at many ordered) where
  abbrev p : Parts card
  p = z.parts

  abbrev size : ℕ
  size = of_two p.size

  pub card-long : length card ≡ at + suc length_body + length p.trailing
  card-long = ap length p.are ∙ length-append (in_bytes p.records) (length_kind ∷ (p.size ++ p.trailing)) ∙ omega (arith, z.long, length-append p.size p.trailing, p.sized)

  size-at : (i : ℕ) → i < length_body → get_or card (at + 1 + i) 0 ≡ get_or p.size i 0
  size-at i l =
      let e : at + 1 + i ≡ length (in_bytes p.records) + suc i = omega (arith, z.long) in
      ap (λ (s : List ℕ). get_or s (at + 1 + i) 0) p.are
      ∙ ap (λ (n : ℕ). get_or (in_bytes p.records ++ (length_kind ∷ (p.size ++ p.trailing))) n 0) e
      ∙ get_or-append-add (in_bytes p.records) (length_kind ∷ (p.size ++ p.trailing)) (suc i) 0
      ∙ get_or-append p.size p.trailing 0 i (omega (arith, p.sized))

  pub size_is : get_or card (at + 1) 0 + 256 * get_or card (at + 1 + 1) 0 ≡ size
  unfolding of_two
  size_is =
      let e : at + 1 + 0 ≡ at + 1 = omega arith in
      omega (arith, size-at 1 (omega arith), rw e at (size-at 0 (omega arith)))

  -- the order is wrong, or the number
  pub not-ordered : ordered ≡ false → ¬ InOrder p
  unfolding orderly
  not-ordered e o =
      let count : many ≡ suc (pieces_for size) = sym z.count ∙ sym (kinds-long p.records) ∙ ap length o ∙ orderly-long (suc (pieces_for size)) in
      let same : same_bytes (kinds p.records) (orderly many) ≡ true = ap (λ (n : ℕ). same_bytes (kinds p.records) (orderly n)) count ∙ ap (λ (l : List ℕ). same_bytes l (orderly (suc (pieces_for size)))) o ∙ same_self (orderly (suc (pieces_for size))) in
      clash (cc z.order)

  pub not-so-many : ¬ (many ≡ pieces_for size + 1) → ¬ InOrder p
  unfolding orderly
  not-so-many h o = h (sym z.count ∙ sym (kinds-long p.records) ∙ ap length o ∙ orderly-long (suc (pieces_for size)) ∙ omega arith)

  pub misplaced-found : ¬ InOrder p → card_in card ≡ fails WrongRecords
  misplaced-found h = fault-fails (wrong_records p h)

  pub is-ordered : ordered ≡ true → many ≡ pieces_for size + 1 → InOrder p
  unfolding orderly
  is-ordered e count =
      let k : kinds p.records ≡ orderly many = same-equal (kinds p.records) (orderly many) (sym z.order ∙ e) in
      let n : many ≡ suc (pieces_for size) = omega arith in
      k ∙ ap orderly n

  module _ (o : InOrder p) where
    shape : Ordered p.records (pieces_for size)
    shape = ordered-records p.records p.whole (pieces_for size) o

    pub text-ends : at ≡ text_end size
    unfolding text_end
    text-ends = sym z.long ∙ shape.bytes_long

    pub place_inside : (i : ℕ) → i < pieces_for size * piece_body → place i < length card
    unfolding place
    place_inside i l = omega (arith, card-long, z.long, shape.bytes_long)

    placed_at : (i : ℕ) → i < pieces_for size * piece_body → get_or card (place i) 0 ≡ get_or (text p.records) i 0
    placed_at i l = ap (λ (s : List ℕ). get_or s (place i) 0) p.are ∙ shape.placed (length_kind ∷ (p.size ++ p.trailing)) i l

    pub padding-found : (i : ℕ) → size ≤ i → i < pieces_for size * piece_body → ¬ (get_or card (place i) 0 ≡ 0) → card_in card ≡ fails StrayBytes
    padding-found i l u h = fault-fails (stray_padding p o i l (λ e. h (placed_at i u ∙ e)))

    pub trailing-found : ¬ (length card ≡ at + suc length_body) → card_in card ≡ fails StrayBytes
    trailing-found h = fault-fails (stray_trailing p o (some-trailing (length p.trailing) card-long))
      where
        some-trailing : (n : ℕ) → length card ≡ at + suc length_body + n → 1 ≤ n
        some-trailing n e = elim (le-or 1 n) [ inl l ↦ l | inr l ↦ absurd (h (omega arith)) ]

    module _ (zeros : (i : ℕ) → size ≤ i → i < pieces_for size * piece_body → get_or card (place i) 0 ≡ 0) (whole : length card ≡ at + suc length_body) where
      all-padding : all_zero (drop size (text p.records)) ≡ true
      all-padding = all-zero (drop size (text p.records)) (λ i l. (
          let u : size + i < pieces_for size * piece_body = omega (arith, length-drop size (text p.records), shape.text_long) in
          get_or-drop size (text p.records) i 0 ∙ sym (placed_at (size + i) u) ∙ zeros (size + i) (omega arith) u))

      tidy : is_tidy p.records size p.trailing ≡ true
      unfolding is_tidy
      tidy = rw all-padding (none-trailing p.trailing (omega (arith, card-long)))

      rule-sized : length (said_by p.records size).rule ≡ size
      unfolding said_by
      rule-sized = length-take-le size (text p.records) (omega (arith, shape.text_long, pieces-enough size))

      pub card-found : IsCard card size
      card-found = record {
        said = said_by p.records size;
        is = card-in p ∙ scan-card p.records p.size p.trailing (order-known p o) tidy;
        sized = rule-sized;
      }

-- The same of the length and the number as the code has them --------------------------------------------

module _ {card : List ℕ} {at many : ℕ} {ordered : Bool} (z : CutsAt card at many ordered) (s n : ℕ) (is : s ≡ get_or card (at + 1) 0 + 256 * get_or card (at + 1 + 1) 0) (needs : n ≡ pieces_for s) where
  s-is : s ≡ of_two z.parts.size
  s-is = is ∙ size_is z

  n-is : n ≡ pieces_for (of_two z.parts.size)
  n-is = needs ∙ ap pieces_for s-is

  pub miscounted : ¬ (many ≡ n + 1) → card_in card ≡ fails WrongRecords
  miscounted h = misplaced-found z (not-so-many z (λ e. h (e ∙ ap (λ (i : ℕ). i + 1) (sym n-is))))

  pub room : s ≤ n * piece_body
  room = omega (arith, pieces-enough s)

  module _ (o : ordered ≡ true) (m : many ≡ n + 1) where
    in_order : InOrder z.parts
    in_order = is-ordered z o (m ∙ ap (λ (i : ℕ). i + 1) n-is)

    pub inside : (i : ℕ) → i < n * piece_body → place i < length card
    inside i l = place_inside z in_order i (omega (arith, n-is))

    pub padding-wrong : (t : Bool) → t ≡ false → IsPadding card s (n * piece_body) t → card_in card ≡ fails StrayBytes
    padding-wrong true e h = absurd (clash (cc))
    padding-wrong false e (i, l, u, h) = padding-found z in_order i (omega (arith, s-is)) (omega (arith, n-is)) h

    pub trailing-wrong : ¬ (length card ≡ at + suc length_body) → card_in card ≡ fails StrayBytes
    trailing-wrong h = trailing-found z in_order h

    pub found : (t : Bool) → t ≡ true → IsPadding card s (n * piece_body) t → length card ≡ at + suc length_body → IsCard card s
    found false e h whole = absurd (clash (cc))
    found true e zeros whole = subst (IsCard card) (sym s-is) (card-found z in_order (λ i l u. zeros i (omega (arith, s-is)) (omega (arith, n-is))) whole)
