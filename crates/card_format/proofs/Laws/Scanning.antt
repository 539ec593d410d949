-- Reading bytes as a card: a card that is written is read back, and whatever is read as a card is what is written of it.
use Rattle.std.specs.Prelude.{◌≡◌, Bool, ◌&&◌, ℕ, ◌+◌, ◌-◌, ◌*◌, ◌/◌, ◌%◌, ◌≤◌, ◌<◌, get_or, take, drop}
use Rattle.std.proofs.Math.Path.{refl, ap}
use Rattle.std.proofs.Common.{sym, subst, ◌∙◌, inl, inr, length-drop, take-append-drop, get_or-append-add, get_or-drop}
use Rattle.std.proofs.Math.Bool.{true, false}
use mathlib.Core.List.{List, [], ◌∷◌, ◌++◌, append_assoc, append-nil}
use native.Mathlib.Omega.{arith}
use Rattle.std.proofs.Math.ListN.{length, replicate}
use Rattle.std.proofs.Math.Seq.{take-append_seam, drop-append_seam, length-take-le}
use Rattle.syntax.specs.declared.Reason.{Reason}
use Rattle.syntax.specs.declared.Reason.TheVariants.{WrongRecords, StrayBytes}
use Rattle.syntax.specs.Sets.{same_bytes}
use Rattle.semantics.proofs.Laws.Cases.{clash, bool}
use Rattle.index.specs.Laws.Known.{same_self, same-equal}
use Rattle.card_format.specs.Cards.{settings_kind, settings_body, piece_kind, piece_body, length_kind, length_body, CardRecord, in_bytes, bodies, kinds, two_bytes, of_two, Card, pieces_for, padded, pieces, settings, size_of, written, cut, in_order, all_zero, text, is_tidy, setting, said_by, Scan, holds, fails, scanned, card_in}
use Rattle.card_format.specs.CardDemands.{Bytes, Whole, whole_settings, whole_piece, AllWhole, Parts, InOrder, CardFault, unknown_kind, cut_short, wrong_records, stray_padding, stray_trailing}
use Rattle.card_format.proofs.Laws.Cutting.{ends, cut-unknown, cut_short_lem, cut_parts}
use Rattle.card_format.proofs.Laws.Pieces.{pieces-kinds, pieces_whole, pieces-bodies, pieces-again, pieces-enough, padded-long, both, zeros-zero, zero-zeros, not-zero-at, some-not-zero}

-- Two bytes -----------------------------------------------------------------------------

pub two_back : (n : ℕ) → of_two (two_bytes n) ≡ n
unfolding of_two two_bytes
two_back n = omega arith

two-again : (a b : ℕ) → a < 256 → two_bytes (of_two (a ∷ b ∷ [])) ≡ a ∷ b ∷ []
unfolding of_two two_bytes
two-again a b h = let e : (a + 256 * b) % 256 ≡ a = omega arith in let f : (a + 256 * b) / 256 ≡ b = omega arith in rw (e, f)

two-long : (n : ℕ) → length (two_bytes n) ≡ length_body
unfolding two_bytes
two-long n = refl

-- What is written --------------------------------------------------------------------------

pub bytes-append : (xs ys : List CardRecord) → in_bytes (xs ++ ys) ≡ in_bytes xs ++ in_bytes ys
unfolding in_bytes
bytes-append [] ys = refl
bytes-append (x ∷ xs) ys = rw (bytes-append xs ys) (ap (λ (l : List ℕ). x.kind ∷ l) (sym (append_assoc x.body (in_bytes xs) (in_bytes ys))))

-- the records of the rule's bytes
abbrev pub text_of : List ℕ → List CardRecord
text_of rule = pieces (pieces_for (length rule)) (padded rule)

pub text-whole : (rule : List ℕ) → AllWhole (text_of rule)
text-whole rule = pieces_whole (pieces_for (length rule)) (padded rule) (padded-long rule)

settings-whole : (k : Card) → Whole (settings k)
unfolding settings two_bytes
settings-whole k = whole_settings refl

size-last : (rule : List ℕ) → in_bytes (size_of rule ∷ []) ≡ length_kind ∷ (two_bytes (length rule) ++ [])
unfolding in_bytes size_of
size-last rule = refl

pub written-parts : (k : Card) → Parts (written k)
unfolding written
written-parts k = record {
  records = settings k ∷ text_of k.rule;
  whole = (settings-whole k, text-whole k.rule);
  size = two_bytes (length k.rule);
  sized = two-long (length k.rule);
  trailing = [];
  are = bytes-append (settings k ∷ text_of k.rule) (size_of k.rule ∷ []) ∙ ap (λ (l : List ℕ). in_bytes (settings k ∷ text_of k.rule) ++ l) (size-last k.rule);
}

-- The tests ------------------------------------------------------------------------------------

module _ (rs : List CardRecord) (size trailing : List ℕ) where
  pub scan-misplaced : in_order rs (of_two size) ≡ false → scanned (cut rs size trailing) ≡ fails WrongRecords
  unfolding scanned
  scan-misplaced e = rw e

  module _ (ordered : in_order rs (of_two size) ≡ true) where
    pub scan-stray : is_tidy rs (of_two size) trailing ≡ false → scanned (cut rs size trailing) ≡ fails StrayBytes
    unfolding scanned
    scan-stray e = rw (ordered, e)

    pub scan-card : is_tidy rs (of_two size) trailing ≡ true → scanned (cut rs size trailing) ≡ holds (said_by rs (of_two size))
    unfolding scanned
    scan-card e = rw (ordered, e)

-- Read back ------------------------------------------------------------------------------------

module _ (k : Card) where
  abbrev size : ℕ
  size = length k.rule

  in_order_lem : in_order (settings k ∷ text_of k.rule) size ≡ true
  unfolding in_order settings
  in_order_lem = rw (pieces-kinds (pieces_for size) (padded k.rule)) (same_self (settings_kind ∷ replicate (pieces_for size) piece_kind))

  text-is : text (settings k ∷ text_of k.rule) ≡ padded k.rule
  unfolding text
  text-is = pieces-bodies (pieces_for size) (padded k.rule) (padded-long k.rule)

  tidy : is_tidy (settings k ∷ text_of k.rule) size [] ≡ true
  unfolding is_tidy padded same_bytes
  tidy = rw (text-is, drop-append_seam k.rule (replicate (pieces_for size * piece_body - size) 0), zeros-zero (pieces_for size * piece_body - size))

  rule-back : take size (text (settings k ∷ text_of k.rule)) ≡ k.rule
  unfolding padded
  rule-back = rw text-is (take-append_seam k.rule (replicate (pieces_for size * piece_body - size) 0))

  said-back : said_by (settings k ∷ text_of k.rule) size ≡ k
  unfolding said_by setting bodies settings two_bytes
  said-back = rw (rule-back, two_back k.budget)

  pub reads-back : card_in (written k) ≡ holds k
  unfolding card_in written-parts
  reads-back =
      ap scanned (cut_parts (written-parts k))
      ∙ (scan-card (settings k ∷ text_of k.rule) (two_bytes size) [] (rw (two_back size) in_order_lem) (rw (two_back size) tidy)
      ∙ ap holds (rw (two_back size) said-back))

-- What is read is what is written -----------------------------------------------------------------

pub two-of : (s : List ℕ) → length s ≡ length_body → (a : ℕ) × (b : ℕ) × (s ≡ a ∷ b ∷ [])
two-of [] l = absurd (omega arith)
two-of (a ∷ []) l = absurd (omega arith)
two-of (a ∷ b ∷ []) l = (a, b, refl)
two-of (a ∷ b ∷ c ∷ s) l = absurd (omega arith)

pub four-of : (s : List ℕ) → length s ≡ settings_body → (a : ℕ) × (b : ℕ) × (c : ℕ) × (d : ℕ) × (s ≡ a ∷ b ∷ c ∷ d ∷ [])
four-of [] l = absurd (omega arith)
four-of (a ∷ []) l = absurd (omega arith)
four-of (a ∷ b ∷ s) l = let z = two-of s (omega arith) in (a, b, z.0, z.1, ap (λ (l : List ℕ). a ∷ b ∷ l) z.2)

pub one-record : (kind : ℕ) (body : List ℕ) → in_bytes (record { kind = kind; body = body } ∷ []) ≡ kind ∷ body
unfolding in_bytes
one-record kind body = ap (λ (l : List ℕ). kind ∷ l) (append-nil body)

-- The first record's body is a, b, c, d, and the rule's length is x and y. What the other records hold is the rule and its padding.
abbrev first_record : (a b c d : ℕ) → CardRecord
first_record a b c d = record { kind = settings_kind; body = a ∷ b ∷ c ∷ d ∷ [] }

module _ (a b c d x y : ℕ) (ps : List CardRecord) (b-fits : b < 256) (x_Fits : x < 256) where
  abbrev size' : ℕ
  size' = of_two (x ∷ y ∷ [])

  abbrev first : CardRecord
  first = first_record a b c d

  abbrev said : Card
  said = said_by (first ∷ ps) size'

  module _ (again : ps ≡ pieces (pieces_for size') (bodies ps)) (long : length (bodies ps) ≡ pieces_for size' * piece_body) (tidy : all_zero (drop size' (bodies ps)) ≡ true) where
    rule-long : length said.rule ≡ size'
    unfolding said_by text
    rule-long = length-take-le size' (bodies ps) (omega (arith, pieces-enough size'))

    padding-is : drop size' (bodies ps) ≡ replicate (pieces_for size' * piece_body - size') 0
    padding-is =
        let room : length (drop size' (bodies ps)) ≡ pieces_for size' * piece_body - size' = omega (arith, length-drop size' (bodies ps)) in
        zero-zeros (drop size' (bodies ps)) tidy ∙ ap (λ (n : ℕ). replicate n 0) room

    padded-is : padded said.rule ≡ bodies ps
    unfolding padded said_by text
    padded-is = rw (rule-long, ← padding-is) (take-append-drop size' (bodies ps))

    settings-are : settings said ≡ first
    unfolding settings said_by setting bodies
    settings-are = rw (two-again b c b-fits)

    size_is : size_of said.rule ≡ record { kind = length_kind; body = x ∷ y ∷ [] }
    unfolding size_of
    size_is = rw (rule-long, two-again x y x_Fits)

    written_is : written said ≡ in_bytes (first ∷ ps) ++ (length_kind ∷ x ∷ y ∷ [])
    unfolding written
    written_is =
        rw (settings-are, rule-long, padded-is, ← again, size_is)
        (bytes-append (first ∷ ps) (record { kind = length_kind; body = x ∷ y ∷ [] } ∷ []) ∙ ap (λ (l : List ℕ). in_bytes (first ∷ ps) ++ l) (one-record length_kind (x ∷ y ∷ [])))

  -- the bytes of such records, in order and with nothing stray
  module _ (trailing : List ℕ) (whole : AllWhole ps) (ordered : kinds (first ∷ ps) ≡ settings_kind ∷ replicate (pieces_for size') piece_kind) (tidied : is_tidy (first ∷ ps) size' trailing ≡ true) where
    written-these : in_bytes (first ∷ ps) ++ (length_kind ∷ ((x ∷ y ∷ []) ++ trailing)) ≡ written said
    unfolding is_tidy text
    written-these =
        let z = pieces-again (pieces_for size') ps whole (cc) in
        let t = both (all_zero (drop size' (bodies ps))) (same_bytes trailing []) tidied in
        rw (same-equal trailing [] t.1) (sym (written_is z.0 z.1 t.0))

module _ (a b c d x y : ℕ) (ps : List CardRecord) (trailing : List ℕ) (bytes : Bytes (in_bytes (first_record a b c d ∷ ps) ++ (length_kind ∷ ((x ∷ y ∷ []) ++ trailing)))) where
  budget_fits : b < 256
  unfolding in_bytes
  budget_fits = bytes 2

  size_fits : x < 256
  size_fits =
      let before : List ℕ = in_bytes (first_record a b c d ∷ ps) in
      rw (get_or-append-add before (length_kind ∷ ((x ∷ y ∷ []) ++ trailing)) 1 0) at (bytes (length before + 1))

abbrev These : (rs : List CardRecord) (size trailing : List ℕ) → Type 0
These rs size trailing =
    Bytes (in_bytes rs ++ (length_kind ∷ (size ++ trailing))) → kinds rs ≡ settings_kind ∷ replicate (pieces_for (of_two size)) piece_kind → is_tidy rs (of_two size) trailing ≡ true
    → in_bytes rs ++ (length_kind ∷ (size ++ trailing)) ≡ written (said_by rs (of_two size))

these : (a b c d x y : ℕ) (ps : List CardRecord) → AllWhole ps → (trailing : List ℕ) → These (first_record a b c d ∷ ps) (x ∷ y ∷ []) trailing
these a b c d x y ps ws trailing bytes ordered tidied =
    written-these a b c d x y ps (budget_fits a b c d x y ps trailing bytes) (size_fits a b c d x y ps trailing bytes) trailing ws ordered tidied

by_first : {r : CardRecord} → Whole r → (ps : List CardRecord) → AllWhole ps → (size trailing : List ℕ) → length size ≡ length_body → These (r ∷ ps) size trailing
by_first (whole_piece l) ps ws size trailing h = λ bytes ordered tidied. (let z : piece_kind ≡ settings_kind = cc in absurd (omega arith))
by_first (whole_settings {body} l) ps ws size trailing h =
    let f = four-of body l in
    let t = two-of size h in
    subst (λ (body : List ℕ). These (record { kind = settings_kind; body = body } ∷ ps) size trailing) (sym f.4)
    (subst (λ (size : List ℕ). These (first_record f.0 f.1 f.2 f.3 ∷ ps) size trailing) (sym t.2)
    (these f.0 f.1 f.2 f.3 t.0 t.1 ps ws trailing))

by-records : (rs : List CardRecord) → AllWhole rs → (size trailing : List ℕ) → length size ≡ length_body → These rs size trailing
by-records [] w size trailing h = λ bytes ordered tidied. absurd (clash (cc))
by-records (r ∷ ps) w size trailing h = by_first w.0 ps w.1 size trailing h

parts-written : {s : List ℕ} → Bytes s → (p : Parts s) → InOrder p → is_tidy p.records (of_two p.size) p.trailing ≡ true → s ≡ written (said_by p.records (of_two p.size))
parts-written {s} bytes p ordered tidied = p.are ∙ by-records p.records p.whole p.size p.trailing p.sized (subst Bytes p.are bytes) ordered tidied

-- The verdict on a list of bytes ----------------------------------------------------------------------

module _ {s : List ℕ} (p : Parts s) where
  abbrev n : ℕ
  n = of_two p.size

  pub card-in : card_in s ≡ scanned (cut p.records p.size p.trailing)
  unfolding card_in
  card-in = ap scanned (cut_parts p)

  pub order-known : InOrder p → in_order p.records n ≡ true
  unfolding in_order
  order-known o = rw o (same_self (settings_kind ∷ replicate (pieces_for n) piece_kind))

  known-order : in_order p.records n ≡ true → InOrder p
  unfolding in_order
  known-order e = same-equal (kinds p.records) (settings_kind ∷ replicate (pieces_for n) piece_kind) e

  misplaced : ¬ InOrder p → card_in s ≡ fails WrongRecords
  misplaced h = card-in ∙ scan-misplaced p.records p.size p.trailing (elim (bool (in_order p.records n)) [ inl e ↦ absurd (h (known-order e)) | inr e ↦ e ])

  stray : InOrder p → is_tidy p.records n p.trailing ≡ false → card_in s ≡ fails StrayBytes
  stray o e = card-in ∙ scan-stray p.records p.size p.trailing (order-known o) e

  padding-stray : (i : ℕ) → n ≤ i → ¬ (get_or (text p.records) i 0 ≡ 0) → is_tidy p.records n p.trailing ≡ false
  unfolding is_tidy
  padding-stray i l h =
      let at : n + (i - n) ≡ i = omega arith in
      rw (not-zero-at (drop n (text p.records)) (i - n) (rw (get_or-drop n (text p.records) (i - n) 0, at) h))

  trailing-stray : 1 ≤ length p.trailing → is_tidy p.records n p.trailing ≡ false
  unfolding is_tidy same_bytes
  trailing-stray l = last (all_zero (drop n (text p.records))) p.trailing l
    where
      last : (t : Bool) (trailing : List ℕ) → 1 ≤ length trailing → (t && same_bytes trailing []) ≡ false
      last t [] l = absurd (omega arith)
      last true (b ∷ s) l = refl
      last false (b ∷ s) l = refl

not_none : (trailing : List ℕ) → same_bytes trailing [] ≡ false → 1 ≤ length trailing
unfolding same_bytes
not_none [] e = absurd (clash (cc))
not_none (b ∷ s) e = omega arith

pub fault-fails : {s : List ℕ} {why : Reason} → CardFault s why → card_in s ≡ fails why
unfolding card_in scanned
fault-fails (unknown_kind z) = ap scanned (cut-unknown z)
fault-fails (cut_short z) = ap scanned (cut_short_lem z)
fault-fails (wrong_records p h) = misplaced p h
fault-fails (stray_padding p o i l h) = stray p o (padding-stray p i l h)
fault-fails (stray_trailing p o l) = stray p o (trailing-stray p l)

-- bytes are a card, which is what is written of it, or have a fault
pub data Verdict (s : List ℕ) : Scan → Type 0 where
  is_card : (k : Card) → s ≡ written k → Verdict s (holds k)
  is_faulty : {why : Reason} → CardFault s why → Verdict s (fails why)

-- what is not tidy: a byte of the padding, or what is trailing
some-stray : {s : List ℕ} (p : Parts s) → InOrder p → is_tidy p.records (of_two p.size) p.trailing ≡ false → CardFault s StrayBytes
unfolding is_tidy
some-stray p o e = elim (bool (all_zero (drop (of_two p.size) (text p.records)))) [
  | inl z ↦ stray_trailing p o (not_none p.trailing (rw z at e))
  | inr z ↦ (
      let x = some-not-zero (drop (of_two p.size) (text p.records)) z in
      stray_padding p o (of_two p.size + x.0) (omega arith) (rw (get_or-drop (of_two p.size) (text p.records) x.0 0) at x.1))
]

parts-verdict : {s : List ℕ} → Bytes s → Parts s → Verdict s (card_in s)
parts-verdict {s} bytes p = elim (bool (in_order p.records (of_two p.size))) [
  | inr e ↦ (
      let fault : ¬ InOrder p = λ o. clash (cc (order-known p o)) in
      subst (Verdict s) (sym (misplaced p fault)) (is_faulty (wrong_records p fault)))
  | inl e ↦ (
      let o = known-order p e in
      elim (bool (is_tidy p.records (of_two p.size) p.trailing)) [
        | inr f ↦ subst (Verdict s) (sym (stray p o f)) (is_faulty (some-stray p o f))
        | inl f ↦ subst (Verdict s) (sym (card-in p ∙ scan-card p.records p.size p.trailing e f)) (is_card (said_by p.records (of_two p.size)) (parts-written bytes p o f))
      ])
]

pub verdict : {s : List ℕ} → Bytes s → Verdict s (card_in s)
verdict {s} bytes = elim (ends s) [
  | inl z ↦ subst (Verdict s) (sym (fault-fails (unknown_kind z))) (is_faulty (unknown_kind z))
  | inr x ↦ elim x [
    | inl z ↦ subst (Verdict s) (sym (fault-fails (cut_short z))) (is_faulty (cut_short z))
    | inr p ↦ parts-verdict bytes p
  ]
]

-- whatever is read as a card is what is written of it
pub reads-written : {s : List ℕ} → Bytes s → (k : Card) → card_in s ≡ holds k → s ≡ written k
reads-written {s} bytes k e = by (subst (Verdict s) e (verdict bytes))
  where
    by : Verdict s (holds k) → s ≡ written k
    by (is_card k w) = w
