-- A card byte by byte: where each of its bytes stands.
use Rattle.std.specs.Prelude.{◌≡◌, List, [], ◌∷◌, ◌++◌, length}
use Rattle.std.proofs.Common.{sym, ◌∙◌, length-append, get_or-append-add, eq-eqb, ne_eqb, inl, inr}
use Rattle.std.proofs.Math.Path.{ap}
use Prim.Native.Nat.{ℕ, suc, ◌+◌, ◌-◌, ◌*◌, ◌/◌, ◌%◌, ◌≤◌, ◌<◌}
use native.Mathlib.Omega.{arith}
use Rattle.std.proofs.Math.ListN.{get_or, get_or-append}
use Rattle.syntax.specs.Limits.{rule_limit}
use Rattle.semantics.proofs.Laws.Cases.{same_or}
use Rattle.card_format.specs.Cards.{settings_kind, settings_body, piece_kind, piece_body, length_kind, length_body, in_bytes, two_bytes, Card, pieces_for, settings, padded, size_of, written, card_need}
use Rattle.card_format.specs.Places.{text_end, place, piece_byte}
use Rattle.card_format.proofs.Laws.Pieces.{pieces-enough, padded-long, padded-at, pieces-long, piece_kind-at, piece-byte-at, text_at}
use Rattle.card_format.proofs.Laws.Scanning.{bytes-append, text_of}

-- the bytes of all pieces
abbrev pub text_bytes : List ℕ → List ℕ
text_bytes rule = in_bytes (text_of rule)

pub text_long : (rule : List ℕ) → length (text_bytes rule) ≡ pieces_for (length rule) * suc piece_body
text_long rule = pieces-long (pieces_for (length rule)) (padded rule) (padded-long rule)

-- a card in three parts
pub written_as : (k : Card)
    → written k ≡ (settings_kind ∷ k.flags ∷ k.budget % 256 ∷ k.budget / 256 ∷ k.groups ∷ []) ++ (text_bytes k.rule ++ (length_kind ∷ length k.rule % 256 ∷ length k.rule / 256 ∷ []))
unfolding written in_bytes settings size_of two_bytes
written_as k = ap (λ (l : List ℕ). settings_kind ∷ k.flags ∷ k.budget % 256 ∷ k.budget / 256 ∷ k.groups ∷ l) (bytes-append (text_of k.rule) (size_of k.rule ∷ []))

pub written-long : (k : Card) → length (written k) ≡ text_end (length k.rule) + suc length_body
unfolding text_end
written-long k = rw (written_as k) (omega (arith, length-append (text_bytes k.rule) (length_kind ∷ length k.rule % 256 ∷ length k.rule / 256 ∷ []), text_long k.rule))

-- the longest rule's card is as long as is needed
pub written-fits : (k : Card) → length k.rule ≤ rule_limit → length (written k) ≤ card_need
unfolding card_need rule_limit pieces_for text_end
written-fits k h = omega (arith, written-long k)

-- The settings --------------------------------------------------------------------------------

pub kind_at : (k : Card) → get_or (written k) 0 0 ≡ settings_kind
kind_at k = rw (written_as k)

pub flags-at : (k : Card) → get_or (written k) 1 0 ≡ k.flags
flags-at k = rw (written_as k)

pub low-at : (k : Card) → get_or (written k) 2 0 ≡ k.budget % 256
low-at k = rw (written_as k)

pub high-at : (k : Card) → get_or (written k) 3 0 ≡ k.budget / 256
high-at k = rw (written_as k)

pub groups-at : (k : Card) → get_or (written k) 4 0 ≡ k.groups
groups-at k = rw (written_as k)

-- the last of the first record's bytes
pub fifth : (i : ℕ) → ¬ (i ≡ 0) → ¬ (i ≡ 1) → ¬ (i ≡ 2) → ¬ (i ≡ 3) → i < suc settings_body → i ≡ 4
fifth i a b c d l = omega arith

-- The rule ------------------------------------------------------------------------------------

behind-settings : (k : Card) (i : ℕ) → get_or (written k) (suc settings_body + i) 0 ≡ get_or (text_bytes k.rule ++ (length_kind ∷ length k.rule % 256 ∷ length k.rule / 256 ∷ [])) i 0
behind-settings k i =
    rw (written_as k)
    (get_or-append-add (settings_kind ∷ k.flags ∷ k.budget % 256 ∷ k.budget / 256 ∷ k.groups ∷ []) (text_bytes k.rule ++ (length_kind ∷ length k.rule % 256 ∷ length k.rule / 256 ∷ [])) i 0)

in-text : (k : Card) (i : ℕ) → i < pieces_for (length k.rule) * suc piece_body → get_or (written k) (suc settings_body + i) 0 ≡ get_or (text_bytes k.rule) i 0
in-text k i l = behind-settings k i ∙ get_or-append (text_bytes k.rule) (length_kind ∷ length k.rule % 256 ∷ length k.rule / 256 ∷ []) 0 i (omega (arith, text_long k.rule))

module _ (k : Card) (i : ℕ) (l : i < pieces_for (length k.rule) * suc piece_body) where
  pub text-kind_at : i % suc piece_body ≡ 0 → get_or (written k) (suc settings_body + i) 0 ≡ piece_kind
  text-kind_at e = in-text k i l ∙ piece_kind-at (pieces_for (length k.rule)) (padded k.rule) (padded-long k.rule) i l e

  pub text-byte-at : 1 ≤ i % suc piece_body → get_or (written k) (suc settings_body + i) 0 ≡ get_or k.rule (i / suc piece_body * piece_body + i % suc piece_body - 1) 0
  text-byte-at h = in-text k i l ∙ piece-byte-at (pieces_for (length k.rule)) (padded k.rule) (padded-long k.rule) i l h ∙ padded-at k.rule (i / suc piece_body * piece_body + i % suc piece_body - 1)

module _ (rule : List ℕ) (i : ℕ) where
  pub kind-byte : i % suc piece_body ≡ 0 → piece_byte rule i ≡ piece_kind
  unfolding piece_byte
  kind-byte e = rw (eq-eqb (i % suc piece_body) 0 e)

  pub rule-byte : ¬ (i % suc piece_body ≡ 0) → piece_byte rule i ≡ get_or rule (i / suc piece_body * piece_body + i % suc piece_body - 1) 0
  unfolding piece_byte
  rule-byte h = rw (ne_eqb (i % suc piece_body) 0 h)

piece_byte_lem : (k : Card) (i : ℕ) → i < pieces_for (length k.rule) * suc piece_body → get_or (written k) (suc settings_body + i) 0 ≡ piece_byte k.rule i
piece_byte_lem k i l = elim (same_or (i % suc piece_body) 0) [
  | inl e ↦ text-kind_at k i l e ∙ sym (kind-byte k.rule i e)
  | inr h ↦ text-byte-at k i l (omega arith) ∙ sym (rule-byte k.rule i h)
]

-- as the code adds it up
pub place_is : (i : ℕ) → suc settings_body + 1 + i + i / piece_body ≡ place i
unfolding place
place_is i = omega arith

pub rule-at : (k : Card) (i : ℕ) → i < length k.rule → get_or (written k) (place i) 0 ≡ get_or k.rule i 0
unfolding place
rule-at k i l =
    let many = pieces_for (length k.rule) in
    let room : i < many * piece_body = omega (arith, pieces-enough (length k.rule)) in
    in-text k (suc (i + i / piece_body)) (omega arith)
    ∙ text_at many (padded k.rule) (padded-long k.rule) i room
    ∙ padded-at k.rule i

-- as the code looks for it
pub place_inside : (size i : ℕ) → i < size → suc settings_body + 1 + i + i / piece_body < text_end size
unfolding text_end
place_inside size i l = omega (arith, pieces-enough size)

pub rule-there : (k : Card) (card : List ℕ) (i : ℕ) → card ≡ written k → i < length k.rule → get_or card (suc settings_body + 1 + i + i / piece_body) 0 ≡ get_or k.rule i 0
rule-there k card i e l = rw (e, place_is i) (rule-at k i l)

-- The length ------------------------------------------------------------------------------------

pub size-at : (k : Card) (i : ℕ) → get_or (written k) (text_end (length k.rule) + i) 0 ≡ get_or (length_kind ∷ length k.rule % 256 ∷ length k.rule / 256 ∷ []) i 0
unfolding text_end
size-at k i =
    let e : suc settings_body + pieces_for (length k.rule) * suc piece_body + i ≡ suc settings_body + (length (text_bytes k.rule) + i) = omega (arith, text_long k.rule) in
    rw e (behind-settings k (length (text_bytes k.rule) + i) ∙ get_or-append-add (text_bytes k.rule) (length_kind ∷ length k.rule % 256 ∷ length k.rule / 256 ∷ []) i 0)

-- By position -------------------------------------------------------------------------------------

module _ (k : Card) (i : ℕ) where
  pub byte-first : i < suc settings_body → get_or (written k) i 0 ≡ get_or (settings_kind ∷ k.flags ∷ k.budget % 256 ∷ k.budget / 256 ∷ k.groups ∷ []) i 0
  byte-first l =
      rw (written_as k)
      (get_or-append (settings_kind ∷ k.flags ∷ k.budget % 256 ∷ k.budget / 256 ∷ k.groups ∷ []) (text_bytes k.rule ++ (length_kind ∷ length k.rule % 256 ∷ length k.rule / 256 ∷ [])) 0 i l)

  pub byte-text : suc settings_body ≤ i → i < text_end (length k.rule) → get_or (written k) i 0 ≡ piece_byte k.rule (i - suc settings_body)
  unfolding text_end
  byte-text l u =
      let e : suc settings_body + (i - suc settings_body) ≡ i = omega arith in
      ap (λ (n : ℕ). get_or (written k) n 0) (sym e) ∙ piece_byte_lem k (i - suc settings_body) (omega arith)

  pub byte-size : text_end (length k.rule) ≤ i → get_or (written k) i 0 ≡ get_or (length_kind ∷ length k.rule % 256 ∷ length k.rule / 256 ∷ []) (i - text_end (length k.rule)) 0
  byte-size l =
      let e : text_end (length k.rule) + (i - text_end (length k.rule)) ≡ i = omega arith in
      ap (λ (n : ℕ). get_or (written k) n 0) (sym e) ∙ size-at k (i - text_end (length k.rule))
