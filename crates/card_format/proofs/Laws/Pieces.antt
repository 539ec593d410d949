-- The rule's bytes in records of kind 2: cut into pieces and joined again, and padded up to the last one's end.
use Rattle.std.specs.Prelude.{◌≡◌, refl, Bool, true, false, ◌&&◌, List, [], ◌∷◌, ◌++◌, ℕ, zero, suc, ◌+◌, ◌-◌, ◌*◌, ◌/◌, ◌%◌, ◌≤◌, ◌<◌, eqb, length, get_or, take, drop, replicate}
use Rattle.std.proofs.Common.{ap, ◌∙◌, inl, inr, arith, eq-eqb, eqb-true, length-append, length-drop, take-append-drop, take_at, drop_at, length-take-le, get_or-take, get_or-drop, get_or-append-add}
use Rattle.std.proofs.lemmas.List.{length-replicate}
use Rattle.std.proofs.Math.ListN.{get_or-append}
use Rattle.semantics.proofs.Laws.Cases.{clash, bool, le-or, same_or}
use Rattle.card_format.specs.Cards.{piece_kind, piece_body, CardRecord, in_bytes, bodies, kinds, pieces_for, padded, pieces, all_zero}
use Rattle.card_format.specs.CardDemands.{Whole, whole_settings, whole_piece, AllWhole}

-- Cut and joined ------------------------------------------------------------------------

pub pieces-kinds : (many : ℕ) (s : List ℕ) → kinds (pieces many s) ≡ replicate many piece_kind
unfolding pieces
pieces-kinds zero s = refl
pieces-kinds (suc many) s = ap (λ (l : List ℕ). piece_kind ∷ l) (pieces-kinds many (drop piece_body s))

pub pieces_whole : (many : ℕ) (s : List ℕ) → length s ≡ many * piece_body → AllWhole (pieces many s)
unfolding pieces
pieces_whole zero s e = tt
pieces_whole (suc many) s e = (whole_piece (length-take-le piece_body s (omega arith)), pieces_whole many (drop piece_body s) (simp length-drop (omega arith)))

pub pieces-bodies : (many : ℕ) (s : List ℕ) → length s ≡ many * piece_body → bodies (pieces many s) ≡ s
unfolding pieces bodies
pieces-bodies zero [] e = refl
pieces-bodies zero (b ∷ s) e = absurd (omega arith)
pieces-bodies (suc many) s e = rw (pieces-bodies many (drop piece_body s) (simp length-drop (omega arith))) (take-append-drop piece_body s)

-- records of kind 2 are the pieces of what they hold
abbrev Again : ℕ → List CardRecord → Type 0
Again many rs = (rs ≡ pieces many (bodies rs)) × (length (bodies rs) ≡ many * piece_body)

piece-again : (many : ℕ) (rs : List CardRecord) {r : CardRecord} → Whole r → r.kind ≡ piece_kind → Again many rs → Again (suc many) (r ∷ rs)
unfolding pieces bodies
piece-again many rs (whole_settings l) e z = absurd (omega arith)
piece-again many rs (whole_piece {body} l) e z = (
  rw (take_at body (bodies rs) piece_body l, drop_at body (bodies rs) piece_body l) (ap (λ (ps : List CardRecord). record { kind = piece_kind; body = body } ∷ ps) z.0),
  omega (arith, length-append body (bodies rs), z.1),
)

pub pieces-again : (many : ℕ) (rs : List CardRecord) → AllWhole rs → kinds rs ≡ replicate many piece_kind → Again many rs
unfolding pieces bodies
pieces-again zero [] w e = (refl, refl)
pieces-again zero (r ∷ rs) w e = absurd (clash (cc))
pieces-again (suc many) [] w e = absurd (clash (cc))
pieces-again (suc many) (r ∷ rs) w e = piece-again many rs w.0 (cc) (pieces-again many rs w.1 (cc))

-- Padding -----------------------------------------------------------------------------------

-- the pieces have room for all of it
pub pieces-enough : (n : ℕ) → n ≤ pieces_for n * piece_body
unfolding pieces_for
pieces-enough n = omega arith

pub padded-long : (rule : List ℕ) → length (padded rule) ≡ pieces_for (length rule) * piece_body
unfolding padded
padded-long rule = omega (arith, length-append rule (replicate (pieces_for (length rule) * piece_body - length rule) 0), length-replicate {A = ℕ} (pieces_for (length rule) * piece_body - length rule) 0, pieces-enough (length rule))

-- past the end of a rule stand zeros, and 0 is what get_or gives there
zeros-behind : (s : List ℕ) (k i : ℕ) → get_or (s ++ replicate k 0) i 0 ≡ get_or s i 0
zeros-behind [] zero i = refl
zeros-behind [] (suc k) zero = refl
zeros-behind [] (suc k) (suc i) = zeros-behind [] k i
zeros-behind (b ∷ s) k zero = refl
zeros-behind (b ∷ s) k (suc i) = zeros-behind s k i

pub padded-at : (rule : List ℕ) (i : ℕ) → get_or (padded rule) i 0 ≡ get_or rule i 0
unfolding padded
padded-at rule i = zeros-behind rule (pieces_for (length rule) * piece_body - length rule) i

pub zeros-zero : (n : ℕ) → all_zero (replicate n 0) ≡ true
unfolding all_zero
zeros-zero zero = refl
zeros-zero (suc n) = zeros-zero n

pub both : (t u : Bool) → (t && u) ≡ true → (t ≡ true) × (u ≡ true)
both true u e = (refl, e)
both false u e = absurd (clash (cc))

pub zero-zeros : (s : List ℕ) → all_zero s ≡ true → s ≡ replicate (length s) 0
unfolding all_zero
zero-zeros [] e = refl
zero-zeros (b ∷ s) e =
    let z = both (eqb b 0) (all_zero s) e in
    let h : b ≡ 0 = eqb-true b 0 z.0 in
    let k : s ≡ replicate (length s) 0 = zero-zeros s z.1 in
    cc

-- all are zero, or one is not
pub zero-at : (s : List ℕ) → all_zero s ≡ true → (i : ℕ) → get_or s i 0 ≡ 0
unfolding all_zero
zero-at [] e i = refl
zero-at (b ∷ s) e zero = eqb-true b 0 (both (eqb b 0) (all_zero s) e).0
zero-at (b ∷ s) e (suc i) = zero-at s (both (eqb b 0) (all_zero s) e).1 i

pub not-zero-at : (s : List ℕ) (i : ℕ) → ¬ (get_or s i 0 ≡ 0) → all_zero s ≡ false
not-zero-at s i h = elim (bool (all_zero s)) [ inl e ↦ absurd (h (zero-at s e i)) | inr e ↦ e ]

pub all-zero : (s : List ℕ) → ((i : ℕ) → i < length s → get_or s i 0 ≡ 0) → all_zero s ≡ true
unfolding all_zero
all-zero [] h = refl
all-zero (b ∷ s) h = rw (eq-eqb b 0 (h 0 (omega arith))) (all-zero s (λ i l. h (suc i) (omega arith)))

pub some-not-zero : (s : List ℕ) → all_zero s ≡ false → (i : ℕ) × (¬ (get_or s i 0 ≡ 0))
unfolding all_zero
some-not-zero [] e = absurd (clash (cc))
some-not-zero (b ∷ s) e = elim (same_or b 0) [
  | inl h ↦ (let z = some-not-zero s (rw (eq-eqb b 0 h) at e) in (suc z.0, z.1))
  | inr h ↦ (0, h)
]

-- Where a byte of the rule stands -------------------------------------------------------------

-- in the first piece, or in those behind it
module _ (kind : ℕ) (p more : List ℕ) (long : length p ≡ piece_body) where
  in-first : (i : ℕ) → i < piece_body → get_or (kind ∷ (p ++ more)) (suc i) 0 ≡ get_or p i 0
  in-first i l = get_or-append p more 0 i (omega arith)

  in-more : (i : ℕ) → get_or (kind ∷ (p ++ more)) (suc (piece_body + i)) 0 ≡ get_or more i 0
  in-more i = rw (← long) (get_or-append-add p more i 0)

-- behind the kind of its own piece and those before it
pub text_at : (many : ℕ) (s : List ℕ) → length s ≡ many * piece_body → (i : ℕ) → i < many * piece_body → get_or (in_bytes (pieces many s)) (suc (i + i / piece_body)) 0 ≡ get_or s i 0
unfolding pieces in_bytes
text_at zero s e i l = absurd (omega arith)
text_at (suc many) s e i l = elim (le-or piece_body i) [
  | inr first ↦ (
      let at : i + i / piece_body ≡ i = omega arith in
      rw at (in-first piece_kind (take piece_body s) (in_bytes (pieces many (drop piece_body s))) long i first ∙ get_or-take piece_body s i 0 first))
  | inl later ↦ (
      let j = i - piece_body in
      let at : i + i / piece_body ≡ piece_body + suc (j + j / piece_body) = omega arith in
      let back : piece_body + j ≡ i = omega arith in
      rw at (in-more piece_kind (take piece_body s) (in_bytes (pieces many (drop piece_body s))) long (suc (j + j / piece_body)) ∙ text_at many (drop piece_body s) (simp length-drop (omega arith)) j (omega arith) ∙ get_or-drop piece_body s j 0 ∙ ap (λ (n : ℕ). get_or s n 0) back))
]
  where
    long : length (take piece_body s) ≡ piece_body
    long = length-take-le piece_body s (omega arith)

pub pieces-long : (many : ℕ) (s : List ℕ) → length s ≡ many * piece_body → length (in_bytes (pieces many s)) ≡ many * suc piece_body
unfolding pieces in_bytes
pieces-long zero s e = refl
pieces-long (suc many) s e =
    let z = pieces-long many (drop piece_body s) (simp length-drop (omega arith)) in
    omega (arith, length-append (take piece_body s) (in_bytes (pieces many (drop piece_body s))), length-take-le piece_body s (omega arith))

-- the bytes of all pieces: a kind first, then those of the rule
pub piece_kind-at : (many : ℕ) (s : List ℕ) → length s ≡ many * piece_body → (i : ℕ) → i < many * suc piece_body → i % suc piece_body ≡ 0 → get_or (in_bytes (pieces many s)) i 0 ≡ piece_kind
unfolding pieces in_bytes
piece_kind-at zero s e i l z = absurd (omega arith)
piece_kind-at (suc many) s e zero l z = refl
piece_kind-at (suc many) s e (suc i) l z =
    let j = i - piece_body in
    let at : i ≡ piece_body + j = omega arith in
    rw at (in-more piece_kind (take piece_body s) (in_bytes (pieces many (drop piece_body s))) (length-take-le piece_body s (omega arith)) j ∙ piece_kind-at many (drop piece_body s) (simp length-drop (omega arith)) j (omega arith) (omega arith))

pub piece-byte-at : (many : ℕ) (s : List ℕ) → length s ≡ many * piece_body → (i : ℕ) → i < many * suc piece_body → 1 ≤ i % suc piece_body
    → get_or (in_bytes (pieces many s)) i 0 ≡ get_or s (i / suc piece_body * piece_body + i % suc piece_body - 1) 0
piece-byte-at many s e i l z =
    let j = i / suc piece_body * piece_body + i % suc piece_body - 1 in
    let at : i ≡ suc (j + j / piece_body) = omega arith in
    ap (λ (n : ℕ). get_or (in_bytes (pieces many s)) n 0) at ∙ text_at many s e j (omega arith)
