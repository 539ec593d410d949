-- Going over the records of a card, one after another: what is known at a position, and what each way to go on or to end gives.
use Rattle.std.specs.Prelude.{◌≡◌, Bool, false, ◌&&◌, List, [], ◌∷◌, ◌++◌, length, get_or, take, drop, replicate}
use Rattle.std.proofs.Math.Path.{refl}
use Rattle.std.proofs.Common.{sym, ap, ◌∙◌, append_assoc, append-nil, inl, inr, arith, add-one, length-append, length-drop, drop_of_length-le, take-append-drop, drop-cons, drop-drop, length-take-le}
use Rattle.std.proofs.Math.Bool.{true}
use Prim.Native.Nat.{ℕ, zero, suc, ◌+◌, ◌-◌, ◌≤◌, ◌<◌}
use Rattle.std.proofs.Math.Dec.{eqb}
use Rattle.std.proofs.lemmas.List.{length-replicate}
use Rattle.syntax.specs.Sets.{same_bytes}
use Rattle.card_format.specs.Cards.{settings_kind, settings_body, piece_kind, piece_body, length_kind, length_body, CardRecord, in_bytes, kinds, body_length}
use Rattle.card_format.specs.CardDemands.{Whole, whole_settings, whole_piece, AllWhole, Kind, of_settings, of_piece, of_length, Unknown, Short, no_end, within}
use Rattle.card_records.specs.Walking.{kind_at, orderly, goes_on, CutsAt}
use Rattle.card_format.proofs.Laws.Cutting.{kind-body, known-or, body-unknown}
use Rattle.card_format.proofs.Laws.Scanning.{bytes-append, one-record}

-- The kinds in order -----------------------------------------------------------------------

module _ (ordered : Bool) (many kind : ℕ) where
  pub off-goes : ordered ≡ false → goes_on ordered many kind ≡ false
  unfolding goes_on
  off-goes o = rw o

  pub first_goes : ordered ≡ true → many ≡ 0 → goes_on ordered many kind ≡ eqb kind settings_kind
  unfolding goes_on kind_at
  first_goes o e = rw (o, e)

  pub other_goes : ordered ≡ true → ¬ (many ≡ 0) → goes_on ordered many kind ≡ eqb kind piece_kind
  unfolding goes_on kind_at
  other_goes o h = rw o (by many h)
    where
      by : (n : ℕ) → ¬ (n ≡ 0) → goes_on true n kind ≡ eqb kind piece_kind
      by zero h = absurd (h refl)
      by (suc n) h = refl

-- one more at the end of two lists of the same length
same-snoc : (a b : List ℕ) (x y : ℕ) → length a ≡ length b → same_bytes (a ++ (x ∷ [])) (b ++ (y ∷ [])) ≡ (same_bytes a b && eqb x y)
unfolding same_bytes
same-snoc [] [] x y e = and_last (eqb x y)
  where
    and_last : (t : Bool) → (t && true) ≡ t
    and_last true = refl
    and_last false = refl
same-snoc [] (d ∷ b) x y e = absurd (omega arith)
same-snoc (c ∷ a) [] x y e = absurd (omega arith)
same-snoc (c ∷ a) (d ∷ b) x y e = rw (same-snoc a b x y (omega arith)) (regroup (eqb c d) (same_bytes a b) (eqb x y))
  where
    regroup : (s t u : Bool) → (s && (t && u)) ≡ ((s && t) && u)
    regroup true t u = refl
    regroup false t u = refl

pub orderly-long : (n : ℕ) → length (orderly n) ≡ n
unfolding orderly
orderly-long zero = refl
orderly-long (suc n) = ap suc (length-replicate n piece_kind)

replicate-snoc : (n x : ℕ) → replicate (suc n) x ≡ replicate n x ++ (x ∷ [])
replicate-snoc zero x = refl
replicate-snoc (suc n) x = ap (λ (l : List ℕ). x ∷ l) (replicate-snoc n x)

orderly-snoc : (n : ℕ) → orderly (suc n) ≡ orderly n ++ (kind_at n ∷ [])
unfolding orderly kind_at
orderly-snoc zero = refl
orderly-snoc (suc n) = ap (λ (l : List ℕ). settings_kind ∷ l) (replicate-snoc n piece_kind)

kinds-snoc : (rs : List CardRecord) (r : CardRecord) → kinds (rs ++ (r ∷ [])) ≡ kinds rs ++ (r.kind ∷ [])
kinds-snoc [] r = refl
kinds-snoc (x ∷ rs) r = ap (λ (l : List ℕ). x.kind ∷ l) (kinds-snoc rs r)

pub kinds-long : (rs : List CardRecord) → length (kinds rs) ≡ length rs
kinds-long [] = refl
kinds-long (r ∷ rs) = ap suc (kinds-long rs)

order-on : (rs : List CardRecord) (r : CardRecord) (many : ℕ) (ordered : Bool) → length rs ≡ many → ordered ≡ same_bytes (kinds rs) (orderly many) → goes_on ordered many r.kind ≡ same_bytes (kinds (rs ++ (r ∷ []))) (orderly (suc many))
unfolding goes_on
order-on rs r many ordered l e = rw (kinds-snoc rs r, orderly-snoc many, same-snoc (kinds rs) (orderly many) r.kind (kind_at many) (kinds-long rs ∙ l ∙ sym (orderly-long many)), ← e)

-- A record more ---------------------------------------------------------------------------------

whole-snoc : (rs : List CardRecord) → AllWhole rs → {r : CardRecord} → Whole r → AllWhole (rs ++ (r ∷ []))
whole-snoc [] ws w = (w, tt)
whole-snoc (x ∷ rs) ws w = (ws.0, whole-snoc rs ws.1 w)

bytes-snoc : (rs : List CardRecord) (r : CardRecord) → in_bytes (rs ++ (r ∷ [])) ≡ in_bytes rs ++ (r.kind ∷ r.body)
bytes-snoc rs r = bytes-append rs (r ∷ []) ∙ ap (λ (l : List ℕ). in_bytes rs ++ l) (one-record r.kind r.body)

by-known : {kind body : ℕ} → Kind kind body → (s : List ℕ) → ¬ (kind ≡ length_kind) → body_length kind ≤ length s → Whole (record { kind = kind; body = take (body_length kind) s })
unfolding body_length
by-known of_settings s n l = whole_settings (length-take-le settings_body s l)
by-known of_piece s n l = whole_piece (length-take-le piece_body s l)
by-known of_length s n l = absurd (n refl)

whole_of : (kind : ℕ) (s : List ℕ) → ¬ (body_length kind ≡ 0) → ¬ (kind ≡ length_kind) → body_length kind ≤ length s → Whole (record { kind = kind; body = take (body_length kind) s })
whole_of kind s h n l = elim (known-or kind) [ inl z ↦ by-known z.1 s n l | inr e ↦ absurd (h e) ]

-- At a position --------------------------------------------------------------------------------

-- so many whole records stand before it
pub record Walked (card : List ℕ) (at many : ℕ) (ordered : Bool) : Type 0 where
  pub passed : List CardRecord
  pub whole : AllWhole passed
  pub are : card ≡ in_bytes passed ++ drop at card
  pub long : length (in_bytes passed) ≡ at
  pub count : length passed ≡ many
  pub order : ordered ≡ same_bytes (kinds passed) (orderly many)

pub walked_start : (card : List ℕ) → Walked card 0 0 true
unfolding in_bytes orderly same_bytes
walked_start card = record { passed = []; whole = tt; are = refl; long = refl; count = refl; order = refl }

module _ {card : List ℕ} {at many : ℕ} {ordered : Bool} (w : Walked card at many ordered) where
  -- no record more
  pub walked_none : length card ≤ at → Short card
  walked_none l = no_end w.passed w.whole (w.are ∙ rw (drop_of_length-le card l) (append-nil (in_bytes w.passed)))

  module _ (inside : at < length card) where
    abbrev kind : ℕ
    kind = get_or card at 0

    abbrev more : List ℕ
    more = drop (suc at) card

    here : card ≡ in_bytes w.passed ++ (kind ∷ more)
    here = w.are ∙ ap (λ (l : List ℕ). in_bytes w.passed ++ l) (drop-cons card at 0 inside)

    pub walked-unknown : body_length kind ≡ 0 → Unknown card
    walked-unknown e = record { passed = w.passed; whole = w.whole; kind = kind; more = more; unknown = body-unknown kind e; are = here }

    pub walked-short : ¬ (body_length kind ≡ 0) → length card - at ≤ body_length kind → Short card
    walked-short h l = elim (known-or kind) [
      | inr e ↦ absurd (h e)
      | inl z ↦ within w.passed w.whole z.1 more (omega (arith, length-drop (suc at) card, (kind-body z.1).0)) here
    ]

    pub walked-ends : kind ≡ length_kind → body_length kind < length card - at → CutsAt card at many ordered
    walked-ends e l =
        let room : length_body ≤ length more = omega (arith, length-drop (suc at) card, ap body_length e, (kind-body of_length).0) in
        record {
          parts = record {
            records = w.passed;
            whole = w.whole;
            size = take length_body more;
            sized = length-take-le length_body more room;
            trailing = drop length_body more;
            are = here ∙ rw (e, take-append-drop length_body more);
          };
          long = w.long;
          count = w.count;
          order = w.order;
        }

    pub walked_on : ¬ (body_length kind ≡ 0) → body_length kind < length card - at → ¬ (kind ≡ length_kind) → Walked card (at + (1 + body_length kind)) (many + 1) (goes_on ordered many kind)
    walked_on h l n =
        let body = body_length kind in
        let r : CardRecord = record { kind = kind; body = take body more } in
        let to : at + (1 + body) ≡ suc at + body = omega arith in
        let rest : drop (at + (1 + body)) card ≡ drop body more = ap (λ (i : ℕ). drop i card) to ∙ sym (drop-drop body (suc at) card) in
        let sized : length (take body more) ≡ body = length-take-le body more (omega (arith, length-drop (suc at) card)) in
        record {
          passed = w.passed ++ (r ∷ []);
          whole = whole-snoc w.passed w.whole (whole_of kind more h n (omega (arith, length-drop (suc at) card)));
          are = here ∙ rw (bytes-snoc w.passed r, rest, append_assoc (in_bytes w.passed) (kind ∷ take body more) (drop body more), take-append-drop body more);
          long = rw (bytes-snoc w.passed r, length-append (in_bytes w.passed) (kind ∷ take body more)) (omega (arith, w.long));
          count = length-append w.passed (r ∷ []) ∙ ap (λ (i : ℕ). i + 1) w.count;
          order = rw (add-one many) (order-on w.passed r many ordered w.count w.order);
        }
