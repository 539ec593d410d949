-- Cutting bytes into records: whole records in front are passed over, and what stands behind them decides. Every list of bytes ends in exactly one of
-- three ways: at a byte that is no kind, cut short, or with a kind 3.
use Rattle.std.specs.Prelude.{◌≡◌, refl, ◌⊎◌, ℕ, zero, suc, ◌≤◌, ◌<◌, length, take, drop}
use Rattle.std.proofs.Common.{ap, ◌∙◌, inl, inr, arith, length-append, length-drop, take-append-drop, take_at, drop_at, length-take-le}
use mathlib.Core.List.{List, [], ◌∷◌, ◌++◌, append_assoc, append-nil}
use borrow.Author.Tests.{eq-eqb, ne_eqb, lt-ltb, le-ltb}
use Rattle.syntax.specs.declared.Reason.{Reason}
use Rattle.syntax.specs.declared.Reason.TheVariants.{UnknownKind, CardCutShort}
use Rattle.semantics.proofs.Laws.Cases.{le-or, same_or}
use Rattle.card_format.specs.Cards.{settings_kind, settings_body, piece_kind, piece_body, length_kind, length_body, CardRecord, in_bytes, body_length, Cut, cut, uncut, behind, cut_from, cutting}
use Rattle.card_format.specs.CardDemands.{Whole, whole_settings, whole_piece, AllWhole, Kind, of_settings, of_piece, of_length, Unknown, Short, no_end, within, Parts}

-- Kinds -------------------------------------------------------------------------------

pub kind-body : {kind body : ℕ} → Kind kind body → (body_length kind ≡ body) × (1 ≤ body)
unfolding body_length
kind-body of_settings = (refl, omega arith)
kind-body of_piece = (refl, omega arith)
kind-body of_length = (refl, omega arith)

pub no_kind : (kind : ℕ) → ¬ (kind ≡ settings_kind) → ¬ (kind ≡ piece_kind) → ¬ (kind ≡ length_kind) → body_length kind ≡ 0
unfolding body_length
no_kind kind a b c = rw (ne_eqb kind settings_kind a, ne_eqb kind piece_kind b, ne_eqb kind length_kind c)

-- a byte is a kind, or has no body
pub known-or : (kind : ℕ) → ((body : ℕ) × Kind kind body) ⊎ (body_length kind ≡ 0)
known-or kind = elim (same_or kind settings_kind) [
  | inl e ↦ rw e (inl (settings_body, of_settings))
  | inr a ↦ elim (same_or kind piece_kind) [
    | inl e ↦ rw e (inl (piece_body, of_piece))
    | inr b ↦ elim (same_or kind length_kind) [ inl e ↦ rw e (inl (length_body, of_length)) | inr c ↦ inr (no_kind kind a b c) ]
  ]
]

pub unknown-body : (kind : ℕ) → ((body : ℕ) → ¬ Kind kind body) → body_length kind ≡ 0
unknown-body kind h = elim (known-or kind) [ inl z ↦ absurd (h z.0 z.1) | inr e ↦ e ]

pub body-unknown : (kind : ℕ) → body_length kind ≡ 0 → (body : ℕ) → ¬ Kind kind body
body-unknown kind e body z = let h = kind-body z in omega (arith, h.0, h.1)

-- One record ------------------------------------------------------------------------------

module _ (fuel kind : ℕ) (s : List ℕ) where
  pub step-unknown : body_length kind ≡ 0 → cut_from (suc fuel) (kind ∷ s) ≡ uncut UnknownKind
  unfolding cut_from
  step-unknown e = rw (eq-eqb (body_length kind) 0 e)

  pub step-short : 1 ≤ body_length kind → length s < body_length kind → cut_from (suc fuel) (kind ∷ s) ≡ uncut CardCutShort
  unfolding cut_from
  step-short h l = rw (ne_eqb (body_length kind) 0 (λ e. omega arith), lt-ltb (length s) (body_length kind) l)

pub step_end : (fuel : ℕ) (s : List ℕ) → length_body ≤ length s → cut_from (suc fuel) (length_kind ∷ s) ≡ cut [] (take length_body s) (drop length_body s)
unfolding cut_from body_length
step_end fuel s h = rw (le-ltb (length s) length_body h)

step-kind : (fuel : ℕ) (body s : List ℕ) (kind : ℕ) → 1 ≤ body_length kind → ¬ (kind ≡ length_kind) → length body ≡ body_length kind
    → cut_from (suc fuel) (kind ∷ (body ++ s)) ≡ behind (record { kind = kind; body = body }) (cut_from fuel s)
unfolding cut_from
step-kind fuel body s kind h n l =
    let long : body_length kind ≤ length (body ++ s) = omega (arith, length-append body s) in
    rw (ne_eqb (body_length kind) 0 (λ e. omega arith), le-ltb (length (body ++ s)) (body_length kind) long, ne_eqb kind length_kind n, take_at body s (body_length kind) l, drop_at body s (body_length kind) l)

pub step-on : (fuel : ℕ) (s : List ℕ) {r : CardRecord} → Whole r → cut_from (suc fuel) (r.kind ∷ (r.body ++ s)) ≡ behind r (cut_from fuel s)
unfolding body_length
step-on fuel s (whole_settings {body} l) = step-kind fuel body s settings_kind (omega arith) (λ e. omega arith) l
step-on fuel s (whole_piece {body} l) = step-kind fuel body s piece_kind (omega arith) (λ e. omega arith) l

-- the fuel does not matter, once there is enough
pub fuel-same : (f g : ℕ) (s : List ℕ) → length s ≤ f → length s ≤ g → cut_from f s ≡ cut_from g s
unfolding cut_from
fuel-same zero zero s h k = refl
fuel-same zero (suc g) [] h k = refl
fuel-same zero (suc g) (kind ∷ s) h k = absurd (omega arith)
fuel-same (suc f) zero [] h k = refl
fuel-same (suc f) zero (kind ∷ s) h k = absurd (omega arith)
fuel-same (suc f) (suc g) [] h k = refl
fuel-same (suc f) (suc g) (kind ∷ s) h k =
    let short : length (drop (body_length kind) s) ≤ length s = simp length-drop (omega arith) in
    rw (fuel-same f g (drop (body_length kind) s) (omega arith) (omega arith))

-- Records in front ----------------------------------------------------------------------------

unfoldable pub before_all : List CardRecord → Cut → Cut
before_all [] x = x
before_all (r ∷ rs) x = behind r (before_all rs x)

pub before-cut : (passed rs : List CardRecord) (size trailing : List ℕ) → before_all passed (cut rs size trailing) ≡ cut (passed ++ rs) size trailing
unfolding before_all behind
before-cut [] rs size trailing = refl
before-cut (r ∷ passed) rs size trailing = ap (behind r) (before-cut passed rs size trailing)

pub before-uncut : (passed : List CardRecord) (why : Reason) → before_all passed (uncut why) ≡ uncut why
unfolding before_all behind
before-uncut [] why = refl
before-uncut (r ∷ passed) why = ap (behind r) (before-uncut passed why)

cut-past : (passed : List CardRecord) → AllWhole passed → (rest : List ℕ) (fuel : ℕ) → length (in_bytes passed ++ rest) ≤ fuel → cut_from fuel (in_bytes passed ++ rest) ≡ before_all passed (cutting rest)
unfolding in_bytes before_all cutting
cut-past [] w rest fuel h = fuel-same fuel (length rest) rest h (omega arith)
cut-past (r ∷ passed) w rest zero h = absurd (omega arith)
cut-past (r ∷ passed) w rest (suc fuel) h =
    rw (append_assoc r.body (in_bytes passed) rest)
    (step-on fuel (in_bytes passed ++ rest) w.0
    ∙ ap (behind r) (cut-past passed w.1 rest fuel (omega (arith, length-append (r.body ++ in_bytes passed) rest, length-append r.body (in_bytes passed), length-append (in_bytes passed) rest))))

pub past : (passed : List CardRecord) → AllWhole passed → (rest : List ℕ) → cutting (in_bytes passed ++ rest) ≡ before_all passed (cutting rest)
unfolding cutting
past passed w rest = cut-past passed w rest (length (in_bytes passed ++ rest)) (omega arith)

-- The three ways ---------------------------------------------------------------------------------

none_left : cutting [] ≡ uncut CardCutShort
unfolding cutting cut_from
none_left = refl

unknown-first : (kind : ℕ) (more : List ℕ) → body_length kind ≡ 0 → cutting (kind ∷ more) ≡ uncut UnknownKind
unfolding cutting
unknown-first kind more e = step-unknown (length more) kind more e

short-first : (kind : ℕ) (part : List ℕ) → 1 ≤ body_length kind → length part < body_length kind → cutting (kind ∷ part) ≡ uncut CardCutShort
unfolding cutting
short-first kind part h l = step-short (length part) kind part h l

size-first : (size trailing : List ℕ) → length size ≡ length_body → cutting (length_kind ∷ (size ++ trailing)) ≡ cut [] size trailing
unfolding cutting
size-first size trailing l =
    step_end (length (size ++ trailing)) (size ++ trailing) (omega (arith, length-append size trailing))
    ∙ rw (take_at size trailing length_body l, drop_at size trailing length_body l)

pub cut-unknown : {s : List ℕ} → Unknown s → cutting s ≡ uncut UnknownKind
cut-unknown z =
    rw z.are
    (past z.passed z.whole (z.kind ∷ z.more)
    ∙ ap (before_all z.passed) (unknown-first z.kind z.more (unknown-body z.kind z.unknown))
    ∙ before-uncut z.passed UnknownKind)

pub cut_short_lem : {s : List ℕ} → Short s → cutting s ≡ uncut CardCutShort
cut_short_lem (no_end passed w e) =
    rw (e, ← append-nil (in_bytes passed))
    (past passed w [] ∙ ap (before_all passed) none_left ∙ before-uncut passed CardCutShort)
cut_short_lem (within passed w {kind} {body} k part l e) =
    let z = kind-body k in
    rw e
    (past passed w (kind ∷ part)
    ∙ ap (before_all passed) (short-first kind part (omega (arith, z.0, z.1)) (omega (arith, z.0)))
    ∙ before-uncut passed CardCutShort)

pub cut_parts : {s : List ℕ} (p : Parts s) → cutting s ≡ cut p.records p.size p.trailing
cut_parts p =
    rw p.are
    (past p.records p.whole (length_kind ∷ (p.size ++ p.trailing))
    ∙ ap (before_all p.records) (size-first p.size p.trailing p.sized)
    ∙ before-cut p.records [] p.size p.trailing
    ∙ ap (λ (rs : List CardRecord). cut rs p.size p.trailing) (append-nil p.records))

abbrev pub Ends : List ℕ → Type 0
Ends s = Unknown s ⊎ (Short s ⊎ Parts s)

none_passed : (s : List ℕ) → s ≡ in_bytes [] ++ s
unfolding in_bytes
none_passed s = refl

-- one record more in front
module _ {r : CardRecord} (w : Whole r) {s : List ℕ} where
  longer : (passed : List CardRecord) (rest : List ℕ) → s ≡ in_bytes passed ++ rest → r.kind ∷ (r.body ++ s) ≡ in_bytes (r ∷ passed) ++ rest
  unfolding in_bytes
  longer passed rest e = rw (e, append_assoc r.body (in_bytes passed) rest)

  longer-alone : (passed : List CardRecord) → s ≡ in_bytes passed → r.kind ∷ (r.body ++ s) ≡ in_bytes (r ∷ passed)
  unfolding in_bytes
  longer-alone passed e = rw e

  further : Ends s → Ends (r.kind ∷ (r.body ++ s))
  further (inl z) = inl (record { passed = r ∷ z.passed; whole = (w, z.whole); kind = z.kind; more = z.more; unknown = z.unknown; are = longer z.passed (z.kind ∷ z.more) z.are })
  further (inr (inl (no_end passed ws e))) = inr (inl (no_end (r ∷ passed) (w, ws) (longer-alone passed e)))
  further (inr (inl (within passed ws {kind} k part l e))) = inr (inl (within (r ∷ passed) (w, ws) k part l (longer passed (kind ∷ part) e)))
  further (inr (inr p)) = inr (inr (record { records = r ∷ p.records; whole = (w, p.whole); size = p.size; sized = p.sized; trailing = p.trailing; are = longer p.records (length_kind ∷ (p.size ++ p.trailing)) p.are }))

-- behind a record that is whole, or at the first kind 3
by_kind : {kind body : ℕ} → Kind kind body → (s : List ℕ) → body ≤ length s → Ends (drop body s) → Ends (kind ∷ s)
by_kind of_settings s l e = rw (take-append-drop settings_body s) at (further (whole_settings {body = take settings_body s} (length-take-le settings_body s l)) e)
by_kind of_piece s l e = rw (take-append-drop piece_body s) at (further (whole_piece {body = take piece_body s} (length-take-le piece_body s l)) e)
by_kind of_length s l e =
    inr
    (inr
    (record {
      records = [];
      whole = tt;
      size = take length_body s;
      sized = length-take-le length_body s l;
      trailing = drop length_body s;
      are = rw (take-append-drop length_body s) (none_passed (length_kind ∷ s));
    }))

none-ends : Ends []
none-ends = inr (inl (no_end [] tt (none_passed [] ∙ append-nil (in_bytes []))))

ends_within : (fuel : ℕ) (s : List ℕ) → length s ≤ fuel → Ends s
ends_within zero [] h = none-ends
ends_within zero (kind ∷ s) h = absurd (omega arith)
ends_within (suc fuel) [] h = none-ends
ends_within (suc fuel) (kind ∷ s) h = elim (known-or kind) [
  | inr e ↦ inl (record { passed = []; whole = tt; kind = kind; more = s; unknown = body-unknown kind e; are = none_passed (kind ∷ s) })
  | inl z ↦ elim (le-or z.0 (length s)) [
    | inr l ↦ inr (inl (within [] tt z.1 s l (none_passed (kind ∷ s))))
    | inl l ↦ by_kind z.1 s l (ends_within fuel (drop z.0 s) (omega (arith, length-drop z.0 s)))
  ]
]

-- how the bytes of any card end
pub ends : (s : List ℕ) → Ends s
ends s = ends_within (length s) s (omega arith)
