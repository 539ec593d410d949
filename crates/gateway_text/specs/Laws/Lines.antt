-- The lines of the gateway, put together from the parts that are written one behind another; and how long they are at most.
use Rattle.std.specs.Prelude.{◌≡◌, List, [], ◌∷◌, ℕ, ◌+◌, ◌*◌, ◌^◌, ◌≤◌, ◌<◌, length, get_or}
use Rattle.std.proofs.Common.{add-one, ne_eqb}
use native.Mathlib.Omega.{arith}
use Rattle.syntax.specs.Limits.{unset, group_limit}
use Rattle.syntax.specs.Read.{bytes}
use Rattle.text.specs.Lines.{newline}
use Rattle.text.specs.Numbers.{decimal}
use Rattle.text.specs.Writing.{Wrote}
use Rattle.text.specs.Laws.Numbers.{ten_digits, twenty_digits}
use Rattle.text.specs.Laws.Writing.{wrote_both}
use Rattle.gateway_text.specs.Limits.{span_room, answer_room}
use Rattle.gateway_text.specs.Lines.{line, span, spans, matched_line, not_matched_line, exhausted_line, too_long_line, refusal_line, unreadable_line}
use Rattle.gateway_text.specs.Promises.{WroteLine}

-- Spans ---------------------------------------------------------------------

module _ {out : List ℕ} {at : ℕ} (to : ℕ) where
  pub span_unset : (from : ℕ) → from ≡ unset → {new : List ℕ} {e : ℕ} → Wrote out at (bytes " -") new e → Wrote out at (span from to) new e × (e ≤ at + span_room)
  unfolding span unset span_room
  span_unset from u w = (rw u w, omega (arith, w.ends))

  -- the parts of a span that is set
  module _ (from : ℕ) (f : from < 2 ^ 32) (t : to < 2 ^ 32) (fits : at + span_room ≤ length out) {o₁ o₂ o₃ new : List ℕ} {e₁ e₂ e₃ e : ℕ}
      (blank : Wrote out at (bytes " ") o₁ e₁) (first : Wrote o₁ e₁ (decimal from) o₂ e₂) (dash : Wrote o₂ e₂ (bytes "-") o₃ e₃) (second : Wrote o₃ e₃ (decimal to) new e) where
    pub span_set : (from ≡ unset → ⊥) → Wrote out at (span from to) new e × (e ≤ at + span_room)
    unfolding span span_room
    span_set u =
        let a = ten_digits from f in
        let b = ten_digits to t in
        (rw (ne_eqb from unset u) (wrote_both (omega arith) (wrote_both (omega arith) (wrote_both (omega arith) blank first) dash) second), omega arith)

-- one span more
pub spans_more : {out mid new : List ℕ} {at m e : ℕ} (x : List ℕ) (n : ℕ) → m ≤ length out → Wrote out at (spans x n) mid m → Wrote mid m (span (get_or x (2 * (n + 1)) 0) (get_or x (2 * (n + 1) + 1) 0)) new e → Wrote out at (spans x (n + 1)) new e
unfolding spans
spans_more x n fits v w = rw (add-one n) (wrote_both fits v (rw (add-one n) at w))

-- Lines ---------------------------------------------------------------------

module _ {out : List ℕ} {at : ℕ} where
  pub line_wrote : {text mid new : List ℕ} {m e : ℕ} → m ≤ length out → Wrote out at text mid m → Wrote mid m (newline ∷ []) new e → Wrote out at (line text) new e
  unfolding line
  line_wrote fits v w = wrote_both fits v w

  module _ {new : List ℕ} {e : ℕ} where
    pub not_matched_wrote : Wrote out at (78 ∷ 10 ∷ []) new e → WroteLine out at not_matched_line new e
    unfolding not_matched_line line newline answer_room
    not_matched_wrote w = record { wrote = w; near = omega (arith, w.ends) }

    pub too_long_wrote : Wrote out at (76 ∷ 10 ∷ []) new e → WroteLine out at too_long_line new e
    unfolding too_long_line line newline answer_room
    too_long_wrote w = record { wrote = w; near = omega (arith, w.ends) }

    pub unreadable_wrote : Wrote out at (70 ∷ 10 ∷ []) new e → WroteLine out at unreadable_line new e
    unfolding unreadable_line line newline answer_room
    unreadable_wrote w = record { wrote = w; near = omega (arith, w.ends) }

  module _ (fits : at + answer_room ≤ length out) {o₁ o₂ new : List ℕ} {e₁ e₂ e : ℕ} where
    pub exhausted_wrote : (start : ℕ) → start < 2 ^ 32 → Wrote out at (bytes "X ") o₁ e₁ → Wrote o₁ e₁ (decimal start) o₂ e₂ → Wrote o₂ e₂ (newline ∷ []) new e → WroteLine out at (exhausted_line start) new e
    unfolding exhausted_line answer_room
    exhausted_wrote start h u v w =
        let a = ten_digits start h in
        record { wrote = line_wrote (omega arith) (wrote_both (omega arith) u v) w; near = omega arith }

    module _ {o₃ o₄ : List ℕ} {e₃ e₄ : ℕ} where
      pub refusal_wrote : (number place : ℕ) → number < 2 ^ 32 → place < 2 ^ 64
          → Wrote out at (bytes "R ") o₁ e₁ → Wrote o₁ e₁ (decimal number) o₂ e₂ → Wrote o₂ e₂ (bytes " ") o₃ e₃ → Wrote o₃ e₃ (decimal place) o₄ e₄ → Wrote o₄ e₄ (newline ∷ []) new e
          → WroteLine out at (refusal_line number place) new e
      unfolding refusal_line answer_room
      refusal_wrote number place h k s t u v w =
          let a = ten_digits number h in
          let b = twenty_digits place k in
          record { wrote = line_wrote (omega arith) (wrote_both (omega arith) (wrote_both (omega arith) (wrote_both (omega arith) s t) u) v) w; near = omega arith }

      pub matched_wrote : {o₅ : List ℕ} {e₅ : ℕ} (groups : ℕ) (x : List ℕ) → groups ≤ group_limit → get_or x 0 0 < 2 ^ 32 → get_or x 1 0 < 2 ^ 32
          → Wrote out at (bytes "M ") o₁ e₁ → Wrote o₁ e₁ (decimal (get_or x 0 0)) o₂ e₂ → Wrote o₂ e₂ (bytes " ") o₃ e₃ → Wrote o₃ e₃ (decimal (get_or x 1 0)) o₄ e₄
          → Wrote o₄ e₄ (spans x groups) o₅ e₅ → e₅ ≤ e₄ + span_room * groups → Wrote o₅ e₅ (newline ∷ []) new e
          → WroteLine out at (matched_line groups x) new e
      unfolding matched_line answer_room span_room group_limit
      matched_wrote groups x g h k s t u v r near w =
          let a = ten_digits (get_or x 0 0) h in
          let b = ten_digits (get_or x 1 0) k in
          record { wrote = line_wrote (omega arith) (wrote_both (omega arith) (wrote_both (omega arith) (wrote_both (omega arith) (wrote_both (omega arith) s t) u) v) r) w; near = omega arith }
