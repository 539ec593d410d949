-- The test of a row tells exactly what the rules say of one, and the rows of a match keep them.
-- docs/REFERENCE.md, 16.7
use Rattle.std.specs.Prelude.{◌≡◌, ◌⊎◌, ◌↔◌, Bool, true, false, ◌&&◌, ◌||◌, List, leb, length}
use Rattle.std.proofs.Math.Path.{refl, sym, ap}
use Rattle.std.proofs.Common.{◌∙◌, leb-true, eqb-true, le-leb, eq-eqb, get_or-drop}
use Rattle.std.proofs.Math.Logic.{inl, inr}
use Prim.Native.Nat.{ℕ, zero, suc, ◌+◌, ◌-◌, ◌*◌, ◌≤◌, ◌<◌}
use native.Mathlib.Omega.{arith}
use Rattle.std.proofs.Math.ListN.{get_or}
use Rattle.syntax.specs.Limits.{group_limit, unset, row_length, slot}
use Rattle.semantics.specs.States.{Row}
use Rattle.semantics.specs.Demands.{span_from, span_to, IsUnset, RowFacts}
use Rattle.semantics.proofs.Laws.Cases.{clash, bool, same_or}
use Rattle.lookup.specs.Rows.{is_unset, span_holds, spans_hold, is_row, RowRules}
use Rattle.lookup.specs.Laws.Names.{one_of}

both : {x y : Bool} → (x && y) ≡ true → (x ≡ true) × (y ≡ true)
both {x} {y} e = of x y e
  where
    of : (s t : Bool) → (s && t) ≡ true → (s ≡ true) × (t ≡ true)
    of true t q = (refl, q)
    of false t q = absurd (clash (cc))

-- Spans ------------------------------------------------------------------------

-- what `RowRules` says of one group
abbrev SpanFact : (size from to : ℕ) → Type 0
SpanFact size from to = IsUnset from to ⊎ ((from ≤ to) × (to ≤ size))

pub unset-fact : (from to : ℕ) → is_unset from to ≡ true → IsUnset from to
unfolding is_unset
unset-fact from to e = let z = both e in (eqb-true from unset z.0, eqb-true to unset z.1)

pub unset-test : (from to : ℕ) → IsUnset from to → is_unset from to ≡ true
unfolding is_unset
unset-test from to h = rw (eq-eqb from unset h.0, eq-eqb to unset h.1)

pub set-test : (from to : ℕ) → ¬ IsUnset from to → is_unset from to ≡ false
set-test from to h = elim (bool (is_unset from to)) [ inl e ↦ absurd (h (unset-fact from to e)) | inr e ↦ e ]

span-fact : (size from to : ℕ) → span_holds size from to ≡ true → SpanFact size from to
unfolding span_holds
span-fact size from to e = of (is_unset from to) refl e
  where
    of : (t : Bool) → is_unset from to ≡ t → (t || (leb from to && leb to size)) ≡ true → SpanFact size from to
    of true u q = inl (unset-fact from to u)
    of false u q = let k : (leb from to && leb to size) ≡ true = q in let z = both k in inr (leb-true from to z.0, leb-true to size z.1)

or-true : (t : Bool) → (t || true) ≡ true
or-true true = refl
or-true false = refl

span-test : (size from to : ℕ) → SpanFact size from to → span_holds size from to ≡ true
unfolding span_holds
span-test size from to (inl h) = rw (unset-test from to h)
span-test size from to (inr h) = rw (le-leb from to h.0, le-leb to size h.1) (or-true (is_unset from to))

module _ (size : ℕ) (row : Row) where
  abbrev Fact : ℕ → Type 0
  Fact group = SpanFact size (span_from row group) (span_to row group)

  -- one group after another
  pub spans-broken : (n passed : ℕ) → passed < n → span_holds size (span_from row (suc passed)) (span_to row (suc passed)) ≡ false → spans_hold (n - passed) size row (suc passed) ≡ false
  unfolding spans_hold
  spans-broken n passed h e = rw (one_of n passed h, e)

  pub spans_on : (n passed : ℕ) → passed < n → span_holds size (span_from row (suc passed)) (span_to row (suc passed)) ≡ true → spans_hold (n - passed) size row (suc passed) ≡ spans_hold (n - suc passed) size row (suc (suc passed))
  unfolding spans_hold
  spans_on n passed h e = rw (one_of n passed h, e)

  pub spans_all : (n passed : ℕ) → n ≤ passed → spans_hold (n - passed) size row (suc passed) ≡ true
  unfolding spans_hold
  spans_all n passed h = let e : n - passed ≡ 0 = omega arith in rw e

  -- what is known of the two numbers of a group, where they stand
  pub span-told : (passed : ℕ) (told : Bool) → told ≡ span_holds size (get_or row (2 + 2 * passed) 0) (get_or row (3 + 2 * passed) 0)
      → span_holds size (span_from row (suc passed)) (span_to row (suc passed)) ≡ told
  unfolding slot
  span-told passed told t =
      let from : get_or row (2 + 2 * passed) 0 ≡ span_from row (suc passed) = ap (λ (k : ℕ). get_or row k 0) (omega arith) ∙ sym (get_or-drop 2 row (slot (suc passed)) 0) in
      let to : get_or row (3 + 2 * passed) 0 ≡ span_to row (suc passed) = ap (λ (k : ℕ). get_or row k 0) (omega arith) ∙ sym (get_or-drop 2 row (slot (suc passed) + 1) 0) in
      rw (← from, ← to) (sym t)

  spans-fact : (many group : ℕ) → spans_hold many size row group ≡ true → (g : ℕ) → group ≤ g → g < group + many → Fact g
  unfolding spans_hold
  spans-fact zero group e g l h = absurd (omega arith)
  spans-fact (suc many) group e g l h =
      let z = both e in
      elim (same_or group g) [
        | inl s ↦ rw s at (span-fact size (span_from row group) (span_to row group) z.0)
        | inr n ↦ spans-fact many (suc group) z.1 g (omega arith) (omega arith)
      ]

  spans-test : (many group : ℕ) → ((g : ℕ) → group ≤ g → g < group + many → Fact g) → spans_hold many size row group ≡ true
  unfolding spans_hold
  spans-test zero group h = refl
  spans-test (suc many) group h =
      rw (span-test size (span_from row group) (span_to row group) (h group (omega arith) (omega arith)))
      (spans-test many (suc group) (λ g l k. h g (omega arith) (omega arith)))

-- Rows -------------------------------------------------------------------------

row-rules : (line : List ℕ) (row : Row) → is_row (length line) row ≡ true → RowRules line row
unfolding is_row
row-rules line row e =
    let a = both e in
    let b = both a.0 in
    let d = both b.0 in
    record {
      size = eqb-true (length row) row_length d.0;
      forward = leb-true (get_or row 0 0) (get_or row 1 0) d.1;
      inside = leb-true (get_or row 1 0) (length line) b.1;
      spans = λ group l h. spans-fact (length line) row group_limit 1 a.1 group l (omega arith);
    }

row-passes : (line : List ℕ) (row : Row) → RowRules line row → is_row (length line) row ≡ true
unfolding is_row
row-passes line row h =
    rw
    (eq-eqb (length row) row_length h.size, le-leb (get_or row 0 0) (get_or row 1 0) h.forward, le-leb (get_or row 1 0) (length line) h.inside)
    (spans-test (length line) row group_limit 1 (λ group l k. h.spans group l (omega arith)))

-- The test tells the rules.
pub is_row-exactly : (line : List ℕ) (row : Row) → (is_row (length line) row ≡ true) ↔ RowRules line row
is_row-exactly line row = (row-rules line row, row-passes line row)

-- a row of a match passes it, of a rule with any number of groups
pub row-test : (line : List ℕ) (groups : ℕ) (row : Row) → RowFacts line groups row → is_row (length line) row ≡ true
row-test line groups row h =
    row-passes line row (record { size = h.size; forward = h.forward; inside = h.inside; spans = λ group l k. elim (h.spans group l k) [ inl u ↦ inl u | inr z ↦ inr (z.1, z.2) ] })
