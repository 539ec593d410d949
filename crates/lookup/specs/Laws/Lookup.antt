-- What is found, case by case, and that it is what the group took.
use Rattle.std.specs.Prelude.{◌≡◌, refl, ◌⊎◌, Bool, true, false, ◌&&◌, List, [], ◌∷◌, ℕ, zero, suc, ◌+◌, ◌-◌, ◌*◌, ◌≤◌, ◌<◌, eqb, length, get_or, take, drop, if◌then◌else◌}
use Rattle.std.proofs.Common.{sym, ap, ◌∙◌, inl, inr, zero-add, arith, eq-eqb, ne_eqb, take_all, get_or-drop}
use Rattle.std.proofs.lemmas.Bool.{eqb-false}
use Rattle.std.specs.Borrow.{Bor}
use Rattle.std.proofs.Math.Seq.{slice, take-length, take-nil}
use Rattle.syntax.specs.Limits.{group_limit, row_length, slot}
use Rattle.semantics.specs.States.{Row}
use Rattle.semantics.specs.Demands.{span_from, span_to, IsUnset}
use Rattle.semantics.proofs.Laws.Cases.{clash, le-or}
use Rattle.lookup.specs.declared.Found.{Found}
use Rattle.lookup.specs.declared.Found.TheVariants.{Taken, Standing, Nothing}
use Rattle.lookup.specs.Names.{group_named}
use Rattle.lookup.specs.Rows.{is_unset, is_row, RowRules}
use Rattle.lookup.specs.Lookup.{of_span, of_group, lookup, PartOf, Lent, field_of}
use Rattle.lookup.specs.Laws.Names.{named-within}
use Rattle.lookup.specs.Laws.Rows.{unset-test, set-test, is_row-exactly}

-- Case by case ------------------------------------------------------------------

module _ (name names line : List ℕ) (kind : ℕ) (numbers : List ℕ) where
  pub not-matched : (kind ≡ 0 → ⊥) → lookup name names line kind numbers ≡ Nothing
  unfolding lookup
  not-matched h = rw (ne_eqb kind 0 h)

  pub no_row : kind ≡ 0 → is_row (length line) (take row_length numbers) ≡ false → lookup name names line kind numbers ≡ Nothing
  unfolding lookup
  no_row h e = rw (eq-eqb kind 0 h, e)

  pub by-group : kind ≡ 0 → is_row (length line) (take row_length numbers) ≡ true → lookup name names line kind numbers ≡ of_group (group_named name names) (take row_length numbers)
  unfolding lookup
  by-group h e = rw (eq-eqb kind 0 h, e)

pub unknown : (group : ℕ) (row : Row) → group ≡ 0 → of_group group row ≡ Nothing
unfolding of_group
unknown group row e = rw (eq-eqb group 0 e)

pub by_span : (group : ℕ) (row : Row) → (group ≡ 0 → ⊥) → of_group group row ≡ of_span (span_from row group) (span_to row group)
unfolding of_group
by_span group row h = rw (ne_eqb group 0 h)

-- of a group that is set, and of one that is not
module _ (group : ℕ) (row : Row) (some : 1 ≤ group) where
  pub of-set : ¬ IsUnset (span_from row group) (span_to row group) → of_group group row ≡ Taken (span_from row group) (span_to row group)
  unfolding of_span
  of-set h = by_span group row (λ e. omega arith) ∙ rw (set-test (span_from row group) (span_to row group) h)

  pub of-unset : IsUnset (span_from row group) (span_to row group) → of_group group row ≡ Standing
  unfolding of_span
  of-unset h = by_span group row (λ e. omega arith) ∙ rw (unset-test (span_from row group) (span_to row group) h)

-- where the two numbers of a group stand
pub span-found : (group : ℕ) (row : Row) → (group ≡ 0 → ⊥) → of_group group row ≡ of_span (get_or row (2 * group) 0) (get_or row (2 * group + 1) 0)
unfolding slot
span-found group row h =
    let e : 2 + slot group ≡ 2 * group = omega arith in
    let from : span_from row group ≡ get_or row (2 * group) 0 = get_or-drop 2 row (slot group) 0 ∙ ap (λ (k : ℕ). get_or row k 0) e in
    let to : span_to row group ≡ get_or row (2 * group + 1) 0 = get_or-drop 2 row (slot group + 1) 0 ∙ ap (λ (k : ℕ). get_or row k 0) (omega arith) in
    by_span group row h ∙ rw (from, to)

-- fewer numbers than a row has are none
pub short_row : (line numbers : List ℕ) → length numbers < row_length → is_row (length line) (take row_length numbers) ≡ false
unfolding is_row
short_row line numbers h = rw (take_all row_length numbers (omega arith), ne_eqb (length numbers) row_length (λ e. omega arith))

-- Parts ---------------------------------------------------------------------------

span-within : (from to size : ℕ) (told : Bool) → is_unset from to ≡ told → IsUnset from to ⊎ ((from ≤ to) × (to ≤ size)) → (f t : ℕ) → (if told then Standing else Taken from to) ≡ Taken f t → (f ≤ t) × (t ≤ size)
span-within from to size true u h f t e = absurd (clash (cc))
span-within from to size false u (inl h) f t e = absurd (clash (cc (unset-test from to h)))
span-within from to size false u (inr h) f t e =
    let a : from ≡ f = cc in
    let b : to ≡ t = cc in
    (omega arith, omega arith)

group-within : (line : List ℕ) (group : ℕ) (row : Row) (told : Bool) → eqb group 0 ≡ told → group ≤ group_limit → RowRules line row → (f t : ℕ) → (if told then Nothing else of_span (span_from row group) (span_to row group)) ≡ Taken f t → (f ≤ t) × (t ≤ length line)
unfolding of_span
group-within line group row true n l r f t e = absurd (clash (cc))
group-within line group row false n l r f t e =
    let some : 1 ≤ group = positive group (eqb-false group 0 n) in
    span-within (span_from row group) (span_to row group) (length line) (is_unset (span_from row group) (span_to row group)) refl (r.spans group some l) f t e
  where
    positive : (g : ℕ) → (g ≡ 0 → ⊥) → 1 ≤ g
    positive g h = elim (le-or 1 g) [ inl k ↦ k | inr k ↦ absurd (h (omega arith)) ]

-- a part of the line lies within it
pub taken-within : (name names line : List ℕ) (kind : ℕ) (numbers : List ℕ) (from to : ℕ) → lookup name names line kind numbers ≡ Taken from to → (from ≤ to) × (to ≤ length line)
unfolding lookup of_group
taken-within name names line kind numbers from to e = of (eqb kind 0) (is_row (length line) row) refl e
  where
    row : Row
    row = take row_length numbers

    of : (k t : Bool) → is_row (length line) row ≡ t → (if k && t then of_group (group_named name names) row else Nothing) ≡ Taken from to → (from ≤ to) × (to ≤ length line)
    of false t r q = absurd (clash (cc))
    of true false r q = absurd (clash (cc))
    of true true r q = group-within line (group_named name names) row (eqb (group_named name names) 0) refl (named-within name names) ((is_row-exactly line row).0 r) from to q

-- a part as the code takes it
pub part_slice : (from to : ℕ) (l : List ℕ) → from ≤ to → take (to - from) (drop from l) ≡ slice from to l
part_slice zero to l h = let e : to - 0 ≡ to = omega arith in rw e
part_slice (suc from) zero l h = absurd (omega arith)
part_slice (suc from) (suc to) [] h = rw (take-nil (suc to - suc from))
part_slice (suc from) (suc to) (x ∷ l) h = let e : suc to - suc from ≡ to - from = omega arith in rw e (part_slice from to l (omega arith))

pub from_start : (whole : Bor (List ℕ)) → whole.ref_ptr ≡ (whole.ref_ptr.0, 0 + whole.ref_ptr.1)
from_start whole = ap (λ (k : ℕ). (whole.ref_ptr.0, k)) (sym (zero-add whole.ref_ptr.1))

module _ (line standing : Bor (List ℕ)) (found : Found) (field : Bor (List ℕ)) where
  pub lent-taken : (from to : ℕ) → found ≡ Taken from to → PartOf line from to field → Lent line standing found field
  unfolding Lent
  lent-taken from to e h = rw e h

  pub lent-standing : found ≡ Standing → PartOf standing 0 (length standing.now) field → Lent line standing found field
  unfolding Lent
  lent-standing e h = rw e h

  pub lent_nothing : found ≡ Nothing → PartOf standing 0 0 field → Lent line standing found field
  unfolding Lent
  lent_nothing e h = rw e h

-- the bytes of what is lent
pub lent-bytes : (line standing field : Bor (List ℕ)) (found : Found) → Lent line standing found field → field.now ≡ field_of line.now standing.now found
unfolding Lent field_of
lent-bytes line standing field (Taken from to) h = h.bytes
lent-bytes line standing field Standing h = h.bytes ∙ take-length standing.now
lent-bytes line standing field Nothing h = h.bytes
