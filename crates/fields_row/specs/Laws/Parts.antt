-- A row written part by part.
use Rattle.std.specs.Prelude.{◌≡◌, refl, ℕ, suc, ◌+◌, ◌*◌, ◌≤◌, ◌<◌, length, take, drop}
use Rattle.std.proofs.Common.{sym, ◌∙◌, inl, inr, add-one, arith, eq-eqb, ne_eqb, take-append-drop, drop-drop}
use Rattle.std.proofs.Math.Path.{ap}
use mathlib.Core.List.{List, [], ◌∷◌, ◌++◌, append_assoc}
use Rattle.std.proofs.Math.ListN.{drop_of_length-le}
use Rattle.semantics.proofs.Laws.Cases.{same_or}
use Rattle.text.specs.Writing.{Wrote}
use Rattle.text.specs.Laws.Writing.{wrote_both}
use Rattle.lookup.specs.Lookup.{lookup, field_of}
use Rattle.fields_text.specs.Escaping.{escaped}
use Rattle.fields_text.specs.Table.{tab, cells}
use Rattle.fields_text.specs.Promises.{WroteUpTo}
use Rattle.fields_text.proofs.Laws.Writing.{escaped-append}
use Rattle.fields_columns.specs.Columns.{name_at}
use Rattle.fields_columns.specs.Laws.Columns.{names-next}
use Rattle.fields_row.specs.declared.parts.Place.{Place}
use Rattle.fields_row.specs.Fields.{field_named, fields}
use Rattle.fields_row.specs.Parts.{before, left}
use Rattle.fields_row.specs.Promises.{chunk, part_room, fields_from, Spoken}

-- Tabs ------------------------------------------------------------------------

pub tab-before : (taken : ℕ) → taken ≡ 0 → before taken ≡ tab ∷ []
unfolding before
tab-before taken e = rw (eq-eqb taken 0 e)

pub none_before : (taken : ℕ) → (taken ≡ 0 → ⊥) → before taken ≡ []
unfolding before
none_before taken h = rw (ne_eqb taken 0 h)

-- What is left ------------------------------------------------------------------

-- nothing of a row is written yet
pub left-all : (fs : List (List ℕ)) → left fs 0 ≡ cells fs
unfolding left cells before
left-all [] = refl
left-all (f ∷ fs) = refl

module _ (f : List ℕ) (fs : List (List ℕ)) (taken : ℕ) where
  -- the rest of a field, and what is behind it
  left-whole : left (f ∷ fs) taken ≡ (before taken ++ escaped (drop taken f)) ++ left fs 0
  unfolding left
  left-whole = rw (left-all fs) (sym (append_assoc (before taken) (escaped (drop taken f)) (cells fs)))

  -- nothing is left of it
  left-none : length f ≤ taken → left (f ∷ fs) taken ≡ before taken ++ left fs 0
  unfolding left escaped
  left-none h = rw (left-all fs, drop_of_length-le f h)

  -- a part of it
  left-part : (n : ℕ) → 1 ≤ n → left (f ∷ fs) taken ≡ (before taken ++ escaped (take n (drop taken f))) ++ left (f ∷ fs) (taken + n)
  unfolding left
  left-part n some =
      let e : escaped (drop taken f) ≡ escaped (take n (drop taken f)) ++ escaped (drop (taken + n) f) = ap escaped (sym (take-append-drop n (drop taken f))) ∙ escaped-append (take n (drop taken f)) (drop n (drop taken f)) ∙ ap (λ (l : List ℕ). escaped (take n (drop taken f)) ++ escaped l) (drop-drop n taken f) in
      rw (e, none_before (taken + n) (λ z. omega arith)) (simp append_assoc)

-- A part written ------------------------------------------------------------------

pub wider : {most more : ℕ} {out : List ℕ} {at : ℕ} {text new : List ℕ} {e : ℕ} → most ≤ more → WroteUpTo most out at text new e → WroteUpTo more out at text new e
wider h w = record { wrote = w.wrote; near = omega (arith, w.near) }

-- the field of a column, and those of the columns behind it
fields-next : (columns : List ℕ) (count : ℕ) (index line standing : List ℕ) (kind : ℕ) (x : List ℕ) (i : ℕ) → i < count
    → fields_from columns count index line standing kind x i ≡ field_named index line standing kind x (name_at columns i) ∷ fields_from columns count index line standing kind x (suc i)
unfolding fields
fields-next columns count index line standing kind x i h = rw (names-next columns i count h)

-- the field that was looked up by the name of a column
pub field-here : (columns : List ℕ) (count : ℕ) (index line standing : List ℕ) (kind : ℕ) (x : List ℕ) (i : ℕ) → i < count → (f name : List ℕ) → f ≡ field_of line standing (lookup name index line kind x) → name ≡ name_at columns i
    → fields_from columns count index line standing kind x i ≡ f ∷ fields_from columns count index line standing kind x (suc i)
unfolding field_named
field-here columns count index line standing kind x i h f name is called = rw (is, called) (fields-next columns count index line standing kind x i h)

pub before-short : (taken : ℕ) → length (before taken) ≤ 1
before-short taken = elim (same_or taken 0) [
  | inl e ↦ rw (tab-before taken e) (omega arith)
  | inr h ↦ rw (none_before taken h) (omega arith)
]

module _ (F : ℕ → List (List ℕ)) (f : List ℕ) (p : Place) (here : F p.column ≡ f ∷ F (suc p.column)) {out o₁ : List ℕ} {e₁ : ℕ} (fits : p.put + part_room ≤ length out) (tabbed : Wrote out p.put (before p.taken) o₁ e₁) where
  tab-near : e₁ ≤ p.put + 1
  tab-near = omega (arith, tabbed.ends, before-short p.taken)

  pub spoken-none : length f ≤ p.taken → Spoken F out p o₁ (record { column = p.column + 1; taken = 0; put = e₁ })
  unfolding part_room chunk
  spoken-none h = record {
    text = before p.taken;
    wrote = tabbed;
    near = omega (arith, tab-near);
    goes_on = rw (add-one p.column, here) (left-none f (F (suc p.column)) p.taken h);
  }

  module _ (t : List ℕ) {new : List ℕ} {e : ℕ} (few : length t ≤ chunk) (escapes : WroteUpTo (4 * length t) o₁ e₁ (escaped t) new e) where
    part-wrote : Wrote out p.put (before p.taken ++ escaped t) new e
    unfolding part_room chunk
    part-wrote = wrote_both (omega (arith, tab-near)) tabbed escapes.wrote

    part-near : e ≤ p.put + part_room
    unfolding part_room
    part-near = omega (arith, tab-near, escapes.near)

    pub spoken-whole : t ≡ drop p.taken f → Spoken F out p new (record { column = p.column + 1; taken = 0; put = e })
    spoken-whole is = record {
      text = before p.taken ++ escaped t;
      wrote = part-wrote;
      near = part-near;
      goes_on = rw (add-one p.column, here, is) (left-whole f (F (suc p.column)) p.taken);
    }

    pub spoken-part : t ≡ take chunk (drop p.taken f) → 1 ≤ chunk → Spoken F out p new (record { column = p.column; taken = p.taken + chunk; put = e })
    spoken-part is some = record {
      text = before p.taken ++ escaped t;
      wrote = part-wrote;
      near = part-near;
      goes_on = rw (here, is) (left-part f (F (suc p.column)) p.taken chunk some);
    }
