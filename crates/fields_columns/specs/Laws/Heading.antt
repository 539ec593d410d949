-- The head of the table, written one name after another.
use Rattle.std.specs.Prelude.{◌≡◌, refl, ℕ, ◌+◌, ◌-◌, ◌*◌, ◌≤◌, ◌<◌}
use Rattle.std.proofs.Math.Path.{ap}
use Rattle.std.proofs.Common.{◌∙◌}
use mathlib.Core.List.{List, [], ◌∷◌, ◌++◌, append_assoc}
use Rattle.std.proofs.Math.Numerals.{add-one}
use native.Mathlib.Omega.{arith}
use Rattle.std.proofs.Math.ListN.{length}
use Rattle.syntax.specs.Limits.{group_limit, name_limit}
use Rattle.syntax.specs.Read.{bytes}
use Rattle.text.specs.Lines.{newline}
use Rattle.text.specs.Writing.{Wrote}
use Rattle.text.specs.Laws.Writing.{wrote_both, wrote_nothing}
use Rattle.fields_text.specs.Escaping.{escaped}
use Rattle.fields_text.specs.Table.{tab, cells, opening, head_line}
use Rattle.fields_text.specs.Promises.{WroteUpTo}
use Rattle.fields_columns.specs.Columns.{name_at, names_from}
use Rattle.fields_columns.specs.Promises.{column_room, head_room, Named}
use Rattle.fields_columns.specs.Laws.Columns.{names-next, names-none, name-short}

cells-empty : cells [] ≡ newline ∷ []
unfolding cells
cells-empty = refl

module _ (columns : List ℕ) (count : ℕ) (out : List ℕ) (at : ℕ) where
  pub named-first : Named columns count 0 out at out at
  unfolding column_room
  named-first = record { text = []; wrote = wrote_nothing out at; near = omega arith; goes_on = let e : count - 0 ≡ count = omega arith in rw e }

  pub named-next : {mid o₁ new : List ℕ} {e e₁ e₂ : ℕ} (i : ℕ) (name : List ℕ) → i < count → name ≡ name_at columns i → e + column_room ≤ length out → length mid ≡ length out → length o₁ ≡ length out
      → Named columns count i out at mid e → Wrote mid e (tab ∷ []) o₁ e₁ → WroteUpTo (4 * length name) o₁ e₁ (escaped name) new e₂ → Named columns count (i + 1) out at new e₂
  unfolding cells column_room
  named-next i name h is fits a b n t w =
      let short : length name ≤ name_limit = rw is (name-short columns i) in
      record {
        text = (n.text ++ (tab ∷ [])) ++ escaped name;
        wrote = wrote_both (omega (arith, t.ends)) (wrote_both (omega arith) n.wrote t) w.wrote;
        near = omega (arith, n.near, t.ends, w.near);
        goes_on = n.goes_on ∙ rw (names-next columns i count h, add-one i, is) (simp append_assoc);
      }

  pub headed : {o₁ o₂ new : List ℕ} {e₁ e₂ e : ℕ} → count ≤ group_limit → at + head_room ≤ length out
      → Wrote out at (bytes "line\tanswer") o₁ e₁ → Named columns count count o₁ e₁ o₂ e₂ → Wrote o₂ e₂ (newline ∷ []) new e → WroteUpTo head_room out at (head_line (names_from columns 0 count)) new e
  unfolding head_line opening tab head_room
  headed few fits u n w =
      let none : cells (names_from columns count (count - count)) ≡ newline ∷ [] = cells-none in
      let text : cells (names_from columns 0 count) ≡ n.text ++ (newline ∷ []) = n.goes_on ∙ ap (λ (l : List ℕ). n.text ++ l) none in
      record {
        wrote = rw text (rw append_assoc at (wrote_both (omega (arith, u.ends, n.near)) (wrote_both (omega (arith, u.ends)) u n.wrote) w));
        near = omega (arith, u.ends, n.near, w.ends);
      }
    where
      cells-none : cells (names_from columns count (count - count)) ≡ newline ∷ []
      cells-none = ap cells (names-none columns count count (omega arith)) ∙ cells-empty
