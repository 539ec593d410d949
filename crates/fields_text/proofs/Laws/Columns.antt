-- "A line can never forge a column": what is written for a field has no byte below 20, so that neither a tab nor a line end is among them. So a row has
-- one tab more than it has fields, and one line end.
-- docs/REFERENCE.md, 19.3
use Rattle.std.specs.Prelude.{◌≡◌, refl, List, [], ◌∷◌, ◌++◌, Bool, true, false, cond, ℕ, zero, suc, ◌+◌, ◌/◌, ◌%◌, ◌≤◌, ◌<◌, ltb, eqb, length, if◌then◌else◌}
use Rattle.std.proofs.Common.{ap, ◌∙◌, arith, ne_eqb}
use Rattle.syntax.specs.Read.{bytes}
use Rattle.text.specs.Lines.{newline}
use Rattle.text.specs.Numbers.{hex_digit, digit, decimal_within, decimal}
use Rattle.fields_text.specs.Escaping.{hexed, escape, escaped}
use Rattle.fields_text.specs.Table.{tab, cells, opening, table_row, head_line}
use Rattle.fields_text.proofs.Laws.Cases.{Case, as_tab, as_newline, as_return, as_backslash, as_itself, as_hex, case-of}

-- no byte is below 20
abbrev pub Visible : List ℕ → Type 0
Visible [] = Unit {0}
Visible (b ∷ s) = (32 ≤ b) × Visible s

visible-append : (a b : List ℕ) → Visible a → Visible b → Visible (a ++ b)
visible-append [] b h k = k
visible-append (x ∷ a) b h k = (h.0, visible-append a b h.1 k)

-- A field -------------------------------------------------------------------

hex-visible : (d : ℕ) → 32 ≤ hex_digit d
unfolding hex_digit
hex-visible d = go (ltb d 10)
  where
    go : (t : Bool) → 32 ≤ (if t then 48 + d else 55 + d)
    go true = omega arith
    go false = omega arith

escape-visible : (b : ℕ) → Visible (escape b)
unfolding hexed
escape-visible b = go (case-of b)
  where
    go : Case b → Visible (escape b)
    go (as_tab e is) = rw is (omega arith, (omega arith, tt))
    go (as_newline e is) = rw is (omega arith, (omega arith, tt))
    go (as_return e is) = rw is (omega arith, (omega arith, tt))
    go (as_backslash e is) = rw is (omega arith, (omega arith, tt))
    go (as_itself h n is) = rw is (h, tt)
    go (as_hex is) = rw is (omega arith, (omega arith, (hex-visible (b / 16), (hex-visible (b % 16), tt))))

pub escaped-visible : (s : List ℕ) → Visible (escaped s)
unfolding escaped
escaped-visible [] = tt
escaped-visible (b ∷ s) = visible-append (escape b) (escaped s) (escape-visible b) (escaped-visible s)

-- The number of a line ------------------------------------------------------

within-visible : (tenths n : ℕ) → Visible (decimal_within tenths n)
unfolding decimal_within
within-visible zero n = (omega arith, tt)
within-visible (suc tenths) n = go (visible-append (decimal_within tenths (n / 10)) (digit (n % 10) ∷ []) (within-visible tenths (n / 10)) (omega arith, tt)) (ltb n 10)
  where
    go : Visible (decimal_within tenths (n / 10) ++ (digit (n % 10) ∷ [])) → (t : Bool) → Visible (cond t (digit n ∷ []) (decimal_within tenths (n / 10) ++ (digit (n % 10) ∷ [])))
    go h true = (omega arith, tt)
    go h false = h

decimal-visible : (n : ℕ) → Visible (decimal n)
unfolding decimal
decimal-visible n = within-visible n n

-- How often a byte stands in a line of the table ------------------------------

unfoldable pub count : ℕ → List ℕ → ℕ
count b [] = 0
count b (x ∷ s) = if eqb x b then suc (count b s) else count b s

count-append : (b : ℕ) (s t : List ℕ) → count b (s ++ t) ≡ count b s + count b t
unfolding count
count-append b [] t = omega arith
count-append b (x ∷ s) t = go (count-append b s t) (eqb x b)
  where
    go : count b (s ++ t) ≡ count b s + count b t → (u : Bool) → (if u then suc (count b (s ++ t)) else count b (s ++ t)) ≡ (if u then suc (count b s) else count b s) + count b t
    go e true = omega arith
    go e false = omega arith

count-visible : (b : ℕ) → b < 32 → (s : List ℕ) → Visible s → count b s ≡ 0
unfolding count
count-visible b h [] v = refl
count-visible b h (x ∷ s) v = let k : 32 ≤ x = v.0 in rw (ne_eqb x b (λ e. omega arith)) (count-visible b h s v.1)

tabs-of-cells : (fields : List (List ℕ)) → count tab (cells fields) ≡ length fields
unfolding cells tab newline count
tabs-of-cells [] = refl
tabs-of-cells (f ∷ fields) = ap suc (count-append 9 (escaped f) (cells fields) ∙ rw (count-visible 9 (omega arith) (escaped f) (escaped-visible f)) (omega (arith, tabs-of-cells fields)))

ends-of-cells : (fields : List (List ℕ)) → count newline (cells fields) ≡ 1
unfolding cells tab newline count
ends-of-cells [] = refl
ends-of-cells (f ∷ fields) = count-append 10 (escaped f) (cells fields) ∙ rw (count-visible 10 (omega arith) (escaped f) (escaped-visible f)) (omega (arith, ends-of-cells fields))

module _ (first second : List ℕ) (f : Visible first) (s : Visible second) (fields : List (List ℕ)) where
  tabs-of-line : count tab (opening first second ++ cells fields) ≡ 1 + length fields
  unfolding opening tab count
  tabs-of-line =
      count-append 9 (first ++ (9 ∷ second)) (cells fields)
      ∙ rw (count-append 9 first (9 ∷ second), count-visible 9 (omega arith) first f, count-visible 9 (omega arith) second s) (omega (arith, tabs-of-cells fields))

  ends-of-line : count newline (opening first second ++ cells fields) ≡ 1
  unfolding opening tab newline count
  ends-of-line =
      count-append 10 (first ++ (9 ∷ second)) (cells fields)
      ∙ rw (count-append 10 first (9 ∷ second), count-visible 10 (omega arith) first f, count-visible 10 (omega arith) second s) (omega (arith, ends-of-cells fields))

-- A row, whatever its fields are: with a word that is plain text it has as many columns as the table, and is one line.
module _ (number : ℕ) (word : List ℕ) (plain : Visible word) (fields : List (List ℕ)) where
  pub columns-of-row : count tab (table_row number word fields) ≡ 1 + length fields
  unfolding table_row
  columns-of-row = tabs-of-line (decimal number) word (decimal-visible number) plain fields

  pub lines-of-row : count newline (table_row number word fields) ≡ 1
  unfolding table_row
  lines-of-row = ends-of-line (decimal number) word (decimal-visible number) plain fields

-- so is the head
pub columns-of-head : (names : List (List ℕ)) → count tab (head_line names) ≡ 1 + length names
unfolding head_line
columns-of-head names =
    tabs-of-line (bytes "line") (bytes "answer") (omega arith, (omega arith, (omega arith, (omega arith, tt)))) (omega arith, (omega arith, (omega arith, (omega arith, (omega arith, (omega arith, tt)))))) names
