-- The marks under a window of a line.
-- docs/REFERENCE.md, 19.2
use Rattle.std.specs.Prelude.{List, [], ◌∷◌, Bool, ◌&&◌, ℕ, zero, suc, ◌+◌, leb, ltb, eqb}
use Rattle.report.specs.Text.{pick, width}

-- what stands under a column: the mark if the span has the byte there, else a blank
unfoldable pub mark_under : (mark from to column : ℕ) → ℕ
mark_under mark from to column = pick (leb from column && ltb column to) mark 0x20

-- what stands under so many columns, from one on
unfoldable pub marks : (mark from to column : ℕ) → ℕ → List ℕ
marks mark from to column zero = []
marks mark from to column (suc n) = mark_under mark from to column ∷ marks mark from to (suc column) n

-- Whether a span has something to show in the window that begins at a column: a byte there; or, if it is empty, its place, which may be the
-- window's end.
unfoldable pub in_window : (from to column : ℕ) → Bool
in_window from to column =
    pick (eqb from to)
    (leb column from && leb from (column + width))
    (ltb column to && ltb from (column + width))
