-- The own text of an item of a rule, repeats and all.
-- docs/REFERENCE.md, 19.2
use Rattle.std.specs.Prelude.{List, [], Bool, ◌&&◌, ℕ, suc, ◌+◌, ◌-◌, take, drop, if◌then◌else◌}
use Rattle.syntax.specs.declared.Quantifier.{Quantifier}
use Rattle.syntax.specs.declared.Quantifier.TheVariants.{Absent, Stray, Unfit, Times}
use Rattle.syntax.specs.Read.{byte, is, Read, sound, refused}
use Rattle.syntax.specs.Tree.{Item}
use Rattle.syntax.specs.Quantifiers.{quantifier}
use Rattle.syntax.specs.Grammar.{behind_blanks, atom, breaks_line}

-- the position behind a repeat, and where none stands, the one behind the item
unfoldable pub behind_repeat : (next : ℕ) → Quantifier → ℕ
behind_repeat next Absent = next
behind_repeat next Stray = next
behind_repeat next Unfit = next
behind_repeat next (Times least most g keeps end) = end

-- behind an item that ends at a position. 02: blanks are skipped "also between an item and its repeat"
unfoldable pub with_repeat : (s : List ℕ) (flags next : ℕ) → ℕ
with_repeat s flags next = behind_repeat next (quantifier s (behind_blanks s flags next))

-- behind an item that was read; a rule that is sound has no other
unfoldable pub behind_item : (s : List ℕ) (flags at : ℕ) → Read Item → ℕ
behind_item s flags at (sound i next) = with_repeat s flags next
behind_item s flags at (refused place reason) = suc at

-- whether a `(?!` stands there, which is a failed item as a whole
unfoldable pub opens_not_ahead : List ℕ → ℕ → Bool
opens_not_ahead s at = is "(" (byte s at) && (is "?" (byte s (at + 1)) && is "!" (byte s (at + 2)))

-- Where the text of the item at a place ends. Which group a reference stands for does not matter here. A `(?!` is shown by its opening.
unfoldable pub item_end : (s : List ℕ) (flags at : ℕ) → ℕ
item_end s flags at =
    if breaks_line s at then with_repeat s flags (at + 2)
    else if opens_not_ahead s at then at + 3
    else behind_item s flags at (atom s flags [] 0 at)

unfoldable pub item_text : (s : List ℕ) (flags at : ℕ) → List ℕ
item_text s flags at = take (item_end s flags at - at) (drop at s)
