-- `class_of` meets its contract: its eight words are those that the table has for the set, and these have the bytes of the set by the
-- rule of the table by set, which the checker computes for the table of the goal.
use mathlib.Core.Path.{◌≡◌, ◌∙◌}
use mathlib.Core.List.{List}
use Prim.Native.Nat.{ℕ, ◌+◌, ◌-◌, ◌*◌, ◌/◌, ◌%◌, ◌<◌}
use native.Mathlib.Omega.{arith}
use lib.ListN.{get_or, take, drop}
use lib.Seq.{get_or-drop, get_or-take}
use Rattle.charset.specs.Named.{ranges, in_range, in_ranges, in_named, marked}
use Rattle.charset.specs.Class.{has, bit}
use Rattle.charset.proofs.Rules.{as-entry, by_set-rule}
use Rattle.charset.proofs.class_of.Goals as goal

-- what the words from a position on have, of a longer list
part : (c table : List ℕ) (first n x : ℕ) → c ≡ take n (drop first table) → x / 32 < n → has c x ≡ bit (get_or table (first + x / 32) 0) (x % 32)
unfolding has
part c table first n x e h = rw (e, get_or-take n (drop first table) (x / 32) 0 h, get_or-drop first table (x / 32) 0)

pub returns : goal.returns
unfolding ranges in_range in_ranges in_named marked
returns c x h =
    let first = c.from.result * 8 in
    let near : x / 32 < first + 8 - first = omega arith in
    part _ _ first _ x c.copy_from_slice.ensures.after near ∙ rw (as-entry, c.from.ensures.0) (by_set-rule _ tt c.args.set x h)
