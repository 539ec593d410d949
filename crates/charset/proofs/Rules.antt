-- The rules of the two tables. Each is a test that the checker computes over the whole table, and one law that turns the test into the
-- rule at each entry.
use mathlib.Core.Path.{◌≡◌, refl, ap, ◌∙◌}
use mathlib.Core.Bool.{Bool, beq}
use mathlib.Core.List.{List}
use Prim.Native.Nat.{ℕ, ◌+◌, ◌*◌, ◌/◌, ◌%◌, ◌<◌}
use native.Mathlib.Omega.{arith}
use lib.Dec.{T}
use lib.ListN.{get_or}
use Rattle.charset.specs.declared.Named.{Named}
use Rattle.charset.specs.declared.Named.TheVariants.{Digit, Word, Space, Horizontal, Vertical, Alpha, Upper, Lower, Alnum, Xdigit, Blank, Cntrl, Ascii, Print, Graph, Punct}
use Rattle.charset.specs.Named.{in_named, marked, mark_of}
use Rattle.charset.specs.Class.{bit}
use Rattle.charset.specs.Laws.Tables.{all, all-at, same}

-- each set's mark stands at its place in the order
at_mark : (set : Named) → (mark_of set < 16) × (get_or marked (mark_of set) Digit ≡ set)
unfolding marked
at_mark Digit = (omega arith, refl)
at_mark Word = (omega arith, refl)
at_mark Space = (omega arith, refl)
at_mark Horizontal = (omega arith, refl)
at_mark Vertical = (omega arith, refl)
at_mark Alpha = (omega arith, refl)
at_mark Upper = (omega arith, refl)
at_mark Lower = (omega arith, refl)
at_mark Alnum = (omega arith, refl)
at_mark Xdigit = (omega arith, refl)
at_mark Blank = (omega arith, refl)
at_mark Cntrl = (omega arith, refl)
at_mark Ascii = (omega arith, refl)
at_mark Print = (omega arith, refl)
at_mark Graph = (omega arith, refl)
at_mark Punct = (omega arith, refl)

-- whether a table's bit for set i and byte b is the definition's
abbrev pub agrees : (ℕ → ℕ → Bool) → ℕ → ℕ → Bool
agrees table i b = beq (table i b) (in_named (get_or marked i Digit) b)

-- whether it is for each set and each byte
abbrev pub right : (ℕ → ℕ → Bool) → Bool
right table = all 16 (λ i. all 256 (agrees table i))

rule : (table : ℕ → ℕ → Bool) → T (right table) → (set : Named) (b : ℕ) → b < 256 → table (mark_of set) b ≡ in_named set b
rule table t set b h =
    let m = at_mark set in
    let row : T (all 256 (agrees table (mark_of set))) = all-at 16 (λ i. all 256 (agrees table i)) t (mark_of set) m.0 in
    same (table (mark_of set) b) (in_named (get_or marked (mark_of set) Digit) b) (all-at 256 (agrees table (mark_of set)) row b h)
    ∙ ap (λ (s : Named). in_named s b) m.1

-- an entry of a table, under a name that stays shut: a law's table is then read off the goal that it is to prove
unfoldable pub entry : List ℕ → ℕ → ℕ
entry table k = get_or table k 0

pub as-entry : (table : List ℕ) (k : ℕ) → get_or table k 0 ≡ entry table k
unfolding entry
as-entry table k = refl

-- the table by byte: bit i of entry b is that of set i
abbrev pub by_byte : List ℕ → ℕ → ℕ → Bool
by_byte marks i b = bit (get_or marks b 0) i

pub by_byte-rule : (marks : List ℕ) → T (right (by_byte marks)) → (set : Named) (b : ℕ) → b < 256
    → bit (entry marks b) (mark_of set) ≡ in_named set b
unfolding entry
by_byte-rule marks = rule (by_byte marks)

-- the table by set: bit b % 32 of word b / 32 of the eight of set i
abbrev pub by_set : List ℕ → ℕ → ℕ → Bool
by_set words i b = bit (get_or words (i * 8 + b / 32) 0) (b % 32)

pub by_set-rule : (words : List ℕ) → T (right (by_set words)) → (set : Named) (b : ℕ) → b < 256
    → bit (entry words (mark_of set * 8 + b / 32)) (b % 32) ≡ in_named set b
unfolding entry
by_set-rule words = rule (by_set words)
