-- The inputs that tell the readings of 01's and 02's open points apart (docs/DECISIONS.md), with the verdict that the reading of a rule gives.
-- docs/REFERENCE.md, 10.5
use Rattle.std.specs.Prelude.{◌≡◌, refl, List, [], ◌∷◌, map, ℕ}
use Prim.Native.String.{String}
use Rattle.syntax.specs.Refusals.{number_of}
use Rattle.syntax.specs.Read.{bytes, Read, sound, refused}
use Rattle.syntax.specs.Tree.{Rule}
use Rattle.syntax.specs.Reading.{reading}
use Rattle.syntax.specs.Computing.{computing_readings}

infix 70 ◌gives◌at◌
infix 70 ◌holds◌
pub data Verdict : Type 0 where
  ◌gives◌at◌ : String → ℕ → ℕ → Verdict  -- the rule is refused with a number at a place
  ◌holds◌ : String → ℕ → Verdict  -- the rule is sound and has so many groups

unfoldable pub verdict : String → Read (Rule × ℕ) → Verdict
verdict rule (sound r end) = rule holds r.1
verdict rule (refused place why) = rule gives (number_of why) at place

-- what the reading of the rule says under the flags
unfoldable pub read : ℕ → Verdict → Verdict
read flags (rule gives n at place) = verdict rule (reading (bytes rule) flags)
read flags (rule holds n) = verdict rule (reading (bytes rule) flags)

-- Without flags -------------------------------------------------------------------

unfoldable pub verdicts : List Verdict
verdicts =
    -- P16: what the rule's end cuts off
    "[\\" gives 10 at 1
    ∷ "(\\" gives 10 at 1
    ∷ "({" gives 18 at 1
    ∷ "[\\c" gives 12 at 1
    ∷ "[\\x{4" gives 12 at 1
    -- P7: 23 and 24 are met before 20
    ∷ "(((((((((((((((((((((((((" gives 24 at 24
    ∷ "()()()()()()()()()()()()()()()()()()()()()()()()()()()()()()()()()()()()()()()()()()()()()()()()()()()()()()()()()()()()()()()()(" gives 23 at 128
    ∷ "(((((((((((((((((((((((())))))))))))))))))))))))" holds 24
    ∷ "()()()()()()()()()()()()()()()()()()()()()()()()()()()()()()()()()()()()()()()()()()()()()()()()()()()()()()()()()()()()()()()()" holds 64
    ∷ "(?:(?:(?:(?:(?:(?:(?:(?:(?:(?:(?:(?:(?:(?:(?:(?:(?:(?:(?:(?:(?:(?:(?:(?:(?:" gives 24 at 72
    -- P8, A1, A2: `(?`
    ∷ "(?" gives 22 at 0
    ∷ "(" gives 20 at 0
    ∷ "a(?b" gives 22 at 1
    ∷ "(((((((((((((((((((((((((?a" gives 22 at 24
    ∷ "(?:)(?:)(?:)(?:)(?:)(?:)(?:)(?:)(?:)(?:)(?:)(?:)(?:)(?:)(?:)(?:)(?:)(?:)(?:)(?:)(?:)(?:)(?:)(?:)(?:)(?:)(?:)(?:)(?:)(?:)(?:)(?:)(?:)" holds 0
    ∷ "()()()()()()()()()()()()()()()()()()()()()()()()()()()()()()()()()()()()()()()()()()()()()()()()()()()()()()()()()()()()()()()()(?:(?:(?:(?:(?:(?:(?:(?:(?:(?:(?:(?:(?:(?:(?:(?:(?:(?:(?:(?:(?:(?:(?:(?:(" gives 23 at 200
    -- P9, P10, P12: 17, 18 and 19
    ∷ "{1,0}" gives 17 at 0
    ∷ "{256}" gives 17 at 0
    ∷ "\\b{256}" gives 17 at 2
    ∷ "(?:{256}" gives 17 at 3
    ∷ "a*{1,0}" gives 18 at 2
    ∷ "a*{256}" gives 18 at 2
    ∷ "a*{" gives 18 at 2
    ∷ "a*{2}" gives 19 at 2
    ∷ "a{1,0}" gives 18 at 1
    ∷ "a{255}" holds 0
    ∷ "a{256}" gives 18 at 1
    ∷ "a{256,}" gives 18 at 1
    ∷ "a{1,256}" gives 18 at 1
    ∷ "a{,3}" gives 18 at 1
    ∷ "a{1, 2}" gives 18 at 1
    ∷ "{" gives 18 at 0
    ∷ "a{" gives 18 at 1
    ∷ "\\N{2}" holds 0
    ∷ "\\N{U}" gives 18 at 2
    ∷ "\\b{" gives 18 at 2
    -- P11, P14, P15: ranges
    ∷ "[\\w-\\q]" gives 11 at 4
    ∷ "[a-[:no:]]" gives 16 at 3
    ∷ "[a-\\" gives 10 at 3
    ∷ "[z-a]" gives 15 at 1
    ∷ "[b-a" gives 15 at 1
    ∷ "[z-\\d" gives 15 at 1
    ∷ "[[:no:]" gives 16 at 1
    ∷ "[\\d-" gives 14 at 0
    ∷ "[a-" gives 14 at 0
    -- P18, P13: escapes that lack something
    ∷ "\\c\\" gives 12 at 0
    ∷ "\\c\\\\" gives 12 at 0
    ∷ "\\g" gives 12 at 0
    ∷ "\\o" gives 12 at 0
    ∷ "\\x" gives 12 at 0
    ∷ "\\c" gives 12 at 0
    ∷ "\\o1" gives 12 at 0
    ∷ "\\gx" gives 12 at 0
    ∷ "\\g{}" gives 12 at 0
    ∷ "\\g{a}" gives 13 at 0
    ∷ "\\g+1" gives 12 at 0
    ∷ "\\g{ 1}" gives 12 at 0
    ∷ "[\\g" gives 11 at 1
    ∷ "\\" gives 10 at 0
    ∷ "\\q" gives 11 at 0
    ∷ "\\_" gives 11 at 0
    ∷ "\\8" gives 13 at 0
    ∷ "[\\8]" gives 11 at 1
    ∷ "[\\N]" gives 11 at 1
    ∷ "\\x4" gives 12 at 0
    ∷ "\\x4g" gives 12 at 0
    ∷ "\\x{100}" gives 12 at 0
    ∷ "\\x{ff}" holds 0
    ∷ "\\x{}" gives 12 at 0
    ∷ "\\o{377}" holds 0
    ∷ "\\o{400}" gives 12 at 0
    ∷ "\\o{8}" gives 12 at 0
    ∷ "\\c1" gives 12 at 0
    ∷ "\\cA\\ca\\c?" holds 0
    -- A3: the innermost opening that is still open
    ∷ "(a(b)" gives 20 at 0
    ∷ "((" gives 20 at 1
    ∷ "([" gives 14 at 1
    -- A4: 13 comes last of all
    ∷ "\\1**" gives 19 at 3
    ∷ "\\1(" gives 20 at 2
    ∷ "\\2\\1" gives 13 at 0
    ∷ "()\\2\\3" gives 13 at 2
    ∷ "\\1" gives 13 at 0
    ∷ "\\1()" holds 1
    -- A5: the lazy mark takes one `?`
    ∷ "a??" holds 0
    ∷ "a???" gives 19 at 3
    ∷ "a*?+" gives 19 at 3
    ∷ "a{2}??" gives 19 at 5
    ∷ "a{2}?" holds 0
    ∷ "a**" gives 19 at 2
    -- A6: what can be repeated
    ∷ "(*" gives 17 at 1
    ∷ "(?*" gives 22 at 0
    ∷ "(?:*" gives 17 at 3
    ∷ "^**" gives 17 at 1
    ∷ "()*" holds 1
    ∷ "(^)*" holds 1
    ∷ "a|*" gives 17 at 2
    ∷ "$+" gives 17 at 1
    -- P1, P2, B1: numbers by their value
    ∷ "a{00}" holds 0
    ∷ "a{0255}" holds 0
    ∷ "a{0256}" gives 18 at 1
    ∷ "()\\g01" holds 1
    ∷ "()\\g{-01}" holds 1
    ∷ "\\g00" gives 13 at 0
    ∷ "()\\18446744073709551617" gives 13 at 2
    ∷ "()\\g{4294967297}" gives 13 at 2
    ∷ "a{4294967297}" gives 18 at 1
    ∷ "\\x{00000000000000000041}" holds 0
    -- P3: octal in a class
    ∷ "[\\400]" gives 12 at 1
    ∷ "[\\400" gives 12 at 1
    ∷ "[\\377]" holds 0
    ∷ "[\\18]" holds 0
    -- B2, B3, B4: references
    ∷ "\\g-1" gives 13 at 0
    ∷ "\\g-1()" gives 13 at 0
    ∷ "(a)|\\g-1" holds 1
    ∷ "(a\\g-1)" holds 1
    ∷ "()\\g-2" gives 13 at 2
    ∷ "\\g0" gives 13 at 0
    ∷ "\\g{0}" gives 13 at 0
    ∷ "\\g-0" gives 13 at 0
    ∷ "\\g{-0}" gives 13 at 0
    ∷ "()\\10" gives 13 at 2
    ∷ "\\08" holds 0
    ∷ "\\0123" holds 0
    -- P4, P5, P6: `-` in a class
    ∷ "[a--" gives 15 at 1
    ∷ "[+--a]" holds 0
    ∷ "[--+" gives 15 at 1
    ∷ "[--a]" holds 0
    ∷ "[a-a--a]" holds 0
    ∷ "[a-c--+]" gives 15 at 4
    -- P17, C1, C2: named sets
    ∷ "[[:word:]]" holds 0
    ∷ "[[:h:]]" gives 16 at 1
    ∷ "[[:v:]]" gives 16 at 1
    ∷ "[[::]]" gives 16 at 1
    ∷ "[[:^:]]" gives 16 at 1
    ∷ "[[:Alpha:]]" holds 0
    ∷ "[[:al1:]]" holds 0
    ∷ "[[.a.]]" holds 0
    ∷ "[[:alpha]" holds 0
    ∷ "[[:^alpha:]]" holds 0
    -- C3, C4: ends of ranges, and `\c]`
    ∷ "[\\d-]" holds 0
    ∷ "[-\\d]" holds 0
    ∷ "[a-c-\\d]" holds 0
    ∷ "[\\d-a]" gives 15 at 1
    ∷ "[a-\\d]" gives 15 at 1
    ∷ "[[:alpha:]-z]" gives 15 at 1
    ∷ "[a-[:digit:]]" gives 15 at 1
    ∷ "[\\b-\\n]" holds 0
    ∷ "[\\1-\\3]" holds 0
    ∷ "[\\c]" gives 14 at 0
    ∷ "[\\c]]" holds 0
    -- brackets and braces that stand for themselves, and those that do not
    ∷ ")" gives 21 at 0
    ∷ "a)" gives 21 at 1
    ∷ "]" holds 0
    ∷ "}" holds 0
    ∷ "[]" gives 14 at 0
    ∷ "[]]" holds 0
    ∷ "[^]" gives 14 at 0
    ∷ "[^]]" holds 0
    ∷ "[" gives 14 at 0
    -- 02 E1: of 22 to 26 on one bracket the lowest
    ∷ "()()()()()()()()()()()()()()()()()()()()()()()()()()()()()()()()()()()()()()()()()()()()()()()()()()()()()()()()()()()()()()()()(?<1>)" gives 23 at 128
    ∷ "(?<a>)()()()()()()()()()()()()()()()()()()()()()()()()()()()()()()()()()()()()()()()()()()()()()()()()()()()()()()()()()()()()()()()(?<a>)" gives 23 at 132
    ∷ "(((((((((((((((((((((((((?<1>)" gives 24 at 24
    -- 02 j: 13 by the new count, forwards and backwards
    ∷ "()()()()()()()()()()()()()()()()()()()()()()()()()()()()()()()()()()()()()()()()()()()()()()()()()()()()()()()()()()()()()()()()\\64" holds 64
    ∷ "()()()()()()()()()()()()()()()()()()()()()()()()()()()()()()()()()()()()()()()()()()()()()()()()()()()()()()()()()()()()()()()()\\65" gives 13 at 128
    ∷ "\\64()()()()()()()()()()()()()()()()()()()()()()()()()()()()()()()()()()()()()()()()()()()()()()()()()()()()()()()()()()()()()()()()" holds 64
    ∷ "()()()()()()()()()()()()()()()()()()()()()()()()()()()()()()()()()()()()()()()()()()()()()()()()()()()()()()()()()()()()()()()\\64" gives 13 at 126
    ∷ "()()()()()()()()()()()()()()()()()()()()()()()()()()()()()()()()()()()()()()()()()()()()()()()()()()()()()()()()()()()()()()()()\\g-64" holds 64
    ∷ "()()()()()()()()()()()()()()()()()()()()()()()()()()()()()()()()()()()()()()()()()()()()()()()()()()()()()()()()()()()()()()()()\\g-65" gives 13 at 128
    -- 02 E2, E3: names that are not closed
    ∷ "(?<" gives 25 at 0
    ∷ "(?<a" gives 25 at 0
    ∷ "(?<a>" gives 20 at 0
    ∷ "(?<a>)(?<a" gives 25 at 6
    ∷ "(?<a>)(?<a>" gives 26 at 6
    -- 02 E4: 13 last, for names and numbers together
    ∷ "\\k<b>(?<a>)(?<a>)" gives 26 at 11
    ∷ "\\2\\k<z>" gives 13 at 0
    -- 02 E5: places
    ∷ "a(?<1>)" gives 25 at 1
    ∷ "a\\k<1>" gives 25 at 1
    -- 02 E6: behind `\k`
    ∷ "\\k" gives 25 at 0
    ∷ "\\ka" gives 25 at 0
    ∷ "\\k<1>" gives 25 at 0
    ∷ "\\k{}" gives 25 at 0
    ∷ "\\k<a}" gives 25 at 0
    ∷ "\\k\\" gives 25 at 0
    ∷ "[\\k]" gives 11 at 1
    -- 02 E7: behind `\g`
    ∷ "\\g{a" gives 25 at 0
    ∷ "\\g{a b}" gives 25 at 0
    ∷ "\\g{1a}" gives 12 at 0
    ∷ "\\g{-a}" gives 12 at 0
    ∷ "\\ga" gives 12 at 0
    ∷ "\\g<a>" gives 12 at 0
    -- 02 E8, E9: blanks, and 16 and 17 bytes
    ∷ "\\k{ a}" gives 25 at 0
    ∷ "(?<abcdefghijklmnop>)" holds 1
    ∷ "(?<abcdefghijklmnopq>)" gives 25 at 0
    ∷ "\\k<abcdefghijklmnopq>" gives 25 at 0
    -- 02 E11: in two branches, before the group, and other openings
    ∷ "(?<a>)|(?<a>)" gives 26 at 7
    ∷ "\\k<a>(?<a>b)" holds 1
    ∷ "(?<_a1>)\\k{_a1}\\k'_a1'\\g{_a1}\\k<_a1>" holds 1
    ∷ "(?<=a)" gives 25 at 0
    ∷ "(?<!a)" gives 25 at 0
    ∷ "(?'a'b)" gives 22 at 0
    ∷ "(?P<a>b)" gives 22 at 0
    -- 02 L6: possessive repeats
    ∷ "a*+" holds 0
    ∷ "a?+" holds 0
    ∷ "a{2}+" holds 0
    ∷ "a*+?" gives 19 at 3
    ∷ "a*++" gives 19 at 3
    ∷ "a*+{256}" gives 18 at 3
    ∷ "a{,2}+" gives 18 at 1
    ∷ "^*+" gives 17 at 1
    -- 02 L7: looking ahead may be repeated
    ∷ "(?=a)*" holds 0
    ∷ "(?!a){2}" holds 0
    ∷ "(?=*a)" gives 17 at 3
    -- 02 L8: 24 counts the three openings, but neither `\R` nor a possessive repeat
    ∷ "(?>(?>(?>(?>(?>(?>(?>(?>(?>(?>(?>(?>(?>(?>(?>(?>(?>(?>(?>(?>(?>(?>(?>(?>(?>" gives 24 at 72
    ∷ "(?>(?=(?!((((((((((((((((((((((" gives 24 at 30
    ∷ "((((((((((((((((((((((((\\R++))))))))))))))))))))))))" holds 24
    ∷ "(?=" gives 20 at 0
    ∷ "(?!a" gives 20 at 0
    ∷ "(?=(a))\\1" holds 1
    -- `\R`: no escape of a class, and what can be repeated
    ∷ "[\\R]" gives 11 at 1
    ∷ "[a-\\R]" gives 11 at 3
    ∷ "\\R*" holds 0
    ∷ "\\R{2}+" holds 0
    ∷ []

pub verdicts-hold : map (read 0) verdicts ≡ verdicts
unfolding computing_readings verdict read verdicts
verdicts-hold = refl

-- Under `i` -----------------------------------------------------------------------

unfoldable pub folded_verdicts : List Verdict
folded_verdicts =
    -- 02 C3: a range's ends are compared as they are written
    "[a-Z]" gives 15 at 1
    ∷ "[Z-a]" holds 0
    ∷ "[\\x41-\\x5a]" holds 0
    -- 02 E10: names are compared byte by byte
    ∷ "(?<a>)\\k<A>" gives 13 at 6
    ∷ []

pub folded_verdicts-hold : map (read 4) folded_verdicts ≡ folded_verdicts
unfolding computing_readings verdict read folded_verdicts
folded_verdicts-hold = refl

-- Under `x` -----------------------------------------------------------------------

unfoldable pub extended_verdicts : List Verdict
extended_verdicts =
    -- 02 C10: a comment ends at 0A or at the rule's end, and what it holds is not looked at
    "#\ra" holds 0
    ∷ "#\r(" holds 0
    ∷ "#\n(" gives 20 at 2
    ∷ "a#(" holds 0
    ∷ "#\\" holds 0
    -- 02 C11: 09 to 0D and 20 are skipped; 85, A0 and 00 can be repeated
    ∷ "\t\n\u{b}\u{c}\r *" gives 17 at 6
    ∷ "\u{85}*" holds 0
    ∷ "\u{a0}*" holds 0
    ∷ "\0*" holds 0
    -- 02 C12: a group's opening
    ∷ "( ?:a)" gives 17 at 2
    ∷ "(? :a)" gives 22 at 0
    ∷ "(?: a)" holds 0
    ∷ "( ?<n>a)" gives 17 at 2
    ∷ "( ?=a)" gives 17 at 2
    -- 02 C13: escapes
    ∷ "()\\1 0" holds 1
    ∷ "()\\10" gives 13 at 2
    ∷ "\\ *" holds 0
    ∷ "\\#*" holds 0
    ∷ "\\c " gives 12 at 0
    ∷ "\\x4 1" gives 12 at 0
    ∷ "\\g {1}" gives 12 at 0
    ∷ "\\k {a}" gives 25 at 0
    -- 02 C14: repeats
    ∷ "a* ?" gives 19 at 3
    ∷ "a{2} ?" gives 19 at 5
    ∷ "a{2 }" gives 18 at 1
    ∷ "a {2}" holds 0
    ∷ "a #c\n*" holds 0
    ∷ "^ *" gives 17 at 2
    ∷ "( *)" gives 17 at 2
    ∷ "\\N {" gives 18 at 3
    -- 02 L6: a `+` behind a blank is no possessive one
    ∷ "a* +" gives 19 at 3
    ∷ "(?> a)" holds 0
    ∷ "(? >a)" gives 22 at 0
    -- 02 C15: classes
    ∷ "[ ]" holds 0
    ∷ "[#]" holds 0
    ∷ "[a #]" holds 0
    -- 02 C16: places count what is skipped, and a branch of blanks is empty
    ∷ "a| " holds 0
    ∷ "#)\n )" gives 21 at 4
    ∷ []

pub extended_verdicts-hold : map (read 8) extended_verdicts ≡ extended_verdicts
unfolding computing_readings verdict read extended_verdicts
extended_verdicts-hold = refl

-- Under the depot profile -----------------------------------------------------------

unfoldable pub depot_verdicts : List Verdict
depot_verdicts =
    -- 02 K1: a range's ends are compared by their values
    "[\\x41-\\x5a]" holds 0
    ∷ "[0-9A-Za-z]" holds 0
    ∷ "[!-~]" gives 29 at 1
    ∷ "[A-z]" gives 29 at 1
    ∷ "[0-9a-\\x7b]" gives 29 at 4
    ∷ "[\\x30-9\\x61-\\x7a]" holds 0
    ∷ "[a-]" holds 0
    -- 02 K2: 29 is met left to right, behind 15
    ∷ "[~-!]" gives 15 at 1
    ∷ "[\\d-z]" gives 15 at 1
    ∷ "[!-~" gives 29 at 1
    ∷ "[A-z](" gives 29 at 1
    ∷ "[A-z-a]\\q" gives 29 at 1
    ∷ "\\q[A-z]" gives 11 at 0
    ∷ "\\1[A-z]" gives 29 at 3
    -- 02 K4: 13, then 27, then 28
    ∷ "()*(b)\\2" gives 27 at 6
    ∷ "()*\\2" gives 13 at 3
    ∷ "(a)\\1\\2" gives 13 at 5
    ∷ "()*" gives 28 at 2
    -- 02 K5: the place of the repeat, and the lowest of several
    ∷ "(?:()*)*" gives 28 at 5
    ∷ "(|a)+" gives 28 at 4
    ∷ "(a?){2,}" gives 28 at 4
    ∷ "a*(b?)*?" gives 28 at 6
    -- 02 K6: least lengths
    ∷ "(?:a{0})*" gives 28 at 8
    ∷ "[^\\d\\D]*" holds 0
    ∷ "(?:()*){0}" gives 28 at 5
    ∷ "(?:ab?|c{2}d*)*" holds 0
    ∷ "(?:ab?|c{0}d*)*" gives 28 at 14
    ∷ "(^a$)*" holds 1
    ∷ "(^$)*" gives 28 at 4
    ∷ "(a?){0,255}" holds 1
    ∷ "(?:(?:(?:a{255}){255}){255}){255}" holds 0
    -- 02 K7: every reference, by number or by name
    ∷ "(a)(?:\\1){0}" gives 27 at 6
    ∷ "(?<n>a)\\k<n>" gives 27 at 7
    ∷ "(?<n>a)" holds 1
    -- 02 L31: least lengths of held parts, looking ahead and `\R`; a possessive repeat has its repeat's place
    ∷ "(?=a)*" gives 28 at 5
    ∷ "(?!a)b" holds 0
    ∷ "(?>a?)*" gives 28 at 6
    ∷ "(?>a)*" holds 0
    ∷ "(a?)*+" gives 28 at 4
    ∷ "a*+" holds 0
    ∷ "\\R*" holds 0
    ∷ "(?=()*)" gives 28 at 5
    ∷ []

pub depot_verdicts-hold : map (read 16) depot_verdicts ≡ depot_verdicts
unfolding computing_readings verdict read depot_verdicts
depot_verdicts-hold = refl
