-- 01's traps and the inputs that tell the readings of open points of 01 and 02 apart (docs/DECISIONS.md), of the calls themselves, as in Starred.
-- docs/REFERENCE.md, 12 to 16
use Rattle.std.specs.Prelude.{◌≡◌, refl, List, [], ◌∷◌, ◌++◌, map, ◌-◌, ◌*◌, replicate}
use Rattle.syntax.specs.declared.Reason.TheVariants.{UnknownFlag, BudgetTooLarge, ResultAreaShort, UnclosedGroup, HeldOrLook, TooManyBranches}
use Rattle.syntax.specs.Limits.{unset, spans_length, part_length}
use Rattle.semantics.specs.Calls.{match_matched, match_not_matched, match_exhausted, match_refused, list_complete, list_full, list_exhausted, explain_fits, explain_unfit, explain_exhausted, explain_refused}
use Rattle.semantics.specs.Checks.{check_reading, check_no_reading, check_exhausted, check_refused}
use Rattle.semantics.specs.Batches.{batch_done, batch_refused}
use Rattle.semantics.specs.Checked.{row_of, Checked, matching, listing, scanning, explaining, checking, batching, missed, no_row, calls, expected, computing_checks}

unfoldable pub traps : List Checked
traps =
    -- trap 1: the first branch wins, not the longest
    matching "a|ab" 0 "ab" 99 (match_matched 3) (row_of 0 1 [] ∷ [])
    -- trap 2: captures of a branch that was given up are gone
    ∷ matching "(a)b|a" 0 "a" 99 (match_matched 8) (row_of 0 1 [] ∷ [])
    ∷ matching "(?:()a|()b){2}" 0 "bb" 99 (match_matched 20) (row_of 0 2 (unset ∷ unset ∷ 1 ∷ 1 ∷ []) ∷ [])
    ∷ matching "\\1*?(a)$" 0 "aa" 99 (match_matched 12) (row_of 1 2 (1 ∷ 2 ∷ []) ∷ [])
    -- trap 3: the empty round counts
    ∷ matching "(a?)*" 0 "" 99 (match_matched 7) (row_of 0 0 (0 ∷ 0 ∷ []) ∷ [])
    ∷ matching "(|a){2,3}$" 0 "a" 99 (match_matched 20) (row_of 0 1 (1 ∷ 1 ∷ []) ∷ [])
    ∷ matching "(){3}" 0 "" 99 (match_matched 11) (row_of 0 0 (0 ∷ 0 ∷ []) ∷ [])
    -- trap 4: `$` before a final newline; `^` under `m` not after it
    ∷ matching "a$" 0 "a\n" 99 (match_matched 3) (row_of 0 1 [] ∷ [])
    ∷ matching "a\\z" 0 "a\n" 99 (match_not_matched 4) []
    ∷ matching "a$" 0 "a\nb" 99 (match_not_matched 5) []
    ∷ matching "a$" 2 "a\nb" 99 (match_matched 3) (row_of 0 1 [] ∷ [])
    ∷ listing "^" 2 "a\nb\n" 99 9 (list_complete 2 7) (row_of 0 0 [] ∷ row_of 2 2 [] ∷ [])
    ∷ listing "$" 0 "a\n" 99 9 (list_complete 2 5) (row_of 1 1 [] ∷ row_of 2 2 [] ∷ [])
    ∷ listing "\\b" 0 "ab c" 99 9 (list_complete 4 9) (row_of 0 0 [] ∷ row_of 2 2 [] ∷ row_of 3 3 [] ∷ row_of 4 4 [] ∷ [])
    ∷ listing "\\B" 0 "ab" 99 9 (list_complete 1 4) (row_of 1 1 [] ∷ [])
    -- trap 5: equal spans whose captures differ are two readings
    ∷ listing "(a)|a" 0 "a" 99 9 (list_complete 2 13) (row_of 0 1 (0 ∷ 1 ∷ []) ∷ row_of 0 1 [] ∷ [])
    -- D1: a round keeps a span that it doesn't set again
    ∷ matching "((a)*)*" 0 "a" 99 (match_matched 18) (row_of 0 1 (1 ∷ 1 ∷ 0 ∷ 1 ∷ []) ∷ [])
    -- a reference inside its own group sees the former span
    ∷ matching "(a|b\\1)+" 0 "aba" 99 (match_matched 21) (row_of 0 3 (1 ∷ 3 ∷ []) ∷ [])
    -- S1: the decision at the maximum costs its step
    ∷ matching "a?" 0 "a" 99 (match_matched 4) (row_of 0 1 [] ∷ [])
    ∷ matching "a{1}" 0 "a" 99 (match_matched 4) (row_of 0 1 [] ∷ [])
    ∷ matching "a{0}" 0 "" 99 (match_matched 2) (row_of 0 0 [] ∷ [])
    -- S2, S3: a walk is exhausted only if it needs a further step, and that ends the call
    ∷ matching "a" 0 "b" 1 (match_not_matched 2) []
    ∷ matching "" 0 "" 0 (match_exhausted 0 0) []
    ∷ matching "a*" 0 "aa" 7 (match_matched 7) (row_of 0 2 [] ∷ [])
    -- S4: the end needs its step before it can find no room
    ∷ listing "(a)|a" 0 "a" 8 1 (list_full 1 8) (row_of 0 1 (0 ∷ 1 ∷ []) ∷ [])
    ∷ listing "(a)|a" 0 "a" 7 1 (list_exhausted 0 1 7) (row_of 0 1 (0 ∷ 1 ∷ []) ∷ [])
    -- S5: the same reading again needs no room
    ∷ listing "a|a" 0 "a" 99 1 (list_complete 1 10) (row_of 0 1 [] ∷ [])
    ∷ listing "a|a|(a)" 0 "a" 99 1 (list_full 1 11) (row_of 0 1 [] ∷ [])
    -- S6: room for one row, and for two
    ∷ listing "" 0 "a" 99 1 (list_full 1 2) (row_of 0 0 [] ∷ [])
    ∷ listing "" 0 "a" 99 2 (list_complete 2 2) (row_of 0 0 [] ∷ row_of 1 1 [] ∷ [])
    -- S7: a reference to an unset group costs one step
    ∷ matching "\\1(a)" 0 "a" 99 (match_not_matched 2) []
    -- S8: an empty branch of two costs its step, a single branch none
    ∷ matching "(?:|a)" 0 "" 99 (match_matched 2) (row_of 0 0 [] ∷ [])
    ∷ matching "(?:)" 0 "" 99 (match_matched 1) (row_of 0 0 [] ∷ [])
    -- lazy repeats go on first
    ∷ listing "a*?" 0 "aa" 99 9 (list_complete 6 18) (row_of 0 0 [] ∷ row_of 0 1 [] ∷ row_of 0 2 [] ∷ row_of 1 1 [] ∷ row_of 1 2 [] ∷ row_of 2 2 [] ∷ [])
    -- refusals 3 and 4
    ∷ matching "(" 32 "" 99 (match_refused 0 UnknownFlag) []
    ∷ matching "(" 0 "" 100001 (match_refused 0 BudgetTooLarge) []
    -- 02 A1: `\h` has A0 and `\v` has 85, in classes too; `\H` and `\V` do not
    ∷ matching "\\h" 0 "\u{a0}" 99 (match_matched 2) (row_of 0 1 [] ∷ [])
    ∷ matching "[\\h]" 0 "\u{a0}" 99 (match_matched 2) (row_of 0 1 [] ∷ [])
    ∷ matching "[^\\H]" 0 "\u{a0}" 99 (match_matched 2) (row_of 0 1 [] ∷ [])
    ∷ matching "\\H" 0 "\u{a0}" 99 (match_not_matched 2) []
    ∷ matching "\\v" 0 "\u{85}" 99 (match_matched 2) (row_of 0 1 [] ∷ [])
    ∷ matching "[^\\V]" 0 "\u{85}" 99 (match_matched 2) (row_of 0 1 [] ∷ [])
    ∷ matching "[\\V]" 0 "\u{85}" 99 (match_not_matched 2) []
    -- 02 A2: no other set has them, and neither ends a line
    ∷ matching "[[:blank:]]" 0 "\u{a0}" 99 (match_not_matched 2) []
    ∷ matching "\\s" 0 "\u{a0}" 99 (match_not_matched 2) []
    ∷ matching "\\s" 0 "\u{85}" 99 (match_not_matched 2) []
    ∷ matching "[[:space:]\\w]" 0 "\u{85}" 99 (match_not_matched 2) []
    ∷ matching ".\\N" 0 "\u{85}\u{85}" 99 (match_matched 3) (row_of 0 2 [] ∷ [])
    ∷ matching "a$" 0 "a\u{85}" 99 (match_not_matched 4) []
    ∷ matching "^b" 2 "a\u{85}b" 99 (match_not_matched 5) []
    -- 02 B1: bytes are compared up to the first unequal one or the subject's end, whichever comes first; that reference costs 2 in both
    ∷ matching "(abc)\\1" 0 "abcxx" 99 (match_not_matched 17) []
    ∷ matching "(ab)\\1" 0 "aba" 99 (match_not_matched 13) []
    -- 02 B2: a walk is exhausted within a reference too, and where only the unequal byte's step is missing
    ∷ matching "(aa)\\1" 0 "aaaa" 8 (match_matched 8) (row_of 0 4 (0 ∷ 2 ∷ []) ∷ [])
    ∷ matching "(aa)\\1" 0 "aaaa" 7 (match_exhausted 0 7) []
    ∷ matching "(aa)\\1" 0 "aaaa" 6 (match_exhausted 0 6) []
    ∷ matching "(aa)\\1" 0 "aaaa" 5 (match_exhausted 0 5) []
    ∷ matching "(a)\\1" 0 "ab" 5 (match_not_matched 9) []
    ∷ matching "(a)\\1" 0 "ab" 4 (match_exhausted 0 4) []
    -- 02 B3: an empty span costs one step
    ∷ matching "()\\1" 0 "" 99 (match_matched 4) (row_of 0 0 (0 ∷ 0 ∷ []) ∷ [])
    -- 02 B4: under `i` a byte that is the other case of a letter is paid like an equal one
    ∷ matching "(a)\\1" 4 "aA" 99 (match_matched 6) (row_of 0 2 (0 ∷ 1 ∷ []) ∷ [])
    -- 02 C1: folded first, complemented after
    ∷ matching "[[:^upper:]]" 4 "a" 99 (match_not_matched 2) []
    ∷ matching "[^a]" 4 "A" 99 (match_not_matched 2) []
    ∷ matching "[^[:^upper:]]" 4 "a" 99 (match_matched 2) (row_of 0 1 [] ∷ [])
    -- 02 C2: a byte that an escape stands for is a literal
    ∷ matching "\\x41" 4 "a" 99 (match_matched 2) (row_of 0 1 [] ∷ [])
    ∷ matching "[\\101]" 4 "a" 99 (match_matched 2) (row_of 0 1 [] ∷ [])
    -- 02 C3: a range's set is folded, not its ends
    ∷ matching "[Z-a]" 4 "b" 99 (match_not_matched 2) []
    ∷ matching "[Z-a]" 4 "z" 99 (match_matched 2) (row_of 0 1 [] ∷ [])
    ∷ matching "[\\x41-\\x5a]" 4 "q" 99 (match_matched 2) (row_of 0 1 [] ∷ [])
    -- 02 C4, C5: no other byte is folded; upper and lower are
    ∷ matching "é" 4 "É" 99 (match_not_matched 2) []
    ∷ matching "[[:lower:]][[:upper:]]" 4 "Ab" 99 (match_matched 3) (row_of 0 2 [] ∷ [])
    -- 02 C10: a comment ends at 0A or with the rule, and what it holds is not looked at
    ∷ matching "#\ra" 8 "" 99 (match_matched 1) (row_of 0 0 [] ∷ [])
    ∷ matching "a#(" 8 "a" 99 (match_matched 2) (row_of 0 1 [] ∷ [])
    ∷ matching "#\\" 8 "" 99 (match_matched 1) (row_of 0 0 [] ∷ [])
    -- 02 C11: 0B is skipped; 85, A0 and 00 are literals
    ∷ matching "\u{b}a" 8 "a" 99 (match_matched 2) (row_of 0 1 [] ∷ [])
    ∷ matching "\u{85}\u{a0}\0" 8 "\u{85}\u{a0}\0" 99 (match_matched 4) (row_of 0 3 [] ∷ [])
    -- 02 C13: a blank ends the number of a reference, and is a literal behind a backslash
    ∷ matching "(a)\\1 0" 8 "aa0" 99 (match_matched 7) (row_of 0 3 (0 ∷ 1 ∷ []) ∷ [])
    ∷ matching "\\ \\#" 8 " #" 99 (match_matched 3) (row_of 0 2 [] ∷ [])
    -- 02 C14: between an item and its repeat
    ∷ matching "a {2}" 8 "aa" 99 (match_matched 6) (row_of 0 2 [] ∷ [])
    ∷ matching "a #c\n*" 8 "aa" 99 (match_matched 7) (row_of 0 2 [] ∷ [])
    -- 02 C15: a class holds its blanks
    ∷ matching "[ ][a #]" 8 " #" 99 (match_matched 3) (row_of 0 2 [] ∷ [])
    -- 02 C16: a branch of blanks is empty
    ∷ matching "a| " 8 "" 99 (match_matched 4) (row_of 0 0 [] ∷ [])
    -- 02 C17: all four flags
    ∷ matching "A . b" 15 "a\nB" 99 (match_matched 4) (row_of 0 3 [] ∷ [])
    -- 02 F0: the greatest place is the line's length, since the last start fails there; the closest attempt has the news
    ∷ explaining "^abc$" 0 "abd" 99 (explain_unfit 7 (missed 3 3 0) (missed 0 2 3)) (0 ∷ 0 ∷ 0 ∷ 1 ∷ 0 ∷ [])
    ∷ explaining "abc" 0 "abd" 99 (explain_unfit 6 (missed 3 3 0) (missed 0 2 2)) (0 ∷ 0 ∷ 1 ∷ [])
    -- 02 F1: a reference fails where it was begun
    ∷ explaining "(ab)\\1" 0 "aba" 99 (explain_unfit 13 (missed 2 3 2) (missed 0 2 4)) (0 ∷ 0 ∷ 0 ∷ 0 ∷ 1 ∷ 0 ∷ [])
    -- 02 F2: an item that held there does not count, and of two the earlier in the walk is told
    ∷ explaining "a$b" 0 "a" 99 (explain_unfit 4 (missed 0 1 2) (missed 0 1 2)) (0 ∷ 0 ∷ 1 ∷ [])
    ∷ explaining "(?:a|b)c" 0 "a" 99 (explain_unfit 9 (missed 0 1 7) (missed 0 1 7)) (0 ∷ 0 ∷ 0 ∷ 0 ∷ 0 ∷ 0 ∷ 0 ∷ 1 ∷ [])
    -- 02 F3: an item under a repeat has its own place
    ∷ explaining "b*a" 0 "bb" 99 (explain_unfit 18 (missed 0 2 0) (missed 0 2 0)) (1 ∷ 0 ∷ 1 ∷ [])
    -- 02 F4: steps as in a match; "matched", "exhausted" and a refusal leave the marks unchanged
    ∷ explaining "a" 0 "a" 99 (explain_fits 2) (7 ∷ [])
    ∷ explaining "a*" 0 "aa" 6 (explain_exhausted 0 6) (7 ∷ 7 ∷ [])
    ∷ explaining "(" 0 "" 99 (explain_refused 0 UnclosedGroup) (7 ∷ [])
    -- marks for fewer bytes than the rule has, for more, and for none
    ∷ explaining "abc" 0 "abd" 99 (explain_unfit 6 (missed 3 3 0) (missed 0 2 2)) (0 ∷ 0 ∷ [])
    ∷ explaining "abc" 0 "abd" 99 (explain_unfit 6 (missed 3 3 0) (missed 0 2 2)) (0 ∷ 0 ∷ 1 ∷ 7 ∷ 7 ∷ [])
    ∷ explaining "abc" 0 "abd" 99 (explain_unfit 6 (missed 3 3 0) (missed 0 2 2)) []
    -- the `\w` of one more round failed first, but the `:` behind it is marked too
    ∷ explaining "^tank (\\w+): (\\d+) L$" 0 "tank A1 820 L" 99 (explain_unfit 30 (missed 13 13 0) (missed 0 7 7)) (replicate 7 0 ++ 1 ∷ 0 ∷ 0 ∷ 0 ∷ 1 ∷ replicate 9 0)
    -- 02 G1: after an empty match at the line's end the last start is tried once more, barred
    ∷ scanning "" 0 "" 99 9 (list_complete 1 2) (row_of 0 0 [] ∷ [])
    -- 02 G2: only an empty match at that same place is barred, and the walk goes on behind a barred end
    ∷ scanning "a*" 0 "aab" 99 9 (list_complete 3 19) (row_of 0 2 [] ∷ row_of 2 2 [] ∷ row_of 3 3 [] ∷ [])
    ∷ scanning "a*?" 0 "aa" 99 9 (list_complete 5 19) (row_of 0 0 [] ∷ row_of 0 1 [] ∷ row_of 1 1 [] ∷ row_of 1 2 [] ∷ row_of 2 2 [] ∷ [])
    -- 02 G3: "full" needs a further match, whose end is counted
    ∷ scanning "a" 0 "a" 99 1 (list_complete 1 3) (row_of 0 1 [] ∷ [])
    ∷ scanning "a" 0 "aa" 99 1 (list_full 1 4) (row_of 0 1 [] ∷ [])
    -- 02 G4: an exhausted try names its start, barred or not, and the rows stay
    ∷ scanning "|a{3}" 0 "a" 3 9 (list_exhausted 0 1 5) (row_of 0 0 [] ∷ [])
    -- 02 G5: `^` and `\A` still mean 0, and no span is left over from the match before
    ∷ scanning "^a" 0 "aa" 99 9 (list_complete 1 5) (row_of 0 1 [] ∷ [])
    ∷ scanning "\\Aa" 0 "aa" 99 9 (list_complete 1 5) (row_of 0 1 [] ∷ [])
    ∷ scanning "(a)|b" 0 "ab" 99 9 (list_complete 2 16) (row_of 0 1 (0 ∷ 1 ∷ []) ∷ row_of 1 2 [] ∷ [])
    -- 02 h: each line is a subject of its own, and its row is written only if it is matched
    ∷ batching "^a$" 0 "b\na\n" 99 (batch_done 2) (no_row ++ 1 ∷ 0 ∷ 3 ∷ 0 ∷ row_of 0 1 [] ++ 0 ∷ 0 ∷ 4 ∷ 0 ∷ [])
    -- 02 H1: no lines need no part, and a refused rule refuses them too
    ∷ batching "a" 0 "" 99 (batch_done 0) []
    ∷ batching "(" 0 "" 99 (batch_refused 0 UnclosedGroup) []
    -- 02 H2: 0A alone is one line, and 0A twice before a last piece three; 0D stays in its line
    ∷ batching "" 0 "\n" 99 (batch_done 1) (row_of 0 0 [] ++ 0 ∷ 0 ∷ 1 ∷ 0 ∷ [])
    ∷ batching "a" 0 "\n\na" 99 (batch_done 3) (no_row ++ 1 ∷ 0 ∷ 1 ∷ 0 ∷ no_row ++ 1 ∷ 0 ∷ 1 ∷ 0 ∷ row_of 0 1 [] ++ 0 ∷ 0 ∷ 2 ∷ 0 ∷ [])
    ∷ batching "a$" 0 "a\r\n" 99 (batch_done 1) (no_row ++ 1 ∷ 0 ∷ 4 ∷ 0 ∷ [])
    -- 02 H4: 7 where lines outnumber parts, also before the rule is read; the rest of the area, and a part without a line, stay
    ∷ batching "(" 0 "a\na" 99 (batch_refused 0 ResultAreaShort) (replicate (2 * part_length - 1) 7)
    ∷ batching "a" 0 "a\na" 99 (batch_done 2) (row_of 0 1 [] ++ 0 ∷ 0 ∷ 2 ∷ 0 ∷ row_of 0 1 [] ++ 0 ∷ 0 ∷ 2 ∷ 0 ∷ 7 ∷ [])
    ∷ batching "a" 0 "a" 99 (batch_done 1) (row_of 0 1 [] ++ 0 ∷ 0 ∷ 2 ∷ 0 ∷ no_row ++ 7 ∷ 7 ∷ 7 ∷ 7 ∷ [])
    -- 02 H7: an exhausted line tells its start, and the others go on
    ∷ batching "a{3}" 0 "baaa\naaa\n" 5 (batch_done 2) (no_row ++ 2 ∷ 1 ∷ 7 ∷ 0 ∷ no_row ++ 2 ∷ 0 ∷ 5 ∷ 0 ∷ [])
    ∷ batching "a*" 0 "aa\nb" 6 (batch_done 2) (no_row ++ 2 ∷ 0 ∷ 6 ∷ 0 ∷ row_of 0 0 [] ++ 0 ∷ 0 ∷ 3 ∷ 0 ∷ [])
    -- 02 j: the last of all groups is told, and a reference to it holds
    ∷ matching "()()()()()()()()()()()()()()()()()()()()()()()()()()()()()()()()()()()()()()()()()()()()()()()()()()()()()()()()()()()()()()()(a)" 0 "a" 999 (match_matched 130) (row_of 0 1 (replicate (spans_length - 2) 0 ++ (0 ∷ 1 ∷ [])) ∷ [])
    ∷ matching "()()()()()()()()()()()()()()()()()()()()()()()()()()()()()()()()()()()()()()()()()()()()()()()()()()()()()()()()()()()()()()()(a)\\64" 0 "aa" 999 (match_matched 132) (row_of 0 2 (replicate (spans_length - 2) 0 ++ (0 ∷ 1 ∷ [])) ∷ [])
    -- 02 L1: an inner end costs its step where it is reached
    ∷ matching "(?=a)" 0 "a" 99 (match_matched 4) (row_of 0 0 [] ∷ [])
    ∷ matching "(?!b)" 0 "a" 99 (match_matched 3) (row_of 0 0 [] ∷ [])
    ∷ matching "(?!a)" 0 "a" 99 (match_matched 6) (row_of 1 1 [] ∷ [])
    -- 02 L2: `\R` with all its steps; it holds on to 0D 0A
    ∷ matching "\\R" 0 "\n" 99 (match_matched 7) (row_of 0 1 [] ∷ [])
    ∷ matching "\\R" 0 "\r\n" 99 (match_matched 6) (row_of 0 2 [] ∷ [])
    ∷ matching "\\R" 0 "\u{85}" 99 (match_matched 7) (row_of 0 1 [] ∷ [])
    ∷ matching "\\R" 0 "\ra" 99 (match_matched 8) (row_of 0 1 [] ∷ [])
    ∷ matching "^\\R*\\n" 0 "\r\n" 99 (match_not_matched 17) []
    -- 02 L3: a possessive repeat pays as `(?>..)` does, and gives nothing back
    ∷ matching "a*+" 0 "" 99 (match_matched 5) (row_of 0 0 [] ∷ [])
    ∷ matching "a{2}+" 0 "aa" 99 (match_matched 8) (row_of 0 2 [] ∷ [])
    ∷ matching "a*+a" 0 "aa" 99 (match_not_matched 21) []
    -- 02 L4: branches inside cost their steps, and those not taken are gone
    ∷ matching "(?>a|b)" 0 "b" 99 (match_matched 7) (row_of 0 1 [] ∷ [])
    ∷ matching "(?>a|ab)c" 0 "abc" 99 (match_not_matched 20) []
    -- 02 L5: captures of `(?=` stay, also behind the match; those of `(?!` do not
    ∷ matching "(?=(a))" 0 "a" 99 (match_matched 6) (row_of 0 0 (0 ∷ 1 ∷ []) ∷ [])
    ∷ matching "(?=(a))\\1" 0 "a" 99 (match_matched 8) (row_of 0 1 (0 ∷ 1 ∷ []) ∷ [])
    ∷ matching "a(?=(b))" 0 "ab" 99 (match_matched 7) (row_of 0 1 (1 ∷ 2 ∷ []) ∷ [])
    ∷ matching "(?!(a)b)a" 0 "a" 99 (match_matched 7) (row_of 0 1 [] ∷ [])
    -- 02 L7: looking ahead is repeated as a group is
    ∷ matching "(?=a)*" 0 "a" 99 (match_matched 6) (row_of 0 0 [] ∷ [])
    ∷ matching "(?=a){2}" 0 "a" 99 (match_matched 10) (row_of 0 0 [] ∷ [])
    -- 02 L9: exhausted inside a `(?!` is exhausted
    ∷ matching "(?!a*b)" 0 "aaa" 3 (match_exhausted 0 3) []
    -- 02 L11: a `(?!` that fails is told before the items inside it; 02 L12: those count whether it fails or holds, and `(?=` itself is no item
    ∷ explaining "(?!a|$)" 0 "" 99 (explain_unfit 6 (missed 0 0 0) (missed 0 0 0)) (1 ∷ 0 ∷ 0 ∷ 1 ∷ 0 ∷ 0 ∷ 0 ∷ [])
    ∷ explaining "(?=a)" 0 "" 99 (explain_unfit 2 (missed 0 0 3) (missed 0 0 3)) (0 ∷ 0 ∷ 0 ∷ 1 ∷ 0 ∷ [])
    ∷ explaining "(?!a)b" 0 "a" 99 (explain_unfit 6 (missed 1 1 3) (missed 0 0 0)) (1 ∷ 0 ∷ 0 ∷ 0 ∷ 0 ∷ 0 ∷ [])
    -- 02 L20: what is held has one end
    ∷ listing "(?>a|a)" 0 "a" 99 9 (list_complete 1 10) (row_of 0 1 [] ∷ [])
    -- 02 L21, and under a repeat: an inner end is no end of the rule
    ∷ matching "(?!)" 0 "" 99 (match_not_matched 2) []
    ∷ matching "(?!)+a" 0 "a" 99 (match_not_matched 6) []
    -- 02 G6: behind a barred end what is held is not opened again
    ∷ scanning "(?>|a)" 0 "a" 99 9 (list_complete 2 16) (row_of 0 0 [] ∷ row_of 1 1 [] ∷ [])
    -- 02 L30: the items of `\R` have its place in the rule, and count where they were tried
    ∷ explaining "\\Rb" 0 "\r" 99 (explain_unfit 13 (missed 0 1 0) (missed 0 1 0)) (1 ∷ 0 ∷ 1 ∷ [])
    -- 02 m: a proposed reading, here the second of the README's line
    ∷ checking "^(?:(\\d{1,3},\\d{3})|(\\d+,\\d+)) L$" 0 "1,500 L" 99 (0 ∷ 0 ∷ 1 ∷ 0 ∷ 1 ∷ 1 ∷ 0 ∷ []) (check_reading 19) (row_of 0 7 (unset ∷ unset ∷ 0 ∷ 5 ∷ []) ∷ [])
    ∷ checking "(a)\\1" 0 "aa" 6 (0 ∷ 0 ∷ []) (check_reading 6) (row_of 0 2 (0 ∷ 1 ∷ []) ∷ [])
    ∷ checking "a*" 0 "aa" 99 (0 ∷ 0 ∷ 0 ∷ []) (check_reading 2) (row_of 0 0 [] ∷ [])
    -- 02 M1: a choice is written only where two are allowed, greedy or lazy alike: none below the minimum, at the maximum or after an empty round
    ∷ checking "a{2}" 0 "aa" 99 (0 ∷ 0 ∷ []) (check_reading 6) (row_of 0 2 [] ∷ [])
    ∷ checking "a{2}" 0 "aa" 99 (0 ∷ 0 ∷ 1 ∷ 1 ∷ []) (check_no_reading 6) []
    ∷ checking "a?" 0 "a" 99 (0 ∷ 0 ∷ 1 ∷ []) (check_reading 4) (row_of 0 1 [] ∷ [])
    ∷ checking "a??" 0 "a" 99 (0 ∷ 0 ∷ 1 ∷ []) (check_reading 4) (row_of 0 1 [] ∷ [])
    ∷ checking "()*" 0 "" 99 (0 ∷ 0 ∷ 1 ∷ []) (check_reading 5) (row_of 0 0 (0 ∷ 0 ∷ []) ∷ [])
    ∷ checking "a?" 0 "a" 99 (0 ∷ 0 ∷ 2 ∷ []) (check_no_reading 1) []
    -- 02 M2: choices left over are seen after the rule's end, whose step comes first
    ∷ checking "" 0 "" 0 (0 ∷ 0 ∷ 0 ∷ []) (check_exhausted 0 0) []
    ∷ checking "" 0 "" 1 (0 ∷ 0 ∷ 0 ∷ []) (check_no_reading 1) []
    -- 02 M3: a choice is read before a branch's step, but after a decision's; an item that fails pays first
    ∷ checking "|" 0 "" 0 (0 ∷ 0 ∷ 2 ∷ []) (check_no_reading 0) []
    ∷ checking "|" 0 "" 0 (0 ∷ 0 ∷ []) (check_no_reading 0) []
    ∷ checking "|" 0 "" 0 (0 ∷ 0 ∷ 1 ∷ []) (check_exhausted 0 0) []
    ∷ checking "a*" 0 "" 0 (0 ∷ 0 ∷ []) (check_exhausted 0 0) []
    ∷ checking "a*" 0 "" 1 (0 ∷ 0 ∷ []) (check_no_reading 1) []
    ∷ checking "a" 0 "b" 0 (0 ∷ 0 ∷ []) (check_exhausted 0 0) []
    ∷ checking "a" 0 "b" 1 (0 ∷ 0 ∷ []) (check_no_reading 1) []
    ∷ checking "(a)\\1" 0 "ab" 4 (0 ∷ 0 ∷ []) (check_exhausted 0 4) []
    ∷ checking "(a)\\1" 0 "ab" 5 (0 ∷ 0 ∷ []) (check_no_reading 5) []
    -- 02 M4: without a start that the line has there is no step
    ∷ checking "" 0 "a" 0 [] (check_no_reading 0) []
    ∷ checking "" 0 "a" 0 (0 ∷ []) (check_no_reading 0) []
    ∷ checking "" 0 "a" 0 (2 ∷ 0 ∷ []) (check_no_reading 0) []
    ∷ checking "" 0 "a" 9 (0 ∷ 1 ∷ []) (check_no_reading 0) []
    ∷ checking "" 0 "a" 1 (1 ∷ 0 ∷ []) (check_reading 1) (row_of 1 1 [] ∷ [])
    -- 02 M6: the start is told if exhausted, and the steps always
    ∷ checking "a*" 0 "ba" 2 (1 ∷ 0 ∷ 1 ∷ 0 ∷ []) (check_exhausted 1 2) []
    ∷ checking "a*" 0 "ba" 4 (1 ∷ 0 ∷ 1 ∷ 0 ∷ []) (check_reading 4) (row_of 1 2 [] ∷ [])
    -- 02 M7: 35 for l)'s forms, at the first, a possessive's place being its `+`; after the rule's own, and before 36 whatever the places
    ∷ checking "(?=a*+)" 0 "" 99 [] (check_refused 0 HeldOrLook) []
    ∷ checking "a(?!b)" 0 "" 99 [] (check_refused 1 HeldOrLook) []
    ∷ checking "b|(?>a)" 0 "" 99 [] (check_refused 2 HeldOrLook) []
    ∷ checking "a*+" 0 "" 99 [] (check_refused 2 HeldOrLook) []
    ∷ checking "(?:(?=a))*+" 0 "" 99 [] (check_refused 3 HeldOrLook) []
    ∷ checking "a\\R" 0 "" 99 [] (check_refused 1 HeldOrLook) []
    ∷ checking "(?>a)(" 0 "" 99 [] (check_refused 5 UnclosedGroup) []
    ∷ checking "||||||||||||||||||||||||||||||||||||||||||||||||||||||||||||||||||||||||||||||||||||||||||||||||||||||||||||||||||||||||||||||||||||||||||||||||||||||||||||||||||||||||||||||||||||||||||||||||||||||||||||||||||||||||||||||||||||||||||||||||||||||||||||||||a*+" 0 "" 99 [] (check_refused 258 HeldOrLook) []
    -- 02 M7: 36 at the bar before a 257th branch, after the rule's own; 256 branches are sound, and the last of them has the greatest byte
    ∷ checking "|||||||||||||||||||||||||||||||||||||||||||||||||||||||||||||||||||||||||||||||||||||||||||||||||||||||||||||||||||||||||||||||||||||||||||||||||||||||||||||||||||||||||||||||||||||||||||||||||||||||||||||||||||||||||||||||||||||||||||||||||||||||||||||||" 0 "" 99 (0 ∷ 0 ∷ 255 ∷ []) (check_reading 2) (row_of 0 0 [] ∷ [])
    ∷ checking "||||||||||||||||||||||||||||||||||||||||||||||||||||||||||||||||||||||||||||||||||||||||||||||||||||||||||||||||||||||||||||||||||||||||||||||||||||||||||||||||||||||||||||||||||||||||||||||||||||||||||||||||||||||||||||||||||||||||||||||||||||||||||||||||" 0 "" 99 (0 ∷ 0 ∷ 255 ∷ []) (check_refused 255 TooManyBranches) []
    ∷ checking "(?:||||||||||||||||||||||||||||||||||||||||||||||||||||||||||||||||||||||||||||||||||||||||||||||||||||||||||||||||||||||||||||||||||||||||||||||||||||||||||||||||||||||||||||||||||||||||||||||||||||||||||||||||||||||||||||||||||||||||||||||||||||||||||||||||)" 0 "" 99 [] (check_refused 258 TooManyBranches) []
    ∷ checking "||||||||||||||||||||||||||||||||||||||||||||||||||||||||||||||||||||||||||||||||||||||||||||||||||||||||||||||||||||||||||||||||||||||||||||||||||||||||||||||||||||||||||||||||||||||||||||||||||||||||||||||||||||||||||||||||||||||||||||||||||||||||||||||||(" 0 "" 99 [] (check_refused 256 UnclosedGroup) []
    -- 02 n: the rows of an exhausted listing are the first at a larger budget
    ∷ listing "a?" 0 "a" 4 9 (list_exhausted 0 1 4) (row_of 0 1 [] ∷ [])
    ∷ listing "a?" 0 "a" 5 9 (list_complete 3 8) (row_of 0 1 [] ∷ row_of 0 0 [] ∷ row_of 1 1 [] ∷ [])
    -- 02 N1: an explanation tells the same at the least budget that is enough as at 99, and below it nothing but its start
    ∷ explaining "abc" 0 "abd" 3 (explain_unfit 6 (missed 3 3 0) (missed 0 2 2)) (0 ∷ 0 ∷ 1 ∷ [])
    ∷ explaining "abc" 0 "abd" 2 (explain_exhausted 0 2) (7 ∷ 7 ∷ 7 ∷ [])
    ∷ []

pub traps-avoided : map calls traps ≡ map expected traps
unfolding computing_checks traps
traps-avoided = refl
