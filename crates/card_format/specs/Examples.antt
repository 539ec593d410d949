-- The inputs that tell the readings of 02's open points on cards apart (docs/DECISIONS.md), computed. One statement over one list.
-- docs/REFERENCE.md, 17
use Rattle.std.specs.Prelude.{◌≡◌, refl, List, [], ◌∷◌, ◌++◌, map, ℕ, zero, suc, ◌-◌, ◌%◌, ◌/◌, ◌^◌, length, get_or, take, replicate}
use Prim.Native.String.{String}
use Rattle.syntax.specs.declared.Reason.TheVariants.{RuleTooLong, UnknownFlag, BudgetTooLarge, RuleAreaShort, WrittenAreaShort, UnclosedGroup, UnknownKind, CardCutShort, WrongRecords, StrayBytes, WrongGroupNumber}
use Rattle.syntax.specs.Limits.{rule_area_need, flag_bits}
use Rattle.syntax.specs.Read.{bytes}
use Rattle.card_format.specs.Cards.{card_need, rule_bytes_need, WriteOutcome, write_wrote, write_refused, write_call, ReadOutcome, read_holds, read_refused, read_call}
use Rattle.card_format.specs.Computing.{computing_cards}

-- One call and what it gives ------------------------------------------------------------

pub data Checked : Type 0 where
  -- a rule, flags and budget, the numbers of the rule area and the bytes of the card area, all of them 7; the outcome, the card written, and the first number of
  -- the rule area when the call returns
  writing : String → ℕ → ℕ → ℕ → ℕ → WriteOutcome → List ℕ → ℕ → Checked
  -- the bytes of a card, the numbers of the rule area and the bytes of the rule bytes' area; the outcome, the rule, and that number
  reading : List ℕ → ℕ → ℕ → ReadOutcome → List ℕ → ℕ → Checked

pub data Gives : Type 0 where
  wrote : WriteOutcome → List ℕ → ℕ → Gives
  read : ReadOutcome → List ℕ → ℕ → Gives

unfoldable pub calls : Checked → Gives
calls (writing rule flags budget room area outcome card first) =
    let after = write_call (bytes rule) flags budget (replicate room 7) (replicate area 7) in
    wrote after.outcome (take (length card) after.area) (get_or after.rule_area 0 7)
calls (reading card room area outcome rule first) =
    let after = read_call card (replicate room 7) (replicate area 7) in
    read after.outcome (take (length rule) after.area) (get_or after.rule_area 0 7)

unfoldable pub expected : Checked → Gives
expected (writing rule flags budget room area outcome card first) = wrote outcome card first
expected (reading card room area outcome rule first) = read outcome rule first

-- Records ----------------------------------------------------------------------------------

unfoldable pub head : (flags budget groups : ℕ) → List ℕ
head flags budget groups = 1 ∷ flags ∷ budget % 256 ∷ budget / 256 ∷ groups ∷ []

unfoldable pub piece : String → List ℕ
piece s = 2 ∷ (bytes s ++ replicate (32 - length (bytes s)) 0)

unfoldable pub full_pieces : ℕ → List ℕ
full_pieces zero = []
full_pieces (suc n) = piece "aaaaaaaaaaaaaaaaaaaaaaaaaaaaaaaa" ++ full_pieces n

unfoldable pub size : ℕ → List ℕ
size n = 3 ∷ n % 256 ∷ n / 256 ∷ []

-- the areas are just large enough, and nothing is changed in them: refused before the rule is read
unfoldable pub refusing : List ℕ → ReadOutcome → Checked
refusing card outcome = reading card rule_area_need rule_bytes_need outcome (7 ∷ []) 7

-- refused once it is read: the rule area is zero
unfoldable pub clearing : List ℕ → ReadOutcome → Checked
clearing card outcome = reading card rule_area_need rule_bytes_need outcome (7 ∷ []) 0

unfoldable pub holding : List ℕ → ReadOutcome → List ℕ → Checked
holding card outcome rule = reading card rule_area_need rule_bytes_need outcome rule 0

-- the least number with a bit that is no flag, and all flags
unfoldable pub unknown_flag : ℕ
unknown_flag = 2 ^ flag_bits

unfoldable pub every_flag : ℕ
every_flag = 2 ^ flag_bits - 1

-- The list ------------------------------------------------------------------------------------

unfoldable pub examples : List Checked
examples =
    -- a card, written and read; 02 I7: what reading answers
    writing "(a)" 1 258 rule_area_need card_need (write_wrote 41) (head 1 258 1 ++ (piece "(a)" ++ size 3)) 0
    ∷ holding (head 1 258 1 ++ (piece "(a)" ++ size 3)) (read_holds 3 1 258 1) (bytes "(a)")
    -- the empty rule has no kind 2
    ∷ writing "" 0 0 rule_area_need card_need (write_wrote 8) (head 0 0 0 ++ size 0) 0
    ∷ holding (head 0 0 0 ++ size 0) (read_holds 0 0 0 0) []
    -- 32 bytes need one kind 2, and 33 need two
    ∷ holding (head 0 9 0 ++ (full_pieces 1 ++ size 32)) (read_holds 32 0 9 0) (replicate 32 97)
    ∷ holding (head 0 9 0 ++ (full_pieces 1 ++ (piece "b" ++ size 33))) (read_holds 33 0 9 0) (replicate 32 97 ++ (98 ∷ []))
    -- 02 I1: 30 and 31 over the whole card, before 32
    ∷ refusing (piece "" ++ (4 ∷ [])) (read_refused 0 UnknownKind)
    ∷ refusing (head 0 0 0 ++ (head 0 0 0 ++ (3 ∷ []))) (read_refused 0 CardCutShort)
    ∷ refusing (head 0 0 0 ++ (head 0 0 0 ++ size 0)) (read_refused 0 WrongRecords)
    -- 02 I2: an unknown kind ends the cutting, and behind a kind 3 all is trailing
    ∷ refusing (4 ∷ 1 ∷ []) (read_refused 0 UnknownKind)
    ∷ refusing (0 ∷ []) (read_refused 0 UnknownKind)
    ∷ refusing (head 0 0 0 ++ (size 0 ++ (4 ∷ []))) (read_refused 0 StrayBytes)
    ∷ refusing (size 0 ++ (4 ∷ [])) (read_refused 0 WrongRecords)
    -- 02 I3
    ∷ refusing [] (read_refused 0 CardCutShort)
    ∷ refusing (4 ∷ []) (read_refused 0 UnknownKind)
    ∷ refusing (size 0) (read_refused 0 WrongRecords)
    ∷ refusing (head 0 0 0 ++ (size 0 ++ size 0)) (read_refused 0 StrayBytes)
    ∷ refusing (head 0 0 0) (read_refused 0 CardCutShort)
    ∷ refusing (head 0 0 0 ++ (2 ∷ [])) (read_refused 0 CardCutShort)
    -- 02 I4: the length against the records
    ∷ refusing (head 0 0 0 ++ size 1) (read_refused 0 WrongRecords)
    ∷ refusing (head 0 0 0 ++ (piece "" ++ size 0)) (read_refused 0 WrongRecords)
    ∷ refusing (piece "a" ++ (head 0 0 0 ++ size 1)) (read_refused 0 WrongRecords)
    ∷ refusing (head 0 0 0 ++ size 59651) (read_refused 0 WrongRecords)
    ∷ refusing (head 0 0 0 ++ (full_pieces 32 ++ size 1024)) (read_refused 0 RuleTooLong)
    ∷ refusing (head 0 0 0 ++ (full_pieces 32 ++ size 1025)) (read_refused 0 WrongRecords)
    -- 02 I5: 33 before 1, 3, 5 and the rule's own, and 34 last of all
    ∷ refusing (head 0 0 0 ++ (full_pieces 32 ++ size 1001)) (read_refused 0 StrayBytes)
    ∷ refusing (head unknown_flag 0 0 ++ (size 0 ++ (0 ∷ []))) (read_refused 0 StrayBytes)
    ∷ refusing (head unknown_flag 0 0 ++ size 0) (read_refused 0 UnknownFlag)
    ∷ reading (head unknown_flag 0 0 ++ size 0) 0 rule_bytes_need (read_refused 0 UnknownFlag) (7 ∷ []) 7
    ∷ reading (head 0 0 0 ++ size 0) (rule_area_need - 1) rule_bytes_need (read_refused 0 RuleAreaShort) (7 ∷ []) 7
    ∷ clearing (head 0 0 9 ++ (piece "a(" ++ size 2)) (read_refused 1 UnclosedGroup)
    ∷ clearing (head 0 0 1 ++ (piece "a" ++ size 1)) (read_refused 0 WrongGroupNumber)
    -- 9 first of all
    ∷ reading [] 0 (rule_bytes_need - 1) (read_refused 0 WrittenAreaShort) (7 ∷ []) 7
    ∷ writing "(" unknown_flag 65536 0 (card_need - 1) (write_refused 0 WrittenAreaShort) (7 ∷ []) 7
    -- 3 before 4, 4 from 65,536 on, 4 before 5, 5 before the rule's own
    ∷ writing "(" unknown_flag 65536 0 card_need (write_refused 0 UnknownFlag) (7 ∷ []) 7
    ∷ writing "(" 0 65536 0 card_need (write_refused 0 BudgetTooLarge) (7 ∷ []) 7
    ∷ writing "(" 0 65535 0 card_need (write_refused 0 RuleAreaShort) (7 ∷ []) 7
    ∷ writing "a(" 0 65535 rule_area_need card_need (write_refused 1 UnclosedGroup) (7 ∷ []) 0
    ∷ writing "" every_flag 65535 rule_area_need card_need (write_wrote 8) (head every_flag 65535 0 ++ size 0) 0
    -- 02 I8: the length decides what is padding
    ∷ writing "\0" 0 0 rule_area_need card_need (write_wrote 41) (head 0 0 0 ++ (piece "" ++ size 1)) 0
    ∷ holding (head 0 0 0 ++ (piece "" ++ size 1)) (read_holds 1 0 0 0) (0 ∷ [])
    ∷ refusing (head 0 0 1 ++ (piece "(\u{1}" ++ size 1)) (read_refused 0 StrayBytes)
    ∷ []

pub examples-hold : map calls examples ≡ map expected examples
unfolding computing_cards calls expected head piece full_pieces size refusing clearing holding unknown_flag every_flag examples
examples-hold = refl

-- the needs, as 02 writes them
pub needs-are : (card_need ≡ 1064) × (rule_bytes_need ≡ 1000)
unfolding computing_cards
needs-are = (refl, refl)
