-- Rule cards, 02's request i): "A second crate above the matcher reads and writes a rule card: records of one byte of kind and a body whose length the
-- kind fixes." What a card is made of, how bytes are read as one, and the two calls.
-- docs/REFERENCE.md, 17
use Rattle.std.specs.Prelude.{List, [], ◌∷◌, ◌++◌, map, Bool, true, not, ◌&&◌, ℕ, zero, suc, ◌+◌, ◌-◌, ◌*◌, ◌/◌, ◌%◌, ◌^◌, ltb, leb, eqb, length, get_or, take, drop, replicate, if◌then◌else◌}
use Rattle.std.proofs.Math.Option.{Option, none, some}
use Rattle.syntax.specs.declared.Reason.{Reason}
use Rattle.syntax.specs.declared.Reason.TheVariants.{RuleTooLong, UnknownFlag, BudgetTooLarge, RuleAreaShort, WrittenAreaShort, UnknownKind, CardCutShort, WrongRecords, StrayBytes, WrongGroupNumber}
use Rattle.syntax.specs.Limits.{rule_limit, rule_area_need, flag_bits}
use Rattle.syntax.specs.Read.{Read, sound, refused}
use Rattle.syntax.specs.Sets.{same_bytes}
use Rattle.syntax.specs.Tree.{Rule}
use Rattle.syntax.specs.Reading.{reading}
use Rattle.semantics.specs.Calls.{over, cleared}

-- Records -------------------------------------------------------------------------

-- "Kind 1, body 4: flags, budget as two bytes with the low one first, number of groups."
abbrev pub settings_kind : ℕ
settings_kind = 1

abbrev pub settings_body : ℕ
settings_body = 4

-- "Kind 2, body 32: rule bytes"
abbrev pub piece_kind : ℕ
piece_kind = 2

abbrev pub piece_body : ℕ
piece_body = 32

-- "Kind 3, body 2: rule length"
abbrev pub length_kind : ℕ
length_kind = 3

abbrev pub length_body : ℕ
length_body = 2

pub record CardRecord : Type 0 where
  pub kind : ℕ
  pub body : List ℕ

-- as they stand in a card, one after another
unfoldable pub in_bytes : List CardRecord → List ℕ
in_bytes [] = []
in_bytes (r ∷ rs) = r.kind ∷ (r.body ++ in_bytes rs)

-- their bodies, one after another
unfoldable pub bodies : List CardRecord → List ℕ
bodies [] = []
bodies (r ∷ rs) = r.body ++ bodies rs

abbrev pub kinds : List CardRecord → List ℕ
kinds rs = map (λ (r : CardRecord). r.kind) rs

-- "two bytes with the low one first"
unfoldable pub two_bytes : ℕ → List ℕ
two_bytes n = n % 256 ∷ n / 256 ∷ []

unfoldable pub of_two : List ℕ → ℕ
of_two s = get_or s 0 0 + 256 * get_or s 1 0

-- Writing a card ------------------------------------------------------------------

-- a rule with its flags and budget, and the number of its groups
pub record Card : Type 0 where
  pub rule : List ℕ
  pub flags : ℕ
  pub budget : ℕ
  pub groups : ℕ

-- "as many kind 2 as the length needs"
unfoldable pub pieces_for : (size : ℕ) → ℕ
pieces_for size = (size + (piece_body - 1)) / piece_body

unfoldable pub settings : Card → CardRecord
settings k = record { kind = settings_kind; body = k.flags ∷ (two_bytes k.budget ++ (k.groups ∷ [])) }

-- "rule bytes, the last one padded with 00"
unfoldable pub padded : (rule : List ℕ) → List ℕ
padded rule = rule ++ replicate (pieces_for (length rule) * piece_body - length rule) 0

-- so many bodies of kind 2, one after another
unfoldable pub pieces : (many : ℕ) → List ℕ → List CardRecord
pieces zero s = []
pieces (suc many) s = record { kind = piece_kind; body = take piece_body s } ∷ pieces many (drop piece_body s)

-- "rule length, low byte first"
unfoldable pub size_of : (rule : List ℕ) → CardRecord
size_of rule = record { kind = length_kind; body = two_bytes (length rule) }

-- "Order: one kind 1, then exactly as many kind 2 as the length needs, then kind 3."
unfoldable pub written : Card → List ℕ
written k = in_bytes (settings k ∷ (pieces (pieces_for (length k.rule)) (padded k.rule) ++ (size_of k.rule ∷ [])))

-- "a card area under 1,064 bytes": what the longest rule needs
unfoldable pub card_need : ℕ
unfolding pieces_for rule_limit
card_need = suc settings_body + pieces_for rule_limit * suc piece_body + suc length_body

-- "a rule bytes' area under 1,000"
unfoldable pub rule_bytes_need : ℕ
unfolding rule_limit
rule_bytes_need = rule_limit

-- Reading bytes as a card -----------------------------------------------------------

-- "a body whose length the kind fixes"; 0 for a byte that is no kind
unfoldable pub body_length : (kind : ℕ) → ℕ
body_length kind =
    if eqb kind settings_kind then settings_body
    else if eqb kind piece_kind then piece_body
    else if eqb kind length_kind then length_body
    else 0

-- the records before the first kind 3, its body, and what is trailing; or why there are none
pub data Cut : Type 0 where
  cut : (records : List CardRecord) (size trailing : List ℕ) → Cut
  uncut : Reason → Cut

unfoldable pub behind : CardRecord → Cut → Cut
behind r (cut rs size trailing) = cut (r ∷ rs) size trailing
behind r (uncut why) = uncut why

-- "30 unknown kind, 31 cut short (no kind 3 too)", whichever is met first; "Reading ends at the first kind 3; what follows is trailing." The fuel is at
-- least the bytes that are left.
unfoldable pub cut_from : (fuel : ℕ) → List ℕ → Cut
cut_from zero s = uncut CardCutShort
cut_from (suc fuel) [] = uncut CardCutShort
cut_from (suc fuel) (kind ∷ s) =
    if eqb (body_length kind) 0 then uncut UnknownKind
    else if ltb (length s) (body_length kind) then uncut CardCutShort
    else if eqb kind length_kind then cut [] (take length_body s) (drop length_body s)
    else behind (record { kind = kind; body = take (body_length kind) s }) (cut_from fuel (drop (body_length kind) s))

unfoldable pub cutting : List ℕ → Cut
cutting s = cut_from (length s) s

-- "32 wrong order or number": "one kind 1, then exactly as many kind 2 as the length needs, then kind 3"
unfoldable pub in_order : List CardRecord → (size : ℕ) → Bool
in_order rs size = same_bytes (kinds rs) (settings_kind ∷ replicate (pieces_for size) piece_kind)

unfoldable pub all_zero : List ℕ → Bool
all_zero [] = true
all_zero (b ∷ s) = eqb b 0 && all_zero s

-- the bodies of kind 2, in order
unfoldable pub text : List CardRecord → List ℕ
text rs = bodies (drop 1 rs)

-- "33 padding not 00 or any byte trailing"
unfoldable pub is_tidy : List CardRecord → (size : ℕ) → (trailing : List ℕ) → Bool
is_tidy rs size trailing = all_zero (drop size (text rs)) && same_bytes trailing []

-- what the records say: the body of the first has flags, budget and number of groups
unfoldable pub setting : List CardRecord → ℕ → ℕ
setting rs i = get_or (bodies (take 1 rs)) i 0

unfoldable pub said_by : List CardRecord → (size : ℕ) → Card
said_by rs size = record {
  rule = take size (text rs);
  flags = setting rs 0;
  budget = of_two (setting rs 1 ∷ setting rs 2 ∷ []);
  groups = setting rs 3;
}

pub data Scan : Type 0 where
  holds : Card → Scan
  fails : Reason → Scan

-- 32, then 33: "tested in this order"
unfoldable pub scanned : Cut → Scan
scanned (uncut why) = fails why
scanned (cut rs size trailing) =
    if not (in_order rs (of_two size)) then fails WrongRecords
    else if not (is_tidy rs (of_two size) trailing) then fails StrayBytes
    else holds (said_by rs (of_two size))

unfoldable pub card_in : List ℕ → Scan
card_in s = scanned (cutting s)

-- for whoever looks at a card whose rule is refused: the rule that bytes say, if there is room for it
unfoldable pub rule_in : Scan → (room : ℕ) → List ℕ
rule_in (fails why) room = []
rule_in (holds k) room = if leb (length k.rule) room then k.rule else []

-- What a call leaves --------------------------------------------------------------------

-- what a call answers, and what stands in the rule area and in the area that it writes into when it returns
pub record CardReturn (A : Type 0) : Type 0 where
  pub outcome : A
  pub rule_area : List ℕ
  pub area : List ℕ

module _ {A : Type 0} where
  -- "A refusal leaves the written area unchanged"; "9 and 30 to 33 leave the rule area unchanged too", and by 01 so do 1 and 3 to 5
  unfoldable pub untouched : A → (rule_area area : List ℕ) → CardReturn A
  untouched a rule_area area = record { outcome = a; rule_area = rule_area; area = area }

  -- from 10 on, and after an answer: 01, "their needed first part is zero and the rest unchanged". "and so is all past what is written"
  unfoldable pub leaving : A → (bytes : List ℕ) → (rule_area area : List ℕ) → CardReturn A
  leaving a bytes rule_area area = record { outcome = a; rule_area = cleared rule_area_need rule_area; area = over bytes area }

-- "Writing refuses budgets over 65,535 with 4": a card has two bytes for it
abbrev pub card_budget_limit : ℕ
card_budget_limit = 65535

-- "then 1, 3 to 5", by the lengths of the rule and of the rule area: no subject, work area, result area or name index is lent
unfoldable pub unfit : (size flags budget room : ℕ) → Option Reason
unfit size flags budget room =
    if ltb rule_limit size then some RuleTooLong
    else if leb (2 ^ flag_bits) flags then some UnknownFlag
    else if ltb card_budget_limit budget then some BudgetTooLarge
    else if ltb room rule_area_need then some RuleAreaShort
    else none

-- What both calls do with a rule: they refuse it, by place and reason, or go on with the number of its groups.
module _ {A : Type 0} (refusal : ℕ → Reason → A) (rule_area area : List ℕ) (counted : (groups : ℕ) → CardReturn A) where
  -- "and the rule's own from 10 on, with their places"
  unfoldable pub with_reading : Read (Rule × ℕ) → CardReturn A
  with_reading (sound r at) = counted r.1
  with_reading (refused place why) = leaving (refusal place why) [] rule_area area

  unfoldable pub unless_unfit : (rule : List ℕ) (flags : ℕ) → Option Reason → CardReturn A
  unless_unfit rule flags (some why) = untouched (refusal 0 why) rule_area area
  unless_unfit rule flags none = with_reading (reading rule flags)

  unfoldable pub ruled : (rule : List ℕ) (flags budget : ℕ) → CardReturn A
  ruled rule flags budget = unless_unfit rule flags (unfit (length rule) flags budget (length rule_area))

-- Writing -----------------------------------------------------------------------------

pub data WriteOutcome : Type 0 where
  write_wrote : ℕ → WriteOutcome  -- the number of bytes
  write_refused : ℕ → Reason → WriteOutcome  -- the place and the reason

-- "one rule with its budget and flags has one card"
unfoldable pub writes : (rule : List ℕ) (flags budget : ℕ) (rule_area area : List ℕ) (groups : ℕ) → CardReturn WriteOutcome
writes rule flags budget rule_area area groups =
    let bytes = written (record { rule = rule; flags = flags; budget = budget; groups = groups }) in
    leaving (write_wrote (length bytes)) bytes rule_area area

-- "9, first, writing a card area under 1,064 bytes"
unfoldable pub write_call : (rule : List ℕ) (flags budget : ℕ) (rule_area area : List ℕ) → CardReturn WriteOutcome
write_call rule flags budget rule_area area =
    if ltb (length area) card_need then untouched (write_refused 0 WrittenAreaShort) rule_area area
    else ruled write_refused rule_area area (writes rule flags budget rule_area area) rule flags budget

-- Reading ---------------------------------------------------------------------------------

pub data ReadOutcome : Type 0 where
  read_holds : (size flags budget groups : ℕ) → ReadOutcome  -- the rule's length, and what else the card says
  read_refused : ℕ → Reason → ReadOutcome  -- the place and the reason

-- "last 34, group number not the rule's"
unfoldable pub reads : Card → (rule_area area : List ℕ) (groups : ℕ) → CardReturn ReadOutcome
reads k rule_area area groups =
    if eqb groups k.groups then leaving (read_holds (length k.rule) k.flags k.budget k.groups) k.rule rule_area area
    else leaving (read_refused 0 WrongGroupNumber) [] rule_area area

unfoldable pub read_scan : Scan → (rule_area area : List ℕ) → CardReturn ReadOutcome
read_scan (fails why) rule_area area = untouched (read_refused 0 why) rule_area area
read_scan (holds k) rule_area area = ruled read_refused rule_area area (reads k rule_area area) k.rule k.flags k.budget

-- "9, first .. reading a rule bytes' area under 1,000"
unfoldable pub read_call : (card rule_area area : List ℕ) → CardReturn ReadOutcome
read_call card rule_area area =
    if ltb (length area) rule_bytes_need then untouched (read_refused 0 WrittenAreaShort) rule_area area
    else read_scan (card_in card) rule_area area
