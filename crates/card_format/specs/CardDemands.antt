-- The demands on the calls, sentence by sentence of 02's request i), as statements over the bytes of a card; CardDemandsHold proves them for all inputs.
-- docs/REFERENCE.md, 17.2, 17.3
use Rattle.std.specs.Prelude.{◌≡◌, List, [], ◌∷◌, ◌++◌, ◌⊎◌, ◌↔◌, ℕ, ◌^◌, ◌≤◌, ◌<◌, length, get_or, replicate}
use Rattle.syntax.specs.declared.Reason.{Reason}
use Rattle.syntax.specs.declared.Reason.TheVariants.{RuleTooLong, UnknownFlag, BudgetTooLarge, RuleAreaShort, WrittenAreaShort, UnknownKind, CardCutShort, WrongRecords, StrayBytes, WrongGroupNumber}
use Rattle.syntax.specs.Limits.{rule_limit, rule_area_need, flag_bits}
use Rattle.syntax.specs.Refusals.{number_of}
use Rattle.syntax.specs.Read.{sound, refused}
use Rattle.syntax.specs.Tree.{Rule}
use Rattle.syntax.specs.Reading.{reading}
use Rattle.semantics.specs.Demands.{Written}
use Rattle.card_format.specs.Cards.{settings_kind, settings_body, piece_kind, piece_body, length_kind, length_body, CardRecord, in_bytes, kinds, of_two, Card, pieces_for, written, card_need, rule_bytes_need, text, CardReturn, card_budget_limit, WriteOutcome, write_wrote, write_refused, ReadOutcome, read_holds, read_refused}

-- Bytes as records --------------------------------------------------------------------

-- every number of a list is a byte
abbrev pub Bytes : List ℕ → Type 0
Bytes s = (i : ℕ) → get_or s i 0 < 256

-- a whole record that may stand before the first kind 3
pub data Whole : CardRecord → Type 0 where
  whole_settings : {body : List ℕ} → length body ≡ settings_body → Whole (record { kind = settings_kind; body = body })
  whole_piece : {body : List ℕ} → length body ≡ piece_body → Whole (record { kind = piece_kind; body = body })

abbrev pub AllWhole : List CardRecord → Type 0
AllWhole [] = Unit {0}
AllWhole (r ∷ rs) = Whole r × AllWhole rs

-- the kinds, each with its body's length
pub data Kind : (kind body : ℕ) → Type 0 where
  of_settings : Kind settings_kind settings_body
  of_piece : Kind piece_kind piece_body
  of_length : Kind length_kind length_body

-- "30 unknown kind": behind whole records stands a byte that is no kind
pub record Unknown (s : List ℕ) : Type 0 where
  pub passed : List CardRecord
  pub whole : AllWhole passed
  pub kind : ℕ
  pub more : List ℕ
  pub unknown : (body : ℕ) → ¬ Kind kind body
  pub are : s ≡ in_bytes passed ++ (kind ∷ more)

-- "31 cut short (no kind 3 too)": the card ends behind whole records, or within a record of any kind
pub data Short (s : List ℕ) : Type 0 where
  no_end : (passed : List CardRecord) → AllWhole passed → s ≡ in_bytes passed → Short s
  within : (passed : List CardRecord) → AllWhole passed → {kind body : ℕ} → Kind kind body → (part : List ℕ) → length part < body → s ≡ in_bytes passed ++ (kind ∷ part) → Short s

-- "Reading ends at the first kind 3; what follows is trailing."
pub record Parts (s : List ℕ) : Type 0 where
  pub records : List CardRecord
  pub whole : AllWhole records
  pub size : List ℕ
  pub sized : length size ≡ length_body
  pub trailing : List ℕ
  pub are : s ≡ in_bytes records ++ (length_kind ∷ (size ++ trailing))

-- "one kind 1, then exactly as many kind 2 as the length needs"
abbrev pub InOrder : {s : List ℕ} → Parts s → Type 0
InOrder p = kinds p.records ≡ settings_kind ∷ replicate (pieces_for (of_two p.size)) piece_kind

-- 30 to 33, exactly when each is given: "tested in this order"
pub data CardFault (s : List ℕ) : Reason → Type 0 where
  unknown_kind : Unknown s → CardFault s UnknownKind
  cut_short : Short s → CardFault s CardCutShort
  wrong_records : (p : Parts s) → ¬ InOrder p → CardFault s WrongRecords
  stray_padding : (p : Parts s) → InOrder p → (i : ℕ) → of_two p.size ≤ i → ¬ (get_or (text p.records) i 0 ≡ 0) → CardFault s StrayBytes
  stray_trailing : (p : Parts s) → InOrder p → 1 ≤ length p.trailing → CardFault s StrayBytes

-- The rule of a card ------------------------------------------------------------------------

-- 1 and 3 to 5, of what a card holds or is to hold
pub data RuleFault (rule : List ℕ) (flags budget : ℕ) (rule_area : List ℕ) : Reason → Type 0 where
  rule_too_long : rule_limit < length rule → RuleFault rule flags budget rule_area RuleTooLong
  unknown_flag : 2 ^ flag_bits ≤ flags → RuleFault rule flags budget rule_area UnknownFlag
  budget_too_large : card_budget_limit < budget → RuleFault rule flags budget rule_area BudgetTooLarge  -- "over 65,535"
  rule_area_short : length rule_area < rule_area_need → RuleFault rule flags budget rule_area RuleAreaShort

abbrev pub Faultless : (rule : List ℕ) (flags budget : ℕ) (rule_area : List ℕ) → Type 0
Faultless rule flags budget rule_area = (why : Reason) → ¬ RuleFault rule flags budget rule_area why

-- the same, as bounds
pub record Fitting (rule : List ℕ) (flags budget : ℕ) (rule_area : List ℕ) : Type 0 where
  pub rule_fits : length rule ≤ rule_limit
  pub flags_fit : flags < 2 ^ flag_bits
  pub budget_fits : budget ≤ card_budget_limit
  pub area_fits : rule_area_need ≤ length rule_area

pub record FirstFault (rule : List ℕ) (flags budget : ℕ) (rule_area : List ℕ) (why : Reason) : Type 0 where
  pub fault : RuleFault rule flags budget rule_area why
  pub lowest : (other : Reason) → RuleFault rule flags budget rule_area other → number_of why ≤ number_of other

-- no refusal is named for the rule, and it has so many groups
pub record Sound (rule : List ℕ) (flags budget : ℕ) (rule_area : List ℕ) (groups : ℕ) : Type 0 where
  pub faultless : Faultless rule flags budget rule_area
  pub tree : Rule
  pub stop : ℕ
  pub reads : reading rule flags ≡ sound (tree, groups) stop

-- the refusal of a rule, by place and reason
pub data Unsound (rule : List ℕ) (flags budget : ℕ) (rule_area : List ℕ) : ℕ → Reason → Type 0 where
  itself : {why : Reason} → FirstFault rule flags budget rule_area why → Unsound rule flags budget rule_area 0 why
  its_own : {place : ℕ} {why : Reason} → Faultless rule flags budget rule_area → reading rule flags ≡ refused place why → Unsound rule flags budget rule_area place why

-- Writing ---------------------------------------------------------------------------------

abbrev pub card_of : (rule : List ℕ) (flags budget groups : ℕ) → Card
card_of rule flags budget groups = record { rule = rule; flags = flags; budget = budget; groups = groups }

-- the refusal that 02 names for an input
pub data WriteRefuses (rule : List ℕ) (flags budget : ℕ) (rule_area area : List ℕ) : ℕ → Reason → Type 0 where
  area_short : length area < card_need → WriteRefuses rule flags budget rule_area area 0 WrittenAreaShort  -- "9, first"
  unsound : {place : ℕ} {why : Reason} → card_need ≤ length area → Unsound rule flags budget rule_area place why → WriteRefuses rule flags budget rule_area area place why

pub record WriteDemands (rule : List ℕ) (flags budget : ℕ) (rule_area area : List ℕ) (x : CardReturn WriteOutcome) : Type 0 where
  pub answers_or_refuses : ((card_need ≤ length area) × (groups : ℕ) × Sound rule flags budget rule_area groups) ⊎ ((place : ℕ) × (why : Reason) × WriteRefuses rule flags budget rule_area area place why)
  pub refused_exactly : (place : ℕ) (why : Reason) → (x.outcome ≡ write_refused place why) ↔ WriteRefuses rule flags budget rule_area area place why
  -- "one rule with its budget and flags has one card"
  pub writes : card_need ≤ length area → (groups : ℕ) → Sound rule flags budget rule_area groups
      → (x.outcome ≡ write_wrote (length (written (card_of rule flags budget groups)))) × Written (written (card_of rule flags budget groups)) area x.area
  -- "A refusal leaves the written area unchanged"
  pub area_unchanged : (place : ℕ) (why : Reason) → x.outcome ≡ write_refused place why → x.area ≡ area
  -- the rule area: unchanged after 9, 1 and 3 to 5, else its needed part is zero
  pub rule_area_unchanged : (length area < card_need) ⊎ ((why : Reason) × RuleFault rule flags budget rule_area why) → x.rule_area ≡ rule_area
  pub rule_area_zeroed : card_need ≤ length area → Faultless rule flags budget rule_area → Written (replicate rule_area_need 0) rule_area x.rule_area

-- Reading -----------------------------------------------------------------------------------

-- the refusal that 02 names for an input, in its order
pub data ReadRefuses (card rule_area area : List ℕ) : ℕ → Reason → Type 0 where
  area_short : length area < rule_bytes_need → ReadRefuses card rule_area area 0 WrittenAreaShort  -- "9, first"
  no_card : {why : Reason} → rule_bytes_need ≤ length area → CardFault card why → ReadRefuses card rule_area area 0 why  -- "30 .. 31 .. 32 .. 33"
  unsound : {place : ℕ} {why : Reason} → rule_bytes_need ≤ length area → (k : Card) → card ≡ written k → Unsound k.rule k.flags k.budget rule_area place why → ReadRefuses card rule_area area place why
  -- "last 34, group number not the rule's"
  miscounted : rule_bytes_need ≤ length area → (k : Card) → card ≡ written k → (groups : ℕ) → Sound k.rule k.flags k.budget rule_area groups → ¬ (groups ≡ k.groups) → ReadRefuses card rule_area area 0 WrongGroupNumber

-- a card that is read: it is what writing makes of a sound rule
pub record Accepts (card rule_area area : List ℕ) (k : Card) : Type 0 where
  pub area_long : rule_bytes_need ≤ length area
  pub is_written : card ≡ written k
  pub is_sound : Sound k.rule k.flags k.budget rule_area k.groups

pub record ReadDemands (card rule_area area : List ℕ) (x : CardReturn ReadOutcome) : Type 0 where
  pub answers_or_refuses : ((k : Card) × Accepts card rule_area area k) ⊎ ((place : ℕ) × (why : Reason) × ReadRefuses card rule_area area place why)
  pub refused_exactly : (place : ℕ) (why : Reason) → (x.outcome ≡ read_refused place why) ↔ ReadRefuses card rule_area area place why
  -- "Writing and reading back gives the same rule", with its flags, its budget and the number of its groups
  pub holds : (k : Card) → Accepts card rule_area area k → (x.outcome ≡ read_holds (length k.rule) k.flags k.budget k.groups) × Written k.rule area x.area
  -- "A refusal leaves the written area unchanged"
  pub area_unchanged : (place : ℕ) (why : Reason) → x.outcome ≡ read_refused place why → x.area ≡ area
  -- "9 and 30 to 33 leave the rule area unchanged too", and by 01 so do 1 and 3 to 5
  pub rule_area_unchanged : (length area < rule_bytes_need) ⊎ (((why : Reason) × CardFault card why) ⊎ ((k : Card) × (why : Reason) × (card ≡ written k) × RuleFault k.rule k.flags k.budget rule_area why)) → x.rule_area ≡ rule_area
  -- after any other return its needed part is zero
  pub rule_area_zeroed : rule_bytes_need ≤ length area → (k : Card) → card ≡ written k → Faultless k.rule k.flags k.budget rule_area → Written (replicate rule_area_need 0) rule_area x.rule_area
