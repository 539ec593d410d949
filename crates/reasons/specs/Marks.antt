-- Marked items. The marks are those of an explanation (02, request f): for each byte of the rule 1 where an item begins that failed, else 0.
-- docs/REFERENCE.md, 19.2
use Rattle.std.specs.Prelude.{◌≡◌, List, Bool, true, false, ℕ, zero, suc, ◌≤◌, ◌<◌, ltb, eqb, length, get_or, if◌then◌else◌}
use Rattle.reasons.specs.Items.{item_end, item_text}

-- an answer to whether something holds
unfoldable pub Decides : Bool → Type 0 → Type 0
Decides true P = P
Decides false P = P → ⊥

unfoldable pub is_mark : ℕ → Bool
is_mark m = eqb m 1

-- where the text of the last marked item ends, once the item at a place has been looked at
unfoldable pub end_after : (s : List ℕ) (flags mark at end : ℕ) → ℕ
end_after s flags mark at end = if is_mark mark then item_end s flags at else end

-- what stands under a byte of the rule, by where the text of the last marked item ends: `^` if it has the byte, else a blank
unfoldable pub sign_before : (at end : ℕ) → ℕ
sign_before at end = if ltb at end then 0x5E else 0x20

module _ (s : List ℕ) (flags : ℕ) (marks : List ℕ) where
  -- Signs under the rule -------------------------------------------------------

  -- where the text of the last item ends that is marked at one of the first places; 0 where none is
  unfoldable pub last_end : (places : ℕ) → ℕ
  last_end zero = 0
  last_end (suc at) = end_after s flags (get_or marks at 0) at (last_end at)

  -- an item that is marked at the byte itself has it too
  unfoldable pub sign_under : (at : ℕ) → ℕ
  sign_under at = sign_before at (last_end (suc at))

  -- Items by their texts ---------------------------------------------------------

  -- the item at a place is marked, and has this text
  pub record Says (text : List ℕ) (at : ℕ) : Type 0 where
    pub marked : is_mark (get_or marks at 0) ≡ true
    pub alike : item_text s flags at ≡ text

  -- one of those at the first places does
  pub record Said (text : List ℕ) (places : ℕ) : Type 0 where
    pub at : ℕ
    pub before : at < places
    pub says : Says text at

  -- an item that is marked, and whose text none has that is marked before it
  pub record New (at : ℕ) : Type 0 where
    pub marked : is_mark (get_or marks at 0) ≡ true
    pub unsaid : Said (item_text s flags at) at → ⊥

  -- the first such item from a place on; the rule's length where there is none
  pub record NextNew (from r : ℕ) : Type 0 where
    pub onward : from ≤ r
    pub within : r ≤ length s
    pub is_new : r < length s → New r
    pub first : (i : ℕ) → from ≤ i → i < r → New i → ⊥
