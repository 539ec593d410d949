-- Where the bytes of a card stand, and what stands at a position.
-- docs/REFERENCE.md, 17.1
use Rattle.std.specs.Prelude.{List, ℕ, suc, ◌+◌, ◌-◌, ◌*◌, ◌/◌, ◌%◌, eqb, get_or, if◌then◌else◌}
use Rattle.card_format.specs.Cards.{settings_body, piece_kind, piece_body, pieces_for}

-- where the records of a rule's bytes end, behind the settings
unfoldable pub text_end : (size : ℕ) → ℕ
text_end size = suc settings_body + pieces_for size * suc piece_body

-- where a byte of the rule stands: behind the settings, and the kinds of its own record and of those before it
unfoldable pub place : ℕ → ℕ
place i = suc settings_body + suc (i + i / piece_body)

-- a byte of the rule's records, by its position behind the settings
unfoldable pub piece_byte : (rule : List ℕ) (i : ℕ) → ℕ
piece_byte rule i = if eqb (i % suc piece_body) 0 then piece_kind else get_or rule (i / suc piece_body * piece_body + i % suc piece_body - 1) 0
