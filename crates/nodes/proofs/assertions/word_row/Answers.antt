-- `word_row` meets its contract: the checker computes each row that has word bytes, and the others have none.
use mathlib.Core.Path.{◌∙◌}
use native.Mathlib.Nat.{zero-div}
use Rattle.charset.specs.Named.{ranges, in_range, in_ranges, in_named}
use Rattle.semantics.specs.Assertions.{is_word}
use Rattle.nodes.proofs.WordRows.{row_words, no_words}
use Rattle.nodes.proofs.assertions.word_row.Goals as goal

pub returns-in-1 : goal.returns-in-1
unfolding is_word in_named ranges in_range in_ranges
returns-in-1 c b e = row_words 0x03FF0000 1 tt b (e ∙ c.in-1.is)

pub returns-in-2 : goal.returns-in-2
unfolding is_word in_named ranges in_range in_ranges
returns-in-2 c b e = row_words 0x87FFFFFE 2 tt b (e ∙ c.in-2.is)

pub returns-in-3 : goal.returns-in-3
unfolding is_word in_named ranges in_range in_ranges
returns-in-3 c b e = row_words 0x07FFFFFE 3 tt b (e ∙ c.in-3.is)

pub returns-in_default : goal.returns-in_default
returns-in_default c b e = let r = c.in_default.in_default-own.rest in
    rw zero-div (no_words b c.args.row r.0.0.1 r.0.1 r.1 e)
