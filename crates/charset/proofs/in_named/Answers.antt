-- `in_named` meets its contract, by the rule of the table by byte, which the checker computes for the table of the goal.
use borrow.Author.Rules.{rules}
use lib.Bits.{and_mask}
use Rattle.charset.specs.Named.{ranges, in_range, in_ranges, in_named, marked}
use Rattle.charset.proofs.Rules.{as-entry, by_byte-rule}
use Rattle.charset.proofs.in_named.Goals as goal

pub returns : goal.returns
unfolding ranges in_range in_ranges in_named marked
returns c = rw (and_mask _ 1, as-entry, c.from-k.ensures.0)
    (by_byte-rule _ tt c.args.set c.args.b (search rules))
