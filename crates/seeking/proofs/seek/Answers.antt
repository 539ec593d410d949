-- `seek` meets its contract: it is the promise of `seek_within` for the part, with as many looks as the budget allows.
use Rattle.seeking.proofs.seek.Goals as goal

pub slice_bounds-seek_within-count : goal.slice_bounds-seek_within-count
slice_bounds-seek_within-count c = c.requires.from_le_to.0

pub slice_bounds-seek_within-start : goal.slice_bounds-seek_within-start
slice_bounds-seek_within-start c = c.requires.from_le_to.0

pub slice_bounds-seek_within-end : goal.slice_bounds-seek_within-end
slice_bounds-seek_within-end c = c.requires.from_le_to.1

pub seek_within-requires : goal.seek_within-requires
seek_within-requires c = record {
  held = c.requires.held;
  near = (c.requires.from_le_to.2, c.looks_at-looks.ensures);
}

pub returns : goal.returns
returns c = record {
  answers = c.seek_within.ensures.answers;
  leaves = c.seek_within.ensures.leaves;
}
