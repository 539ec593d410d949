-- `alternation`: the first branch, and the others behind it.
-- `further`: the loop has passed some branches, of which the last has no node yet; one law for each return and for the turn.
-- `group`: the inside is read with one level less to nest; one law for each return.
-- `piece`: a group is a part of the sequence, and any other part needs no inside.
-- `sequence`: the loop has passed some parts, and the branch is the rest of the sequence behind them; one law for each return and for the turn.
use native.Mathlib.Omega.{arith}
use borrow.Author.Rules.{rules}
use mathlib.Core.Path.{refl, ◌∙◌}
use Rattle.std.proofs.lemmas.Result.{err_from_is_err_and}
use Rattle.reader.proofs.Answers.{ready_on, naming-on}
use Rattle.reader.proofs.Alternations.{alternation-refused, alternation-goes, branched-none, branched-ready, branched-naming, bar-ready, further-single, last-room, further-last, further-refused, branched-more}
use Rattle.reader.proofs.Groups.{inner-ready, group-unopened, group-refused, group-sound, other_byte, piece-refused, piece-group, piece-other}
use Rattle.reader.proofs.Sequences.{passed_none, past-blanks, ready-past, naming-past, moved-past, goes_on, sequence-stops, sequence-refused, passed-more}
use Rattle.reader.proofs.+alternation_further_group_piece_sequence.Goals as goal

pub alternation-further-requires : goal.alternation-further-requires
alternation-further-requires t c = let read = c.sequence in
    let x = c.in_ok-first.ensures in
    let m = x.moved in
    let n = naming-on _ c.requires.1 x.names read.auto.table in
    (omega (arith, c.decreases, m.on, m.within), (ready_on c.requires.0 m read.auto.area, n, m.address))

pub alternation-returns-in_err-first : goal.alternation-returns-in_err-first
alternation-returns-in_err-first t c = let a = c.args in
    let p = err_from_is_err_and c.from_residual.result c.from_residual.ensures.1 in
    rw (p.1, p.2) (alternation-refused a.rule.now a.flags a.depth a.table.now c.sequence.new.table a.c _ c.in_err-first.ensures)

pub alternation-returns : goal.alternation-returns
alternation-returns t c = let a = c.args in
    let rest = c.further in
    alternation-goes a.rule.now a.flags a.depth a.table.now c.sequence.new.table a.c _ c.in_ok-first.ensures _ rest.new.table rest.result rest.ensures

pub further-loop-c-init : goal.further-loop-c-init
further-loop-c-init t c = let a = c.args in
    branched-none a.rule.now a.flags a.depth c.requires.0 c.requires.1 c.requires.2

pub further-shape_of-area-then-before-eq0 : goal.further-shape_of-area-then-before-eq0
further-shape_of-area-then-before-eq0 t c = c.loop-c.invariant.long

pub further-shape_of-table-then-before-eq0 : goal.further-shape_of-table-then-before-eq0
further-shape_of-table-then-before-eq0 t c = c.loop-c.invariant.wide

pub further-returns-then-before-eq0 : goal.further-returns-then-before-eq0
further-returns-then-before-eq0 t c = let a = c.args in
    further-single a.flags a.depth c.requires.0 c.loop-c.invariant c.peek.ensures c.if-peek-ne-BAR.true c.if-before-eq0.true

pub further-overflow_cast-last : goal.further-overflow_cast-last
further-overflow_cast-last t c = let inv = c.loop-c.invariant in
    let y = branched-ready c.requires.0 inv in
    omega (arith, inv.moves.address)

pub further-overflow_cast-before : goal.further-overflow_cast-before
further-overflow_cast-before t c = let inv = c.loop-c.invariant in
    let y = branched-ready c.requires.0 inv in
    omega (arith, inv.earlier)

pub further-put_three-requires : goal.further-put_three-requires
further-put_three-requires t c = last-room c.requires.0 c.loop-c.invariant c.if-before-eq0.false

pub further-part-requires : goal.further-part-requires
further-part-requires t c = let inv = c.loop-c.invariant in
    let y = branched-ready c.requires.0 inv in
    omega arith

pub further-shape_of-area-then-peek-ne-BAR : goal.further-shape_of-area-then-peek-ne-BAR
further-shape_of-area-then-peek-ne-BAR t c = c.put_three.auto.area ∙ c.loop-c.invariant.long

pub further-shape_of-table-then-peek-ne-BAR : goal.further-shape_of-table-then-peek-ne-BAR
further-shape_of-table-then-peek-ne-BAR t c = c.loop-c.invariant.wide

pub further-returns-then-peek-ne-BAR : goal.further-returns-then-peek-ne-BAR
further-returns-then-peek-ne-BAR t c = let a = c.args in
    rw c.part.ensures (further-last a.flags a.depth c.requires.0 c.loop-c.invariant c.peek.ensures c.if-peek-ne-BAR.true c.if-before-eq0.false c.put_three.ensures)

pub further-overflow_cast-last-in-loop-c : goal.further-overflow_cast-last-in-loop-c
further-overflow_cast-last-in-loop-c t c = let inv = c.loop-c.invariant in
    let y = branched-ready c.requires.0 inv in
    omega (arith, inv.moves.address)

pub further-overflow_cast-before-in-loop-c : goal.further-overflow_cast-before-in-loop-c
further-overflow_cast-before-in-loop-c t c = let inv = c.loop-c.invariant in
    let y = branched-ready c.requires.0 inv in
    omega (arith, inv.earlier)

pub further-put_branch-requires : goal.further-put_branch-requires
further-put_branch-requires t c = let inv = c.loop-c.invariant in
    let y = branched-ready c.requires.0 inv in
    search rules

pub further-behind-requires : goal.further-behind-requires
further-behind-requires t c = let inv = c.loop-c.invariant in
    let y = branched-ready c.requires.0 inv in
    omega arith

pub further-sequence-requires : goal.further-sequence-requires
further-sequence-requires t c = let inv = c.loop-c.invariant in
    let y = bar-ready c.put_branch.new.area (branched-ready c.requires.0 inv) c.peek.ensures c.if-peek-ne-BAR.false c.put_branch.auto.area in
    let n = branched-naming c.requires.1 inv in
    rw c.behind.ensures (omega (arith, c.decreases, inv.moves.on, y.within), (y, naming-on _ n n.fit refl))

pub further-shape_of-area-in_err-branch : goal.further-shape_of-area-in_err-branch
further-shape_of-area-in_err-branch t c = c.sequence.auto.area ∙ c.put_branch.auto.area ∙ c.loop-c.invariant.long

pub further-shape_of-table-in_err-branch : goal.further-shape_of-table-in_err-branch
further-shape_of-table-in_err-branch t c = c.sequence.auto.table ∙ c.loop-c.invariant.wide

pub further-returns-in_err-branch : goal.further-returns-in_err-branch
further-returns-in_err-branch t c = let a = c.args in
    let p = err_from_is_err_and c.from_residual.result c.from_residual.ensures.1 in
    rw (p.1, p.2) (further-refused a.flags a.depth c.requires.0 c.loop-c.invariant c.peek.ensures c.if-peek-ne-BAR.false c.put_branch.ensures c.sequence.new.table _ (rw c.behind.ensures at c.in_err-branch.ensures))

pub further-overflow_add-count : goal.further-overflow_add-count
further-overflow_add-count t c = let inv = c.loop-c.invariant in
    let y = branched-ready c.requires.0 inv in
    omega (arith, inv.many, y.within, y.narrow)

pub further-loop-c-smaller : goal.further-loop-c-smaller
further-loop-c-smaller t c = let m = (rw c.behind.ensures at c.in_ok-branch.ensures).moved in
    omega (arith, m.on, m.within)

pub further-loop-c-preserved : goal.further-loop-c-preserved
further-loop-c-preserved t c = let a = c.args in
    let read = c.sequence in
    branched-more a.flags a.depth c.requires.0 c.loop-c.invariant c.peek.ensures c.if-peek-ne-BAR.false c.put_branch.ensures read.new.table _ (rw c.behind.ensures at c.in_ok-branch.ensures) (read.auto.area ∙ c.put_branch.auto.area) read.auto.table

pub group-opening_at-requires : goal.group-opening_at-requires
group-opening_at-requires t c = let fit = c.requires.1.fit in
    search rules

pub group-overflow_sub-depth : goal.group-overflow_sub-depth
group-overflow_sub-depth t c = let o = c.in_ok-start.ensures c.args.flags in
    omega (arith, o.deep)

pub group-alternation-requires : goal.group-alternation-requires
group-alternation-requires t c = let b = (c.in_ok-start.ensures c.args.flags).begins in
    (omega (arith, c.decreases, b.on, b.within), (inner-ready c.requires.0 b, naming-on _ c.requires.1 b.fit c.opening_at.auto.table))

pub group-close-requires : goal.group-close-requires
group-close-requires t c = let b = (c.in_ok-start.ensures c.args.flags).begins in
    let m = c.in_ok-inside.ensures.moved in
    (ready_on (inner-ready c.requires.0 b) m (search rules), b.numbered, omega (arith, b.on, m.on), omega (arith, c.requires.3, m.grown), m.address)

pub group-returns-in_err-start : goal.group-returns-in_err-start
group-returns-in_err-start t c = let a = c.args in
    let p = err_from_is_err_and c.from_residual.result c.from_residual.ensures.1 in
    rw (p.1, p.2) (group-unopened a.rule.now a.flags a.depth a.c a.before a.table.now c.opening_at.new.table a.area.now _ (c.in_err-start.ensures a.flags))

pub group-returns-in_err-inside : goal.group-returns-in_err-inside
group-returns-in_err-inside t c = let a = c.args in
    let p = err_from_is_err_and c.from_residual-in_err-inside.result c.from_residual-in_err-inside.ensures.1 in
    rw (p.1, p.2) (group-refused a.rule.now a.flags a.depth a.c a.before a.table.now c.opening_at.new.table _ (c.in_ok-start.ensures a.flags) c.alternation.new.table _ c.in_err-inside.ensures)

pub group-returns : goal.group-returns
group-returns t c = let a = c.args in
    let end = c.close in
    group-sound a.rule.now a.flags a.depth a.c a.before a.table.now c.opening_at.new.table _ (c.in_ok-start.ensures a.flags) c.alternation.new.table _ c.in_ok-inside.ensures _ end.result end.ensures

pub piece-returns-in_err-cursor : goal.piece-returns-in_err-cursor
piece-returns-in_err-cursor t c = let a = c.args in
    let p = err_from_is_err_and c.from_residual.result c.from_residual.ensures.1 in
    rw (p.1, p.2) (piece-refused a.flags a.depth a.so_far.cursor a.so_far.node a.so_far.kind c.peek.ensures a.table.now c.group.new.table _ c.if-peek-eq-OPENING.true c.in_err-cursor.ensures)

pub piece-returns-then-peek-eq-OPENING : goal.piece-returns-then-peek-eq-OPENING
piece-returns-then-peek-eq-OPENING t c = let a = c.args in
    piece-group a.flags a.depth a.so_far.cursor a.so_far.node a.so_far.kind c.peek.ensures a.table.now c.group.new.table _ c.if-peek-eq-OPENING.true c.in_ok-cursor.ensures

pub piece-other-requires : goal.piece-other-requires
piece-other-requires t c = let ne = other_byte c.peek.ensures c.if-peek-eq-OPENING.false in search rules

pub piece-returns : goal.piece-returns
piece-returns t c = let a = c.args in
    let turn = c.other in
    piece-other a.flags a.depth a.so_far.cursor a.so_far.node a.so_far.kind c.peek.ensures a.table.now turn.result c.requires.1.fit turn.ensures

pub sequence-loop-cursor-init : goal.sequence-loop-cursor-init
sequence-loop-cursor-init t c = let a = c.args in
    passed_none a.rule.now a.flags a.depth c.requires.0 c.requires.1

pub sequence-shape_of-area-then-stops : goal.sequence-shape_of-area-then-stops
sequence-shape_of-area-then-stops t c = c.loop-cursor.invariant.long

pub sequence-shape_of-table-then-stops : goal.sequence-shape_of-table-then-stops
sequence-shape_of-table-then-stops t c = c.loop-cursor.invariant.wide

pub sequence-returns-then-stops : goal.sequence-returns-then-stops
sequence-returns-then-stops t c = let a = c.args in
    sequence-stops a.flags a.depth c.loop-cursor.invariant c.behind_blanks-at.ensures c.peek.ensures c.stops.ensures c.if-stops.true

pub sequence-piece-requires : goal.sequence-piece-requires
sequence-piece-requires t c = let a = c.args in
    let inv = c.loop-cursor.invariant in
    let skips = c.behind_blanks-at.ensures in
    let h = goes_on c.peek.ensures c.stops.ensures c.if-stops.false in
    let m = moved-past inv skips in
    let y = ready-past inv skips c.requires.0 in
    let n = naming-past inv skips c.requires.1 in
    search rules

pub sequence-shape_of-area-in_err-so_far : goal.sequence-shape_of-area-in_err-so_far
sequence-shape_of-area-in_err-so_far t c = c.piece.auto.area ∙ c.loop-cursor.invariant.long

pub sequence-shape_of-table-in_err-so_far : goal.sequence-shape_of-table-in_err-so_far
sequence-shape_of-table-in_err-so_far t c = c.piece.auto.table ∙ c.loop-cursor.invariant.wide

pub sequence-returns-in_err-so_far : goal.sequence-returns-in_err-so_far
sequence-returns-in_err-so_far t c = let a = c.args in
    let p = err_from_is_err_and c.from_residual.result c.from_residual.ensures.1 in
    rw (p.1, p.2) (sequence-refused a.flags a.depth c.loop-cursor.invariant c.behind_blanks-at.ensures c.peek.ensures c.stops.ensures c.if-stops.false c.piece.new.table _ c.in_err-so_far.ensures)

pub sequence-loop-cursor-smaller : goal.sequence-loop-cursor-smaller
sequence-loop-cursor-smaller t c = let m = c.in_ok-so_far.ensures.moved in
    let l = past-blanks c.loop-cursor.invariant c.behind_blanks-at.ensures in
    omega (arith, m.on, m.within)

pub sequence-loop-cursor-preserved : goal.sequence-loop-cursor-preserved
sequence-loop-cursor-preserved t c = let a = c.args in
    let turn = c.piece in
    passed-more a.flags a.depth c.loop-cursor.invariant c.behind_blanks-at.ensures c.peek.ensures c.stops.ensures c.if-stops.false turn.new.table _ c.in_ok-so_far.ensures turn.auto.area turn.auto.table
