-- `branches`: the loop's invariant is that what was found so far is found of the branches behind those that are left; its measure is the position.
-- `chain`: the loop's invariant is that the parts that are left stand no deeper, and that what was found so far is found of those behind them; its measure is the position.
-- `inside`: nothing, an alternation with its last branch first, or a sequence.
-- `part`: by the kind of its node; the body of a repeat stands one level deeper.
use native.Mathlib.Omega.{arith}
use Rattle.lengths.proofs.Alternatives.{branch-at, all_start, all-step, all_end}
use Rattle.linker.specs.Nodes.{Part}
use Rattle.lengths.proofs.Parts.{part-begins, bracket-at, bracket-found, plain_at, plain-found, repeat-at, repeat-found, item-found}
use Rattle.lengths.proofs.Chains.{found-bounded, joined-bounded, turn_at, going_start, going_step, going_end}
use Rattle.lengths.proofs.Insides.{none_found, inside-fits, chain-at, chain-found, alt-at, alt-found}
use Rattle.lengths.proofs.+branches_chain_inside_part.Goals as goal

pub branches-loop-p-init : goal.branches-loop-p-init
branches-loop-p-init t c = (λ l. c.requires, all_start _ _ _, omega arith)

pub branches-overflow_add-p : goal.branches-overflow_add-p
branches-overflow_add-p t c = let k = branch-at _ _ _ (c.loop-p.invariant.0 (omega arith)) in omega (arith, k.fits)

pub branches-word-held-requires : goal.branches-word-held-requires
branches-word-held-requires t c = let k = branch-at _ _ _ (c.loop-p.invariant.0 (omega arith)) in omega (arith, k.fits)

pub branches-overflow_add-p-in-loop-p : goal.branches-overflow_add-p-in-loop-p
branches-overflow_add-p-in-loop-p t c = let k = branch-at _ _ _ (c.loop-p.invariant.0 (omega arith)) in omega (arith, k.fits)

pub branches-word-before-requires : goal.branches-word-before-requires
branches-word-before-requires t c = let k = branch-at _ _ _ (c.loop-p.invariant.0 (omega arith)) in omega (arith, k.fits)

pub branches-overflow_add-p-in-loop-p-2 : goal.branches-overflow_add-p-in-loop-p-2
branches-overflow_add-p-in-loop-p-2 t c = let k = branch-at _ _ _ (c.loop-p.invariant.0 (omega arith)) in omega (arith, k.fits)

pub branches-word-requires : goal.branches-word-requires
branches-word-requires t c = let k = branch-at _ _ _ (c.loop-p.invariant.0 (omega arith)) in omega (arith, k.fits)

pub branches-chain-one-requires : goal.branches-chain-one-requires
branches-chain-one-requires t c = let k = branch-at _ _ _ (c.loop-p.invariant.0 (omega arith)) in (omega arith, rw c.word-held.ensures.0 k.inner)

pub branches-loop-p-smaller : goal.branches-loop-p-smaller
branches-loop-p-smaller t c = let k = branch-at _ _ _ (c.loop-p.invariant.0 (omega arith)) in omega (arith, k.lower, c.word-before.ensures.0)

pub branches-loop-p-preserved : goal.branches-loop-p-preserved
branches-loop-p-preserved t c = let k = branch-at _ _ _ (c.loop-p.invariant.0 (omega arith)) in
    (rw c.word-before.ensures.0 k.rest, all-step _ _ _ _ _ _ _ _ _ _ (omega arith) c.word-before.ensures.0 c.word.ensures.0 c.checked_sub-bar.ensures (rw c.word-held.ensures.0 at c.chain-one.ensures) c.either-m.ensures c.loop-p.invariant.1, omega (arith, k.lower, c.word-before.ensures.0))

pub branches-returns : goal.branches-returns
branches-returns t c = all_end _ _ _ _ _ (omega arith) c.loop-p.invariant.1

pub chain-loop-p-init : goal.chain-loop-p-init
chain-loop-p-init t c = (c.requires, going_start _ _ _ c.nothing-m.ensures, omega (arith, c.nothing-m.ensures.least), omega arith)

pub chain-before_of-before-requires : goal.chain-before_of-before-requires
chain-before_of-before-requires t c = let k = turn_at _ _ _ (omega arith) c.loop-p.invariant.0 in let b = part-begins _ _ _ k.part in (b.1, b.2)

pub chain-overflow_sub-depth : goal.chain-overflow_sub-depth
chain-overflow_sub-depth t c = let k = turn_at _ _ _ (omega arith) c.loop-p.invariant.0 in omega (arith, k.some)

pub chain-part-one-requires : goal.chain-part-one-requires
chain-part-one-requires t c = let k = turn_at _ _ _ (omega arith) c.loop-p.invariant.0 in (omega (arith, k.some), k.part)

pub chain-follow-m-requires : goal.chain-follow-m-requires
chain-follow-m-requires t c = let k = turn_at _ _ _ (omega arith) c.loop-p.invariant.0 in (found-bounded Part _ _ _ _ k.part c.part-one.ensures, c.loop-p.invariant.2)

pub chain-loop-p-smaller : goal.chain-loop-p-smaller
chain-loop-p-smaller t c = let k = turn_at _ _ _ (omega arith) c.loop-p.invariant.0 in omega (arith, k.lower, c.before_of-before.ensures)

pub chain-loop-p-preserved : goal.chain-loop-p-preserved
chain-loop-p-preserved t c = let k = turn_at _ _ _ (omega arith) c.loop-p.invariant.0 in (rw c.before_of-before.ensures k.rest, going_step _ _ _ _ _ _ _ (omega arith) c.before_of-before.ensures c.part-one.ensures c.follow-m.ensures c.loop-p.invariant.1, joined-bounded _ _ _ c.follow-m.ensures, omega (arith, k.lower, c.before_of-before.ensures))

pub chain-returns : goal.chain-returns
chain-returns t c = going_end _ _ _ _ (omega arith) c.loop-p.invariant.2 c.loop-p.invariant.1

pub inside-returns-then-p-eq0 : goal.inside-returns-then-p-eq0
inside-returns-then-p-eq0 t c = none_found _ _ _ c.if-p-eq0.true c.nothing.ensures

pub inside-offset_bounds-area-p : goal.inside-offset_bounds-area-p
inside-offset_bounds-area-p t c = let l = inside-fits _ _ _ c.if-p-eq0.false c.requires in omega arith

pub inside-bounds-area-p : goal.inside-bounds-area-p
inside-bounds-area-p t c = inside-fits _ _ _ c.if-p-eq0.false c.requires

pub inside-overflow_add-p : goal.inside-overflow_add-p
inside-overflow_add-p t c = let k = alt-at _ _ _ c.if-p-eq0.false c.if-area-p-eq-LAST.true c.requires in omega (arith, k.fits)

pub inside-word-held-requires : goal.inside-word-held-requires
inside-word-held-requires t c = let k = alt-at _ _ _ c.if-p-eq0.false c.if-area-p-eq-LAST.true c.requires in omega (arith, k.fits)

pub inside-overflow_add-p-then-area-p-eq-LAST : goal.inside-overflow_add-p-then-area-p-eq-LAST
inside-overflow_add-p-then-area-p-eq-LAST t c = let k = alt-at _ _ _ c.if-p-eq0.false c.if-area-p-eq-LAST.true c.requires in omega (arith, k.fits)

pub inside-word-before-requires : goal.inside-word-before-requires
inside-word-before-requires t c = let k = alt-at _ _ _ c.if-p-eq0.false c.if-area-p-eq-LAST.true c.requires in omega (arith, k.fits)

pub inside-chain-last-requires : goal.inside-chain-last-requires
inside-chain-last-requires t c = let k = alt-at _ _ _ c.if-p-eq0.false c.if-area-p-eq-LAST.true c.requires in (omega arith, rw c.word-held.ensures.0 k.inner)

pub inside-branches-requires : goal.inside-branches-requires
inside-branches-requires t c = let k = alt-at _ _ _ c.if-p-eq0.false c.if-area-p-eq-LAST.true c.requires in (omega arith, rw c.word-before.ensures.0 k.others)

pub inside-returns-then-area-p-eq-LAST : goal.inside-returns-then-area-p-eq-LAST
inside-returns-then-area-p-eq-LAST t c = alt-found _ _ _ _ c.if-p-eq0.false c.if-area-p-eq-LAST.true (rw c.word-held.ensures.0 at c.chain-last.ensures) (rw c.word-before.ensures.0 at c.branches.ensures)

pub inside-chain-requires : goal.inside-chain-requires
inside-chain-requires t c = (omega arith, chain-at _ _ _ c.if-area-p-eq-LAST.false c.requires)

pub inside-returns : goal.inside-returns
inside-returns t c = chain-found _ _ _ c.if-area-p-eq-LAST.false c.chain.ensures

pub part-offset_bounds-area-p : goal.part-offset_bounds-area-p
part-offset_bounds-area-p t c = let b = part-begins _ _ _ c.requires in omega (arith, b.1)

pub part-bounds-area-p : goal.part-bounds-area-p
part-bounds-area-p t c = let b = part-begins _ _ _ c.requires in omega (arith, b.1)

pub part-overflow_add-p : goal.part-overflow_add-p
part-overflow_add-p t c = let k = bracket-at _ _ _ (c.is_bracketed.ensures.0 c.if-is_bracketed.true) c.requires in omega (arith, k.fits)

pub part-word-requires : goal.part-word-requires
part-word-requires t c = let k = bracket-at _ _ _ (c.is_bracketed.ensures.0 c.if-is_bracketed.true) c.requires in omega (arith, k.fits)

pub part-inside-within-requires : goal.part-inside-within-requires
part-inside-within-requires t c = let k = bracket-at _ _ _ (c.is_bracketed.ensures.0 c.if-is_bracketed.true) c.requires in (omega arith, rw c.word.ensures.0 k.inner)

pub part-enclosed-requires : goal.part-enclosed-requires
part-enclosed-requires t c = let k = bracket-at _ _ _ (c.is_bracketed.ensures.0 c.if-is_bracketed.true) c.requires in k.fits

pub part-returns-then-is_bracketed : goal.part-returns-then-is_bracketed
part-returns-then-is_bracketed t c = bracket-found _ _ _ _ (c.is_bracketed.ensures.0 c.if-is_bracketed.true) (rw c.word.ensures.0 at c.inside-within.ensures) c.enclosed.ensures

pub part-overflow_add-p-in-10 : goal.part-overflow_add-p-in-10
part-overflow_add-p-in-10 t c = let k = plain_at _ _ _ c.in-10.is c.requires in omega (arith, k.fits)

pub part-word-requires-in-10 : goal.part-word-requires-in-10
part-word-requires-in-10 t c = let k = plain_at _ _ _ c.in-10.is c.requires in omega (arith, k.fits)

pub part-inside-requires : goal.part-inside-requires
part-inside-requires t c = let k = plain_at _ _ _ c.in-10.is c.requires in (omega arith, rw c.word-in-10.ensures.0 k.inner)

pub part-returns-in-10 : goal.part-returns-in-10
part-returns-in-10 t c = plain-found _ _ _ c.in-10.is (rw c.word-in-10.ensures.0 at c.inside.ensures)

pub part-overflow_add-p-in-7 : goal.part-overflow_add-p-in-7
part-overflow_add-p-in-7 t c = let k = repeat-at _ _ _ c.in-7.is c.requires in omega (arith, k.fits)

pub part-word-requires-in-7 : goal.part-word-requires-in-7
part-word-requires-in-7 t c = let k = repeat-at _ _ _ c.in-7.is c.requires in omega (arith, k.fits)

pub part-overflow_sub-depth : goal.part-overflow_sub-depth
part-overflow_sub-depth t c = let k = repeat-at _ _ _ c.in-7.is c.requires in omega (arith, k.some)

pub part-part-body-requires : goal.part-part-body-requires
part-part-body-requires t c = let k = repeat-at _ _ _ c.in-7.is c.requires in (omega (arith, k.some), rw c.word-in-7.ensures.0 k.body)

pub part-repeated-requires : goal.part-repeated-requires
part-repeated-requires t c = let k = repeat-at _ _ _ c.in-7.is c.requires in (k.fits, found-bounded Part _ _ _ _ k.body (rw c.word-in-7.ensures.0 at c.part-body.ensures))

pub part-returns-in-7 : goal.part-returns-in-7
part-returns-in-7 t c = repeat-found _ _ _ _ c.in-7.is (rw c.word-in-7.ensures.0 at c.part-body.ensures) c.repeated.ensures

pub part-single-requires : goal.part-single-requires
part-single-requires t c = let b = part-begins _ _ _ c.requires in b.1

pub part-returns-in_default : goal.part-returns-in_default
part-returns-in_default t c = item-found _ _ _ (c.is_bracketed.ensures.1 c.if-is_bracketed.false) (λ e. omega arith) (λ e. omega arith) c.single.ensures
