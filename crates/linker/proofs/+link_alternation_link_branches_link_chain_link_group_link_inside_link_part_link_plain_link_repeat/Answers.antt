-- `link_alternation`: the last branch's inside, its node, then the branches before it, which stand as they stood.
-- `link_branches`: the loop's invariant is that whatever is made of the branches that are left makes all; its measure is the position.
-- `link_chain`: the loop's invariant is that whatever is made of the parts that are left makes the sequence; its measure is the position.
-- `link_group`: the inside stands below the node, so that its position falls.
-- `link_inside`: its tests tell nothing, an alternation and a sequence apart.
-- `link_part`: each test leaves one kind of node, and the kind's own function has the promise; what is left are items.
-- `link_plain`: the inside stands below the node, and is linked in the node's stead.
-- `link_repeat`: the body stands below the node, so that its position falls.
use native.Mathlib.Omega.{arith}
use Rattle.syntax.specs.Limits.{rule_area_need, registers, spans_length, group_limit, height_limit, nesting_limit}
use Rattle.linker.proofs.Made.{links-near}
use Rattle.linker.proofs.Insides.{alt-at, alt-others, alt-links, none-links, chain-stands, chain-links, inside-fits}
use mathlib.Core.Path.{refl, ◌∙◌, sym}
use Rattle.linker.proofs.Branches.{all_start, all-turn, all-step, all_end}
use Rattle.linker.proofs.Chains.{going_start, going-turn, going_step, going_end}
use Rattle.linker.proofs.Items.{begins, reference-fits, named-fits, reference-links, named-links, item-links}
use Rattle.linker.proofs.Groups.{group_at, group-links}
use Rattle.linker.proofs.Plains.{plain_at, plain-links}
use mathlib.Core.Logic.{⊎_elim}
use Rattle.linker.proofs.Repeats.{repeat-at, repeat-links}
use Rattle.linker.proofs.+link_alternation_link_branches_link_chain_link_group_link_inside_link_part_link_plain_link_repeat.Goals as goal

pub link_alternation-overflow_add-p : goal.link_alternation-overflow_add-p
link_alternation-overflow_add-p t c = let g = alt-at _ _ _ _ _ _ c.requires.2 c.requires.3 c.requires.0 in omega (arith, g.0.fits)

pub link_alternation-word-inside-requires : goal.link_alternation-word-inside-requires
link_alternation-word-inside-requires t c = let g = alt-at _ _ _ _ _ _ c.requires.2 c.requires.3 c.requires.0 in omega (arith, g.0.fits)

pub link_alternation-overflow_add-p-2 : goal.link_alternation-overflow_add-p-2
link_alternation-overflow_add-p-2 t c = let g = alt-at _ _ _ _ _ _ c.requires.2 c.requires.3 c.requires.0 in omega (arith, g.0.fits)

pub link_alternation-word-before-requires : goal.link_alternation-word-before-requires
link_alternation-word-before-requires t c = let g = alt-at _ _ _ _ _ _ c.requires.2 c.requires.3 c.requires.0 in omega (arith, g.0.fits)

pub link_alternation-link_chain-entry-requires : goal.link_alternation-link_chain-entry-requires
link_alternation-link_chain-entry-requires t c = let g = alt-at _ _ _ _ _ _ c.requires.2 c.requires.3 c.requires.0 in (omega (arith, g.0.lower, c.word-inside.ensures.0), (rw c.word-inside.ensures.0 g.0.inside, c.requires.1))

pub link_alternation-overflow_add-p-3 : goal.link_alternation-overflow_add-p-3
link_alternation-overflow_add-p-3 t c = let g = alt-at _ _ _ _ _ _ c.requires.2 c.requires.3 c.requires.0 in omega (arith, g.0.fits)

pub link_alternation-put_two-requires : goal.link_alternation-put_two-requires
unfolding rule_area_need
link_alternation-put_two-requires t c = let g = alt-at _ _ _ _ _ _ c.requires.2 c.requires.3 c.requires.0 in (omega (arith, g.0.fits, c.link_chain-entry.auto.area), omega (arith, links-near _ _ _ _ _ _ _ _ _ _ c.requires.1 (rw c.word-inside.ensures.0 g.0.inside) c.link_chain-entry.ensures), omega arith)

pub link_alternation-link_branches-requires : goal.link_alternation-link_branches-requires
link_alternation-link_branches-requires t c = let g = alt-at _ _ _ _ _ _ c.requires.2 c.requires.3 c.requires.0 in (omega (arith, g.1, c.word-before.ensures.0), (rw c.word-before.ensures.0 (alt-others _ _ _ _ _ _ c.requires.2 c.requires.3 _ _ _ _ _ _ _ (rw c.word-inside.ensures.0 at c.link_chain-entry.ensures) c.put_two.ensures c.requires.0), omega (arith, g.0.small), c.requires.1))

pub link_alternation-returns : goal.link_alternation-returns
link_alternation-returns t c = alt-links _ _ _ _ _ _ c.requires.2 c.requires.3 _ _ _ _ _ _ _ (rw c.word-inside.ensures.0 at c.link_chain-entry.ensures) c.put_two.ensures _ _ _ (rw c.word-before.ensures.0 at c.link_branches.ensures)

pub link_branches-loop-p-init : goal.link_branches-loop-p-init
link_branches-loop-p-init t c = (all_start _ _ _ _ _ _ _ _ _, refl, omega arith)

pub link_branches-overflow_add-p : goal.link_branches-overflow_add-p
link_branches-overflow_add-p t c = let k = all-turn _ _ _ _ _ _ _ _ _ _ _ _ _ (omega arith) c.requires.1 c.requires.0 c.loop-p.invariant.0 in omega (arith, k.branch.fits)

pub link_branches-word-inside-requires : goal.link_branches-word-inside-requires
link_branches-word-inside-requires t c = let k = all-turn _ _ _ _ _ _ _ _ _ _ _ _ _ (omega arith) c.requires.1 c.requires.0 c.loop-p.invariant.0 in omega (arith, k.branch.fits)

pub link_branches-overflow_add-p-in-loop-p : goal.link_branches-overflow_add-p-in-loop-p
link_branches-overflow_add-p-in-loop-p t c = let k = all-turn _ _ _ _ _ _ _ _ _ _ _ _ _ (omega arith) c.requires.1 c.requires.0 c.loop-p.invariant.0 in omega (arith, k.branch.fits)

pub link_branches-word-before-requires : goal.link_branches-word-before-requires
link_branches-word-before-requires t c = let k = all-turn _ _ _ _ _ _ _ _ _ _ _ _ _ (omega arith) c.requires.1 c.requires.0 c.loop-p.invariant.0 in omega (arith, k.branch.fits)

pub link_branches-link_chain-entry-requires : goal.link_branches-link_chain-entry-requires
link_branches-link_chain-entry-requires t c = let k = all-turn _ _ _ _ _ _ _ _ _ _ _ _ _ (omega arith) c.requires.1 c.requires.0 c.loop-p.invariant.0 in (omega (arith, k.branch.lower, c.word-inside.ensures.0), (rw c.word-inside.ensures.0 k.branch.inside, c.requires.2))

pub link_branches-overflow_add-p-in-loop-p-2 : goal.link_branches-overflow_add-p-in-loop-p-2
link_branches-overflow_add-p-in-loop-p-2 t c = let k = all-turn _ _ _ _ _ _ _ _ _ _ _ _ _ (omega arith) c.requires.1 c.requires.0 c.loop-p.invariant.0 in omega (arith, k.branch.fits)

pub link_branches-put_two-requires : goal.link_branches-put_two-requires
unfolding rule_area_need
link_branches-put_two-requires t c = let k = all-turn _ _ _ _ _ _ _ _ _ _ _ _ _ (omega arith) c.requires.1 c.requires.0 c.loop-p.invariant.0 in (omega (arith, k.branch.fits, c.link_chain-entry.auto.area), omega (arith, links-near _ _ _ _ _ _ _ _ _ _ c.requires.2 (rw c.word-inside.ensures.0 k.branch.inside) c.link_chain-entry.ensures), omega (arith, k.near))

pub link_branches-loop-p-smaller : goal.link_branches-loop-p-smaller
link_branches-loop-p-smaller t c = let k = all-turn _ _ _ _ _ _ _ _ _ _ _ _ _ (omega arith) c.requires.1 c.requires.0 c.loop-p.invariant.0 in omega (arith, k.lower, c.word-before.ensures.0)

pub link_branches-loop-p-preserved : goal.link_branches-loop-p-preserved
link_branches-loop-p-preserved t c = let k = all-turn _ _ _ _ _ _ _ _ _ _ _ _ _ (omega arith) c.requires.1 c.requires.0 c.loop-p.invariant.0 in (all-step _ _ _ _ _ _ _ _ _ _ _ _ _ _ _ _ _ _ (omega arith) c.word-before.ensures.0 (rw c.word-inside.ensures.0 at c.link_chain-entry.ensures) c.put_two.ensures c.loop-p.invariant.0, c.put_two.auto.area ∙ c.link_chain-entry.auto.area ∙ c.loop-p.invariant.1, omega (arith, k.lower, c.word-before.ensures.0))

pub link_branches-returns : goal.link_branches-returns
link_branches-returns t c = all_end _ _ _ _ _ _ _ _ _ _ _ _ _ (omega arith) c.loop-p.invariant.0

pub link_chain-loop-p-init : goal.link_chain-loop-p-init
link_chain-loop-p-init t c = (going_start _ _ _ _ _ _ _ _, refl, omega arith)

pub link_chain-before_of-before-requires : goal.link_chain-before_of-before-requires
link_chain-before_of-before-requires t c = let k = going-turn _ _ _ _ _ _ _ _ _ _ _ _ (omega arith) c.requires.1 c.requires.0 c.loop-p.invariant.0 in let b = begins _ _ _ _ _ _ k.part in (b.fits, b.longer)

pub link_chain-link_part-pc-requires : goal.link_chain-link_part-pc-requires
link_chain-link_part-pc-requires t c = let k = going-turn _ _ _ _ _ _ _ _ _ _ _ _ (omega arith) c.requires.1 c.requires.0 c.loop-p.invariant.0 in (omega arith, (k.part, k.near))

pub link_chain-loop-p-smaller : goal.link_chain-loop-p-smaller
link_chain-loop-p-smaller t c = let k = going-turn _ _ _ _ _ _ _ _ _ _ _ _ (omega arith) c.requires.1 c.requires.0 c.loop-p.invariant.0 in omega (arith, c.before_of-before.ensures)

pub link_chain-loop-p-preserved : goal.link_chain-loop-p-preserved
link_chain-loop-p-preserved t c = let k = going-turn _ _ _ _ _ _ _ _ _ _ _ _ (omega arith) c.requires.1 c.requires.0 c.loop-p.invariant.0 in (going_step _ _ _ _ _ _ _ _ _ _ _ _ _ _ _ _ (omega arith) c.before_of-before.ensures c.link_part-pc.ensures c.loop-p.invariant.0, c.link_part-pc.auto.area ∙ c.loop-p.invariant.1, omega (arith, c.before_of-before.ensures))

pub link_chain-returns : goal.link_chain-returns
link_chain-returns t c = going_end _ _ _ _ _ _ _ _ _ _ _ _ (omega arith) c.loop-p.invariant.0

pub link_group-overflow_add-p : goal.link_group-overflow_add-p
link_group-overflow_add-p t c = let g = group_at _ _ _ _ _ _ c.requires.0 c.requires.2 in omega arith

pub link_group-word-inside-requires : goal.link_group-word-inside-requires
link_group-word-inside-requires t c = let g = group_at _ _ _ _ _ _ c.requires.0 c.requires.2 in omega arith

pub link_group-overflow_add-r : goal.link_group-overflow_add-r
unfolding registers spans_length group_limit height_limit nesting_limit
link_group-overflow_add-r t c = let g = group_at _ _ _ _ _ _ c.requires.0 c.requires.2 in omega arith

pub link_group-link_inside-entry-requires : goal.link_group-link_inside-entry-requires
link_group-link_inside-entry-requires t c = let g = group_at _ _ _ _ _ _ c.requires.0 c.requires.2 in (omega (arith, c.word-inside.ensures.0), (rw c.word-inside.ensures.0 g.inside, omega arith))

pub link_group-close_group-requires : goal.link_group-close_group-requires
link_group-close_group-requires t c = let g = group_at _ _ _ _ _ _ c.requires.0 c.requires.2 in (omega (arith, c.link_inside-entry.auto.area), c.requires.1, omega arith, links-near _ _ _ _ _ _ _ _ _ _ (omega arith) (rw c.word-inside.ensures.0 g.inside) c.link_inside-entry.ensures, λ e. omega (arith, g.longer (sym (g.behind _ _ _ _ _ (rw c.word-inside.ensures.0 at c.link_inside-entry.ensures)) ∙ e), c.link_inside-entry.auto.area))

pub link_group-overflow_add-result : goal.link_group-overflow_add-result
link_group-overflow_add-result t c = let g = group_at _ _ _ _ _ _ c.requires.0 c.requires.2 in omega arith

pub link_group-returns : goal.link_group-returns
link_group-returns t c = group-links _ _ _ _ _ _ _ _ _ _ _ _ c.requires.2 (rw c.word-inside.ensures.0 at c.link_inside-entry.ensures) c.close_group.ensures

pub link_inside-returns-then-p-eq0 : goal.link_inside-returns-then-p-eq0
link_inside-returns-then-p-eq0 t c = none-links _ _ _ _ _ _ _ _ c.if-p-eq0.true

pub link_inside-offset_bounds-area-p : goal.link_inside-offset_bounds-area-p
link_inside-offset_bounds-area-p t c = let b = inside-fits _ _ _ _ _ _ (omega arith) c.requires.0 in omega arith

pub link_inside-bounds-area-p : goal.link_inside-bounds-area-p
link_inside-bounds-area-p t c = inside-fits _ _ _ _ _ _ (omega arith) c.requires.0

pub link_inside-link_alternation-requires : goal.link_inside-link_alternation-requires
link_inside-link_alternation-requires t c = (omega arith, (c.requires.0, c.requires.1, omega arith, c.if-area-p-eq-LAST.true))

pub link_inside-link_chain-requires : goal.link_inside-link_chain-requires
link_inside-link_chain-requires t c = (omega arith, (chain-stands _ _ _ _ _ _ c.if-area-p-eq-LAST.false c.requires.0, c.requires.1))

pub link_inside-returns : goal.link_inside-returns
link_inside-returns t c = chain-links _ _ _ _ _ _ _ _ _ _ _ c.if-area-p-eq-LAST.false c.link_chain.ensures

pub link_part-offset_bounds-area-p : goal.link_part-offset_bounds-area-p
link_part-offset_bounds-area-p t c = let b = begins _ _ _ _ _ _ c.requires.0 in omega arith

pub link_part-bounds-area-p : goal.link_part-bounds-area-p
link_part-bounds-area-p t c = let b = begins _ _ _ _ _ _ c.requires.0 in omega arith

pub link_part-link_group-requires : goal.link_part-link_group-requires
link_part-link_group-requires t c = (omega arith, (c.requires.0, c.requires.1, c.is_bracketed.ensures.0 c.if-is_bracketed.true))

pub link_part-link_repeat-requires : goal.link_part-link_repeat-requires
link_part-link_repeat-requires t c = (omega arith, (c.requires.0, c.requires.1, c.in-7.is))

pub link_part-link_plain-requires : goal.link_part-link_plain-requires
link_part-link_plain-requires t c = (omega arith, (c.requires.0, c.requires.1, c.in-10.is))

pub link_part-link_reference-requires : goal.link_part-link_reference-requires
link_part-link_reference-requires t c = let x = reference-fits _ _ _ _ _ _ c.requires.0 c.in-11.is in (x.0, c.requires.1, x.1)

pub link_part-returns-in-11 : goal.link_part-returns-in-11
link_part-returns-in-11 t c = reference-links _ _ _ _ _ _ _ _ _ _ c.in-11.is c.link_reference.ensures

pub link_part-link_named-requires : goal.link_part-link_named-requires
link_part-link_named-requires t c = let x = named-fits _ _ _ _ _ _ c.requires.0 c.in-2.is in (x.0, x.1, x.2, c.requires.1)

pub link_part-returns-in-2 : goal.link_part-returns-in-2
link_part-returns-in-2 t c = named-links _ _ _ _ _ _ _ _ _ _ _ c.in-2.is c.link_named.ensures

pub link_part-overflow_add-p : goal.link_part-overflow_add-p
link_part-overflow_add-p t c = let b = begins _ _ _ _ _ _ c.requires.0 in omega arith

pub link_part-put-requires : goal.link_part-put-requires
unfolding rule_area_need
link_part-put-requires t c = let b = begins _ _ _ _ _ _ c.requires.0 in (omega arith, omega (arith, c.requires.1))

pub link_part-returns-in_default-2 : goal.link_part-returns-in_default-2
link_part-returns-in_default-2 t c = item-links _ _ _ _ _ _ _ _ _ (c.is_bracketed.ensures.1 c.if-is_bracketed.false) (λ e. omega arith) (λ e. omega arith) (λ e. omega arith) (λ e. omega arith) c.put.ensures

pub link_plain-overflow_add-p : goal.link_plain-overflow_add-p
link_plain-overflow_add-p t c = let g = plain_at _ _ _ _ _ _ c.requires.0 c.requires.2 in omega arith

pub link_plain-word-inside-requires : goal.link_plain-word-inside-requires
link_plain-word-inside-requires t c = let g = plain_at _ _ _ _ _ _ c.requires.0 c.requires.2 in omega arith

pub link_plain-link_inside-requires : goal.link_plain-link_inside-requires
link_plain-link_inside-requires t c = let g = plain_at _ _ _ _ _ _ c.requires.0 c.requires.2 in (omega (arith, c.word-inside.ensures.0), (rw c.word-inside.ensures.0 g.inside, c.requires.1))

pub link_plain-returns : goal.link_plain-returns
link_plain-returns t c = plain-links _ _ _ _ _ _ _ _ _ _ _ c.requires.2 (rw c.word-inside.ensures.0 at c.link_inside.ensures)

pub link_repeat-overflow_add-p : goal.link_repeat-overflow_add-p
link_repeat-overflow_add-p t c = let g = repeat-at _ _ _ _ _ _ c.requires.0 c.requires.2 in omega arith

pub link_repeat-word-body-requires : goal.link_repeat-word-body-requires
link_repeat-word-body-requires t c = let g = repeat-at _ _ _ _ _ _ c.requires.0 c.requires.2 in omega arith

pub link_repeat-entry_kind-kind-requires : goal.link_repeat-entry_kind-kind-requires
link_repeat-entry_kind-kind-requires t c = let g = repeat-at _ _ _ _ _ _ c.requires.0 c.requires.2 in (omega arith, omega (arith, c.word-body.ensures.0), rw c.word-body.ensures.0 g.deeper)

pub link_repeat-overflow_add-p-2 : goal.link_repeat-overflow_add-p-2
link_repeat-overflow_add-p-2 t c = let g = repeat-at _ _ _ _ _ _ c.requires.0 c.requires.2 in omega arith

pub link_repeat-overflow_add-r : goal.link_repeat-overflow_add-r
unfolding registers spans_length group_limit height_limit nesting_limit
link_repeat-overflow_add-r t c = let g = repeat-at _ _ _ _ _ _ c.requires.0 c.requires.2 in omega arith

pub link_repeat-link_part-entry-requires : goal.link_repeat-link_part-entry-requires
link_repeat-link_part-entry-requires t c = let g = repeat-at _ _ _ _ _ _ c.requires.0 c.requires.2 in (omega (arith, c.word-body.ensures.0), (rw c.word-body.ensures.0 g.body, omega arith))

pub link_repeat-close_repeat-requires : goal.link_repeat-close_repeat-requires
link_repeat-close_repeat-requires t c = let g = repeat-at _ _ _ _ _ _ c.requires.0 c.requires.2 in (omega (arith, c.link_part-entry.auto.area), ⊎_elim (λ e. omega arith) (λ e. omega arith) c.entry_kind-kind.ensures, c.requires.1, omega arith, links-near _ _ _ _ _ _ _ _ _ _ (omega arith) (rw c.word-body.ensures.0 g.body) c.link_part-entry.ensures)

pub link_repeat-returns : goal.link_repeat-returns
link_repeat-returns t c = repeat-links _ _ _ _ _ _ _ _ _ _ _ _ _ c.requires.2 (rw c.word-body.ensures.0 at c.entry_kind-kind.ensures) (rw c.word-body.ensures.0 at c.link_part-entry.ensures) c.close_repeat.ensures
