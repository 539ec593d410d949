-- The numbers of a card are read where they stand in what is written of it; then come the refusals before the rule is read.
use native.Mathlib.Omega.{arith}
use lib.ListN.{get_or}
use Rattle.card_format.specs.CardDemands.{Bytes, card_of}
use Rattle.cards.specs.Answers.{read_of}
use Rattle.cards.specs.Laws.Returning.{is-unfit, is-fit, read-unfit, found-long, found-card}
use Rattle.cards.proofs.reading.read_found.Goals as goal

pub bounds-card-1 : goal.bounds-card-1
bounds-card-1 c = let bytes : Bytes c.args.card.now = λ i. omega (arith, c.type_inv.card i) in
    omega (arith, found-long c.requires.0 bytes)

pub two_bytes-requires : goal.two_bytes-requires
two_bytes-requires c = let bytes : Bytes c.args.card.now = λ i. omega (arith, c.type_inv.card i) in
    omega (arith, found-long c.requires.0 bytes)

pub bounds-card-4 : goal.bounds-card-4
bounds-card-4 c = let bytes : Bytes c.args.card.now = λ i. omega (arith, c.type_inv.card i) in
    omega (arith, found-long c.requires.0 bytes)

pub read_fitting-requires : goal.read_fitting-requires
read_fitting-requires c = let a = c.args in
    let z = c.requires.0 in
    let bytes : Bytes a.card.now = λ i. omega (arith, c.type_inv.card i) in (
      record {
        rule = z.said.rule;
        is = found-card z bytes _ c.two_bytes.ensures.0;
        sized = z.sized;
        fits = is-fit z.said.rule _ _ a.rule_area.now _ (rw z.sized c.unfit.ensures) _ c.in-Ok.is;
      },
      c.requires.1,
    )

pub returns-in-Err : goal.returns-in-Err
unfolding read_of
returns-in-Err c = let a = c.args in
    let z = c.requires.0 in
    let bytes : Bytes a.card.now = λ i. omega (arith, c.type_inv.card i) in
    let k = card_of z.said.rule (get_or a.card.now 1 0) c.two_bytes.result (get_or a.card.now 4 0) in
    rw c.at.ensures (read-unfit a.card.now a.rule_area.now a.area.now c.requires.1 k (found-card z bytes _ c.two_bytes.ensures.0) _ (rw z.sized (is-unfit _ _ c.unfit.ensures _ c.in-Err.is)))
