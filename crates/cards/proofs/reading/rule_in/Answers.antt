-- By cases on what is found: of what is no card nothing is told, nor of a rule that is too long; else the rule is gathered.
use mathlib.Core.Path.{subst}
use native.Mathlib.Omega.{arith}
use lib.ListN.{length}
use Rattle.card_format.specs.CardDemands.{Bytes}
use Rattle.card_records.specs.Walking.{Finds}
use Rattle.cards.specs.Laws.Returning.{found_none, nothing-told, found-text, found-size, found-rule, found-crowded}
use Rattle.cards.proofs.reading.rule_in.Goals as goal

pub returns-then-area-size : goal.returns-then-area-size
returns-then-area-size c = let a = c.args in
    let z = subst (Finds a.card.now) c.in-Ok.is c.find_card.ensures in
    let bytes : Bytes a.card.now = λ i. omega (arith, c.type_inv.card i) in
    let n = nothing-told _ a.area.now (found-crowded z bytes a.area.now (omega arith)) in
    (n.0, n.1, omega arith)

pub gather-requires : goal.gather-requires
gather-requires c = let a = c.args in
    let z = subst (Finds a.card.now) c.in-Ok.is c.find_card.ensures in
    let bytes : Bytes a.card.now = λ i. omega (arith, c.type_inv.card i) in
    (found-size z bytes, found-text z bytes, omega arith)

pub returns-in-Err : goal.returns-in-Err
returns-in-Err c = let a = c.args in
    let e = subst (Finds a.card.now) c.in-Err.is c.find_card.ensures in
    let n = nothing-told _ a.area.now (found_none a.card.now _ (length a.area.now) e) in
    (n.0, n.1, omega arith)

pub returns-else-area-size : goal.returns-else-area-size
returns-else-area-size c = let a = c.args in
    let z = subst (Finds a.card.now) c.in-Ok.is c.find_card.ensures in
    let bytes : Bytes a.card.now = λ i. omega (arith, c.type_inv.card i) in
    let n = found-rule z bytes a.area.now _ (omega arith) c.gather.ensures in
    (n.0, n.1, omega arith)
