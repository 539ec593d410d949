-- Where the byte stands for the first time, the text is cut.
use Rattle.std.proofs.Common.{◌≡◌, rules}
use Rattle.std.proofs.lemmas.Iterator.{YieldsList-from_slice, IsFirst-from_position}
use borrow.Author.Tests.{tests}
use Rattle.vectors.specs.Laws.Ends.{end-found, cut-at, cut-none}
use Rattle.vectors.specs.Laws.WordEnds.{cut-ends, cut-next}
use Rattle.vectors.proofs.cut.Goals as goal

pub returns-in-Some-clause-before : goal.returns-in-Some-clause-before
returns-in-Some-clause-before c = let a = c.args in
    (cut-at a.end a.text.now _ (rw c.in-Some.is at (end-found a.end a.text.now c.position.result (IsFirst-from_position _ _ _ (λ b. b ≡ a.end) (λ b. b ≡ a.end → ⊥) c.position.ensures.ran (YieldsList-from_slice a.text.now cc) (λ x q k. search (rules, tests)) (λ x q k. search (rules, tests)))))).0

pub returns-in-Some-clause-behind : goal.returns-in-Some-clause-behind
returns-in-Some-clause-behind c = let a = c.args in
    (cut-at a.end a.text.now _ (rw c.in-Some.is at (end-found a.end a.text.now c.position.result (IsFirst-from_position _ _ _ (λ b. b ≡ a.end) (λ b. b ≡ a.end → ⊥) c.position.ensures.ran (YieldsList-from_slice a.text.now cc) (λ x q k. search (rules, tests)) (λ x q k. search (rules, tests)))))).1

pub returns-in-None-clause-before : goal.returns-in-None-clause-before
returns-in-None-clause-before c = let a = c.args in
    (cut-none a.end a.text.now (rw c.in-None.is at (end-found a.end a.text.now c.position.result (IsFirst-from_position _ _ _ (λ b. b ≡ a.end) (λ b. b ≡ a.end → ⊥) c.position.ensures.ran (YieldsList-from_slice a.text.now cc) (λ x q k. search (rules, tests)) (λ x q k. search (rules, tests)))))).0

pub returns-in-None-clause-behind : goal.returns-in-None-clause-behind
returns-in-None-clause-behind c = let a = c.args in
    (cut-none a.end a.text.now (rw c.in-None.is at (end-found a.end a.text.now c.position.result (IsFirst-from_position _ _ _ (λ b. b ≡ a.end) (λ b. b ≡ a.end → ⊥) c.position.ensures.ran (YieldsList-from_slice a.text.now cc) (λ x q k. search (rules, tests)) (λ x q k. search (rules, tests)))))).1

pub returns-in-Some-clause-ends : goal.returns-in-Some-clause-ends
returns-in-Some-clause-ends c = cut-ends c.args.end c.args.text.now _ (returns-in-Some-clause-before c)

pub returns-in-Some-clause-next : goal.returns-in-Some-clause-next
returns-in-Some-clause-next c = cut-next c.args.end c.args.text.now _ (returns-in-Some-clause-behind c)

pub returns-in-None-clause-ends : goal.returns-in-None-clause-ends
returns-in-None-clause-ends c = cut-ends c.args.end c.args.text.now _ (returns-in-None-clause-before c)

pub returns-in-None-clause-next : goal.returns-in-None-clause-next
returns-in-None-clause-next c = cut-next c.args.end c.args.text.now _ (returns-in-None-clause-behind c)
