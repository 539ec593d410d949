-- A line within the limit is matched, and where there is a match, listed; by the row and the listing the word is decided.
use mathlib.Core.Path.{refl}
use native.Mathlib.Omega.{arith}
use Prim.Native.Nat.{◌≤◌, ◌<◌}
use lib.ListN.{length}
use Rattle.syntax.specs.Limits.{subject_limit, group_limit, spans_length, row_length}
use Rattle.semantics.specs.Calls.{room}
use Rattle.fields_columns.specs.Columns.{names_from}
use Rattle.fields_line.specs.Laws.Listings.{rows-within}
use Rattle.fields_line.specs.Laws.Answers.{lent-held, answers-long, answers-missed, answers-spent, answers-found, never-denied}
use Rattle.fields_line.proofs.asking.ask.Goals as goal

pub returns-then-line-gt-SUBJECT_LIMIT : goal.returns-then-line-gt-SUBJECT_LIMIT
unfolding subject_limit
returns-then-line-gt-SUBJECT_LIMIT c = let a = c.args in
    let long : subject_limit < length a.line.now = omega arith in
    λ rule stands formed. answers-long (record { rule = rule; index = a.names.now; budget = a.budget; room = room a.results.now; names = names_from a.columns.now 0 a.count; standing = a.standing.now }) a.line.now long a.row.now

pub match_held-outcome-requires : goal.match_held-outcome-requires
unfolding subject_limit
match_held-outcome-requires c = let a = c.args in
    let short : length a.line.now ≤ subject_limit = omega arith in
    (lent-held c.requires.lent a.line.now _ short refl, omega (arith, c.requires.row_len))

pub list_held-listing-requires : goal.list_held-listing-requires
unfolding subject_limit
list_held-listing-requires c = let a = c.args in
    let short : length a.line.now ≤ subject_limit = omega arith in
    lent-held c.requires.lent a.line.now _ short (omega arith)

pub decide-requires : goal.decide-requires
unfolding row_length spans_length group_limit
decide-requires c = let a = c.args in
    let lent = c.requires.lent in
    let l = c.list_held-listing in
    record {
      columned = c.requires.columned;
      row_len = (omega (arith, c.requires.row_len), omega (arith, rows-within a.line.now lent.tree a.budget a.results.now _ l.result (l.ensures.lists lent.tree lent.stands)));
    }

pub returns-in-NotMatched : goal.returns-in-NotMatched
unfolding subject_limit
returns-in-NotMatched c = let a = c.args in
    let short : length a.line.now ≤ subject_limit = omega arith in
    λ rule stands formed. answers-missed (record { rule = rule; index = a.names.now; budget = a.budget; room = room a.results.now; names = names_from a.columns.now 0 a.count; standing = a.standing.now }) a.line.now short a.row.now _ c.match_held-outcome.result (c.match_held-outcome.ensures.finds rule stands) _ c.in-NotMatched.is _

pub returns-in-Exhausted : goal.returns-in-Exhausted
unfolding subject_limit
returns-in-Exhausted c = let a = c.args in
    let short : length a.line.now ≤ subject_limit = omega arith in
    λ rule stands formed. answers-spent (record { rule = rule; index = a.names.now; budget = a.budget; room = room a.results.now; names = names_from a.columns.now 0 a.count; standing = a.standing.now }) a.line.now short a.row.now _ c.match_held-outcome.result (c.match_held-outcome.ensures.finds rule stands) _ _ c.in-Exhausted.is _

pub returns-in-Refused : goal.returns-in-Refused
returns-in-Refused c = λ rule stands formed. absurd (never-denied c.args.row.now _ c.match_held-outcome.result _ (c.match_held-outcome.ensures.finds rule stands) _ c.in-Refused.is)

pub returns-in-Matched : goal.returns-in-Matched
unfolding subject_limit
returns-in-Matched c = let a = c.args in
    let short : length a.line.now ≤ subject_limit = omega arith in
    let l = c.list_held-listing in
    let m = c.match_held-outcome in
    λ rule stands formed. answers-found rule a.groups a.budget formed a.names.now a.standing.now (names_from a.columns.now 0 a.count) a.line.now short a.row.now _ m.result (m.ensures.finds rule stands) _ c.in-Matched.is c.requires.row_len a.results.now _ l.result (l.ensures.lists rule stands) _ c.decide.ensures
