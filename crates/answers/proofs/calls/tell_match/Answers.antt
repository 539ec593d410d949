-- `tell_match` meets its contract: each case of the outcome has the numbers of its own law.
use mathlib.Core.Path.{◌∙◌}
use Rattle.answers.specs.Laws.{of-matched, of-not-matched, of-spent, of-refused, match-place}
use Rattle.answers.proofs.calls.tell_match.Goals as goal

pub tell_refusal-requires : goal.tell_refusal-requires
tell_refusal-requires c = match-place _ _ c.in-Refused.is c.requires

pub returns-in-Matched : goal.returns-in-Matched
returns-in-Matched c = c.tell.ensures ∙ of-matched _ _ c.in-Matched.is

pub returns-in-NotMatched : goal.returns-in-NotMatched
returns-in-NotMatched c = c.tell-in-NotMatched.ensures ∙ of-not-matched _ _ c.in-NotMatched.is

pub returns-in-Exhausted : goal.returns-in-Exhausted
returns-in-Exhausted c = c.tell-in-Exhausted.ensures ∙ of-spent _ _ _ c.in-Exhausted.is

pub returns-in-Refused : goal.returns-in-Refused
returns-in-Refused c = c.tell_refusal.ensures ∙ of-refused _ _ c.in-Refused.is
