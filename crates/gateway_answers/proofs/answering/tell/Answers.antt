-- One line for each outcome.
use Rattle.finding.specs.Outcomes.{outcome_of}
use Rattle.gateway_answers.specs.Promises.{told_line}
use Rattle.gateway_answers.proofs.answering.tell.Goals as goal

pub returns-in-Matched : goal.returns-in-Matched
unfolding outcome_of told_line
returns-in-Matched c = rw c.in-Matched.is c.write_matched.ensures

pub returns-in-NotMatched : goal.returns-in-NotMatched
unfolding outcome_of told_line
returns-in-NotMatched c = rw c.in-NotMatched.is c.write_not_matched.ensures

pub returns-in-Exhausted : goal.returns-in-Exhausted
unfolding outcome_of told_line
returns-in-Exhausted c = rw c.in-Exhausted.is c.write_exhausted.ensures

pub returns-in-Refused : goal.returns-in-Refused
unfolding outcome_of told_line
returns-in-Refused c = rw c.in-Refused.is c.write_refusal.ensures
