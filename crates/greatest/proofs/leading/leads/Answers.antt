-- Each return is one case of `would_lead`.
use Rattle.greatest.specs.Leading.{would_lead, kept_of}
use Rattle.greatest.proofs.leading.leads.Goals as goal

pub returns-in-Some : goal.returns-in-Some
unfolding would_lead kept_of
returns-in-Some c = λ start. rw c.in-Some.is

pub returns-in-None : goal.returns-in-None
unfolding would_lead kept_of
returns-in-None c = λ start. rw c.in-None.is
