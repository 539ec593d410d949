-- What is written by a rule that stands.
use Rattle.std.specs.Prelude.{◌≡◌, List, [], ℕ}
use Rattle.gateway_answers.specs.Answers.{gateway_rule}
use Rattle.gateway_line.specs.Gateway.{answers, with_rule}
use Rattle.gateway_answers.specs.Promises.{Standing}

-- what is still to be written by a rule that stands is what the program writes
pub standing_answers : {rule code : List ℕ} {entry groups : ℕ} (h : Standing rule code entry groups) (input : List ℕ) → with_rule (gateway_rule rule) input ≡ answers (h.tree, groups) [] input
unfolding with_rule
standing_answers h input = rw h.reads.1
