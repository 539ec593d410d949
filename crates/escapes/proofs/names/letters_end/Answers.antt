-- `letters_end` meets its contract: the bytes counted are the run of letters.
use Rattle.std.proofs.Common.{rules, tests}
use Rattle.std.proofs.lemmas.Iterator.{YieldsList-from_slice}
use Rattle.std.proofs.lemmas.Iterator.Search.{YieldsList-from_take_while}
use Rattle.std.proofs.lemmas.Iterator.Consumers.{count_from_yields_List}
use mathlib.Core.Path.{◌∙◌}
use lib.ListN.{drop}
use Rattle.syntax.specs.Read.{between}
use Rattle.syntax.specs.Classes.{letters}
use Rattle.lexemes.proofs.Runs.{rest-whole, run-counted}
use Rattle.escapes.proofs.names.letters_end.Goals as goal

pub returns : goal.returns
unfolding letters
returns c =
    run-counted (between "a" "z") c.args.rule.now c.args.from c.count.result c.requires
    (count_from_yields_List c.take_while-letters.result _ c.count.ensures.ran
    (YieldsList-from_take_while _ (between "a" "z") (YieldsList-from_slice (drop c.args.from c.args.rule.now) (rw c.take_while-letters.ensures.source (c.iter.ensures.rest ∙ rest-whole c.args.rule.now c.args.from))) c.take_while-letters.ensures.closure c.take_while-letters.ensures.done (λ x b q k. search (rules, tests))))
