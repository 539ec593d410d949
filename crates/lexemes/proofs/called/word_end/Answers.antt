-- `word_end` meets its contract: the bytes counted are the run of word bytes.
use Rattle.std.proofs.Common.{rules, tests}
use Rattle.std.proofs.lemmas.Iterator.{YieldsList-from_slice}
use Rattle.std.proofs.lemmas.Iterator.Search.{YieldsList-from_take_while}
use Rattle.std.proofs.lemmas.Iterator.Consumers.{count_from_yields_List}
use mathlib.Core.Path.{◌∙◌}
use lib.ListN.{drop}
use Rattle.charset.specs.declared.Named.TheVariants.{Word}
use Rattle.charset.specs.Named.{in_named}
use Rattle.syntax.specs.Names.{word_at}
use Rattle.lexemes.proofs.Runs.{rest-whole, run-counted}
use Rattle.lexemes.proofs.called.word_end.Goals as goal

pub returns : goal.returns
unfolding word_at
returns c =
    run-counted (in_named Word) c.args.rule.now c.args.from c.count.result c.requires
    (count_from_yields_List c.take_while-word.result _ c.count.ensures.ran
    (YieldsList-from_take_while _ (in_named Word) (YieldsList-from_slice (drop c.args.from c.args.rule.now) (rw c.take_while-word.ensures.source (c.iter.ensures.rest ∙ rest-whole c.args.rule.now c.args.from))) c.take_while-word.ensures.closure c.take_while-word.ensures.done (λ x b q k. search (rules, tests))))
