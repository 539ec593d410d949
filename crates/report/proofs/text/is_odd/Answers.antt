-- What `any` answers is what the definition asks of one byte after another.
use Rattle.std.proofs.Common.{not, rules, ◌∙◌}
use Rattle.std.proofs.lemmas.Iterator.{YieldsList-from_slice}
use Rattle.std.proofs.lemmas.Iterator.Search.{any_from_yields_List}
use borrow.Author.Tests.{tests}
use Rattle.report.specs.Text.{is_printed}
use Rattle.report.specs.Laws.Text.{odd-is_any}
use Rattle.report.proofs.text.is_odd.Goals as goal

pub returns : goal.returns
returns c = any_from_yields_List (λ b. not (is_printed b)) _ _ _ c.any.ensures.ran (YieldsList-from_slice c.args.line.now cc) (λ x b q k. search (rules, tests)) ∙ odd-is_any c.args.line.now
