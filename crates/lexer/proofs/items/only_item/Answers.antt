-- `only_item` meets its contract: the member is added to no byte.
use Rattle.syntax.specs.Sets.{only}
use Rattle.escapes.specs.Says.{member_of}
use Rattle.lexer.proofs.ItemCases.{holds-only}
use Rattle.lexer.proofs.items.only_item.Goals as goal

pub returns : goal.returns
returns c = λ s known.
    c.byte_item.ensures s _ known (only (member_of c.args.m)) (holds-only _ (member_of c.args.m) _ _ c.empty.ensures c.with_member-class.ensures)
