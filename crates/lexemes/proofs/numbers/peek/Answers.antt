-- `peek` meets its contract: within the rule it gives the byte read, and past the end 256, which the definition says there.
use mathlib.Core.Path.{sym}
use native.Mathlib.Omega.{arith}
use Rattle.syntax.specs.Laws.Fuel.{byte_past}
use Rattle.lexemes.proofs.Bytes.{byte_at}
use Rattle.lexemes.proofs.numbers.peek.Goals as goal

pub overflow_cast-result : goal.overflow_cast-result
overflow_cast-result c = omega (arith, c.type_inv.rule c.args.at)

pub returns-then-at-rule : goal.returns-then-at-rule
returns-then-at-rule c = let a = c.args in
    record {
      is = byte_at a.rule.now a.at c.if-at-rule.true;
      most = omega (arith, c.type_inv.rule a.at);
      near = omega arith;
    }

pub returns-else-at-rule : goal.returns-else-at-rule
returns-else-at-rule c = let a = c.args in
    record {
      is = sym (byte_past a.rule.now a.at c.if-at-rule.false);
      most = omega arith;
      near = omega arith;
    }
