-- The whole program on small inputs, computed from its definition: 01's own example, and the inputs that tell the readings of its open
-- points apart (docs/DECISIONS.md, "Gateway"). One statement over one list.
-- docs/REFERENCE.md, 19.1
use Rattle.std.specs.Prelude.{◌≡◌, refl, List, [], ◌∷◌, ◌++◌, map, ℕ, replicate}
use Rattle.std.proofs.Math.Option.{Option, none, some}
use Rattle.syntax.specs.Read.{bytes}
use Rattle.semantics.specs.Computing.{computing_calls}
use Rattle.text.specs.Lines.{newline, line_length}
use Rattle.text.specs.Numbers.{decimal_within, decimal}
use Rattle.gateway_text.specs.Lines.{line, span, spans, matched_line, not_matched_line, exhausted_line, too_long_line, refusal_line, unreadable_line, outcome_line}
use Rattle.gateway_answers.specs.Limits.{line_limit, gateway_budget, gateway_flags}
use Rattle.gateway_answers.specs.Answers.{gateway_rule, answer_line}
use Rattle.gateway_line.specs.Gateway.{last_answer, answers, with_rule, gateway}

unfoldable pub computing_gateway : Unit {0}
unfolding computing_calls newline line_length decimal_within decimal line_limit gateway_budget gateway_flags line span spans matched_line not_matched_line exhausted_line too_long_line refusal_line unreadable_line outcome_line gateway_rule answer_line last_answer answers with_rule gateway
computing_gateway = tt

pub record Example : Type 0 where
  pub file : Option (List ℕ)  -- `rule.txt`, if it can be read
  pub input : List ℕ
  pub output : List ℕ

infix 70 rule◌on◌gives◌
abbrev rule◌on◌gives◌ : List ℕ → List ℕ → List ℕ → Example
rule◌on◌gives◌ file input output = record { file = some file; input = input; output = output }

unfoldable pub examples : List Example
examples =
    -- 01's own
    rule (bytes "(\\d+),(\\d+)\n") on (bytes "1,5\nab\n") gives (bytes "M 0 3 0-1 2-3\nN\n")
    -- a group that is not set
    ∷ rule (bytes "a(b)?(c)?") on (bytes "xac\n") gives (bytes "M 1 3 - 2-3\n")
    -- a last piece, which counts if it is not empty
    ∷ rule (bytes "b") on (bytes "a\nab") gives (bytes "N\nM 1 2\n")
    ∷ rule (bytes "b") on [] gives []
    -- G1
    ∷ rule (replicate 1001 97) on (bytes "a\n") gives (bytes "R 1 0\n")
    -- G2
    ∷ rule (bytes "^") on (replicate 256 97 ++ bytes "\n") gives (bytes "M 0 0\n")
    ∷ rule (bytes "^") on (replicate 257 97 ++ bytes "\n") gives (bytes "L\n")
    -- G3
    ∷ rule (bytes "a$\n") on (bytes "a" ++ (13 ∷ bytes "\na\n")) gives (bytes "N\nM 0 1\n")
    -- G5
    ∷ record { file = none; input = bytes "a\n"; output = bytes "F\n" }
    ∷ rule [] on (bytes "a\n") gives (bytes "M 0 0\n")
    -- G6
    ∷ rule (bytes "^$") on (bytes "\n\n") gives (bytes "M 0 0\nM 0 0\n")
    -- a refused rule ends it before a line is read
    ∷ rule (bytes "a(b\na") on (bytes "a\na\n") gives (bytes "R 20 1\n")
    ∷ []

pub examples-hold : map (λ (e : Example). gateway e.file e.input) examples ≡ map (λ (e : Example). e.output) examples
unfolding computing_gateway examples
examples-hold = refl
