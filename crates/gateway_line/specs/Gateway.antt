-- The whole gateway program as a function of what it reads. 01: "It reads `rule.txt` up to its first 0A (flags 0), then standard input line
-- by line, budget 1,000."
-- docs/REFERENCE.md, 19.1
use Rattle.std.specs.Prelude.{List, [], ◌∷◌, ◌++◌, ℕ, take, eqb, if◌then◌else◌}
use Rattle.std.proofs.Math.Option.{Option, none, some}
use Rattle.syntax.specs.Refusals.{number_of}
use Rattle.syntax.specs.Read.{Read, sound, refused}
use Rattle.syntax.specs.Tree.{Rule}
use Rattle.text.specs.Lines.{newline, line_length}
use Rattle.gateway_text.specs.Lines.{refusal_line, unreadable_line}
use Rattle.gateway_answers.specs.Answers.{gateway_rule, answer_line}

-- "A last piece without 0A counts if not empty."
unfoldable pub last_answer : Rule × ℕ → List ℕ → List ℕ
last_answer r [] = []
last_answer r (b ∷ s) = answer_line r (b ∷ s)

-- The answers to all lines. The first of them begins with the bytes that are held, and goes on with the input.
unfoldable pub answers : Rule × ℕ → (held input : List ℕ) → List ℕ
answers r held [] = last_answer r held
answers r held (b ∷ s) = if eqb b newline then answer_line r held ++ answers r [] s else answers r (held ++ (b ∷ [])) s

-- "Either ends it before a line is read."
unfoldable pub with_rule : Read (Rule × ℕ) → List ℕ → List ℕ
with_rule (sound r at) input = answers r [] input
with_rule (refused place why) input = refusal_line (number_of why) place

-- what is written, from the bytes of `rule.txt`, if it can be read, and those of standard input
unfoldable pub gateway : Option (List ℕ) → List ℕ → List ℕ
gateway none input = unreadable_line
gateway (some file) input = with_rule (gateway_rule (take (line_length file) file)) input
