-- What the functions promise.
-- docs/REFERENCE.md, 19.1
use Rattle.std.specs.Prelude.{◌≡◌, List, [], ◌++◌, ℕ, ◌+◌, ◌≤◌, ◌<◌, length, take, drop}
use Rattle.syntax.specs.Tree.{Rule}
use Rattle.machine.specs.Theorem.{Stands}
use Rattle.text.specs.Writing.{Wrote}
use Rattle.gateway_text.specs.Limits.{answer_room}
use Rattle.gateway_text.specs.Promises.{WroteLine}
use Rattle.gateway_line.specs.declared.streaming.Progress.{Progress}
use Rattle.gateway_answers.specs.Limits.{held_limit}
use Rattle.gateway_line.specs.Gateway.{answers}

-- An input in pieces --------------------------------------------------------

-- one progress follows another: within the piece, behind where it was unless the piece is at its end, and with room kept
pub record Onward (piece : List ℕ) (p q : Progress) : Type 0 where
  pub within : q.at ≤ length piece
  pub moves : p.at < length piece → p.at < q.at
  pub fits : q.have ≤ held_limit
  pub near : q.put ≤ p.put + answer_room

-- What was written, and then what is still to be written, is what was to be written, whatever comes behind the piece.
pub record Spoken (r : Rule × ℕ) (piece line out : List ℕ) (p : Progress) (line' out' : List ℕ) (q : Progress) : Type 0 where
  pub text : List ℕ
  pub wrote : Wrote out p.put text out' q.put
  pub goes_on : (rest : List ℕ) → answers r (take p.have line) (drop p.at piece ++ rest) ≡ text ++ answers r (take q.have line') (drop q.at piece ++ rest)

abbrev pub Advanced : (code : List ℕ) (entry groups : ℕ) (piece line out : List ℕ) (p : Progress) (line' out' : List ℕ) (q : Progress) → Type 0
Advanced code entry groups piece line out p line' out' q = (tree : Rule) → Stands code tree entry → Spoken (tree, groups) piece line out p line' out' q

-- at the end of the input
abbrev pub Finished : (code : List ℕ) (entry groups : ℕ) (held out : List ℕ) (put : ℕ) (out' : List ℕ) (end : ℕ) → Type 0
Finished code entry groups held out put out' end = (tree : Rule) → Stands code tree entry → WroteLine out put (answers (tree, groups) held []) out' end
