-- A part of a text: its length, and the whole as a part.
use Rattle.std.specs.Prelude.{◌≡◌, List, ℕ, ◌-◌, ◌≤◌, length, drop}
use Rattle.std.proofs.Common.{arith, length-drop, take_all, length-take-le}
use Rattle.frame.specs.Inputs.{between}

pub between-length : (text : List ℕ) (from to : ℕ) → from ≤ to → to ≤ length text → length (between text from to) ≡ to - from
between-length text from to h l = length-take-le (to - from) (drop from text) (omega (arith, length-drop from text))

pub between-all : (text : List ℕ) → between text 0 (length text) ≡ text
between-all text = take_all (length text - 0) text (omega arith)
