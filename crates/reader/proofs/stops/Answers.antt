-- Each byte at which a sequence ends, and every other.
use mathlib.Core.Logic.{⊎_elim, inl, inr}
use mathlib.Core.Path.{sym}
use Rattle.syntax.specs.Read.{is_end}
use Rattle.syntax.specs.Grammar.{ends}
use Rattle.reader.proofs.Sequences.{ends-no}
use Rattle.reader.proofs.stops.Goals as goal

pub returns-in-124 : goal.returns-in-124
unfolding ends is_end
returns-in-124 c = sym (⊎_elim (λ e. rw e) (⊎_elim (λ e. rw e) (λ e. rw e)) c.in-124.is)

pub returns-in_default : goal.returns-in_default
returns-in_default c = let n = c.in_default.in_default-own.rest.1 in sym (ends-no _ (λ e. n (inr (inl e))) (λ e. n (inl e)) (λ e. n (inr (inr e))))
