-- What a day's lines tell.
-- docs/REFERENCE.md, 16.6, 18.3
use Rattle.std.specs.Prelude.{ℕ, Result, Ok, Err}
use Rattle.syntax.specs.declared.Refusal.{Refusal}
use Rattle.semantics.specs.Batches.{BatchOutcome, batch_done, batch_refused}

-- what the code's answer means
unfoldable pub batch_of : Result ℕ Refusal → BatchOutcome
batch_of (Ok lines) = batch_done lines
batch_of (Err why) = batch_refused why.place why.reason
