-- Counts of bytes stay within the slices that they count in: what an answer says, once it is known.
-- docs/REFERENCE.md, 19.1
use Rattle.std.specs.Prelude.{◌≡◌, ℕ, ◌≤◌, Option, None, Some, Result, Ok, Err, IfOk, IfSome}
use Rattle.std.proofs.Common.{arith}
use Rattle.gateway_answers.specs.Limits.{held_limit}

module _ {E : Type 0} {room n : ℕ} where
  -- of a read
  pub read_bytes : {r : Result (Option ℕ) E} → IfOk r (λ read. IfSome read (λ k. k ≤ room)) → r ≡ Ok (Some n) → n ≤ room
  read_bytes h e = rw e at h

  -- of a rule that is loaded, whole or with more to come
  pub loaded : {r : Result ℕ E} → IfOk r (λ k. k ≤ room) → r ≡ Ok n → n ≤ room
  loaded h e = rw e at h

-- of a line that goes on, or is over
pub held : {E : Type 0} {n : ℕ} {r : Result ℕ E} → IfOk r (λ have. have ≤ held_limit) → r ≡ Ok n → n ≤ held_limit
held h e = rw e at h

pub read_fewer : {E : Type 0} (r : Result (Option ℕ) E) {a b : ℕ} → a ≤ b → IfOk r (λ read. IfSome read (λ k. k ≤ a)) → IfOk r (λ read. IfSome read (λ k. k ≤ b))
read_fewer (Ok (Some n)) h k = omega arith
read_fewer (Ok None) h k = tt
read_fewer (Err e) h k = tt
