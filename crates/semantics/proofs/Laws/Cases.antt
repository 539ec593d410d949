-- Cases that proofs tell apart, and that 0 is not 1: the form in which `cc` says that two constructors differ.
use Rattle.std.specs.Prelude.{◌≡◌, refl, ◌⊎◌, Bool, true, false, ℕ, ◌≤◌, ◌<◌}
use Rattle.std.proofs.Common.{inl, inr, arith}
use Rattle.std.proofs.Math.Decide.{dec_lt}

pub clash : ◌≡◌ {A = ℕ} 0 1 → ⊥
clash e = omega arith

pub bool : (x : Bool) → (x ≡ true) ⊎ (x ≡ false)
bool true = inl refl
bool false = inr refl

pub le-or : (a b : ℕ) → (a ≤ b) ⊎ (b < a)
le-or a b = elim (dec_lt b a) [ yes h ↦ inr h | no h ↦ inl (omega arith) ]

pub three : (a b : ℕ) → (a < b) ⊎ ((a ≡ b) ⊎ (b < a))
three a b = elim (dec_lt a b) [ yes h ↦ inl h | no h ↦ inr (elim (dec_lt b a) [ yes k ↦ inr k | no k ↦ inl (omega arith) ]) ]

pub same_or : (a b : ℕ) → (a ≡ b) ⊎ (¬ (a ≡ b))
same_or a b = elim (three a b) [ inl h ↦ inr (λ e. omega arith) | inr x ↦ elim x [ inl e ↦ inl e | inr h ↦ inr (λ e. omega arith) ] ]
