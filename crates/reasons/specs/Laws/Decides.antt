-- Answers to whether something holds.
use Rattle.std.specs.Prelude.{◌≡◌, refl, Bool, true, false, not, ℕ}
use Rattle.std.proofs.Math.Path.{subst}
use Rattle.std.proofs.Common.{arith}
use Rattle.reasons.specs.Marks.{Decides}

module _ {P : Type 0} (r : Bool) where
  pub is-so : Decides r P → r ≡ true → P
  unfolding Decides
  is-so d e = subst (λ (x : Bool). Decides x P) e d

  pub is-not : Decides r P → r ≡ false → P → ⊥
  unfolding Decides
  is-not d e = subst (λ (x : Bool). Decides x P) e d

pub decides : {P : Type 0} (r : Bool) → (r ≡ true → P) → (P → r ≡ true) → Decides r P
unfolding Decides
decides true f g = f refl
decides false f g = λ p. let e = g p in let bad : ◌≡◌ {A = ℕ} 0 1 = cc in omega arith

-- the same question in other words
pub decides-as : {P Q : Type 0} (r : Bool) → Decides r P → (P → Q) → (Q → P) → Decides r Q
unfolding Decides
decides-as true d f g = f d
decides-as false d f g = λ q. d (g q)

-- the same question put the other way round
pub decides_not : {P Q : Type 0} (r : Bool) → Decides r P → (P → Q → ⊥) → ((P → ⊥) → Q) → Decides (not r) Q
unfolding Decides
decides_not true d f g = f d
decides_not false d f g = g d
