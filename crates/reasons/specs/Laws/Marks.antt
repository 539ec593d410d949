-- Facts about marked items, one place further at a time.
use Rattle.std.specs.Prelude.{◌≡◌, List, true, ℕ, suc, ◌≤◌, ◌<◌, length, get_or, set}
use Rattle.std.proofs.Common.{◌∙◌, subst, arith, get_or-set_same, get_or-set_other, eq-eqb, eqb-true}
use Rattle.std.proofs.Math.Decide.{dec_lt}
use Rattle.reasons.specs.Marks.{is_mark, Says, Said}

pub is-marked : (m : ℕ) → m ≡ 1 → is_mark m ≡ true
unfolding is_mark
is-marked m e = eq-eqb m 1 e

pub not-marked : (m : ℕ) → (m ≡ 1 → ⊥) → is_mark m ≡ true → ⊥
unfolding is_mark
not-marked m n e = n (eqb-true m 1 e)

-- a list whose first elements are told by a function, with one more set
module _ (f : ℕ → ℕ) (l : List ℕ) (i v : ℕ) (fits : i < length l) (before : (j : ℕ) → j < i → get_or l j 0 ≡ f j) (here : v ≡ f i) where
  pub told_more : (j : ℕ) → j < suc i → get_or (set l i v) j 0 ≡ f j
  told_more j h = go (dec_lt j i)
    where
      go : Dec (j < i) → get_or (set l i v) j 0 ≡ f j
      go (yes k) = get_or-set_other l i j v 0 (λ e. omega arith) ∙ before j k
      go (no k) =
          let e : j ≡ i = omega arith in
          rw e (get_or-set_same l i v 0 fits ∙ here)

-- what holds at none of the places from one on does not hold at one more
pub none-further : (P : ℕ → Type 0) (from i : ℕ) → ((j : ℕ) → from ≤ j → j < i → P j → ⊥) → (P i → ⊥) → (j : ℕ) → from ≤ j → j < suc i → P j → ⊥
none-further P from i no-earlier no-here j h l x = go (dec_lt j i)
  where
    go : Dec (j < i) → ⊥
    go (yes k) = no-earlier j h k x
    go (no k) = no-here (subst P (omega arith) x)

module _ (s : List ℕ) (flags : ℕ) (marks text : List ℕ) where
  pub none_said : Said s flags marks text 0 → ⊥
  none_said x = omega (arith, x.before)

  pub said-further : (i : ℕ) → (Said s flags marks text i → ⊥) → (Says s flags marks text i → ⊥) → Said s flags marks text (suc i) → ⊥
  said-further i no-earlier no-here x = go (dec_lt x.at i)
    where
      go : Dec (x.at < i) → ⊥
      go (yes k) = no-earlier (record { at = x.at; before = k; says = x.says })
      go (no k) = no-here (subst (λ (n : ℕ). Says s flags marks text n) (omega (arith, x.before)) x.says)

  pub unsaid-up-to : (i places : ℕ) → (Said s flags marks text i → ⊥) → places ≤ i → Said s flags marks text places → ⊥
  unsaid-up-to i places unsaid h x = unsaid (record { at = x.at; before = omega (arith, x.before); says = x.says })
