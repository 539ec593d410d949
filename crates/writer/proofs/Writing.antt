-- Laws of written numbers: one store more, and one run of numbers behind another.
use mathlib.Core.Path.{◌≡◌, refl, ap, sym, ◌∙◌}
use mathlib.Core.List.{List, ◌++◌}
use Prim.Native.Nat.{ℕ, ◌+◌, ◌-◌, ◌<◌}
use native.Mathlib.Omega.{arith}
use native.Mathlib.Decide.{dec_lt}
use lib.ListN.{length, get_or, set, get_or-append}
use lib.Seq.{get_or-set_same, get_or-set_other, get_or-append-add}
use Rattle.writer.specs.Wrote.{Wrote}

pub wrote_none : (a : List ℕ) (p : ℕ) (ws : List ℕ) → Wrote a a p 0 ws
wrote_none a p ws = record { below = λ i h. refl; at = λ i h. absurd (omega arith) }

-- one store more
pub wrote_one : {old a : List ℕ} {p n : ℕ} {ws : List ℕ} (q v : ℕ) → Wrote old a p n ws → q ≡ p + n → v ≡ get_or ws n 0 → q < length a → Wrote old (set a q v) p (n + 1) ws
wrote_one {old} {a} {p} {n} {ws} q v w e f h = record {
  below = λ i k. get_or-set_other a q i v 0 (λ x. omega arith) ∙ w.below i k;
  at = λ i k. by i k (dec_lt i n);
}
  where
    by : (i : ℕ) → i < n + 1 → Dec (i < n) → get_or (set a q v) (p + i) 0 ≡ get_or ws i 0
    by i k (yes l) = get_or-set_other a q (p + i) v 0 (λ x. omega arith) ∙ w.at i l
    by i k (no l) =
        let z : p + i ≡ q = omega arith in
        let y : n ≡ i = omega arith in
        ap (λ (j : ℕ). get_or (set a q v) j 0) z ∙ get_or-set_same a q v 0 h ∙ f ∙ ap (λ (j : ℕ). get_or ws j 0) y

-- a second run of numbers behind the first
pub wrote-both : {old mid new : List ℕ} {p m n : ℕ} {vs ws : List ℕ} (q : ℕ) → Wrote old mid p m vs → Wrote mid new q n ws → q ≡ p + m → length vs ≡ m → Wrote old new p (m + n) (vs ++ ws)
wrote-both {old} {mid} {new} {p} {m} {n} {vs} {ws} q v w e l = record {
  below = λ i h. w.below i (omega arith) ∙ v.below i h;
  at = λ i h. by i h (dec_lt i m);
}
  where
    by : (i : ℕ) → i < m + n → Dec (i < m) → get_or new (p + i) 0 ≡ get_or (vs ++ ws) i 0
    by i h (yes k) = w.below (p + i) (omega arith) ∙ v.at i k ∙ sym (get_or-append vs ws 0 i (omega arith))
    by i h (no k) =
        let j = i - m in
        let x : p + i ≡ q + j = omega arith in
        let y : length vs + j ≡ i = omega arith in
        ap (λ (z : ℕ). get_or new z 0) x ∙ w.at j (omega arith) ∙ sym (get_or-append-add vs ws j 0) ∙ ap (λ (z : ℕ). get_or (vs ++ ws) z 0) y
