-- A copy to the front of a list, by one element more.
use Rattle.std.specs.Prelude.{◌≡◌, List, ℕ, suc, ◌+◌, ◌<◌, length, get_or, set}
use Rattle.std.proofs.Common.{sym, ap, ◌∙◌, zero-add, arith}
use Rattle.std.proofs.Math.Seq.{paste, paste-suc}

pub front-more : (d s : List ℕ) (i z : ℕ) → i < length d → i < length s → set (paste d 0 s i) i (get_or s i z) ≡ paste d 0 s (suc i)
front-more d s i z hd hs =
    let h : 0 + i < length d = omega arith in
    ap (λ (k : ℕ). set (paste d 0 s i) k (get_or s i z)) (sym (zero-add i)) ∙ paste-suc d 0 s i z h hs
