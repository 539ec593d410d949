-- Laws of the loop that decodes bytes written in hex digits. Assumes nothing.
use Rattle.std.specs.Prelude.{◌≡◌, refl, List, [], ◌∷◌, ◌++◌, length, get_or, take, drop, set}
use Rattle.std.proofs.Common.{sym, ap, ◌∙◌, length-take, length-drop, length-append, drop-cons, length-take-le, take-suc, take_all}
use Prim.Native.Nat.{ℕ, suc, ◌+◌, ◌-◌, ◌*◌, ◌≤◌, ◌<◌, min}
use native.Mathlib.Omega.{arith}
use Rattle.std.proofs.Math.Numerals.{add-one}
use Rattle.std.proofs.Math.Seq.{append_snoc}
use Rattle.std.proofs.lemmas.List.{set_at}
use Rattle.vectors.specs.Text.{digit_value, bytes_of, Decoded}

-- fewer than two digits stand for no byte
bytes-short : (ds : List ℕ) → length ds < 2 → bytes_of ds ≡ []
unfolding bytes_of
bytes-short [] h = refl
bytes-short (d ∷ []) h = refl
bytes-short (d ∷ e ∷ ds) h = absurd (omega arith)

-- a store takes the first n bytes over the old ones to the first n + 1
over-more : (all old : List ℕ) (n : ℕ) → n < length all → n < length old
    → set (take n all ++ drop n old) n (get_or all n 0) ≡ take (n + 1) all ++ drop (n + 1) old
over-more all old n h k =
    let e : length (take n all) ≡ n = simp length-take (omega arith) in
    rw (add-one n, take-suc all n 0, append_snoc, drop-cons old n 0) (set_at (take n all) _ _ _ n e)

-- n bytes of the digits' are written over the first of the old ones, and those of `rest` are left
pub record Filled (digits old rest : List ℕ) (n : ℕ) (new : List ℕ) : Type 0 where
  pub room : n ≤ length old
  pub made : n ≤ length (bytes_of digits)
  pub left : drop n (bytes_of digits) ≡ bytes_of rest
  pub bytes : new ≡ take n (bytes_of digits) ++ drop n old

module _ (digits old : List ℕ) where
  pub filled_none : Filled digits old digits 0 old
  filled_none = record { room = omega arith; made = omega arith; left = refl; bytes = refl }

  module _ (rest : List ℕ) (n : ℕ) (new : List ℕ) (f : Filled digits old rest n new) where
    pub filled-length : length new ≡ length old
    filled-length =
        let h : n ≤ length old = f.room in
        let k : n ≤ length (bytes_of digits) = f.made in
        rw f.bytes (simp (length-append, length-take, length-drop) (omega arith))

    decoded-by : n ≡ min (length old) (length (bytes_of digits)) → Decoded digits old n new
    decoded-by e =
        let h : n ≤ length new = omega (arith, filled-length, f.room) in
        record { number = e; bytes = f.bytes; counts = (h, sym (length-take-le n new h)) }

    -- there is no more room, or there are no more digits
    pub filled-full : n ≡ length old → Decoded digits old n new
    filled-full e = decoded-by (omega (arith, f.made))

    still : length (bytes_of digits) - n ≡ length (bytes_of rest)
    still = sym (length-drop n (bytes_of digits)) ∙ ap length f.left

    pub filled-all : length rest < 2 → Decoded digits old n new
    filled-all h =
        let none : length (bytes_of rest) ≡ 0 = ap length (bytes-short rest h) in
        decoded-by (omega (arith, still, f.made, f.room))

  module _ (high low : ℕ) (behind : List ℕ) (n : ℕ) (new : List ℕ) (f : Filled digits old (high ∷ low ∷ behind) n new) (r : n < length old) where
    more : drop n (bytes_of digits) ≡ (digit_value high * 16 + digit_value low) ∷ bytes_of behind
    unfolding bytes_of
    more = f.left

    in_all : n < length (bytes_of digits)
    in_all = omega (arith, length-drop n (bytes_of digits), ap length more, f.made)

    pub filled_more : Filled digits old behind (n + 1) (set new n (digit_value high * 16 + digit_value low))
    filled_more =
        let b : drop n (bytes_of digits) ≡ get_or (bytes_of digits) n 0 ∷ drop (suc n) (bytes_of digits) = drop-cons _ n 0 in_all in
        let a = more in
        let e : digit_value high * 16 + digit_value low ≡ get_or (bytes_of digits) n 0 = cc in
        record {
          room = omega arith;
          made = omega (arith, in_all);
          left = rw (add-one n) (cc);
          bytes = rw (e, f.bytes) (over-more (bytes_of digits) old n in_all r);
        }

  -- the same of a list whose first two are read
  pub filled_next : (rest : List ℕ) (n : ℕ) (new : List ℕ) → Filled digits old rest n new → 2 ≤ length rest → n < length old
      → (high low : ℕ) → high ≡ digit_value (get_or rest 0 0) → low ≡ digit_value (get_or rest 1 0)
      → Filled digits old (take (length rest - 2) (drop 2 rest)) (n + 1) (set new n (high * 16 + low))
  filled_next [] n new f h r high low e g = absurd (omega arith)
  filled_next (a ∷ []) n new f h r high low e g = absurd (omega arith)
  filled_next (a ∷ b ∷ behind) n new f h r high low e g =
      let all : take (length (a ∷ b ∷ behind) - 2) behind ≡ behind = take_all _ behind (omega arith) in
      rw (e, g, all) (filled_more a b behind n new f r)
