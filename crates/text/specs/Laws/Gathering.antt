-- What is written behind the part of a line that is held, cut at the limit, is gathered.
use Rattle.std.specs.Prelude.{◌≡◌, refl, List, ◌++◌, ℕ, ◌+◌, ◌-◌, ◌≤◌, min, length, take}
use Rattle.std.proofs.Common.{sym, ap, ◌∙◌, arith, length-take, take_all, length-take-le}
use Rattle.std.proofs.lemmas.List.{take_min}
use Rattle.std.proofs.Math.Seq.{take-append-add}
use Rattle.text.specs.Gathering.{Gathered}
use Rattle.text.specs.Writing.{Wrote}
use Rattle.text.specs.Laws.Writing.{length-written, take-written, drop-written}

-- what is cut off behind a part that stays
take_behind : (n k : ℕ) (a b : List ℕ) → length a ≡ k → k ≤ n → take n (a ++ b) ≡ a ++ take (n - k) b
take_behind n k a b e h = let f : n ≡ length a + (n - k) = omega arith in rw f (take-append-add a b (n - k) ∙ rw (← f) refl)

module _ (limit : ℕ) (old piece : List ℕ) (have : ℕ) (h : have ≤ limit) (k : limit ≤ length old) {new : List ℕ} {now : ℕ} where
  pub gathered : Wrote old have (take (limit - have) piece) new now → Gathered limit old have piece new now
  gathered w =
      let n = limit - have in
      let t = length-take n piece in
      let fits : have + length (take n piece) ≤ length old = omega arith in
      record {
        holds = rw (w.holds, w.ends) (take-written old have (take n piece) fits ∙ sym (take_behind limit have (take have old) piece (length-take-le have old (omega arith)) h));
        others = rw (w.holds, w.ends) (drop-written old have (take n piece) fits);
        fits = omega arith;
        size = ap length w.holds ∙ length-written old have (take n piece) fits;
      }

  -- as much of the piece as there is and as there is room for
  pub gathered_fitting : Wrote old have (take (min (limit - have) (length piece)) piece) new now → Gathered limit old have piece new now
  gathered_fitting w = gathered (rw (take_min (limit - have) piece) at w)

  -- a piece that the room is enough for is not cut
  pub gathered_whole : length piece ≤ limit - have → Wrote old have piece new now → Gathered limit old have piece new now
  gathered_whole e w = gathered (rw (take_all (limit - have) piece e) w)
