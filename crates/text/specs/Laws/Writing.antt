-- One text written behind another is both, written once.
use Rattle.std.specs.Prelude.{◌≡◌, refl, List, [], ◌∷◌, ◌++◌, ℕ, ◌+◌, ◌/◌, ◌%◌, ◌≤◌, ◌<◌, length, take, drop, set}
use Rattle.std.proofs.Common.{sym, ap, ◌∙◌, append_assoc, add_assoc, add-zero, add-one, arith, length-append, take-append-drop, drop-drop}
use Rattle.std.proofs.Math.Seq.{paste, take-length}
use Rattle.std.proofs.lemmas.List.Edits.{take-paste, drop-paste, length-paste}
use Rattle.std.proofs.lemmas.List.{set_split}
use Rattle.text.specs.Numbers.{digit, decimal}
use Rattle.text.specs.Writing.{written, Wrote}
use Rattle.text.specs.Laws.Numbers.{small, large, length-large}

-- writing is pasting the whole text
pub as_paste : (out : List ℕ) (at : ℕ) (text : List ℕ) → written out at text ≡ paste out at text (length text)
unfolding written
as_paste out at text = rw (take-length text, append_assoc)

-- one byte
pub stored : (out : List ℕ) (at byte : ℕ) → at < length out → Wrote out at (byte ∷ []) (set out at byte) (at + 1)
unfolding written
stored out at byte h = record { ends = refl; holds = set_split out at byte h ∙ rw (add-one at) }

module _ (out : List ℕ) (at : ℕ) (text : List ℕ) (fits : at + length text ≤ length out) where
  pub length-written : length (written out at text) ≡ length out
  length-written = rw (as_paste out at text) (length-paste out at text (length text) fits (omega arith))

  -- up to the end of the text
  pub take-written : take (at + length text) (written out at text) ≡ take at out ++ text
  take-written = rw (as_paste out at text, take-paste out at text (length text) (omega arith) (omega arith), take-length text)

  -- and behind it
  pub drop-written : drop (at + length text) (written out at text) ≡ drop (at + length text) out
  drop-written = rw (as_paste out at text, drop-paste out at text (length text) (omega arith) (omega arith))

-- what stands behind a part that two lists share
drop-both : (a b : List ℕ) (m n : ℕ) → drop m a ≡ drop m b → drop (m + n) a ≡ drop (m + n) b
drop-both a b m n e = sym (drop-drop n m a) ∙ ap (λ (l : List ℕ). drop n l) e ∙ drop-drop n m b

written_both : (out : List ℕ) (at : ℕ) (a b : List ℕ) → at + length a ≤ length out → written (written out at a) (at + length a) b ≡ written out at (a ++ b)
unfolding written
written_both out at a b fits =
    ap (λ (l : List ℕ). l ++ (b ++ drop (at + length a + length b) (written out at a))) (take-written out at a fits)
    ∙ ap (λ (l : List ℕ). (take at out ++ a) ++ (b ++ l)) (drop-both (written out at a) out (at + length a) (length b) (drop-written out at a fits))
    ∙ rw (length-append, add_assoc) (simp append_assoc)

-- the same of what two functions say that they wrote, the second where the first ended
pub wrote_both : {out a b mid new : List ℕ} {at m e : ℕ} → m ≤ length out → Wrote out at a mid m → Wrote mid m b new e → Wrote out at (a ++ b) new e
wrote_both {out} {a} {b} {at = at} fits first next = record {
  ends = rw length-append (omega arith);
  holds = next.holds ∙ rw (first.holds, first.ends) (written_both out at a b (omega arith));
}

-- nothing was written
pub wrote_nothing : (out : List ℕ) (at : ℕ) → Wrote out at [] out at
unfolding written
wrote_nothing out at = record { ends = sym (add-zero at); holds = sym (rw (add-zero at) (take-append-drop at out)) }

-- Numbers, as they are written: a digit, or the digits of the tenth and then the last digit.
module _ (out : List ℕ) (at n : ℕ) {new : List ℕ} {e : ℕ} where
  pub wrote_small : n < 10 → Wrote out at (digit n ∷ []) new e → Wrote out at (decimal n) new e
  wrote_small h w = rw (small n h) w

  pub wrote_large : {mid : List ℕ} {m : ℕ} → 10 ≤ n → at + length (decimal n) ≤ length out → Wrote out at (decimal (n / 10)) mid m → Wrote mid m (digit (n % 10) ∷ []) new e → Wrote out at (decimal n) new e
  wrote_large h fits v w = rw (large n h) (wrote_both (omega (arith, length-large n h)) v w)
