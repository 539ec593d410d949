-- The 0A of a buffer as they are counted, by bytes and by blocks.
use Rattle.std.specs.Prelude.{◌≡◌, refl, List, Bool, true, false, ℕ, suc, ◌+◌, ◌≤◌, ◌<◌, length, get_or, take, drop}
use Rattle.std.proofs.Common.{ap, sym, ◌∙◌, arith, add-one, eq-eqb, ne_eqb, length-drop, take-add, get_or-drop}
use Rattle.semantics.specs.Assertions.{is_newline}
use Rattle.semantics.specs.Batches.{lines_of}
use Rattle.semantics.specs.BatchDemands.{one_more_if, newlines}
use Rattle.semantics.proofs.Laws.Lines.{many-lines_of, newlines-append, newlines-next, lines-at-end}

newline-is : (b : ℕ) → b ≡ 10 → is_newline b ≡ true
unfolding is_newline
newline-is b e = eq-eqb b 10 e

none_is : (b : ℕ) → (b ≡ 10 → ⊥) → is_newline b ≡ false
unfolding is_newline
none_is b f = ne_eqb b 10 f

pub counts-newline : (b n : ℕ) → b ≡ 10 → n + 1 ≡ one_more_if (is_newline b) n
unfolding one_more_if
counts-newline b n e = rw (newline-is b e) (add-one n)

pub counts-no-newline : (b n : ℕ) → (b ≡ 10 → ⊥) → n ≡ one_more_if (is_newline b) n
unfolding one_more_if
counts-no-newline b n f = rw (none_is b f) refl

-- a byte counts for one line at most
pub counts-at-most : (t : Bool) (n : ℕ) → one_more_if t n ≤ suc n
unfolding one_more_if
counts-at-most true n = omega arith
counts-at-most false n = omega arith

-- before the next byte of a block
pub counts-next : (buffer : List ℕ) (from i count next : ℕ) → from + i < length buffer → count ≡ newlines (take i (drop from buffer)) → next ≡ one_more_if (is_newline (get_or buffer (from + i) 0)) count → next ≡ newlines (take (i + 1) (drop from buffer))
counts-next buffer from i count next h e f = f ∙ rw (e, add-one i, newlines-next (drop from buffer) i (omega (arith, length-drop from buffer)), get_or-drop from buffer i 0)

pub counted-size : (buffer : List ℕ) (from size i count : ℕ) → i ≡ size → count ≡ newlines (take i (drop from buffer)) → count ≡ newlines (take size (drop from buffer))
counted-size buffer from size i count h e = rw h at e

-- behind a block there is one more than the 0A so far
pub counts-block : (buffer : List ℕ) (i size lines count : ℕ) → lines ≡ suc (newlines (take i buffer)) → count ≡ newlines (take size (drop i buffer)) → lines + count ≡ suc (newlines (take (i + size) buffer))
counts-block buffer i size lines count e f = rw (take-add i size buffer, newlines-append (take i buffer) (take size (drop i buffer))) (omega arith)

-- at the last byte all lines are counted
pub counted-all : (buffer : List ℕ) (last lines : ℕ) → last + 1 ≡ length buffer → lines ≡ suc (newlines (take last buffer)) → lines ≡ length (lines_of buffer)
counted-all buffer last lines h e = e ∙ sym (many-lines_of buffer last (omega arith))

pub counted_none : (buffer : List ℕ) → length buffer ≡ 0 → 0 ≡ length (lines_of buffer)
counted_none buffer h = sym (ap {B = ℕ} length (lines-at-end buffer 0 (omega arith)))
