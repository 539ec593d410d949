-- How a buffer is split, at its first 0A and at any position: a line without 0A goes to the front byte by byte. So the split is the one that 02
-- describes, it has no other, and a byte that is changed into another that is no 0A changes one line alone.
use Rattle.std.specs.Prelude.{◌≡◌, refl, List, [], ◌∷◌, ◌++◌, Bool, true, false, ℕ, zero, suc, ◌+◌, ◌≤◌, ◌<◌, length, get_or, take, drop}
use Rattle.std.proofs.Common.{ap, sym, ◌∙◌, append_assoc, inl, inr, arith, eqb-true, ne_eqb, drop_of_length-le, take_all, take-suc, drop-cons, length-take-le, get_or-take, get_or-drop}
use Rattle.std.proofs.lemmas.Bool.{eqb-false}
use Rattle.std.proofs.Math.Seq.{slice, length-slice, split_at}
use Rattle.std.proofs.lemmas.List.{drop-append-le}
use Rattle.semantics.specs.Assertions.{is_newline}
use Rattle.semantics.specs.Batches.{before, lines_of}
use Rattle.semantics.specs.Demands.{In}
use Rattle.semantics.specs.BatchDemands.{newline, NoNewline, with_newlines, counting, Split, one_more_if, newlines, SameButLine}
use Rattle.semantics.proofs.Laws.Cases.{bool, le-or}

-- Bytes -------------------------------------------------------------------------

is_newline_lem : (b : ℕ) → is_newline b ≡ true → b ≡ newline
unfolding is_newline
is_newline_lem b e = eqb-true b newline e

is_none : (b : ℕ) → is_newline b ≡ false → ¬ (b ≡ newline)
unfolding is_newline
is_none b e = eqb-false b newline e

newline-is : is_newline newline ≡ true
unfolding is_newline
newline-is = refl

none_is : (b : ℕ) → ¬ (b ≡ newline) → is_newline b ≡ false
unfolding is_newline
none_is b f = ne_eqb b newline f

-- The first line ------------------------------------------------------------------

pub no_lines : lines_of [] ≡ []
unfolding lines_of
no_lines = refl

-- an 0A at the front ends an empty line
pub empty-line : (s : List ℕ) → lines_of (newline ∷ s) ≡ [] ∷ lines_of s
unfolding lines_of before
empty-line s = rw newline-is

-- another byte belongs to the line behind it
longer-line : (b : ℕ) (s line : List ℕ) (lines : List (List ℕ)) → ¬ (b ≡ newline) → lines_of s ≡ line ∷ lines → lines_of (b ∷ s) ≡ (b ∷ line) ∷ lines
unfolding lines_of before
longer-line b s line lines f e = rw (none_is b f, e)

-- or is a last piece by itself
last_byte : (b : ℕ) → ¬ (b ≡ newline) → lines_of (b ∷ []) ≡ (b ∷ []) ∷ []
unfolding lines_of before
last_byte b f = rw (none_is b f)

-- the line up to the first 0A
pub first-line : (line s : List ℕ) → NoNewline line → lines_of (line ++ (newline ∷ s)) ≡ line ∷ lines_of s
first-line [] s f = empty-line s
first-line (b ∷ line) s f = longer-line b (line ++ (newline ∷ s)) line (lines_of s) (λ e. f (inl e)) (first-line line s (λ i. f (inr i)))

-- "A last piece without 0A counts if not empty."
pub last-piece : (piece : List ℕ) → NoNewline piece → lines_of piece ≡ counting [] piece
last-piece [] f = no_lines
last-piece (b ∷ []) f = last_byte b (λ e. f (inl e))
last-piece (b ∷ a ∷ s) f = longer-line b (a ∷ s) (a ∷ s) [] (λ e. f (inl e)) (last-piece (a ∷ s) (λ i. f (inr i)))

-- The split that 02 describes ---------------------------------------------------------

lines-as-split : (ended : List (List ℕ)) (piece : List ℕ) → ((line : List ℕ) → In line ended → NoNewline line) → NoNewline piece → lines_of (with_newlines ended ++ piece) ≡ counting ended piece
lines-as-split [] piece f g = last-piece piece g
lines-as-split (line ∷ ended) piece f g =
    rw (append_assoc line (newline ∷ with_newlines ended) piece)
    (first-line line (with_newlines ended ++ piece) (f line (inl refl)) ∙ ap {B = List (List ℕ)} (λ l. line ∷ l) (lines-as-split ended piece (λ l i. f l (inr i)) g) ∙ behind piece)
  where
    behind : (p : List ℕ) → line ∷ counting ended p ≡ counting (line ∷ ended) p
    behind [] = refl
    behind (b ∷ s) = refl

-- no other
pub split-settles : (buffer : List ℕ) (lines : List (List ℕ)) → Split buffer lines → lines ≡ lines_of buffer
split-settles buffer lines s = s.counted ∙ sym (lines-as-split s.ended s.piece s.at_each s.without) ∙ ap lines_of (sym s.in_order)

no-ended : (line : List ℕ) → In line [] → NoNewline line
no-ended line i = absurd i

-- an 0A at the front
newline-split : (b : ℕ) (s : List ℕ) → b ≡ newline → Split s (lines_of s) → Split (b ∷ s) (before true b (lines_of s))
unfolding before
newline-split b s e x = record {
  ended = [] ∷ x.ended;
  piece = x.piece;
  in_order = cc (e, x.in_order);
  at_each = λ l i. elim i [ inl q ↦ rw (← q) (λ (j : In newline []). j) | inr j ↦ x.at_each l j ];
  without = x.without;
  counted = ap {B = List (List ℕ)} (λ (l : List (List ℕ)). [] ∷ l) x.counted ∙ behind x.piece;
}
  where
    behind : (p : List ℕ) → [] ∷ counting x.ended p ≡ counting ([] ∷ x.ended) p
    behind [] = refl
    behind (a ∷ p) = refl

-- another byte
before_split : (b : ℕ) (s : List ℕ) → ¬ (b ≡ newline) → Split s (lines_of s) → Split (b ∷ s) (before false b (lines_of s))
unfolding before
before_split b s f x = go x.ended x.piece x.in_order x.at_each x.without x.counted
  where
    none : (line : List ℕ) → NoNewline line → NoNewline (b ∷ line)
    none line g i = elim i [ inl e ↦ f e | inr j ↦ g j ]

    longer : (line : List ℕ) (ended : List (List ℕ)) → ((l : List ℕ) → In l (line ∷ ended) → NoNewline l) → (l : List ℕ) → In l ((b ∷ line) ∷ ended) → NoNewline l
    longer line ended g l i = elim i [ inl q ↦ rw (← q) (none line (g line (inl refl))) | inr j ↦ g l (inr j) ]

    go : (ended : List (List ℕ)) (piece : List ℕ) → s ≡ with_newlines ended ++ piece → ((line : List ℕ) → In line ended → NoNewline line) → NoNewline piece → lines_of s ≡ counting ended piece → Split (b ∷ s) (before false b (lines_of s))
    go [] [] e g h k = record { ended = []; piece = b ∷ []; in_order = rw e; at_each = no-ended; without = none [] h; counted = rw k }
    go [] (a ∷ p) e g h k = record { ended = []; piece = b ∷ a ∷ p; in_order = rw e; at_each = no-ended; without = none (a ∷ p) h; counted = rw k }
    go (line ∷ ended) [] e g h k = record { ended = (b ∷ line) ∷ ended; piece = []; in_order = rw e; at_each = longer line ended g; without = h; counted = rw k }
    go (line ∷ ended) (a ∷ p) e g h k = record { ended = (b ∷ line) ∷ ended; piece = a ∷ p; in_order = rw e; at_each = longer line ended g; without = h; counted = rw k }

pub lines_split : (buffer : List ℕ) → Split buffer (lines_of buffer)
unfolding lines_of before
lines_split [] = record { ended = []; piece = []; in_order = refl; at_each = no-ended; without = λ i. i; counted = refl }
lines_split (b ∷ s) = elim (bool (is_newline b)) [ inl e ↦ rw e (newline-split b s (is_newline_lem b e) (lines_split s)) | inr e ↦ rw e (before_split b s (is_none b e) (lines_split s)) ]

-- From a position on -------------------------------------------------------------------

pub no-newline-at : (line : List ℕ) → ((i : ℕ) → i < length line → ¬ (get_or line i 0 ≡ newline)) → NoNewline line
no-newline-at [] f i = i
no-newline-at (b ∷ line) f (inl e) = f 0 (omega arith) e
no-newline-at (b ∷ line) f (inr i) = no-newline-at line (λ j h. f (suc j) (omega arith)) i

-- a line without 0A, up to an 0A or to the buffer's end, and then those behind it
pub line_at : (buffer : List ℕ) (from to : ℕ) → from < length buffer → from ≤ to → to ≤ length buffer → NoNewline (slice from to buffer) → (to < length buffer → get_or buffer to 0 ≡ newline) → lines_of (drop from buffer) ≡ slice from to buffer ∷ lines_of (drop (suc to) buffer)
line_at buffer from to l m n f g = elim (le-or (length buffer) to) [
  | inl h ↦ (
      let whole : slice from to buffer ≡ drop from buffer = ap (drop from) (take_all to buffer h) in
      let e : drop from buffer ≡ get_or buffer from 0 ∷ drop (suc from) buffer = drop-cons buffer from 0 l in
      rw (whole, drop_of_length-le buffer {i = suc to} (omega arith), no_lines, e) (last-piece (get_or buffer from 0 ∷ drop (suc from) buffer) (rw (whole ∙ e) at f)))
  | inr h ↦ (
      let e : buffer ≡ take to buffer ++ (newline ∷ drop (suc to) buffer) = split_at buffer to 0 h ∙ ap (λ (b : ℕ). take to buffer ++ (b ∷ drop (suc to) buffer)) (g h) in
      let d : drop from buffer ≡ slice from to buffer ++ (newline ∷ drop (suc to) buffer) = ap (drop from) e ∙ drop-append-le from (take to buffer) _ (omega (arith, length-take-le to buffer n)) in
      ap lines_of d ∙ first-line (slice from to buffer) (drop (suc to) buffer) f)
]

-- byte by byte
pub no-newline-between : (buffer : List ℕ) (from to : ℕ) → to ≤ length buffer → ((i : ℕ) → from ≤ i → i < to → ¬ (get_or buffer i 0 ≡ newline)) → NoNewline (slice from to buffer)
no-newline-between buffer from to n f = no-newline-at (slice from to buffer) (λ i h e. (
    let k : from + i < to = omega (arith, length-slice from to buffer n) in
    f (from + i) (omega arith) k (sym (get_or-drop from (take to buffer) i 0 ∙ get_or-take to buffer (from + i) 0 k) ∙ e)))

-- behind the last line there is none
pub lines-at-end : (buffer : List ℕ) (at : ℕ) → length buffer ≤ at → lines_of (drop at buffer) ≡ []
lines-at-end buffer at h = rw (drop_of_length-le buffer h) no_lines

-- How many ---------------------------------------------------------------------------

counts-on : (t : Bool) (n m : ℕ) → one_more_if t (n + m) ≡ one_more_if t n + m
unfolding one_more_if
counts-on true n m = omega arith
counts-on false n m = refl

pub newlines-append : (u v : List ℕ) → newlines (u ++ v) ≡ newlines u + newlines v
unfolding newlines
newlines-append [] v = omega arith
newlines-append (b ∷ u) v = ap (one_more_if (is_newline b)) (newlines-append u v) ∙ counts-on (is_newline b) (newlines u) (newlines v)

-- one more than there are 0A before the last byte, whatever that is
pub many-lines : (s : List ℕ) (b : ℕ) → length (lines_of (s ++ (b ∷ []))) ≡ suc (newlines s)
unfolding lines_of newlines before one_more_if
many-lines [] b = one (is_newline b)
  where
    one : (t : Bool) → length (before t b []) ≡ 1
    one true = refl
    one false = refl
many-lines (a ∷ s) b = more (is_newline a) (lines_of (s ++ (b ∷ []))) (many-lines s b)
  where
    more : (t : Bool) (lines : List (List ℕ)) → length lines ≡ suc (newlines s) → length (before t a lines) ≡ suc (one_more_if t (newlines s))
    more true lines e = ap suc e
    more false [] e = absurd (omega arith)
    more false (line ∷ lines) e = e

-- the same, of a buffer that is not empty, and one byte after another
pub many-lines_of : (buffer : List ℕ) (last : ℕ) → suc last ≡ length buffer → length (lines_of buffer) ≡ suc (newlines (take last buffer))
many-lines_of buffer last e =
    let whole : buffer ≡ take last buffer ++ (get_or buffer last 0 ∷ []) = sym (take_all (suc last) buffer (omega arith)) ∙ take-suc buffer last 0 (omega arith) in
    ap (λ (s : List ℕ). length (lines_of s)) whole ∙ many-lines (take last buffer) (get_or buffer last 0)

pub newlines-next : (buffer : List ℕ) (i : ℕ) → i < length buffer → newlines (take (suc i) buffer) ≡ one_more_if (is_newline (get_or buffer i 0)) (newlines (take i buffer))
unfolding newlines one_more_if
newlines-next buffer i h = rw (take-suc buffer i 0 h, newlines-append (take i buffer) (get_or buffer i 0 ∷ [])) (go (is_newline (get_or buffer i 0)) (newlines (take i buffer)))
  where
    go : (t : Bool) (n : ℕ) → n + one_more_if t 0 ≡ one_more_if t n
    go true n = omega arith
    go false n = omega arith

-- One byte -----------------------------------------------------------------------------

before-other : (t : Bool) (b : ℕ) (lines others : List (List ℕ)) (k : ℕ) → SameButLine lines others k → SameButLine (before t b lines) (before t b others) (one_more_if t k)
unfolding before one_more_if
before-other true b lines others k x = record { many = ap suc x.many; same = go }
  where
    go : (i : ℕ) → ¬ (i ≡ suc k) → get_or {A = List ℕ} ([] ∷ lines) i [] ≡ get_or ([] ∷ others) i []
    go zero f = refl
    go (suc i) f = x.same i (λ e. f (ap suc e))
before-other false b [] [] k x = record { many = refl; same = λ i f. refl }
before-other false b [] (m ∷ others) k x = absurd (omega (arith, x.many))
before-other false b (l ∷ lines) [] k x = absurd (omega (arith, x.many))
before-other false b (l ∷ lines) (m ∷ others) k x = record { many = x.many; same = go }
  where
    go : (i : ℕ) → ¬ (i ≡ k) → get_or {A = List ℕ} ((b ∷ l) ∷ lines) i [] ≡ get_or ((b ∷ m) ∷ others) i []
    go zero f = ap {B = List ℕ} (λ s. b ∷ s) (x.same 0 f)
    go (suc i) f = x.same (suc i) f

-- a byte that is no 0A, changed into another that is none either
pub other_byte : (u v : List ℕ) (a b : ℕ) → ¬ (a ≡ newline) → ¬ (b ≡ newline) → SameButLine (lines_of (u ++ (a ∷ v))) (lines_of (u ++ (b ∷ v))) (newlines u)
unfolding lines_of newlines before
other_byte [] v a b f g = rw (none_is a f, none_is b g) (go (lines_of v))
  where
    go : (lines : List (List ℕ)) → SameButLine (before false a lines) (before false b lines) 0
    go [] = record { many = refl; same = λ i h. of i h }
      where
        of : (i : ℕ) → ¬ (i ≡ 0) → get_or ((a ∷ []) ∷ []) i [] ≡ get_or ((b ∷ []) ∷ []) i []
        of zero h = absurd (h refl)
        of (suc i) h = refl
    go (l ∷ lines) = record { many = refl; same = λ i h. of i h }
      where
        of : (i : ℕ) → ¬ (i ≡ 0) → get_or ((a ∷ l) ∷ lines) i [] ≡ get_or ((b ∷ l) ∷ lines) i []
        of zero h = absurd (h refl)
        of (suc i) h = refl
other_byte (c ∷ u) v a b f g = before-other (is_newline c) c (lines_of (u ++ (a ∷ v))) (lines_of (u ++ (b ∷ v))) (newlines u) (other_byte u v a b f g)
