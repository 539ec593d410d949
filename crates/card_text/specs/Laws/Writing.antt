-- The words of a card, put together from the parts that are written one behind another; and how long they are at most.
use Rattle.std.specs.Prelude.{◌≡◌, Bool, true, ℕ, suc, ◌+◌, ◌*◌, ◌/◌, ◌%◌, ◌^◌, ◌≤◌, ◌<◌, eqb, length, get_or, take}
use Rattle.std.proofs.Math.Path.{refl}
use Rattle.std.proofs.Common.{ap, ◌∙◌, add-one, eq-eqb, ne_eqb, take-suc, take_all}
use Rattle.std.proofs.Math.Bool.{false}
use mathlib.Core.List.{List, [], ◌∷◌, ◌++◌, append_assoc, append-nil}
use native.Mathlib.Omega.{arith}
use Rattle.syntax.specs.Read.{bytes}
use Rattle.syntax.specs.Limits.{dot_all_bit, multiline_bit, ignore_case_bit, extended_bit, depot_bit}
use Rattle.syntax.specs.Flags.{dot_all, multiline, ignore_case, extended, depot}
use Rattle.text.specs.Lines.{newline}
use Rattle.text.specs.Numbers.{decimal}
use Rattle.text.specs.Writing.{Wrote}
use Rattle.text.specs.Laws.Numbers.{ten_digits}
use Rattle.text.specs.Laws.Writing.{wrote_both, wrote_nothing}
use Rattle.report.specs.Text.{is_printed, is_odd}
use Rattle.fields_text.specs.Escaping.{hexed}
use Rattle.fields_text.specs.Promises.{WroteUpTo}
use Rattle.card_text.specs.Text.{line, shown_byte, sign_under, one, each, sign_line, rule_lines, flag_line, set_lines, flag_lines}
use Rattle.card_text.specs.Room.{rule_room, flags_room, number_room}

-- One behind another ------------------------------------------------------------------

module _ {out mid new a b : List ℕ} {at m e p q : ℕ} where
  pub behind : at + p ≤ length out → WroteUpTo p out at a mid m → WroteUpTo q mid m b new e → WroteUpTo (p + q) out at (a ++ b) new e
  behind fits v w = record { wrote = wrote_both (omega (arith, v.near)) v.wrote w.wrote; near = omega (arith, v.near, w.near) }

-- a line: its label, its text and what ends it
pub lined : {out o₁ o₂ new label text : List ℕ} {at e₁ e₂ e most : ℕ} → at + (length label + most + 1) ≤ length out
    → Wrote out at label o₁ e₁ → WroteUpTo most o₁ e₁ text o₂ e₂ → Wrote o₂ e₂ (newline ∷ []) new e → WroteUpTo (length label + most + 1) out at (line label text) new e
unfolding line
lined fits u v w = record {
  wrote = wrote_both (omega (arith, u.ends, v.near)) (wrote_both (omega (arith, u.ends)) u v.wrote) w;
  near = omega (arith, u.ends, v.near, w.ends);
}

-- The rule's bytes ----------------------------------------------------------------------

each_append : (under : Bool) (a b : List ℕ) → each under (a ++ b) ≡ each under a ++ each under b
unfolding each
each_append under [] b = refl
each_append under (x ∷ a) b = rw (each_append under a b, append_assoc)

each_more : (under : Bool) (s : List ℕ) (i : ℕ) → i < length s → each under (take (suc i) s) ≡ each under (take i s) ++ one under (get_or s i 0)
unfolding each
each_more under s i h = ap (each under) (take-suc s i 0 h) ∙ each_append under (take i s) (get_or s i 0 ∷ []) ∙ ap (λ (l : List ℕ). each under (take i s) ++ l) (append-nil (one under (get_or s i 0)))

pub wrote_none : (under : Bool) (s out : List ℕ) (at : ℕ) → Wrote out at (each under (take 0 s)) out at
unfolding each
wrote_none under s out at = wrote_nothing out at

pub wrote_more : {out mid new : List ℕ} {at m e : ℕ} (under : Bool) (s : List ℕ) (i : ℕ) → i < length s → m ≤ length out
    → Wrote out at (each under (take i s)) mid m → WroteUpTo 4 mid m (one under (get_or s i 0)) new e → Wrote out at (each under (take (i + 1) s)) new e
wrote_more under s i h fits v w = rw (add-one i, each_more under s i h) (wrote_both fits v w.wrote)

pub wrote_all : {out new : List ℕ} {at e : ℕ} (under : Bool) (s : List ℕ) (i : ℕ) → length s ≤ i → Wrote out at (each under (take i s)) new e → Wrote out at (each under s) new e
wrote_all under s i h w = rw (take_all i s h) at w

-- which case of the definition a byte is
module _ (b : ℕ) (under : Bool) where
  pub under-printed : is_printed b ≡ true → under ≡ true → one under b ≡ bytes " "
  unfolding one sign_under
  under-printed p u = rw (u, p)

  pub as_itself : is_printed b ≡ true → under ≡ false → one under b ≡ b ∷ []
  unfolding one shown_byte
  as_itself p u = rw (u, p)

  pub under-odd : is_printed b ≡ false → under ≡ true → one under b ≡ bytes "^^^^"
  unfolding one sign_under
  under-odd p u = rw (u, p)

  pub as_hex : is_printed b ≡ false → under ≡ false → one under b ≡ hexed b
  unfolding one shown_byte
  as_hex p u = rw (u, p)

-- The rule's lines ------------------------------------------------------------------------

-- the room of one of them, for a rule of so many bytes
abbrev line_room : ℕ → ℕ
line_room size = 8 + 4 * size + 1

module _ {out new : List ℕ} {at e : ℕ} (rule : List ℕ) where
  pub ruled : is_odd rule ≡ false → WroteUpTo (line_room (length rule)) out at (line (bytes "rule    ") (each false rule)) new e → WroteUpTo (rule_room (length rule)) out at (rule_lines rule) new e
  unfolding rule_lines sign_line rule_room
  ruled o w = rw (o, append-nil (line (bytes "rule    ") (each false rule))) (record { wrote = w.wrote; near = omega (arith, w.near) })

  pub ruled-odd : {mid : List ℕ} {m : ℕ} → is_odd rule ≡ true → at + rule_room (length rule) ≤ length out
      → WroteUpTo (line_room (length rule)) out at (line (bytes "rule    ") (each false rule)) mid m → WroteUpTo (line_room (length rule)) mid m (line (bytes "        ") (each true rule)) new e
      → WroteUpTo (rule_room (length rule)) out at (rule_lines rule) new e
  unfolding rule_lines sign_line rule_room
  ruled-odd o fits v w =
      let z = behind (omega arith) v w in
      rw o (record { wrote = z.wrote; near = omega (arith, z.near) })

-- The flags' lines ------------------------------------------------------------------------

module _ {out : List ℕ} {at : ℕ} (words : List ℕ) where
  pub flag-unset : (set : Bool) → set ≡ false → WroteUpTo (9 + length words) out at (flag_line set words) out at
  unfolding flag_line
  flag-unset set u = rw u (record { wrote = wrote_nothing out at; near = omega arith })

  pub flag-set : {new : List ℕ} {e : ℕ} (set : Bool) → set ≡ true → WroteUpTo (8 + length words + 1) out at (line (bytes "flag    ") words) new e → WroteUpTo (9 + length words) out at (flag_line set words) new e
  unfolding flag_line
  flag-set set u w = rw u (record { wrote = w.wrote; near = omega (arith, w.near) })

-- a flag as the code asks for it
module _ (flags : ℕ) where
  pub dot_all-is : eqb (flags % 2) 1 ≡ dot_all flags
  unfolding dot_all dot_all_bit
  dot_all-is = let e : flags / 1 ≡ flags = omega arith in rw e

  pub multiline-is : eqb (flags / 2 % 2) 1 ≡ multiline flags
  unfolding multiline multiline_bit
  multiline-is = refl

  pub ignore_case-is : eqb (flags / 4 % 2) 1 ≡ ignore_case flags
  unfolding ignore_case ignore_case_bit
  ignore_case-is = refl

  pub extended-is : eqb (flags / 8 % 2) 1 ≡ extended flags
  unfolding extended extended_bit
  extended-is = refl

  pub depot-is : eqb (flags / 16 % 2) 1 ≡ depot flags
  unfolding depot depot_bit
  depot-is = refl

-- the lines of the flags
module _ (flags : ℕ) where
  pub none-lined : {out new : List ℕ} {at e : ℕ} → flags ≡ 0 → Wrote out at (bytes "flags   none\n") new e → WroteUpTo flags_room out at (flag_lines flags) new e
  unfolding flag_lines line newline flags_room
  none-lined z w = rw (eq-eqb flags 0 z) (record { wrote = w; near = omega (arith, w.ends) })

  pub flags-lined : {out new : List ℕ} {at e most : ℕ} → ¬ (flags ≡ 0) → WroteUpTo most out at (set_lines flags) new e → most ≤ flags_room → WroteUpTo flags_room out at (flag_lines flags) new e
  unfolding flag_lines
  flags-lined z w few = rw (ne_eqb flags 0 z) (record { wrote = w.wrote; near = omega (arith, w.near) })

-- A number's line -------------------------------------------------------------------------

pub numbered : {out o₁ o₂ new : List ℕ} {at e₁ e₂ e : ℕ} (label : List ℕ) (n : ℕ) → n < 2 ^ 32 → length label ≡ 8 → at + number_room ≤ length out
    → Wrote out at label o₁ e₁ → Wrote o₁ e₁ (decimal n) o₂ e₂ → Wrote o₂ e₂ (newline ∷ []) new e → WroteUpTo number_room out at (line label (decimal n)) new e
unfolding number_room
numbered label n h l fits u v w =
    let d = ten_digits n h in
    let z = lined {text = decimal n} {most = 10} (omega arith) u (record { wrote = v; near = omega (arith, v.ends) }) w in
    record { wrote = z.wrote; near = omega (arith, z.near) }
