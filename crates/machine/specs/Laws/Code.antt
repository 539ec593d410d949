-- Reading nodes: what is written for an assertion, a bound or a greed is read back, and a node of a known kind is read as that kind.
use Rattle.std.specs.Prelude.{◌≡◌, refl, Bool, true, false, ℕ, ◌+◌, ◌≤◌, ◌<◌, length, get_or}
use Rattle.std.proofs.Common.{arith, eq-eqb, ne_eqb}
use Rattle.syntax.specs.declared.Assertion.{Assertion}
use Rattle.syntax.specs.declared.Assertion.TheVariants.{TextStart, LineStart, TextEnd, LastLineEnd, LineEnd, WordBoundary, NoWordBoundary}
use Rattle.syntax.specs.declared.Greed.{Greed}
use Rattle.syntax.specs.declared.Greed.TheVariants.{Greedy, Lazy}
use Rattle.syntax.specs.declared.Most.{Most}
use Rattle.syntax.specs.declared.Most.TheVariants.{AtMost, Unlimited}
use Rattle.syntax.specs.Limits.{unset, bound_limit, spans_length, registers}
use Rattle.syntax.specs.WellFormed.{BoundsFit}
use Rattle.syntax.specs.Compiled.{assertion_word, most_word, greed_word, folded_word}
use Rattle.machine.specs.Code.{Program, pick_most, most_of, greed_of, folded_of, assertion_of, repeat_at, decode_as, decode, FitsAs, Fits}

-- the captures are registers
pub spans-in-registers : spans_length ≤ registers
unfolding registers
spans-in-registers = omega arith

pub assertion-read : (a : Assertion) → assertion_of (assertion_word a) ≡ a
unfolding assertion_of assertion_word
assertion-read TextStart = refl
assertion-read LineStart = refl
assertion-read TextEnd = refl
assertion-read LastLineEnd = refl
assertion-read LineEnd = refl
assertion-read WordBoundary = refl
assertion-read NoWordBoundary = refl

pub greed-read : (g : Greed) → greed_of (greed_word g) ≡ g
unfolding greed_of greed_word
greed-read Greedy = refl
greed-read Lazy = refl

pub folded_read : (folded : Bool) → folded_of (folded_word folded) ≡ folded
unfolding folded_of folded_word
folded_read true = refl
folded_read false = refl

bound-set : (n : ℕ) → n ≤ bound_limit → n ≡ unset → ⊥
unfolding bound_limit unset
bound-set n h e = omega arith

-- no bound of a repeat is the number that stands for none
pub most-read : (least : ℕ) (most : Most) → BoundsFit least most → most_of (most_word most) ≡ most
unfolding most_of most_word pick_most
most-read least (AtMost m) h = rw (ne_eqb m unset (bound-set m h.1))
most-read least Unlimited h = rw (eq-eqb unset unset refl)

pub repeat_read : (p : Program) (q least : ℕ) (most : Most) (g : Greed) (r body next : ℕ) → BoundsFit least most
    → get_or p q 0 ≡ least → get_or p (q + 1) 0 ≡ most_word most → get_or p (q + 2) 0 ≡ greed_word g → get_or p (q + 3) 0 ≡ r → get_or p (q + 4) 0 ≡ body → get_or p (q + 5) 0 ≡ next
    → repeat_at p q ≡ record { least = least; most = most; greed = g; register = r; body = body; next = next }
unfolding repeat_at
repeat_read p q least most g r body next fit e₀ e₁ e₂ e₃ e₄ e₅ = rw (e₀, e₁, e₂, e₃, e₄, e₅, most-read least most fit, greed-read g)

pub decode-at : (p : Program) (pc kind : ℕ) → get_or p pc 0 ≡ kind → decode p pc ≡ decode_as kind p pc
unfolding decode
decode-at p pc kind e = rw e

pub fits-at : (p : Program) (pc kind : ℕ) → get_or p pc 0 ≡ kind → Fits p pc → FitsAs kind p pc
fits-at p pc kind e f = rw e at f.node

pub fits : (p : Program) (pc kind : ℕ) → get_or p pc 0 ≡ kind → pc < length p → FitsAs kind p pc → Fits p pc
fits p pc kind e l f = record { here = l; node = rw e f }
