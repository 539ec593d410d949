-- The bytes of a class's member, folded or not, a loop over the members, and the class that they make. Assumes nothing.
use mathlib.Core.Path.{◌≡◌, ap, sym, ◌∙◌}
use mathlib.Core.List.{List, [], ◌∷◌}
use mathlib.Core.Bool.{Bool, true, false, not, ◌||◌, and-false, or-false}
use Prim.Native.Nat.{ℕ, ◌+◌, ◌-◌, ◌<◌}
use native.Mathlib.Omega.{arith}
use native.Mathlib.Decide.{dec_lt}
use lib.ListN.{length}
use borrow.Author.Tests.{ne_eqb}
use Rattle.charset.specs.Cases.{folding}
use Rattle.charset.specs.Class.{has}
use Rattle.charset.specs.Laws.Cases.{not-folded, folding-same}
use Rattle.syntax.specs.declared.Reason.TheVariants.{UnclosedClass}
use Rattle.syntax.specs.declared.Refusal.{Refusal}
use Rattle.syntax.specs.Read.{byte, is_end, is, sound, refused, and_then}
use Rattle.syntax.specs.Sets.{Member, is_member, is_any, in_class}
use Rattle.syntax.specs.Classes.{element, member, members, class}
use Rattle.syntax.specs.Laws.Forward.{Given, Past, member-on}
use Rattle.syntax.specs.Laws.Fuel.{byte_past, members-turn}
use Rattle.std.specs.Prelude.{Result, Ok, Err}
use Rattle.syntax.specs.declared.Parsed.{Parsed}
use Rattle.escapes.specs.declared.Member.{Member as Told}
use Rattle.escapes.specs.Says.{member_of}
use Rattle.classes.specs.Says.{HoldsMembers, SaysMembers, SaysClass}

-- The bytes of a member ---------------------------------------------------------------

-- the words hold these bytes
abbrev Holds : List ℕ → (ℕ → Bool) → Type 0
Holds words these = (x : ℕ) → x < 256 → has words x ≡ these x

-- added to no byte
pub alone-holds : (none words : List ℕ) (these : ℕ → Bool) → Holds none (λ x. false) → Holds words (λ x. these x || has none x) → Holds words these
alone-holds none words these e a x h = a x h ∙ rw (e x h, or-false (these x))

-- folded
pub folded-holds : (words both : List ℕ) (these : ℕ → Bool) → Holds words these → Holds both (folding true (has words)) → Holds both (folding true these)
folded-holds words both these e f x h = f x h ∙ folding-same true (has words) these e x h

-- a member that is folded, joined to what there is
pub joins-folded : (folded : Bool) → folded ≡ true → (m : Member) (words own more : List ℕ) → Holds own (λ x. is_member true x m) → Holds more (λ x. has own x || has words x) → Holds more (λ x. is_member folded x m || has words x)
joins-folded folded t m words own more o a x h = a x h ∙ rw (o x h, t)

-- bytes that are not folded, and those that a set lacks, added to what there is
module _ (folded : Bool) (f : folded ≡ false) (words more : List ℕ) (these : ℕ → Bool) where
  pub adds-plain : Holds more (λ x. these x || has words x) → Holds more (λ x. folding folded these x || has words x)
  adds-plain a x h = a x h ∙ rw (f, not-folded these x)

  pub adds-complement : Holds more (λ x. not (these x) || has words x) → Holds more (λ x. not (folding folded these x) || has words x)
  adds-complement a x h = a x h ∙ rw (f, not-folded these x)

-- The loop -----------------------------------------------------------------------------

-- the words hold the members that a loop has passed, which goes on at a position
pub record Collected (folded strict : Bool) (s : List ℕ) (from start : ℕ) (words : List ℕ) (at : ℕ) : Type 0 where
  pub ms : List Member
  pub same : members (length s) s strict from true [] start ≡ and_then (member s strict from at) (λ x next. members (length s) s strict from false (x ∷ ms) next)
  pub holds : HoldsMembers folded words ms

pub collected-none : (folded strict : Bool) (s : List ℕ) (from start : ℕ) (words : List ℕ) → ((x : ℕ) → x < 256 → has words x ≡ false) → Collected folded strict s from start words start
unfolding is_any
collected-none folded strict s from start words h = record { ms = []; same = members-turn s strict from true [] start ∙ rw (and-false (is "]" (byte s start))); holds = h }

past_by : (strict : Bool) (s : List ℕ) (from at : ℕ) (x : Member) (n : ℕ) → member s strict from at ≡ sound x n → Dec (at < length s) → at < length s
unfolding member element is_end
past_by strict s from at x n e (yes h) = h
past_by strict s from at x n e (no h) =
    let k : member s strict from at ≡ refused from UnclosedClass = rw (byte_past s at (omega arith)) in
    let z : ◌≡◌ {A = ℕ} 0 1 = cc in
    absurd (omega arith)

module _ (folded strict : Bool) (s : List ℕ) (from start : ℕ) (words : List ℕ) (at : ℕ) (c : Collected folded strict s from start words at) where
  pub collected-bad : (f : Refusal) → refused f.place f.reason ≡ member s strict from at → members (length s) s strict from true [] start ≡ refused f.place f.reason
  collected-bad f k = c.same ∙ rw (← k)

  module _ (p : Parsed Told) (r : sound (member_of p.value) p.next ≡ member s strict from at) where
    -- the loop goes forward, within the rule
    pub collected-less : length s - p.next < length s - at
    collected-less =
        let g : Given (sound (member_of p.value) p.next) (Past (at + 1)) = rw (sym r) at (member-on s strict from at) in
        let h : at < length s = past_by strict s from at (member_of p.value) p.next (sym r) (dec_lt at (length s)) in
        omega arith

    module _ (more : List ℕ) (a : (x : ℕ) → x < 256 → has more x ≡ (is_member folded x (member_of p.value) || has words x)) where
      holds_more : HoldsMembers folded more (member_of p.value ∷ c.ms)
      unfolding is_any
      holds_more x h = a x h ∙ rw (c.holds x h)

      goes_on : members (length s) s strict from true [] start ≡ members (length s) s strict from false (member_of p.value ∷ c.ms) p.next
      goes_on = c.same ∙ rw (← r)

      module _ (b : ℕ) (q : b ≡ byte s p.next) where
        pub collected-closed : b ≡ 93 → SaysMembers folded (members (length s) s strict from true [] start) (Ok (record { value = more; next = p.next + 1 }))
        collected-closed e = (member_of p.value ∷ c.ms, goes_on ∙ members-turn s strict from false (member_of p.value ∷ c.ms) p.next ∙ rw (← q, e), holds_more)

        pub collected-more : (b ≡ 93 → ⊥) → Collected folded strict s from start more p.next
        collected-more d = record { ms = member_of p.value ∷ c.ms; same = goes_on ∙ members-turn s strict from false (member_of p.value ∷ c.ms) p.next ∙ rw (← q) (simp (ne_eqb b 93 d)); holds = holds_more }

-- The class ----------------------------------------------------------------------------

module _ (folded strict : Bool) (s : List ℕ) (from b : ℕ) (p : b ≡ byte s (from + 1)) where
  pub class-plain : (b ≡ 94 → ⊥) → (r : Result (Parsed (List ℕ)) Refusal) → SaysMembers folded (members (length s) s strict from true [] (from + 1)) r → SaysClass folded (class s strict from) r
  unfolding class in_class
  class-plain n (Ok w) r = (record { negated = false; members = r.0 }, rw (← p) (simp (ne_eqb b 94 n) (rw r.1)), r.2)
  class-plain n (Err f) r = rw (← p) (simp (ne_eqb b 94 n) (rw r))

  module _ (t : b ≡ 94) where
    pub class-negated : (w : Parsed (List ℕ)) (others : List ℕ) → ((x : ℕ) → x < 256 → has others x ≡ not (has w.value x)) → SaysMembers folded (members (length s) s strict from true [] (from + 2)) (Ok w) → SaysClass folded (class s strict from) (Ok (record { value = others; next = w.next }))
    unfolding class in_class
    class-negated w others o r = (record { negated = true; members = r.0 }, rw (← p, t, r.1), λ x h. o x h ∙ ap not (r.2 x h))

    pub class-bad : (f : Refusal) → members (length s) s strict from true [] (from + 2) ≡ refused f.place f.reason → class s strict from ≡ refused f.place f.reason
    unfolding class in_class
    class-bad f r = rw (← p, t, r)
