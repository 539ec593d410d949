-- What a turn at a node comes to, by what was tested there. Assumes nothing.
use Rattle.std.specs.Prelude.{if◌then◌else◌}
use mathlib.Core.Path.{◌≡◌, refl, ap, sym, ◌∙◌}
use mathlib.Core.List.{List, ◌∷◌}
use mathlib.Core.Option.{Option, none, some}
use mathlib.Core.Bool.{Bool, true, false, ◌&&◌}
use Prim.Native.Nat.{ℕ, zero, suc, ◌+◌, ◌-◌, ◌≤◌, ◌<◌, ◌^◌}
use native.Mathlib.Omega.{arith}
use lib.ListN.{length, get_or, take, drop}
use lib.Seq.{get_or-take, drop-cons}
use lib.ListN.{drop_of_length-le, get_or-eq_default}
use lib.Dec.{ltb, leb, eqb}
use borrow.Author.Tests.{lt-ltb, le-ltb, ltb-true, leb-true}
use Rattle.charset.specs.Class.{has}
use Rattle.syntax.specs.Limits.{unset, spans_length}
use Rattle.syntax.specs.Read.{byte}
use Rattle.semantics.specs.Assertions.{holds}
use Rattle.semantics.specs.States.{State, moved}
use Rattle.semantics.specs.Items.{goes, when, same_byte, same_at, refer, compared, paid_for}
use Rattle.semantics.specs.Repeats.{is_full, allowed, decision}
use Rattle.machine.specs.Code.{Program, Instruction, in_set, folded_of, assertion_of, most_of, repeat_at, decode_as, decode, FitsAs}
use Rattle.machine.specs.Moves.{set2, state, bump, tested, price, takes}
use Rattle.machine.specs.Laws.Code.{decode-at}
use Rattle.machine.specs.Laws.Extent.{within}
use Rattle.nodes.specs.declared.references.Compared.TheVariants.{Same, Unlike, TooMany}
use Rattle.nodes.specs.Comparing.{stands_again, ComparedAs}
use Rattle.turns.specs.Turns.{Turn, onward, astray, body_here, other_than, on_from, body_of, branching, choosing_branch, beginning, either_turn, settled, deciding, behind_item, turn_by, turn}
use Rattle.turns.specs.Paces.{turn_as}

-- past the end there is 0
pub past : (l : List ℕ) (n : ℕ) → length l ≤ n → 0 ≡ get_or l n 0
past l n h = sym (get_or-eq_default l 0 {n = n} h)

-- Groups ----------------------------------------------------------------------------

pub opens-here : (p sub : List ℕ) (pc at : ℕ) (regs regs' cs : List ℕ) → regs' ≡ set2 regs (get_or p (pc + 2) 0) at 0 → onward 0 (get_or p (pc + 1) 0) at regs' cs ≡ turn_as 3 p sub pc at regs cs
unfolding turn_by
opens-here p sub pc at regs regs' cs e = ap (λ (r : List ℕ). onward 0 (get_or p (pc + 1) 0) at r cs) e

pub closes_here : (p sub : List ℕ) (pc at : ℕ) (regs regs' cs : List ℕ) → regs' ≡ set2 regs (get_or p (pc + 3) 0) (get_or regs (get_or p (pc + 2) 0) 0) at → onward 0 (get_or p (pc + 1) 0) at regs' cs ≡ turn_as 4 p sub pc at regs cs
unfolding turn_by
closes_here p sub pc at regs regs' cs e = ap (λ (r : List ℕ). onward 0 (get_or p (pc + 1) 0) at r cs) e

-- Items -------------------------------------------------------------------------------

tested-byte : (sub : List ℕ) (f : ℕ → Bool) (s : State) → tested sub (in_set f) s ≡ when (takes sub f s.at) (goes (moved (suc s.at) s))
unfolding tested takes when
tested-byte sub f s = by (ltb s.at (length sub)) (f (byte sub s.at))
  where
    by : (a b : Bool) → when a (when b (goes (moved (suc s.at) s))) ≡ when (a && b) (goes (moved (suc s.at) s))
    by true b = refl
    by false b = refl

pub byte-taken : (p sub : List ℕ) (pc at : ℕ) (regs cs : List ℕ) → takes sub (has (drop (pc + 3) p)) at ≡ true → onward 0 (get_or p (pc + 1) 0) (at + 1) regs cs ≡ turn_as 0 p sub pc at regs cs
unfolding turn_by behind_item price when moved
byte-taken p sub pc at regs cs e = let one : at + 1 ≡ suc at = omega arith in rw (tested-byte sub (has (drop (pc + 3) p)) (state at regs), e, one) refl

pub byte-missed : (p sub : List ℕ) (pc at : ℕ) (regs cs : List ℕ) → takes sub (has (drop (pc + 3) p)) at ≡ false → astray 1 ≡ turn_as 0 p sub pc at regs cs
unfolding turn_by behind_item price when
byte-missed p sub pc at regs cs e = rw (tested-byte sub (has (drop (pc + 3) p)) (state at regs), e) refl

pub assertion-held : (p sub : List ℕ) (pc at : ℕ) (regs cs : List ℕ) → holds sub (assertion_of (get_or p (pc + 3) 0)) at ≡ true → onward 0 (get_or p (pc + 1) 0) at regs cs ≡ turn_as 1 p sub pc at regs cs
unfolding turn_by behind_item price tested when
assertion-held p sub pc at regs cs e = rw e refl

pub assertion-failed : (p sub : List ℕ) (pc at : ℕ) (regs cs : List ℕ) → holds sub (assertion_of (get_or p (pc + 3) 0)) at ≡ false → astray 1 ≡ turn_as 1 p sub pc at regs cs
unfolding turn_by behind_item price tested when
assertion-failed p sub pc at regs cs e = rw e refl

-- Branches ------------------------------------------------------------------------------

no-body_of : (kind : ℕ) (p : Program) (pc : ℕ) → (kind ≡ 5 → ⊥) → (kind ≡ 6 → ⊥) → body_here (decode_as kind p pc) ≡ none
no-body_of zero p pc f g = refl
no-body_of (suc zero) p pc f g = refl
no-body_of (suc (suc zero)) p pc f g = refl
no-body_of (suc (suc (suc zero))) p pc f g = refl
no-body_of (suc (suc (suc (suc zero)))) p pc f g = refl
no-body_of (suc (suc (suc (suc (suc zero))))) p pc f g = absurd (f refl)
no-body_of (suc (suc (suc (suc (suc (suc zero)))))) p pc f g = absurd (g refl)
no-body_of (suc (suc (suc (suc (suc (suc (suc zero))))))) p pc f g = refl
no-body_of (suc (suc (suc (suc (suc (suc (suc (suc zero)))))))) p pc f g = refl
no-body_of (suc (suc (suc (suc (suc (suc (suc (suc (suc zero))))))))) p pc f g = refl
no-body_of (suc (suc (suc (suc (suc (suc (suc (suc (suc (suc zero)))))))))) p pc f g = refl
no-body_of (suc (suc (suc (suc (suc (suc (suc (suc (suc (suc (suc zero))))))))))) p pc f g = refl
no-body_of (suc (suc (suc (suc (suc (suc (suc (suc (suc (suc (suc (suc zero)))))))))))) p pc f g = refl
no-body_of (suc (suc (suc (suc (suc (suc (suc (suc (suc (suc (suc (suc (suc zero))))))))))))) p pc f g = refl
no-body_of (suc (suc (suc (suc (suc (suc (suc (suc (suc (suc (suc (suc (suc (suc zero)))))))))))))) p pc f g = refl
no-body_of (suc (suc (suc (suc (suc (suc (suc (suc (suc (suc (suc (suc (suc (suc (suc zero))))))))))))))) p pc f g = refl
no-body_of (suc (suc (suc (suc (suc (suc (suc (suc (suc (suc (suc (suc (suc (suc (suc (suc zero)))))))))))))))) p pc f g = refl
no-body_of (suc (suc (suc (suc (suc (suc (suc (suc (suc (suc (suc (suc (suc (suc (suc (suc (suc zero))))))))))))))))) p pc f g = refl
no-body_of (suc (suc (suc (suc (suc (suc (suc (suc (suc (suc (suc (suc (suc (suc (suc (suc (suc (suc n)))))))))))))))))) p pc f g = refl

no-other-of : (kind : ℕ) (p : Program) (pc : ℕ) → (kind ≡ 5 → ⊥) → other_than (decode_as kind p pc) ≡ none
no-other-of zero p pc f = refl
no-other-of (suc zero) p pc f = refl
no-other-of (suc (suc zero)) p pc f = refl
no-other-of (suc (suc (suc zero))) p pc f = refl
no-other-of (suc (suc (suc (suc zero)))) p pc f = refl
no-other-of (suc (suc (suc (suc (suc zero))))) p pc f = absurd (f refl)
no-other-of (suc (suc (suc (suc (suc (suc zero)))))) p pc f = refl
no-other-of (suc (suc (suc (suc (suc (suc (suc zero))))))) p pc f = refl
no-other-of (suc (suc (suc (suc (suc (suc (suc (suc zero)))))))) p pc f = refl
no-other-of (suc (suc (suc (suc (suc (suc (suc (suc (suc zero))))))))) p pc f = refl
no-other-of (suc (suc (suc (suc (suc (suc (suc (suc (suc (suc zero)))))))))) p pc f = refl
no-other-of (suc (suc (suc (suc (suc (suc (suc (suc (suc (suc (suc zero))))))))))) p pc f = refl
no-other-of (suc (suc (suc (suc (suc (suc (suc (suc (suc (suc (suc (suc zero)))))))))))) p pc f = refl
no-other-of (suc (suc (suc (suc (suc (suc (suc (suc (suc (suc (suc (suc (suc zero))))))))))))) p pc f = refl
no-other-of (suc (suc (suc (suc (suc (suc (suc (suc (suc (suc (suc (suc (suc (suc zero)))))))))))))) p pc f = refl
no-other-of (suc (suc (suc (suc (suc (suc (suc (suc (suc (suc (suc (suc (suc (suc (suc zero))))))))))))))) p pc f = refl
no-other-of (suc (suc (suc (suc (suc (suc (suc (suc (suc (suc (suc (suc (suc (suc (suc (suc zero)))))))))))))))) p pc f = refl
no-other-of (suc (suc (suc (suc (suc (suc (suc (suc (suc (suc (suc (suc (suc (suc (suc (suc (suc zero))))))))))))))))) p pc f = refl
no-other-of (suc (suc (suc (suc (suc (suc (suc (suc (suc (suc (suc (suc (suc (suc (suc (suc (suc (suc n)))))))))))))))))) p pc f = refl

module _ (p : Program) where
  pub body_at : (k q body : ℕ) → k ≡ 0 → get_or p q 0 ≡ 5 → get_or p (q + 1) 0 ≡ body → body_of p k q ≡ some body
  unfolding body_of
  body_at k q body z e f = rw (z, decode-at p q 5 e, f)

  pub last-body-at : (k q body : ℕ) → k ≡ 0 → get_or p q 0 ≡ 6 → get_or p (q + 1) 0 ≡ body → body_of p k q ≡ some body
  unfolding body_of
  last-body-at k q body z e f = rw (z, decode-at p q 6 e, f)

  pub no-body-at : (k q : ℕ) → k ≡ 0 → (get_or p q 0 ≡ 5 → ⊥) → (get_or p q 0 ≡ 6 → ⊥) → body_of p k q ≡ none
  unfolding body_of decode
  no-body-at k q z f g = rw z (no-body_of (get_or p q 0) p q f g)

  pub no-other-at : (k q : ℕ) → 0 < k → (get_or p q 0 ≡ 5 → ⊥) → body_of p k q ≡ none
  unfolding body_of decode on_from
  no-other-at zero q l f = absurd (omega arith)
  no-other-at (suc k) q l f = rw (no-other-of (get_or p q 0) p q f)

  pub other_at : (k j q next : ℕ) → 0 < k → j ≡ k - 1 → get_or p q 0 ≡ 5 → get_or p (q + 2) 0 ≡ next → body_of p k q ≡ body_of p j next
  unfolding body_of on_from
  other_at zero j q next l z e f = absurd (omega arith)
  other_at (suc k) j q next l z e f = let y : j ≡ k = omega arith in rw (decode-at p q 5 e, f, y)

  -- an alternation
  pub branch_read : (sub : List ℕ) (pc at : ℕ) (regs cs : List ℕ) (i : ℕ) (o : Option ℕ) → i < length cs → body_of p (get_or cs i 0) pc ≡ o → branching p o at regs (drop (i + 1) cs) ≡ turn_as 5 p sub pc at regs (drop i cs)
  unfolding turn_by choosing_branch
  branch_read sub pc at regs cs i o l e = let one : i + 1 ≡ suc i = omega arith in rw (drop-cons cs i 0 l, e, one)

  pub branch-unread : (sub : List ℕ) (pc at : ℕ) (regs cs : List ℕ) (i : ℕ) → length cs ≤ i → astray 0 ≡ turn_as 5 p sub pc at regs (drop i cs)
  unfolding turn_by choosing_branch
  branch-unread sub pc at regs cs i l = rw (drop_of_length-le cs l)

-- References --------------------------------------------------------------------------------

compared-low : (folded : Bool) (sub : List ℕ) (n a b : ℕ) → compared folded sub n a b ≤ length sub - b
unfolding compared
compared-low folded sub zero a b = omega arith
compared-low folded sub (suc n) a b = by (ltb b (length sub)) refl (same_byte folded (byte sub a) (byte sub b)) (compared-low folded sub n (suc a) (suc b))
  where
    by : (x : Bool) → ltb b (length sub) ≡ x → (y : Bool) → compared folded sub n (suc a) (suc b) ≤ length sub - suc b
        → (if x then suc (if y then compared folded sub n (suc a) (suc b) else 0) else 0) ≤ length sub - b
    by true e true h = omega (arith, ltb-true b (length sub) e)
    by true e false h = omega (arith, ltb-true b (length sub) e)
    by false e y h = omega arith

-- The reference at pc, tried at a position: the bytes of its span, from `from` to `to`, are compared with those there.
module _ (p sub regs : List ℕ) (pc at : ℕ) (fit : get_or p (pc + 3) 0 + 2 ≤ spans_length) (room : spans_length ≤ length regs) where
  abbrev slot : ℕ
  slot = get_or p (pc + 3) 0

  abbrev folded : Bool
  folded = folded_of (get_or p (pc + 4) 0)

  abbrev from : ℕ
  from = get_or regs slot 0

  abbrev to : ℕ
  to = get_or regs (slot + 1) 0

  span-at : (i : ℕ) → i < slot + 2 → get_or (take spans_length regs) i unset ≡ get_or regs i 0
  span-at i h = get_or-take spans_length regs i unset (omega arith) ∙ within regs i unset 0 (omega arith)

  refers : (cs : List ℕ) → turn_as 11 p sub pc at regs cs ≡ behind_item p (paid_for folded sub from to at) (refer folded sub from to (state at regs)) (get_or p (pc + 1) 0) regs cs
  unfolding turn_by tested price
  refers cs = rw (span-at slot (omega arith), span-at (slot + 1) (omega arith)) refl

  pub refers-unset : from ≡ unset → (cs : List ℕ) → astray 1 ≡ turn_as 11 p sub pc at regs cs
  unfolding refer when paid_for behind_item
  refers-unset e cs = sym (refers cs ∙ rw (le-ltb from unset (omega arith)) refl)

  module _ (n : ℕ) (long : n ≡ to - from) (given : from < unset) where
    both : (b : Bool) → stands_again folded sub n from at ≡ b → refer folded sub from to (state at regs) ≡ when b (goes (moved (at + n) (state at regs)))
    unfolding refer when
    both b e = rw (lt-ltb from unset given, ← long) (by (leb (at + n) (length sub)) (same_at folded sub n from at) b e)
      where
        by : (x y b : Bool) → (x && y) ≡ b → when x (when y (goes (moved (at + n) (state at regs)))) ≡ when b (goes (moved (at + n) (state at regs)))
        by true y b e = rw e
        by false y b e = rw (← e)

    pays : (k : ℕ) → compared folded sub n from at ≡ k → paid_for folded sub from to at ≡ k
    unfolding paid_for
    pays k e = rw (lt-ltb from unset given, ← long, e)

    module _ (left : ℕ) where
      pub refers-same : ComparedAs folded sub n from at left Same → (cs : List ℕ) → onward n (get_or p (pc + 1) 0) (at + n) regs cs ≡ turn_as 11 p sub pc at regs cs
      unfolding when behind_item moved
      refers-same w cs = sym (refers cs ∙ rw (both true w.0, pays n w.1) refl)

      pub refers-unlike : (k : ℕ) → ComparedAs folded sub n from at left (Unlike k) → (cs : List ℕ) → astray (1 + k) ≡ turn_as 11 p sub pc at regs cs
      unfolding when behind_item
      refers-unlike k w cs = let one : 1 + k ≡ suc k = omega arith in sym (refers cs ∙ rw (both false w.0, pays k w.1, one) refl)

      -- the position behind it is within the subject
      pub refers-inside : ComparedAs folded sub n from at left Same → at + n ≤ length sub
      refers-inside w = by (leb (at + n) (length sub)) refl w.0
        where
          by : (x : Bool) → leb (at + n) (length sub) ≡ x → (x && same_at folded sub n from at) ≡ true → at + n ≤ length sub
          by true q e = leb-true (at + n) (length sub) q
          by false q e = let z : ◌≡◌ {A = ℕ} 0 1 = cc in absurd (omega arith)

      pub never-long : length sub < 2 ^ 31 → left ≡ 4294967295 → ComparedAs folded sub n from at left TooMany → ⊥
      never-long h l w = omega (arith, w, compared-low folded sub n from at)

-- Decisions ---------------------------------------------------------------------------------

pub begins-round : (p : Program) (q n k at : ℕ) (regs regs' cs : List ℕ) → k ≡ bump n → regs' ≡ set2 regs (get_or p (q + 3) 0) k at → onward 0 (get_or p (q + 4) 0) at regs' cs ≡ beginning p (repeat_at p q) n at regs cs
unfolding repeat_at
begins-round p q n k at regs regs' cs z e = rw (e, z) refl

module _ (p : Program) (q n at : ℕ) (still : Bool) (regs : List ℕ) where
  pub decides-round : (cs : List ℕ) → n < get_or p q 0 → beginning p (repeat_at p q) n at regs cs ≡ deciding p q n still at regs cs
  unfolding deciding decision allowed settled repeat_at
  decides-round cs l = rw (lt-ltb n (get_or p q 0) l) refl

  module _ (enough : get_or p q 0 ≤ n) where
    pub decides-full : (cs : List ℕ) → is_full (most_of (get_or p (q + 1) 0)) n ≡ true → onward 0 (get_or p (q + 5) 0) at regs cs ≡ deciding p q n still at regs cs
    unfolding deciding decision allowed settled repeat_at
    decides-full cs e = rw (le-ltb n (get_or p q 0) enough, e) refl

    module _ (room : is_full (most_of (get_or p (q + 1) 0)) n ≡ false) where
      pub decides-still : (cs : List ℕ) → still ≡ true → onward 0 (get_or p (q + 5) 0) at regs cs ≡ deciding p q n still at regs cs
      unfolding deciding decision allowed settled repeat_at
      decides-still cs e = rw (le-ltb n (get_or p q 0) enough, room, e) refl

      module _ (moved_on : still ≡ false) where
        offered : (cs : List ℕ) → deciding p q n still at regs cs ≡ either_turn p (repeat_at p q) n at regs cs
        unfolding deciding decision allowed settled repeat_at
        offered cs = rw (le-ltb n (get_or p q 0) enough, room, moved_on) refl

        pub choice-missing : (cs : List ℕ) (i : ℕ) → length cs ≤ i → astray 1 ≡ deciding p q n still at regs (drop i cs)
        unfolding either_turn
        choice-missing cs i l = sym (offered (drop i cs) ∙ rw (drop_of_length-le cs l) refl)

        read_as : (cs : List ℕ) (i c : ℕ) → i < length cs → get_or cs i 0 ≡ c → deciding p q n still at regs (drop i cs) ≡ either_turn p (repeat_at p q) n at regs (c ∷ drop (i + 1) cs)
        read_as cs i c l e = let one : i + 1 ≡ suc i = omega arith in offered (drop i cs) ∙ rw (drop-cons cs i 0 l, e, one) refl

        pub choice-on : (cs : List ℕ) (i : ℕ) → i < length cs → get_or cs i 0 ≡ 0 → onward 0 (get_or p (q + 5) 0) at regs (drop (i + 1) cs) ≡ deciding p q n still at regs (drop i cs)
        unfolding either_turn repeat_at
        choice-on cs i l e = sym (read_as cs i 0 l e)

        pub choice-again : (cs : List ℕ) (i : ℕ) → i < length cs → get_or cs i 0 ≡ 1 → beginning p (repeat_at p q) n at regs (drop (i + 1) cs) ≡ deciding p q n still at regs (drop i cs)
        unfolding either_turn
        choice-again cs i l e = sym (read_as cs i 1 l e)

        neither : (c : ℕ) (cs : List ℕ) → (c ≡ 0 → ⊥) → (c ≡ 1 → ⊥) → either_turn p (repeat_at p q) n at regs (c ∷ cs) ≡ astray 1
        unfolding either_turn
        neither zero cs f g = absurd (f refl)
        neither (suc zero) cs f g = absurd (g refl)
        neither (suc (suc c)) cs f g = refl

        pub choice-other : (cs : List ℕ) (i : ℕ) → i < length cs → (get_or cs i 0 ≡ 0 → ⊥) → (get_or cs i 0 ≡ 1 → ⊥) → astray 1 ≡ deciding p q n still at regs (drop i cs)
        choice-other cs i l f g = sym (read_as cs i (get_or cs i 0) l refl ∙ neither (get_or cs i 0) (drop (i + 1) cs) f g)

pub ends-round : (p sub : List ℕ) (pc at : ℕ) (regs cs : List ℕ) (x : Turn) (still : Bool) → still ≡ eqb (get_or regs (get_or p (pc + 1 + 3) 0 + 1) 0) at → x ≡ deciding p (pc + 1) (get_or regs (get_or p (pc + 1 + 3) 0) 0) still at regs cs → x ≡ turn_as 8 p sub pc at regs cs
unfolding turn_by repeat_at
ends-round p sub pc at regs cs x still e f = f ∙ ap (λ (b : Bool). deciding p (pc + 1) (get_or regs (get_or p (pc + 1 + 3) 0) 0) b at regs cs) e

-- A turn at a node, by its kind ---------------------------------------------------------------

pub turn-as : (p sub : List ℕ) (pc at : ℕ) (regs cs : List ℕ) (kind : ℕ) → get_or p pc 0 ≡ kind → turn_as kind p sub pc at regs cs ≡ turn p sub pc at regs cs
turn-as p sub pc at regs cs kind e = ap (λ (i : Instruction). turn_by p sub i pc at regs cs) (sym (decode-at p pc kind e))

pub enters-as : (p sub : List ℕ) (pc at : ℕ) (regs cs : List ℕ) → get_or p pc 0 ≡ 7 → deciding p (pc + 2) 0 false at regs cs ≡ turn p sub pc at regs cs
unfolding turn_by
enters-as p sub pc at regs cs e = turn-as p sub pc at regs cs 7 e

pub runs_as : (p sub : List ℕ) (pc at : ℕ) (regs cs : List ℕ) → get_or p pc 0 ≡ 10 → deciding p (pc + 2) 0 false at regs cs ≡ turn p sub pc at regs cs
unfolding turn_by
runs_as p sub pc at regs cs e = turn-as p sub pc at regs cs 10 e

-- the others are not followed
not-followed : (kind : ℕ) (p sub : List ℕ) (pc at : ℕ) (regs cs : List ℕ) → FitsAs kind p pc → (kind ≡ 0 → ⊥) → (kind ≡ 1 → ⊥) → (kind ≡ 3 → ⊥) → (kind ≡ 4 → ⊥) → (kind ≡ 5 → ⊥) → (kind ≡ 7 → ⊥) → (kind ≡ 8 → ⊥) → (kind ≡ 9 → ⊥) → (kind ≡ 10 → ⊥) → (kind ≡ 11 → ⊥) → astray 0 ≡ turn_as kind p sub pc at regs cs
unfolding turn_by
not-followed zero p sub pc at regs cs z a b d e f g h i j k = absurd (a refl)
not-followed (suc zero) p sub pc at regs cs z a b d e f g h i j k = absurd (b refl)
not-followed (suc (suc zero)) p sub pc at regs cs z a b d e f g h i j k = absurd z
not-followed (suc (suc (suc zero))) p sub pc at regs cs z a b d e f g h i j k = absurd (d refl)
not-followed (suc (suc (suc (suc zero)))) p sub pc at regs cs z a b d e f g h i j k = absurd (e refl)
not-followed (suc (suc (suc (suc (suc zero))))) p sub pc at regs cs z a b d e f g h i j k = absurd (f refl)
not-followed (suc (suc (suc (suc (suc (suc zero)))))) p sub pc at regs cs z a b d e f g h i j k = refl
not-followed (suc (suc (suc (suc (suc (suc (suc zero))))))) p sub pc at regs cs z a b d e f g h i j k = absurd (g refl)
not-followed (suc (suc (suc (suc (suc (suc (suc (suc zero)))))))) p sub pc at regs cs z a b d e f g h i j k = absurd (h refl)
not-followed (suc (suc (suc (suc (suc (suc (suc (suc (suc zero))))))))) p sub pc at regs cs z a b d e f g h i j k = absurd (i refl)
not-followed (suc (suc (suc (suc (suc (suc (suc (suc (suc (suc zero)))))))))) p sub pc at regs cs z a b d e f g h i j k = absurd (j refl)
not-followed (suc (suc (suc (suc (suc (suc (suc (suc (suc (suc (suc zero))))))))))) p sub pc at regs cs z a b d e f g h i j k = absurd (k refl)
not-followed (suc (suc (suc (suc (suc (suc (suc (suc (suc (suc (suc (suc zero)))))))))))) p sub pc at regs cs z a b d e f g h i j k = refl
not-followed (suc (suc (suc (suc (suc (suc (suc (suc (suc (suc (suc (suc (suc zero))))))))))))) p sub pc at regs cs z a b d e f g h i j k = refl
not-followed (suc (suc (suc (suc (suc (suc (suc (suc (suc (suc (suc (suc (suc (suc zero)))))))))))))) p sub pc at regs cs z a b d e f g h i j k = refl
not-followed (suc (suc (suc (suc (suc (suc (suc (suc (suc (suc (suc (suc (suc (suc (suc zero))))))))))))))) p sub pc at regs cs z a b d e f g h i j k = refl
not-followed (suc (suc (suc (suc (suc (suc (suc (suc (suc (suc (suc (suc (suc (suc (suc (suc zero)))))))))))))))) p sub pc at regs cs z a b d e f g h i j k = refl
not-followed (suc (suc (suc (suc (suc (suc (suc (suc (suc (suc (suc (suc (suc (suc (suc (suc (suc zero))))))))))))))))) p sub pc at regs cs z a b d e f g h i j k = refl
not-followed (suc (suc (suc (suc (suc (suc (suc (suc (suc (suc (suc (suc (suc (suc (suc (suc (suc (suc n)))))))))))))))))) p sub pc at regs cs z a b d e f g h i j k = absurd z

pub other-turn : (p sub : List ℕ) (pc at : ℕ) (regs cs : List ℕ) → FitsAs (get_or p pc 0) p pc → (get_or p pc 0 ≡ 0 → ⊥) → (get_or p pc 0 ≡ 1 → ⊥) → (get_or p pc 0 ≡ 3 → ⊥) → (get_or p pc 0 ≡ 4 → ⊥) → (get_or p pc 0 ≡ 5 → ⊥) → (get_or p pc 0 ≡ 7 → ⊥) → (get_or p pc 0 ≡ 8 → ⊥) → (get_or p pc 0 ≡ 9 → ⊥) → (get_or p pc 0 ≡ 10 → ⊥) → (get_or p pc 0 ≡ 11 → ⊥) → astray 0 ≡ turn p sub pc at regs cs
other-turn p sub pc at regs cs z a b d e f g h i j k = not-followed (get_or p pc 0) p sub pc at regs cs z a b d e f g h i j k ∙ turn-as p sub pc at regs cs (get_or p pc 0) refl
