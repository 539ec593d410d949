-- The opening of a group: which case of the grammar follows from the bytes that the code met, and what the table of names then spells.
use Rattle.std.specs.Prelude.{Option, Some, None, IfSome, unwrap_or, Result, Ok, Err, if◌then◌else◌}
use Rattle.std.specs.Option.{is_some}
use mathlib.Core.Path.{◌≡◌, refl, ap, subst, ◌∙◌}
use mathlib.Core.Bool.{Bool, true, false, not, ◌&&◌, ◌||◌}
use mathlib.Core.List.{List, [], ◌∷◌}
use Prim.Native.Nat.{ℕ, zero, suc, ◌+◌, ◌-◌, ◌*◌, ◌≤◌, ◌<◌}
use Prim.Native.Char.{Char}
use native.Mathlib.Omega.{arith}
use native.Mathlib.Decide.{dec_lt}
use borrow.Author.Tests.{ne_eqb, lt-ltb, le-ltb}
use lib.Dec.{eqb, ltb}
use lib.ListN.{length, get_or}
use lib.Seq.{slice, slice_empty}
use Rattle.syntax.specs.declared.Form.{Form}
use Rattle.syntax.specs.declared.Form.TheVariants.{Grouped, Captured, Held, Ahead, NotAhead}
use Rattle.syntax.specs.declared.Reason.TheVariants.{UnknownGroup, TooManyGroups, TooDeep, NameTwice}
use Rattle.syntax.specs.declared.Parsed.{Parsed}
use Rattle.syntax.specs.declared.Refusal.{Refusal}
use Rattle.syntax.specs.Limits.{group_limit, spans_length}
use Rattle.syntax.specs.Read.{byte, is, Read, sound, refused, and_then}
use Rattle.syntax.specs.Sets.{same_bytes}
use Rattle.syntax.specs.Tree.{Rule, enclosed}
use Rattle.syntax.specs.Names.{Name, Names, word_at, is_name, name_up_to, is_used, fresh, group_called}
use Rattle.syntax.specs.Grammar.{Inner, closing, capturing, uncaptured, grouped, alternation, inside}
use Rattle.syntax.specs.Laws.Forward.{Given, Past, if-given}
use Rattle.lexemes.specs.declared.Name.{Name as NameAt}
use Rattle.lexemes.specs.Says.{Peeked, SaysNameUpTo}
use Rattle.name_table.specs.Table.{names_in, NamesFit, length-names}
use Rattle.brackets.specs.declared.Bracket.{Bracket}
use Rattle.brackets.specs.declared.Bracket.TheVariants.{Named, Captures, Begins}
use Rattle.brackets.specs.declared.Opening.{Opening}
use Rattle.writer.specs.Wrote.{Wrote}
use Rattle.brackets.specs.Says.{FormFits, head_of, Bracketed, IsBracket, SaysBracket, SaysHead, SaysOpening}

-- What group it is ------------------------------------------------------------------

then-as : {A B : Type 0} (a : Read A) (j k : A → ℕ → Read B) → ((x : A) (n : ℕ) → j x n ≡ k x n) → and_then a j ≡ and_then a k
then-as (sound x n) j k h = h x n
then-as (refused place why) j k h = refl

few-yes : (n : ℕ) → n < group_limit → ltb n group_limit ≡ true
few-yes n h = lt-ltb n group_limit h

few-no : (n : ℕ) → group_limit ≤ n → ltb n group_limit ≡ false
few-no n h = le-ltb n group_limit h

next-few : (n : ℕ) → n < group_limit → n + 1 ≤ group_limit
next-few n h = omega arith

-- a group that captures has the number behind those opened
module _ (s : List ℕ) (inner : Inner) (at : ℕ) (names : Names) (name : Read Name) {opened : ℕ} (n : length names ≡ opened) where
  number-next : (t : Rule) → enclosed (Captured (suc (length names))) at t ≡ enclosed (Captured (opened + 1)) at t
  number-next t = let z : suc (length names) ≡ opened + 1 = omega arith in ap (λ (k : ℕ). enclosed (Captured k) at t) z

  capture-some : opened < group_limit → capturing s inner at names name ≡ and_then (inner at (and_then name (λ m next. sound (m ∷ names) next))) (λ r end. closing s at (enclosed (Captured (opened + 1)) at r.0) r.1 end)
  unfolding capturing
  capture-some h =
      let few : ltb (length names) group_limit ≡ true = few-yes (length names) (omega arith) in
      rw few (then-as (inner at (and_then name (λ m next. sound (m ∷ names) next))) _ _ (λ r end. ap (λ (t : Rule). closing s at t r.1 end) (number-next r.0)))

  capture-many : group_limit ≤ opened → capturing s inner at names name ≡ refused at TooManyGroups
  unfolding capturing
  capture-many h = let many : ltb (length names) group_limit ≡ false = few-no (length names) (omega arith) in rw many

-- behind `(?`
module _ {s : List ℕ} {d : ℕ} (at opened : ℕ) (p : Peeked s (at + 1) 63) (q : Peeked s (at + 2) d) where
  bracket-form : (form : Form) → FormFits form → d < 256 → ((inner : Inner) (names : Names) → grouped s inner at names ≡ uncaptured s inner at names form) → SaysBracket s at opened (Ok (Begins (at + 3) form))
  unfolding uncaptured
  bracket-form form f l e = record { on = omega arith; within = omega (arith, q.near); numbered = f; goes = λ inner names n. e inner names }

  pub bracket-plain : d ≡ 58 → SaysBracket s at opened (Ok (Begins (at + 3) Grouped))
  unfolding grouped
  bracket-plain f = bracket-form Grouped tt (omega arith) (λ inner names. rw (← p.is, ← q.is, f))

  pub bracket-held : d ≡ 62 → SaysBracket s at opened (Ok (Begins (at + 3) Held))
  unfolding grouped
  bracket-held f = bracket-form Held tt (omega arith) (λ inner names. rw (← p.is, ← q.is, f))

  pub bracket-ahead : d ≡ 61 → SaysBracket s at opened (Ok (Begins (at + 3) Ahead))
  unfolding grouped
  bracket-ahead f = bracket-form Ahead tt (omega arith) (λ inner names. rw (← p.is, ← q.is, f))

  pub bracket-not-ahead : d ≡ 33 → SaysBracket s at opened (Ok (Begins (at + 3) NotAhead))
  unfolding grouped
  bracket-not-ahead f = bracket-form NotAhead tt (omega arith) (λ inner names. rw (← p.is, ← q.is, f))

  pub bracket-unknown : (d ≡ 58 → ⊥) → (d ≡ 62 → ⊥) → (d ≡ 61 → ⊥) → (d ≡ 33 → ⊥) → (d ≡ 60 → ⊥) → SaysBracket s at opened (Err (record { place = at; reason = UnknownGroup }))
  unfolding grouped
  bracket-unknown a b c e f inner names n = rw (← p.is, ← q.is) (simp (ne_eqb d 58 a, ne_eqb d 62 b, ne_eqb d 61 c, ne_eqb d 33 e, ne_eqb d 60 f))

  grouped-named : d ≡ 60 → (inner : Inner) (names : Names) → grouped s inner at names ≡ capturing s inner at names (fresh at names (name_up_to ">" s at (at + 3)))
  unfolding grouped
  grouped-named f inner names = rw (← p.is, ← q.is, f)

  pub bracket-named : d ≡ 60 → opened < group_limit → SaysBracket s at opened (Ok (Named (at + 3)))
  unfolding head_of
  bracket-named f few = record {
    on = omega arith;
    within = omega (arith, q.near);
    numbered = (omega arith, next-few opened few);
    goes = λ inner names n. grouped-named f inner names ∙ capture-some s inner at names _ n few;
  }

  pub named-many : d ≡ 60 → group_limit ≤ opened → SaysBracket s at opened (Err (record { place = at; reason = TooManyGroups }))
  named-many f many inner names n = grouped-named f inner names ∙ capture-many s inner at names _ n many

module _ {s : List ℕ} {at b : ℕ} (opened : ℕ) (p : Peeked s (at + 1) b) (l : at < length s) (ne : b ≡ 63 → ⊥) where
  grouped-plainly : (inner : Inner) (names : Names) → grouped s inner at names ≡ capturing s inner at names (sound [] (at + 1))
  unfolding grouped
  grouped-plainly inner names = rw (← p.is) (simp (ne_eqb b 63 ne))

  pub bracket-capture : opened < group_limit → SaysBracket s at opened (Ok (Captures (at + 1)))
  unfolding head_of
  bracket-capture few = record {
    on = omega arith;
    within = omega arith;
    numbered = (omega arith, next-few opened few);
    goes = λ inner names n. grouped-plainly inner names ∙ capture-some s inner at names _ n few;
  }

  pub capture-too-many : group_limit ≤ opened → SaysBracket s at opened (Err (record { place = at; reason = TooManyGroups }))
  capture-too-many many inner names n = grouped-plainly inner names ∙ capture-many s inner at names _ n many

-- The table -------------------------------------------------------------------------

-- the names of the groups before are as they were
names-kept : (s old new : List ℕ) (g : ℕ) → ((i : ℕ) → i < 2 * g → get_or new i 0 ≡ get_or old i 0) → names_in s new g ≡ names_in s old g
unfolding names_in
names-kept s old new zero e = refl
names-kept s old new (suc g) e = rw (e (2 * g) (omega arith), e (2 * g + 1) (omega arith), names-kept s old new g (λ i l. e i (omega arith)))

pub table-room : (opened : ℕ) (table : List ℕ) → opened + 1 ≤ group_limit → spans_length ≤ length table → 2 * (opened + 1) ≤ length table
unfolding spans_length group_limit
table-room opened table h l = omega arith

module _ (s : List ℕ) {old new : List ℕ} (opened : ℕ) {m len : ℕ} (w : Wrote old new (2 * opened) 2 (m ∷ len ∷ [])) where
  begins-at : get_or new (2 * opened) 0 ≡ m
  begins-at = let e : 2 * opened ≡ 2 * opened + 0 = omega arith in ap (λ (i : ℕ). get_or new i 0) e ∙ w.at 0 (omega arith)

  long_as : get_or new (2 * opened + 1) 0 ≡ len
  long_as = w.at 1 (omega arith)

  name-next : names_in s new (suc opened) ≡ slice m (m + len) s ∷ names_in s old opened
  unfolding names_in
  name-next = rw (begins-at, long_as, names-kept s old new opened w.below)

  pub names-next : names_in s new (opened + 1) ≡ slice m (m + len) s ∷ names_in s old opened
  names-next = let e : opened + 1 ≡ suc opened = omega arith in rw e name-next

  pub fit_next : NamesFit s old opened → (1 ≤ len → m + len ≤ length s) → 2 * (opened + 1) ≤ length new → NamesFit s new (opened + 1)
  fit_next f h l = record { room = l; within = λ g u v. by g u v (dec_lt g opened) }
    where
      by : (g : ℕ) → g < opened + 1 → 1 ≤ get_or new (2 * g + 1) 0 → Dec (g < opened) → get_or new (2 * g) 0 + get_or new (2 * g + 1) 0 ≤ length s
      by g u v (yes k) =
          let a = w.below (2 * g) (omega arith) in
          let b = w.below (2 * g + 1) (omega arith) in
          let x = f.within g k (omega (arith, b, v)) in
          omega (arith, a, b, x)
      by g u v (no k) =
          let z : g ≡ opened = omega arith in
          let a : get_or new (2 * g) 0 ≡ m = rw z begins-at in
          let b : get_or new (2 * g + 1) 0 ≡ len = rw z long_as in
          let x = h (omega (arith, b, v)) in
          omega (arith, a, b, x)

-- The name --------------------------------------------------------------------------

-- a name is used when some group has it
used-called : (n : Name) (ns : Names) → is_used n ns ≡ not (eqb (group_called n ns) 0)
unfolding is_used group_called
used-called n [] = refl
used-called n (m ∷ ms) = by (same_bytes n m) (used-called n ms)
  where
    by : (b : Bool) → is_used n ms ≡ not (eqb (group_called n ms) 0) → (b || is_used n ms) ≡ not (eqb (if b then suc (length ms) else group_called n ms) 0)
    by true h = rw (ne_eqb (suc (length ms)) 0 (λ z. omega arith))
    by false h = h

-- a number is told where a group has the name, and it is not 0
pub called-some : (r : Option ℕ) (P : ℕ → Type 0) → is_some r ≡ true → IfSome r (λ g. (1 ≤ g) × P g) → unwrap_or r 0 ≡ 0 → ⊥
called-some None P e h z = absurd cc
called-some (Some g) P e h z = omega (arith, h.0)

pub called-none : (r : Option ℕ) → is_some r ≡ false → unwrap_or r 0 ≡ 0
called-none None e = refl
called-none (Some g) e = cc

name-past : (closer : Char) (s : List ℕ) (place at : ℕ) → Given (name_up_to closer s place at) (Past at)
unfolding name_up_to
name-past closer s place at = let w = word_at s at in if-given _ _ _ (is_name w && is closer (byte s (at + length w))) (omega arith) tt

named-on : (s : List ℕ) (at start : ℕ) (n : Name) (next : ℕ) → name_up_to ">" s at start ≡ sound n next → start ≤ next
named-on s at start n next e = subst (λ (y : Read Name). Given y (Past start)) e (name-past ">" s at start)

pub name_in : (s : List ℕ) (at start : ℕ) {p : Parsed NameAt} → SaysNameUpTo 62 s at start (Ok p) → p.value.from + p.value.len < length s
name_in s at start says = (says ">" refl).1.closed

module _ (s : List ℕ) (at start : ℕ) (table : List ℕ) (opened : ℕ) where
  -- the head of a group with a name, by the name's reading
  by_name : (a : Read Name) → name_up_to ">" s at start ≡ a
      → head_of s at (names_in s table opened) start true ≡ and_then (fresh at (names_in s table opened) a) (λ m next. sound (m ∷ names_in s table opened) next)
  unfolding head_of
  by_name a e = rw e

  pub name-bad : (f : Refusal) → SaysNameUpTo 62 s at start (Err f) → SaysHead s table start (Captured (opened + 1)) (head_of s at (names_in s table opened) start true) (Err f)
  unfolding fresh
  name-bad f says = by_name (refused f.place f.reason) (says ">" refl)

  module _ {p : Parsed NameAt} {same : ℕ} (says : SaysNameUpTo 62 s at start (Ok p)) (is : same ≡ group_called (slice p.value.from (p.value.from + p.value.len) s) (names_in s table opened)) where
    abbrev told : Name
    told = slice p.value.from (p.value.from + p.value.len) s

    read_name : name_up_to ">" s at start ≡ sound told p.next
    read_name = (says ">" refl).0

    used-is : (b : Bool) → not (eqb same 0) ≡ b → is_used told (names_in s table opened) ≡ b
    used-is b h = used-called told (names_in s table opened) ∙ rw (← is) h

    pub name-twice : (same ≡ 0 → ⊥) → SaysHead s table start (Captured (opened + 1)) (head_of s at (names_in s table opened) start true) (Err (record { place = at; reason = NameTwice }))
    unfolding fresh
    name-twice ne = by_name (sound told p.next) read_name ∙ rw (used-is true (rw (ne_eqb same 0 ne)))

    pub name_new : {new : List ℕ} → same ≡ 0 → Wrote table new (2 * opened) 2 (p.value.from ∷ p.value.len ∷ []) → NamesFit s table opened → opened + 1 ≤ group_limit → spans_length ≤ length table → length new ≡ length table
        → SaysHead s new start (Captured (opened + 1)) (head_of s at (names_in s table opened) start true) (Ok (record { start = p.next; opened = opened + 1; form = Captured (opened + 1) }))
    unfolding fresh
    name_new {new} z w fit few wide long =
        let y = (says ">" refl).1 in
        let on = named-on s at start told p.next read_name in
        let room = table-room opened table few wide in (
          record { on = on; within = omega (arith, y.behind, y.closed); few = few; numbered = (omega arith, few); fit = fit_next s opened w fit (λ k. omega (arith, y.closed)) (omega (arith, room, long)) },
          refl,
          by_name (sound told p.next) read_name ∙ rw (used-is false (rw z)) (rw (names-next s opened w)),
        )

-- The whole opening -----------------------------------------------------------------

inside-more : (d : ℕ) (s : List ℕ) (flags : ℕ) (known : Names) (at : ℕ) (head : Read Names) → (d ≡ 0 → ⊥)
    → inside d s flags known at head ≡ and_then head (λ names start. alternation s flags known (inside (d - 1) s flags known) names start)
unfolding inside
inside-more zero s flags known at head h = absurd (h refl)
inside-more (suc d) s flags known at head h =
    let e : d ≡ suc d - 1 = omega arith in
    ap (λ (k : ℕ). and_then head (λ names start. alternation s flags known (inside k s flags known) names start)) e

inside-none : (d : ℕ) (s : List ℕ) (flags : ℕ) (known : Names) (at : ℕ) (head : Read Names) → d ≡ 0 → inside d s flags known at head ≡ refused at TooDeep
unfolding inside
inside-none d s flags known at head e = rw e

module _ (s old : List ℕ) (flags depth at opened : ℕ) where
  long : length (names_in s old opened) ≡ opened
  long = length-names s old opened

  pub opening-unknown : (f : Refusal) → SaysBracket s at opened (Err f) → SaysOpening s flags depth at (names_in s old opened) old (Err f)
  opening-unknown f says known = says (inside depth s flags known) (names_in s old opened) long

  -- a group of a form, by the reading of its head
  module _ {start : ℕ} {form : Form} {head : Names → Read Names} (begun : Bracketed s at opened start form head) where
    opening-deep : depth ≡ 0 → SaysOpening s flags depth at (names_in s old opened) old (Err (record { place = at; reason = TooDeep }))
    opening-deep z known = begun.goes (inside depth s flags known) (names_in s old opened) long ∙ rw (inside-none depth s flags known at (head (names_in s old opened)) z)

    -- the head's reading settles the group's
    opening-head : (new : List ℕ) (r : Result Opening Refusal) → (depth ≡ 0 → ⊥) → SaysHead s new start form (head (names_in s old opened)) r → SaysOpening s flags depth at (names_in s old opened) new r
    opening-head new (Ok o) some h =
        let g = h.0 in
        let on = begun.on in
        record {
          begins = record { on = omega (arith, g.on); within = g.within; few = g.few; numbered = rw h.1 g.numbered; fit = g.fit };
          deep = omega arith;
          goes = λ known. begun.goes (inside depth s flags known) (names_in s old opened) long ∙ rw (inside-more depth s flags known at (head (names_in s old opened)) some) (rw (h.2, h.1));
        }
    opening-head new (Err f) some h = λ known.
        begun.goes (inside depth s flags known) (names_in s old opened) long ∙ rw (inside-more depth s flags known at (head (names_in s old opened)) some) (rw h)

  -- whatever group it is
  pub too-deep : (b : Bracket) → IsBracket s at opened b → depth ≡ 0 → SaysOpening s flags depth at (names_in s old opened) old (Err (record { place = at; reason = TooDeep }))
  too-deep (Named start) begun z = opening-deep begun z
  too-deep (Captures start) begun z = opening-deep begun z
  too-deep (Begins start form) begun z = opening-deep begun z

  -- one that does not capture
  pub opening-form : {start : ℕ} {form : Form} → IsBracket s at opened (Begins start form) → (depth ≡ 0 → ⊥) → opened ≤ group_limit → NamesFit s old opened
      → SaysOpening s flags depth at (names_in s old opened) old (Ok (record { start = start; opened = opened; form = form }))
  opening-form begun some few fit = opening-head begun old (Ok _) some (record { on = omega arith; within = begun.within; few = few; numbered = begun.numbered; fit = fit }, refl, refl)

  -- one that captures
  pub opening-named : {start : ℕ} → IsBracket s at opened (Named start) → (new : List ℕ) (r : Result Opening Refusal) → (depth ≡ 0 → ⊥) → SaysHead s new start (Captured (opened + 1)) (head_of s at (names_in s old opened) start true) r
      → SaysOpening s flags depth at (names_in s old opened) new r
  opening-named begun new r some h = opening-head begun new r some h

  pub opening-unnamed : {start : ℕ} → IsBracket s at opened (Captures start) → {new : List ℕ} → (depth ≡ 0 → ⊥) → Wrote old new (2 * opened) 2 (0 ∷ 0 ∷ []) → NamesFit s old opened → spans_length ≤ length old → length new ≡ length old
      → SaysOpening s flags depth at (names_in s old opened) new (Ok (record { start = start; opened = opened + 1; form = Captured (opened + 1) }))
  unfolding head_of
  opening-unnamed begun {new} some w fit wide same =
      let few = begun.numbered.1 in
      let room = table-room opened old few wide in
      opening-head begun new (Ok (record { start = _; opened = opened + 1; form = Captured (opened + 1) })) some (
        record { on = omega arith; within = begun.within; few = few; numbered = begun.numbered; fit = fit_next s opened w fit (λ k. omega arith) (omega (arith, room, same)) },
        refl,
        rw (names-next s opened w, slice_empty 0 s),
      )
