-- A sound reading's tree is well formed.
use Rattle.std.specs.Prelude.{◌≡◌, refl, List, [], ◌∷◌, Bool, true, false, not, ◌||◌, ℕ, zero, suc, ◌+◌, ◌*◌, ◌-◌, ◌≤◌, ◌<◌, length, eqb, leb, ltb, if◌then◌else◌}
use Rattle.std.proofs.Math.Option.{Option, none, some}
use Rattle.std.proofs.Common.{arith, ltb-true, leb-true}
use Rattle.std.proofs.lemmas.Bool.{eqb-false, not-false}
use Rattle.syntax.specs.declared.Form.{Form}
use Rattle.syntax.specs.declared.Form.TheVariants.{Grouped, Captured, Held, Ahead, NotAhead}
use Rattle.syntax.specs.declared.Greed.{Greed}
use Rattle.syntax.specs.declared.Most.{Most}
use Rattle.syntax.specs.declared.Quantifier.{Quantifier}
use Rattle.syntax.specs.declared.Quantifier.TheVariants.{Absent, Stray, Unfit, Times}
use Rattle.syntax.specs.declared.Reason.{Reason}
use Rattle.syntax.specs.declared.Reason.TheVariants.{NoSuchGroup, BarredReference, IdleRepeat}
use Rattle.syntax.specs.Limits.{group_limit, nesting_limit, height_limit, level_limit}
use Rattle.syntax.specs.Read.{byte, is_end, is, Read, sound, and_then}
use Rattle.syntax.specs.Tree.{Item, byte_in, assert, reference, Rule, empty, item, seq, alt, group, repeat, held, look, Branches, one, also, alternatives, enclosed, possessive, line_break}
use Rattle.syntax.specs.Quantifiers.{quantifier}
use Rattle.syntax.specs.Names.{Name, Names}
use Rattle.syntax.specs.Grammar.{behind_blanks, atom, Inner, closing, capturing, uncaptured, grouped, Sequence, unrepeatable, repeatable, repeated, whole, with_item, unfit_for, repeating, breaks_line, next_item, part, ends, sequence, branch, further, alternation, inside}
use Rattle.syntax.specs.Flags.{depot}
use Rattle.syntax.specs.Reading.{names_of, parsed, first_some, dangling, unresolved, unresolved_in, idle, unless, profiled, settled, reading}
use Rattle.syntax.specs.WellFormed.{BoundsFit, Proper, Propers, Refers, Resolved, ResolvedIn, height, heights, levels, levels_in, WellFormed}
use Rattle.syntax.specs.Laws.Forward.{Given, any-given, if-given, test-given, then-given, given-less, Holding, Bounded, quantifier-on}

-- Trees among so many groups, and so high -------------------------------------

mutual
  proper-more : (t : Rule) (g h : ℕ) → g ≤ h → Proper g t → Proper h t
  proper-more empty g h l p = tt
  proper-more (item at i) g h l p = tt
  proper-more (seq a b) g h l p = (proper-more a g h l p.0, proper-more b g h l p.1)
  proper-more (alt bs bar b) g h l p = (propers-more bs g h l p.0, proper-more b g h l p.1)
  proper-more (group n a) g h l p = (p.0, omega (arith, p.1), proper-more a g h l p.2)
  proper-more (repeat at n m x a) g h l p = (p.0, proper-more a g h l p.1)
  proper-more (held at a) g h l p = proper-more a g h l p
  proper-more (look at negative a) g h l p = proper-more a g h l p

  propers-more : (bs : Branches) (g h : ℕ) → g ≤ h → Propers g bs → Propers h bs
  propers-more (one a) g h l p = proper-more a g h l p
  propers-more (also bs bar b) g h l p = (propers-more bs g h l p.0, proper-more b g h l p.1)

pub record Fits (g h : ℕ) (t : Rule) : Type 0 where
  pub proper : Proper g t
  pub nests : height t ≤ h
  pub nested : levels t ≤ 2 * h

fits_more : (t : Rule) (g g' h : ℕ) → g ≤ g' → Fits g h t → Fits g' h t
fits_more t g g' h l f = record { proper = proper-more t g g' l f.proper; nests = f.nests; nested = f.nested }

fits-empty : (g h : ℕ) → Fits g h empty
fits-empty g h = record { proper = tt; nests = omega arith; nested = omega arith }

fits-item : (g h at : ℕ) (i : Item) → Fits g h (item at i)
fits-item g h at i = record { proper = tt; nests = omega arith; nested = omega arith }

-- a part stands one level deeper
fits-seq : (g h : ℕ) (a b : Rule) → Fits g h a → Fits g h b → suc (levels b) ≤ 2 * h → Fits g h (seq a b)
fits-seq g h a b x y k = record { proper = (x.proper, y.proper); nests = omega (arith, x.nests, y.nests); nested = omega (arith, x.nested) }

fits-repeat : (g h at n : ℕ) (m : Most) (x : Greed) (a : Rule) → BoundsFit n m → Fits g h a → Fits g (suc h) (repeat at n m x a)
fits-repeat g h at n m x a b f = record { proper = (b, f.proper); nests = omega (arith, f.nests); nested = omega (arith, f.nested) }

fits_wider : (g h k : ℕ) (a : Rule) → h ≤ k → Fits g h a → Fits g k a
fits_wider g h k a l f = record { proper = f.proper; nests = omega (arith, f.nests); nested = omega (arith, f.nested) }

-- a group's number is that of one of its groups
abbrev Numbered : ℕ → Form → Type 0
Numbered g Grouped = Unit {0}
Numbered g (Captured n) = (1 ≤ n) × (n ≤ g)
Numbered g Held = Unit {0}
Numbered g Ahead = Unit {0}
Numbered g NotAhead = Unit {0}

fits-enclosed : (g h : ℕ) (form : Form) (at : ℕ) (a : Rule) → Numbered g form → Fits g h a → Fits g (suc h) (enclosed form at a)
unfolding enclosed
fits-enclosed g h Grouped at a n f = fits_wider g h (suc h) a (omega arith) f
fits-enclosed g h (Captured n) at a l f = record { proper = (l.0, l.1, f.proper); nests = omega (arith, f.nests); nested = omega (arith, f.nested) }
fits-enclosed g h Held at a n f = record { proper = f.proper; nests = omega (arith, f.nests); nested = omega (arith, f.nested) }
fits-enclosed g h Ahead at a n f = record { proper = f.proper; nests = omega (arith, f.nests); nested = omega (arith, f.nested) }
fits-enclosed g h NotAhead at a n f = record { proper = f.proper; nests = omega (arith, f.nests); nested = omega (arith, f.nested) }

fits-possessive : (g h : ℕ) (keeps : Bool) (at : ℕ) (a : Rule) → Fits g h a → Fits g (suc h) (possessive keeps at a) × (levels (possessive keeps at a) ≤ suc (levels a))
unfolding possessive
fits-possessive g h true at a f = (record { proper = (tt, f.proper); nests = omega (arith, f.nests); nested = omega (arith, f.nested) }, omega arith)
fits-possessive g h false at a f = (fits_wider g h (suc h) a (omega arith) f, omega arith)

fits-break : (g at : ℕ) → Fits g 1 (line_break at)
unfolding line_break
fits-break g at = record { proper = (((tt, tt), tt), (tt, tt)); nests = omega arith; nested = omega arith }

-- branches of an alternation
pub record AllFit (g h : ℕ) (bs : Branches) : Type 0 where
  pub proper : Propers g bs
  pub nests : heights bs ≤ h
  pub nested : levels_in bs ≤ 2 * h

all_more : (bs : Branches) (g g' h : ℕ) → g ≤ g' → AllFit g h bs → AllFit g' h bs
all_more bs g g' h l f = record { proper = propers-more bs g g' l f.proper; nests = f.nests; nested = f.nested }

all_one : (g h : ℕ) (a : Rule) → Fits g h a → AllFit g h (one a)
all_one g h a f = record { proper = f.proper; nests = f.nests; nested = f.nested }

all-also : (g h bar : ℕ) (bs : Branches) (b : Rule) → AllFit g h bs → Fits g h b → AllFit g h (also bs bar b)
all-also g h bar bs b x y = record { proper = (x.proper, y.proper); nests = omega (arith, x.nests, y.nests); nested = omega (arith, x.nested, y.nested) }

alternatives-fit : (g h : ℕ) (bs : Branches) → AllFit g h bs → Fits g h (alternatives bs)
unfolding alternatives
alternatives-fit g h (one a) f = record { proper = f.proper; nests = f.nests; nested = f.nested }
alternatives-fit g h (also bs bar b) f = record { proper = f.proper; nests = f.nests; nested = f.nested }

-- how high a part and a sequence are, in which brackets nest d deep: a part may still be repeated, and held on to
abbrev lone : ℕ → ℕ
lone d = 3 * d + 1

abbrev high : ℕ → ℕ
high d = 3 * suc d

abbrev FitsIn : ℕ → ℕ → Sequence → Type 0
FitsIn g d (unrepeatable t) = Fits g (high d) t
FitsIn g d (repeatable b l) = Fits g (high d) b × Fits g (lone d) l
FitsIn g d (repeated t) = Fits g (high d) t

whole-fits : (g d : ℕ) (q : Sequence) → FitsIn g d q → Fits g (high d) (whole q)
unfolding whole
whole-fits g d (unrepeatable t) f = f
whole-fits g d (repeatable b l) f = fits-seq g (high d) b l f.0 (fits_wider g (lone d) (high d) l (omega arith) f.1) (omega (arith, f.1.nested))
whole-fits g d (repeated t) f = f

-- What readings give ---------------------------------------------------------

-- more groups have been opened, within the limit
abbrev Grown : ℕ → ℕ → Type 0
Grown old new = (old ≤ new) × (new ≤ group_limit)

abbrev Good : ℕ → ℕ → (Rule × Names) → ℕ → Type 0
Good old h r p = Grown old (length r.1) × Fits (length r.1) h r.0

abbrev GoodIn : ℕ → ℕ → (Sequence × Names) → ℕ → Type 0
GoodIn old d r p = Grown old (length r.1) × FitsIn (length r.1) d r.0

-- the head of a group leaves so many groups opened
abbrev Heads : ℕ → Names → ℕ → Type 0
Heads opened names at = length names ≡ opened

-- the inside of a group where brackets nest d deep, this one counted
unfoldable InnerFits : ℕ → Inner → Type 0
InnerFits d inner = (opening opened : ℕ) (head : Read Names) → opened ≤ group_limit → Given head (Heads opened) → Given (inner opening head) (Good opened (3 * d))

closing-fits : (s : List ℕ) (opening : ℕ) (t : Rule) (old : ℕ) (new : Names) (at h : ℕ) → Grown old (length new) → Fits (length new) h t → Given (closing s opening t new at) (Good old h)
unfolding closing
closing-fits s opening t old new at h g f = if-given _ _ _ (is ")" (byte s at)) (g, f) tt

-- the end of a group, whose height is one more than its inside's
enclosed-fits : (s : List ℕ) (form : Form) (opening : ℕ) (t : Rule) (old : ℕ) (new : Names) (at d : ℕ) → Numbered (length new) form → Grown old (length new) → Fits (length new) (3 * d) t
    → Given (closing s opening (enclosed form opening t) new at) (Good old (lone d))
enclosed-fits s form opening t old new at d n g f = closing-fits s opening (enclosed form opening t) old new at (lone d) g (fits_wider (length new) (suc (3 * d)) (lone d) (enclosed form opening t) (omega arith) (fits-enclosed (length new) (3 * d) form opening t n f))

capturing-fits : (s : List ℕ) (inner : Inner) (at : ℕ) (opened : Names) (name : Read Name) (d : ℕ) → InnerFits d inner → Given (capturing s inner at opened name) (Good (length opened) (lone d))
unfolding capturing InnerFits
capturing-fits s inner at opened name d h =
    let n = suc (length opened) in
    test-given _ _ _ (ltb (length opened) group_limit) (λ e. let k : length opened < group_limit = ltb-true (length opened) group_limit e in
    then-given (Good n (3 * d)) (Good (length opened) (lone d)) (inner at (and_then name (λ x p. sound (x ∷ opened) p))) _
    (h at n _ (omega arith) (then-given (λ x p. Unit) (Heads n) name _ (any-given name) (λ x p u. refl))) (λ r p f.
    enclosed-fits s (Captured n) at r.0 (length opened) r.1 p d (omega arith, f.0.0) (omega (arith, f.0.0), f.0.1) f.1))
    (λ e. tt)

uncaptured-fits : (s : List ℕ) (inner : Inner) (at : ℕ) (opened : Names) (form : Form) (d : ℕ) → ((g : ℕ) → Numbered g form) → InnerFits d inner → length opened ≤ group_limit → Given (uncaptured s inner at opened form) (Good (length opened) (lone d))
unfolding uncaptured InnerFits
uncaptured-fits s inner at opened form d n h l =
    then-given (Good (length opened) (3 * d)) (Good (length opened) (lone d)) (inner at (sound opened (at + 3))) _ (h at (length opened) (sound opened (at + 3)) l refl) (λ r p f.
    enclosed-fits s form at r.0 (length opened) r.1 p d (n (length r.1)) f.0 f.1)

grouped-fits : (s : List ℕ) (inner : Inner) (at : ℕ) (opened : Names) (d : ℕ) → InnerFits d inner → length opened ≤ group_limit → Given (grouped s inner at opened) (Good (length opened) (lone d))
unfolding grouped
grouped-fits s inner at opened d h l =
    let b = byte s (at + 2) in
    if-given _ _ _ (not (is "?" (byte s (at + 1)))) (capturing-fits s inner at opened _ d h)
    (if-given _ _ _ (is ":" b) (uncaptured-fits s inner at opened Grouped d (λ g. tt) h l)
    (if-given _ _ _ (is ">" b) (uncaptured-fits s inner at opened Held d (λ g. tt) h l)
    (if-given _ _ _ (is "=" b) (uncaptured-fits s inner at opened Ahead d (λ g. tt) h l)
    (if-given _ _ _ (is "!" b) (uncaptured-fits s inner at opened NotAhead d (λ g. tt) h l)
    (if-given _ _ _ (is "<" b) (capturing-fits s inner at opened _ d h) tt)))))

with_item-fits : (g d : ℕ) (q : Sequence) (at : ℕ) (i : Item) → FitsIn g d q → FitsIn g d (with_item q at i)
unfolding with_item
with_item-fits g d q at (byte_in folded c) f = (whole-fits g d q f, fits-item g (lone d) at (byte_in folded c))
with_item-fits g d q at (assert a) f = fits-seq g (high d) (whole q) (item at (assert a)) (whole-fits g d q f) (fits-item g (high d) at (assert a)) (omega arith)
with_item-fits g d q at (reference folded n) f = (whole-fits g d q f, fits-item g (lone d) at (reference folded n))

next_item-fits : (s : List ℕ) (flags : ℕ) (known : Names) (inner : Inner) (q : Sequence) (opened : Names) (at d : ℕ) → InnerFits d inner → length opened ≤ group_limit → FitsIn (length opened) d q → Given (next_item s flags known inner q opened at) (GoodIn (length opened) d)
unfolding next_item
next_item-fits s flags known inner q opened at d h l f = if-given _ _ _ (is "(" (byte s at))
    (then-given (Good (length opened) (lone d)) (GoodIn (length opened) d) (grouped s inner at opened) _ (grouped-fits s inner at opened d h l) (λ r p k.
    (k.0, (fits_more (whole q) (length opened) (length r.1) (high d) k.0.0 (whole-fits (length opened) d q f), k.1))))
    (if-given _ _ _ (breaks_line s at)
    ((omega arith, l), (whole-fits (length opened) d q f, fits_wider (length opened) 1 (lone d) (line_break at) (omega arith) (fits-break (length opened) at)))
    (then-given (λ i p. Unit) (GoodIn (length opened) d) (atom s flags known (length opened) at) _ (any-given (atom s flags known (length opened) at)) (λ i p k. ((omega arith, l), with_item-fits (length opened) d q at i f))))

unfit_for-fits : (q : Sequence) (at opened d : ℕ) → Given (unfit_for q at) (GoodIn opened d)
unfolding unfit_for
unfit_for-fits (unrepeatable t) at opened d = tt
unfit_for-fits (repeatable b l) at opened d = tt
unfit_for-fits (repeated t) at opened d = tt

repeating-fits : (q : Sequence) (at n : ℕ) (m : Most) (x : Greed) (keeps : Bool) (opened : Names) (next d : ℕ) → length opened ≤ group_limit → BoundsFit n m → FitsIn (length opened) d q → Given (repeating q at n m x keeps opened next) (GoodIn (length opened) d)
unfolding repeating
repeating-fits (unrepeatable t) at n m x keeps opened next d l b f = tt
repeating-fits (repeatable before last) at n m x keeps opened next d l b f =
    let g = length opened in
    let r = repeat at n m x last in
    let k = fits-possessive g (suc (lone d)) keeps (next - 1) r (fits-repeat g (lone d) at n m x last b f.1) in
    ((omega arith, l), fits-seq g (high d) before (possessive keeps (next - 1) r) f.0 (fits_wider g (suc (suc (lone d))) (high d) (possessive keeps (next - 1) r) (omega arith) k.0) (omega (arith, k.1, f.1.nested)))
repeating-fits (repeated t) at n m x keeps opened next d l b f = tt

part-fits : (s : List ℕ) (flags : ℕ) (known : Names) (inner : Inner) (q : Sequence) (opened : Names) (at d : ℕ) (x : Quantifier) → InnerFits d inner → length opened ≤ group_limit → FitsIn (length opened) d q → Holding x (Bounded (at + 1))
    → Given (part s flags known inner q opened at x) (GoodIn (length opened) d)
unfolding part
part-fits s flags known inner q opened at d Absent h l f b = next_item-fits s flags known inner q opened at d h l f
part-fits s flags known inner q opened at d Stray h l f b = tt
part-fits s flags known inner q opened at d Unfit h l f b = unfit_for-fits q at (length opened) d
part-fits s flags known inner q opened at d (Times n m x keeps next) h l f b = repeating-fits q at n m x keeps opened next d l b.0 f

sequence-fits : (k : ℕ) (s : List ℕ) (flags : ℕ) (known : Names) (inner : Inner) (q : Sequence) (old : ℕ) (opened : Names) (at d : ℕ) → InnerFits d inner → Grown old (length opened) → FitsIn (length opened) d q → Given (sequence k s flags known inner q opened at) (Good old (high d))
unfolding sequence
sequence-fits zero s flags known inner q old opened at d h l f = (l, whole-fits (length opened) d q f)
sequence-fits (suc k) s flags known inner q old opened start d h l f =
    let at = behind_blanks s flags start in
    if-given _ _ _ (ends (byte s at)) (l, whole-fits (length opened) d q f)
    (then-given (GoodIn (length opened) d) (Good old (high d)) (part s flags known inner q opened at (quantifier s at)) _ (part-fits s flags known inner q opened at d (quantifier s at) h l.1 f (quantifier-on s at))
    (λ r p g. sequence-fits k s flags known inner r.0 old r.1 p d h (omega (arith, l.0, g.0.0), g.0.1) g.1))

branch_fits : (s : List ℕ) (flags : ℕ) (known : Names) (inner : Inner) (old : ℕ) (opened : Names) (at d : ℕ) → InnerFits d inner → Grown old (length opened) → Given (branch s flags known inner opened at) (Good old (high d))
unfolding branch
branch_fits s flags known inner old opened at d h l = sequence-fits (length s) s flags known inner (unrepeatable empty) old opened at d h l (fits-empty (length opened) (high d))

further-fits : (k : ℕ) (s : List ℕ) (flags : ℕ) (known : Names) (inner : Inner) (bs : Branches) (old : ℕ) (opened : Names) (at d : ℕ) → InnerFits d inner → Grown old (length opened) → AllFit (length opened) (high d) bs → Given (further k s flags known inner bs opened at) (Good old (high d))
unfolding further
further-fits zero s flags known inner bs old opened at d h l f = (l, alternatives-fit (length opened) (high d) bs f)
further-fits (suc k) s flags known inner bs old opened at d h l f = if-given _ _ _ (is "|" (byte s at))
    (then-given (Good (length opened) (high d)) (Good old (high d)) (branch s flags known inner opened (at + 1)) _ (branch_fits s flags known inner (length opened) opened (at + 1) d h (omega arith, l.1)) (λ r p g.
    further-fits k s flags known inner (also bs at r.0) old r.1 p d h (omega (arith, l.0, g.0.0), g.0.1) (all-also (length r.1) (high d) at bs r.0 (all_more bs (length opened) (length r.1) (high d) g.0.0 f) g.1)))
    (l, alternatives-fit (length opened) (high d) bs f)

alternation-fits : (s : List ℕ) (flags : ℕ) (known : Names) (inner : Inner) (opened : Names) (at d : ℕ) → InnerFits d inner → length opened ≤ group_limit → Given (alternation s flags known inner opened at) (Good (length opened) (high d))
unfolding alternation
alternation-fits s flags known inner opened at d h l = then-given (Good (length opened) (high d)) (Good (length opened) (high d)) (branch s flags known inner opened at) _ (branch_fits s flags known inner (length opened) opened at d h (omega arith, l)) (λ r p g.
    further-fits (length s) s flags known inner (one r.0) (length opened) r.1 p d h g.0 (all_one (length r.1) (high d) r.0 g.1))

inside-fits : (d : ℕ) (s : List ℕ) (flags : ℕ) (known : Names) → InnerFits d (inside d s flags known)
unfolding inside InnerFits
inside-fits zero s flags known opening opened head l g = tt
inside-fits (suc d) s flags known opening opened head l g = then-given (Heads opened) (Good opened (3 * suc d)) head _ g (λ names at e.
    given-less (Good (length names) (high d)) (Good opened (3 * suc d)) (alternation s flags known (inside d s flags known) names at)
    (alternation-fits s flags known (inside d s flags known) names at d (inside-fits d s flags known) (omega (arith, e)))
    (λ r p f. ((omega (arith, e, f.0.0), f.0.1), f.1)))

-- References -----------------------------------------------------------------

pub first-none : (p q : Option ℕ) → first_some p q ≡ none → (p ≡ none) × (q ≡ none)
unfolding first_some
first-none none q e = (refl, e)
first-none (some x) q e = (e, absurd (some-none x e))
  where
    some-none : (x : ℕ) → some x ≡ none → ⊥
    some-none x e = let bad : ◌≡◌ {A = ℕ} 0 1 = cc in omega arith

or-false : (a b : Bool) → (a || b) ≡ false → (a ≡ false) × (b ≡ false)
or-false true b e = (e, true-false e)
  where
    true-false : true ≡ false → b ≡ false
    true-false e = cc
or-false false b e = (refl, e)

pub tested : (b : Bool) (at : ℕ) → (if b then some at else none) ≡ none → b ≡ false
tested true at e = cc
tested false at e = refl

refers : (groups at : ℕ) (i : Item) → dangling groups at i ≡ none → Refers groups i
unfolding dangling
refers groups at (byte_in folded c) e = tt
refers groups at (assert a) e = tt
refers groups at (reference folded n) e =
    let t = or-false (eqb n 0) (not (leb n groups)) (tested (eqb n 0 || not (leb n groups)) at e) in
    let z : n ≡ 0 → ⊥ = eqb-false n 0 t.0 in
    (positive n z, leb-true n groups (not-false (leb n groups) t.1))
  where
    positive : (n : ℕ) → (n ≡ 0 → ⊥) → 1 ≤ n
    positive zero h = absurd (h refl)
    positive (suc n) h = omega arith

mutual
  unfolding unresolved unresolved_in

  resolves : (groups : ℕ) (t : Rule) → unresolved groups t ≡ none → Resolved groups t
  resolves groups empty e = tt
  resolves groups (item at i) e = refers groups at i e
  resolves groups (seq a b) e = let n = first-none (unresolved groups a) (unresolved groups b) e in (resolves groups a n.0, resolves groups b n.1)
  resolves groups (alt bs bar b) e = let n = first-none (unresolved_in groups bs) (unresolved groups b) e in (resolves_in groups bs n.0, resolves groups b n.1)
  resolves groups (group n a) e = resolves groups a e
  resolves groups (repeat at n m g a) e = resolves groups a e
  resolves groups (held at a) e = resolves groups a e
  resolves groups (look at negative a) e = resolves groups a e

  resolves_in : (groups : ℕ) (bs : Branches) → unresolved_in groups bs ≡ none → ResolvedIn groups bs
  resolves_in groups (one a) e = resolves groups a e
  resolves_in groups (also bs bar b) e = let n = first-none (unresolved_in groups bs) (unresolved groups b) e in (resolves_in groups bs n.0, resolves groups b n.1)

-- The whole rule -------------------------------------------------------------

parsed-fits : (s : List ℕ) (flags : ℕ) (known : Names) → Given (parsed s flags known) (Good 0 height_limit)
unfolding parsed height_limit
parsed-fits s flags known = then-given (Good 0 (high nesting_limit)) (Good 0 (high nesting_limit)) (alternation s flags known (inside nesting_limit s flags known) [] 0) _
    (alternation-fits s flags known (inside nesting_limit s flags known) [] 0 nesting_limit (inside-fits nesting_limit s flags known) (omega arith)) (λ r p g. if-given _ _ _ (is_end (byte s p)) g tt)

-- the same of a rule whose references are not resolved yet
pub parsed-formed : (s : List ℕ) (flags : ℕ) (known : Names) → Given (parsed s flags known) (λ r at. (length r.1 ≤ group_limit) × Proper (length r.1) r.0 × (height r.0 ≤ height_limit) × (levels r.0 ≤ level_limit))
unfolding level_limit
parsed-formed s flags known = given-less (Good 0 height_limit) _ (parsed s flags known) (parsed-fits s flags known) (λ r p g. (g.0.1, g.1.proper, g.1.nests, g.1.nested))

-- what a tree has that the depot profile lets pass
pub record Narrow (t : Rule) : Type 0 where
  pub no_reference : unresolved 0 t ≡ none
  pub no_idle_repeat : idle t ≡ none

-- What is refused only after the whole rule has been read: what passes is the tree as it stands.
unless-given : {A : Type 0} (P : A → ℕ → Type 0) (o : Option ℕ) (why : Reason) (rest : Read A) → (o ≡ none → Given rest P) → Given (unless o why rest) P
unfolding unless
unless-given P none why rest h = h refl
unless-given P (some place) why rest h = tt

profiled-given : {A : Type 0} (P : A → ℕ → Type 0) (strict : Bool) (t : Rule) (rest : Read A) → ((strict ≡ true → Narrow t) → Given rest P) → Given (profiled strict t rest) P
unfolding profiled
profiled-given P false t rest h = h (λ e. absurd (clash e))
  where
    clash : false ≡ true → ⊥
    clash e = let bad : ◌≡◌ {A = ℕ} 0 1 = cc in omega arith
profiled-given P true t rest h = unless-given P (unresolved 0 t) BarredReference (unless (idle t) IdleRepeat rest) (λ e. unless-given P (idle t) IdleRepeat rest (λ i. h (λ _. record { no_reference = e; no_idle_repeat = i })))

pub settled-given : (P : Rule × ℕ → ℕ → Type 0) (flags : ℕ) (t : Rule) (groups at : ℕ) → (unresolved groups t ≡ none → (depot flags ≡ true → Narrow t) → P (t, groups) at) → Given (settled flags t groups at) P
unfolding settled
settled-given P flags t groups at h = unless-given P (unresolved groups t) NoSuchGroup (profiled (depot flags) t (sound (t, groups) at)) (λ e. profiled-given P (depot flags) t (sound (t, groups) at) (h e))

pub well-formed : (s : List ℕ) (flags : ℕ) → Given (reading s flags) (λ r at. WellFormed r.1 r.0)
unfolding reading
well-formed s flags = then-given (Good 0 height_limit) _ (parsed s flags (names_of s flags)) _ (parsed-fits s flags (names_of s flags)) (λ r at g.
    settled-given _ flags r.0 (length r.1) at (λ e n. record { few = g.0.1; proper = g.1.proper; resolved = resolves (length r.1) r.0 e; nests = g.1.nests }))
