-- The reading of a rule: its syntax tree and its number of groups, or a refusal with its place.
-- docs/REFERENCE.md, 4.1, 10.3, 11.1
use Rattle.std.specs.Prelude.{List, [], Bool, true, false, not, ◌&&◌, ◌||◌, ℕ, length, leb, eqb, if◌then◌else◌}
use Rattle.std.proofs.Math.Option.{Option, none, some}
use Rattle.syntax.specs.declared.Reason.{Reason}
use Rattle.syntax.specs.declared.Reason.TheVariants.{NoSuchGroup, UnopenedGroup, BarredReference, IdleRepeat}
use Rattle.syntax.specs.Limits.{nesting_limit}
use Rattle.syntax.specs.Read.{byte, is_end, Read, sound, refused, and_then}
use Rattle.syntax.specs.Tree.{Item, byte_in, assert, reference, Rule, empty, item, seq, alt, group, repeat, held, look, Branches, one, also}
use Rattle.syntax.specs.Flags.{depot}
use Rattle.syntax.specs.Lengths.{least_length, unbounded}
use Rattle.syntax.specs.Names.{Names}
use Rattle.syntax.specs.Grammar.{inside, alternation}

-- The whole rule. Its branches end at the rule's end, or else at a `)` without opening.
unfoldable pub parsed : List ℕ → ℕ → Names → Read (Rule × Names)
parsed s flags known = and_then (alternation s flags known (inside nesting_limit s flags known) [] 0) (λ r at. if is_end (byte s at) then sound r at else refused at UnopenedGroup)

-- the names of a rule's groups, the last group's first; no name needs to be known for that
unfoldable pub names_read : Read (Rule × Names) → Names
names_read (sound r at) = r.1
names_read (refused place why) = []

unfoldable pub names_of : List ℕ → ℕ → Names
names_of s flags = names_read (parsed s flags [])

-- "13 is tested after the whole rule is otherwise sound, lowest place first." ---

unfoldable pub first_some : Option ℕ → Option ℕ → Option ℕ
first_some none q = q
first_some (some p) q = some p

-- "no such group, or N is 0"
unfoldable pub dangling : ℕ → ℕ → Item → Option ℕ
dangling groups at (byte_in folded c) = none
dangling groups at (assert a) = none
dangling groups at (reference folded n) = if eqb n 0 || not (leb n groups) then some at else none

-- the place of the first reference to no group
unfoldable mutual
  pub unresolved : ℕ → Rule → Option ℕ
  unresolved groups empty = none
  unresolved groups (item at i) = dangling groups at i
  unresolved groups (seq a b) = first_some (unresolved groups a) (unresolved groups b)
  unresolved groups (alt bs bar b) = first_some (unresolved_in groups bs) (unresolved groups b)
  unresolved groups (group n a) = unresolved groups a
  unresolved groups (repeat at n m g a) = unresolved groups a
  unresolved groups (held at a) = unresolved groups a
  unresolved groups (look at negative a) = unresolved groups a

  pub unresolved_in : ℕ → Branches → Option ℕ
  unresolved_in groups (one a) = unresolved groups a
  unresolved_in groups (also bs bar b) = first_some (unresolved_in groups bs) (unresolved groups b)

-- The depot profile (02, request k) ---------------------------------------------

-- "no repeat without upper bound over a body of least length 0": the place of the first one. A repeat's place is behind its body.
unfoldable mutual
  pub idle : Rule → Option ℕ
  idle empty = none
  idle (item at i) = none
  idle (seq a b) = first_some (idle a) (idle b)
  idle (alt bs bar b) = first_some (idle_in bs) (idle b)
  idle (group n a) = idle a
  idle (repeat at n m g a) = first_some (idle a) (if unbounded m && eqb (least_length a) 0 then some at else none)
  idle (held at a) = idle a
  idle (look at negative a) = idle a

  pub idle_in : Branches → Option ℕ
  idle_in (one a) = idle a
  idle_in (also bs bar b) = first_some (idle_in bs) (idle b)

-- a place that was found is refused; where none was, it is read on
unfoldable pub unless : {A : Type 0} → Option ℕ → Reason → Read A → Read A
unless none why rest = rest
unless (some place) why rest = refused place why

-- "no references (27)": the first of them is the first to no group, were there no groups. "27 then 28 are tested after 13, lowest place first".
unfoldable pub profiled : {A : Type 0} → Bool → Rule → Read A → Read A
profiled false t rest = rest
profiled true t rest = unless (unresolved 0 t) BarredReference (unless (idle t) IdleRepeat rest)

-- The whole ---------------------------------------------------------------------

-- 13, and what the profile asks, of a tree with so many groups
unfoldable pub settled : ℕ → Rule → ℕ → ℕ → Read (Rule × ℕ)
settled flags t groups at = unless (unresolved groups t) NoSuchGroup (profiled (depot flags) t (sound (t, groups) at))

-- the tree, and the number of groups. A reference by name may stand before its group: it is read with the names of the whole rule
unfoldable pub reading : List ℕ → ℕ → Read (Rule × ℕ)
reading s flags = and_then (parsed s flags (names_of s flags)) (λ r at. settled flags r.0 (length r.1) at)
