-- The class test. 02, request d): "However it is asked now whether a byte is in a class, please ask it with one word and a shift, without a loop,
-- for every class. Promise that it says yes exactly when the class has the byte, for all 256 bytes, under `i` and complemented too."
--
-- `charset::contains` asks one word and a shift, and promises `has` of the words from a position on. A compiled byte item has its class in the eight
-- words from its fourth number on, folded and complemented when it was read. So `class-asked` is the promise, for the byte items of every rule; the
-- two laws behind it say what the flag and the `^` do to a class.
-- docs/REFERENCE.md, 5.4
use Rattle.std.specs.Prelude.{◌≡◌, refl, Bool, true, false, not, List, [], ◌∷◌, ℕ, ◌+◌, ◌<◌, drop, eqb}
use Rattle.std.proofs.Common.{ap}
use Rattle.std.proofs.Math.Bool.{or_comm}
use Rattle.charset.specs.Named.{◌to◌, in_range, in_named}
use Rattle.charset.specs.Cases.{other_case, folding}
use Rattle.charset.specs.Class.{has}
use Rattle.charset.specs.Laws.Cases.{other-twice}
use Rattle.syntax.specs.Sets.{Member, single, range, named, not_named, Class, is_member, is_any, in_class}
use Rattle.syntax.specs.Tree.{byte_in}
use Rattle.syntax.specs.Compiled.{CompiledItem}

-- "it says yes exactly when the class has the byte, for all 256 bytes"
pub class-asked : (p : List ℕ) (lo hi : ℕ) (folded : Bool) (c : Class) (place pc next : ℕ) → CompiledItem p lo hi (byte_in folded c) place pc next → (b : ℕ) → b < 256 → has (drop (pc + 3) p) b ≡ in_class folded c b
class-asked p lo hi folded c place pc next k = k.set

-- "and complemented too": with `^` a class has the bytes that it lacks without
pub complemented : (folded : Bool) (ms : List Member) (b : ℕ) → in_class folded (record { negated = true; members = ms }) b ≡ not (in_class folded (record { negated = false; members = ms }) b)
unfolding in_class
complemented folded ms b = refl

-- "under `i`": a folded class has both cases of a letter or neither, whatever its members
folding-either : (set : ℕ → Bool) (b : ℕ) → folding true set (other_case b) ≡ folding true set b
unfolding folding
folding-either set b = rw (other-twice b) (or_comm (set (other_case b)) (set b))

member-either : (m : Member) (b : ℕ) → is_member true (other_case b) m ≡ is_member true b m
unfolding is_member
member-either (single c) b = folding-either (λ x. eqb x c) b
member-either (range low high) b = folding-either (λ x. in_range x (low to high)) b
member-either (named set) b = folding-either (in_named set) b
member-either (not_named set) b = ap not (folding-either (in_named set) b)

any-either : (ms : List Member) (b : ℕ) → is_any true (other_case b) ms ≡ is_any true b ms
unfolding is_any
any-either [] b = refl
any-either (m ∷ ms) b = rw (member-either m b, any-either ms b)

pub either-case : (c : Class) (b : ℕ) → in_class true c (other_case b) ≡ in_class true c b
unfolding in_class
either-case c b = rw (any-either c.members b)
