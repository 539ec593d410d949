-- The table of names: two numbers for each group, where its name begins in the rule, and how many bytes it has; 0 bytes for a group without a name.
-- The numbers of the first group come first; the names are listed from the latest group on.
use Rattle.std.specs.Prelude.{◌≡◌, refl, List, [], ◌∷◌, ℕ, zero, suc, min, ◌+◌, ◌-◌, ◌*◌, ◌≤◌, ◌<◌, get_or, length, take}
use Rattle.std.proofs.Common.{sym, ap, ◌∙◌, arith, length-take, length-drop}
use Rattle.std.proofs.Math.Decide.{dec_lt}
use Rattle.std.proofs.Math.Seq.{slice}
use Rattle.syntax.specs.Names.{Names}

-- the table spells the names, each as bytes of the rule s
unfoldable pub Spelled : (s : List ℕ) → Names → (table : List ℕ) → Type 0
Spelled s [] table = Unit {0}
Spelled s (n ∷ ns) table =
    let from = get_or table (2 * length ns) 0 in
    (get_or table (2 * length ns + 1) 0 ≡ length n) × (n ≡ slice from (from + length n) s) × Spelled s ns table

-- the names that a table has for so many groups
unfoldable pub names_in : (s table : List ℕ) → ℕ → Names
names_in s table zero = []
names_in s table (suc g) =
    let from = get_or table (2 * g) 0 in
    slice from (from + get_or table (2 * g + 1) 0) s ∷ names_in s table g

-- the table has numbers for so many groups, and the names' bytes are bytes of the rule
pub record NamesFit (s table : List ℕ) (groups : ℕ) : Type 0 where
  pub room : 2 * groups ≤ length table
  pub within : (g : ℕ) → g < groups → 1 ≤ get_or table (2 * g + 1) 0 → get_or table (2 * g) 0 + get_or table (2 * g + 1) 0 ≤ length s

-- Laws ----------------------------------------------------------------------------

-- what a table spells depends on the numbers of these groups alone
pub spelled_same : (s : List ℕ) (ns : Names) (a b : List ℕ) → ((i : ℕ) → i < 2 * length ns → get_or b i 0 ≡ get_or a i 0) → Spelled s ns a → Spelled s ns b
unfolding Spelled
spelled_same s [] a b e h = tt
spelled_same s (n ∷ ns) a b e h =
    let from = e (2 * length ns) (omega arith) in
    let len = e (2 * length ns + 1) (omega arith) in
    (len ∙ h.0, rw from h.1, spelled_same s ns a b (λ i l. e i (omega arith)) h.2)

-- the next group's name
pub spelled-next : (s n : List ℕ) (ns : Names) (table : List ℕ) → get_or table (2 * length ns + 1) 0 ≡ length n
    → n ≡ slice (get_or table (2 * length ns) 0) (get_or table (2 * length ns) 0 + length n) s → Spelled s ns table → Spelled s (n ∷ ns) table
unfolding Spelled
spelled-next s n ns table l e h = (l, e, h)

-- the names that are spelled are those that the table has
pub spelled_is : (s : List ℕ) (ns : Names) (table : List ℕ) → Spelled s ns table → names_in s table (length ns) ≡ ns
unfolding Spelled names_in
spelled_is s [] table h = refl
spelled_is s (n ∷ ns) table h = rw (h.0, sym h.1, spelled_is s ns table h.2)

pub names-are : (s : List ℕ) (ns : Names) (table : List ℕ) (groups : ℕ) → length ns ≡ groups → Spelled s ns table → names_in s table groups ≡ ns
names-are s ns table groups e h = rw (sym e) (spelled_is s ns table h)

-- as many bytes as a part's two ends are apart lie within the whole
part-within : (s n : List ℕ) (from : ℕ) → n ≡ slice from (from + length n) s → 1 ≤ length n → from + length n ≤ length s
part-within s n from e l =
    let k : length n ≡ min (from + length n) (length s) - from = ap length e ∙ length-drop from (take (from + length n) s) ∙ ap (λ (m : ℕ). m - from) (length-take (from + length n) s) in
    omega arith

-- the bytes of each name
pub spelled-fit : (s : List ℕ) (ns : Names) (table : List ℕ) (g : ℕ) → Spelled s ns table → g < length ns → 1 ≤ get_or table (2 * g + 1) 0 → get_or table (2 * g) 0 + get_or table (2 * g + 1) 0 ≤ length s
unfolding Spelled
spelled-fit s [] table g h l u = absurd (omega arith)
spelled-fit s (n ∷ ns) table g h l u = elim (dec_lt g (length ns)) [ yes e ↦ spelled-fit s ns table g h.2 e u | no e ↦ at_last (omega arith) ]
  where
    at_last : g ≡ length ns → get_or table (2 * g) 0 + get_or table (2 * g + 1) 0 ≤ length s
    at_last e = let k : get_or table (2 * g + 1) 0 ≡ length n = rw e h.0 in rw k (rw e (part-within s n (get_or table (2 * length ns) 0) h.1 (omega (arith, k))))

pub names_fit : (s : List ℕ) (ns : Names) (table : List ℕ) (groups : ℕ) → length ns ≡ groups → Spelled s ns table → 2 * groups ≤ length table → NamesFit s table groups
names_fit s ns table groups e h l = record { room = l; within = λ g u v. spelled-fit s ns table g h (omega arith) v }

pub length-names : (s table : List ℕ) (g : ℕ) → length (names_in s table g) ≡ g
unfolding names_in
length-names s table zero = refl
length-names s table (suc g) = ap suc (length-names s table g)
