-- What the small functions write, number by number.
use Rattle.std.specs.Prelude.{◌≡◌, false, List, Option, ◌⊎◌, ℕ, ◌+◌, ◌≤◌, ◌<◌, get_or}
use Rattle.std.proofs.Math.Option.{none}
use Rattle.std.proofs.Math.Seq.{slice}
use Rattle.syntax.specs.Limits.{slot}
use Rattle.syntax.specs.Names.{Names, group_called}
use Rattle.syntax.specs.Reading.{dangling}
use Rattle.syntax.specs.Tree.{reference}
use Rattle.linker.specs.Linking.{Outside, noted}

-- one number, and two
pub record Put (old new : List ℕ) (at x : ℕ) : Type 0 where
  pub is : get_or new at 0 ≡ x
  pub rest : Outside at (at + 1) old new

pub record PutTwo (old new : List ℕ) (at x y : ℕ) : Type 0 where
  pub is : get_or new at 0 ≡ x
  pub also : get_or new (at + 1) 0 ≡ y
  pub rest : Outside at (at + 2) old new

-- the kinds of what stands between an end and an opening: a group that captures, a held part, looking ahead, and negative looking ahead
abbrev pub Bracketed : ℕ → Type 0
Bracketed k = (k ≡ 4) ⊎ ((k ≡ 14) ⊎ ((k ≡ 15) ⊎ (k ≡ 17)))

-- one number more behind the seven of such a node, where it is negative looking ahead
pub record PutAfter (old new : List ℕ) (p next : ℕ) : Type 0 where
  pub is : get_or old p 0 ≡ 17 → get_or new (p + 7) 0 ≡ next
  pub rest : Outside (p + 7) (p + 8) old new
  pub alone : (get_or old p 0 ≡ 17 → ⊥) → Outside (p + 7) (p + 7) old new

-- its end and its opening
pub record GroupClosed (old new : List ℕ) (p next r entry : ℕ) : Type 0 where
  pub kind : get_or new p 0 ≡ get_or old p 0
  pub goes : get_or new (p + 1) 0 ≡ next
  pub closer : get_or new (p + 2) 0 ≡ r
  pub span : get_or new (p + 3) 0 ≡ get_or old (p + 3) 0
  pub opening : get_or new (p + 4) 0 ≡ get_or old (p + 4) 0
  pub enters : get_or new (p + 5) 0 ≡ entry
  pub opener : get_or new (p + 6) 0 ≡ r
  pub after : get_or old p 0 ≡ 17 → get_or new (p + 7) 0 ≡ next
  pub rest : Outside p (p + 8) old new
  pub alone : (get_or old p 0 ≡ 17 → ⊥) → Outside p (p + 7) old new

-- the only part in a group that does not capture is a byte item
pub record ByteWithin (a : List ℕ) (p : ℕ) : Type 0 where
  pub plain : get_or a p 0 ≡ 10
  pub some : 1 ≤ get_or a (p + 2) 0
  pub byte : get_or a (get_or a (p + 2) 0) 0 ≡ 0
  pub alone : get_or a (get_or a (p + 2) 0 + 1) 0 ≡ 0

-- one byte item stands at p, by itself or in such a group
abbrev pub IsOneByte : List ℕ → (p : ℕ) → Type 0
IsOneByte a p = (get_or a p 0 ≡ 0) ⊎ ByteWithin a p

-- where a repeat stands at p with its body at `body`: 7; or 10, if it is greedy and repeats one byte item
abbrev pub EntryKind : List ℕ → (p body kind : ℕ) → Type 0
EntryKind a p body kind = (kind ≡ 7) ⊎ ((kind ≡ 10) × (get_or a (p + 4) 0 ≡ 0) × IsOneByte a body)

-- a repeat's kind, register, body and next
pub record RepeatClosed (old new : List ℕ) (p kind next r entry : ℕ) : Type 0 where
  pub is : get_or new p 0 ≡ kind
  pub kept : (k : ℕ) → 1 ≤ k → k < 5 → get_or new (p + k) 0 ≡ get_or old (p + k) 0
  pub register : get_or new (p + 5) 0 ≡ r
  pub enters : get_or new (p + 6) 0 ≡ entry
  pub goes : get_or new (p + 7) 0 ≡ next
  pub rest : Outside p (p + 8) old new

-- a reference, whose number becomes its group's slot; or it is noted. Whether it is folded makes no difference, and is left as it is.
pub record Referred (groups : ℕ) (old new : List ℕ) (p next : ℕ) (sofar found : Option ℕ) : Type 0 where
  pub kind : get_or new p 0 ≡ get_or old p 0
  pub origin : get_or new (p + 2) 0 ≡ get_or old (p + 2) 0
  pub rest : Outside p (p + 4) old new
  pub known : dangling groups (get_or old (p + 2) 0) (reference false (get_or old (p + 3) 0)) ≡ none → (1 ≤ get_or old (p + 3) 0) × (get_or old (p + 3) 0 ≤ groups)
  pub goes : dangling groups (get_or old (p + 2) 0) (reference false (get_or old (p + 3) 0)) ≡ none → get_or new (p + 1) 0 ≡ next
  pub span : dangling groups (get_or old (p + 2) 0) (reference false (get_or old (p + 3) 0)) ≡ none → get_or new (p + 3) 0 ≡ slot (get_or old (p + 3) 0)
  pub first : found ≡ noted (dangling groups (get_or old (p + 2) 0) (reference false (get_or old (p + 3) 0))) sofar

-- a reference by name, whose name becomes its group's number
pub record Numbered (s : List ℕ) (known : Names) (old new : List ℕ) (p : ℕ) : Type 0 where
  pub is : get_or new p 0 ≡ 11
  pub origin : get_or new (p + 2) 0 ≡ get_or old (p + 2) 0
  pub number : get_or new (p + 3) 0 ≡ group_called (slice (get_or old (p + 3) 0) (get_or old (p + 3) 0 + get_or old (p + 5) 0) s) known
  pub rest : Outside p (p + 4) old new

-- and which is then linked by that
pub record NameLinked (s : List ℕ) (known : Names) (groups : ℕ) (old new : List ℕ) (p next : ℕ) (sofar : Option ℕ) (pc : ℕ) (found : Option ℕ) : Type 0 where
  pub entered : pc ≡ p
  pub between : List ℕ
  pub numbered : Numbered s known old between p
  pub referred : Referred groups between new p next sofar found
