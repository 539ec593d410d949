-- Laws of what the contracts say: another reading that is equal, one move behind another.
use Rattle.std.specs.Prelude.{Result, Ok, Err}
use mathlib.Core.Path.{◌≡◌, sym, subst}
use mathlib.Core.List.{List}
use Prim.Native.Nat.{ℕ, ◌+◌, ◌*◌, ◌≤◌}
use native.Mathlib.Omega.{arith}
use lib.ListN.{length}
use Rattle.syntax.specs.declared.Refusal.{Refusal}
use Rattle.syntax.specs.Read.{Read}
use Rattle.syntax.specs.Tree.{Rule}
use Rattle.syntax.specs.Names.{Names}
use Rattle.parts.specs.declared.Cursor.{Cursor}
use Rattle.parts.specs.declared.Part.{Part}
use Rattle.parts.specs.declared.Step.{Step}
use Rattle.name_table.specs.Table.{NamesFit}
use Rattle.parts.specs.Says.{price, Ready, Moves, Moved, Told, NoneOpened, NoneOpenedTurn, Standing, Says}
use Rattle.reader.specs.Says.{Naming, Named, NamedTurn}

-- the reading is equal to another
pub says-as : (H : Standing) (told : Told) (a b : Read (Rule × Names)) (area : List ℕ) (lo : ℕ) (r : Result Part Refusal) → a ≡ b → Says H told b area lo r → Says H told a area lo r
says-as H told a b area lo r e x = subst (λ (y : Read (Rule × Names)). Says H told y area lo r) (sym e) x

-- where no group was opened, the names are those that stood there
pub names-stay : (s table : List ℕ) (c : Cursor) (r : Result Part Refusal) → NamesFit s table c.opened → NoneOpened c r → Named s table r
names-stay s table c (Ok q) f e = rw e f
names-stay s table c (Err g) f e = tt

pub names-stay-turn : (s table : List ℕ) (c : Cursor) (r : Result Step Refusal) → NamesFit s table c.opened → NoneOpenedTurn c r → NamedTurn s table r
names-stay-turn s table c (Ok q) f e = rw e f
names-stay-turn s table c (Err g) f e = tt

-- a move from d on is one from c on
pub moved_on : (size : ℕ) (c d : Cursor) (l m : ℕ) (r : Result Part Refusal) → c.at + m ≤ d.at + l → c.used ≤ d.used → d.used + price * c.at ≤ c.used + price * d.at → Moved size d l r → Moved size c m r
moved_on size c d l m (Ok q) h k j x = record { on = omega (arith, x.on); within = x.within; grown = omega (arith, x.grown); paid = omega (arith, x.paid); address = x.address; few = x.few }
moved_on size c d l m (Err f) h k j x = tt

-- a reader can begin where another has moved to
pub ready_on : {size : ℕ} {old new : List ℕ} {c d : Cursor} {least p : ℕ} → Ready size old c → Moves size c least d p → length new ≡ length old → Ready size new d
ready_on r m e = record { within = m.within; began = omega (arith, r.began, m.grown); paid = omega (arith, r.paid, m.paid); room = omega (arith, r.room); narrow = r.narrow; few = m.few }

-- and name groups there
pub naming-on : {s old new : List ℕ} {c : Cursor} (d : Cursor) → Naming s old c → NamesFit s new d.opened → length new ≡ length old → Naming s new d
naming-on d n f e = record { wide = omega (arith, n.wide); fit = f }
