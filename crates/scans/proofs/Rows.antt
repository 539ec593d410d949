-- One search after another: the rows found so far stand in the area, and the searches from the next one on make the rest.
use Rattle.std.specs.Prelude.{Ok}
use mathlib.Core.Path.{◌≡◌, refl, ap, sym, subst}
use mathlib.Core.Logic.{inl, inr}
use mathlib.Core.List.{List, [], ◌∷◌, ◌++◌}
use mathlib.Core.Bool.{Bool, false}
use Prim.Native.Nat.{ℕ, suc, ◌+◌, ◌-◌, ◌*◌, ◌^◌, ◌≤◌, ◌<◌}
use native.Mathlib.Nat.{mul-le-mul_right}
use native.Mathlib.Omega.{arith}
use types.Run.{OneOf}
use denote.Enum.Declared.{tag_of}
use lib.Dec.{eqb}
use lib.ListN.{length, take, drop, length-append}
use Rattle.syntax.specs.Limits.{row_length, spans_length, subject_limit}
use Rattle.syntax.specs.Tree.{Rule}
use Rattle.semantics.specs.States.{row}
use Rattle.semantics.specs.Answers.{Answer, Listing as Found·all}
use Rattle.semantics.specs.Scans.{is_empty, tries_left, search_from, scan}
use Rattle.semantics.specs.Calls.{joined, room, list_outcome}
use Rattle.semantics.proofs.Laws.Loops.{after_rows}
use Rattle.semantics.proofs.Laws.Scans.{scan-demand, search-fewer}
use Rattle.semantics.proofs.Laws.ScanSteps.{scan_steps}
use Rattle.semantics.proofs.Laws.ScanLoops.{ScanAt, scan-begin, scan-row, scan-full, scan-over, scan-last}
use Rattle.gathering.specs.declared.Listing.{Listing}
use Rattle.gathering.specs.Listing.{listing_of}
use Rattle.noting.specs.Laws.Holding.{same-room, holds_more}
use Rattle.index.specs.Rows.{row_of}
use Rattle.index.specs.Laws.Rows.{row_of-length}
use Rattle.frame.specs.Laws.Areas.{over_none}
use Rattle.seeking.specs.declared.Sought.{Sought}
use Rattle.seeking.specs.declared.Sought.TheVariants.{Found, Nothing, Spent}
use Rattle.seeking.specs.contracts.Sought.{the_type}
use Rattle.seeking.specs.Starts.{Answers}
use Rattle.seeking.specs.Laws.Starts.{match-row}
use Rattle.scans.specs.Scanning.{Scans, last_of, steps_of, Scanning}

pub scanning-start : (sub : List ℕ) (x : Rule) (budget : ℕ) (area : List ℕ) → Scanning sub x budget area area 0 0 0 false
unfolding joined
scanning-start sub x budget area =
    let e : room area - 0 ≡ room area = omega arith in
    record { found = []; at = rw e (scan-begin sub x budget (room area)); fits = omega arith; holds = record { whole = tt; many = refl; written = sym (over_none area) } }

-- The steps ---------------------------------------------------------------------

-- of all searches together, with a line that is not refused and a budget of 32 bits
scan-few : (sub : List ℕ) (x : Rule) (budget limit : ℕ) → length sub ≤ subject_limit → budget < 4294967296 → (scan sub x budget limit).steps < 2 ^ 64
unfolding subject_limit
scan-few sub x budget limit l b =
    let h = scan_steps sub x budget limit (scan sub x budget limit) (scan-demand sub x budget limit) in
    let m : budget * (length sub + 1) ≤ 4294967295 * (length sub + 1) = mul-le-mul_right (length sub + 1) (omega arith) in
    omega (arith, h, m)

-- The last search ---------------------------------------------------------------

-- a match ends it only where no row is left
abbrev pub Last : (area : List ℕ) (rows : ℕ) → Sought → Type 0
Last area rows (Found start stop used) = room area ≤ rows
Last area rows (Nothing used) = Unit {0}
Last area rows (Spent start used) = Unit {0}

above : (n : ℕ) → OneOf (1 ∷ 2 ∷ []) n → 0 < n
above n (inl e) = omega arith
above n (inr e) = omega arith

-- what is no match ends it, by the variants' numbers
pub not_found : (area : List ℕ) (rows : ℕ) (o : Sought) → OneOf (1 ∷ 2 ∷ []) (tag_of the_type o) → Last area rows o
not_found area rows (Found start stop used) h = let l : 0 < 0 = above 0 h in absurd (omega arith)
not_found area rows (Nothing used) h = tt
not_found area rows (Spent start used) h = tt

module _ {sub : List ℕ} {x : Rule} {budget : ℕ} {old area : List ℕ} {rows steps from : ℕ} {barred : Bool} (g : Scanning sub x budget old area rows steps from barred) where
  scan-ends : (regs : List ℕ) (o : Sought) → Answers regs o (search_from sub x budget from barred) → Last area rows o → scan sub x budget (room old) ≡ record { rows = g.found; ending = last_of o; steps = steps + steps_of o }
  unfolding last_of steps_of
  scan-ends regs (Found start stop used) a l =
      let none : room old - rows ≡ 0 = omega (arith, l, same-room g.holds g.fits) in
      scan-full sub x budget (room old) g.found steps from barred used start a.state a.is (rw none at g.at)
  scan-ends regs (Nothing used) a l = scan-last sub x budget (room old) g.found steps from barred used (room old - rows) a g.at
  scan-ends regs (Spent start used) a l = scan-over sub x budget (room old) g.found steps from barred used (room old - rows) start a g.at

  pub ends-few : (regs : List ℕ) (o : Sought) → Answers regs o (search_from sub x budget from barred) → Last area rows o → length sub ≤ subject_limit → budget < 4294967296 → steps + steps_of o < 2 ^ 64
  ends-few regs o a l s b = rw (scan-ends regs o a l) at (scan-few sub x budget (room old) s b)

  pub scanning-end : (regs : List ℕ) (o : Sought) → Answers regs o (search_from sub x budget from barred) → Last area rows o → {r : Listing} → listing_of (Ok r) ≡ list_outcome (last_of o) rows (steps + steps_of o) → Scans sub x budget old area r
  scanning-end regs o a l e = let s = scan-ends regs o a l in record { outcome = rw (s, g.holds.many) e; results = rw s g.holds.written }

  -- A row ---------------------------------------------------------------------------

  module _ {regs : List ℕ} {start stop used : ℕ} (a : Answers regs (Found start stop used) (search_from sub x budget from barred)) where
    pub scanning-fewer : tries_left sub stop (eqb start stop) < tries_left sub from barred
    unfolding is_empty
    scanning-fewer = subst (λ (n : ℕ). tries_left sub n (eqb start n) < tries_left sub from barred) a.at (search-fewer sub x budget from barred start a.state g.at.inside (ap (λ (y : Answer). y.outcome) a.is)).1

    module _ (free : rows < room area) where
      on : ScanAt sub x budget (room old) (g.found ++ row start a.state ∷ []) (steps + used) (room old - (rows + 1)) stop (eqb start stop)
      unfolding is_empty
      on =
          let e : room old - rows ≡ suc (room old - (rows + 1)) = omega (arith, same-room g.holds g.fits) in
          subst (λ (n : ℕ). ScanAt sub x budget (room old) (g.found ++ row start a.state ∷ []) (steps + used) (room old - (rows + 1)) n (eqb start n)) a.at (scan-row sub x budget (room old) g.found steps from barred used (room old - (rows + 1)) start a.state a.is (rw e at g.at))

      pub row-few : length sub ≤ subject_limit → budget < 4294967296 → steps + used < 2 ^ 64
      unfolding after_rows
      row-few s b = let h = scan-few sub x budget (room old) s b in let k = ap (λ (l : Found·all). l.steps) on.whole in omega (arith, h, k)

      pub scanning-row : {new : List ℕ} → new ≡ take (rows * row_length) area ++ (row_of start stop regs ++ drop (rows * row_length + row_length) area) → spans_length ≤ length regs → Scanning sub x budget old new (rows + 1) (steps + used) stop (eqb start stop)
      scanning-row {new} written size =
          let h = holds_more g.holds g.fits (row_of start stop regs) (row_of-length start stop regs size) written refl in
          record {
            found = g.found ++ row start a.state ∷ [];
            at = on;
            fits = rw (length-append g.found (row start a.state ∷ [])) (omega (arith, same-room g.holds g.fits, g.holds.many));
            holds = rw (match-row a) at h;
          }
