-- Quantifiers: `* + ? {n} {n,} {n,m}`, greedy, lazy and possessive.
-- docs/REFERENCE.md, 8.1
use Rattle.std.specs.Prelude.{List, true, false, ◌&&◌, ℕ, ◌+◌, length, leb, if◌then◌else◌}
use Rattle.syntax.specs.declared.Greed.TheVariants.{Greedy, Lazy}
use Rattle.syntax.specs.declared.Most.{Most}
use Rattle.syntax.specs.declared.Most.TheVariants.{AtMost, Unlimited}
use Rattle.syntax.specs.declared.Quantifier.{Quantifier}
use Rattle.syntax.specs.declared.Quantifier.TheVariants.{Absent, Stray, Unfit, Times}
use Rattle.syntax.specs.Limits.{bound_limit}
use Rattle.syntax.specs.Read.{byte, is}
use Rattle.syntax.specs.Numbers.{digits, value, is_none}

-- "greedy and lazy": a `?` behind the repeat makes it lazy; 02, request l): "possessive `+` after a greedy repeat"
unfoldable pub with_greed : List ℕ → ℕ → Most → ℕ → Quantifier
with_greed s least most at =
    if is "?" (byte s at) then Times least most Lazy false (at + 1)
    else if is "+" (byte s at) then Times least most Greedy true (at + 1)
    else Times least most Greedy false at

-- "a bound over 255, or n > m"
unfoldable pub at_least : List ℕ → ℕ → ℕ → Quantifier
at_least s n at = if leb n bound_limit then with_greed s n Unlimited at else Unfit

unfoldable pub from_to : List ℕ → ℕ → ℕ → ℕ → Quantifier
from_to s n m at = if leb n m && leb m bound_limit then with_greed s n (AtMost m) at else Unfit

-- behind `{n,`
unfoldable pub upper : List ℕ → ℕ → ℕ → Quantifier
upper s n at =
    let ds = digits 10 s at in
    if is "}" (byte s at) then at_least s n (at + 1)
    else if is_none ds then Stray
    else if is "}" (byte s (at + length ds)) then from_to s n (value 10 ds) (at + length ds + 1)
    else Stray

-- behind `{`; "Braces hold no blanks"
unfoldable pub braces : List ℕ → ℕ → Quantifier
braces s at =
    let ds = digits 10 s at in
    let n = value 10 ds in
    let next = at + length ds in
    if is_none ds then Stray
    else if is "}" (byte s next) then from_to s n n (next + 1)
    else if is "," (byte s next) then upper s n (next + 1)
    else Stray

unfoldable pub quantifier : List ℕ → ℕ → Quantifier
quantifier s at =
    let b = byte s at in
    if is "*" b then with_greed s 0 Unlimited (at + 1)
    else if is "+" b then with_greed s 1 Unlimited (at + 1)
    else if is "?" b then with_greed s 0 (AtMost 1) (at + 1)
    else if is "{" b then braces s (at + 1)
    else Absent
