-- Which calls of lines in memory fail.
use Rattle.std.specs.Prelude.{ℕ, Bool, true, false, ◌+◌, ◌-◌, ◌^◌, ◌↔◌, ◌&&◌, ◌==◌, min, Contains, List, map, filter, IsTrue, IsErrOf, Result}
use Rattle.std.specs.List.{list_any}
use Rattle.upd_base.specs.declared.edge.EdgeFault.{EdgeFault}
use Rattle.upd_base.specs.declared.edge.EdgeFault.TheVariants.{Failed}
use Rattle.line_fakes.specs.declared.line_fail.Way.{Way}
use Rattle.line_fakes.specs.declared.line_fail.Way.TheVariants.{Make, Put, Get}
use Rattle.line_fakes.specs.declared.line_fail.LineFail.{LineFail}

abbrev pub same_way : Way → Way → Bool
same_way Make Make = true
same_way Put Put = true
same_way Get Get = true
same_way Make Put = false
same_way Make Get = false
same_way Put Make = false
same_way Put Get = false
same_way Get Make = false
same_way Get Put = false

-- a fail of calls of this way on the line from one member to another
abbrev pub is_for : Way → ℕ → ℕ → LineFail → Bool
is_for way from to f = same_way f.way way && (f.from == from) && (f.to == to)

-- the numbers of the calls of this way that fail there
abbrev pub listed_for : Way → ℕ → ℕ → List LineFail → List ℕ
listed_for way from to fails = map (λ f. f.nth) (filter (is_for way from to) fails)

-- the call of this number is listed there
abbrev pub is_listed : Way → ℕ → ℕ → ℕ → List LineFail → Bool
is_listed way from to nth fails = list_any (λ f. is_for way from to f && (f.nth == nth)) fails

-- the number of the next call, from 1
abbrev pub next_number : ℕ → ℕ
next_number made = min (made + 1) (2 ^ 64 - 1)

-- The next call fails exactly where it is listed.
abbrev pub FailsAsListed : {T : Type 0} → List ℕ → ℕ → Result T EdgeFault → Type 0
FailsAsListed fails made result = IsErrOf result Failed ↔ Contains fails (next_number made)
