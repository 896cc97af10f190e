-- The tests of fitting as facts on numbers.
use Rattle.std.proofs.Common.{ℕ, ◌≡◌, ◌<◌, ◌&&◌, Bool, true, false, List, arith}
use Rattle.std.specs.Prelude.{nat_lt}
use Rattle.std.proofs.lemmas.Bool.{and_parts}
use Rattle.std.proofs.lemmas.Bool.Decides.{nat_tests}
use Rattle.upd_base.specs.Kind.{kind_fits, KindFits}
use Rattle.upd_base.specs.Item.{ItemFits, origin_of}
use Rattle.upd_base.specs.declared.kind.Kind.{Kind}
use Rattle.upd_base.specs.declared.kind.Kind.TheVariants.{Sequencer}
use Rattle.upd_base.specs.declared.item.Item.{Item}
use Rattle.upd_base.specs.declared.item.Item.TheVariants.{Msg, Switch}

pub nat_lt-true : (a b : ℕ) → nat_lt a b ≡ true → a < b
nat_lt-true a b e = grind (arith, nat_tests)

pub true-nat_lt : (a b : ℕ) → a < b → nat_lt a b ≡ true
true-nat_lt a b l = grind (arith, nat_tests)

-- the sequencer of a kind that fits is a member
pub sequencer_below : (n s : ℕ) → KindFits n (Sequencer s) → s < n
sequencer_below n s e = nat_lt-true s n e

pub origin_below : (n : ℕ) (item : Item) → ItemFits n item → origin_of item < n
origin_below n (Msg origin number payload) e = nat_lt-true origin n e
origin_below n (Switch origin number kind) e = nat_lt-true origin n (and_parts (nat_lt origin n) (kind_fits n kind) e).0

pub msg_fits : (n origin number : ℕ) (payload : List ℕ) → origin < n → ItemFits n (Msg origin number payload)
msg_fits n origin number payload l = true-nat_lt origin n l

pub switch_fits : (n origin number : ℕ) (kind : Kind) → origin < n → KindFits n kind → ItemFits n (Switch origin number kind)
switch_fits n origin number kind l k = both (nat_lt origin n) (kind_fits n kind) (true-nat_lt origin n l) k
  where
    both : (a b : Bool) → a ≡ true → b ≡ true → (a && b) ≡ true
    both true b p q = q
    both false b p q = p

-- the kind of a switch that fits
pub switch_kind : (n origin number : ℕ) (kind : Kind) → ItemFits n (Switch origin number kind) → KindFits n kind
switch_kind n origin number kind e = (and_parts (nat_lt origin n) (kind_fits n kind) e).1
