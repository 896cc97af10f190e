-- What a module of timestamps keeps of its inputs.
use Rattle.std.specs.Prelude.{ℕ, ◌≡◌, ◌<◌, not, nat_le, slice_index, List}
use Rattle.std.specs.List.{filter}
use Rattle.upd_base.specs.declared.kind.Kind.TheVariants.{Lamport}
use Rattle.order_trait.specs.Runs.{Inputs, Seat}
use Rattle.request_queue.specs.declared.request.Request.{Request}
use Rattle.lamport_rules.specs.Lamport.{clock, heard, heard_by_all, requests}
use Rattle.lamport_order.specs.declared.lamport.LamportOrder.{LamportOrder}

-- what a module was made with
abbrev pub seat_of : LamportOrder → Seat
seat_of m = record { kind = Lamport; members = m.members; me = m.me }

-- Of n members, this clock, these numbers heard and these waiting requests are as the inputs leave them: the
-- requests that wait are those above what every member was heard to.
pub record IsAfter (n c : ℕ) (row : List ℕ) (waiting : List Request) (past : Inputs) : Type 0 where
  pub clock_is : c ≡ clock past
  pub heard_is : (j : ℕ) → j < n → slice_index row j ≡ heard past j
  pub waiting_is : waiting ≡ filter (λ w. not (nat_le w.stamp (heard_by_all n past))) (requests past)

-- a module is as these inputs leave it
abbrev pub StandsFor : LamportOrder → Inputs → Type 0
StandsFor m past = IsAfter m.members m.clock m.heard.items m.waiting past
