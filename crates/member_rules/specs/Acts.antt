-- What the acts of a replacement say, and what a fresh module is told.
use Rattle.std.specs.Prelude.{ℕ, suc, Bool, true, if◌then◌else◌, Option, Some, List, [], ◌∷◌, ◌++◌}
use Rattle.std.specs.List.{filter}
use Rattle.fifo_net.specs.Net.{Called}
use Rattle.order_trait.specs.Runs.{Order, Suspect, Inputs}
use Rattle.upd_base.specs.declared.body.Body.{Body}
use Rattle.upd_base.specs.declared.kind.Kind.{Kind}
use Rattle.upd_base.specs.declared.item.Item.{Item}
use Rattle.upd_base.specs.declared.item.Item.TheVariants.{Msg, Switch}
use Rattle.replacement.specs.Repl.{counted}
use Rattle.replacement.specs.declared.act.Act.{Act}
use Rattle.replacement.specs.declared.act.Act.TheVariants.{Deliver, Bind, Reissue}

-- no switch to a kind that isn't served
abbrev pub is_kept : (Kind → Bool) → Item → Bool
is_kept serves (Msg origin number payload) = true
is_kept serves (Switch origin number kind) = serves kind

-- what counts of the items that a version delivered, for members that serve these kinds
abbrev pub counting : (Kind → Bool) → ℕ → List Item → List Item
counting serves version delivered = counted version (filter (is_kept serves) delivered)

-- the items that acts deliver
abbrev pub delivered_by : List Act → List Item
delivered_by [] = []
delivered_by (Deliver item ∷ acts) = item ∷ delivered_by acts
delivered_by (Bind kind ∷ acts) = delivered_by acts
delivered_by (Reissue item ∷ acts) = delivered_by acts

-- the items that they issue again
abbrev pub reissued_by : List Act → List Item
reissued_by [] = []
reissued_by (Deliver item ∷ acts) = reissued_by acts
reissued_by (Bind kind ∷ acts) = reissued_by acts
reissued_by (Reissue item ∷ acts) = item ∷ reissued_by acts

-- the last kind that they bind, if not this one
abbrev pub bound_by : Option Kind → List Act → Option Kind
bound_by bound [] = bound
bound_by bound (Deliver item ∷ acts) = bound_by bound acts
bound_by bound (Bind kind ∷ acts) = bound_by (Some kind) acts
bound_by bound (Reissue item ∷ acts) = bound_by bound acts

-- the suspicions that a row notes, from a member on
abbrev pub suspicions_in : ℕ → List Bool → List Order
suspicions_in who [] = []
suspicions_in who (on ∷ row) = if on then Suspect who ∷ suspicions_in (suc who) row else suspicions_in (suc who) row

-- the inputs of a module after orders
abbrev pub orders_after : List Order → Inputs → Inputs
orders_after [] past = past
orders_after (order ∷ orders) past = orders_after orders (Called order ∷ past)

-- what it sends at them
abbrev pub orders_sent : (Inputs → List (ℕ × Body)) → List Order → Inputs → List (ℕ × Body)
orders_sent sends [] past = []
orders_sent sends (order ∷ orders) past = sends (Called order ∷ past) ++ orders_sent sends orders (Called order ∷ past)
