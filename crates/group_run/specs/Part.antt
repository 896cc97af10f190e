-- One member's part: what it has come to, and what can be read of it.
use Rattle.std.specs.Prelude.{ℕ, zero, suc, Bool, true, false, ◌==◌, ◌&&◌, not, List, [], ◌∷◌, ◌++◌, filter, reverse}
use Rattle.std.specs.List.{list_any}
use Rattle.order_trait.specs.Runs.{Inputs}
use Rattle.upd_base.specs.Item.{has_id, id_of, is_message}
use Rattle.upd_base.specs.declared.kind.Kind.{Kind}
use Rattle.upd_base.specs.declared.item.Item.{Item}
use Rattle.upd_base.specs.declared.frame.Frame.{Frame}
use Rattle.upd_base.specs.declared.entry.Entry.{Entry}
use Rattle.group_run.specs.Group.{Group}
use Rattle.group_run.specs.Version.{log_of, newest, newest_kind}

-- What a member has come to. There is no list of undelivered messages, no table of kinds and no log in it: these are
-- read off what it was given.
pub record Part : Type 0 where
  -- the inputs of its modules, those of the newest version first
  pub modules : List Inputs
  -- the items that it accepted, the newest first; the number of each is how many it had accepted before
  pub accepted : List Item
  -- the members that it suspects
  pub suspects : List ℕ
  -- the frames that it holds, each with its sender, in the order of arrival
  pub held : List (ℕ × Frame)
  pub crashed : Bool

-- At the opening a member has the module of version 0, which was given nothing.
abbrev pub opening : Part
opening = record { modules = [] ∷ []; accepted = []; suspects = []; held = []; crashed = false }

-- a part that differs in one of these
abbrev pub with_modules : Part → List Inputs → Part
with_modules p ms = record { modules = ms; accepted = p.accepted; suspects = p.suspects; held = p.held; crashed = p.crashed }

abbrev pub with_accepted : Part → Item → Part
with_accepted p item = record { modules = p.modules; accepted = item ∷ p.accepted; suspects = p.suspects; held = p.held; crashed = p.crashed }

abbrev pub with_suspects : Part → List ℕ → Part
with_suspects p suspects = record { modules = p.modules; accepted = p.accepted; suspects = suspects; held = p.held; crashed = p.crashed }

abbrev pub with_held : Part → List (ℕ × Frame) → Part
with_held p held = record { modules = p.modules; accepted = p.accepted; suspects = p.suspects; held = held; crashed = p.crashed }

abbrev pub stopped : Part → Part
stopped p = record { modules = p.modules; accepted = p.accepted; suspects = p.suspects; held = p.held; crashed = true }

-- what the member delivered: the segments of its versions
abbrev pub log : Group → ℕ → Part → List Entry
log g me part = log_of g me part.modules

-- its version, and the kind of that version
abbrev pub version : Part → ℕ
version part = newest part.modules

abbrev pub present_kind : Group → ℕ → Part → Kind
present_kind g me part = newest_kind g me part.modules

-- an entry of this origin and number stands in a log
abbrev pub is_logged : Item → List Entry → Bool
is_logged item es = list_any (λ e. has_id (id_of item) e.item) es

-- the accepted messages that are absent from the member's log, by ascending number
abbrev pub undelivered : Group → ℕ → Part → List Item
undelivered g me part =
    filter (λ item. is_message item && not (is_logged item (log g me part))) (reverse part.accepted)

-- suspicions
abbrev pub is_suspected : ℕ → List ℕ → Bool
is_suspected who suspects = list_any (λ other. other == who) suspects

abbrev pub without : ℕ → List ℕ → List ℕ
without who suspects = filter (λ other. not (other == who)) suspects

-- the numbers below n, ascending
abbrev pub below : ℕ → List ℕ
below zero = []
below (suc n) = below n ++ n ∷ []

-- the members that are suspected, ascending
abbrev pub suspicions : Group → Part → List ℕ
suspicions g part = filter (λ who. is_suspected who part.suspects) (below g.members)
