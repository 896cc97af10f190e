-- What a member keeps, without where it lies in memory.
use Rattle.std.specs.Prelude.{ℕ, Bool, true, false, ◌≡◌, ◌+◌, ◌<◌, ◌≤◌, Some, List, length, slice_get, All}
use Rattle.order_trait.specs.declared.ordering.Ordering.{Ghosts}
use Rattle.upd_base.specs.Kind.{KindFits}
use Rattle.upd_base.specs.Item.{origin_of, ItemFits}
use Rattle.upd_base.specs.Body.{BodyFits, is_body}
use Rattle.upd_base.specs.declared.kind.Kind.{Kind}
use Rattle.upd_base.specs.declared.frame.Frame.{Frame}
use Rattle.upd_base.specs.declared.entry.Entry.{Entry}
use Rattle.upd_base.specs.declared.limits.TheConstants.{MAX_MEMBERS, MAX_VERSION}
use Rattle.group_run.specs.Group.{Rules, Group}
use Rattle.replacement.specs.Repl.{State}

-- A member of a group: its modules by version, its replacement, its held frames in the order of arrival, its log,
-- whether it suspects each member, and whether it has crashed.
pub record Kept (O : Type 0) : Type 0 where
  pub members : ℕ
  pub me : ℕ
  pub first : Kind
  pub modules : List O
  pub repl : State
  pub held : List (ℕ × Frame)
  pub entries : List Entry
  pub suspected : List Bool
  pub crashed : Bool

-- the kinds that a type of modules serves
abbrev pub rules_of : {O : Type 0} → Ghosts O → Rules
rules_of G = record { sends = G.sends; delivers = G.delivers; serves = G.is_served }

-- the group that it is a member of
abbrev pub group_of : {O : Type 0} → Ghosts O → Kept O → Group
group_of G k = record { rules = rules_of G; members = k.members; first = k.first }

-- a frame that a member holds: its sender is one of n members, and its body fits them
abbrev pub HeldFits : ℕ → ℕ × Frame → Type 0
HeldFits n h = (h.0 < n) × BodyFits n h.1.body × (is_body h.1.body ≡ true)

-- What is true of a member whatever was asked of it: there is one module for each version, all of its own seat; its
-- undelivered messages are its own; it never suspects itself; and what it holds came from members.
pub record IsMember {O : Type 0} (G : Ghosts O) (k : Kept O) : Type 0 where
  pub some : 1 ≤ k.members
  pub few : k.members ≤ MAX_MEMBERS
  pub me_fits : k.me < k.members
  pub first_served : G.is_served k.first ≡ true
  pub first_fits : KindFits k.members k.first
  pub versions : length k.modules ≡ k.repl.version + 1
  pub few_versions : k.repl.version ≤ MAX_VERSION
  pub members_are : All (λ m. (G.seat m).members ≡ k.members) k.modules
  pub me_is : All (λ m. (G.seat m).me ≡ k.me) k.modules
  pub mine : k.repl.me ≡ k.me
  pub own : All (λ item. origin_of item ≡ k.me) k.repl.undelivered
  pub items_fit : All (ItemFits k.members) k.repl.undelivered
  pub row : length k.suspected ≡ k.members
  pub not_self : slice_get k.suspected k.me ≡ Some false
  pub held_fit : All (HeldFits k.members) k.held
