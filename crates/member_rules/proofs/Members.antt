-- Members that stay members.
use Rattle.std.proofs.Common.{ℕ, ◌≡◌, ◌≢◌, ◌≤◌, ◌+◌, Bool, Option, Some, None, List, [], ◌∷◌, ◌++◌, length, length-append, length-set, set, All, sym, ◌∙◌, ap, arith, append-nil, subst}
use Rattle.std.specs.Prelude.{slice_get, option_to_list}
use Rattle.std.specs.List.{AllZip}
use Rattle.std.proofs.lemmas.List.Elements.{All-set, All-same, All-push, length_all_zip}
use Rattle.fifo_net.specs.Net.{Input}
use Rattle.order_trait.specs.Runs.{Order}
use Rattle.order_trait.specs.declared.ordering.Ordering.{Ghosts}
use Rattle.upd_base.specs.Item.{origin_of, ItemFits}
use Rattle.upd_base.specs.declared.body.Body.{Body}
use Rattle.upd_base.specs.declared.kind.Kind.{Kind}
use Rattle.upd_base.specs.declared.item.Item.{Item}
use Rattle.upd_base.specs.declared.entry.Entry.{Entry}
use Rattle.upd_base.specs.declared.frame.Frame.{Frame}
use Rattle.upd_base.specs.declared.limits.TheConstants.{MAX_VERSION}
use Rattle.replacement.specs.Repl.{State, left}
use Rattle.member_rules.specs.Kept.{Kept, IsMember, HeldFits}
use Rattle.member_rules.specs.Acts.{counting}
use Rattle.member_rules.specs.Steps.{Came, moved, informed, IsNext, Enters, fresh_orders}
use Rattle.member_rules.proofs.Modules.{all_at, zip_all, slice_get-set_other}
use Rattle.member_rules.proofs.Came.{none_bound, some_bound, all_left}

pub member_moved : {O : Type 0} (G : Ghosts O) (k : Kept O) (modules2 : List O) (state2 : State) (held2 : List (ℕ × Frame)) (entries2 : List Entry) → IsMember G k
    → length modules2 ≡ state2.version + 1 → state2.version ≤ MAX_VERSION
    → All (λ m. (G.seat m).members ≡ k.members) modules2 → All (λ m. (G.seat m).me ≡ k.me) modules2
    → state2.me ≡ k.me → All (λ item. origin_of item ≡ k.me) state2.undelivered → All (ItemFits k.members) state2.undelivered
    → All (HeldFits k.members) held2
    → IsMember G (moved k modules2 state2 held2 entries2)
member_moved G k modules2 state2 held2 entries2 m versions few_versions members_are me_is mine own items_fit held_fit = record {
  some = m.some;
  few = m.few;
  me_fits = m.me_fits;
  first_served = m.first_served;
  first_fits = m.first_fits;
  versions = versions;
  few_versions = few_versions;
  members_are = members_are;
  me_is = me_is;
  mine = mine;
  own = own;
  items_fit = items_fit;
  row = m.row;
  not_self = m.not_self;
  held_fit = held_fit;
}

-- the seats of a module that is another one after an input
pub seats_set : {O : Type 0} (G : Ghosts O) (k : Kept O) (v : ℕ) (m next : O) → IsMember G k → slice_get k.modules v ≡ Some m → G.seat next ≡ G.seat m
    → All (λ y. (G.seat y).members ≡ k.members) (set k.modules v next) × All (λ y. (G.seat y).me ≡ k.me) (set k.modules v next)
seats_set G k v m next is at seat = (
  All-set (λ y. (G.seat y).members ≡ k.members) k.modules v next (ap (λ s. s.members) seat ∙ all_at (λ y. (G.seat y).members ≡ k.members) k.modules v m is.members_are at) is.members_are,
  All-set (λ y. (G.seat y).me ≡ k.me) k.modules v next (ap (λ s. s.me) seat ∙ all_at (λ y. (G.seat y).me ≡ k.me) k.modules v m is.me_is at) is.me_is,
)

-- an item was issued
pub member_issued : {O : Type 0} (G : Ghosts O) (k : Kept O) (v : ℕ) (m next : O) (state2 : State) (entries2 : List Entry) → IsMember G k → slice_get k.modules v ≡ Some m → G.seat next ≡ G.seat m
    → state2.me ≡ k.repl.me → state2.version ≡ k.repl.version → All (λ item. origin_of item ≡ k.me) state2.undelivered → All (ItemFits k.members) state2.undelivered
    → IsMember G (moved k (set k.modules v next ++ []) state2 k.held entries2)
member_issued {O} G k v m next state2 entries2 is at seat me version own fit =
    let s = seats_set G k v m next is at seat in
    let all : List O = set k.modules v next in
    subst (λ xs. IsMember G (moved k xs state2 k.held entries2)) (sym (append-nil all))
    (member_moved G k all state2 k.held entries2 is (length-set k.modules v next ∙ is.versions ∙ ap (λ n. n + 1) (sym version)) (let f = is.few_versions in omega arith)
    s.0 s.1 (me ∙ is.mine) own fit is.held_fit)

-- a frame was processed
pub member_processed : {O : Type 0} (G : Ghosts O) (k : Kept O) (v : ℕ) (m next : O) (state2 : State) (held2 : List (ℕ × Frame)) (es : List Entry) (bound : Option Kind) (again : List Item) (fresh : Option O) (delivered : List Item) →
    IsMember G k → slice_get k.modules v ≡ Some m → G.seat next ≡ G.seat m → All (HeldFits k.members) held2 → state2.version ≤ MAX_VERSION
    → Came G.is_served k.repl state2 v delivered es bound again
    → Enters G k.members k.me (fresh_orders k.suspected again) bound fresh
    → IsMember G (moved k (set k.modules v next ++ option_to_list fresh) state2 held2 (k.entries ++ es))
member_processed {O} G k v m next state2 held2 es None again None delivered is at seat held few came enters =
    let s = seats_set G k v m next is at seat in
    let n = none_bound G.is_served k.repl state2 v delivered es again came in
    let all : List O = set k.modules v next in
    subst (λ xs. IsMember G (moved k xs state2 held2 (k.entries ++ es))) (sym (append-nil all))
    (member_moved G k all state2 held2 (k.entries ++ es) is (length-set k.modules v next ∙ is.versions ∙ ap (λ j. j + 1) (sym n.1)) few
    s.0 s.1 (n.0 ∙ is.mine) (n.2 (λ item. origin_of item ≡ k.me) is.own) (n.2 (ItemFits k.members) is.items_fit) held)
member_processed G k v m next state2 held2 es None again (Some fresh) delivered is at seat held few came enters = absurd enters
member_processed G k v m next state2 held2 es (Some kind) again None delivered is at seat held few came enters = absurd enters
member_processed {O} G k v m next state2 held2 es (Some kind) again (Some fresh) delivered is at seat held few came enters =
    let s = seats_set G k v m next is at seat in
    let b = some_bound G.is_served k.repl state2 v delivered es again kind came in
    let items = counting G.is_served v delivered in
    let all : List O = set k.modules v next in
    member_moved G k (all ++ fresh ∷ []) state2 held2 (k.entries ++ es) is
    (length-append all (fresh ∷ []) ∙ ap (λ j. j + 1) (length-set k.modules v next ∙ is.versions) ∙ ap (λ j. j + 1) (sym (ap (λ (t : State). t.version) b.2))) few
    (All-push (λ y. (G.seat y).members ≡ k.members) all fresh s.0 (ap (λ t. t.members) enters.0))
    (All-push (λ y. (G.seat y).me ≡ k.me) all fresh s.1 (ap (λ t. t.me) enters.0))
    (ap (λ (t : State). t.me) b.2 ∙ is.mine)
    (All-same (λ (x : Item). origin_of x ≡ k.me) state2.undelivered (left k.repl.undelivered items) (ap (λ (t : State). t.undelivered) b.2) (all_left (λ (x : Item). origin_of x ≡ k.me) k.repl.undelivered items is.own))
    (All-same (ItemFits k.members) state2.undelivered (left k.repl.undelivered items) (ap (λ (t : State). t.undelivered) b.2) (all_left (ItemFits k.members) k.repl.undelivered items is.items_fit))
    held

-- a suspicion came or went
pub member_informed : {O : Type 0} (G : Ghosts O) (x : Input Order Body) (k : Kept O) (all : List O) (who : ℕ) (on : Bool) → IsMember G k → AllZip (IsNext G x) k.modules all → who ≢ k.me
    → IsMember G (informed k all (set k.suspected who on))
member_informed G x k all who on m zip other = record {
  some = m.some;
  few = m.few;
  me_fits = m.me_fits;
  first_served = m.first_served;
  first_fits = m.first_fits;
  versions = sym (length_all_zip (IsNext G x) k.modules all zip) ∙ m.versions;
  few_versions = m.few_versions;
  members_are = zip_all (IsNext G x) (λ y. (G.seat y).members ≡ k.members) k.modules all (λ a b r p. ap (λ t. t.members) r.0 ∙ p) zip m.members_are;
  me_is = zip_all (IsNext G x) (λ y. (G.seat y).me ≡ k.me) k.modules all (λ a b r p. ap (λ t. t.me) r.0 ∙ p) zip m.me_is;
  mine = m.mine;
  own = m.own;
  items_fit = m.items_fit;
  row = length-set k.suspected who on ∙ m.row;
  not_self = slice_get-set_other k.suspected who k.me on (λ e. other (sym e)) ∙ m.not_self;
  held_fit = m.held_fit;
}

-- it crashed
pub member_stopped : {O : Type 0} (G : Ghosts O) (k : Kept O) (crashed : Bool) → IsMember G k
    → IsMember G (record { members = k.members; me = k.me; first = k.first; modules = k.modules; repl = k.repl; held = k.held; entries = k.entries; suspected = k.suspected; crashed = crashed })
member_stopped G k crashed m = record {
  some = m.some;
  few = m.few;
  me_fits = m.me_fits;
  first_served = m.first_served;
  first_fits = m.first_fits;
  versions = m.versions;
  few_versions = m.few_versions;
  members_are = m.members_are;
  me_is = m.me_is;
  mine = m.mine;
  own = m.own;
  items_fit = m.items_fit;
  row = m.row;
  not_self = m.not_self;
  held_fit = m.held_fit;
}

-- with one held frame more
pub member_kept : {O : Type 0} (G : Ghosts O) (k : Kept O) (held2 : List (ℕ × Frame)) → IsMember G k → All (HeldFits k.members) held2 → IsMember G (moved k k.modules k.repl held2 k.entries)
member_kept G k held2 m fit = member_moved G k k.modules k.repl held2 k.entries m m.versions m.few_versions m.members_are m.me_is m.mine m.own m.items_fit fit
