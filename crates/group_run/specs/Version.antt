-- The versions of one member. It has a module for each version from 0 to its own, and its modules are told apart by
-- what they were given: a list of modules is the list of their inputs, that of the newest version first. What each
-- version counted for, its kind and the member's log are read off this list.
use Rattle.std.specs.Prelude.{ℕ, Bool, false, ◌==◌, ◌&&◌, if◌then◌else◌, nat_lt, Option, Some, None, is_some, unwrap_or, List, [], ◌∷◌, ◌++◌, length, map}
use Rattle.fifo_net.specs.Net.{Input}
use Rattle.order_trait.specs.Runs.{Order, Inputs}
use Rattle.upd_base.specs.declared.kind.Kind.{Kind}
use Rattle.upd_base.specs.declared.item.Item.{Item}
use Rattle.upd_base.specs.declared.item.Item.TheVariants.{Msg, Switch}
use Rattle.upd_base.specs.declared.body.Body.{Body}
use Rattle.upd_base.specs.declared.entry.Entry.{Entry}
use Rattle.upd_base.specs.declared.limits.TheConstants.{MAX_VERSION}
use Rattle.group_run.specs.Group.{Group}

-- A switch to this kind ends this version: there is a version above it, and the kind is served.
abbrev pub ends : Group → ℕ → Kind → Bool
ends g version kind = nat_lt version MAX_VERSION && g.rules.serves kind

-- What counts of the items that the module of a version delivered: those up to and with the first switch that ends the
-- version. What comes behind it is dropped, and so is a switch that ends nothing.
abbrev pub segment : Group → ℕ → List Item → List Item
segment g version [] = []
segment g version (Msg origin number payload ∷ items) = Msg origin number payload ∷ segment g version items
segment g version (Switch origin number kind ∷ items) =
    if ends g version kind then Switch origin number kind ∷ [] else segment g version items

-- what stands up to and with the first switch, or all where there is none
abbrev pub up_to_switch : List Item → List Item
up_to_switch [] = []
up_to_switch (Msg origin number payload ∷ items) = Msg origin number payload ∷ up_to_switch items
up_to_switch (Switch origin number kind ∷ items) = Switch origin number kind ∷ []

-- the kind of the switch that ends a segment, where one does
abbrev pub next_kind : List Item → Option Kind
next_kind [] = None
next_kind (Msg origin number payload ∷ items) = next_kind items
next_kind (Switch origin number kind ∷ items) = Some kind

-- The kind of the version above these modules: the group's first kind for version 0, and then the kind of the switch
-- that ended the version below.
abbrev pub kind_above : Group → ℕ → List Inputs → Kind
kind_above g me [] = g.first
kind_above g me (inputs ∷ older) =
    unwrap_or (next_kind (segment g (length older) (g.rules.delivers (kind_above g me older) g.members me inputs))) (kind_above g me older)

-- the segment of the version above these modules, whose module had these inputs
abbrev pub segment_above : Group → ℕ → List Inputs → Inputs → List Item
segment_above g me older inputs = segment g (length older) (g.rules.delivers (kind_above g me older) g.members me inputs)

-- items as entries of a version
abbrev pub entries : ℕ → List Item → List Entry
entries version items = map (λ item. record { version = version; item = item }) items

-- The log: the segments of all versions joined, each entry with its version.
abbrev pub log_of : Group → ℕ → List Inputs → List Entry
log_of g me [] = []
log_of g me (inputs ∷ older) = log_of g me older ++ entries (length older) (segment_above g me older inputs)

-- whether the newest version has ended
abbrev pub has_ended : Group → ℕ → List Inputs → Bool
has_ended g me [] = false
has_ended g me (inputs ∷ older) = is_some (next_kind (segment_above g me older inputs))

-- the newest version, and its kind
abbrev pub newest : List Inputs → ℕ
newest [] = 0
newest (inputs ∷ older) = length older

abbrev pub newest_kind : Group → ℕ → List Inputs → Kind
newest_kind g me [] = g.first
newest_kind g me (inputs ∷ older) = kind_above g me older

-- the kind of a version, and the inputs that its module had
abbrev pub kind_at : Group → ℕ → ℕ → List Inputs → Kind
kind_at g me version [] = g.first
kind_at g me version (inputs ∷ older) = if version == length older then kind_above g me older else kind_at g me version older

abbrev pub inputs_at : ℕ → List Inputs → Inputs
inputs_at version [] = []
inputs_at version (inputs ∷ older) = if version == length older then inputs else inputs_at version older

-- the module of a version gets one input more
abbrev pub given : ℕ → Input Order Body → List Inputs → List Inputs
given version x [] = []
given version x (inputs ∷ older) = if version == length older then (x ∷ inputs) ∷ older else inputs ∷ given version x older
