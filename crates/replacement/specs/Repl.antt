-- Replacing the protocol, as one member sees it: its undelivered messages, and what it does with the items that the
-- module of its present version delivers.
use Rattle.std.specs.Prelude.{ℕ, ◌+◌, not, nat_lt, if◌then◌else◌, Option, Some, None, List, [], ◌∷◌, ◌++◌, map}
use Rattle.std.specs.List.{filter}
use Rattle.upd_base.specs.Item.{has_id, id_of}
use Rattle.upd_base.specs.declared.kind.Kind.{Kind}
use Rattle.upd_base.specs.declared.item.Item.{Item}
use Rattle.upd_base.specs.declared.item.Item.TheVariants.{Msg, Switch}
use Rattle.upd_base.specs.declared.limits.TheConstants.{MAX_VERSION}
use Rattle.group_run.specs.Version.{next_kind}
use Rattle.replacement.specs.declared.act.Act.{Act}
use Rattle.replacement.specs.declared.act.Act.TheVariants.{Deliver, Bind, Reissue}

-- What is seen of a replacement: whose it is, the version and its kind, how many items were made, and the undelivered
-- messages, by ascending number.
pub record State : Type 0 where
  pub me : ℕ
  pub version : ℕ
  pub kind : Kind
  pub made : ℕ
  pub undelivered : List Item

-- the state after a message was issued: it has the next number and is undelivered
abbrev pub issued : State → List ℕ → State
issued s text = record {
  me = s.me;
  version = s.version;
  kind = s.kind;
  made = s.made + 1;
  undelivered = s.undelivered ++ Msg s.me s.made text ∷ [];
}

-- the state after a switch was asked for: it has the next number
abbrev pub asked : State → State
asked s = record { me = s.me; version = s.version; kind = s.kind; made = s.made + 1; undelivered = s.undelivered }

-- What counts of the items that a version delivered: those up to and with the first switch, which ends the version.
-- The highest version ends never, and a switch in it is as if it were not there.
abbrev pub counted : ℕ → List Item → List Item
counted version [] = []
counted version (Msg origin number payload ∷ items) = Msg origin number payload ∷ counted version items
counted version (Switch origin number kind ∷ items) =
    if nat_lt version MAX_VERSION then Switch origin number kind ∷ [] else counted version items

-- the messages of another origin or number than this item
abbrev pub other_than : Item → List Item → List Item
other_than item messages = filter (λ message. not (has_id (id_of message) item)) messages

-- the messages that are still undelivered once these items are delivered
abbrev pub left : List Item → List Item → List Item
left undelivered [] = undelivered
left undelivered (item ∷ items) = left (other_than item undelivered) items

-- Behind a switch the next kind is bound, and then what is undelivered is issued again, by ascending number.
abbrev pub renewal : List Item → Option Kind → List Act
renewal undelivered None = []
renewal undelivered (Some kind) = Bind kind ∷ map (λ item. Reissue item) undelivered

-- the acts on items that count: each is delivered, in order, and what a switch asks for comes behind
abbrev pub acts_on : List Item → List Item → List Act
acts_on undelivered items = map (λ item. Deliver item) items ++ renewal (left undelivered items) (next_kind items)

-- the state after them: a switch ends the version, and the next has its kind
abbrev pub renewed : State → List Item → Option Kind → State
renewed s undelivered None = record { me = s.me; version = s.version; kind = s.kind; made = s.made; undelivered = undelivered }
renewed s undelivered (Some kind) = record { me = s.me; version = s.version + 1; kind = kind; made = s.made; undelivered = undelivered }

abbrev pub state_after : State → List Item → State
state_after s items = renewed s (left s.undelivered items) (next_kind items)
