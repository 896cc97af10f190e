-- The one spelling of each frame: its fields one after another, numbers with the highest byte first.
use Rattle.std.specs.Prelude.{ℕ, Bool, true, false, ◌≡◌, ◌<◌, ◌≤◌, ◌^◌, List, [], ◌∷◌, ◌++◌, length}
use Rattle.std.specs.List.{flat_map, AllByRecursion}
use Rattle.std.specs.Int.{Width, w8, w16, w32, w64, to_be_bytes}
use Rattle.upd_base.specs.Text.{is_payload}
use Rattle.upd_base.specs.Kind.{kind_fits}
use Rattle.upd_base.specs.Batch.{is_batch}
use Rattle.upd_base.specs.declared.kind.Kind.{Kind}
use Rattle.upd_base.specs.declared.kind.Kind.TheVariants.{Sequencer, Lamport, Consensus}
use Rattle.upd_base.specs.declared.item.Item.{Item}
use Rattle.upd_base.specs.declared.item.Item.TheVariants.{Msg, Switch}
use Rattle.upd_base.specs.declared.body.Body.{Body}
use Rattle.upd_base.specs.declared.body.Body.TheVariants.{Ask, Ord, Req, Ack, Rb, Est, Prop, Reply, Next, Decide, Past}
use Rattle.upd_base.specs.declared.frame.Frame.{Frame}
use Rattle.upd_base.specs.declared.limits.TheConstants.{MAX_MEMBERS, MAX_VERSION}

-- a number in so many bytes, the highest first
unfoldable pub digits : Width → ℕ → List ℕ
digits w n = to_be_bytes w n

unfoldable pub kind_bytes : Kind → List ℕ
kind_bytes (Sequencer m) = 0 ∷ m ∷ []
kind_bytes Lamport = 1 ∷ []
kind_bytes Consensus = 2 ∷ []

-- the form of an item, its origin and its number; a message goes on with its length and its bytes
unfoldable pub item_bytes : Item → List ℕ
item_bytes (Msg origin number payload) = (0 ∷ origin ∷ []) ++ digits w32 number ++ digits w16 (length payload) ++ payload
item_bytes (Switch origin number kind) = (1 ∷ origin ∷ []) ++ digits w32 number ++ kind_bytes kind

-- how many items, and the items
unfoldable pub batch_bytes : List Item → List ℕ
batch_bytes items = digits w8 (length items) ++ flat_map item_bytes items

unfoldable pub flag_byte : Bool → ℕ
flag_byte false = 0
flag_byte true = 1

-- the tag of a body, and its fields
unfoldable pub body_bytes : Body → List ℕ
body_bytes (Ask item) = (1 ∷ []) ++ item_bytes item
body_bytes (Ord place item) = (2 ∷ []) ++ digits w64 place ++ item_bytes item
body_bytes (Req stamp item) = (3 ∷ []) ++ digits w64 stamp ++ item_bytes item
body_bytes (Ack stamp) = (4 ∷ []) ++ digits w64 stamp
body_bytes (Rb item) = (5 ∷ []) ++ item_bytes item
body_bytes (Est instance round stamp batch) = (6 ∷ []) ++ digits w64 instance ++ digits w64 round ++ digits w64 stamp ++ batch_bytes batch
body_bytes (Prop instance round batch) = (7 ∷ []) ++ digits w64 instance ++ digits w64 round ++ batch_bytes batch
body_bytes (Reply instance round accepts) = (8 ∷ []) ++ digits w64 instance ++ digits w64 round ++ (flag_byte accepts ∷ [])
body_bytes (Next instance round) = (9 ∷ []) ++ digits w64 instance ++ digits w64 round
body_bytes (Decide instance batch) = (10 ∷ []) ++ digits w64 instance ++ batch_bytes batch
body_bytes Past = 11 ∷ []

-- the version, and the body
unfoldable pub spelling : Frame → List ℕ
spelling f = digits w16 f.version ++ body_bytes f.body

-- ---- what has a spelling: frames within their limits

-- a place, instance, round or stamp that counts from 1
abbrev pub IsCount : ℕ → Type 0
IsCount n = (1 ≤ n) × (n < 2 ^ 64)

abbrev pub IsItem : Item → Type 0
IsItem (Msg origin number payload) = (origin < MAX_MEMBERS) × (number < 2 ^ 32) × (is_payload payload ≡ true)
IsItem (Switch origin number kind) = (origin < MAX_MEMBERS) × (number < 2 ^ 32) × (kind_fits MAX_MEMBERS kind ≡ true)

abbrev pub IsBatch : List Item → Type 0
IsBatch items = (is_batch items ≡ true) × AllByRecursion IsItem items

abbrev pub IsBody : Body → Type 0
IsBody (Ask item) = IsItem item
IsBody (Ord place item) = IsCount place × IsItem item
IsBody (Req stamp item) = IsCount stamp × IsItem item
IsBody (Ack stamp) = IsCount stamp
IsBody (Rb item) = IsItem item
IsBody (Est instance round stamp batch) = IsCount instance × IsCount round × (stamp < 2 ^ 64) × IsBatch batch
IsBody (Prop instance round batch) = IsCount instance × IsCount round × IsBatch batch
IsBody (Reply instance round accepts) = IsCount instance × IsCount round
IsBody (Next instance round) = IsCount instance × IsCount round
IsBody (Decide instance batch) = IsCount instance × IsBatch batch
IsBody Past = Unit {0}

pub record IsFrame (f : Frame) : Type 0 where
  pub version : f.version ≤ MAX_VERSION
  pub body : IsBody f.body

-- the bytes are the spelling of this frame
pub record Spells (bytes : List ℕ) (f : Frame) : Type 0 where
  pub within : IsFrame f
  pub whole : bytes ≡ spelling f
