-- The reading of a frame: the frame, or the first fault in the order of the bytes.
use Rattle.std.specs.Prelude.{ℕ, zero, suc, Bool, true, false, ◌&&◌, ◌||◌, ◌==◌, nat_lt, nat_le, if◌then◌else◌, List, [], ◌∷◌, length, Option, Some, None, Result, Ok, Err}
use Rattle.std.specs.Int.{w16, w32, w64}
use Rattle.upd_base.specs.Item.{id_of}
use Rattle.upd_base.specs.declared.kind.Kind.{Kind}
use Rattle.upd_base.specs.declared.kind.Kind.TheVariants.{Sequencer, Lamport, Consensus}
use Rattle.upd_base.specs.declared.item.Item.{Item}
use Rattle.upd_base.specs.declared.item.Item.TheVariants.{Msg, Switch}
use Rattle.upd_base.specs.declared.body.Body.{Body}
use Rattle.upd_base.specs.declared.body.Body.TheVariants.{Ask, Ord, Req, Ack, Rb, Est, Prop, Reply, Next, Decide, Past}
use Rattle.upd_base.specs.declared.frame.Frame.{Frame}
use Rattle.upd_base.specs.declared.limits.TheConstants.{MAX_MEMBERS, MAX_VERSION, MAX_PAYLOAD, MAX_BATCH}
use Rattle.upd_frame.specs.declared.fault.FrameFault.{FrameFault}
use Rattle.upd_frame.specs.declared.fault.FrameFault.TheVariants.{BadTag, BadNumber, LongTail}
use Rattle.upd_frame.specs.declared.tag.Tag.{Tag}
use Rattle.upd_frame.specs.declared.tag.Tag.TheVariants as tags
use Rattle.upd_frame.specs.Reader.{Reader, place, done, go_on, ◌>>=◌, only, byte, number, text}

-- ---- what bytes mean

abbrev pub is_member : ℕ → Bool
is_member b = nat_lt b MAX_MEMBERS

abbrev pub is_length : ℕ → Bool
is_length n = nat_le 1 n && nat_le n MAX_PAYLOAD

abbrev pub is_count : ℕ → Bool
is_count b = nat_le 1 b && nat_le b MAX_BATCH

abbrev pub is_version : ℕ → Bool
is_version n = nat_le n MAX_VERSION

abbrev pub from_one : ℕ → Bool
from_one n = nat_le 1 n

abbrev pub any : ℕ → Bool
any n = true

abbrev pub tag_of : ℕ → Option Tag
tag_of b = if b == 1 then Some tags.Ask else if b == 2 then Some tags.Ord else if b == 3 then Some tags.Req else if b == 4 then Some tags.Ack
    else if b == 5 then Some tags.Rb else if b == 6 then Some tags.Est else if b == 7 then Some tags.Prop else if b == 8 then Some tags.Reply
    else if b == 9 then Some tags.Next else if b == 10 then Some tags.Decide else if b == 11 then Some tags.Past else None

-- no and yes
abbrev pub flag_of : ℕ → Option Bool
flag_of b = if b == 0 then Some false else if b == 1 then Some true else None

-- an item of this origin and number stands behind the one before it, where there is one
abbrev pub comes_after : Option (ℕ × ℕ) → ℕ → ℕ → Bool
comes_after None origin n = true
comes_after (Some id) origin n = nat_lt id.0 origin || ((id.0 == origin) && nat_lt id.1 n)

-- ---- fields

unfoldable pub member : Reader ℕ
member = byte (only is_member) BadNumber

unfoldable pub kind_of : ℕ → Reader Kind
kind_of zero = do
  m ← member
  done (Sequencer m)
kind_of (suc zero) = done Lamport
kind_of (suc (suc form)) = done Consensus

unfoldable pub kind : Reader Kind
kind = do
  form ← byte (only (λ b. nat_lt b 3)) BadTag
  kind_of form

unfoldable pub message : ℕ → ℕ → Reader Item
message origin n = do
  len ← number w16 is_length
  payload ← text len
  done (Msg origin n payload)

unfoldable pub switch : ℕ → ℕ → Reader Item
switch origin n = do
  k ← kind
  done (Switch origin n k)

-- an item behind the one before it
unfoldable pub item : Option (ℕ × ℕ) → Reader Item
item before = do
  switches ← byte flag_of BadTag
  origin ← member
  n ← number w32 (comes_after before origin)
  if switches then switch origin n else message origin n

-- so many items, each behind the one before it
unfoldable pub items : ℕ → Option (ℕ × ℕ) → Reader (List Item)
items zero before = done []
items (suc count) before = do
  first ← item before
  others ← items count (Some (id_of first))
  done (first ∷ others)

unfoldable pub batch : Reader (List Item)
batch = do
  count ← byte (only is_count) BadNumber
  items count None

unfoldable pub count : Reader ℕ
count = number w64 from_one

unfoldable pub body : Tag → Reader Body
body tags.Ask = do
  i ← item None
  done (Ask i)
body tags.Ord = do
  n ← count
  i ← item None
  done (Ord n i)
body tags.Req = do
  stamp ← count
  i ← item None
  done (Req stamp i)
body tags.Ack = do
  stamp ← count
  done (Ack stamp)
body tags.Rb = do
  i ← item None
  done (Rb i)
body tags.Est = do
  instance ← count
  round ← count
  stamp ← number w64 any
  items ← batch
  done (Est instance round stamp items)
body tags.Prop = do
  instance ← count
  round ← count
  items ← batch
  done (Prop instance round items)
body tags.Reply = do
  instance ← count
  round ← count
  accepts ← byte flag_of BadTag
  done (Reply instance round accepts)
body tags.Next = do
  instance ← count
  round ← count
  done (Next instance round)
body tags.Decide = do
  instance ← count
  items ← batch
  done (Decide instance items)
body tags.Past = done Past

unfoldable pub frame : Reader Frame
frame = do
  version ← number w16 is_version
  tag ← byte tag_of BadTag
  b ← body tag
  done (record { version = version; body = b })

-- ---- bytes

-- a frame that begins the bytes, and those behind it
abbrev pub front : List ℕ → Result (Frame × List ℕ) FrameFault
front bytes = frame (length bytes) bytes

abbrev pub ended : ℕ → Result (Frame × List ℕ) FrameFault → Result Frame FrameFault
ended all (Ok x) = if length x.1 == 0 then Ok x.0 else Err (LongTail (place all x.1))
ended all (Err fault) = Err fault

-- all of the bytes
unfoldable pub reading : List ℕ → Result Frame FrameFault
reading bytes = ended (length bytes) (front bytes)
