-- How far the reading of a frame has come, where its bytes come piece by piece.
use Rattle.std.specs.Prelude.{◌≡◌, ℕ, zero, suc, ◌+◌, ◌*◌, ◌<◌, Bool, true, false, List, [], ◌∷◌, ◌++◌, length, drop, if◌then◌else◌, Option, Some, None, Result, Ok, Err, nat_lt}
use Rattle.std.specs.Int.{w16, w32, w64}
use Rattle.upd_base.specs.declared.frame.Frame.{Frame}
use Rattle.upd_frame.specs.declared.fault.FrameFault.{FrameFault}
use Rattle.upd_frame.specs.declared.fault.FrameFault.TheVariants.{Short, BadTag, BadNumber, BadText}
use Rattle.upd_frame.specs.declared.tag.Tag.{Tag}
use Rattle.upd_frame.specs.declared.tag.Tag.TheVariants as tags
use Rattle.upd_frame.specs.declared.progress.Stage.{Stage}
use Rattle.upd_frame.specs.declared.progress.Stage.TheVariants.{Start, Within}
use Rattle.upd_frame.specs.Reader.{Fails, Reader, done, go_on, ◌>>=◌, only, byte, number, text}
use Rattle.upd_frame.specs.Reading.{is_count, is_length, is_version, any, tag_of, flag_of, comes_after, member, kind, items, count, frame, front}

-- what is read, without its value
abbrev pub skip : {A : Type 0} → Reader A → Reader ℕ
skip r = r >>= λ x. done 0

-- ---- what stands before items

-- how many items a body of this tag has, behind its other fields
unfoldable pub head_of : Tag → Reader ℕ
head_of tags.Ask = done 1
head_of tags.Ord = do
  n ← count
  done 1
head_of tags.Req = do
  n ← count
  done 1
head_of tags.Ack = do
  n ← count
  done 0
head_of tags.Rb = done 1
head_of tags.Est = do
  k ← count
  r ← count
  s ← number w64 any
  byte (only is_count) BadNumber
head_of tags.Prop = do
  k ← count
  r ← count
  byte (only is_count) BadNumber
head_of tags.Reply = do
  k ← count
  r ← count
  y ← byte flag_of BadTag
  done 0
head_of tags.Next = do
  k ← count
  r ← count
  done 0
head_of tags.Decide = do
  k ← count
  byte (only is_count) BadNumber
head_of tags.Past = done 0

unfoldable pub head : Reader ℕ
head = do
  v ← number w16 is_version
  t ← byte tag_of BadTag
  head_of t

-- how many bytes of a payload an item has behind its other fields: a switch has none
unfoldable pub no_payload : Reader ℕ
no_payload = do
  k ← kind
  done 0

unfoldable pub item_head : Option (ℕ × ℕ) → Reader (ℕ × (ℕ × ℕ))
item_head before = do
  switches ← byte flag_of BadTag
  origin ← member
  n ← number w32 (comes_after before origin)
  size ← if switches then no_payload else number w16 is_length
  done (size, (origin, n))

-- ---- what is still to come

abbrev pub to_come : Stage → Reader ℕ
to_come Start = skip frame
to_come (Within size count before) = text size >>= λ bytes. skip (items count before)

-- these bytes of a frame leave that to come, whatever follows them
abbrev pub Leaves : List ℕ → Stage → Type 0
Leaves seen stage = (all : ℕ) (more : List ℕ) → skip frame all (seen ++ more) ≡ to_come stage all more

-- from one stage to the next, over the bytes between them
pub record Passes (old : Stage) (left : List ℕ) (new : Stage) (rest : List ℕ) : Type 0 where
  pub text : List ℕ
  pub parts : left ≡ text ++ rest
  pub onward : (all : ℕ) (more : List ℕ) → to_come old all (text ++ more) ≡ to_come new all more

-- a step goes on to a stage with less to come, tells that the frame is whole, or tells what is to come as a fault
abbrev pub weight : Stage → ℕ
weight Start = 100000
weight (Within size count before) = count * 300 + size

abbrev pub Steps : Stage → ℕ → List ℕ → List ℕ → Result (Option Stage) FrameFault → Type 0
Steps old all left rest (Ok (Some new)) = Passes old left new rest × (weight new < weight old)
Steps old all left rest (Ok None) = (rest ≡ left) × (to_come old all left ≡ Ok (0, left))
Steps old all left rest (Err fault) = Fails fault (to_come old all left)

-- a frame stands whole at the front of these bytes, and ends at this place
abbrev pub EndsAt : List ℕ → ℕ → Type 0
EndsAt bytes at = (f : Frame) × (front bytes ≡ Ok (f, drop at bytes))
