-- The reading of a scenario: a plan, or the first fault with its path and reason.
use Rattle.std.specs.Prelude.{ℕ, Bool, true, false, not, List, [], ◌∷◌, ◌+◌, ◌-◌, ◌&&◌, ◌||◌, ◌==◌, nat_lt, nat_le, if◌then◌else◌, length, take, slice_index, Option, Some, None, Result, Ok, codes, bytes_eq}
use Rattle.std.specs.Str.{is_utf8}
use Rattle.serde_json.specs.Data.{Data, Items, no_items, item}
use Rattle.serde_json.specs.Read.{read}
use Rattle.serde_json.specs.Find.{as_object}
use Rattle.upd_base.specs.Text.{payload}
use Rattle.upd_base.specs.Plan.{Planned, change_count}
use Rattle.upd_base.specs.declared.kind.Kind.{Kind}
use Rattle.upd_base.specs.declared.kind.Kind.TheVariants.{Sequencer, Lamport, Consensus}
use Rattle.upd_base.specs.declared.call.Call.{Call}
use Rattle.upd_base.specs.declared.call.Call.TheVariants.{Send, Change, Suspect, Trust, Crash}
use Rattle.upd_base.specs.declared.call.Step.{Step}
use Rattle.upd_base.specs.declared.limits.TheConstants.{MAX_MEMBERS, MAX_THREADS, MAX_CALLS, MAX_CHANGES}
use Rattle.scenario.specs.declared.root.TheConstants.{MAX_TEXT}
use Rattle.scenario.specs.declared.fault.ScenarioFault.{ScenarioFault}
use Rattle.scenario.specs.declared.fault.ScenarioFault.TheVariants.{TooLong, NotJson, At}
use Rattle.scenario.specs.declared.fault.Reason.TheVariants.{WrongType, OutOfRange, UnknownKey, BadText, BadKind, BadOp, TooMany}
use Rattle.scenario.specs.declared.before.Before.{Before}
use Rattle.scenario.specs.declared.op.Op.{Op}
use Rattle.scenario.specs.declared.op.Op.TheVariants as ops
use Rattle.scenario.specs.Gives.{◌>>=◌}
use Rattle.scenario.specs.Tree.{need, check, key_path, item_path, field, number, text, items, has_only}

-- the path of the root's keys is empty before the stroke
abbrev pub root : List ℕ
root = []

-- the kind of this spelling, in a group of n members
abbrev pub sequencer_of : ℕ → List ℕ → Option Kind
sequencer_of n name = if bytes_eq (take 10 name) (codes "sequencer ") && (length name == 11) && nat_le 48 (slice_index name 10) && nat_lt (slice_index name 10) (48 + n)
    then Some (Sequencer (slice_index name 10 - 48)) else None

abbrev pub kind_of : ℕ → List ℕ → Option Kind
kind_of n name = if bytes_eq name (codes "lamport") then Some Lamport else if bytes_eq name (codes "consensus") then Some Consensus else sequencer_of n name

unfoldable pub kind : ℕ → List ℕ → Data → Result Kind ScenarioFault
kind n path d = do
  name ← text path d
  need (kind_of n name) (At path BadKind)

-- a member below n
unfoldable pub member_below : ℕ → List ℕ → Data → Result ℕ ScenarioFault
member_below n path d = do
  m ← number path d
  _ ← check (nat_lt m n) (At path OutOfRange)
  Ok m

-- the op of this name
abbrev pub op_named : List ℕ → Option Op
op_named name = if bytes_eq name (codes "send") then Some ops.Send else if bytes_eq name (codes "change") then Some ops.Change
    else if bytes_eq name (codes "suspect") then Some ops.Suspect else if bytes_eq name (codes "trust") then Some ops.Trust
    else if bytes_eq name (codes "crash") then Some ops.Crash else None

abbrev pub is_change : Op → Bool
is_change ops.Change = true
is_change _ = false

-- the payload, the kind, and the member of an operand
unfoldable pub payload_of : List ℕ → Data → Result (List ℕ) ScenarioFault
payload_of path d = do
  v ← field path (codes "text") d
  bytes ← text (key_path path (codes "text")) v
  need (payload bytes) (At (key_path path (codes "text")) BadText)

unfoldable pub kind_in : ℕ → List ℕ → List ℕ → Data → Result Kind ScenarioFault
kind_in n path key d = do
  v ← field path key d
  kind n (key_path path key) v

unfoldable pub member_in : ℕ → List ℕ → List ℕ → Data → Result ℕ ScenarioFault
member_in n path key d = do
  v ← field path key d
  member_below n (key_path path key) v

unfoldable pub other_member : ℕ → ℕ → List ℕ → Data → Result ℕ ScenarioFault
other_member n at path d = do
  m ← member_in n path (codes "member") d
  _ ← check (not (m == at)) (At (key_path path (codes "member")) OutOfRange)
  Ok m

-- the call of an op, read from the step's object
unfoldable pub call_of : ℕ → ℕ → List ℕ → Data → Op → Result Call ScenarioFault
call_of n at path d ops.Send = do
  bytes ← payload_of path d
  Ok (Send bytes)
call_of n at path d ops.Change = do
  k ← kind_in n path (codes "kind") d
  Ok (Change k)
call_of n at path d ops.Suspect = do
  m ← other_member n at path d
  Ok (Suspect m)
call_of n at path d ops.Trust = do
  m ← other_member n at path d
  Ok (Trust m)
call_of n at path d ops.Crash = Ok Crash

-- the keys that a step of this op may have
abbrev pub keys_of : Op → List (List ℕ)
keys_of ops.Send = codes "at" ∷ codes "op" ∷ codes "text" ∷ []
keys_of ops.Change = codes "at" ∷ codes "op" ∷ codes "kind" ∷ []
keys_of ops.Suspect = codes "at" ∷ codes "op" ∷ codes "member" ∷ []
keys_of ops.Trust = codes "at" ∷ codes "op" ∷ codes "member" ∷ []
keys_of ops.Crash = codes "at" ∷ codes "op" ∷ []

unfoldable pub op_in : List ℕ → Data → Result Op ScenarioFault
op_in path d = do
  v ← field path (codes "op") d
  name ← text (key_path path (codes "op")) v
  need (op_named name) (At (key_path path (codes "op")) BadOp)

abbrev pub after : Before → Step → Before
after b s = record { steps = b.steps + 1; changes = b.changes + change_count s.call }

-- a step, and what stands before the next
unfoldable pub step : ℕ → Before → List ℕ → Data → Result (Step × Before) ScenarioFault
step n b path d = do
  _ ← check (nat_lt b.steps MAX_CALLS) (At path TooMany)
  ms ← need (as_object d) (At path WrongType)
  at ← member_in n path (codes "at") d
  op ← op_in path d
  _ ← check (not (is_change op) || nat_lt b.changes MAX_CHANGES) (At path TooMany)
  call ← call_of n at path d op
  _ ← check (has_only (keys_of op) ms) (At path UnknownKey)
  Ok (record { at = at; call = call }, after b (record { at = at; call = call }))

-- the items in order, from number i on, each read with what stands before it
unfoldable pub each : {A : Type 0} → (Before → List ℕ → Data → Result (A × Before) ScenarioFault) → Before → List ℕ → ℕ → Items → Result (List A × Before) ScenarioFault
each one b path i no_items = Ok ([], b)
each one b path i (item d ds) = do
  first ← one b (item_path path i) d
  rest ← each one first.1 path (i + 1) ds
  Ok (first.0 ∷ rest.0, rest.1)

unfoldable pub thread : ℕ → Before → List ℕ → Data → Result (List Step × Before) ScenarioFault
thread n b path d = do
  ds ← items path d
  each (step n) b path 0 ds

-- before the first step of a scenario
abbrev pub none_before : Before
none_before = record { steps = 0; changes = 0 }

abbrev pub item_count : Items → ℕ
item_count no_items = 0
item_count (item d ds) = item_count ds + 1

abbrev pub path_of : List ℕ → List ℕ
path_of key = key_path root key

unfoldable pub members_in : Data → Result ℕ ScenarioFault
members_in d = do
  v ← field root (codes "members") d
  m ← number (path_of (codes "members")) v
  _ ← check (nat_le 1 m && nat_le m MAX_MEMBERS) (At (path_of (codes "members")) OutOfRange)
  Ok m

unfoldable pub threads_in : ℕ → Data → Result (List (List Step)) ScenarioFault
threads_in n d = do
  v ← field root (codes "threads") d
  ds ← items (path_of (codes "threads")) v
  _ ← check (nat_le 1 (item_count ds) && nat_le (item_count ds) MAX_THREADS) (At (path_of (codes "threads")) OutOfRange)
  found ← each (thread n) none_before (path_of (codes "threads")) 0 ds
  Ok found.0

abbrev pub root_keys : List (List ℕ)
root_keys = codes "members" ∷ codes "first" ∷ codes "threads" ∷ []

unfoldable pub plan_of : Data → Result Planned ScenarioFault
plan_of d = do
  ms ← need (as_object d) (At (codes "/") WrongType)
  n ← members_in d
  first ← kind_in n root (codes "first") d
  ts ← threads_in n d
  _ ← check (has_only root_keys ms) (At (codes "/") UnknownKey)
  Ok (record { members = n; first = first; threads = ts })

-- the tree of the bytes
unfoldable pub tree : List ℕ → Result Data ScenarioFault
tree bytes = need (if is_utf8 bytes then read bytes else None) NotJson

unfoldable pub reading : List ℕ → Result Planned ScenarioFault
reading bytes = do
  _ ← check (nat_le (length bytes) MAX_TEXT) TooLong
  d ← tree bytes
  plan_of d
