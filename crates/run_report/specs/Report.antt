-- The report of a run: the definition's reading of its plan and its events.
use Rattle.std.specs.Prelude.{ℕ, Bool, true, false, ◌==◌, ◌&&◌, not, if◌then◌else◌, List, [], ◌++◌, length, codes, count_by, decimal, flat_map, filter, reverse, sum_by}
use Rattle.std.specs.List.{list_any}
use Rattle.upd_base.specs.Item.{is_message, number_of, origin_of}
use Rattle.upd_base.specs.Plan.{Planned, planned, steps_in}
use Rattle.upd_base.specs.Kind.{kind_text}
use Rattle.upd_base.specs.declared.item.Item.{Item}
use Rattle.upd_base.specs.declared.item.Item.TheVariants.{Msg, Switch}
use Rattle.upd_base.specs.declared.entry.Entry.{Entry}
use Rattle.upd_base.specs.declared.event.Event.{Event}
use Rattle.upd_base.specs.declared.event.Event.TheVariants.{Call, Receive, Release}
use Rattle.upd_base.specs.declared.answer.Answer.{Answer}
use Rattle.upd_base.specs.declared.answer.Answer.TheVariants.{Accepted, Done, Full, Crashed, VersionLimit, BadKind, BadMember}
use Rattle.group_run.specs.Group.{Rules}
use Rattle.group_run.specs.Part.{below, is_logged}
use Rattle.group_run.specs.Run.{Events, crashed_in, kind_in, log_in, version_in}
use Rattle.group_run.specs.Ordered.{accepted_at, accepted_in}
use Rattle.run_journal.specs.Asked.{asked_in}
use Rattle.group_laws.specs.Canon.{one_list}

abbrev pub id_text : ℕ → ℕ → List ℕ
id_text origin number = decimal origin ++ codes "." ++ decimal number

unfoldable pub item_text : Item → List ℕ
item_text (Msg origin number payload) = codes "msg " ++ id_text origin number ++ codes " " ++ payload
item_text (Switch origin number kind) = codes "switch " ++ id_text origin number ++ codes " " ++ kind_text kind

-- an entry of a log: its version and its item
unfoldable pub entry_line : Entry → List ℕ
entry_line e = codes "  " ++ decimal e.version ++ codes " " ++ item_text e.item ++ codes "\n"

unfoldable pub state_text : Bool → List ℕ
state_text crashed = if crashed then codes "crashed" else codes "up"

unfoldable pub member_line : ℕ → ℕ → List ℕ → List ℕ → ℕ → List ℕ
member_line i version kind state delivered = codes "member " ++ decimal i ++ codes ": version " ++ decimal version ++ codes ", " ++ kind ++ codes ", "
    ++ state ++ codes ", " ++ decimal delivered ++ codes " delivered\n"

-- the long report has the lines of entries, the short one has not
unfoldable pub member_text : Rules → Planned → Events → Bool → ℕ → List ℕ
member_text rules plan past short i =
    member_line i (version_in rules plan past i) (kind_text (kind_in rules plan past i)) (state_text (crashed_in rules plan past i)) (length (log_in rules plan past i))
    ++ (if short then [] else flat_map entry_line (log_in rules plan past i))

abbrev pub members_text : Rules → Planned → Events → Bool → List ℕ
members_text rules plan past short = flat_map (member_text rules plan past short) (below plan.members)

-- Absent items --------------------------------------------------------------------------------------------------

-- the item that an event made
abbrev pub accepted_of : Planned → Event → List Item
accepted_of plan (Call thread index member given) = accepted_at member (planned plan thread index) given
accepted_of plan (Receive from to) = []
accepted_of plan (Release at) = []

-- the accepted items by (origin, number): each origin's in the order in which they were accepted
abbrev pub of_origin : List Item → ℕ → List Item
of_origin items m = filter (λ item. origin_of item == m) items

abbrev pub by_origin : ℕ → List Item → List Item
by_origin n items = flat_map (of_origin items) (below n)

-- those that the longest log lacks
abbrev pub absent_from : List Entry → List Item → List Item
absent_from es items = filter (λ item. not (is_logged item es)) items

abbrev pub absent_items : Rules → Planned → Events → List Item
absent_items rules plan past = absent_from (one_list rules plan past) (by_origin plan.members (reverse (accepted_in plan past)))

-- a log holds a switch of this version
abbrev pub has_switch_of : ℕ → List Entry → Bool
has_switch_of version es = list_any (λ e. (e.version == version) && not (is_message e.item)) es

-- a change was overtaken where the longest log holds a switch of the version in which it was accepted
abbrev pub is_overtaken : Rules → Planned → Events → Item → Bool
is_overtaken rules plan past item = not (is_message item) && has_switch_of (asked_in rules plan past (origin_of item) (number_of item)) (one_list rules plan past)

unfoldable pub absence_text : Bool → List ℕ
absence_text overtaken = if overtaken then codes "overtaken " else codes "undelivered "

unfoldable pub absent_line : Rules → Planned → Events → Item → List ℕ
absent_line rules plan past item = absence_text (is_overtaken rules plan past item) ++ item_text item ++ codes "\n"

-- Counts --------------------------------------------------------------------------------------------------------

abbrev pub is_call : Event → Bool
is_call (Call thread index member given) = true
is_call (Receive from to) = false
is_call (Release at) = false

abbrev pub is_accepted : Answer → Bool
is_accepted (Accepted number) = true
is_accepted Done = false
is_accepted Full = false
is_accepted Crashed = false
is_accepted VersionLimit = false
is_accepted BadKind = false
is_accepted BadMember = false

abbrev pub is_done : Answer → Bool
is_done (Accepted number) = false
is_done Done = true
is_done Full = false
is_done Crashed = false
is_done VersionLimit = false
is_done BadKind = false
is_done BadMember = false

abbrev pub is_full : Answer → Bool
is_full (Accepted number) = false
is_full Done = false
is_full Full = true
is_full Crashed = false
is_full VersionLimit = false
is_full BadKind = false
is_full BadMember = false

abbrev pub is_crashed : Answer → Bool
is_crashed (Accepted number) = false
is_crashed Done = false
is_crashed Full = false
is_crashed Crashed = true
is_crashed VersionLimit = false
is_crashed BadKind = false
is_crashed BadMember = false

-- a call that was answered so
abbrev pub is_answered : (Answer → Bool) → Event → Bool
is_answered test (Call thread index member given) = test given
is_answered test (Receive from to) = false
is_answered test (Release at) = false

-- The report ----------------------------------------------------------------------------------------------------

unfoldable pub run_line : ℕ → ℕ → ℕ → ℕ → List ℕ
run_line members events made planned = codes "run: " ++ decimal members ++ codes " members, " ++ decimal events ++ codes " events, " ++ decimal made ++ codes " of " ++ decimal planned ++ codes " calls\n"

unfoldable pub answers_line : ℕ → ℕ → ℕ → ℕ → List ℕ
answers_line accepted done full crashed = codes "answers: " ++ decimal accepted ++ codes " accepted, " ++ decimal done ++ codes " done, " ++ decimal full ++ codes " full, " ++ decimal crashed ++ codes " crashed\n"

-- the two lines of counts
abbrev pub counts_of : ℕ → ℕ → Events → List ℕ
counts_of members planned past =
    run_line members (length past) (count_by is_call past) planned
    ++ answers_line (count_by (is_answered is_accepted) past) (count_by (is_answered is_done) past) (count_by (is_answered is_full) past) (count_by (is_answered is_crashed) past)

abbrev pub counts_text : Planned → Events → List ℕ
counts_text plan past = counts_of plan.members (sum_by steps_in plan.threads) past

-- the report, without the end line
unfoldable pub report : Rules → Planned → Events → Bool → List ℕ
report rules plan past short =
    counts_text plan past ++ members_text rules plan past short ++ (if short then [] else flat_map (absent_line rules plan past) (absent_items rules plan past))
