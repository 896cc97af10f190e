-- A frame that is processed, by the words of the code.
use Rattle.std.proofs.Common.{ℕ, ◌≡◌, ◌+◌, ◌∙◌, Bool, if◌then◌else◌, Option, List, [], ◌∷◌, ◌++◌, All, Some, refl, ap, subst, set}
use Rattle.std.specs.Prelude.{slice_get, option_to_list}
use Rattle.fifo_net.specs.Net.{Took}
use Rattle.order_trait.specs.Outbox.{Grows}
use Rattle.order_trait.specs.Runs.{Inputs, at_seat}
use Rattle.order_trait.specs.declared.ordering.Ordering.{Ghosts}
use Rattle.upd_base.specs.Item.{ItemFits}
use Rattle.upd_base.specs.declared.kind.Kind.{Kind}
use Rattle.upd_base.specs.declared.item.Item.{Item}
use Rattle.upd_base.specs.declared.entry.Entry.{Entry}
use Rattle.upd_base.specs.declared.frame.Frame.{Frame}
use Rattle.replacement.specs.Repl.{State}
use Rattle.group_run.specs.Version.{inputs_at}
use Rattle.group_run.specs.Part.{Part}
use Rattle.group_run.specs.Held.{without_ready}
use Rattle.group_run.specs.Turn.{processed, framed}
use Rattle.group_run.specs.Growing.{TakesMore}
use Rattle.member_rules.specs.Kept.{Kept, IsMember, group_of}
use Rattle.member_rules.specs.Stands.{Holds}
use Rattle.member_rules.specs.Steps.{Came, Calm, IsNext, moved, releasing, fresh_orders, Enters, entering}
use Rattle.member_rules.proofs.Basics.{version_is}
use Rattle.member_rules.proofs.Came.{holds_processed, frames_processed, got_more}
use Rattle.member_rules.proofs.Frames.{holds_releasing}
use Rattle.member_rules.proofs.Inputs.{all_grown}
use Rattle.member_rules.proofs.Modules.{all_at}
use Rattle.member_core.specs.Foretold.{Keeps}

-- What the module delivered: what the definition says, where it delivers more.
abbrev pub Delivers : {O : Type 0} (G : Ghosts O) → ℕ → Frame → O → List Item → List Item → Type 0
Delivers G from frame m old new = (past : Inputs) → G.stands m past → (more : List Item)
    → at_seat G.delivers (G.seat m) (Took from frame.body ∷ past) ≡ at_seat G.delivers (G.seat m) past ++ more → new ≡ old ++ more

-- the seat of a module of a member
pub seat_at : {O : Type 0} (G : Ghosts O) (k : Kept O) (v : ℕ) (m : O) → IsMember G k → slice_get k.modules v ≡ Some m → ((G.seat m).members ≡ k.members) × ((G.seat m).me ≡ k.me)
seat_at G k v m is at = (all_at (λ y. (G.seat y).members ≡ k.members) k.modules v m is.members_are at, all_at (λ y. (G.seat y).me ≡ k.me) k.modules v m is.me_is at)

pub items_fit : {O : Type 0} (G : Ghosts O) (k : Kept O) (v : ℕ) (m : O) (old new : List Item) → IsMember G k → slice_get k.modules v ≡ Some m → old ≡ [] → Grows (ItemFits (G.seat m).members) old new → All (ItemFits k.members) new
items_fit G k v m old new is at none grows = all_grown (ItemFits k.members) old new none (subst (λ n. Grows (ItemFits n) old new) (seat_at G k v m is at).0 grows)

delivered_is : {O : Type 0} (G : Ghosts O) (k : Kept O) (from : ℕ) (frame : Frame) (m : O) (old new : List Item) (part : Part) → IsMember G k → Keeps G k part → slice_get k.modules frame.version ≡ Some m → old ≡ []
    → Delivers G from frame m old new → (more : TakesMore (group_of G k) k.me part from frame) → new ≡ more.0
delivered_is G k from frame m old new part is h at none delivers more =
    let s = seat_at G k frame.version m is at in
    delivers (inputs_at frame.version part.modules) (h.modules_are.stand frame.version m at) more.0
    (got_more G (group_of G k) k.me frame.version (Took from frame.body) k.modules part.modules m h.modules_are at s.0 s.1 refl more)
    ∙ ap (λ xs. xs ++ more.0) none

-- the member that keeps what is left of the held frames
abbrev pub rest_of : {O : Type 0} → Bool → Kept O → List (ℕ × Frame)
rest_of releases k = if releases then without_ready k.repl.version k.held else k.held

abbrev pub resting : {O : Type 0} → Bool → Kept O → Kept O
resting releases k = moved k k.modules k.repl (rest_of releases k) k.entries

pub process_holds : {O : Type 0} (G : Ghosts O) (k : Kept O) (from : ℕ) (frame : Frame) (releases : Bool) (m next : O) (state2 : State) (es : List Entry) (bound : Option Kind) (again : List Item) (fresh : Option O) (old new : List Item) (part : Part) →
    IsMember G k → Calm (group_of G k) k.me → Keeps G k part → TakesMore (group_of G k) k.me part from frame
    → slice_get k.modules frame.version ≡ Some m → IsNext G (Took from frame.body) m next
    → old ≡ [] → Delivers G from frame m old new → Grows (ItemFits (G.seat m).members) old new
    → Came G.is_served k.repl state2 frame.version new es bound again
    → Enters G k.members k.me (fresh_orders k.suspected again) bound fresh
    → Holds G (group_of G k) k.me (moved k (set k.modules frame.version next ++ option_to_list fresh) state2 (rest_of releases k) (k.entries ++ es)) (processed (group_of G k) k.me (releasing releases part) from frame).part
process_holds G k from frame releases m next state2 es bound again fresh old new part is calm h more at step none delivers fit came enters =
    holds_processed G (group_of G k) k.me from frame (resting releases k) m next state2 es bound again fresh new (releasing releases part)
    (holds_releasing G (group_of G k) k.me releases k part is h) (version_is G k (group_of G k) k.me part is h) calm is.row more at step
    (delivered_is G k from frame m old new part is h at none delivers more) (items_fit G k frame.version m old new is at none fit) came enters

pub process_frames : {O : Type 0} (G : Ghosts O) (k : Kept O) (from : ℕ) (frame : Frame) (releases : Bool) (m next : O) (state2 : State) (es : List Entry) (bound : Option Kind) (again : List Item) (fresh : Option O) (old new : List Item)
    (sent0 sent1 sent2 : List (ℕ × Frame)) (part : Part) →
    IsMember G k → Keeps G k part → TakesMore (group_of G k) k.me part from frame
    → slice_get k.modules frame.version ≡ Some m → IsNext G (Took from frame.body) m next
    → old ≡ [] → Delivers G from frame m old new
    → Came G.is_served k.repl state2 frame.version new es bound again
    → sent0 ≡ []
    → ((past : Inputs) → G.stands m past → sent1 ≡ sent0 ++ framed frame.version (at_seat G.sends (G.seat m) (Took from frame.body ∷ past)))
    → sent2 ≡ sent1 ++ entering G k.members k.me (frame.version + 1) (fresh_orders k.suspected again) bound
    → sent2 ≡ (processed (group_of G k) k.me (releasing releases part) from frame).frames
process_frames G k from frame releases m next state2 es bound again fresh old new sent0 sent1 sent2 part is h more at step none delivers came empty first second =
    let s = seat_at G k frame.version m is at in
    let more_sent = entering G k.members k.me (frame.version + 1) (fresh_orders k.suspected again) bound in
    second
    ∙ ap (λ fs. fs ++ more_sent) (first (inputs_at frame.version part.modules) (h.modules_are.stand frame.version m at) ∙ ap (λ fs. fs ++ framed frame.version (at_seat G.sends (G.seat m) (Took from frame.body ∷ inputs_at frame.version part.modules))) empty)
    ∙ frames_processed G (group_of G k) k.me from frame (resting releases k) m next state2 es bound again fresh new (releasing releases part)
    (holds_releasing G (group_of G k) k.me releases k part is h) (version_is G k (group_of G k) k.me part is h) is.row more at step s.0 s.1 refl
    (delivered_is G k from frame m old new part is h at none delivers more) came
