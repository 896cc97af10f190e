-- The next body of a link may be taken by its module: the step that a receipt or a release makes is one of a module run.
use Rattle.std.proofs.Common.{ℕ, ◌≡◌, ◌<◌, ◌≤◌, inl, inr, false, List, [], ◌∷◌, ◌++◌, length, refl, sym, ◌∙◌, ap, arith, Some, append_assoc, append-nil, length-append}
use Rattle.std.proofs.lemmas.Bool.{cases_lt}
use Rattle.fifo_net.specs.Net.{Took, IsRun, MayCome, taken, inputs_of, sent, taken_on, sent_on}
use Rattle.fifo_net.proofs.Links.{inputs_away}
use Rattle.upd_base.specs.declared.kind.Kind.{Kind}
use Rattle.upd_base.specs.declared.body.Body.{Body}
use Rattle.upd_base.specs.declared.frame.Frame.{Frame}
use Rattle.group_run.specs.Group.{Group}
use Rattle.group_run.specs.Part.{Part, version}
use Rattle.group_run.specs.Version.{kind_at}
use Rattle.group_run.specs.Turn.{member_sends}
use Rattle.group_run.specs.Held.{waits, first_ready, without_ready}
use Rattle.group_run.specs.Run.{Moves, turn_at}
use Rattle.group_run.specs.Projection.{steps_made}
use Rattle.group_run.specs.Link.{bodies_of, held_from, processed_from}
use Rattle.group_run.proofs.Lists.{eqb_self}
use Rattle.group_links.proofs.Taken.{bodies_of-append, in_order, no_wait, released_from, new_body}
use Rattle.group_projection.proofs.World.{World, Sound}
use Rattle.group_links.proofs.Moves.{link_parts}

-- Members ------------------------------------------------------------------------------------------------------------

-- each move is a member's
abbrev pub AllMembers : ℕ → Moves → Type 0
AllMembers n [] = Unit {0}
AllMembers n (s ∷ ms) = (s.at < n) × AllMembers n ms

pub inputs_above : (n : ℕ) (ms : Moves) → AllMembers n ms → (i : ℕ) → n ≤ i → inputs_of i ms ≡ []
inputs_above n [] a i h = refl
inputs_above n (s ∷ ms) a i h = inputs_away i s ms (λ e. let l = a.0 in omega arith) ∙ inputs_above n ms a.1 i h

-- The next body of a module ------------------------------------------------------------------------------------------

abbrev pub world_of : Group → Moves → World
world_of g ms = record {
  mods = λ i. (turn_at g ms i).part.modules;
  out = λ i j. sent_on (member_sends g) i j ms;
  proj = λ v. steps_made g v ms;
}

-- a body that stands next among those that a link has of a version came from a member, and the module may take it
module_may : (g : Group) (ms : Moves) → AllMembers g.members ms → (s : Sound g (world_of g ms)) → (me from v : ℕ) → me < g.members → v < length (turn_at g ms me).part.modules → (body : Body) (rest : List Body) →
    bodies_of v (sent_on (member_sends g) from me ms) ≡ processed_from from v (turn_at g ms me).part ++ body ∷ rest →
    (from < g.members) × MayCome (g.rules.sends (kind_at g me v (turn_at g ms me).part.modules) g.members) (steps_made g v ms) me (Took from body)
module_may g ms members s me from v member reached body rest e =
    let took : List Body = processed_from from v (turn_at g ms me).part in
    let kind : Kind = kind_at g me v (turn_at g ms me).part.modules in
    let is_member : from < g.members = elim (cases_lt from g.members) [
      | inl lt ↦ lt
      | inr le ↦
          let none : bodies_of v (sent_on (member_sends g) from me ms) ≡ [] = ap (λ xs. bodies_of v (sent (member_sends g) from me xs)) (inputs_above g.members ms members from le) in
          let long = ap length (sym none ∙ e) in
          let sum = length-append took (body ∷ rest) in
          absurd (omega arith)
    ] in (
      is_member,
      (
        rest,
        ap (sent (g.rules.sends kind g.members) from me) (s.inputs from v)
            ∙ s.sent_is from v me kind is_member (λ r. s.one_kind from me v is_member member r reached)
            ∙ e
            ∙ ap (λ xs. taken from xs ++ body ∷ rest) (sym (s.inputs me v))
            ∙ sym (append_assoc (taken from (inputs_of me (steps_made g v ms))) (body ∷ []) rest),
      ),
    )

-- a frame that is received and not held
pub received_may : (g : Group) (ms : Moves) → AllMembers g.members ms → (s : Sound g (world_of g ms)) → (me from : ℕ) (frame : Frame) → me < g.members → frame.version < length (turn_at g ms me).part.modules →
    MayCome (member_sends g) ms me (Took from frame) → waits from frame.version (turn_at g ms me).part.held ≡ false →
    (from < g.members) × MayCome (g.rules.sends (kind_at g me frame.version (turn_at g ms me).part.modules) g.members) (steps_made g frame.version ms) me (Took from frame.body)
received_may g ms members s me from frame member reached may w =
    let v : ℕ = frame.version in
    let p : Part = (turn_at g ms me).part in
    let took : List Frame = taken_on from me ms in
    let head : bodies_of v (frame ∷ may.0) ≡ frame.body ∷ bodies_of v may.0 = rw (eqb_self frame.version) refl in
    module_may g ms members s me from v member reached frame.body (bodies_of v may.0)
    (ap (bodies_of v) (may.1 ∙ append_assoc took (frame ∷ []) may.0)
    ∙ bodies_of-append v took (frame ∷ may.0)
    ∙ ap (λ xs. xs ++ bodies_of v (frame ∷ may.0)) (in_order g me (inputs_of me ms) from v ∙ ap (λ xs. processed_from from v p ++ xs) (no_wait from v p.held w) ∙ append-nil (processed_from from v p))
    ∙ ap (λ xs. processed_from from v p ++ xs) head)

-- a frame that is released
pub released_may : (g : Group) (ms : Moves) → IsRun (member_sends g) ms → AllMembers g.members ms → (s : Sound g (world_of g ms)) → (me : ℕ) (h : ℕ × Frame) → me < g.members → h.1.version < length (turn_at g ms me).part.modules →
    first_ready (version (turn_at g ms me).part) (turn_at g ms me).part.held ≡ Some h →
    (h.0 < g.members) × MayCome (g.rules.sends (kind_at g me h.1.version (turn_at g ms me).part.modules) g.members) (steps_made g h.1.version ms) me (Took h.0 h.1.body)
released_may g ms run members s me h member reached e =
    let p : Part = (turn_at g ms me).part in
    let v : ℕ = h.1.version in
    let parts = link_parts g ms run h.0 me v in
    let later : List (ℕ × Frame) = without_ready (version p) p.held in
    let one : new_body h.0 v h.0 h.1 ≡ h.1.body ∷ [] = rw (eqb_self h.0, eqb_self v) refl in
    let first : held_from h.0 v p.held ≡ h.1.body ∷ held_from h.0 v later = released_from h.0 v (version p) p.held h e ∙ ap (λ xs. xs ++ held_from h.0 v later) one in
    module_may g ms members s me h.0 v member reached h.1.body (held_from h.0 v later ++ bodies_of v parts.0)
    (parts.2
    ∙ ap (λ xs. (processed_from h.0 v p ++ xs) ++ bodies_of v parts.0) first
    ∙ append_assoc (processed_from h.0 v p) (h.1.body ∷ held_from h.0 v later) (bodies_of v parts.0))
