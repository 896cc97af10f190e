-- What a member promises of an event, put together.
use Rattle.std.proofs.Common.{◌≡◌, ◌≤◌, ◌+◌, List, ◌∷◌, length}
use Rattle.std.specs.Prelude.{All, Result, Ok, Err, IfOk}
use Rattle.fifo_net.specs.Net.{Input as NetInput}
use Rattle.order_trait.specs.declared.ordering.Ordering.{Ghosts}
use Rattle.upd_base.specs.declared.frame.Frame.{Frame}
use Rattle.group_run.specs.Group.{Outer}
use Rattle.group_run.specs.Turn.{turn_of}
use Rattle.member_rules.specs.Kept.{Kept, group_of}
use Rattle.member_rules.specs.Stands.{Stands as MemberStands, part_of, Grows}
use Rattle.member_core.specs.declared.input.Input.{Input}
use Rattle.member_core.specs.declared.prepared.Prepared.{Prepared}
use Rattle.member_core.specs.Input.{input_of, items_by, answer_to}
use Rattle.member_core.specs.Prepared.{committed, answer_of, sent_of}
use Rattle.member_rules.specs.Steps.{SentFits}
use Rattle.group_world.specs.Makes.{IsPrepared}

pub promised : {O E : Type 0} (G : Ghosts O) (k : Kept O) (x : Input) (r : Result (Prepared O) E) → length k.modules ≡ k.repl.version + 1
    → IfOk r (λ p. All (λ s. SentFits k.members s) (sent_of p))
    → IfOk r (λ p. (past : List (NetInput Outer Frame)) → MemberStands G k past → answer_of p ≡ answer_to G k (part_of G k past) x)
    → IfOk r (λ p. (past : List (NetInput Outer Frame)) → MemberStands G k past → Grows (group_of G k) k.me past (input_of x) → sent_of p ≡ (turn_of (group_of G k) k.me (input_of x ∷ past)).frames)
    → IfOk r (λ p. (past : List (NetInput Outer Frame)) → MemberStands G k past → Grows (group_of G k) k.me past (input_of x) → MemberStands G (committed k p) (input_of x ∷ past))
    → IfOk r (λ p. (committed k p).repl.made ≤ k.repl.made + items_by x)
    → IfOk r (λ p. IsPrepared G k x p)
promised G k x (Ok p) versions fits answers sends stays makes = record { fits = fits; answer = answers; sent = sends; stands = stays; made = makes; versions = versions }
promised G k x (Err e) versions fits answers sends stays makes = tt
