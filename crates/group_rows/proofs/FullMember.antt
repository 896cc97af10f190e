-- The sequencer crashes at once, and the other member sends 65 messages.
use Rattle.std.specs.Prelude.{ℕ, zero, suc, ◌≡◌, refl, None, true, false}
use Rattle.std.proofs.Common.{lit<, arith}
use Rattle.upd_base.specs.Plan.{is_open, planned}
use Rattle.group_run.specs.Run.{IsGroupRun, IsReceipt, IsRelease, calls_made}
use Rattle.group_run.specs.Settled.{IsSettled}
use Rattle.group_rows.specs.Kinds.{two_kinds}
use Rattle.group_rows.specs.Texts.{a}
use Rattle.group_rows.specs.FullMember.{plan, events}

plan_is : is_open plan ≡ true
unfolding is_open
plan_is = refl

pub is_run : IsGroupRun two_kinds plan events
is_run = record { of_plan = plan_is; short = lit< tt; enabled = (record { next = refl; at = refl; answered = refl }, (record { next = refl; at = refl; answered = refl }, (record { next = refl; at = refl; answered = refl }, (record { next = refl; at = refl; answered = refl }, (record { next = refl; at = refl; answered = refl }, (record { next = refl; at = refl; answered = refl }, (record { next = refl; at = refl; answered = refl }, (record { next = refl; at = refl; answered = refl }, (record { next = refl; at = refl; answered = refl }, (record { next = refl; at = refl; answered = refl }, (record { next = refl; at = refl; answered = refl }, (record { next = refl; at = refl; answered = refl }, (record { next = refl; at = refl; answered = refl }, (record { next = refl; at = refl; answered = refl }, (record { next = refl; at = refl; answered = refl }, (record { next = refl; at = refl; answered = refl }, (record { next = refl; at = refl; answered = refl }, (record { next = refl; at = refl; answered = refl }, (record { next = refl; at = refl; answered = refl }, (record { next = refl; at = refl; answered = refl }, (record { next = refl; at = refl; answered = refl }, (record { next = refl; at = refl; answered = refl }, (record { next = refl; at = refl; answered = refl }, (record { next = refl; at = refl; answered = refl }, (record { next = refl; at = refl; answered = refl }, (record { next = refl; at = refl; answered = refl }, (record { next = refl; at = refl; answered = refl }, (record { next = refl; at = refl; answered = refl }, (record { next = refl; at = refl; answered = refl }, (record { next = refl; at = refl; answered = refl }, (record { next = refl; at = refl; answered = refl }, (record { next = refl; at = refl; answered = refl }, (record { next = refl; at = refl; answered = refl }, (record { next = refl; at = refl; answered = refl }, (record { next = refl; at = refl; answered = refl }, (record { next = refl; at = refl; answered = refl }, (record { next = refl; at = refl; answered = refl }, (record { next = refl; at = refl; answered = refl }, (record { next = refl; at = refl; answered = refl }, (record { next = refl; at = refl; answered = refl }, (record { next = refl; at = refl; answered = refl }, (record { next = refl; at = refl; answered = refl }, (record { next = refl; at = refl; answered = refl }, (record { next = refl; at = refl; answered = refl }, (record { next = refl; at = refl; answered = refl }, (record { next = refl; at = refl; answered = refl }, (record { next = refl; at = refl; answered = refl }, (record { next = refl; at = refl; answered = refl }, (record { next = refl; at = refl; answered = refl }, (record { next = refl; at = refl; answered = refl }, (record { next = refl; at = refl; answered = refl }, (record { next = refl; at = refl; answered = refl }, (record { next = refl; at = refl; answered = refl }, (record { next = refl; at = refl; answered = refl }, (record { next = refl; at = refl; answered = refl }, (record { next = refl; at = refl; answered = refl }, (record { next = refl; at = refl; answered = refl }, (record { next = refl; at = refl; answered = refl }, (record { next = refl; at = refl; answered = refl }, (record { next = refl; at = refl; answered = refl }, (record { next = refl; at = refl; answered = refl }, (record { next = refl; at = refl; answered = refl }, (record { next = refl; at = refl; answered = refl }, (record { next = refl; at = refl; answered = refl }, (record { next = refl; at = refl; answered = refl }, (record { next = refl; at = refl; answered = refl }, tt)))))))))))))))))))))))))))))))))))))))))))))))))))))))))))))))))) }

differ : true ≡ false → ⊥
differ e = cc

other : false ≡ true → ⊥
other e = cc

calls_over : (thread : ℕ) → planned plan thread (calls_made thread events) ≡ None
calls_over zero = refl
calls_over (suc t) = refl

no_receipt : (from to : ℕ) → IsReceipt two_kinds plan events from to → ⊥
no_receipt zero zero h = absurd (differ h.up)
no_receipt zero (suc zero) h = absurd (other h.frame)
no_receipt zero (suc (suc t)) h = absurd (let l = h.to_member in omega arith)
no_receipt (suc zero) zero h = absurd (differ h.up)
no_receipt (suc zero) (suc zero) h = absurd (other h.frame)
no_receipt (suc zero) (suc (suc t)) h = absurd (let l = h.to_member in omega arith)
no_receipt (suc (suc f)) to h = absurd (let l = h.from_member in omega arith)

no_release : (at : ℕ) → IsRelease two_kinds plan events at → ⊥
no_release zero h = absurd (differ h.up)
no_release (suc zero) h = absurd (other h.ready)
no_release (suc (suc a)) h = absurd (let l = h.member in omega arith)

pub is_settled : IsSettled two_kinds plan events
is_settled = record { calls = calls_over; receipts = no_receipt; releases = no_release }
