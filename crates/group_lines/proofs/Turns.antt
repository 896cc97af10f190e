-- What is left once a round or a turn made no event.
use Rattle.std.proofs.Common.{ℕ, ◌≡◌, ◌+◌, ◌*◌, ◌<◌, ◌≤◌, inl, inr, List, length, sym, ◌∙◌, subst, arith, Option, None}
use Rattle.std.proofs.lemmas.Bool.{cases_lt}
use Rattle.upd_base.specs.Plan.{Planned, bound}
use Rattle.group_run.specs.Group.{Rules}
use Rattle.group_run.specs.Run.{Events, IsRelease}
use Rattle.run_journal.specs.Causes.{next_call}
use Rattle.upd_lines.specs.declared.line.Line.{Ghosts}
use Rattle.line_rules.specs.Received.{GoesOn}
use Rattle.line_rules.specs.LineState.{IsSetAside}
use Rattle.line_rules.specs.Rest.{IsAtRestBut, IsHeldUp}
use Rattle.line_rules.specs.declared.line_state.LineState.{LineState}
use Rattle.group_lines.specs.Visits.{IsIdle, IsLeftOut, IsLinkLeft, IsNoReceipt, IsRoundLeft, IsThreadLeft, LinkStands, MadeOne, StaysAside, Went}
use Rattle.group_lines.proofs.Going.{between, goes_full, goes_trans, one_goes, same_length, went_forced, went_trans}
use Rattle.group_lines.proofs.OneLink.{place_within, stands}

pub went_goes : {L : Type 0} (G : Ghosts L) (rules : Rules) (plan : Planned) (a b : Events) (xs ys : List (Option L)) (ss ts : List LineState) → Went G rules plan a b xs ys ss ts → GoesOn a b
went_goes G rules plan a b xs ys ss ts went = goes_full (IsLeftOut plan ts) rules plan a b went.full

-- the links that were left by the visits so far
abbrev pub LeftBelow : Rules → Planned → Events → List LineState → ℕ → Type 0
LeftBelow rules plan past states place = (from to k : ℕ) → k < place → LinkStands plan.members from to k → IsLinkLeft rules plan past states from to

pub links_left : (rules : Rules) (plan : Planned) (a b c : Events) (ss ts : List LineState) (place : ℕ) → GoesOn a b → GoesOn b c → StaysAside ss ts
    → (IsIdle plan a b → LeftBelow rules plan a ss place)
    → (IsIdle plan b c → (from to : ℕ) → LinkStands plan.members from to place → IsLinkLeft rules plan b ts from to)
    → IsIdle plan a c → LeftBelow rules plan a ts (place + 1)
links_left rules plan a b c ss ts place ab bc aside before here (room, same) from to k lt s =
    let m = between a b c ab bc same in
    elim (cases_lt k place) [
      | inl less ↦ λ r. let h = before (room, m.0) from to k less s r in subst IsSetAside (sym (aside (from * plan.members + to) h)) h
      | inr ge ↦
          let is : k ≡ place = omega arith in
          subst (λ past. IsLinkLeft rules plan past ts from to) m.0 (here (subst (λ past. length past < bound plan) (sym m.0) room, m.1) from to (subst (LinkStands plan.members from to) is s))
    ]

pub all_left : (rules : Rules) (plan : Planned) (past : Events) (states : List LineState) (place : ℕ) → plan.members * plan.members ≤ place → LeftBelow rules plan past states place → (from to : ℕ) → IsLinkLeft rules plan past states from to
all_left rules plan past states place le left from to r =
    left from to (from * plan.members + to) (let w = place_within plan.members from to r.from_member r.to_member in omega arith) (stands plan.members from to r.from_member r.to_member) r

pub round_left : (rules : Rules) (plan : Planned) (a b c d : Events) (states : List LineState) → GoesOn a b → GoesOn b c → GoesOn c d
    → (IsIdle plan a b → (thread : ℕ) → thread < length plan.threads → IsThreadLeft rules plan a thread)
    → (IsIdle plan b c → (from to : ℕ) → IsLinkLeft rules plan b states from to)
    → (IsIdle plan c d → (at : ℕ) → IsRelease rules plan c at → ⊥)
    → IsIdle plan a d → IsRoundLeft rules plan a states
round_left rules plan a b c d states ab bc cd threads links members (room, same) =
    let m = between a b d ab (goes_trans b c d bc cd) same in
    let n = between b c d bc cd m.1 in
    let at_b = subst (λ past. length past < bound plan) (sym m.0) room in
    let at_c = subst (λ past. length past < bound plan) (sym n.0) at_b in
    record {
      threads = threads (room, m.0);
      rest = record {
        receipts = subst (λ past. (from to : ℕ) → IsLinkLeft rules plan past states from to) m.0 (links (at_b, n.0));
        releases = subst (λ past. (at : ℕ) → IsRelease rules plan past at → ⊥) (n.0 ∙ m.0) (members (at_c, n.1));
      };
    }

-- A round that made no event, and then the call that is left.
pub turn_went : {L : Type 0} (G : Ghosts L) (rules : Rules) (plan : Planned) (a b c : Events) (xs ys : List (Option L)) (ss ts : List LineState)
    → Went G rules plan a b xs ys ss ts → length b ≤ length a → (IsIdle plan a b → IsRoundLeft rules plan a ts) → MadeOne plan b c IsNoReceipt → Went G rules plan a c xs ys ss ts
turn_went G rules plan a b c xs ys ss ts went le left made =
    let same = same_length a b (went_goes G rules plan a b xs ys ss ts went) le in
    went_trans G rules plan a b c xs ys ys ss ts ts went
    (went_forced G rules plan b c ys ts (λ room. subst (IsAtRestBut (IsLeftOut plan ts) rules plan) (sym same) (left (subst (λ past. length past < bound plan) same room, same)).rest) made)

pub turn_left : {L : Type 0} (G : Ghosts L) (rules : Rules) (plan : Planned) (a b c : Events) (xs ys : List (Option L)) (ss ts : List LineState)
    → Went G rules plan a b xs ys ss ts → length b ≤ length a → (IsIdle plan a b → IsRoundLeft rules plan a ts) → MadeOne plan b c IsNoReceipt
    → (IsIdle plan b c → (thread : ℕ) → next_call plan b thread ≡ None) → IsIdle plan a c → IsHeldUp (IsLeftOut plan ts) rules plan a
turn_left G rules plan a b c xs ys ss ts went le left made none (room, same) =
    let m = between a b c (went_goes G rules plan a b xs ys ss ts went) (one_goes plan b c IsNoReceipt made) same in
    record {
      calls = subst (λ past. (thread : ℕ) → next_call plan past thread ≡ None) m.0 (none (subst (λ past. length past < bound plan) (sym m.0) room, m.1));
      rest = (left (room, m.0)).rest;
    }

-- the last turn
pub last_turn : {L : Type 0} (G : Ghosts L) (rules : Rules) (plan : Planned) (a b : Events) (xs ys : List (Option L)) (ss ts : List LineState)
    → Went G rules plan a b xs ys ss ts → length b ≤ length a → (IsIdle plan a b → IsHeldUp (IsLeftOut plan ts) rules plan a) → length b < bound plan → IsHeldUp (IsLeftOut plan ts) rules plan b
last_turn G rules plan a b xs ys ss ts went le left room =
    let same = same_length a b (went_goes G rules plan a b xs ys ss ts went) le in
    subst (IsHeldUp (IsLeftOut plan ts) rules plan) (sym same) (left (subst (λ past. length past < bound plan) same room, same))
