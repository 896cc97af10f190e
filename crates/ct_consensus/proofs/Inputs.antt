use Rattle.std.proofs.Common.{ℕ, ◌≡◌, ◌<◌, ◌≤◌, Bool, true, false, cond, ◌||◌, List, [], ◌∷◌, ◌++◌, Option, Some, None, refl, sym, ap, ◌∙◌, subst, append-nil}
use Rattle.std.specs.Option.{is_some}
use Rattle.ct_consensus.specs.Ballots.{kept_of}
use Rattle.std.specs.List.{list_any}
use Rattle.fifo_net.specs.Net.{Input, Called, Took}
use Rattle.instance_rules.specs.Say.{Act, Say, Turns, last_round}
use Rattle.instance_rules.specs.History.{suspected, decided, decides, or_else}
use Rattle.instance_rules.specs.Ballot.{vote, firsts, estimate_for, reply_for}
use Rattle.instance_rules.specs.Place.{moves, place}
use Rattle.instance_rules.specs.Says.{leads, has_led, passes_on, answers, says}
use Rattle.ct_consensus.specs.declared.ballot.Ballot.{Ballot}
use Rattle.ct_consensus.specs.declared.running.Running.{Running}
use Rattle.ct_consensus.specs.Ballot.{IsCounted, IsTallied, IsKept}
use Rattle.ct_consensus.specs.Stance.{Settled, standing}
use Rattle.ct_consensus.specs.Moves.{IsRow, TrustsItself}
use Rattle.ct_consensus.specs.Stands.{IsRunning}
use Rattle.ct_consensus.proofs.Rounds.{IsLow, moves_low, moves_settled}

-- before a decision a member moves, and answers
pub place_step : (n : ℕ) (x : Input Act Say) (past : Turns) → decided past ≡ None → place n (x ∷ past) ≡ (moves n past x (place n past)).place
place_step n x past e = ap (λ o. cond (is_some o) (place n past) (moves n past x (place n past)).place) e

pub says_step : (n me : ℕ) (x : Input Act Say) (past : Turns) → decided past ≡ None → says n me (x ∷ past) ≡ (moves n past x (place n past)).says ++ answers n me past x
says_step n me x past e = ap (λ o. cond (is_some o) [] ((moves n past x (place n past)).says ++ answers n me past x)) e

-- an input without a vote in a round
pub same_votes : {A : Type 0} (f : Say → Option A) (from : ℕ) (say : Say) (past : Turns) → f say ≡ None → firsts f (Took from say ∷ past) ≡ firsts f past
same_votes f from say past e = ap (λ o. firsts f past ++ vote (firsts f past) from o) e ∙ append-nil (firsts f past)

pub same_kept : (n r : ℕ) (x : Input Act Say) (past : Turns) (b : Option Ballot) → firsts (estimate_for r) (x ∷ past) ≡ firsts (estimate_for r) past
    → firsts (reply_for r) (x ∷ past) ≡ firsts (reply_for r) past → IsKept n r past b → IsKept n r (x ∷ past) b
same_kept n r x past None e f h = (e ∙ h.0, f ∙ h.1)
same_kept n r x past (Some b) e f h = (subst (λ v. IsCounted n v b.proposal) (sym e) h.0, subst (λ v. IsTallied n v b.replies) (sym f) h.1, h.2)

pub or_false : (b : Bool) → (b || false) ≡ b
or_false true = refl
or_false false = refl

-- What comes from outside moves the member and does nothing else.
pub called : (n me : ℕ) (running after : Running) (act : Act) (past : Turns) → me < n → suspected (Called act ∷ past) me ≡ false → IsRunning n me running past
    → standing after.place ≡ (moves n past (Called act) (standing running.place)).place → after.led ≡ running.led → after.ballots ≡ running.ballots
    → IsRunning n me after (Called act ∷ past)
called n me running after act past fits not_me old at led ballots =
    let here : place n (Called act ∷ past) ≡ (moves n past (Called act) (place n past)).place = place_step n (Called act) past old.undecided in
    record {
      undecided = old.undecided;
      place = at ∙ ap (λ p. (moves n past (Called act) p).place) old.place ∙ sym here;
      settled = subst (Settled n (suspected (Called act ∷ past))) (sym here) (moves_settled n me past (Called act) (place n past) fits not_me old.low tt old.settled);
      low = subst (λ p. p.round ≤ last_round) (sym here) (moves_low n past (Called act) (place n past) old.low tt);
      led = led ∙ old.led;
      ballots = λ r mine. subst (λ m. IsKept n r (Called act ∷ past) (kept_of m r)) (sym ballots)
          (same_kept n r (Called act) past (kept_of running.ballots r) refl refl (old.ballots r mine));
    }

-- So does what is no vote and no decision.
pub took : (n me : ℕ) (running after : Running) (from : ℕ) (say : Say) (past : Turns) → me < n → suspected past me ≡ false → IsLow (Took from say)
    → decides say ≡ None → leads n me past from say ≡ [] → ((r : ℕ) → estimate_for r say ≡ None) → ((r : ℕ) → reply_for r say ≡ None) → IsRunning n me running past
    → standing after.place ≡ (moves n past (Took from say) (standing running.place)).place → after.led ≡ running.led → after.ballots ≡ running.ballots
    → IsRunning n me after (Took from say ∷ past)
took n me running after from say past fits not_me is no_decision no_lead no_estimate no_reply old at led ballots =
    let x : Input Act Say = Took from say in
    let here : place n (x ∷ past) ≡ (moves n past x (place n past)).place = place_step n x past old.undecided in
    record {
      undecided = ap (λ o. or_else o (decides say)) old.undecided ∙ no_decision;
      place = at ∙ ap (λ p. (moves n past x p).place) old.place ∙ sym here;
      settled = subst (Settled n (suspected (x ∷ past))) (sym here) (moves_settled n me past x (place n past) fits not_me old.low is old.settled);
      low = subst (λ p. p.round ≤ last_round) (sym here) (moves_low n past x (place n past) old.low is);
      led = led ∙ old.led ∙ sym (ap (λ l. has_led n me past || list_any (λ p. is_some (decides p.1)) l) no_lead ∙ or_false (has_led n me past));
      ballots = λ r mine. subst (λ m. IsKept n r (x ∷ past) (kept_of m r)) (sym ballots)
          (same_kept n r x past (kept_of running.ballots r) (same_votes (estimate_for r) from say past (no_estimate r)) (same_votes (reply_for r) from say past (no_reply r)) (old.ballots r mine));
    }

-- what it says where it only moves
pub says_called : (n me : ℕ) (running : Running) (act : Act) (past : Turns) → IsRunning n me running past
    → (moves n past (Called act) (standing running.place)).says ≡ says n me (Called act ∷ past)
says_called n me running act past old =
    ap (λ p. (moves n past (Called act) p).says) old.place
    ∙ sym (append-nil (moves n past (Called act) (place n past)).says)
    ∙ sym (says_step n me (Called act) past old.undecided)

pub says_took : (n me : ℕ) (running : Running) (from : ℕ) (say : Say) (past : Turns) → leads n me past from say ≡ [] → passes_on n me past say ≡ [] → IsRunning n me running past
    → (moves n past (Took from say) (standing running.place)).says ≡ says n me (Took from say ∷ past)
says_took n me running from say past no_lead quiet old =
    let none : answers n me past (Took from say) ≡ [] = ap (λ l. l ++ passes_on n me past say) no_lead ∙ quiet in
    ap (λ p. (moves n past (Took from say) p).says) old.place
    ∙ sym (append-nil (moves n past (Took from say) (place n past)).says)
    ∙ ap (λ l. (moves n past (Took from say) (place n past)).says ++ l) (sym none)
    ∙ sym (says_step n me (Took from say) past old.undecided)

-- the member itself is not suspected
pub not_suspected : (row : List Bool) (suspects : ℕ → Bool) (me : ℕ) → me < 7 → TrustsItself row me → IsRow row suspects → suspects me ≡ false
not_suspected row suspects me fits trusts is =
    let same : Some (suspects me) ≡ Some false = sym (is me fits) ∙ trusts in
    cc
