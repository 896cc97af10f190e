use Rattle.std.proofs.Common.{ℕ, ◌≡◌, eqb, Bool, true, false, cond, List, [], ◌∷◌, ◌++◌, Some, None, refl, sym, ap, ◌∙◌, subst}
use Rattle.std.specs.Option.{is_some}
use Rattle.fifo_net.specs.Net.{Input, Called, Took}
use Rattle.upd_base.specs.declared.body.Body.TheVariants.{Ask, Ord, Req, Ack, Rb, Est, Prop, Reply, Next, Decide, Past}
use Rattle.instance_rules.specs.Say.{Items, Act, Say, Estimates, Proposes, Replies, Moves_on, Decides, Turns}
use Rattle.instance_rules.specs.Bodies.{say_of}
use Rattle.instance_rules.specs.History.{decided, decides, or_else}
use Rattle.instance_rules.specs.Place.{moves, place}
use Rattle.instance_rules.specs.Says.{to_each, answers, says}
use Rattle.ct_consensus.specs.declared.running.Running.{Running}
use Rattle.ct_consensus.specs.declared.state.Decision.{Decision}
use Rattle.ct_consensus.specs.declared.state.State.TheVariants.{Decided}
use Rattle.ct_consensus.specs.Stance.{standing}
use Rattle.ct_consensus.specs.Stands.{IsRunning, IsState}
use Rattle.upd_base.specs.declared.body.Body.{Body}
use Rattle.ct_consensus.specs.Moves.{Sends}
use Rattle.ct_consensus.proofs.Steps.{sends_none}
use Rattle.ct_consensus.proofs.Inputs.{place_step, says_step}

-- Who has decided says nothing more, and stays as it is.
pub decided_says : (n me : ℕ) (d : Decision) (x : Input Act Say) (past : Turns) → IsState n me (Decided d) past → says n me (x ∷ past) ≡ []
decided_says n me d x past h = ap (λ o. cond (is_some o) [] ((moves n past x (place n past)).says ++ answers n me past x)) h.0

pub decided_stays : (n me : ℕ) (d : Decision) (x : Input Act Say) (past : Turns) → IsState n me (Decided d) past → IsState n me (Decided d) (x ∷ past)
decided_stays n me d x past h = (
  still x,
  ap (λ o. (cond (is_some o) (place n past) (moves n past x (place n past)).place).round) h.0 ∙ h.1,
)
  where
    still : (x : Input Act Say) → decided (x ∷ past) ≡ Some d.batch
    still (Called act) = h.0
    still (Took from say) = ap (λ o. or_else o (decides say)) h.0

-- At its first decision a member passes it on, unless it has started one.
pub decides_now : (n me : ℕ) (running : Running) (d : Decision) (from : ℕ) (batch : Items) (past : Turns) → IsRunning n me running past
    → d.batch ≡ batch → d.round ≡ (standing running.place).round → IsState n me (Decided d) (Took from (Decides batch) ∷ past)
decides_now n me running d from batch past old same at = (
  ap (λ o. or_else o (Some batch)) old.undecided ∙ ap (λ b. Some b) (sym same),
  ap (λ p. p.round) (place_step n (Took from (Decides batch)) past old.undecided) ∙ ap (λ p. p.round) (sym old.place) ∙ sym at,
)

pub decides_says : (n me : ℕ) (running : Running) (from : ℕ) (batch : Items) (past : Turns) → IsRunning n me running past
    → cond running.led [] (to_each n (Decides batch)) ≡ says n me (Took from (Decides batch) ∷ past)
decides_says n me running from batch past old =
    ap (λ b. cond b [] (to_each n (Decides batch))) old.led ∙ sym (says_step n me (Took from (Decides batch)) past old.undecided)

-- and sends nothing
pub decided_sends : (n me k : ℕ) (out : List (ℕ × Body)) (d : Decision) (x : Input Act Say) (past : Turns) → IsState n me (Decided d) past → Sends n k out out (says n me (x ∷ past))
decided_sends n me k out d x past h = subst (Sends n k out out) (sym (decided_says n me d x past h)) (sends_none n k out)

-- what is no Decide says no decision
said_none : (b : Bool) (x y : Say) → decides x ≡ None → cond b (Some x) None ≡ Some y → decides y ≡ None
said_none true x y none e = (let same : x ≡ y = cc in ap decides (sym same) ∙ none)
said_none false x y none e = absurd cc

none_said : (y : Say) → None ≡ Some y → decides y ≡ None
none_said y e = absurd cc

pub no_decision : (k : ℕ) (body : Body) (say : Say) → say_of k body ≡ Some say → ((instance : ℕ) (batch : Items) → body ≡ Decide instance batch → ⊥) → decides say ≡ None
no_decision k (Ask item) say e other = none_said say e
no_decision k (Ord at item) say e other = none_said say e
no_decision k (Req stamp item) say e other = none_said say e
no_decision k (Ack stamp) say e other = none_said say e
no_decision k Past say e other = none_said say e
no_decision k (Rb item) say e other = none_said say e
no_decision k (Est instance round stamp batch) say e other = said_none (eqb instance k) (Estimates round (record { stamp = stamp; batch = batch })) say refl e
no_decision k (Prop instance round batch) say e other = said_none (eqb instance k) (Proposes round batch) say refl e
no_decision k (Reply instance round agree) say e other = said_none (eqb instance k) (Replies round agree) say refl e
no_decision k (Next instance round) say e other = said_none (eqb instance k) (Moves_on round) say refl e
no_decision k (Decide instance batch) say e other = absurd (other instance batch refl)
