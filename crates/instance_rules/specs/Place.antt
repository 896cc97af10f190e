-- Where a member stands in one instance, and how it moves.
use Rattle.std.specs.Prelude.{ℕ, zero, suc, Bool, true, false, ◌==◌, ◌+◌, if◌then◌else◌, ◌||◌, ◌&&◌, not, nat_lt, List, [], ◌∷◌, ◌++◌, is_some}
use Rattle.fifo_net.specs.Net.{Input, Called, Took}
pub use Rattle.instance_rules.specs.declared.place.Place.{Place}
use Rattle.instance_rules.specs.Say.{Items, Act, Starts, Suspects, Trusts, Say, Estimates, Proposes, Replies, Moves_on, Decides, Turns, coordinator, last_round}
use Rattle.instance_rules.specs.History.{suspected, decided}

-- a new place, and what is sent on the way to it
pub record Move : Type 0 where
  pub place : Place
  pub says : List (ℕ × Say)

abbrev pub stay : Place → Move
stay p = record { place = p; says = [] }

abbrev pub after : List (ℕ × Say) → Move → Move
after says move = record { place = move.place; says = says ++ move.says }

-- it is in this round without a reply, and its estimate goes to the coordinator
abbrev pub give : ℕ → ℕ → Place → Move
give n round p = record {
  place = record { round = round; held = p.held; replied = false };
  says = (coordinator n round, Estimates round p.held) ∷ [];
}

-- it has replied with no, where it had not replied before
abbrev pub refuse : ℕ → Place → Move
refuse n p = record {
  place = record { round = p.round; held = p.held; replied = true };
  says = if p.replied then [] else (coordinator n p.round, Replies p.round false) ∷ [];
}

-- To enter a round is to give the estimate, and where the coordinator is suspected to refuse and to enter the
-- next. A member does not suspect itself, so n rounds are enough.
abbrev pub enter : ℕ → (ℕ → Bool) → ℕ → ℕ → Place → Move
enter n suspects zero round p = give n round p
enter n suspects (suc more) round p =
    if suspects (coordinator n round)
    then after (give n round p).says
    (after (refuse n (give n round p).place).says
    (if nat_lt round last_round
    then enter n suspects more (round + 1) p
    else stay (refuse n (give n round p).place).place))
    else give n round p

-- the next round, if there is one
abbrev pub go_on : ℕ → (ℕ → Bool) → Place → Move
go_on n suspects p = if nat_lt p.round last_round then enter n suspects n (p.round + 1) p else stay p

-- it takes the proposal over and says yes, and where the coordinator is suspected it goes on
abbrev pub accept : ℕ → (ℕ → Bool) → ℕ → Items → Move
accept n suspects round batch =
    after ((coordinator n round, Replies round true) ∷ [])
    (if suspects (coordinator n round)
    then go_on n suspects (record { round = round; held = record { stamp = round; batch = batch }; replied = true })
    else stay (record { round = round; held = record { stamp = round; batch = batch }; replied = true }))

-- whether a proposal for this round is still awaited
abbrev pub awaits : Place → ℕ → Bool
awaits p round = nat_lt 0 round && (nat_lt p.round round || ((p.round == round) && not p.replied))

-- what a member that has come to a place does where it has one more input
abbrev pub moves : ℕ → Turns → Input Act Say → Place → Move
moves n past (Called (Starts batch)) p =
    if p.round == 0 then enter n (suspected past) n 1 (record { round = 0; held = record { stamp = 0; batch = batch }; replied = false }) else stay p
moves n past (Called (Suspects who)) p =
    if not (suspected past who) && (nat_lt 0 p.round && (who == coordinator n p.round))
    then after (refuse n p).says (go_on n (suspected (Called (Suspects who) ∷ past)) (refuse n p).place)
    else stay p
moves n past (Called (Trusts who)) p = stay p
moves n past (Took from (Estimates round held)) p = stay p
moves n past (Took from (Proposes round batch)) p =
    if (from == coordinator n round) && awaits p round then accept n (suspected past) round batch else stay p
moves n past (Took from (Replies round agree)) p = stay p
moves n past (Took from (Moves_on round)) p =
    if (from == coordinator n round) && (nat_lt 0 round && (p.round == round)) then go_on n (suspected past) p else stay p
moves n past (Took from (Decides batch)) p = stay p

-- Who has decided moves no more.
abbrev pub place : ℕ → Turns → Place
place n [] = record { round = 0; held = record { stamp = 0; batch = [] }; replied = false }
place n (x ∷ past) = if is_some (decided past) then place n past else (moves n past x (place n past)).place
