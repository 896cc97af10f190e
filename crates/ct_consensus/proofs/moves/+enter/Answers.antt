use Rattle.std.proofs.Common.{rules, ◌≡◌, ◌<◌, true, sym, ap, ◌∙◌}
use Rattle.instance_rules.specs.Say.{coordinator, last_round}
use Rattle.ct_consensus.proofs.Steps.{entered_last, entered_on, entered_place}
use Rattle.ct_consensus.proofs.moves.+enter.Goals as goal

pub returns-then-round-eq18446744073709551615-clause-sent :
    goal.returns-then-round-eq18446744073709551615-clause-sent
returns-then-round-eq18446744073709551615-clause-sent t c = λ suspects row.
    let some : 0 < c.args.more = search rules in
    let told : c.is_suspected.result ≡ true = search rules in
    let e : suspects (coordinator c.args.seat.now.members c.args.round) ≡ true = sym (c.is_suspected.ensures suspects row) ∙ told in
    let last : c.args.round ≡ last_round = search rules in
    entered_last c.args.seat.now.members c.args.seat.now.number suspects c.args.more c.args.round c.args.place.now _ _ _
    some e last c.in_ok-give.ensures c.in_ok-refuse.ensures.sent

pub returns-clause-place : goal.returns-clause-place
returns-clause-place t c = λ suspects row.
    let some : 0 < c.args.more = search rules in
    let told : c.is_suspected.result ≡ true = search rules in
    let e : suspects (coordinator c.args.seat.now.members c.args.round) ≡ true = sym (c.is_suspected.ensures suspects row) ∙ told in
    let lt : c.args.round < last_round = search rules in
    entered_place c.args.seat.now.members suspects c.args.more c.args.round c.args.place.now _ _
    some e lt (ap (λ p. p.held) c.refuse.ensures.place) (c.in_ok-enter.ensures.place suspects row)

pub returns-clause-sent : goal.returns-clause-sent
returns-clause-sent t c = λ suspects row.
    let some : 0 < c.args.more = search rules in
    let told : c.is_suspected.result ≡ true = search rules in
    let e : suspects (coordinator c.args.seat.now.members c.args.round) ≡ true = sym (c.is_suspected.ensures suspects row) ∙ told in
    let lt : c.args.round < last_round = search rules in
    entered_on c.args.seat.now.members c.args.seat.now.number suspects c.args.more c.args.round c.args.place.now _ _ _ _ _
    some e lt (ap (λ p. p.held) c.refuse.ensures.place) c.in_ok-give.ensures c.in_ok-refuse.ensures.sent (c.in_ok-enter.ensures.sent suspects row)
