use Rattle.std.proofs.Common.{ℕ, zero, suc, ◌+◌, ◌-◌, ◌≡◌, ◌<◌, ltb, Bool, true, false, cond, List, [], ◌++◌, refl, sym, ap, ◌∙◌, subst, arith, append-nil, append_assoc}
use Rattle.std.specs.List.{All}
use Rattle.std.proofs.lemmas.Bool.{cond-true, cond-false, lt-ltb}
use Rattle.std.proofs.lemmas.List.{map-append}
use Rattle.std.proofs.lemmas.List.Elements.{All-nil, All-append}
use Rattle.upd_base.specs.declared.body.Body.{Body}
use Rattle.order_trait.specs.Outbox.{SendFits, Grows}
use Rattle.instance_rules.specs.declared.estimate.Estimate.{Estimate}
use Rattle.instance_rules.specs.declared.place.Place.{Place}
use Rattle.instance_rules.specs.Say.{Say, coordinator, last_round}
use Rattle.instance_rules.specs.Place.{Move, stay, after, give, refuse, enter}
use Rattle.instance_rules.specs.Bodies.{in_instance, body_of}
use Rattle.ct_consensus.specs.Moves.{Sends}

-- nothing was sent
pub sends_none : (n k : ℕ) (old : List (ℕ × Body)) → Sends n k old old []
sends_none n k old = record { says_are = sym (append-nil old); fit = All-nil (SendFits n) }

-- first these, and then those
pub sends_then : (n k : ℕ) (a b c : List (ℕ × Body)) (xs ys : List (ℕ × Say)) → Sends n k a b xs → Sends n k b c ys → Sends n k a c (xs ++ ys)
sends_then n k a b c xs ys first then =
    let joined : in_instance k (xs ++ ys) ≡ in_instance k xs ++ in_instance k ys = map-append (λ p. (p.0, body_of k p.1)) xs ys in
    record {
      says_are = then.says_are ∙ ap (λ l. l ++ in_instance k ys) first.says_are ∙ append_assoc a (in_instance k xs) (in_instance k ys) ∙ ap (λ l. a ++ l) (sym joined);
      fit = subst (All (SendFits n)) (sym joined) (All-append (SendFits n) (in_instance k xs) (in_instance k ys) first.fit then.fit);
    }

-- A member that enters a round takes its estimate along, and nothing else of where it was.
abbrev pub with_held : Estimate → Place
with_held held = record { round = 0; held = held; replied = false }

enter_by_held : (n : ℕ) (suspects : ℕ → Bool) (more round : ℕ) (p : Place) → enter n suspects more round p ≡ enter n suspects more round (with_held p.held)
enter_by_held n suspects zero round p = refl
enter_by_held n suspects (suc more) round p =
    ap (λ m. cond (suspects (coordinator n round))
    (after (give n round p).says (after (refuse n (give n round p).place).says (cond (ltb round last_round) m (stay (refuse n (give n round p).place).place))))
    (give n round p))
    (enter_by_held n suspects more (round + 1) p)

pub enter_held : (n : ℕ) (suspects : ℕ → Bool) (more round : ℕ) (p q : Place) → p.held ≡ q.held → enter n suspects more round p ≡ enter n suspects more round q
enter_held n suspects more round p q e =
    enter_by_held n suspects more round p ∙ ap (λ h. enter n suspects more round (with_held h)) e ∙ sym (enter_by_held n suspects more round q)

-- the coordinator is not suspected
pub enter_clear : (n : ℕ) (suspects : ℕ → Bool) (more round : ℕ) (p : Place) → suspects (coordinator n round) ≡ false → enter n suspects more round p ≡ give n round p
enter_clear n suspects zero round p e = refl
enter_clear n suspects (suc more) round p e =
    cond-false (suspects (coordinator n round))
    (after (give n round p).says (after (refuse n (give n round p).place).says (cond (ltb round last_round) (enter n suspects more (round + 1) p) (stay (refuse n (give n round p).place).place))))
    (give n round p) e

-- it is, and there is a next round, or none
abbrev pub on_to : ℕ → ℕ → Place → Move → Move
on_to n round p m = after (give n round p).says (after (refuse n (give n round p).place).says m)

enter_suspected : (n : ℕ) (suspects : ℕ → Bool) (more round : ℕ) (p : Place) (b : Bool) → suspects (coordinator n round) ≡ true → ltb round last_round ≡ b
    → enter n suspects (suc more) round p ≡ on_to n round p (cond b (enter n suspects more (round + 1) p) (stay (refuse n (give n round p).place).place))
enter_suspected n suspects more round p b e l =
    cond-true (suspects (coordinator n round))
    (on_to n round p (cond (ltb round last_round) (enter n suspects more (round + 1) p) (stay (refuse n (give n round p).place).place)))
    (give n round p) e
    ∙ ap (λ t. on_to n round p (cond t (enter n suspects more (round + 1) p) (stay (refuse n (give n round p).place).place))) l

pub enter_next : (n : ℕ) (suspects : ℕ → Bool) (more round : ℕ) (p : Place) → 0 < more → suspects (coordinator n round) ≡ true → round < last_round
    → enter n suspects more round p ≡ on_to n round p (enter n suspects (more - 1) (round + 1) p)
enter_next n suspects zero round p some e lt = absurd (omega (arith, some))
enter_next n suspects (suc more) round p some e lt =
    let less : suc more - 1 ≡ more = omega arith in
    enter_suspected n suspects more round p true e (lt-ltb round last_round lt) ∙ ap (λ k. on_to n round p (enter n suspects k (round + 1) p)) (sym less)

pub enter_last : (n : ℕ) (suspects : ℕ → Bool) (more : ℕ) (p : Place) → 0 < more → suspects (coordinator n last_round) ≡ true
    → enter n suspects more last_round p ≡ on_to n last_round p (stay (refuse n (give n last_round p).place).place)
enter_last n suspects zero p some e = absurd (omega (arith, some))
enter_last n suspects (suc more) p some e = enter_suspected n suspects more last_round p false e refl

-- what an entry sent, where its coordinator is suspected
pub entered_last : (n k : ℕ) (suspects : ℕ → Bool) (more round : ℕ) (p : Place) (a b c : List (ℕ × Body)) → 0 < more → suspects (coordinator n round) ≡ true → round ≡ last_round
    → Sends n k a b (give n round p).says → Sends n k b c (refuse n (give n round p).place).says → Sends n k a c (enter n suspects more round p).says
entered_last n k suspects more round p a b c some e last gave refused =
    let at : enter n suspects more round p ≡ on_to n round p (stay (refuse n (give n round p).place).place) =
    subst (λ r. suspects (coordinator n r) ≡ true → enter n suspects more r p ≡ on_to n r p (stay (refuse n (give n r p).place).place)) (sym last) (enter_last n suspects more p some) e in
    subst (λ m. Sends n k a c m.says) (sym at)
    (sends_then n k a b c (give n round p).says ((refuse n (give n round p).place).says ++ []) gave
    (subst (Sends n k b c) (sym (append-nil (refuse n (give n round p).place).says)) refused))

pub entered_on : (n k : ℕ) (suspects : ℕ → Bool) (more round : ℕ) (p q : Place) (a b c d : List (ℕ × Body)) → 0 < more → suspects (coordinator n round) ≡ true → round < last_round
    → q.held ≡ p.held → Sends n k a b (give n round p).says → Sends n k b c (refuse n (give n round p).place).says → Sends n k c d (enter n suspects (more - 1) (round + 1) q).says
    → Sends n k a d (enter n suspects more round p).says
entered_on n k suspects more round p q a b c d some e lt held gave refused rest =
    let on : Move = enter n suspects (more - 1) (round + 1) p in
    let same : enter n suspects (more - 1) (round + 1) q ≡ on = enter_held n suspects (more - 1) (round + 1) q p held in
    subst (λ m. Sends n k a d m.says) (sym (enter_next n suspects more round p some e lt))
    (sends_then n k a b d (give n round p).says ((refuse n (give n round p).place).says ++ on.says) gave
    (sends_then n k b c d (refuse n (give n round p).place).says on.says refused (subst (λ m. Sends n k c d m.says) same rest)))

pub entered_place : (n : ℕ) (suspects : ℕ → Bool) (more round : ℕ) (p q x : Place) → 0 < more → suspects (coordinator n round) ≡ true → round < last_round
    → q.held ≡ p.held → x ≡ (enter n suspects (more - 1) (round + 1) q).place → x ≡ (enter n suspects more round p).place
entered_place n suspects more round p q x some e lt held is =
    is ∙ ap (λ m. m.place) (enter_held n suspects (more - 1) (round + 1) q p held) ∙ ap (λ m. m.place) (sym (enter_next n suspects more round p some e lt))

-- what was sent fits
pub grows_none : (n : ℕ) (old : List (ℕ × Body)) → Grows (SendFits n) old old
grows_none n old = ([], sym (append-nil old), All-nil (SendFits n))

pub grows_of : (n k : ℕ) (old new : List (ℕ × Body)) (says : List (ℕ × Say)) → Sends n k old new says → Grows (SendFits n) old new
grows_of n k old new says sends = (in_instance k says, sends.says_are, sends.fit)

pub grows_then : (n : ℕ) (a b c : List (ℕ × Body)) → Grows (SendFits n) a b → Grows (SendFits n) b c → Grows (SendFits n) a c
grows_then n a b c first then = (
  first.0 ++ then.0,
  then.1 ∙ ap (λ l. l ++ then.0) first.1 ∙ append_assoc a first.0 then.0,
  All-append (SendFits n) first.0 then.0 first.2 then.2,
)
