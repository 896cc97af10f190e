-- One module more is after an input.
use Rattle.std.proofs.Common.{ℕ, ◌≡◌, ◌<◌, ◌+◌, List, [], ◌∷◌, ◌++◌, length, sym, ◌∙◌, ap, get_or, take, drop, append_assoc, add-one}
use Rattle.std.specs.List.{AllZip}
use Rattle.std.proofs.lemmas.List.{drop_more}
use Rattle.std.proofs.lemmas.List.Elements.{all_zip_more}
use Rattle.fifo_net.specs.Net.{Input}
use Rattle.order_trait.specs.Runs.{Order, Inputs, at_seat}
use Rattle.order_trait.specs.declared.ordering.Ordering.{Ghosts}
use Rattle.upd_base.specs.declared.body.Body.{Body}
use Rattle.upd_base.specs.declared.frame.Frame.{Frame}
use Rattle.group_run.specs.Turn.{framed}
use Rattle.member_rules.specs.Steps.{IsNext, sent_from}

pub more_next : {O : Type 0} (G : Ghosts O) (x : Input Order Body) (modules all : List O) (i : ℕ) (m next : O) → i < length modules → m ≡ get_or modules i m
    → AllZip (IsNext G x) (take i modules) all → G.seat next ≡ G.seat m → ((past : Inputs) → G.stands m past → G.stands next (x ∷ past))
    → AllZip (IsNext G x) (take (i + 1) modules) (all ++ next ∷ [])
more_next G x modules all i m next lt is so seat stands = all_zip_more (IsNext G x) modules all i m next lt is so (seat, stands)

-- and its frames went out
pub more_sent : {O : Type 0} (G : Ghosts O) (x : Input Order Body) (modules : List O) (i : ℕ) (m : O) (inputs : ℕ → Inputs) (out mid whole : List (ℕ × Frame)) →
    i < length modules → m ≡ get_or modules i m
    → out ++ sent_from G i (drop i modules) inputs x ≡ whole
    → mid ≡ out ++ framed i (at_seat G.sends (G.seat m) (x ∷ inputs i))
    → mid ++ sent_from G (i + 1) (drop (i + 1) modules) inputs x ≡ whole
more_sent G x modules i m inputs out mid whole lt is before sent =
    let d : drop i modules ≡ m ∷ drop (i + 1) modules = drop_more modules i m lt ∙ ap (λ y. y ∷ drop (i + 1) modules) (sym is) in
    ap (λ ys. ys ++ sent_from G (i + 1) (drop (i + 1) modules) inputs x) sent
    ∙ append_assoc out (framed i (at_seat G.sends (G.seat m) (x ∷ inputs i))) (sent_from G (i + 1) (drop (i + 1) modules) inputs x)
    ∙ ap (λ k. out ++ (framed i (at_seat G.sends (G.seat m) (x ∷ inputs i)) ++ sent_from G k (drop (i + 1) modules) inputs x)) (add-one i)
    ∙ ap (λ ms. out ++ sent_from G i ms inputs x) (sym d)
    ∙ before
