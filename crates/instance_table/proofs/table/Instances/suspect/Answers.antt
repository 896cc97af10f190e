use Rattle.std.proofs.Common.{ℕ, Bool, ◌≡◌, ◌<◌, ◌||◌, eqb, List, [], ◌∷◌, ◌++◌, true, ap, sym, ◌∙◌, subst, refl}
use Rattle.std.specs.List.{flat_map}
use Rattle.std.specs.Prelude.{slice_set}
use Rattle.std.specs.List.Sorted.{IsStrictlySortedBy}
use Rattle.std.specs.Ordering.{nat_cmp}
use Rattle.std.specs.Map.{keys_of}
use Rattle.std.proofs.lemmas.List.Elements.{All-head, All-tail}
use Rattle.fifo_net.specs.Net.{Called}
use Rattle.order_trait.specs.Outbox.{Grows, SendFits}
use Rattle.upd_base.specs.declared.body.Body.{Body}
use Rattle.instance_rules.specs.Say.{Suspects}
use Rattle.instance_rules.specs.History as history
use Rattle.instance_rules.specs.Says.{says}
use Rattle.instance_rules.specs.Bodies.{in_instance}
use Rattle.map_copies.specs.Copies.{Mirrors}
use Rattle.ct_consensus.specs.Instance as instance
use Rattle.ct_consensus.specs.Moves.{IsRow, TrustsItself}
use Rattle.instance_table.specs.Seated.{AreSeated, IsSeated}
use Rattle.instance_table.proofs.Kept.{row_of}
use Rattle.instance_table.proofs.Told.{Stood, ToldSoFar, WasTold, all_told, never, grows_more, no_entries, row_set, stood_all, tell_one, told_sends, told_stands}
use Rattle.instance_table.proofs.table.Instances.suspect.Goals as goal

pub suspect-requires : goal.suspect-requires
suspect-requires c =
    let seat : IsSeated c.args.self.now.members c.args.self.now.me (c.in-Some.number, c.in-Some.instance) =
    All-head (IsSeated c.args.self.now.members c.args.self.now.me) (c.in-Some.number, c.in-Some.instance) c.pop_first.new.self.entries
    (subst (AreSeated c.args.self.now.members c.args.self.now.me) c.in-Some.ensures.removal c.loop-number.invariant.3) in
    record { not_me = subst (λ m. TrustsItself c.loop-number.self.suspected m) (c.loop-number.invariant.1 ∙ sym seat.me_is) c.loop-number.self.trusting }

pub put_back-requires : goal.put_back-requires
put_back-requires c =
    let seat : IsSeated c.args.self.now.members c.args.self.now.me (c.in-Some.number, c.in-Some.instance) =
    All-head (IsSeated c.args.self.now.members c.args.self.now.me) (c.in-Some.number, c.in-Some.instance) c.pop_first.new.self.entries
    (subst (AreSeated c.args.self.now.members c.args.self.now.me) c.in-Some.ensures.removal c.loop-number.invariant.3) in
    record {
      counts = seat.counts;
      number = c.suspect.ensures.number ∙ seat.number;
      members = c.suspect.ensures.members ∙ seat.members ∙ sym c.loop-number.invariant.0;
      me_is = c.suspect.ensures.me ∙ seat.me_is ∙ sym c.loop-number.invariant.1;
    }

pub loop-number-preserved : goal.loop-number-preserved
loop-number-preserved c =
    let n : ℕ = c.args.self.now.members in
    let me : ℕ = c.args.self.now.me in
    let seats : AreSeated n me ((c.in-Some.number, c.in-Some.instance) ∷ c.pop_first.new.self.entries) = subst (AreSeated n me) c.in-Some.ensures.removal c.loop-number.invariant.3 in
    let seat : IsSeated n me (c.in-Some.number, c.in-Some.instance) = All-head (IsSeated n me) (c.in-Some.number, c.in-Some.instance) c.pop_first.new.self.entries seats in
    let same : c.loop-number.self.suspected ≡ _ = c.loop-number.invariant.2 in (
      c.put_back.ensures.members ∙ c.loop-number.invariant.0,
      c.put_back.ensures.me ∙ c.loop-number.invariant.1,
      c.put_back.ensures.suspected ∙ same,
      All-tail (IsSeated n me) (c.in-Some.number, c.in-Some.instance) c.pop_first.new.self.entries seats,
      tell_one n me c.args.who _ c.replace-rest.result.entries c.loop-number.rest.entries c.pop_first.new.self.entries c.loop-number.self.running.entries c.put_back.new.self.running.entries
          c.args.out.now c.loop-number.out c.suspect.new.out c.in-Some.number c.in-Some.instance c.suspect.new.self
          c.len-count.ensures.ordered c.in-Some.ensures.removal
          (record { stands = λ past r s. c.in_ok-suspect.ensures.stands past c.args.who (subst (λ l. IsRow l (history.suspected (Called (Suspects c.args.who) ∷ past))) (sym same) r) s })
          c.in_ok-put_back.ensures.entries
          (λ past r s.
          subst (λ k. c.suspect.new.out ≡ c.loop-number.out ++ in_instance k (says n me (Called (Suspects c.args.who) ∷ past))) seat.number
          (subst (λ m. c.suspect.new.out ≡ c.loop-number.out ++ in_instance (instance.number_of c.in-Some.instance) (says n m (Called (Suspects c.args.who) ∷ past))) seat.me_is
          (subst (λ m. c.suspect.new.out ≡ c.loop-number.out ++ in_instance (instance.number_of c.in-Some.instance) (says m (instance.me_of c.in-Some.instance) (Called (Suspects c.args.who) ∷ past))) seat.members
          (c.in_ok-suspect.ensures.sent past c.args.who (subst (λ l. IsRow l (history.suspected (Called (Suspects c.args.who) ∷ past))) (sym same) r) s).says_are)))
          c.loop-number.invariant.4,
      grows_more (SendFits n) c.args.out.now c.loop-number.out c.suspect.new.out c.loop-number.invariant.5
          (subst (λ m. Grows (SendFits m) c.loop-number.out c.suspect.new.out) seat.members c.in_ok-suspect.ensures.fits),
    )

pub returns-clause-stands : goal.returns-clause-stands
returns-clause-stands c = λ turns new suspects now is adds s.
    let none : c.loop-number.rest.entries ≡ [] = no_entries c.loop-number.rest.entries (λ lt. never (c.in_default.ensures.variant.1 lt)) in
    let f : ToldSoFar c.args.self.now.members c.args.self.now.me c.args.who _ c.replace-rest.result.entries c.loop-number.rest.entries c.loop-number.self.running.entries c.args.out.now c.loop-number.out = c.loop-number.invariant.4 in
    told_stands c.args.self.now c.loop-number.self turns new suspects now c.args.who
    (subst (λ l. IsRow l now) (sym c.loop-number.invariant.2) (row_set c.args.self.now.suspected suspects now c.args.who c.from.result (c.from.ensures ∙ c.get.ensures.value) (subst (λ k. k < 7) c.get.ensures.value c.get.ensures.range) adds s.row))
    (subst (λ r. Mirrors (WasTold r c.args.who) c.args.self.now.running.entries c.loop-number.self.running.entries) (sym c.loop-number.invariant.2)
    (subst (λ l. Mirrors (WasTold (slice_set c.args.self.now.suspected c.from.result true) c.args.who) l c.loop-number.self.running.entries)
    (all_told c.args.self.now.members c.args.self.now.me c.args.who _ c.replace-rest.result.entries c.loop-number.rest.entries c.loop-number.self.running.entries c.args.out.now c.loop-number.out f none ∙ ap (λ m. m.entries) c.replace-rest.ensures.value) f.told)) is adds s

pub returns-clause-sent : goal.returns-clause-sent
returns-clause-sent c = λ turns suspects numbers covers s.
    let n : ℕ = c.args.self.now.members in
    let me : ℕ = c.args.self.now.me in
    let none : c.loop-number.rest.entries ≡ [] = no_entries c.loop-number.rest.entries (λ lt. never (c.in_default.ensures.variant.1 lt)) in
    let f : ToldSoFar n me c.args.who _ c.replace-rest.result.entries c.loop-number.rest.entries c.loop-number.self.running.entries c.args.out.now c.loop-number.out = c.loop-number.invariant.4 in
    let all : c.replace-rest.result.entries ≡ c.args.self.now.running.entries = ap (λ m. m.entries) c.replace-rest.ensures.value in
    let sorted : IsStrictlySortedBy nat_cmp (keys_of c.args.self.now.running.entries) = subst (λ l. IsStrictlySortedBy nat_cmp (keys_of l)) all c.len-count.ensures.ordered in
    let g : ℕ → List (ℕ × Body) = (λ k. in_instance k (says n me (Called (Suspects c.args.who) ∷ turns k))) in
    let now : ℕ → Bool = (λ w. eqb c.args.who w || suspects w) in
    f.sent turns
    (λ k. row_of _ _ now (Called (Suspects c.args.who) ∷ turns k) refl (λ w. ap (λ b. eqb c.args.who w || b) (s.told k w))
    (row_set c.args.self.now.suspected suspects now c.args.who c.from.result (c.from.ensures ∙ c.get.ensures.value) (subst (λ k. k < 7) c.get.ensures.value c.get.ensures.range) (λ w. refl) s.row))
    (subst (Stood turns) (sym all) (stood_all c.args.self.now turns suspects sorted s))
    ∙ ap (λ l. c.args.out.now ++ flat_map g (keys_of l)) (all_told n me c.args.who _ c.replace-rest.result.entries c.loop-number.rest.entries c.loop-number.self.running.entries c.args.out.now c.loop-number.out f none ∙ all)
    ∙ ap (λ l. c.args.out.now ++ l) (told_sends n me c.args.who c.args.self.now turns suspects numbers sorted covers s)
