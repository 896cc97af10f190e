use Rattle.std.proofs.Common.{ℕ, zero, suc, ◌≡◌, ◌<◌, ◌≤◌, inl, inr, eqb, cond, true, false, List, [], ◌∷◌, ◌++◌, length, get_or, set, refl, sym, ap, ◌∙◌, subst, arith, max, min, get_or-set_other, get_or-set_same, length-set, append-nil}
use Rattle.std.specs.List.{filter}
use Rattle.std.proofs.lemmas.List.{append_cancel_left}
use Rattle.std.proofs.lemmas.Bool.{cond-true, cond-false, cases_eq, eq-eqb, ne_eqb}
use Rattle.fifo_net.specs.Net.{Took}
use Rattle.upd_base.specs.declared.item.Item.{Item}
use Rattle.upd_base.specs.declared.body.Body.{Body}
use Rattle.upd_base.specs.declared.body.Body.TheVariants.{Req, Ack}
use Rattle.order_trait.specs.Runs.{Inputs}
use Rattle.request_queue.specs.declared.request.Request.{Request}
use Rattle.request_queue.specs.Request.{insert}
use Rattle.request_queue.proofs.Limits.{upto, over, items, kept_req, kept_other, released_req, released_other}
use Rattle.lamport_rules.specs.Lamport.{requests, stamp_of, heard, least_below, clock, clock_at, acks, sends_by, delivers_by}
use Rattle.lamport_rules.proofs.Heard.{heard_took, requests_ascend}
use Rattle.lamport_order.specs.LamportOrder.{IsAfter}

least_below-same : (n : ℕ) (f g : ℕ → ℕ) → ((j : ℕ) → j < n → f j ≡ g j) → least_below n f ≡ least_below n g
least_below-same zero f g h = refl
least_below-same (suc n) f g h = ap (λ k. min k (f n)) (least_below-same n f g (λ j lt. h j (omega arith))) ∙ ap (λ k. min (least_below n g) k) (h n (omega arith))

least_below-less : (n : ℕ) (f g : ℕ → ℕ) → ((j : ℕ) → j < n → f j ≤ g j) → least_below n f ≤ least_below n g
least_below-less zero f g h = omega arith
least_below-less (suc n) f g h =
    let here : f n ≤ g n = h n (omega arith) in
    let below : least_below n f ≤ least_below n g = least_below-less n f g (λ j lt. h j (omega arith)) in
    omega (arith, here, below)

module _ (n from stamp : ℕ) (body : Body) (row new : List ℕ) (past : Inputs) (within : from < n) (long : length row ≡ n)
    (stamped : stamp_of body ≡ stamp) (raised : new ≡ set row from (max (get_or row from 0) stamp)) (old : (j : ℕ) → j < n → get_or row j 0 ≡ heard past j) where
  pub row_took : (j : ℕ) → j < n → get_or new j 0 ≡ heard (Took from body ∷ past) j
  row_took j lt =
      elim (cases_eq from j) [
        | inl e ↦
            let here : get_or (set row from (max (get_or row from 0) stamp)) from 0 ≡ max (get_or row from 0) stamp = let inside : from < length row = omega arith in get_or-set_same row from (max (get_or row from 0) stamp) 0 inside in
            subst (λ k. get_or new k 0 ≡ heard (Took from body ∷ past) k) e
            (ap (λ l. get_or l from 0) raised ∙ here ∙ ap (λ k. max k stamp) (old from within) ∙ ap (λ k. max (heard past from) k) (sym stamped)
            ∙ sym (heard_took from from body past ∙ cond-true (eqb from from) (max (heard past from) (stamp_of body)) (heard past from) (eq-eqb from from refl)))
        | inr ne ↦
            ap (λ l. get_or l j 0) raised ∙ get_or-set_other row from j (max (get_or row from 0) stamp) 0 (λ e. ne (sym e)) ∙ old j lt
            ∙ sym (heard_took from j body past ∙ cond-false (eqb from j) (max (heard past j) (stamp_of body)) (heard past j) (ne_eqb from j ne))
      ]

  pub least_took : (limit : ℕ) → limit ≡ least_below (length new) (λ j. get_or new j 0) → limit ≡ least_below n (heard (Took from body ∷ past))
  least_took limit e =
      let size : length new ≡ n = ap length raised ∙ length-set row from (max (get_or row from 0) stamp) ∙ long in
      e ∙ ap (λ k. least_below k (λ j. get_or new j 0)) size ∙ least_below-same n (λ j. get_or new j 0) (heard (Took from body ∷ past)) row_took

heard-more : (n from : ℕ) (body : Body) (past : Inputs) → least_below n (heard past) ≤ least_below n (heard (Took from body ∷ past))
heard-more n from body past =
    least_below-less n (heard past) (heard (Took from body ∷ past))
    (λ j lt. elim (cases_eq from j) [
      | inl e ↦ let q : heard (Took from body ∷ past) j ≡ max (heard past j) (stamp_of body) = heard_took from j body past ∙ cond-true (eqb from j) (max (heard past j) (stamp_of body)) (heard past j) (eq-eqb from j e) in omega arith
      | inr ne ↦ let q : heard (Took from body ∷ past) j ≡ heard past j = heard_took from j body past ∙ cond-false (eqb from j) (max (heard past j) (stamp_of body)) (heard past j) (ne_eqb from j ne) in omega arith
    ])

-- the queue, and what is released, after a Req
pub queue_req : (n from stamp limit : ℕ) (item : Item) (queue : List Request) (past : Inputs)
    → queue ≡ filter (over (least_below n (heard past))) (requests past) → limit ≡ least_below n (heard (Took from (Req stamp item) ∷ past))
    → filter (over limit) (insert (record { stamp = stamp; from = from; item = item }) queue) ≡ filter (over (least_below n (heard (Took from (Req stamp item) ∷ past)))) (requests (Took from (Req stamp item) ∷ past))
queue_req n from stamp limit item queue past q e =
    let w : Request = record { stamp = stamp; from = from; item = item } in
    let a : ℕ = least_below n (heard past) in
    let b : ℕ = least_below n (heard (Took from (Req stamp item) ∷ past)) in
    ap (λ k. filter (over k) (insert w queue)) e ∙ ap (λ l. filter (over b) (insert w l)) q ∙ kept_req a b w (requests past) (heard-more n from (Req stamp item) past)

pub out_req : (n me from stamp limit : ℕ) (item : Item) (queue : List Request) (past : Inputs) (more : List Item)
    → queue ≡ filter (over (least_below n (heard past))) (requests past) → limit ≡ least_below n (heard (Took from (Req stamp item) ∷ past))
    → delivers_by n me (Took from (Req stamp item) ∷ past) ≡ delivers_by n me past ++ more
    → items (filter (upto limit) (insert (record { stamp = stamp; from = from; item = item }) queue)) ≡ more
out_req n me from stamp limit item queue past more q e grown =
    let w : Request = record { stamp = stamp; from = from; item = item } in
    let a : ℕ = least_below n (heard past) in
    let b : ℕ = least_below n (heard (Took from (Req stamp item) ∷ past)) in
    ap (λ k. items (filter (upto k) (insert w queue))) e ∙ ap (λ l. items (filter (upto b) (insert w l))) q
    ∙ released_req a b w (requests past) more (requests_ascend past) (heard-more n from (Req stamp item) past) grown

-- and after an Ack
pub queue_ack : (n from stamp limit : ℕ) (queue : List Request) (past : Inputs)
    → queue ≡ filter (over (least_below n (heard past))) (requests past) → limit ≡ least_below n (heard (Took from (Ack stamp) ∷ past))
    → filter (over limit) queue ≡ filter (over (least_below n (heard (Took from (Ack stamp) ∷ past)))) (requests (Took from (Ack stamp) ∷ past))
queue_ack n from stamp limit queue past q e =
    let b : ℕ = least_below n (heard (Took from (Ack stamp) ∷ past)) in
    ap (λ k. filter (over k) queue) e ∙ ap (λ l. filter (over b) l) q ∙ kept_other (least_below n (heard past)) b (requests past) (heard-more n from (Ack stamp) past)

pub out_ack : (n me from stamp limit : ℕ) (queue : List Request) (past : Inputs) (more : List Item)
    → queue ≡ filter (over (least_below n (heard past))) (requests past) → limit ≡ least_below n (heard (Took from (Ack stamp) ∷ past))
    → delivers_by n me (Took from (Ack stamp) ∷ past) ≡ delivers_by n me past ++ more
    → items (filter (upto limit) queue) ≡ more
out_ack n me from stamp limit queue past more q e grown =
    let b : ℕ = least_below n (heard (Took from (Ack stamp) ∷ past)) in
    ap (λ k. items (filter (upto k) queue)) e ∙ ap (λ l. items (filter (upto b) l)) q
    ∙ released_other (least_below n (heard past)) b (requests past) more (requests_ascend past) (heard-more n from (Ack stamp) past) grown

module _ (n c from stamp : ℕ) (body : Body) (row : List ℕ) (queue : List Request) (n' c' : ℕ) (mid new : List ℕ) (put queue' : List Request) (past : Inputs)
    (within : from < n) (long : length row ≡ n) (e_n : n' ≡ n) (e_mid : mid ≡ row) (e_new : new ≡ set mid from (max (get_or mid from 0) stamp)) (a : IsAfter n c row queue past) where
  pub after_req : (item copied : Item) → body ≡ Req stamp item → copied ≡ item → c' ≡ clock_at c (Req stamp copied)
      → put ≡ insert (record { stamp = stamp; from = from; item = copied }) queue → queue' ≡ filter (over (least_below (length new) (λ j. get_or new j 0))) put
      → IsAfter n' c' new queue' (Took from body ∷ past)
  after_req item copied is same e_c e_put e_queue =
      let at : new ≡ set row from (max (get_or row from 0) stamp) = e_new ∙ ap (λ l. set l from (max (get_or l from 0) stamp)) e_mid in
      let limit : ℕ = least_below (length new) (λ j. get_or new j 0) in
      subst (λ b. IsAfter n' c' new queue' (Took from b ∷ past)) (sym is)
      (subst (λ k. IsAfter k c' new queue' (Took from (Req stamp item) ∷ past)) (sym e_n) (record {
        clock_is = e_c ∙ ap (λ k. clock_at k (Req stamp item)) a.clock_is;
        heard_is = row_took n from stamp (Req stamp item) row new past within long refl at a.heard_is;
        waiting_is = e_queue ∙ ap (filter (over limit)) (e_put ∙ ap (λ x. insert (record { stamp = stamp; from = from; item = x }) queue) same)
            ∙ queue_req n from stamp limit item queue past a.waiting_is (least_took n from stamp (Req stamp item) row new past within long refl at a.heard_is limit refl);
      }))

  pub gave_req : (item copied : Item) (me : ℕ) (more old gave : List Item) → body ≡ Req stamp item → copied ≡ item
      → put ≡ insert (record { stamp = stamp; from = from; item = copied }) queue → gave ≡ old ++ items (filter (upto (least_below (length new) (λ j. get_or new j 0))) put)
      → delivers_by n me (Took from body ∷ past) ≡ delivers_by n me past ++ more → gave ≡ old ++ more
  gave_req item copied me more old gave is same e_put e_out grown =
      let at : new ≡ set row from (max (get_or row from 0) stamp) = e_new ∙ ap (λ l. set l from (max (get_or l from 0) stamp)) e_mid in
      let limit : ℕ = least_below (length new) (λ j. get_or new j 0) in
      e_out ∙ ap (λ l. old ++ items (filter (upto limit) l)) (e_put ∙ ap (λ x. insert (record { stamp = stamp; from = from; item = x }) queue) same)
      ∙ ap (λ l. old ++ l) (out_req n me from stamp limit item queue past more a.waiting_is (least_took n from stamp (Req stamp item) row new past within long refl at a.heard_is limit refl)
      (subst (λ b. delivers_by n me (Took from b ∷ past) ≡ delivers_by n me past ++ more) is grown))

  pub after_ack : body ≡ Ack stamp → c' ≡ c → put ≡ queue → queue' ≡ filter (over (least_below (length new) (λ j. get_or new j 0))) put
      → IsAfter n' c' new queue' (Took from body ∷ past)
  after_ack is e_c e_put e_queue =
      let at : new ≡ set row from (max (get_or row from 0) stamp) = e_new ∙ ap (λ l. set l from (max (get_or l from 0) stamp)) e_mid in
      let limit : ℕ = least_below (length new) (λ j. get_or new j 0) in
      subst (λ b. IsAfter n' c' new queue' (Took from b ∷ past)) (sym is)
      (subst (λ k. IsAfter k c' new queue' (Took from (Ack stamp) ∷ past)) (sym e_n) (record {
        clock_is = e_c ∙ a.clock_is;
        heard_is = row_took n from stamp (Ack stamp) row new past within long refl at a.heard_is;
        waiting_is = e_queue ∙ ap (filter (over limit)) e_put
            ∙ queue_ack n from stamp limit queue past a.waiting_is (least_took n from stamp (Ack stamp) row new past within long refl at a.heard_is limit refl);
      }))

  pub gave_ack : (me : ℕ) (more old gave : List Item) → body ≡ Ack stamp
      → put ≡ queue → gave ≡ old ++ items (filter (upto (least_below (length new) (λ j. get_or new j 0))) put)
      → delivers_by n me (Took from body ∷ past) ≡ delivers_by n me past ++ more → gave ≡ old ++ more
  gave_ack me more old gave is e_put e_out grown =
      let at : new ≡ set row from (max (get_or row from 0) stamp) = e_new ∙ ap (λ l. set l from (max (get_or l from 0) stamp)) e_mid in
      let limit : ℕ = least_below (length new) (λ j. get_or new j 0) in
      e_out ∙ ap (λ l. old ++ items (filter (upto limit) l)) e_put
      ∙ ap (λ l. old ++ l) (out_ack n me from stamp limit queue past more a.waiting_is (least_took n from stamp (Ack stamp) row new past within long refl at a.heard_is limit refl)
      (subst (λ b. delivers_by n me (Took from b ∷ past) ≡ delivers_by n me past ++ more) is grown))

-- a body with no stamp changes nothing
heard_none : (from j : ℕ) (body : Body) (past : Inputs) → stamp_of body ≡ 0 → heard (Took from body ∷ past) j ≡ heard past j
heard_none from j body past none =
    let m : max (heard past j) (stamp_of body) ≡ heard past j = omega arith in
    elim (cases_eq from j) [
      | inl e ↦ heard_took from j body past ∙ cond-true (eqb from j) (max (heard past j) (stamp_of body)) (heard past j) (eq-eqb from j e) ∙ m
      | inr ne ↦ heard_took from j body past ∙ cond-false (eqb from j) (max (heard past j) (stamp_of body)) (heard past j) (ne_eqb from j ne)
    ]

least_none : (n from : ℕ) (body : Body) (past : Inputs) → stamp_of body ≡ 0 → least_below n (heard past) ≡ least_below n (heard (Took from body ∷ past))
least_none n from body past none = least_below-same n (heard past) (heard (Took from body ∷ past)) (λ j lt. sym (heard_none from j body past none))

abbrev pub Plain : Body → Type 0
Plain body =
    (stamp_of body ≡ 0) × ((k : ℕ) → clock_at k body ≡ k) × ((from : ℕ) (past : Inputs) → requests (Took from body ∷ past) ≡ requests past)
    × ((n c : ℕ) → acks n c body ≡ [])

pub plain : (body : Body) → ((stamp : ℕ) (item : Item) → body ≡ Req stamp item → ⊥) → ((stamp : ℕ) → body ≡ Ack stamp → ⊥) → Plain body
plain (Req stamp item) r a = absurd (r stamp item refl)
plain (Ack stamp) r a = absurd (a stamp refl)
plain body r a = (refl, λ k. refl, λ from past. refl, λ n c. refl)

pub after_plain : (n c from : ℕ) (body : Body) (row : List ℕ) (queue : List Request) (past : Inputs) → Plain body → IsAfter n c row queue past → IsAfter n c row queue (Took from body ∷ past)
after_plain n c from body row queue past plain a = record {
  clock_is = a.clock_is ∙ sym (plain.1 (clock past));
  heard_is = λ j lt. a.heard_is j lt ∙ sym (heard_none from j body past plain.0);
  waiting_is = a.waiting_is ∙ ap (λ k. filter (over k) (requests past)) (least_none n from body past plain.0)
      ∙ ap (filter (over (least_below n (heard (Took from body ∷ past))))) (sym (plain.2 from past));
}

pub gave_plain : (n me from : ℕ) (body : Body) (past : Inputs) (more old : List Item) → Plain body → delivers_by n me (Took from body ∷ past) ≡ delivers_by n me past ++ more → old ≡ old ++ more
gave_plain n me from body past more old plain grown =
    let same : delivers_by n me (Took from body ∷ past) ≡ delivers_by n me past =
    ap (λ l. items (filter (upto (least_below n (heard (Took from body ∷ past)))) l)) (plain.2 from past)
    ∙ ap (λ k. items (filter (upto k) (requests past))) (sym (least_none n from body past plain.0)) in
    let none : more ≡ [] = append_cancel_left (delivers_by n me past) more [] (sym grown ∙ same ∙ sym (append-nil (delivers_by n me past))) in
    sym (append-nil old) ∙ ap (λ l. old ++ l) (sym none)

pub sent_plain : (n me from : ℕ) (body : Body) (past : Inputs) (out : List (ℕ × Body)) → Plain body → out ≡ out ++ sends_by n me (Took from body ∷ past)
sent_plain n me from body past out plain =
    sym (append-nil out) ∙ ap (λ l. out ++ l)
    (sym (ap (λ l. cond (eqb from me) [] l) (plain.3 n (clock (Took from body ∷ past))) ∙ (elim (eqb from me) as (λ b. ◌≡◌ {A = List (ℕ × Body)} (cond b [] []) []) [ true ↦ refl | false ↦ refl ])))
