-- What the calls of a delivery leave.
use Rattle.std.proofs.Common.{ℕ, ◌+◌, ◌≡◌, ◌<◌, ◌≤◌, inl, inr, true, false, List, [], ◌∷◌, ◌++◌, length, take, Some, None, sym, ap, ◌∙◌, subst, arith, append_assoc}
use Rattle.std.specs.Ordering.{nat_cmp}
use Rattle.std.specs.BTreeMap.{get}
use Rattle.number_runs.specs.Runs.{holds}
use Rattle.std.proofs.lemmas.Bool.{cases_lt}
use Rattle.std.proofs.lemmas.List.{append_cancel_left}
use Rattle.upd_base.specs.Item.{id_of}
use Rattle.upd_base.specs.declared.item.Item.{Item}
use Rattle.instance_rules.specs.Say.{Items}
use Rattle.consensus_rules.specs.Items.{knows, add_new}
use Rattle.consensus_rules.specs.Delivered.{decision, batches, items_of}
use Rattle.consensus_rules.specs.Instances.{last_instance}
use Rattle.consensus_rules.specs.Waiting.{insert, in_order}
use Rattle.waiting_items.specs.Ids.{apart_from}
use Rattle.batch_delivery.specs.Delivery.{AreIdsOf, IsUpTo, StandsFor, news}
use Rattle.batch_delivery.specs.declared.delivery.Delivery.{Delivery}
use Rattle.batch_delivery.proofs.Lists.{waits_too, waits_not, waiting_left, items_more, news_added}
use Rattle.batch_delivery.proofs.Reach.{goes_on, stops_here, take_whole}

module _ (d e : Delivery) (items : Items) (ds : List (ℕ × Items)) (x : Item) (count_same : e.count ≡ d.count) (ahead_same : e.ahead ≡ d.ahead) (ids_same : e.ids ≡ d.ids) where
  with_waiting : StandsFor d items ds → e.waiting ≡ in_order (apart_from (items_of (batches ds)) (items ++ x ∷ [])) → StandsFor e (items ++ x ∷ []) ds
  with_waiting s w = record {
    up_to = record {
      reached = subst (λ c. c ≤ length (batches ds)) (sym count_same) s.up_to.reached;
      known_are = s.up_to.known_are ∙ ap (λ c. items_of (take c (batches ds))) (sym count_same);
      ahead = λ k lt. ap (λ m. get nat_cmp m k) ahead_same ∙ s.up_to.ahead k (subst (λ c. c < k) count_same lt);
      ids = λ y. ap (λ i. holds i (id_of y)) ids_same ∙ s.up_to.ids y;
      waiting = w;
      numbered = s.up_to.numbered;
    };
    all = count_same ∙ s.all;
  }

  -- one item more waits, or was delivered
  pub one_waits : holds d.ids (id_of x) ≡ false → e.waiting ≡ insert x d.waiting → StandsFor d items ds → StandsFor e (items ++ x ∷ []) ds
  one_waits f w s =
      with_waiting s (w ∙ ap (insert x) s.up_to.waiting ∙ sym (waits_too (items_of (batches ds)) items x (sym (s.up_to.ids x) ∙ f)))

  pub one_was_delivered : holds d.ids (id_of x) ≡ true → e.waiting ≡ d.waiting → StandsFor d items ds → StandsFor e (items ++ x ∷ []) ds
  one_was_delivered t w s =
      with_waiting s (w ∙ s.up_to.waiting ∙ sym (waits_not (items_of (batches ds)) items x (sym (s.up_to.ids x) ∙ t)))

-- the batch of the next instance is delivered
pub one_batch : (d m e : Delivery) (b known items : Items) (ds : List (ℕ × Items)) → get nat_cmp d.ahead (d.count + 1) ≡ Some b → m.count ≡ d.count + 1 → m.ids ≡ d.ids → m.waiting ≡ d.waiting
    → ((k : ℕ) → m.count < k → get nat_cmp m.ahead k ≡ get nat_cmp d.ahead k) → e.count ≡ m.count → e.ahead ≡ m.ahead
    → ((old : Items) → AreIdsOf m.ids old → AreIdsOf e.ids (add_new old b)) → e.waiting ≡ apart_from b m.waiting
    → IsUpTo d known items ds → IsUpTo e (add_new known b) items ds
one_batch d m e b known items ds here up ids_same waiting_same rest count_same ahead_same ids_more waiting_less u =
    let is : decision (d.count + 1) ds ≡ Some b = sym (u.ahead (d.count + 1) (omega arith)) ∙ here in
    let on : (d.count < length (batches ds)) × (take (d.count + 1) (batches ds) ≡ take d.count (batches ds) ++ b ∷ []) = goes_on d.count ds b u.reached is in
    let at : e.count ≡ d.count + 1 = count_same ∙ up in
    record {
      reached = (let lt : d.count < length (batches ds) = on.0 in omega (arith, lt, at));
      known_are =
          ap (λ l. add_new l b) u.known_are ∙ sym (items_more (take d.count (batches ds)) b) ∙ ap items_of (sym on.1) ∙ ap (λ c. items_of (take c (batches ds))) (sym at);
      ahead = λ k lt.
          ap (λ a. get nat_cmp a k) ahead_same ∙ rest k (subst (λ c. c < k) count_same lt) ∙ u.ahead k (omega (arith, lt, at));
      ids = ids_more known (λ y. ap (λ i. holds i (id_of y)) ids_same ∙ u.ids y);
      waiting = waiting_less ∙ ap (apart_from b) (waiting_same ∙ u.waiting) ∙ waiting_left known b items;
      numbered = u.numbered;
    }

-- and nothing more can be
pub all_done : (d m : Delivery) (known items : Items) (ds : List (ℕ × Items)) → (d.count + 1 ≤ last_instance → get nat_cmp d.ahead (d.count + 1) ≡ None) → m.count ≡ d.count → m.ids ≡ d.ids → m.waiting ≡ d.waiting
    → ((k : ℕ) → get nat_cmp m.ahead k ≡ get nat_cmp d.ahead k) → IsUpTo d known items ds → (known ≡ items_of (batches ds)) × StandsFor m items ds
all_done d m known items ds none count_same ids_same waiting_same ahead_same u =
    let open_next : decision (d.count + 1) ds ≡ None = elim (cases_lt last_instance (d.count + 1)) [
      | inl past ↦ u.numbered (d.count + 1) (omega (arith, past))
      | inr in_range ↦ sym (u.ahead (d.count + 1) (omega arith)) ∙ none in_range
    ] in
    let all : d.count ≡ length (batches ds) = stops_here d.count ds u.reached open_next in
    let is : known ≡ items_of (batches ds) = u.known_are ∙ ap (λ c. items_of (take c (batches ds))) all ∙ ap items_of (take_whole (batches ds)) in (
      is,
      record {
        up_to = record {
          reached = subst (λ c. c ≤ length (batches ds)) (sym count_same) u.reached;
          known_are = ap items_of (sym (take_whole (batches ds)) ∙ ap (λ c. take c (batches ds)) (sym all ∙ sym count_same));
          ahead = λ k lt. ahead_same k ∙ u.ahead k (subst (λ c. c < k) count_same lt);
          ids = λ y. ap (λ i. holds i (id_of y)) ids_same ∙ u.ids y ∙ ap (λ l. knows l y) is;
          waiting = waiting_same ∙ u.waiting ∙ ap (λ l. in_order (apart_from l items)) is;
          numbered = u.numbered;
        };
        all = count_same ∙ all;
      },
    )

-- what was delivered so far
pub record SoFar (d e : Delivery) (old new : Items) (known items : Items) (ds : List (ℕ × Items)) : Type 0 where
  pub done : Items
  pub up_to : IsUpTo e (known ++ done) items ds
  pub given : new ≡ old ++ done

pub one_more_batch : (s d m e : Delivery) (old new newer b known items : Items) (ds : List (ℕ × Items)) → get nat_cmp d.ahead (d.count + 1) ≡ Some b → m.count ≡ d.count + 1 → m.ids ≡ d.ids → m.waiting ≡ d.waiting
    → ((k : ℕ) → m.count < k → get nat_cmp m.ahead k ≡ get nat_cmp d.ahead k) → e.count ≡ m.count → e.ahead ≡ m.ahead
    → ((was : Items) → AreIdsOf m.ids was → AreIdsOf e.ids (add_new was b)) → e.waiting ≡ apart_from b m.waiting
    → ((was : Items) → AreIdsOf m.ids was → newer ≡ new ++ news was b)
    → SoFar s d old new known items ds → SoFar s e old newer known items ds
one_more_batch s d m e old new newer b known items ds here up ids_same waiting_same rest count_same ahead_same ids_more waiting_less gives f =
    let now : Items = known ++ f.done in
    let grown : IsUpTo e (add_new now b) items ds = one_batch d m e b now items ds here up ids_same waiting_same rest count_same ahead_same ids_more waiting_less f.up_to in
    let at_ids : AreIdsOf m.ids now = (λ y. ap (λ i. holds i (id_of y)) ids_same ∙ f.up_to.ids y) in
    record {
      done = f.done ++ news now b;
      up_to = subst (λ l. IsUpTo e l items ds) (news_added now b ∙ append_assoc known f.done (news now b)) grown;
      given = gives now at_ids ∙ ap (λ l. l ++ news now b) f.given ∙ append_assoc old f.done (news now b);
    }

pub gave_all : (known done more all : Items) → known ++ done ≡ all → all ≡ known ++ more → done ≡ more
gave_all known done more all e f = append_cancel_left known done more (e ∙ f)
