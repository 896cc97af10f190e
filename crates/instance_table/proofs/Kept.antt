-- What a table keeps of one instance after an input.
use Rattle.std.proofs.Common.{ℕ, ◌≡◌, ◌≢◌, inl, inr, Bool, true, false, cond, List, [], ◌∷◌, Option, Some, None, Result, Ok, Err, refl, sym, ap, ◌∙◌, subst}
use Rattle.std.specs.Prelude.{OnOk, OnErr}
use Rattle.std.specs.List.{All}
use Rattle.std.specs.declared.cmp.Ordering.{Ordering}
use Rattle.std.specs.declared.cmp.Ordering.TheVariants.{Less, Equal, Greater}
use Rattle.std.specs.Ordering.{nat_cmp, match_ordering}
use Rattle.std.specs.Cmp.{unsigned_tied}
use Rattle.std.proofs.lemmas.Map.Lookups.{exact_unsigned}
use Rattle.std.specs.Map.{lookup, remove_entry}
use Rattle.std.proofs.lemmas.List.Elements.{All-cons, All-head, All-tail, All-nil}
use Rattle.instance_table.specs.Seated.{AreSeated, IsSeated}
use Rattle.std.specs.BTreeMap.{BTreeMap, get, insert_entry, is_at}
use Rattle.std.proofs.lemmas.Bool.{cases_Bool, cases_eq, cond-true, cond-false, eqb-true}
use Rattle.fifo_net.specs.Net.{Input, Called, Took}
use Rattle.instance_rules.specs.Say.{Items, Act, Starts, Suspects, Trusts, Say, Turns}
use Rattle.instance_rules.specs.History.{suspected, decides, decided, or_else}
use Rattle.instance_rules.specs.Place.{place}
use Rattle.instance_rules.proofs.Votes.{none_is_some}
use Rattle.consensus_rules.specs.Instances.{Quiet}
use Rattle.consensus_rules.proofs.Picks.{Still, still, quiet_says}
use Rattle.ct_consensus.proofs.Longer.{trusting, suspecting}
use Rattle.ct_consensus.specs.Instance as instance
use Rattle.ct_consensus.specs.Instance.{ChangesNothing}
use Rattle.ct_consensus.specs.Moves.{IsRow}
use Rattle.ct_consensus.specs.declared.instance.Instance.{Instance}
use Rattle.instance_table.specs.Table.{IsKept, StandsFor}
use Rattle.instance_table.specs.declared.table.Instances.{Instances}

-- Of a quiet instance a new one stands.
pub quiet_stands : (i : Instance) (turns : Turns) → Quiet turns → ((past : Turns) (who : ℕ) → instance.StandsFor i past → instance.StandsFor i (Called (Trusts who) ∷ past))
    → ((past : Turns) (who : ℕ) → ChangesNothing (instance.members_of i) (instance.me_of i) who past → instance.StandsFor i past → instance.StandsFor i (Called (Suspects who) ∷ past))
    → instance.StandsFor i [] → instance.StandsFor i turns
quiet_stands i [] q trust suspicion s = s
quiet_stands i (Called (Starts batch) ∷ past) q trust suspicion s = absurd q
quiet_stands i (Called (Suspects who) ∷ past) q trust suspicion s =
    let n : ℕ = instance.members_of i in
    let next : Still n (Called (Suspects who) ∷ past) = still n (Called (Suspects who) ∷ past) q in
    let old : Still n past = still n past q in
    suspicion past who (record {
      place = next.at_first ∙ sym old.at_first;
      quiet = quiet_says n (instance.me_of i) who past q;
    }) (quiet_stands i past q trust suspicion s)
quiet_stands i (Called (Trusts who) ∷ past) q trust suspicion s = trust past who (quiet_stands i past q trust suspicion s)
quiet_stands i (Took from say ∷ past) q trust suspicion s = absurd q

-- the state of a table after an input of one instance
pub one_changed : (t u : Instances) (turns new : ℕ → Turns) (suspects : ℕ → Bool) (k : ℕ) → u.suspected ≡ t.suspected
    → ((j : ℕ) → j ≢ k → new j ≡ turns j) → ((j : ℕ) → j ≢ k → get nat_cmp u.running j ≡ get nat_cmp t.running j)
    → ((w : ℕ) → suspected (new k) w ≡ suspected (turns k) w) → IsKept (new k) (get nat_cmp u.running k) → StandsFor t turns suspects → StandsFor u new suspects
one_changed t u turns new suspects k row_same others rest told here s = record {
  row = subst (λ r. IsRow r suspects) (sym row_same) s.row;
  told = λ j w. elim (cases_eq j k) [
    | inl e ↦ subst (λ z. suspected (new z) w ≡ suspects w) (sym e) (told w ∙ s.told k w)
    | inr ne ↦ ap (λ l. suspected l w) (others j ne) ∙ s.told j w
  ];
  kept = λ j. elim (cases_eq j k) [
    | inl e ↦ subst (λ z. IsKept (new z) (get nat_cmp u.running z)) (sym e) here
    | inr ne ↦ subst (λ l. IsKept l (get nat_cmp u.running j)) (sym (others j ne)) (subst (IsKept (turns j)) (sym (rest j ne)) (s.kept j))
  ];
}

pub either_way : {T E P Q R : Type 0} (r : Result T E) → OnOk r P → OnErr r Q → (P → R) → (Q → R) → R
either_way (Ok x) p q f g = f p
either_way (Err e) p q f g = g q

pub all_but : {K V : Type 0} (P : K × V → Type 0) (test : K → Bool) (es : List (K × V)) → All P es → All P (remove_entry test es)
all_but P test [] a = a
all_but P test (e ∷ es) a =
    elim (test e.0) as (λ b. All P (cond b es (e ∷ remove_entry test es))) [
      | true ↦ All-tail P e es a
      | false ↦ All-cons P e (remove_entry test es) (All-head P e es a) (all_but P test es (All-tail P e es a))
    ]

pub all_with : (n me k : ℕ) (i : Instance) (es : List (ℕ × Instance)) → IsSeated n me (k, i) → AreSeated n me es → AreSeated n me (insert_entry nat_cmp es k i)
all_with n me k i [] h a = All-cons (IsSeated n me) (k, i) [] h (All-nil (IsSeated n me))
all_with n me k i (e ∷ es) h a = by_order (nat_cmp k e.0) refl (all_with n me k i es h (All-tail (IsSeated n me) e es a))
  where
    by_order : (o : Ordering) → nat_cmp k e.0 ≡ o → AreSeated n me (insert_entry nat_cmp es k i)
        → AreSeated n me (match_ordering (nat_cmp k e.0) ((k, i) ∷ e ∷ es) ((e.0, i) ∷ es) (e ∷ insert_entry nat_cmp es k i))
    by_order Less is rest = subst (λ o. AreSeated n me (match_ordering o ((k, i) ∷ e ∷ es) ((e.0, i) ∷ es) (e ∷ insert_entry nat_cmp es k i))) (sym is) (All-cons (IsSeated n me) (k, i) (e ∷ es) h a)
    by_order Equal is rest =
        let same : k ≡ e.0 = exact_unsigned k e.0 is in
        subst (λ o. AreSeated n me (match_ordering o ((k, i) ∷ e ∷ es) ((e.0, i) ∷ es) (e ∷ insert_entry nat_cmp es k i))) (sym is)
        (All-cons (IsSeated n me) (e.0, i) es (subst (λ j. IsSeated n me (j, i)) same h) (All-tail (IsSeated n me) e es a))
    by_order Greater is rest =
        subst (λ o. AreSeated n me (match_ordering o ((k, i) ∷ e ∷ es) ((e.0, i) ∷ es) (e ∷ insert_entry nat_cmp es k i))) (sym is)
        (All-cons (IsSeated n me) e (insert_entry nat_cmp es k i) (All-head (IsSeated n me) e es a) rest)

-- the instance under a number
pub seated_at : (n me : ℕ) (m : BTreeMap ℕ Instance) (k : ℕ) (i : Instance) → get nat_cmp m k ≡ Some i → AreSeated n me m.entries → IsSeated n me (k, i)
seated_at n me m k i e a = among m.entries e a
  where
    is_same : (a b : Instance) → Some a ≡ Some b → a ≡ b
    is_same a b e = cc

    among : (es : List (ℕ × Instance)) → lookup (is_at (nat_cmp k)) es ≡ Some i → AreSeated n me es → IsSeated n me (k, i)
    among [] e a = absurd cc
    among (x ∷ es) e a =
        elim (cases_Bool (is_at (nat_cmp k) x.0)) [
          | inl t ↦
              let value : x.1 ≡ i = is_same x.1 i (sym (cond-true (is_at (nat_cmp k) x.0) (Some x.1) (lookup (is_at (nat_cmp k)) es) t) ∙ e) in
              let key : x.0 ≡ k = sym (eqb-true k x.0 (sym (unsigned_tied k x.0) ∙ t)) in
              subst (λ v. IsSeated n me (k, v)) value (subst (λ j. IsSeated n me (j, x.1)) key (All-head (IsSeated n me) x es a))
          | inr f ↦ among es (sym (cond-false (is_at (nat_cmp k) x.0) (Some x.1) (lookup (is_at (nat_cmp k)) es) f) ∙ e) (All-tail (IsSeated n me) x es a)
        ]

-- an undecided instance of which nothing is kept is quiet
quiet_open : (turns : Turns) → decided turns ≡ None → IsKept turns None → Quiet turns
quiet_open turns und (inl q) = q
quiet_open turns und (inr d) = none_is_some d.0 (sym und ∙ d.1)

pub quiet_round : (n : ℕ) (turns : Turns) → decided turns ≡ None → IsKept turns None → (place n turns).round ≡ 0
quiet_round n turns und kept = ap (λ p. p.round) (still n turns (quiet_open turns und kept)).at_first

pub open_stands : (i : Instance) (turns : Turns) → decided turns ≡ None → IsKept turns None → instance.StandsFor i [] → instance.StandsFor i turns
open_stands i turns und kept fresh = quiet_stands i turns (quiet_open turns und kept) (λ past who s. trusting _ _ who _ past s) (λ past who c s. suspecting _ _ who _ past c.place s) fresh

-- the row of suspicions is that of each instance
pub row_of : (row now : List Bool) (suspects : ℕ → Bool) (turns : Turns) → now ≡ row → ((w : ℕ) → suspected turns w ≡ suspects w) → IsRow row suspects → IsRow now (suspected turns)
row_of row now suspects turns same told r = subst (λ l. IsRow l (suspected turns)) (sym same) (λ w lt. r w lt ∙ ap (λ b. Some b) (sym (told w)))

pub undecided_before : (x : Input Act Say) (past : Turns) → decided (x ∷ past) ≡ None → decided past ≡ None
undecided_before (Called act) past e = e
undecided_before (Took from say) past e = first (decided past) e
  where
    first : (o : Option Items) → or_else o (decides say) ≡ None → o ≡ None
    first None h = refl
    first (Some b) h = h
