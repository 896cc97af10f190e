-- What a suspicion leaves of the instances that were told of it, and what they send.
use Rattle.std.proofs.Common.{ℕ, zero, suc, length, ◌+◌, ◌≡◌, ◌<◌, ◌≤◌, inl, inr, eqb, ltb, Bool, true, false, cond, not, List, [], ◌∷◌, ◌++◌, Option, Some, None, refl, sym, ap, ◌∙◌, subst, arith, append_assoc, append-nil, ◌||◌, ◌&&◌}
use Rattle.order_trait.specs.Outbox.{Grows}
use Rattle.std.specs.Prelude.{slice_set}
use Rattle.std.specs.List.{slice_get, AllByRecursion, list_any, flat_map}
use Rattle.std.specs.List.Sorted.{IsStrictlySortedBy}
use Rattle.std.specs.declared.cmp.Ordering.TheVariants.{Less, Equal, Greater}
use Rattle.std.specs.declared.cmp.Ordering.{Ordering}
use Rattle.std.specs.Option.{is_some}
use Rattle.std.specs.Map.{keys_of, lookup}
use Rattle.std.specs.Ordering.{nat_cmp}
use Rattle.std.specs.BTreeMap.{get, insert_entry, is_at}
use Rattle.std.specs.Cmp.{unsigned_tied}
use Rattle.std.proofs.lemmas.Bool.{cases_eq, cases_lt, cond-true, cond-false, eq-eqb, ne_eqb, le-ltb, or_parts, both_ways}
use Rattle.std.proofs.lemmas.List.Elements.{All-append, All-cons, All-head, All-tail}
use Rattle.fifo_net.specs.Net.{Called}
use Rattle.upd_base.specs.declared.body.Body.{Body}
use Rattle.instance_rules.specs.Say.{Suspects, Trusts, Turns}
use Rattle.instance_rules.specs.History.{suspected}
use Rattle.instance_rules.specs.Says.{says, answers}
use Rattle.instance_rules.specs.Place.{place, moves}
use Rattle.instance_rules.specs.Bodies.{in_instance}
use Rattle.consensus_rules.proofs.Picks.{quiet_says}
use Rattle.map_copies.specs.Copies.{Mirrors, MayCopy}
use Rattle.map_copies.proofs.Copies.{found, insert_last}
use Rattle.std.specs.Cmp.{nat_cmp_total}
use Rattle.instance_rules.proofs.Votes.{none_is_some}
use Rattle.ct_consensus.proofs.Longer.{trusting}
use Rattle.ct_consensus.specs.Instance as instance
use Rattle.ct_consensus.specs.Moves.{IsRow}
use Rattle.ct_consensus.specs.declared.instance.Instance.{Instance}
use Rattle.instance_table.specs.Seated.{AreSeated, IsSeated}
use Rattle.instance_table.specs.Table.{Ascend, Covers, IsKept, StandsFor}
use Rattle.instance_table.specs.declared.table.Instances.{Instances}
use Rattle.instance_table.proofs.Kept.{row_of}

-- an instance was told of a suspicion
pub record WasTold (row : List Bool) (who : ℕ) (i j : Instance) : Type 0 where
  pub stands : (past : Turns) → IsRow row (suspected (Called (Suspects who) ∷ past)) → instance.StandsFor i past → instance.StandsFor j (Called (Suspects who) ∷ past)

-- an instance was copied
pub record WasCopied (n me : ℕ) (i j : Instance) : Type 0 where
  pub number : instance.number_of j ≡ instance.number_of i
  pub members : instance.members_of j ≡ instance.members_of i
  pub me_is : instance.me_of j ≡ instance.me_of i
  pub stands : (past : Turns) → instance.StandsFor i past → instance.StandsFor j past

pub copies_seated : (n me : ℕ) (xs ys : List (ℕ × Instance)) → Mirrors (WasCopied n me) xs ys → AreSeated n me xs → AreSeated n me ys
copies_seated n me [] [] m a = a
copies_seated n me [] (y ∷ ys) m a = absurd m
copies_seated n me (x ∷ xs) [] m a = absurd m
copies_seated n me (x ∷ xs) (y ∷ ys) m a =
    let s : IsSeated n me x = All-head (IsSeated n me) x xs a in
    let w : WasCopied n me x.1 y.1 = m.1 in
    All-cons (IsSeated n me) y ys
    (record {
      counts = subst (λ k. 1 ≤ k) m.0 s.counts;
      number = w.number ∙ s.number ∙ m.0;
      members = w.members ∙ s.members;
      me_is = w.me_is ∙ s.me_is;
    })
    (copies_seated n me xs ys m.2 (All-tail (IsSeated n me) x xs a))

pub copy_stands : (t u : Instances) (turns : ℕ → Turns) (suspects : ℕ → Bool) → u.suspected ≡ t.suspected → Mirrors (WasCopied t.members t.me) t.running.entries u.running.entries
    → StandsFor t turns suspects → StandsFor u turns suspects
copy_stands t u turns suspects row_same m s = record {
  row = subst (λ r. IsRow r suspects) (sym row_same) s.row;
  told = s.told;
  kept = λ k. one_kept k (get nat_cmp t.running k) (get nat_cmp u.running k) (found (WasCopied t.members t.me) (is_at (nat_cmp k)) t.running.entries u.running.entries m) (s.kept k);
}
  where
    one_kept : (k : ℕ) (a b : Option Instance) → MayCopy (WasCopied t.members t.me) a b → IsKept (turns k) a → IsKept (turns k) b
    one_kept k None None m kept = kept
    one_kept k None (Some j) m kept = absurd m
    one_kept k (Some i) None m kept = absurd m
    one_kept k (Some i) (Some j) m kept = (kept.0, m.stands (turns k) kept.1)

-- after a suspicion
pub told_stands : (t u : Instances) (turns new : ℕ → Turns) (suspects now : ℕ → Bool) (who : ℕ) → IsRow u.suspected now → Mirrors (WasTold u.suspected who) t.running.entries u.running.entries
    → ((k : ℕ) → new k ≡ Called (Suspects who) ∷ turns k) → ((w : ℕ) → now w ≡ (eqb who w || suspects w)) → StandsFor t turns suspects → StandsFor u new now
told_stands t u turns new suspects now who row m is adds s = record {
  row = row;
  told = λ k w. told_now k w;
  kept = λ k. subst (λ l. IsKept l (get nat_cmp u.running k)) (sym (is k))
      (one_kept k (get nat_cmp t.running k) (get nat_cmp u.running k) (found (WasTold u.suspected who) (is_at (nat_cmp k)) t.running.entries u.running.entries m) (s.kept k));
}
  where
    told_now : (k w : ℕ) → suspected (new k) w ≡ now w
    told_now k w = ap (λ l. suspected l w) (is k) ∙ ap (λ b. eqb who w || b) (s.told k w) ∙ sym (adds w)

    one_kept : (k : ℕ) (a b : Option Instance) → MayCopy (WasTold u.suspected who) a b → IsKept (turns k) a → IsKept (Called (Suspects who) ∷ turns k) b
    one_kept k None None m (inl q) = inl q
    one_kept k None None m (inr d) = inr d
    one_kept k None (Some j) m kept = absurd m
    one_kept k (Some i) None m kept = absurd m
    one_kept k (Some i) (Some j) m kept =
        (kept.0, m.stands (turns k) (row_of u.suspected u.suspected now (Called (Suspects who) ∷ turns k) refl (λ w. sym (ap (λ l. suspected l w) (is k)) ∙ told_now k w) row) kept.1)

-- after the end of one
pub trust_stands : (t u : Instances) (turns new : ℕ → Turns) (suspects now : ℕ → Bool) (who : ℕ) → IsRow u.suspected now → u.running ≡ t.running
    → ((k : ℕ) → new k ≡ Called (Trusts who) ∷ turns k) → ((w : ℕ) → now w ≡ (not (eqb who w) && suspects w)) → StandsFor t turns suspects → StandsFor u new now
trust_stands t u turns new suspects now who row same is takes s = record {
  row = row;
  told = λ k w. ap (λ l. suspected l w) (is k) ∙ ap (λ b. not (eqb who w) && b) (s.told k w) ∙ sym (takes w);
  kept = λ k. subst (λ l. IsKept l (get nat_cmp u.running k)) (sym (is k)) (subst (λ r. IsKept (Called (Trusts who) ∷ turns k) (get nat_cmp r k)) (sym same) (one_kept k (get nat_cmp t.running k) (s.kept k)));
}
  where
    one_kept : (k : ℕ) (a : Option Instance) → IsKept (turns k) a → IsKept (Called (Trusts who) ∷ turns k) a
    one_kept k None (inl q) = inl q
    one_kept k None (inr d) = inr d
    one_kept k (Some i) kept = (kept.0, trusting _ _ who _ (turns k) kept.1)

-- among the numbers
abbrev pub has : ℕ → List ℕ → Bool
has k js = list_any (λ j. eqb j k) js

above : (k low : ℕ) (js : List ℕ) → Ascend low js → k < low → has k js ≡ false
above k low [] a lt = refl
above k low (j ∷ js) a lt =
    let le : low ≤ j = a.0 in
    ap (λ b. b || has k js) (ne_eqb j k (λ e. omega (arith, e, le, lt))) ∙ above k (j + 1) js a.1 (omega (arith, le, lt))

none_given : (f : ℕ → List (ℕ × Body)) (low : ℕ) (js : List ℕ) → Ascend low js → ((k : ℕ) → low ≤ k → f k ≡ []) → flat_map f js ≡ []
none_given f low [] a h = refl
none_given f low (j ∷ js) a h =
    let le : low ≤ j = a.0 in
    ap (λ l. l ++ flat_map f js) (h j le) ∙ none_given f (j + 1) js a.1 (λ k more. h k (omega (arith, le, more)))

-- Of two ascending lists of numbers, where what is outside one of them gives nothing.
pub same_given : (f : ℕ → List (ℕ × Body)) (low : ℕ) (is js : List ℕ) → Ascend low is → Ascend low js
    → ((k : ℕ) → low ≤ k → has k js ≡ false → f k ≡ []) → ((k : ℕ) → low ≤ k → has k is ≡ false → f k ≡ []) → flat_map f is ≡ flat_map f js
same_given f low [] js a b out_j out_i = sym (none_given f low js b (λ k le. out_i k le refl))
same_given f low (i ∷ is) [] a b out_j out_i = none_given f low (i ∷ is) a (λ k le. out_j k le refl)
same_given f low (i ∷ is) (j ∷ js) a b out_j out_i =
    let li : low ≤ i = a.0 in
    let lj : low ≤ j = b.0 in
    elim (cases_eq i j) [
      | inl e ↦
          ap (λ k. f k ++ flat_map f is) e
          ∙ ap (λ l. f j ++ l) (same_given f (j + 1) is js (subst (λ k. Ascend (k + 1) is) e a.1) b.1
          (λ k more out. out_j k (omega (arith, lj, more)) (ap (λ t. t || has k js) (ne_eqb j k (λ s. omega (arith, s, more))) ∙ out))
          (λ k more out. out_i k (omega (arith, lj, more)) (ap (λ t. t || has k is) (ne_eqb i k (λ s. omega (arith, s, e, more))) ∙ out)))
      | inr ne ↦ elim (cases_lt i j) [
        | inl lt ↦
            ap (λ l. l ++ flat_map f is) (out_j i li (above i j (j ∷ js) (omega arith, b.1) lt))
            ∙ same_given f (i + 1) is (j ∷ js) a.1 (omega (arith, lt), b.1)
            (λ k more out. out_j k (omega (arith, li, more)) out)
            (λ k more out. out_i k (omega (arith, li, more)) (ap (λ t. t || has k is) (ne_eqb i k (λ s. omega (arith, s, more))) ∙ out))
        | inr ge ↦
            let gt : j < i = omega (arith, ge, ne) in
            same_given f (j + 1) (i ∷ is) js (omega (arith, gt), a.1) b.1
            (λ k more out. out_j k (omega (arith, lj, more)) (ap (λ t. t || has k js) (ne_eqb j k (λ s. omega (arith, s, more))) ∙ out))
            (λ k more out. out_i k (omega (arith, lj, more)) out)
            ∙ sym (ap (λ l. l ++ flat_map f js) (out_i j lj (above j i (i ∷ is) (omega arith, a.1) gt)))
      ]
    ]

-- the keys of a map ascend
less_lt : (x y : ℕ) → nat_cmp x y ≡ Less → x < y
less_lt x y e =
    elim (cases_lt x y) [
      | inl lt ↦ lt
      | inr ge ↦ absurd (not_less (cond (eqb x y) Equal Greater) (sym (cond-false (ltb x y) Less (cond (eqb x y) Equal Greater) (le-ltb x y ge)) ∙ e) (eqb x y) refl)
    ]
  where
    not_less : (o : Ordering) → o ≡ Less → (b : Bool) → cond b Equal Greater ≡ o → ⊥
    not_less o is true e = absurd cc
    not_less o is false e = absurd cc

pub keys_ascend : (low : ℕ) (ks : List ℕ) → AllByRecursion (λ k. low ≤ k) ks → IsStrictlySortedBy nat_cmp ks → Ascend low ks
unfolding IsStrictlySortedBy
keys_ascend low [] h s = tt
keys_ascend low (k ∷ ks) h s = (h.0, keys_ascend (k + 1) ks (all_above ks s.0) s.1)
  where
    all_above : (js : List ℕ) → AllByRecursion (λ j. nat_cmp k j ≡ Less) js → AllByRecursion (λ j. k + 1 ≤ j) js
    all_above [] a = a
    all_above (j ∷ js) a = (let lt : k < j = less_lt k j a.0 in omega arith, all_above js a.1)

from_zero : (ks : List ℕ) → AllByRecursion (λ k. 0 ≤ k) ks
from_zero [] = tt
from_zero (k ∷ ks) = (omega arith, from_zero ks)

-- an instance that is not in the map sends nothing, nor one that is not among the numbers
absent : {V : Type 0} (k : ℕ) (es : List (ℕ × V)) → has k (keys_of es) ≡ false → lookup (is_at (nat_cmp k)) es ≡ None
absent k [] e = refl
absent {V} k (x ∷ es) e =
    let p : (eqb x.0 k ≡ false) × (has k (keys_of es) ≡ false) = or_parts (eqb x.0 k) (has k (keys_of es)) e in
    cond-false (is_at (nat_cmp k) x.0) (Some x.1) (lookup (is_at (nat_cmp k)) es) (unsigned_tied k x.0 ∙ ne_eqb k x.0 (λ s. both_ways (eqb x.0 k) p.0 (eq-eqb x.0 k (sym s))))
    ∙ absent k es p.1

pub told_sends : (n me who : ℕ) (t : Instances) (turns : ℕ → Turns) (suspects : ℕ → Bool) (numbers : List ℕ) → IsStrictlySortedBy nat_cmp (keys_of t.running.entries) → Covers turns numbers → StandsFor t turns suspects
    → flat_map (λ k. in_instance k (says n me (Called (Suspects who) ∷ turns k))) (keys_of t.running.entries) ≡ flat_map (λ k. in_instance k (says n me (Called (Suspects who) ∷ turns k))) numbers
told_sends n me who t turns suspects numbers sorted c s =
    same_given (λ k. in_instance k (says n me (Called (Suspects who) ∷ turns k))) 0 (keys_of t.running.entries) numbers (keys_ascend 0 (keys_of t.running.entries) (from_zero (keys_of t.running.entries)) sorted) c.ascend
    (λ k le out. ap (in_instance k) (quiet_says n me who (turns k) (c.others k out)))
    (λ k le out. ap (in_instance k) (silent k (subst (IsKept (turns k)) (absent k t.running.entries out) (s.kept k))))
  where
    silent : (k : ℕ) → IsKept (turns k) None → says n me (Called (Suspects who) ∷ turns k) ≡ []
    silent k (inl q) = quiet_says n me who (turns k) q
    silent k (inr d) = ap (λ o. cond (is_some o) [] ((moves n (turns k) (Called (Suspects who)) (place n (turns k))).says ++ answers n me (turns k) (Called (Suspects who)))) d.1

-- each of these instances is as its inputs leave it
abbrev pub Stood : (ℕ → Turns) → List (ℕ × Instance) → Type 0
Stood turns [] = Unit {0}
Stood turns (e ∷ es) = instance.StandsFor e.1 (turns e.0) × Stood turns es

pub stood_at : (turns : ℕ → Turns) (xs : List (ℕ × Instance)) (k : ℕ) (i : Instance) (ys : List (ℕ × Instance)) → Stood turns (xs ++ (k, i) ∷ ys) → instance.StandsFor i (turns k)
stood_at turns [] k i ys s = s.0
stood_at turns (x ∷ xs) k i ys s = stood_at turns xs k i ys s.1

some_is : (a b : Instance) → Some a ≡ Some b → a ≡ b
some_is a b e = cc

stood_from : (turns : ℕ → Turns) (low : ℕ) (es : List (ℕ × Instance)) → Ascend low (keys_of es)
    → ((k : ℕ) (i : Instance) → lookup (is_at (nat_cmp k)) es ≡ Some i → instance.StandsFor i (turns k)) → Stood turns es
stood_from turns low [] a h = tt
stood_from turns low (e ∷ es) a h = (
  h e.0 e.1 (cond-true (is_at (nat_cmp e.0) e.0) (Some e.1) (lookup (is_at (nat_cmp e.0)) es) (unsigned_tied e.0 e.0 ∙ eq-eqb e.0 e.0 refl)),
  stood_from turns (e.0 + 1) es a.1
      (λ k i found_there. elim (cases_eq k e.0) [
        | inl same ↦
            let none : lookup (is_at (nat_cmp k)) es ≡ None = absent k es (above k (e.0 + 1) (keys_of es) a.1 (omega (arith, same))) in
            none_is_some i (sym none ∙ found_there)
        | inr ne ↦ h k i (cond-false (is_at (nat_cmp k) e.0) (Some e.1) (lookup (is_at (nat_cmp k)) es) (unsigned_tied k e.0 ∙ ne_eqb k e.0 ne) ∙ found_there)
      ]),
)

pub stood_all : (t : Instances) (turns : ℕ → Turns) (suspects : ℕ → Bool) → IsStrictlySortedBy nat_cmp (keys_of t.running.entries) → StandsFor t turns suspects → Stood turns t.running.entries
stood_all t turns suspects sorted s =
    stood_from turns 0 t.running.entries (keys_ascend 0 (keys_of t.running.entries) (from_zero (keys_of t.running.entries)) sorted)
    (λ k i e. (subst (IsKept (turns k)) e (s.kept k)).1)

-- how far a suspicion has been told
pub record ToldSoFar (n me who : ℕ) (row : List Bool) (all rest now : List (ℕ × Instance)) (old new : List (ℕ × Body)) : Type 0 where
  pub done : List (ℕ × Instance)
  pub whole : done ++ rest ≡ all
  pub told : Mirrors (WasTold row who) done now
  pub sent : (turns : ℕ → Turns) → ((k : ℕ) → IsRow row (suspected (Called (Suspects who) ∷ turns k))) → Stood turns all
      → new ≡ old ++ flat_map (λ k. in_instance k (says n me (Called (Suspects who) ∷ turns k))) (keys_of done)

pub tell_one : (n me who : ℕ) (row : List Bool) (all rest left now then_ : List (ℕ × Instance)) (old new newer : List (ℕ × Body)) (k : ℕ) (i j : Instance)
    → IsStrictlySortedBy nat_cmp (keys_of all) → rest ≡ (k, i) ∷ left → WasTold row who i j → then_ ≡ insert_entry nat_cmp now k j
    → ((past : Turns) → IsRow row (suspected (Called (Suspects who) ∷ past)) → instance.StandsFor i past → newer ≡ new ++ in_instance k (says n me (Called (Suspects who) ∷ past)))
    → ToldSoFar n me who row all rest now old new → ToldSoFar n me who row all left then_ old newer
tell_one n me who row all rest left now then_ old new newer k i j sorted first told is gives f =
    let whole : f.done ++ (k, i) ∷ left ≡ all = ap (λ l. f.done ++ l) (sym first) ∙ f.whole in
    record {
      done = f.done ++ (k, i) ∷ [];
      whole = append_assoc f.done ((k, i) ∷ []) left ∙ whole;
      told = subst (Mirrors (WasTold row who) (f.done ++ (k, i) ∷ [])) (sym is)
          (insert_last nat_cmp nat_cmp_total (WasTold row who) f.done now (k, i) j left f.told told (subst (λ l. IsStrictlySortedBy nat_cmp (keys_of l)) (sym whole) sorted));
      sent = λ turns rows stood.
          let g : ℕ → List (ℕ × Body) = (λ k. in_instance k (says n me (Called (Suspects who) ∷ turns k))) in
          gives (turns k) (rows k) (stood_at turns f.done k i left (subst (Stood turns) (sym whole) stood))
          ∙ ap (λ l. l ++ g k) (f.sent turns rows stood)
          ∙ append_assoc old (flat_map g (keys_of f.done)) (g k)
          ∙ ap (λ l. old ++ l) (sym (flat_push g f.done k i));
    }
  where
    flat_push : (g : ℕ → List (ℕ × Body)) (xs : List (ℕ × Instance)) (k : ℕ) (i : Instance) → flat_map g (keys_of (xs ++ (k, i) ∷ [])) ≡ flat_map g (keys_of xs) ++ g k
    flat_push g [] k i = append-nil (g k)
    flat_push g (x ∷ xs) k i = ap (λ l. g x.0 ++ l) (flat_push g xs k i) ∙ sym (append_assoc (g x.0) (flat_map g (keys_of xs)) (g k))

-- the row with one more
pub row_set : (row : List Bool) (suspects now : ℕ → Bool) (who place : ℕ) → place ≡ who → who < 7 → ((w : ℕ) → now w ≡ (eqb who w || suspects w)) → IsRow row suspects → IsRow (slice_set row place true) now
row_set row suspects now who place at fits adds r w lt =
    elim (cases_eq who w) [
      | inl e ↦
          subst (λ z. slice_get (slice_set row place true) z ≡ Some (now z)) e
          (ap (λ z. slice_get (slice_set row z true) who) at ∙ set_here row who (suspects who) (r who fits) ∙ ap (λ b. Some b) (sym (adds who ∙ ap (λ b. b || suspects who) (eq-eqb who who refl))))
      | inr ne ↦
          ap (λ z. slice_get (slice_set row z true) w) at ∙ set_away row who w ne ∙ r w lt ∙ ap (λ b. Some b) (sym (adds w ∙ ap (λ b. b || suspects w) (ne_eqb who w ne)))
    ]
  where
    set_here : (row : List Bool) (i : ℕ) (b : Bool) → slice_get row i ≡ Some b → slice_get (slice_set row i true) i ≡ Some true
    set_here [] i b e = none_is_some b e
    set_here (x ∷ xs) zero b e = refl
    set_here (x ∷ xs) (suc i) b e = set_here xs i b e

    set_away : (row : List Bool) (i j : ℕ) → (i ≡ j → ⊥) → slice_get (slice_set row i true) j ≡ slice_get row j
    set_away [] i j ne = refl
    set_away (x ∷ xs) zero zero ne = absurd (ne refl)
    set_away (x ∷ xs) zero (suc j) ne = refl
    set_away (x ∷ xs) (suc i) zero ne = refl
    set_away (x ∷ xs) (suc i) (suc j) ne = set_away xs i j (λ e. ne (ap suc e))

pub all_told : (n me who : ℕ) (row : List Bool) (all rest now : List (ℕ × Instance)) (old new : List (ℕ × Body)) (f : ToldSoFar n me who row all rest now old new) → rest ≡ [] → f.done ≡ all
all_told n me who row all rest now old new f none = sym (append-nil f.done) ∙ ap (λ l. f.done ++ l) (sym none) ∙ f.whole

pub no_entries : {A : Type 0} (xs : List A) → (0 < length xs → ⊥) → xs ≡ []
no_entries [] h = refl
no_entries (x ∷ xs) h = absurd (h (omega arith))

pub grows_more : {A : Type 0} (P : A → Type 0) (xs ys zs : List A) → Grows P xs ys → Grows P ys zs → Grows P xs zs
grows_more P xs ys zs a b =
    (a.0 ++ b.0, b.1 ∙ ap (λ l. l ++ b.0) a.1 ∙ append_assoc xs a.0 b.0, All-append P a.0 b.0 a.2 b.2)

pub never : false ≡ true → ⊥
never e = absurd cc
