-- Each step keeps the rule.
use Rattle.std.proofs.Common.{◌≡◌, ◌≢◌, ℕ, zero, suc, ◌+◌, ◌%◌, ◌^◌, ◌<◌, ◌≤◌, eqb, List, [], ◌∷◌, ◌++◌, length, get_or, set, refl, sym, ap, ◌∙◌, subst, mod-eq_of_lt, arith}
use Rattle.std.specs.Prelude.{Option, Some, None}
use Rattle.std.specs.List.{sum_by}
use mathlib.Core.Option.{none, some, some-ne-none, some-injective}
use mathlib.Core.Option as maybe
use lib.ListN.{get_elem?}
use Rattle.std.proofs.lemmas.Bool.Decides.{nat_tests}
use mathlib.Core.Logic.{dite}
use native.Mathlib.Decide.{ℕ_discrete}
use lib.Seq.{set-get_or}
use prog.Atomic.{either}
use Rattle.atomic_table.specs.Table.{State, Step, rest, Act, keeps, takes, gives, step, stepped, homes_after, Allows, Splits, Joins, Valid, carried_after, opening, Final, Seen}
use Rattle.atomic_table.proofs.Lists.{set_here, set_else, set_again, at_longer, exchanged}
use Rattle.turn_lock.specs.declared.pass.TheConstants.{PARTS}
use Rattle.turn_lock.specs.declared.view.View.{View}
use Rattle.turn_lock.specs.declared.stage.Stage.{Stage}
use Rattle.turn_lock.specs.declared.stage.Stage.TheVariants.{Idle, Waits, Turns, Joined}
use Rattle.turn_lock.specs.Lists.{IsPrefix, AddsAtMostOne, longer}
use Rattle.turn_lock.specs.Places.{times, within, Ascends, new_places}
use Rattle.turn_lock.specs.Stage.{HasTicket, ticket_count, IsInTurn, noted_at}
use Rattle.turn_lock.specs.View.{first_view, with_stage, after_turn, less_one_part, one_part_of, both_views, spent_view}
use Rattle.turn_lock.specs.Rule.{StageFits, Fits, HomeFits, Keeps}
use Rattle.turn_lock.specs.Steps.{Holds, Drew, Looked, Compared, Finished}
use Rattle.turn_lock.proofs.Lists.{IsPrefix-self, IsPrefix-trans, IsPrefix-length, IsPrefix-both, IsPrefix-adds}
use Rattle.turn_lock.proofs.Sums.{sum_by-two, sum_by-alone, Ascends-new_places, times-new_places, places_whole}
use Rattle.turn_lock.proofs.Tallies.{Each, each_set, each_snoc, free_idle, changed, divided, united}

module _ {T E : Type 0} (list : T → List E) where
  idle_out : (st : Stage E) → st ≡ Idle → ¬ IsInTurn st
  idle_out st e h = subst IsInTurn e h

  -- a view in no turn stays in none
  home_stays : (c : List E) (views : List (View E)) (i : ℕ) (v w : View E) (home : maybe.Option (Option T)) → get_elem? views i ≡ some v → ¬ IsInTurn v.stage → ¬ IsInTurn w.stage
      → HomeFits list c views home → HomeFits list c (set views i w) home
  home_stays c views i v w none at nv nw h = (h.0, h.1, set_else views i h.0 w (λ e. nv (subst (λ (z : View E). IsInTurn z.stage) (some-injective _ _ (sym h.2 ∙ ap (get_elem? views) e ∙ at)) h.3)) ∙ h.2, h.3)
  home_stays c views i v w (some None) at nv nw h = h
  home_stays c views i v w (some (Some x)) at nv nw h = (h.0, each_set (λ (u : View E). ¬ IsInTurn u.stage) views i w (λ j u _ e. h.1 j u e) nw)

  home_longer : (c : List E) (views : List (View E)) (w : View E) (home : maybe.Option (Option T)) → ¬ IsInTurn w.stage → HomeFits list c views home → HomeFits list c (views ++ w ∷ []) home
  home_longer c views w none nw h = (h.0, h.1, at_longer views (w ∷ []) h.0 h.1 h.2, h.3)
  home_longer c views w (some None) nw h = h
  home_longer c views w (some (Some x)) nw h = (h.0, each_snoc (λ (u : View E). ¬ IsInTurn u.stage) views w h.1 nw)

  pub splits : (first : List E) (id : ℕ) (v : View E) → v.stage ≡ Idle → 2 ≤ v.parts → Splits (Keeps list first) id v (less_one_part v) (one_part_of v)
  splits first id v idle two s h at =
      let out = idle_out v.stage idle in record {
        drawn = h.drawn;
        served = h.served;
        committed = h.committed;
        home = h.home;
        words_are = h.words_are;
        small = h.small;
        homes_are = h.homes_are;
        begins = h.begins;
        home_fits = home_longer h.committed (set s.views id (less_one_part v)) (one_part_of v) h.home (λ z. z) (home_stays h.committed s.views id v (less_one_part v) h.home at out out h.home_fits);
        views_fit = divided (length first) h.served h.drawn h.committed s.views id v h.views_fit at two;
      }

  pub joins : (first : List E) (id : ℕ) (v : View E) (other : ℕ) (w : View E) → 0 < v.parts → v.stage ≡ Idle → w.stage ≡ Idle → Joins (Keeps list first) id v other w (both_views v w) spent_view
  joins first id v other w alive vi wi s h at ne to =
      let b = both_views v w in
      let vs = set s.views id b in
      let out = idle_out v.stage vi in
      let to' : get_elem? s.views other ≡ some w = sym (set_else s.views id other b ne) ∙ to in record {
        drawn = h.drawn;
        served = h.served;
        committed = h.committed;
        home = h.home;
        words_are = h.words_are;
        small = h.small;
        homes_are = h.homes_are;
        begins = h.begins;
        home_fits = home_stays h.committed vs other w spent_view h.home to (idle_out w.stage wi) (λ z. z) (home_stays h.committed s.views id v b h.home at out (λ z. z) h.home_fits);
        views_fit = united (length first) h.served h.drawn h.committed s.views id other v w h.views_fit at ne to' alive vi wi;
      }

  waits_once : (st : Stage E) (t t' : ℕ) → st ≡ Waits t → st ≡ Waits t' → t ≡ t'
  waits_once st t t' a b = cc

  same_value : (cs : List (ℕ × Option T)) (x x' : T) → cs ≡ (0, Some x) ∷ [] → cs ≡ (0, Some x') ∷ [] → x ≡ x'
  same_value cs x x' a b =
      let pairs : Path (ℕ × Option T) (0, Some x) (0, Some x') = cc (a, b) in
      let values : Path (Option T) (Some x) (Some x') = ap (λ (p : ℕ × Option T). p.1) pairs in
      cc (values)

  -- what a look tells that found the ticket
  taken : (st : Step (Option T)) (m m' : Holds T E) (t n : ℕ) → Looked list st m n m' → m.0.stage ≡ Waits t → m.1 ≡ [] → n ≡ t → (x : T) × (m' ≡ (with_stage m.0 (Turns t (list x)), (0, Some x) ∷ [])) × IsPrefix m.0.seen (list x)
  taken st m m' t n looked waiting empty is = let k = (looked t waiting).0 is in (k.0, k.1 ∙ ap (λ z. (with_stage m.0 (Turns t (list k.0)), (0, Some k.0) ∷ z)) empty, k.2)

  at_length : (views : List (View E)) (i : ℕ) (v : View E) → get_elem? views i ≡ some v → i < length views
  at_length [] i v at = absurd (some-ne-none v (sym at))
  at_length (x ∷ xs) zero v at = omega arith
  at_length (x ∷ xs) (suc i) v at = let r = at_length xs i v at in omega arith

  -- a step that leaves the words and changes no view
  unmoved : (first : List E) (s : State (Option T) (View E)) (i id : ℕ) (cs : List (ℕ × Option T)) (v : View E) → Keeps list first s → get_elem? s.views id ≡ some v
      → Keeps list first (stepped s i (get_or s.words i 0) id cs v keeps)
  unmoved first s i id cs v h at = subst (Keeps list first) (λ k. record { words = sym (set-get_or s.words i 0) k; homes = s.homes; views = sym (set_again s.views id v at) k }) h

  -- no stage that fits has a ticket that was not drawn
  beyond : (t served drawn : ℕ) (c : List E) (st : Stage E) → StageFits served drawn c st → HasTicket st t → drawn ≤ t → ⊥
  beyond t served drawn c Idle f has le = has
  beyond t served drawn c (Waits u) f has le = absurd (omega arith)
  beyond t served drawn c (Turns u noted) f has le = absurd (omega arith)
  beyond t served drawn c (Joined a b) f has le = has

  later : (served drawn drawn' : ℕ) (c : List E) (st : Stage E) → drawn ≤ drawn' → StageFits served drawn c st → StageFits served drawn' c st
  later served drawn drawn' c Idle le f = tt
  later served drawn drawn' c (Waits u) le f = (f.0, omega arith)
  later served drawn drawn' c (Turns u noted) le f = (f.0, omega arith, f.2)
  later served drawn drawn' c (Joined a b) le f = f

  draws : (first : List E) (slots id : ℕ) (me : Holds T E) (old : ℕ) → 0 < me.0.parts → me.0.stage ≡ Idle → old + 1 < 18446744073709551616
      → Allows (Keeps list first) slots id me 0 (λ n. either (eqb n old) (old + 1) n) (Drew (step slots 0 old (old + 1) none) me)
  draws first slots id me old alive idle small s h wide at lt =
      let n : ℕ = get_or s.words 0 0 in
      let v = me.0 in
      let is : n ≡ h.drawn = ap (λ ws. get_or ws 0 0) h.words_are in
      let out : ¬ IsInTurn v.stage = idle_out v.stage idle in
      let counted = h.views_fit.tickets in
      let F : ℕ → Type 0 = λ k. (w : View E) × (a : Act (Option T)) × Valid s.homes me.1 a × Keeps list first (stepped s 0 k id me.1 w a) × Drew (step slots 0 old (old + 1) none) me n (w, carried_after me.1 a) in
      exchanged n old (old + 1) F
      (λ e. let w = with_stage v (Waits n) in (
        w,
        keeps,
        tt,
        record {
          drawn = old + 1;
          served = h.served;
          committed = h.committed;
          home = h.home;
          words_are = ap (λ ws. set ws 0 (old + 1)) h.words_are;
          small = small;
          homes_are = h.homes_are;
          begins = h.begins;
          home_fits = home_stays h.committed s.views id v w h.home at out (λ z. z) h.home_fits;
          views_fit = changed (length first) h.served h.drawn h.served (old + 1) h.committed h.committed s.views id v w h.views_fit at
              (let z : ticket_count v.stage ≡ 0 = ap ticket_count idle in omega arith)
              (λ t j u ne to mine theirs. beyond t h.served h.drawn h.committed u.stage (h.views_fit.each j u to).stage theirs (omega arith))
              (λ j u ne to f. record { stage = later h.served h.drawn (old + 1) h.committed u.stage (omega arith) f.stage; seen = f.seen; own = f.own; spent = f.spent })
              (let f = h.views_fit.each id v at in record { stage = (omega arith, omega arith); seen = f.seen; own = f.own; spent = λ z. absurd (omega arith) })
              (λ p. refl)
              refl;
        },
        ((λ _. refl), (λ ne. absurd (ne e))),
      ))
      (λ ne. (v, keeps, tt, unmoved first s 0 id me.1 v h at, ((λ e. absurd (ne e)), (λ _. refl))))

  joined_once : (st : Stage E) (a b a' b' : List E) → st ≡ Joined a b → st ≡ Joined a' b' → (a ≡ a') × (b ≡ b')
  joined_once st a b a' b' x y = (cc, cc)

  compares : (first : List E) (slots id : ℕ) (me : Holds T E) (a b : List E) → 0 < me.0.parts → me.0.stage ≡ Joined a b
      → Allows (Keeps list first) slots id me 0 (λ n. n) (Compared (step slots 0 0 0 none) me)
  compares first slots id me a b alive joined s h wide at lt =
      let v = me.0 in
      let w = with_stage v Idle in
      let f = h.views_fit.each id v at in
      let fs = subst (StageFits h.served h.drawn h.committed) joined f.stage in
      let out : ¬ IsInTurn v.stage = λ z. subst IsInTurn joined z in
      let told = IsPrefix-both a b h.committed fs.0 fs.1 in (
        w,
        keeps,
        tt,
        record {
          drawn = h.drawn;
          served = h.served;
          committed = h.committed;
          home = h.home;
          words_are = set-get_or s.words 0 0 ∙ h.words_are;
          small = h.small;
          homes_are = h.homes_are;
          begins = h.begins;
          home_fits = home_stays h.committed s.views id v w h.home at out (λ z. z) h.home_fits;
          views_fit = changed (length first) h.served h.drawn h.served h.drawn h.committed h.committed s.views id v w h.views_fit at
              (let z : ticket_count v.stage ≡ 0 = ap ticket_count joined in omega arith)
              (free_idle s.views id w refl)
              (λ j u ne to f'. f')
              record { stage = tt; seen = f.seen; own = f.own; spent = λ z. absurd (omega arith) }
              (λ p. refl)
              refl;
        },
        (λ a' b' is. let e = joined_once v.stage a b a' b' joined is in let t = subst (λ (x : List E × List E). IsPrefix x.0 (longer x.0 x.1) × IsPrefix x.1 (longer x.0 x.1)) (λ i. (e.0 i, e.1 i)) told in (refl, t.0, t.1, f.own)),
      )

  -- the view in a turn has the ticket that is next
  turning : (served drawn : ℕ) (c : List E) (st : Stage E) → StageFits served drawn c st → IsInTurn st → HasTicket st served × (noted_at st ≡ c) × (served < drawn) × (ticket_count st ≡ 1)
  turning served drawn c Idle f h = absurd h
  turning served drawn c (Waits u) f h = absurd h
  turning served drawn c (Turns u noted) f h = (f.0, f.2, omega arith, refl)
  turning served drawn c (Joined a b) f h = absurd h

  looks : (first : List E) (slots id : ℕ) (me : Holds T E) (t : ℕ) → 0 < me.0.parts → me.0.stage ≡ Waits t
      → Allows (Keeps list first) slots id me 1 (λ n. n) (Looked list (step slots 1 0 0 none) me)
  looks first slots id me t alive waiting s h wide at lt =
      let n : ℕ = get_or s.words 1 0 in
      dite (ℕ_discrete n t)
      (λ e. take_home e h.home h.homes_are h.home_fits)
      (λ ne. (me.0, keeps, tt, unmoved first s 1 id me.1 me.0 h at, (λ t' w'. ((λ e. absurd (ne (e ∙ sym (same_ticket t' w')))), (λ _. refl)))))
    where
      same_ticket : (t' : ℕ) → me.0.stage ≡ Waits t' → t ≡ t'
      same_ticket t' w' = waits_once me.0.stage t t' waiting w'

      is : get_or s.words 1 0 ≡ h.served
      is = ap (λ ws. get_or ws 1 0) h.words_are

      Result : Type 0
      Result = (w : View E) × (a : Act (Option T)) × Valid s.homes me.1 a × Keeps list first (stepped s 1 (get_or s.words 1 0) id me.1 w a) × Looked list (step slots 1 0 0 none) me (get_or s.words 1 0) (w, carried_after me.1 a)

      take_home : get_or s.words 1 0 ≡ t → (home : maybe.Option (Option T)) → s.homes ≡ home ∷ [] → HomeFits list h.committed s.views home → Result
      take_home e none hs out =
          let mine : HasTicket me.0.stage h.served = subst (λ (z : Stage E). HasTicket z h.served) (sym waiting) (sym e ∙ is) in
          let theirs = turning h.served h.drawn h.committed out.1.stage (h.views_fit.each out.0 out.1 out.2).stage out.3 in
          let same = h.views_fit.apart out.0 id h.served out.1 me.0 out.2 at theirs.0 mine in
          let u : out.1 ≡ me.0 = some-injective _ _ (sym out.2 ∙ (ap (get_elem? s.views) same ∙ at)) in
          absurd (subst IsInTurn (ap (λ (z : View E). z.stage) u ∙ waiting) out.3)
      take_home e (some None) hs out = absurd out
      take_home e (some (Some x)) hs out =
          let v = me.0 in
          let w = with_stage v (Turns t (list x)) in
          let f = h.views_fit.each id v at in
          let fs = subst (StageFits h.served h.drawn h.committed) waiting f.stage in (
            w,
            takes 0 (Some x),
            ap (λ l. get_elem? l 0) hs,
            record {
              drawn = h.drawn;
              served = h.served;
              committed = h.committed;
              home = none;
              words_are = set-get_or s.words 1 0 ∙ h.words_are;
              small = h.small;
              homes_are = ap (λ l. set l 0 none) hs;
              begins = h.begins;
              home_fits = (id, w, set_here s.views id w (at_length s.views id v at), tt);
              views_fit = changed (length first) h.served h.drawn h.served h.drawn h.committed h.committed s.views id v w h.views_fit at
                  (let z : ticket_count v.stage ≡ 1 = ap ticket_count waiting in omega arith)
                  (λ t' j u ne to mine theirs. ne (h.views_fit.apart j id t' u v to at theirs (subst (λ (z : Stage E). HasTicket z t') (sym waiting) mine)))
                  (λ j u ne to f'. f')
                  record { stage = (sym e ∙ is, omega arith, out.0); seen = f.seen; own = f.own; spent = λ z. absurd (omega arith) }
                  (λ p. refl)
                  refl;
            },
            (λ t' w'. ((λ _. (x, ap (λ (k : ℕ). (with_stage v (Turns k (list x)), (0, Some x) ∷ me.1)) (same_ticket t' w'), (f.seen.0, out.0 ∙ f.seen.1))), (λ ne. absurd (ne (e ∙ same_ticket t' w'))))),
          )

  next_fits : (served drawn : ℕ) (c c' : List E) (st : Stage E) → IsPrefix c c' → StageFits served drawn c st → (HasTicket st served → ⊥) → StageFits (served + 1) drawn c' st
  next_fits served drawn c c' Idle more f other = tt
  next_fits served drawn c c' (Waits u) more f other = let ne : u ≢ served = other in (omega arith, f.1)
  next_fits served drawn c c' (Turns u noted) more f other = absurd (other f.0)
  next_fits served drawn c c' (Joined a b) more f other = (IsPrefix-trans a c c' f.0 more, IsPrefix-trans b c c' f.1 more)

  hands : (first : List E) (slots id : ℕ) (me : Holds T E) (x : T) → 0 < me.0.parts → IsInTurn me.0.stage → me.1 ≡ (0, Some x) ∷ [] → AddsAtMostOne (noted_at me.0.stage) (list x)
      → Allows (Keeps list first) slots id me 1 (λ n. (n + 1) % 2 ^ 64) (Finished list (step slots 1 1 0 none) me)
  hands first slots id me x alive turn has adds s h wide at lt =
      let v = me.0 in
      let n : ℕ = get_or s.words 1 0 in
      let l = list x in
      let c = h.committed in
      let noted = noted_at v.stage in
      let is : n ≡ h.served = ap (λ ws. get_or ws 1 0) h.words_are in
      let f = h.views_fit.each id v at in
      let now = turning h.served h.drawn c v.stage f.stage turn in
      let adds' : AddsAtMostOne c l = subst (λ (z : List E). AddsAtMostOne z l) now.1 adds in
      let more = IsPrefix-adds c l adds' in
      let w = after_turn v noted l in
      let small = h.small in
      let k : (n + 1) % 2 ^ 64 ≡ h.served + 1 = ap (λ z. (z + 1) % 2 ^ 64) is ∙ mod-eq_of_lt (omega arith) in
      let none_else : (j : ℕ) (u : View E) → j ≢ id → get_elem? s.views j ≡ some u → HasTicket u.stage h.served → ⊥ = λ j u ne to has'. ne (h.views_fit.apart j id h.served u v to at has' now.0) in
      let own_is : v.own ++ new_places noted l ≡ v.own ++ new_places c l = ap (λ (z : List E). v.own ++ new_places z l) now.1 in (
        w,
        gives,
        tt,
        record {
          drawn = h.drawn;
          served = h.served + 1;
          committed = l;
          home = some (Some x);
          words_are = ap (λ ws. set ws 1 ((n + 1) % 2 ^ 64)) h.words_are ∙ ap (λ z. h.drawn ∷ z ∷ []) k;
          small = h.small;
          homes_are = ap (λ cs. homes_after s.homes cs gives) has ∙ ap (λ hs. set hs 0 (some (Some x))) h.homes_are;
          begins = IsPrefix-trans first c l h.begins more;
          home_fits = (refl, each_set (λ (u : View E). ¬ IsInTurn u.stage) s.views id w (λ j u ne to t. none_else j u ne to (turning h.served h.drawn c u.stage (h.views_fit.each j u to).stage t).0) (λ z. z));
          views_fit = changed (length first) h.served h.drawn (h.served + 1) h.drawn c l s.views id v w h.views_fit at
              (let z = now.3 in omega arith)
              (free_idle s.views id w refl)
              (λ j u ne to f'. record { stage = next_fits h.served h.drawn c l u.stage more f'.stage (none_else j u ne to); seen = IsPrefix-trans u.seen c l f'.seen more; own = f'.own; spent = f'.spent })
              record {
                stage = tt;
                seen = IsPrefix-self l;
                own = subst (Ascends 0 (length l)) (sym own_is) (Ascends-new_places v.own (length v.seen) c l (IsPrefix-length v.seen c f.seen) f.own adds');
                spent = λ z. absurd (omega arith);
              }
              (λ p. ap (λ z. times p z + within (length first) (length c) p) own_is ∙ times-new_places (length first) p v.own c l (IsPrefix-length first c h.begins) adds')
              refl;
        },
        (λ x' t' has'. ap (λ z. (after_turn v noted l, z)) (ap rest has) ∙ ap (λ (z : T). (after_turn v noted (list z), [])) (same_value me.1 x x' has has')),
      )

  -- The same steps as a call makes them: `was` is what the pass knew and held when its function began.
  pub draws_at : (first : List E) (slots id : ℕ) (was me : Holds T E) (old : ℕ) → me ≡ was → 0 < was.0.parts → was.0.stage ≡ Idle → old + 1 < 18446744073709551616
      → Allows (Keeps list first) slots id me 0 (λ n. either (eqb n old) (old + 1) n) (Drew (step slots 0 old (old + 1) none) me)
  draws_at first slots id was me old same alive idle small = draws first slots id me old (subst (λ (m : Holds T E). 0 < m.0.parts) (sym same) alive) (ap (λ (m : Holds T E). m.0.stage) same ∙ idle) small

  pub looks_at : (first : List E) (slots id : ℕ) (was me : Holds T E) (t : ℕ) → me ≡ was → 0 < was.0.parts → was.0.stage ≡ Waits t
      → Allows (Keeps list first) slots id me 1 (λ n. n) (Looked list (step slots 1 0 0 none) me)
  looks_at first slots id was me t same alive waiting = looks first slots id me t (subst (λ (m : Holds T E). 0 < m.0.parts) (sym same) alive) (ap (λ (m : Holds T E). m.0.stage) same ∙ waiting)

  -- a look that found the ticket leaves the slot with the pass
  pub holds_slot : (st : Step (Option T)) (was me me' : Holds T E) (t n : ℕ) → me ≡ was → Looked list st me n me' → was.0.stage ≡ Waits t → was.1 ≡ [] → n ≡ t → (value : Option T) × (me'.1 ≡ (0, value) ∷ rest me'.1)
  holds_slot st was me me' t n same looked waiting empty is =
      let out = taken st was me' t n (subst (λ (m : Holds T E). Looked list st m n me') same looked) waiting empty is in
      let held : me'.1 ≡ (0, Some out.0) ∷ [] = ap (λ (m : Holds T E). m.1) out.1 in
      (Some out.0, held ∙ ap (λ (cs : List (ℕ × Option T)). (0, Some out.0) ∷ rest cs) (sym held))

  pub hands_at : (first : List E) (slots id : ℕ) (was me : Holds T E) (x : T) → me ≡ (was.0, (0, Some x) ∷ rest was.1) → 0 < was.0.parts → IsInTurn was.0.stage → was.1 ≡ (0, None) ∷ [] → AddsAtMostOne (noted_at was.0.stage) (list x)
      → Allows (Keeps list first) slots id me 1 (λ n. (n + 1) % 2 ^ 64) (Finished list (step slots 1 1 0 none) me)
  hands_at first slots id was me x put alive turn out adds =
      let view : me.0 ≡ was.0 = ap (λ (m : Holds T E). m.0) put in
      let held : me.1 ≡ (0, Some x) ∷ [] = ap (λ (m : Holds T E). m.1) put ∙ ap (λ (cs : List (ℕ × Option T)). (0, Some x) ∷ rest cs) out in
      hands first slots id me x (subst (λ (v : View E). 0 < v.parts) (sym view) alive) (subst (λ (v : View E). IsInTurn v.stage) (sym view) turn) held
      (subst (λ (v : View E). AddsAtMostOne (noted_at v.stage) (list x)) (sym view) adds)

  pub compares_at : (first : List E) (slots id : ℕ) (was : Holds T E) (w : View E) (me : Holds T E) → me ≡ (both_views was.0 w, was.1) → 0 < was.0.parts
      → Allows (Keeps list first) slots id me 0 (λ n. n) (Compared (step slots 0 0 0 none) me)
  compares_at first slots id was w me joined alive =
      compares first slots id me was.0.seen w.seen (subst (λ (m : Holds T E). 0 < m.0.parts) (sym joined) (omega arith)) (ap (λ (m : Holds T E). m.0.stage) joined)

  each_one : (F : View E → Type 0) (v : View E) → F v → Each F (v ∷ [])
  each_one F v f zero u at = subst F (some-injective v u at) f
  each_one F v f (suc j) u at = absurd (some-ne-none u (sym at))

  within_none : (n p : ℕ) → 0 ≡ within n n p
  within_none n p = grind (arith, nat_tests)

  starts : (x : T) → Keeps list (list x) (opening (0 ∷ 0 ∷ []) (Some x ∷ []) (first_view (list x)))
  starts x =
      let l = list x in
      let v = first_view l in record {
        drawn = 0;
        served = 0;
        committed = l;
        home = some (Some x);
        words_are = refl;
        small = omega arith;
        homes_are = refl;
        begins = IsPrefix-self l;
        home_fits = (refl, each_one (λ (u : View E). ¬ IsInTurn u.stage) v (λ z. z));
        views_fit = record {
          tickets = refl;
          apart = λ i j t a b at to ha hb. absurd (each_one (λ (u : View E). ¬ HasTicket u.stage t) v (λ z. z) i a at ha);
          each = each_one (Fits 0 0 l) v record { stage = tt; seen = IsPrefix-self l; own = tt; spent = λ z. absurd (omega arith) };
          owners = λ p. within_none (length l) p;
          parts = refl;
        };
      }

  -- the same as `make` begins: with the slots that it pushed, and with the value that it told the table
  pub starts_at : (x told : T) (slots pushed : List (Option T)) → slots ≡ [] → pushed ≡ slots ++ Some x ∷ [] → told ≡ x → Keeps list (list told) (opening (0 ∷ 0 ∷ []) pushed (first_view (list told)))
  starts_at x told slots pushed empty push is =
      let one : pushed ≡ Some x ∷ [] = push ∙ ap (λ (xs : List (Option T)). xs ++ Some x ∷ []) empty in
      subst (λ (y : T). Keeps list (list y) (opening (0 ∷ 0 ∷ []) pushed (first_view (list y)))) (sym is) (subst (λ (xs : List (Option T)). Keeps list (list x) (opening (0 ∷ 0 ∷ []) xs (first_view (list x)))) (sym one) (starts x))

  -- At the end the one view with all parts is in no turn, so the slot has its value.
  ends_home : (first : List E) (id : ℕ) (v : View E) (s : State (Option T) (View E)) (h : Keeps list first s) (xs : List (Option T)) (y : Option T) → v.parts ≡ PARTS → v.stage ≡ Idle → get_elem? s.views id ≡ some v
      → ((k : ℕ) (z : Option T) → get_elem? s.homes k ≡ some (some z) → get_elem? xs k ≡ some z) → get_elem? xs 0 ≡ some y
      → (home : maybe.Option (Option T)) → s.homes ≡ home ∷ [] → HomeFits list h.committed s.views home → (x : T) × (y ≡ Some x) × IsPrefix v.seen (list x) × IsPrefix first (list x) × (v.own ≡ new_places first (list x))
  ends_home first id v s h xs y whole idle at same got (some None) hs out = absurd out
  ends_home first id v s h xs y whole idle at same got none hs out =
      let u = out.1 in
      absurd (dite (ℕ_discrete out.0 id)
      (λ e. let is : u ≡ v = some-injective _ _ (sym out.2 ∙ (ap (get_elem? s.views) e ∙ at)) in subst IsInTurn (ap (λ (z : View E). z.stage) is ∙ idle) out.3)
      (λ ne. let two = sum_by-two (λ (z : View E). z.parts) s.views id out.0 v u at out.2 (λ e. ne (sym e)) in let t = h.views_fit.parts in subst IsInTurn ((h.views_fit.each out.0 u out.2).spent (omega arith)).1 out.3))
  ends_home first id v s h xs y whole idle at same got (some (Some x)) hs out =
      let f = h.views_fit.each id v at in
      let along : IsPrefix v.seen (list x) = (f.seen.0, out.0 ∙ f.seen.1) in
      let opens : IsPrefix first (list x) = (h.begins.0, out.0 ∙ h.begins.1) in
      let mine : (p : ℕ) → sum_by (λ (z : View E). times p z.own) s.views ≡ times p v.own = λ p. sum_by-alone (λ (z : View E). times p z.own) s.views id v at
      (λ j u ne to. let two = sum_by-two (λ (z : View E). z.parts) s.views id j v u at to (λ e. ne (sym e)) in let t = h.views_fit.parts in ap (times p) ((h.views_fit.each j u to).spent (omega arith)).0) in (
        x,
        some-injective _ _ (sym got ∙ same 0 (Some x) (ap (λ l. get_elem? l 0) hs)),
        along,
        opens,
        places_whole (length first) (length (list x)) (length v.seen) v.own (IsPrefix-length first (list x) opens) f.own (λ p. sym (mine p) ∙ (h.views_fit.owners p ∙ ap (λ (l : List E). within (length first) (length l) p) (sym out.0))),
      )

  ends : (first : List E) (id : ℕ) (v : View E) (ws : List ℕ) (xs : List (Option T)) (y : Option T) → v.parts ≡ PARTS → v.stage ≡ Idle → Final (Seen (Keeps list first) id v) ws xs → get_elem? xs 0 ≡ some y
      → (x : T) × (y ≡ Some x) × IsPrefix v.seen (list x) × IsPrefix first (list x) × (v.own ≡ new_places first (list x))
  ends first id v ws xs y whole idle fin got = let h = fin.1.0 in ends_home first id v fin.0 h xs y whole idle fin.1.1 fin.4 got h.home h.homes_are h.home_fits

  pub ends_some : (first : List E) (id : ℕ) (v : View E) (ws : List ℕ) (xs : List (Option T)) (y : Option T) (x : T) → v.parts ≡ PARTS → v.stage ≡ Idle → Final (Seen (Keeps list first) id v) ws xs → get_elem? xs 0 ≡ some y → y ≡ Some x
      → IsPrefix v.seen (list x) × IsPrefix first (list x) × (v.own ≡ new_places first (list x))
  ends_some first id v ws xs y x whole idle fin got is =
      let e = ends first id v ws xs y whole idle fin got in
      let same : e.0 ≡ x = let q : Some e.0 ≡ Some x = sym e.1 ∙ is in cc in
      subst (λ (z : T). IsPrefix v.seen (list z) × IsPrefix first (list z) × (v.own ≡ new_places first (list z))) same (e.2, e.3, e.4)

  pub ends_none : (first : List E) (id : ℕ) (v : View E) (ws : List ℕ) (xs : List (Option T)) (y : Option T) → v.parts ≡ PARTS → v.stage ≡ Idle → Final (Seen (Keeps list first) id v) ws xs → get_elem? xs 0 ≡ some y → y ≡ None → ⊥
  ends_none first id v ws xs y whole idle fin got is = let e = ends first id v ws xs y whole idle fin got in let q : Some e.0 ≡ None = sym e.1 ∙ is in cc
