-- What a chain of workers brings back.
use Rattle.std.proofs.Common.{◌≡◌, ◌≢◌, ℕ, suc, ◌+◌, ◌-◌, ◌*◌, ◌<◌, ◌≤◌, Bool, true, List, [], length, set, refl, sym, ap, ◌∙◌, subst, arith, Option, Some, None, lt_of_not-le}
use native.Mathlib.Decide.{dec_le, ℕ_discrete}
use Rattle.std.specs.Prelude.{All, slice_index_or}
use Rattle.std.proofs.lemmas.List.{append-nil, get_or-set_same, get_or-set_other, length-set}
use Rattle.std.proofs.Math.Nat.{mul-le-mul_left}
use Rattle.upd_base.specs.Plan.{Planned, is_plan}
use Rattle.upd_base.specs.declared.event.Event.{Event}
use Rattle.group_run.specs.Group.{Rules}
use Rattle.turn_lock.specs.Lists.{IsPrefix}
use Rattle.turn_lock.specs.Places.{Ascends, merged}
use Rattle.turn_lock.proofs.Lists.{IsPrefix-self, IsPrefix-trans}
use Rattle.upd_lines.specs.declared.line.Line.{Ghosts}
use Rattle.line_rules.specs.Lines.{IsEvenLine, line_at, state_at}
use Rattle.line_rules.specs.declared.line_state.LineState.{LineState}
use Rattle.line_rules.specs.declared.line_state.LineState.TheVariants.{Missing}
use Rattle.member_threads.specs.Brought.{frame_at}
use Rattle.member_threads.specs.Knows.{KeepsTo, Knows, BringsNoMore}
use Rattle.member_threads.specs.Worked.{Worked, AreWorked}
use Rattle.member_threads.proofs.Places.{All-imply, flat_map-none}
use Rattle.order_trait.specs.declared.ordering.Ordering.{Ghosts as OrderGhosts}
use Rattle.run_journal.specs.Journal.{plan_of, events_of}
use Rattle.run_journal.specs.declared.journal.Journal.{Journal}
use Rattle.turn_lock.specs.declared.pass.TheConstants.{PARTS}
use Rattle.upd_base.proofs.PlanFacts.{plan_facts}
use Rattle.turn_lock.specs.declared.kept.Kept.{Ghosts as KeptGhosts}
use Rattle.turn_lock.specs.declared.pass.Pass.{Pass}
use Rattle.turn_lock.specs.Pass.{parts}
use Rattle.live_group.specs.declared.recorded.Recorded.{Recorded}
use Rattle.live_group.specs.declared.kept_journal.KeptJournal.{KeptJournal}
use Rattle.live_group.specs.declared.group.LiveGroup.{LiveGroup}
use Rattle.live_group.specs.SharedGroup.{shared, plan_shared, IsPassOf}
use Rattle.member_rules.specs.Kept.{rules_of}
use Rattle.live_group.specs.Pass.{events_seen, places}
use Rattle.line_rules.specs.Given.{IsEven}
use Rattle.member_threads.specs.Worker.{IsWorkersPass, MayServe}
use Rattle.member_threads.proofs.Knowing.{knows_joined, knows_nothing, knows_wider}
use Rattle.member_threads.proofs.Working.{joined_none, none_joined, none_still, worked_still}

row_below : (n from to i j : ℕ) → to < n → suc from ≤ i → from * n + to < i * n + j
row_below n from to i j l less = let h : from + 1 ≤ i = omega arith in let m = mul-le-mul_left n h in omega arith

-- the link of a place is one
same_from : (n from to i j : ℕ) → to < n → j < n → from * n + to ≡ i * n + j → (from ≡ i) × (to ≡ j)
same_from n from to i j l m e = by (dec_le (suc from) i) (dec_le (suc i) from)
  where
    by : Dec (suc from ≤ i) → Dec (suc i ≤ from) → (from ≡ i) × (to ≡ j)
    by (yes d) other = absurd (let r = row_below n from to i j l d in omega arith)
    by (no d) (yes d') = absurd (let r = row_below n i j from to m d' in omega arith)
    by (no d) (no d') =
        let same : from ≡ i = (let a = lt_of_not-le d in let b = lt_of_not-le d' in omega arith) in
        (same, (let p = ap (λ k. k * n) same in omega arith))

-- a link's place is below the number of links
pub place_below : (n from to : ℕ) → from < n → to < n → from * n + to < n * n
place_below n from to f t = let h : from + 1 ≤ n = omega arith in let m = mul-le-mul_left n h in omega arith

module _ {L : Type 0} (G : Ghosts L) (rules : Rules) (plan : Planned) (began : List Event) where
  -- what is known of a place's links but one's own
  elsewhere_of : (mine : ℕ → Type 0) (seen seen' : List Event) (own : List ℕ) (from to : ℕ) → (mine (from * plan.members + to) → ⊥) → IsPrefix seen seen' → Knows rules plan began mine seen own
      → (events : List Event) → IsPrefix seen' events → All (λ p. frame_at rules plan events from to p ≡ []) own
  elsewhere_of mine seen seen' own from to other more k events p =
      All-imply (KeepsTo rules plan mine events) (λ p. frame_at rules plan events from to p ≡ []) own (λ x h. h.elsewhere from to other) (k.keeps events (IsPrefix-trans seen seen' events more p))

  -- no line is left to be served
  pub worked_none : (seen : List Event) (own : List ℕ) (low : ℕ) (wanted : Bool) (lines : List (Option L)) (states : List LineState) → length lines ≡ plan.members * plan.members → length states ≡ length lines → length lines ≤ low
      → AreWorked G rules plan began seen own low wanted lines lines states
  worked_none seen own low wanted lines states places stated above = record {
    same = refl;
    stated = stated;
    each = λ from to f t le. absurd (let b = place_below plan.members from to f t in omega arith);
  }

  -- a place without a line
  pub worked_missing : (seen : List Event) (own : List ℕ) (low next from to : ℕ) (wanted : Bool) → next ≡ low + 1 → low ≡ from * plan.members + to → Knows rules plan began (λ k. next ≤ k) seen own → Worked G rules plan began seen own from to wanted None None Missing
  worked_missing seen own low next from to wanted one at k = record {
    frames = [];
    next = [];
    took = λ events p. flat_map-none (frame_at rules plan events from to) own (elsewhere_of (λ k. next ≤ k) seen seen own from to (λ le. absurd (omega arith)) (IsPrefix-self seen) k events p);
    come = tt;
    rests = tt;
  }

  -- one more place is put back
  pub worked_put : (seen : List Event) (own : List ℕ) (low next : ℕ) (wanted wanted' : Bool) (lines lines' new new' : List (Option L)) (states states' : List LineState) (found new_line : Option L) (new_state : LineState) → next ≡ low + 1 → low < length lines → slice_index_or lines low None ≡ found
      → lines' ≡ set lines low None → new' ≡ set new low new_line → states' ≡ set states low new_state → (wanted ≡ true → wanted' ≡ true) → AreWorked G rules plan began seen own next wanted lines' new states
      → ((from to : ℕ) → from < plan.members → to < plan.members → low ≡ from * plan.members + to → Worked G rules plan began seen own from to wanted' found new_line new_state)
      → AreWorked G rules plan began seen own low wanted' lines new' states'
  worked_put seen own low next wanted wanted' lines lines' new new' states states' found new_line new_state one within there is new_is states_is w k here =
      let n : length lines' ≡ length lines = ap length is ∙ length-set lines low None in
      let m : length new ≡ length lines = k.same ∙ n in
      let s : length states ≡ length lines = k.stated ∙ n in
      record {
        same = ap length new_is ∙ (length-set new low new_line ∙ m);
        stated = ap length states_is ∙ (length-set states low new_state ∙ s);
        each = λ from to f t le. by from to f t le (ℕ_discrete (from * plan.members + to) low) m s;
      }
    where
      over : (x : ℕ) → low ≤ x → x ≢ low → next ≤ x
      over x le ne = omega (arith, le, ne, one)

      by : (from to : ℕ) → from < plan.members → to < plan.members → low ≤ from * plan.members + to → Dec (from * plan.members + to ≡ low) → length new ≡ length lines → length states ≡ length lines
          → Worked G rules plan began seen own from to wanted' (line_at plan.members lines from to) (line_at plan.members new' from to) (state_at plan.members states' from to)
      by from to f t le (yes e) m s =
          let a : line_at plan.members lines from to ≡ found = ap (λ z. slice_index_or lines z None) e ∙ there in
          let b : line_at plan.members new' from to ≡ new_line = ap (λ z. slice_index_or new' z None) e ∙ (ap (λ z. slice_index_or z low None) new_is ∙ get_or-set_same new low new_line None (omega arith)) in
          let c : state_at plan.members states' from to ≡ new_state = ap (λ z. slice_index_or states' z Missing) e ∙ (ap (λ z. slice_index_or z low Missing) states_is ∙ get_or-set_same states low new_state Missing (omega arith)) in
          subst (λ z. Worked G rules plan began seen own from to wanted' z (line_at plan.members new' from to) (state_at plan.members states' from to)) (sym a)
          (subst (λ z. Worked G rules plan began seen own from to wanted' found z (state_at plan.members states' from to)) (sym b)
          (subst (λ z. Worked G rules plan began seen own from to wanted' found new_line z) (sym c) (here from to f t (sym e))))
      by from to f t le (no ne) m s =
          let a : line_at plan.members lines from to ≡ line_at plan.members lines' from to = sym (ap (λ z. line_at plan.members z from to) is ∙ get_or-set_other lines low (from * plan.members + to) None None ne) in
          let b : line_at plan.members new' from to ≡ line_at plan.members new from to = ap (λ z. line_at plan.members z from to) new_is ∙ get_or-set_other new low (from * plan.members + to) new_line None ne in
          let c : state_at plan.members states' from to ≡ state_at plan.members states from to = ap (λ z. state_at plan.members z from to) states_is ∙ get_or-set_other states low (from * plan.members + to) new_state Missing ne in
          let above : next ≤ from * plan.members + to = over (from * plan.members + to) le ne in
          let was = worked_still rules plan from to began G seen seen own own wanted wanted' _ _ _ (none_still rules plan from to seen seen own own (IsPrefix-self seen) refl) w (k.each from to f t above) in
          subst (λ z. Worked G rules plan began seen own from to wanted' z (line_at plan.members new' from to) (state_at plan.members states' from to)) (sym a)
          (subst (λ z. Worked G rules plan began seen own from to wanted' (line_at plan.members lines' from to) z (state_at plan.members states' from to)) (sym b)
          (subst (λ z. Worked G rules plan began seen own from to wanted' (line_at plan.members lines' from to) (line_at plan.members new from to) z) (sym c) was))

  -- another pass was joined in
  pub knows_both : (low next : ℕ) (mine : ℕ → Type 0) (seen other joined : List Event) (own theirs all : List ℕ) → all ≡ merged own theirs → IsPrefix seen joined → IsPrefix other joined → next ≡ low + 1 → ((k : ℕ) → mine k → low ≤ k)
      → Knows rules plan began (λ k. next ≤ k) seen own → Knows rules plan began mine other theirs → Knows rules plan began (λ k. low ≤ k) joined all
  knows_both low next mine seen other joined own theirs all is p q one wider k h =
      subst (λ z. Knows rules plan began (λ k. low ≤ k) joined z) (sym is)
      (knows_joined rules plan began (λ k. low ≤ k) seen other joined own theirs p q
      (knows_wider rules plan began (λ k. next ≤ k) (λ k. low ≤ k) seen own (λ k le. omega arith) k) (knows_wider rules plan began mine (λ k. low ≤ k) other theirs wider h))

  -- the lines stay as far where a pass is joined in that made no receipts on their links
  pub worked_others : (low high : ℕ) (mine : ℕ → Type 0) (seen other joined : List Event) (own theirs all : List ℕ) (wanted wanted' : Bool) (lines new : List (Option L)) (states : List LineState) → all ≡ merged own theirs → Ascends 0 high own → IsPrefix seen joined → IsPrefix other joined
      → ((k : ℕ) → low ≤ k → mine k → ⊥) → (wanted ≡ true → wanted' ≡ true) → Knows rules plan began mine other theirs → AreWorked G rules plan began seen own low wanted lines new states → AreWorked G rules plan began joined all low wanted' lines new states
  worked_others low high mine seen other joined own theirs all wanted wanted' lines new states is up p q apart w h k = record {
    same = k.same;
    stated = k.stated;
    each = λ from to f t le.
        worked_still rules plan from to began G seen joined own all wanted wanted' _ _ _
        (subst (λ z. BringsNoMore rules plan from to seen own joined z) (sym is) (none_joined rules plan from to seen joined own theirs high up p (elsewhere_of mine other joined theirs from to (apart (from * plan.members + to) le) q h))) w (k.each from to f t le);
  }

  -- and so does that of the link whose pass was joined in
  pub worked_joined : (low next from to i j : ℕ) (seen other joined : List Event) (own theirs all : List ℕ) (wanted wanted' : Bool) (old new : Option L) (state : LineState) → low ≡ i * plan.members + j → low ≡ from * plan.members + to → j < plan.members → to < plan.members
      → all ≡ merged own theirs → IsPrefix seen joined → IsPrefix other joined → next ≡ low + 1 → (wanted ≡ true → wanted' ≡ true) → Knows rules plan began (λ k. next ≤ k) seen own → Worked G rules plan began other theirs i j wanted old new state
      → Worked G rules plan began joined all from to wanted' old new state
  worked_joined low next from to i j seen other joined own theirs all wanted wanted' old new state at at' m t is p q one' w h k =
      let one = same_from plan.members i j from to m t (sym at ∙ at') in
      let k' : Worked G rules plan began other theirs from to wanted old new state = subst (λ z. Worked G rules plan began other theirs from z wanted old new state) one.1 (subst (λ z. Worked G rules plan began other theirs z j wanted old new state) one.0 k) in
      worked_still rules plan from to began G other joined theirs all wanted wanted' old new state
      (subst (λ z. BringsNoMore rules plan from to other theirs joined z) (sym is) (joined_none rules plan from to other joined theirs own q (elsewhere_of (λ k. next ≤ k) seen joined own from to (λ le. absurd (omega arith)) p h))) w k'

pub knows_fresh : (rules : Rules) (plan : Planned) (began : List Event) (mine : ℕ → Type 0) (seen : List Event) (own : List ℕ) → own ≡ [] → IsPrefix began seen → Knows rules plan began mine seen own
knows_fresh rules plan began mine seen own none_own p = subst (λ z. Knows rules plan began mine seen z) (sym none_own) (knows_nothing rules plan began mine seen p)

pub fresh_pass : {O : Type 0} {G : OrderGhosts O} (group : LiveGroup O G) {K : KeptGhosts (KeptJournal O G) Recorded} (mine : ℕ → Type 0) (pass : Pass (KeptJournal O G) Recorded K) → IsPassOf group pass → places pass ≡ [] → IsPrefix (events_of (shared group)) (events_seen pass)
    → IsWorkersPass group mine pass
fresh_pass {O} {G} group mine pass of fresh goes_on = record { of = of; knows = knows_fresh (rules_of G) (plan_shared group) (events_of (shared group)) mine (events_seen pass) (places pass) fresh goes_on }

pub even_at : {L : Type 0} (G : Ghosts L) (lines : List (Option L)) (low : ℕ) (found : Option L) (line : L) → found ≡ slice_index_or lines low None → found ≡ Some line → IsEvenLine G (slice_index_or lines low None) → IsEven (G.told line)
even_at G lines low found line is some even = subst (IsEvenLine G) (sym is ∙ some) even

module _ {O : Type 0} {G : OrderGhosts O} (group : LiveGroup O G) {K : KeptGhosts (KeptJournal O G) Recorded} {L : Type 0} (GL : Ghosts L) (members : ℕ) where
  -- the chain begins where the journal was just shared
  pub may_start : (journal : Journal O G) (pass : Pass (KeptJournal O G) Recorded K) (threads : ℕ) (lines : List (Option L)) (states : List LineState) → shared group ≡ journal → IsPassOf group pass → events_seen pass ≡ events_of journal → places pass ≡ [] → parts pass ≡ PARTS
      → is_plan (plan_of journal) ≡ true → members ≡ (plan_of journal).members → threads ≡ length (plan_of journal).threads → length lines ≡ (plan_of journal).members * (plan_of journal).members → length states ≡ length lines → ((p : ℕ) → IsEvenLine GL (slice_index_or lines p None))
      → MayServe group GL 0 members (threads - 0) pass lines states
  may_start journal pass threads lines states is of seen own all_parts plan members_are threads_are places_are stated even =
      let f = plan_facts (plan_of journal) plan in
      let n = f.few in
      let m = mul-le-mul_left (plan_of journal).members n in
      let t = f.few_threads in
      record {
        of = of;
        fresh = own;
        goes_on = ([], seen ∙ (ap events_of (sym is) ∙ sym (append-nil (events_of (shared group)))));
        plan = ap (λ j. is_plan (plan_of j)) is ∙ plan;
        members_are = members_are ∙ ap (λ j. (plan_of j).members) (sym is);
        lines_are = places_are ∙ ap (λ z. z * z) (sym members_are);
        stated = stated;
        within = omega arith;
        enough = omega (arith, places_are, m, n, t, threads_are, all_parts);
        even = λ p le. even p;
      }

  -- it goes on behind a worker of a thread
  pub may_split : (low more more' : ℕ) (pass pass' : Pass (KeptJournal O G) Recorded K) (lines : List (Option L)) (states : List LineState) → MayServe group GL low members more pass lines states → IsPassOf group pass' → events_seen pass' ≡ events_seen pass → places pass' ≡ places pass
      → parts pass + more' ≤ parts pass' + more → MayServe group GL low members more' pass' lines states
  may_split low more more' pass pass' lines states m of seen own enough =
      let e = m.enough in
      record {
        of = of;
        fresh = own ∙ m.fresh;
        goes_on = subst (λ z. IsPrefix (events_of (shared group)) z) (sym seen) m.goes_on;
        plan = m.plan;
        members_are = m.members_are;
        lines_are = m.lines_are;
        stated = m.stated;
        within = m.within;
        enough = omega (arith, e, enough);
        even = m.even;
      }

  -- and at the next place
  pub may_go_on : (low next more : ℕ) (pass pass' : Pass (KeptJournal O G) Recorded K) (lines lines' : List (Option L)) (states states' : List LineState) → next ≡ low + 1 → low < length lines → MayServe group GL low members more pass lines states → IsPassOf group pass' → events_seen pass' ≡ events_seen pass
      → places pass' ≡ places pass → parts pass ≤ parts pass' + 1 → lines' ≡ set lines low None → states' ≡ states → MayServe group GL next members more pass' lines' states'
  may_go_on low next more pass pass' lines lines' states states' one within m of seen own some_parts is same =
      let n : length lines' ≡ length lines = ap length is ∙ length-set lines low None in
      let s : length states' ≡ length states = ap length same in
      let e = m.enough in
      record {
        of = of;
        fresh = own ∙ m.fresh;
        goes_on = subst (λ z. IsPrefix (events_of (shared group)) z) (sym seen) m.goes_on;
        plan = m.plan;
        members_are = m.members_are;
        lines_are = n ∙ m.lines_are;
        stated = s ∙ (m.stated ∙ sym n);
        within = omega arith;
        enough = omega arith;
        even = λ p le. subst (IsEvenLine GL) (sym (ap (λ z. slice_index_or z p None) is ∙ get_or-set_other lines low p None None (λ e. absurd (omega (arith, le, one, e))))) (m.even p (omega arith));
      }
