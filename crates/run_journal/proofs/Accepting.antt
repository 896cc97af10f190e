-- What an event does to the versions in which items were accepted.
use Rattle.std.proofs.Common.{ℕ, suc, ◌≡◌, ◌≢◌, ◌<◌, ◌==◌, ◌&&◌, inl, inr, Bool, true, false, List, [], ◌∷◌, ◌++◌, length, refl, sym, ◌∙◌, ap, subst, arith, cond, Option, Some, None, set, get_or}
use Rattle.std.specs.Prelude.{if◌then◌else◌}
use Rattle.std.proofs.lemmas.List.{get_or-set_same, get_or-set_other, length-set, get_or_append_left}
use Rattle.std.proofs.Math.Seq.{get_or-append_seam}
use Rattle.std.proofs.lemmas.List.{length-append}
use Rattle.fifo_net.specs.Net.{Called, Took, Step}
use Rattle.order_trait.specs.Runs.{Broadcast, Suspect as SuspectOrder, Trust as TrustOrder}
use Rattle.upd_base.specs.Plan.{Planned, planned}
use Rattle.upd_base.specs.declared.item.Item.TheVariants.{Msg, Switch}
use Rattle.upd_base.specs.declared.frame.Frame.{Frame}
use Rattle.upd_base.specs.declared.call.Call.{Call}
use Rattle.upd_base.specs.declared.call.Call.TheVariants.{Send, Change, Suspect, Trust, Crash}
use Rattle.upd_base.specs.declared.call.Step.{Step as PlannedStep}
use Rattle.upd_base.specs.declared.answer.Answer.{Answer}
use Rattle.upd_base.specs.declared.answer.Answer.TheVariants.{Accepted, Done, Full, Crashed, VersionLimit, BadKind, BadMember}
use Rattle.upd_base.specs.declared.event.Event.{Event}
use Rattle.upd_base.specs.declared.event.Event.TheVariants.{Call as CallEvent, Receive, Release}
use Rattle.group_run.specs.Group.{Rules, Group, Outer, Makes, Releases}
use Rattle.group_run.specs.Part.{Part, version, with_accepted, with_suspects, with_held, without}
use Rattle.group_run.specs.Held.{first_ready, without_ready, is_early}
use Rattle.group_run.specs.Answer.{answer}
use Rattle.group_run.specs.Turn.{Turn, still, stepped, opened, in_module, in_each, first_orders, processed, called, released, turn_after}
use Rattle.group_run.specs.Run.{Events, Moves, group, turn_at, moves_in, part, version_in, next_frame, frame_taken, call_made}
use Rattle.group_run.proofs.Lists.{eqb_self, eqb_other, same_or}
use Rattle.group_run.proofs.Turns.{entered_cases}
use Rattle.group_run.proofs.Inputs.{turn_here, turn_away}
use Rattle.group_members.proofs.Own.{beside_told, sent_number, changed_number}
use Rattle.run_journal.specs.Asked.{AreAsked, asked_in, accepted_by, gives, listed, empty_lists}
use Rattle.run_journal.proofs.Lists.{length-empty, all_empty}

-- What a turn accepts --------------------------------------------------------------------------------------

processed_same : (g : Group) (me : ℕ) (p : Part) (from : ℕ) (frame : Frame) → (processed g me p from frame).part.accepted ≡ p.accepted
processed_same g me p from frame =
    let t : Turn = stepped g me (still p) (record { version = frame.version; input = Took from frame.body }) in
    entered_cases g me t (λ u. u.part.accepted ≡ p.accepted) (λ e. refl)
    (λ e. (beside_told g me (opened t) (in_module (length t.part.modules) (first_orders g me t.part))).accepted_same)

took_same : (g : Group) (me : ℕ) (p : Part) (from : ℕ) (frame : Frame) (b : Bool) → (if b then still (with_held p (p.held ++ (from, frame) ∷ [])) else processed g me p from frame).part.accepted ≡ p.accepted
took_same g me p from frame true = refl
took_same g me p from frame false = processed_same g me p from frame

released_same : (g : Group) (me : ℕ) (p : Part) (o : Option (ℕ × Frame)) → (released g me p o).part.accepted ≡ p.accepted
released_same g me p None = refl
released_same g me p (Some h) = processed_same g me (with_held p (without_ready (version p) p.held)) h.0 h.1

-- how many items were accepted, once a call was answered
abbrev counted : Answer → ℕ → ℕ
counted (Accepted number) n = suc n
counted Done n = n
counted Full n = n
counted Crashed n = n
counted VersionLimit n = n
counted BadKind n = n
counted BadMember n = n

never : (a b : Bool) (other : Answer) (number : ℕ) → ((n : ℕ) → other ≡ Accepted n → ⊥) → cond a Crashed (cond b Done other) ≡ Accepted number → ⊥
never true b other number h e = let q : Crashed ≡ Accepted number = e in cc
never false true other number h e = let q : Done ≡ Accepted number = e in cc
never false false other number h e = h number e

bad_member : (n : ℕ) → BadMember ≡ Accepted n → ⊥
bad_member n e = cc

not_suspected : (g : Group) (me : ℕ) (p : Part) (who number : ℕ) → answer g me p (Suspect who) ≡ Accepted number → ⊥
not_suspected g me p who number e = never p.crashed _ BadMember number bad_member e

not_trusted : (g : Group) (me : ℕ) (p : Part) (who number : ℕ) → answer g me p (Trust who) ≡ Accepted number → ⊥
not_trusted g me p who number e = never p.crashed _ BadMember number bad_member e

not_stopped : (g : Group) (me : ℕ) (p : Part) (number : ℕ) → answer g me p Crash ≡ Accepted number → ⊥
not_stopped g me p number e = never p.crashed true BadMember number bad_member e

called_count : (g : Group) (me : ℕ) (p : Part) (call : Call) (given : Answer) → answer g me p call ≡ given → length (called g me p call given).part.accepted ≡ counted given (length p.accepted)
called_count g me p (Send text) (Accepted number) e = ap length (beside_told g me (still (with_accepted p (Msg me number text))) (in_module (version p) (Broadcast (Msg me number text) ∷ []))).accepted_same
called_count g me p (Change kind) (Accepted number) e = ap length (beside_told g me (still (with_accepted p (Switch me number kind))) (in_module (version p) (Broadcast (Switch me number kind) ∷ []))).accepted_same
called_count g me p (Suspect who) (Accepted number) e = absurd (not_suspected g me p who number e)
called_count g me p (Trust who) (Accepted number) e = absurd (not_trusted g me p who number e)
called_count g me p Crash (Accepted number) e = absurd (not_stopped g me p number e)
called_count g me p (Suspect who) Done e = ap length (beside_told g me (still (with_suspects p (who ∷ without who p.suspects))) (in_each p (SuspectOrder who))).accepted_same
called_count g me p (Trust who) Done e = ap length (beside_told g me (still (with_suspects p (without who p.suspects))) (in_each p (TrustOrder who))).accepted_same
called_count g me p Crash Done e = refl
called_count g me p (Send text) given e = refl
called_count g me p (Change kind) given e = refl
called_count g me p (Suspect who) given e = refl
called_count g me p (Trust who) given e = refl
called_count g me p Crash given e = refl

call_number : (g : Group) (me : ℕ) (p : Part) (call : Call) (number : ℕ) → answer g me p call ≡ Accepted number → number ≡ length p.accepted
call_number g me p (Send text) number e = sent_number g me p text number e
call_number g me p (Change kind) number e = (changed_number g me p kind number e).0
call_number g me p (Suspect who) number e = absurd (not_suspected g me p who number e)
call_number g me p (Trust who) number e = absurd (not_trusted g me p who number e)
call_number g me p Crash number e = absurd (not_stopped g me p number e)

-- What an event accepts ------------------------------------------------------------------------------------

-- a step that accepts nothing
step_same : (g : Group) (st : Step Outer Frame) (ms : Moves) → ((p : Part) → (turn_after g st.at p st.input).part.accepted ≡ p.accepted) → (m : ℕ) →
    length (turn_at g (st ∷ ms) m).part.accepted ≡ length (turn_at g ms m).part.accepted
step_same g st ms h m = elim (same_or m st.at) [
  | inl e ↦
      let P : ℕ → Type 0 = λ k. length (turn_at g (st ∷ ms) k).part.accepted ≡ length (turn_at g ms k).part.accepted in
      subst P (sym e) (ap (λ t. length t.part.accepted) (turn_here g st ms) ∙ ap length (h (turn_at g ms st.at).part))
  | inr ne ↦ ap (λ t. length t.part.accepted) (turn_away g st ms m ne)
]

taken_same : (g : Group) (from to : ℕ) (o : Option Frame) (ms : Moves) (m : ℕ) → length (turn_at g (frame_taken from to o ms) m).part.accepted ≡ length (turn_at g ms m).part.accepted
taken_same g from to None ms m = refl
taken_same g from to (Some frame) ms m = step_same g (record { at = to; input = Took from frame }) ms (λ p. took_same g to p from frame (is_early p from frame)) m

receipt_same : (rules : Rules) (plan : Planned) (past : Events) (from to m : ℕ) → accepted_by rules plan (Receive from to ∷ past) m ≡ accepted_by rules plan past m
receipt_same rules plan past from to m = taken_same (group rules plan) from to (next_frame rules plan past from to) (moves_in rules plan past) m

release_same : (rules : Rules) (plan : Planned) (past : Events) (at m : ℕ) → accepted_by rules plan (Release at ∷ past) m ≡ accepted_by rules plan past m
release_same rules plan past at m =
    let g : Group = group rules plan in
    step_same g (record { at = at; input = Called Releases }) (moves_in rules plan past) (λ p. released_same g at p (first_ready (version p) p.held)) m

abbrev call_step : PlannedStep → Step Outer Frame
call_step s = record { at = s.at; input = Called (Makes s.call) }

made_step : (rules : Rules) (plan : Planned) (past : Events) (thread index : ℕ) (given : Answer) (s : PlannedStep) (m : ℕ) → planned plan thread index ≡ Some s →
    accepted_by rules plan (CallEvent thread index s.at given ∷ past) m ≡ length (turn_at (group rules plan) (call_step s ∷ moves_in rules plan past) m).part.accepted
made_step rules plan past thread index given s m q =
    ap (λ o. length (turn_at (group rules plan) (call_made s.at o (moves_in rules plan past)) m).part.accepted) q

call_here : (rules : Rules) (plan : Planned) (past : Events) (thread index : ℕ) (given : Answer) (s : PlannedStep) → planned plan thread index ≡ Some s →
    given ≡ answer (group rules plan) s.at (part rules plan past s.at) s.call →
    accepted_by rules plan (CallEvent thread index s.at given ∷ past) s.at ≡ counted given (accepted_by rules plan past s.at)
call_here rules plan past thread index given s q a =
    let g : Group = group rules plan in
    let p : Part = part rules plan past s.at in
    made_step rules plan past thread index given s s.at q
    ∙ ap (λ t. length t.part.accepted) (turn_here g (call_step s) (moves_in rules plan past))
    ∙ called_count g s.at p s.call (answer g s.at p s.call) refl
    ∙ ap (λ x. counted x (length p.accepted)) (sym a)

call_away : (rules : Rules) (plan : Planned) (past : Events) (thread index : ℕ) (given : Answer) (s : PlannedStep) (m : ℕ) → planned plan thread index ≡ Some s → m ≢ s.at →
    accepted_by rules plan (CallEvent thread index s.at given ∷ past) m ≡ accepted_by rules plan past m
call_away rules plan past thread index given s m q ne =
    made_step rules plan past thread index given s m q ∙ ap (λ t. length t.part.accepted) (turn_away (group rules plan) (call_step s) (moves_in rules plan past) m ne)

-- The lists of versions -------------------------------------------------------------------------------------

-- an event that accepts nothing leaves the lists
lists_same : (rules : Rules) (plan : Planned) (past : Events) (e : Event) (asked : List (List ℕ)) → ((m : ℕ) → accepted_by rules plan (e ∷ past) m ≡ accepted_by rules plan past m) →
    ((m number : ℕ) → asked_in rules plan (e ∷ past) m number ≡ asked_in rules plan past m number) → AreAsked rules plan past asked → AreAsked rules plan (e ∷ past) asked
lists_same rules plan past e asked h k a = record {
  members = a.members;
  items = λ m l. a.items m l ∙ sym (h m);
  versions = λ m number l n. a.versions m number l (let q = h m in omega arith) ∙ sym (k m number);
}

pub asked_received : (rules : Rules) (plan : Planned) (past : Events) (from to : ℕ) (asked : List (List ℕ)) → AreAsked rules plan past asked → AreAsked rules plan (Receive from to ∷ past) asked
asked_received rules plan past from to asked a = lists_same rules plan past (Receive from to) asked (receipt_same rules plan past from to) (λ m number. refl) a

pub asked_released : (rules : Rules) (plan : Planned) (past : Events) (at : ℕ) (asked : List (List ℕ)) → AreAsked rules plan past asked → AreAsked rules plan (Release at ∷ past) asked
asked_released rules plan past at asked a = lists_same rules plan past (Release at) asked (release_same rules plan past at) (λ m number. refl) a

pub none_asked : (rules : Rules) (plan : Planned) → AreAsked rules plan [] (empty_lists plan.members)
none_asked rules plan = record {
  members = length-empty plan.members;
  items = λ m l. ap length (all_empty plan.members m);
  versions = λ m number l n. absurd (let q : number < 0 = n in omega arith);
}

unasked : (b : Bool) (x y : ℕ) → (if b && false then x else y) ≡ y
unasked true x y = refl
unasked false x y = refl

-- a refused call leaves them
refused : (rules : Rules) (plan : Planned) (past : Events) (thread index : ℕ) (given : Answer) (s : PlannedStep) (asked : List (List ℕ)) → ((n : ℕ) → counted given n ≡ n) → ((n : ℕ) → gives n given ≡ false) →
    planned plan thread index ≡ Some s → given ≡ answer (group rules plan) s.at (part rules plan past s.at) s.call →
    AreAsked rules plan past asked → AreAsked rules plan (CallEvent thread index s.at given ∷ past) asked
refused rules plan past thread index given s asked c n q a k =
    lists_same rules plan past (CallEvent thread index s.at given) asked
    (λ m. elim (same_or m s.at) [
      | inl e ↦
          let P : ℕ → Type 0 = λ i. accepted_by rules plan (CallEvent thread index s.at given ∷ past) i ≡ accepted_by rules plan past i in
          subst P (sym e) (call_here rules plan past thread index given s q a ∙ c (accepted_by rules plan past s.at))
      | inr ne ↦ call_away rules plan past thread index given s m q ne
    ])
    (λ m number. ap (λ b. if (s.at == m) && b then version_in rules plan past m else asked_in rules plan past m number) (n number) ∙ unasked (s.at == m) _ _) k

-- an accepted one puts the version behind its member's list
accepted : (rules : Rules) (plan : Planned) (past : Events) (thread index number version : ℕ) (s : PlannedStep) (asked : List (List ℕ)) → s.at < plan.members → version ≡ version_in rules plan past s.at →
    planned plan thread index ≡ Some s → Accepted number ≡ answer (group rules plan) s.at (part rules plan past s.at) s.call →
    AreAsked rules plan past asked → AreAsked rules plan (CallEvent thread index s.at (Accepted number) ∷ past) (set asked s.at (get_or asked s.at [] ++ version ∷ []))
accepted rules plan past thread index number version s asked fits v q a k =
    let old : List ℕ = get_or asked s.at [] in
    let new : List (List ℕ) = set asked s.at (old ++ version ∷ []) in
    let e : Event = CallEvent thread index s.at (Accepted number) in
    let many = k.members in
    let lt : s.at < length asked = omega arith in
    let mine : get_or new s.at [] ≡ old ++ version ∷ [] = get_or-set_same asked s.at (old ++ version ∷ []) [] lt in
    let theirs = λ (m : ℕ) (ne : m ≢ s.at). get_or-set_other asked s.at m (old ++ version ∷ []) [] ne in
    let had : length old ≡ accepted_by rules plan past s.at = k.items s.at fits in
    let nth : number ≡ accepted_by rules plan past s.at = call_number (group rules plan) s.at (part rules plan past s.at) s.call number (sym a) in
    let here = call_here rules plan past thread index (Accepted number) s q a in
    let Items : ℕ → Type 0 = λ m. length (get_or new m []) ≡ accepted_by rules plan (e ∷ past) m in
    let Versions : ℕ → Type 0 = λ m. (n : ℕ) → n < accepted_by rules plan (e ∷ past) m → get_or (get_or new m []) n 0 ≡ asked_in rules plan (e ∷ past) m n in
    let items_here : Items s.at = ap length mine ∙ (let l = length-append old (version ∷ []) in omega arith) in
    let versions_here : Versions s.at = λ n l. ap (λ xs. get_or xs n 0) mine ∙ at_place rules plan past thread index number version s old n had nth v (let h = here in omega arith) (λ r. k.versions s.at n fits r) in
    record {
      members = length-set asked s.at (old ++ version ∷ []) ∙ many;
      items = λ m l. elim (same_or m s.at) [
        | inl i ↦ subst Items (sym i) items_here
        | inr ne ↦ ap length (theirs m ne) ∙ k.items m l ∙ sym (call_away rules plan past thread index (Accepted number) s m q ne)
      ];
      versions = λ m n l r. elim (same_or m s.at) [
        | inl i ↦ subst Versions (sym i) versions_here n r
        | inr ne ↦
            let away = call_away rules plan past thread index (Accepted number) s m q ne in
            ap (λ xs. get_or xs n 0) (theirs m ne) ∙ k.versions m n l (omega arith)
            ∙ sym (ap (λ b. if b && gives n (Accepted number) then version_in rules plan past m else asked_in rules plan past m n) (eqb_other s.at m (λ z. ne (sym z))))
      ];
    }
  where
    at_place : (rules : Rules) (plan : Planned) (past : Events) (thread index number version : ℕ) (s : PlannedStep) (old : List ℕ) (n : ℕ) → length old ≡ accepted_by rules plan past s.at →
        number ≡ accepted_by rules plan past s.at → version ≡ version_in rules plan past s.at → n < suc (accepted_by rules plan past s.at) →
        (n < accepted_by rules plan past s.at → get_or old n 0 ≡ asked_in rules plan past s.at n) →
        get_or (old ++ version ∷ []) n 0 ≡ asked_in rules plan (CallEvent thread index s.at (Accepted number) ∷ past) s.at n
    at_place rules plan past thread index number version s old n had nth v l before = elim (same_or number n) [
      | inl i ↦
          let last : n ≡ length old = omega arith in
          ap (λ j. get_or (old ++ version ∷ []) j 0) last ∙ get_or-append_seam old version [] 0 ∙ v
          ∙ sym (rw (eqb_self s.at, i, eqb_self n) refl)
      | inr ne ↦
          let less : n < accepted_by rules plan past s.at = omega arith in
          get_or_append_left old (version ∷ []) 0 n (omega arith) ∙ before less ∙ sym (rw (eqb_self s.at, eqb_other number n ne) refl)
    ]

pub asked_called : (rules : Rules) (plan : Planned) (past : Events) (thread index version : ℕ) (given : Answer) (s : PlannedStep) (asked : List (List ℕ)) → s.at < plan.members → version ≡ version_in rules plan past s.at →
    planned plan thread index ≡ Some s → given ≡ answer (group rules plan) s.at (part rules plan past s.at) s.call →
    AreAsked rules plan past asked → AreAsked rules plan (CallEvent thread index s.at given ∷ past) (listed given s.at version asked)
asked_called rules plan past thread index version (Accepted number) s asked fits v q a k = accepted rules plan past thread index number version s asked fits v q a k
asked_called rules plan past thread index version Done s asked fits v q a k = refused rules plan past thread index Done s asked (λ n. refl) (λ n. refl) q a k
asked_called rules plan past thread index version Full s asked fits v q a k = refused rules plan past thread index Full s asked (λ n. refl) (λ n. refl) q a k
asked_called rules plan past thread index version Crashed s asked fits v q a k = refused rules plan past thread index Crashed s asked (λ n. refl) (λ n. refl) q a k
asked_called rules plan past thread index version VersionLimit s asked fits v q a k = refused rules plan past thread index VersionLimit s asked (λ n. refl) (λ n. refl) q a k
asked_called rules plan past thread index version BadKind s asked fits v q a k = refused rules plan past thread index BadKind s asked (λ n. refl) (λ n. refl) q a k
asked_called rules plan past thread index version BadMember s asked fits v q a k = refused rules plan past thread index BadMember s asked (λ n. refl) (λ n. refl) q a k
