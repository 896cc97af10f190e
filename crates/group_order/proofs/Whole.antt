-- In a run of a plan whose kinds are served no delivered switch is left out: a segment is what was delivered up to and
-- with the first switch.
use Rattle.std.proofs.Common.{ℕ, zero, suc, ◌≡◌, ◌<◌, inl, inr, true, List, [], ◌∷◌, length, refl, sym, ap, subst, arith, Option, Some, None}
use Rattle.std.specs.Prelude.{Contains, nat_lt}
use Rattle.std.proofs.lemmas.Bool.Decides.{nat_tests}
use Rattle.std.proofs.lemmas.List.Elements.{Contains-append_cases}
use Rattle.fifo_net.specs.Net.{inputs_of}
use Rattle.order_trait.proofs.Broadcasts.{broadcasts}
use Rattle.upd_base.specs.Plan.{Planned, planned}
use Rattle.upd_base.specs.declared.kind.Kind.{Kind}
use Rattle.upd_base.specs.declared.item.Item.{Item}
use Rattle.upd_base.specs.declared.item.Item.TheVariants.{Msg, Switch}
use Rattle.upd_base.specs.declared.call.Call.{Call}
use Rattle.upd_base.specs.declared.call.Call.TheVariants.{Send, Change}
use Rattle.upd_base.specs.declared.call.Step.{Step as PlannedStep}
use Rattle.upd_base.specs.declared.answer.Answer.{Answer}
use Rattle.upd_base.specs.declared.answer.Answer.TheVariants.{Accepted}
use Rattle.upd_base.specs.declared.event.Event.TheVariants.{Call as CallEvent, Receive, Release}
use Rattle.upd_base.specs.declared.limits.TheConstants.{MAX_VERSION}
use Rattle.group_run.specs.Group.{Rules, Group}
use Rattle.group_run.specs.Version.{ends, segment, up_to_switch, kind_at, inputs_at}
use Rattle.group_run.specs.Run.{Events, Moves, group, moves_in, part}
use Rattle.group_run.specs.Ordered.{accepted_by, accepted_at, accepted_in}
use Rattle.group_run.specs.Laws.{ServesPlan, WholeSegments, LimitsVersions}
use Rattle.group_run.proofs.Turns.{newest-below}
use Rattle.group_run.proofs.Inputs.{one_of}
use Rattle.group_versions.proofs.Versions.{delivered_at, kind_at-served}
use Rattle.group_members.proofs.Own.{own_all}
use Rattle.group_members.proofs.Fresh.{sent_by_origin}
use Rattle.group_members.proofs.Accepted.{accepted_alike}
use Rattle.group_projection.proofs.World.{World, module_run, in_run}
use Rattle.group_projection.proofs.Moved.{world_of}
use Rattle.group_projection.proofs.Runs.{run_facts}
use Rattle.group_order.proofs.Limit.{limited_all}

-- where each switch ends the version, the first does
whole : (g : Group) (v : ℕ) (xs : List Item) → ((o m : ℕ) (k : Kind) → Contains xs (Switch o m k) → ends g v k ≡ true) → segment g v xs ≡ up_to_switch xs
whole g v [] h = refl
whole g v (Msg origin number payload ∷ xs) h =
    ap (λ ys. Msg origin number payload ∷ ys) (whole g v xs (λ o m k c. h o m k (suc c.0, (let l = c.1 in omega arith), c.2)))
whole g v (Switch origin number kind ∷ xs) h = rw (h origin number kind (0, omega arith, refl)) refl

-- a switch that was accepted is of a planned change
planned_call : (rules : Rules) (plan : Planned) → ServesPlan rules plan → (thread index member : ℕ) (given : Answer) (o : Option PlannedStep) → planned plan thread index ≡ o → (p m : ℕ) (k : Kind) →
    Contains (accepted_at member o given) (Switch p m k) → rules.serves k ≡ true
planned_call rules plan h thread index member given None e p m k c = absurd (let l = c.1 in omega arith)
planned_call rules plan h thread index member given (Some s) e p m k c = by_call s.call given (λ kind q. h thread index s e kind q) c
  where
    by_call : (call : Call) (a : Answer) → ((kind : Kind) → call ≡ Change kind → rules.serves kind ≡ true) → Contains (accepted_by member call a) (Switch p m k) → rules.serves k ≡ true
    by_call (Send text) (Accepted number) w (zero, lt, q) = absurd (let r : Msg member number text ≡ Switch p m k = q in cc)
    by_call (Send text) (Accepted number) w (suc j, lt, q) = absurd (omega arith)
    by_call (Change kind) (Accepted number) w (zero, lt, q) =
        let r : Switch member number kind ≡ Switch p m k = q in
        let is : kind ≡ k = cc in
        subst (λ z. rules.serves z ≡ true) is (w kind refl)
    by_call (Change kind) (Accepted number) w (suc j, lt, q) = absurd (omega arith)
    by_call call a w d = absurd (let l = d.1 in omega arith)

planned_served : (rules : Rules) (plan : Planned) → ServesPlan rules plan → (past : Events) (p m : ℕ) (k : Kind) → Contains (accepted_in plan past) (Switch p m k) → rules.serves k ≡ true
planned_served rules plan h [] p m k c = absurd (let l = c.1 in omega arith)
planned_served rules plan h (CallEvent thread index member given ∷ past) p m k c =
    elim (Contains-append_cases (accepted_at member (planned plan thread index) given) (accepted_in plan past) (Switch p m k) c) [
      | inl d ↦ planned_call rules plan h thread index member given (planned plan thread index) refl p m k d
      | inr d ↦ planned_served rules plan h past p m k d
    ]
planned_served rules plan h (Receive from to ∷ past) p m k c = planned_served rules plan h past p m k c
planned_served rules plan h (Release at ∷ past) p m k c = planned_served rules plan h past p m k c

both : (g : Group) (v : ℕ) (k : Kind) → v < MAX_VERSION → g.rules.serves k ≡ true → ends g v k ≡ true
both g v k lt s = rw (below v lt, s) refl
  where
    below : (a : ℕ) → a < MAX_VERSION → nat_lt a MAX_VERSION ≡ true
    below a l = grind (arith, nat_tests)

pub whole_segments : WholeSegments
whole_segments = λ rules k plan s served past r i v hi hv.
    let f = run_facts rules k plan s past r in
    let g : Group = group rules plan in
    let ms : Moves = moves_in rules plan past in
    let a : World = world_of g ms in
    let w = f.kept.sound in
    let newest_lt = newest-below (a.mods i) (one_of g i (inputs_of i ms)) in
    let vi : v < length (a.mods i) = omega arith in
    let same : delivered_at g i v (a.mods i) (a.mods i) ≡ in_run g a i v i = ap (g.rules.delivers (kind_at g i v (a.mods i)) g.members i) (sym (w.inputs i v)) in
    whole g v (delivered_at g i v (a.mods i) (a.mods i)) (λ o m kd c.
    let law = f.law.keeps.integrity (kind_at g i v (a.mods i)) (kind_at-served g i (a.mods i) f.law.serves v vi) in
    let sent = law.broadcast g.members (a.proj v) (module_run g a f.law w i v hi vi (f.short v)) i hi (Switch o m kd) (subst (λ xs. Contains xs (Switch o m kd)) same c) in
    let by = sent_by_origin g.members (a.proj v) (w.fit v) (Switch o m kd) sent in
    let there : Contains (broadcasts (inputs_at v (a.mods o))) (Switch o m kd) = subst (λ xs. Contains (broadcasts xs) (Switch o m kd)) (w.inputs o v) by.1 in
    let lt : v < MAX_VERSION = (limited_all g o (inputs_of o ms)).below v (Switch o m kd) there refl in
    let own = (own_all g o (inputs_of o ms) by.0).sent v (Switch o m kd) there in
    both g v kd lt (planned_served rules plan served past o m kd ((accepted_alike rules plan past f.plan_is r.enabled).within o (Switch o m kd) own)))

pub limits_versions : LimitsVersions
limits_versions = λ rules plan past i.
    let few = (limited_all (group rules plan) i (inputs_of i (moves_in rules plan past))).few in
    let lt = newest-below (part rules plan past i).modules (one_of (group rules plan) i (inputs_of i (moves_in rules plan past))) in
    omega arith
