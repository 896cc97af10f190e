-- What was prepared, as the turn that it makes.
use Rattle.std.proofs.Common.{ℕ, ◌≡◌, ◌≤◌, ◌+◌, ◌++◌, true, false, Option, Some, None, List, [], ◌∷◌, length, All, Ok, Err, refl, sym, ◌∙◌, ap, subst, arith}
use Rattle.std.specs.Prelude.{is_some, unwrap_or, Result, IfOk}
use Rattle.std.proofs.lemmas.List.Elements.{All-nil}
use Rattle.fifo_net.specs.Net.{Input, Called}
use Rattle.order_trait.specs.declared.ordering.Ordering.{Ghosts}
use Rattle.upd_base.specs.declared.frame.Frame.{Frame}
use Rattle.upd_base.specs.declared.item.Item.{Item}
use Rattle.upd_base.specs.declared.item.Item.TheVariants.{Msg}
use Rattle.upd_base.specs.declared.call.Call.{Call}
use Rattle.upd_base.specs.declared.call.Call.TheVariants.{Send}
use Rattle.replacement.specs.Repl.{State, issued as issued_state}
use Rattle.upd_base.specs.declared.answer.Answer.{Answer}
use Rattle.upd_base.specs.declared.answer.Answer.TheVariants.{Accepted, Done}
use Rattle.group_run.specs.Group.{Outer, Releases}
use Rattle.group_run.specs.Part.{Part, version, with_accepted, undelivered, log}
use Rattle.group_run.specs.Held.{first_ready}
use Rattle.group_run.specs.Turn.{Turn, still, issued, called, released, turn_of, turn_after}
use Rattle.group_run.specs.Growing.{NextIsNew}
use Rattle.member_rules.specs.Kept.{Kept, IsMember, group_of}
use Rattle.member_rules.specs.Stands.{Holds, Stands, part_of}
use Rattle.member_rules.specs.Steps.{SentFits}
use Rattle.member_rules.proofs.Frames.{ready_is}
use Rattle.member_rules.proofs.Turns.{absent_from, absent_message}
use Rattle.member_core.specs.declared.change.Change.{Change}
use Rattle.member_core.specs.declared.change.Change.TheVariants.{Nothing, Stop, Hold, Tell, Advance}
use Rattle.member_core.specs.declared.member.Member.{Member}
use Rattle.member_core.specs.declared.prepared.Prepared.{Prepared}
use Rattle.member_core.specs.Member.{kept_by}
use Rattle.member_core.specs.Prepared.{changed, committed, sent_of}
use Rattle.member_core.specs.Foretold.{Keeps, Reaches, IsSound, MakesTurn, given_by}

-- what a member keeps is that of a member
pub member_of : {O : Type 0} {G : Ghosts O} (m : Member O G) → IsMember G (kept_by m)
member_of m = record {
  some = m.some;
  few = m.few;
  me_fits = m.me_fits;
  first_served = m.first_served;
  first_fits = m.first_fits;
  versions = m.versions;
  few_versions = m.few_versions;
  members_are = m.members_are;
  me_is = m.me_is;
  mine = m.mine;
  own = m.own;
  items_fit = m.items_fit;
  row = m.row;
  not_self = m.not_self;
  held_fit = m.held_fit;
}

-- Where nothing changes ---------------------------------------------------------------------------------------------

pub sound_still : {O : Type 0} (G : Ghosts O) (k : Kept O) (n : ℕ) (p : Prepared O) → IsMember G k → p.change ≡ Nothing → sent_of p ≡ [] → IsSound G k n p
sound_still {O} G k n p m same none = record {
  reaches = subst (λ (c : Change O). Reaches k c) (sym same) tt;
  member = subst (λ (c : Change O). IsMember G (changed k c)) (sym same) m;
  made = subst (λ (c : Change O). (changed k c).repl.made ≤ k.repl.made + n) (sym same) (omega arith);
  fits = subst (λ (s : List (ℕ × Frame)). All (SentFits k.members) s) (sym none) (All-nil (SentFits k.members));
}

pub makes_still : {O : Type 0} (G : Ghosts O) (k : Kept O) (p : Prepared O) (part : Part) → p.change ≡ Nothing → sent_of p ≡ [] → Keeps G k part → MakesTurn G k p (still part)
makes_still {O} G k p part same none h = record {
  holds = subst (λ (c : Change O). Holds G (group_of G k) k.me (changed k c) part) (sym same) h;
  frames = none;
}

-- of a call that is refused
pub makes_refused : {O : Type 0} (G : Ghosts O) (k : Kept O) (p : Prepared O) (part : Part) (call : Call) (a : Answer) → p.change ≡ Nothing → p.answer ≡ Some a → sent_of p ≡ [] → Keeps G k part
    → called (group_of G k) k.me part call a ≡ still part → MakesTurn G k p (called (group_of G k) k.me part call (given_by p))
makes_refused G k p part call a same given none h is =
    let turn : called (group_of G k) k.me part call (given_by p) ≡ still part = ap (λ o. called (group_of G k) k.me part call (unwrap_or o Done)) given ∙ is in
    subst (λ (t : Turn). MakesTurn G k p t) (sym turn) (makes_still G k p part same none h)

-- Lists of inputs ----------------------------------------------------------------------------------------------------

pub group_kept : {O : Type 0} (G : Ghosts O) (k : Kept O) (c : Change O) → group_of G (changed k c) ≡ group_of G k
group_kept G k Nothing = refl
group_kept G k Stop = refl
group_kept G k (Hold from frame) = refl
group_kept G k (Tell who on modules) = refl
group_kept G k (Advance progress) = refl

pub me_kept : {O : Type 0} (k : Kept O) (c : Change O) → (changed k c).me ≡ k.me
me_kept k Nothing = refl
me_kept k Stop = refl
me_kept k (Hold from frame) = refl
me_kept k (Tell who on modules) = refl
me_kept k (Advance progress) = refl

-- a member that was prepared for the next turn stands for the longer list
pub stands_made : {O : Type 0} (G : Ghosts O) (k : Kept O) (p : Prepared O) (past : List (Input Outer Frame)) (x : Input Outer Frame) →
    MakesTurn G k p (turn_after (group_of G k) k.me (part_of G k past) x) → Stands G (committed k p) (x ∷ past)
stands_made {O} G k p past x makes =
    let k2 : Kept O = committed k p in
    let a : Holds G (group_of G k) k2.me k2 (turn_of (group_of G k) k2.me (x ∷ past)).part =
    subst (λ m. Holds G (group_of G k) m k2 (turn_of (group_of G k) m (x ∷ past)).part) (sym (me_kept k p.change)) makes.holds in
    subst (λ g. Holds G g k2.me k2 (turn_of g k2.me (x ∷ past)).part) (sym (group_kept G k p.change)) a

-- what a call makes, by its answer
pub makes_given : {O : Type 0} (G : Ghosts O) (k : Kept O) (p : Prepared O) (part : Part) (call : Call) (a : Answer) → p.answer ≡ Some a
    → MakesTurn G k p (called (group_of G k) k.me part call (given_by p)) → MakesTurn G k p (called (group_of G k) k.me part call a)
makes_given G k p part call a given makes =
    subst (λ b. MakesTurn G k p (called (group_of G k) k.me part call b)) (ap (λ o. unwrap_or o Done) given) makes

-- Results --------------------------------------------------------------------------------------------------------------

pub if_ok_map : {A E : Type 0} (P Q : A → Type 0) (r : Result A E) → ((a : A) → P a → Q a) → IfOk r P → IfOk r Q
if_ok_map P Q (Ok a) f p = f a p
if_ok_map P Q (Err e) f p = tt

pub if_ok_both : {A E : Type 0} (P Q R : A → Type 0) (r : Result A E) → ((a : A) → P a → Q a → R a) → IfOk r P → IfOk r Q → IfOk r R
if_ok_both P Q R (Ok a) f p q = f a p q
if_ok_both P Q R (Err e) f p q = tt

-- A message --------------------------------------------------------------------------------------------------------------

pub waiting_sent : {O : Type 0} (G : Ghosts O) (k : Kept O) (part : Part) (text : List ℕ) (repl2 : State) (item : Item) → IsMember G k → Keeps G k part → NextIsNew (group_of G k) k.me part
    → repl2 ≡ issued_state k.repl text → item ≡ Msg k.repl.me k.repl.made text → repl2.undelivered ≡ undelivered (group_of G k) k.me (with_accepted part item)
waiting_sent G k part text repl2 item m h new after is =
    let same : item ≡ Msg k.me (length part.accepted) text = is ∙ ap (λ a. Msg a k.repl.made text) m.mine ∙ ap (λ n. Msg k.me n text) h.made_is in
    let logs = log (group_of G k) k.me part in
    ap (λ (s : State). s.undelivered) after
    ∙ ap (λ x. k.repl.undelivered ++ x ∷ []) (sym is ∙ same)
    ∙ ap (λ us. us ++ Msg k.me (length part.accepted) text ∷ []) h.undelivered_is
    ∙ sym (absent_message logs k.me (length part.accepted) text part.accepted new)
    ∙ ap (λ x. absent_from logs (x ∷ part.accepted)) (sym same)

pub makes_sent : {O : Type 0} (G : Ghosts O) (k : Kept O) (p : Prepared O) (part : Part) (text : List ℕ) (item : Item) → IsMember G k → p.answer ≡ Some (Accepted k.repl.made) → item ≡ Msg k.repl.me k.repl.made text
    → MakesTurn G k p (issued (group_of G k) k.me part item) → MakesTurn G k p (called (group_of G k) k.me part (Send text) (given_by p))
makes_sent G k p part text item m given is makes =
    let same : item ≡ Msg k.me k.repl.made text = is ∙ ap (λ a. Msg a k.repl.made text) m.mine in
    let turn : called (group_of G k) k.me part (Send text) (given_by p) ≡ issued (group_of G k) k.me part item =
    ap (λ o. called (group_of G k) k.me part (Send text) (unwrap_or o Done)) given ∙ ap (issued (group_of G k) k.me part) (sym same) in
    subst (λ (t : Turn). MakesTurn G k p t) (sym turn) makes
