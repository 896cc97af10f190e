-- A world before any event.
use Rattle.std.proofs.Common.{ℕ, ◌≡◌, ◌<◌, true, inl, inr, List, [], ◌∷◌, ◌++◌, length, map, replicate, get_or, sym, ◌∙◌, ap, subst, arith, lit<}
use Rattle.std.specs.Prelude.{All}
use Rattle.std.proofs.lemmas.Bool.{cases_lt}
use Rattle.std.proofs.lemmas.List.{map-append, length-map, length-replicate, get_or-replicate, get_or_past}
use Rattle.std.proofs.lemmas.List.Elements.{All-nil}
use Rattle.order_trait.specs.declared.ordering.Ordering.{Ghosts}
use Rattle.upd_base.specs.Plan.{Planned, is_plan}
use Rattle.upd_base.proofs.PlanFacts.{plan_opens}
use Rattle.fifo_link.specs.Links.{Linked, on_link}
use Rattle.group_run.specs.Laws.{ServesPlan}
use Rattle.member_rules.specs.Kept.{Kept, rules_of}
use Rattle.member_rules.specs.Stands.{Stands as MemberStands}
use Rattle.group_world.specs.Seen.{Seen, frames_on, made_by, FrameFits, EachAt, IsSeated, IsWorldOf}
use Rattle.group_world.specs.Stands.{Stands}
use Rattle.group_world.proofs.Lists.{each_push}

-- one more of what is seen
pub each_pushed : {A B : Type 0} (f : A → B) (P : ℕ → B → Type 0) (xs ys : List A) (x : A) → ys ≡ xs ++ x ∷ [] → EachAt P (map f xs) → P (length xs) (f x) → EachAt P (map f ys)
each_pushed {A} {B} f P xs ys x e old here =
    let q : map f ys ≡ map f xs ++ f x ∷ [] = ap (map f) e ∙ map-append f xs (x ∷ []) in
    subst (EachAt P) (sym q) (each_push P (map f xs) (f x) old (let F : ℕ → Type 0 = λ n. P n (f x) in subst F (sym (length-map xs f)) here))

none_made : (n i : ℕ) → get_or (replicate {A = ℕ} n 0) i 0 ≡ 0
none_made n i = elim (cases_lt i n) [
  | inl l ↦ get_or-replicate n i 0 0 l
  | inr l ↦ get_or_past (replicate n 0) i 0 (let e = length-replicate {A = ℕ} n 0 in omega (arith, e, l))
]

-- what is seen of it
pub record IsOpening {O : Type 0} (G : Ghosts O) (plan : Planned) (s : Seen O) : Type 0 where
  pub of_plan : is_plan plan ≡ true
  pub first_served : G.is_served plan.first ≡ true
  pub served : ServesPlan (rules_of G) plan
  pub many : length s.members ≡ plan.members
  pub seats : EachAt (IsSeated plan) s.members
  pub stand : EachAt (λ i k. MemberStands G k []) s.members
  pub width : s.width ≡ plan.members
  pub empty : (from to : ℕ) → from < plan.members → to < plan.members → frames_on s from to ≡ []
  pub made : s.made ≡ replicate (length plan.threads) 0

pub opened : {O : Type 0} (G : Ghosts O) (plan : Planned) (s : Seen O) → IsOpening G plan s → IsWorldOf G plan s
opened G plan s o = record {
  of_plan = o.of_plan;
  first_served = o.first_served;
  served = o.served;
  many = o.many;
  seats = o.seats;
  width = o.width;
  fits = λ from to f t. subst (All (FrameFits plan.members)) (sym (o.empty from to f t)) (All-nil (FrameFits plan.members));
  threads = ap length o.made ∙ length-replicate (length plan.threads) 0;
  planned = λ thread. let e : made_by s thread ≡ 0 = ap (λ l. get_or l thread 0) o.made ∙ none_made (length plan.threads) thread in omega (arith, e);
  items = λ i k e. let m = (o.stand i k e).made_is in omega (arith, m);
}

pub stands_opened : {O : Type 0} (G : Ghosts O) (plan : Planned) (s : Seen O) → IsOpening G plan s → Stands G plan s []
stands_opened G plan s o = record {
  run = record { of_plan = plan_opens plan o.of_plan; short = lit< tt; enabled = tt };
  members = o.stand;
  links = λ from to f t. sym (o.empty from to f t);
  calls = λ thread. ap (λ l. get_or l thread 0) o.made ∙ none_made (length plan.threads) thread;
}

pub is_opening : {O : Type 0} (G : Ghosts O) (plan : Planned) (n t : ℕ) (ks : List (Kept O)) (links : Linked) (made : List ℕ) → n ≡ plan.members → t ≡ length plan.threads
    → is_plan plan ≡ true → G.is_served plan.first ≡ true → ServesPlan (rules_of G) plan → length ks ≡ plan.members → EachAt (IsSeated plan) ks → EachAt (λ i k. MemberStands G k []) ks
    → links.members ≡ n → ((i j : ℕ) → i < n → j < n → on_link links i j ≡ []) → made ≡ replicate {A = ℕ} t 0
    → IsOpening G plan (record { members = ks; width = links.members; waiting = links.waiting; made = made })
is_opening G plan n t ks links made e d p f s m seats stand width empty none = record {
  of_plan = p;
  first_served = f;
  served = s;
  many = m;
  seats = seats;
  stand = stand;
  width = width ∙ e;
  empty = λ from to a b. empty from to (omega (arith, e, a)) (omega (arith, e, b));
  made = none ∙ ap (λ k. replicate {A = ℕ} k 0) d;
}
