-- What modules stand for after one input more.
use Rattle.std.proofs.Common.{ℕ, zero, suc, ◌≡◌, ◌≢◌, ◌<◌, ◌≤◌, ◌==◌, inl, inr, ◌⊎◌, List, [], ◌∷◌, ◌++◌, length, length-append, refl, sym, ◌∙◌, ap, subst, arith, Some, None, set, length-set, All, get_or}
use Rattle.std.specs.Prelude.{slice_get}
use Rattle.std.specs.List.{AllZip}
use Rattle.std.proofs.lemmas.Bool.{eqb-true, eq-eqb}
use Rattle.std.proofs.lemmas.Option.{slice_get_within, get_or_from_slice_get, slice_get-get_or}
use Rattle.std.proofs.lemmas.List.Elements.{length_all_zip}
use Rattle.fifo_net.specs.Net.{Input, Called}
use Rattle.order_trait.specs.Runs.{Order, Inputs, at_seat}
use Rattle.order_trait.specs.declared.ordering.Ordering.{Ghosts}
use Rattle.upd_base.specs.declared.body.Body.{Body}
use Rattle.group_run.specs.Group.{Group}
use Rattle.group_run.specs.Version.{kind_at, kind_above, inputs_at, given}
use Rattle.group_run.specs.Part.{Part}
use Rattle.group_run.specs.Turn.{framed, sent_at}
use Rattle.group_run.proofs.Lists.{tested}
use Rattle.group_run.proofs.Modules.{inputs_at-given_same, inputs_at-given_other, length-given}
use Rattle.group_versions.proofs.Versions.{kind_at-older, kind_at-newest, inputs_at-older, inputs_at-newest}
use Rattle.member_rules.specs.Stands.{AreModules}
use Rattle.member_rules.specs.Steps.{IsNext}
use Rattle.member_rules.proofs.Alike.{Told}

pub slice_get-set_same : {A : Type 0} (xs : List A) (v : ℕ) (a : A) → v < length xs → slice_get (set xs v a) v ≡ Some a
slice_get-set_same [] v a h = absurd (omega arith)
slice_get-set_same (x ∷ xs) zero a h = refl
slice_get-set_same (x ∷ xs) (suc v) a h = slice_get-set_same xs v a (omega arith)

pub slice_get-set_other : {A : Type 0} (xs : List A) (v u : ℕ) (a : A) → u ≢ v → slice_get (set xs v a) u ≡ slice_get xs u
slice_get-set_other [] v u a h = refl
slice_get-set_other (x ∷ xs) zero zero a h = absurd (h refl)
slice_get-set_other (x ∷ xs) zero (suc u) a h = refl
slice_get-set_other (x ∷ xs) (suc v) zero a h = refl
slice_get-set_other (x ∷ xs) (suc v) (suc u) a h = slice_get-set_other xs v u a (λ p. h (ap suc p))

pub slice_get-push : {A : Type 0} (xs : List A) (a : A) (v : ℕ) (y : A) → slice_get (xs ++ a ∷ []) v ≡ Some y → (slice_get xs v ≡ Some y) ⊎ ((v ≡ length xs) × (a ≡ y))
slice_get-push [] a zero y h = inr (refl, (cc))
slice_get-push [] a (suc v) y h = absurd (let p : None ≡ Some y = h in cc)
slice_get-push (x ∷ xs) a zero y h = inl h
slice_get-push (x ∷ xs) a (suc v) y h = elim (slice_get-push xs a v y h) [ inl p ↦ inl p | inr p ↦ inr (ap suc p.0, p.1) ]

pub all_at : {A : Type 0} (P : A → Type 0) (xs : List A) (v : ℕ) (m : A) → All P xs → slice_get xs v ≡ Some m → P m
all_at P xs v m h at = subst P (get_or_from_slice_get xs v m m at) (h v m (slice_get_within xs v m at))

pub zip_at : {A : Type 0} (R : A → A → Type 0) (xs ys : List A) (v : ℕ) (y : A) → AllZip R xs ys → slice_get ys v ≡ Some y → (x : A) × (slice_get xs v ≡ Some x) × R x y
zip_at R [] [] v y z h = absurd (let p : None ≡ Some y = h in cc)
zip_at R (x ∷ xs) [] v y z h = absurd z
zip_at R [] (x ∷ xs) v y z h = absurd z
zip_at R (x ∷ xs) (w ∷ ys) zero y z h = let e : w ≡ y = (cc) in (x, refl, subst (R x) e z.0)
zip_at R (x ∷ xs) (w ∷ ys) (suc v) y z h = zip_at R xs ys v y z.1 h

pub zip_all : {A : Type 0} (R : A → A → Type 0) (P : A → Type 0) (xs ys : List A) → ((x y : A) → R x y → P x → P y) → AllZip R xs ys → All P xs → All P ys
zip_all R P xs ys keeps zip all = λ k d l.
    let at = slice_get-get_or ys k d l in
    let f = zip_at R xs ys k (get_or ys k d) zip at in
    keeps f.0 (get_or ys k d) f.2 (all_at P xs k f.0 all f.1)

-- the module of a version has an input more
pub modules_given : {O : Type 0} (G : Ghosts O) (g : Group) (me v : ℕ) (x : Input Order Body) (modules : List O) (ms : List Inputs) (m next : O) →
    AreModules G g me modules ms → v < length ms
    → ((u : ℕ) → u < length ms → kind_at g me u (given v x ms) ≡ kind_at g me u ms)
    → slice_get modules v ≡ Some m → IsNext G x m next
    → AreModules G g me (set modules v next) (given v x ms)
modules_given G g me v x modules ms m next are lt kinds at step = record {
  many = length-set modules v next ∙ are.many ∙ sym (length-given v x ms);
  kinds = λ u y h. elim (tested (u == v)) [
    | inl e ↦ let is : u ≡ v = eqb-true u v e in same_kind u y is h
    | inr e ↦
        let ne : u ≢ v = λ p. let q = eq-eqb u v p in cc in
        let old : slice_get modules u ≡ Some y = sym (slice_get-set_other modules v u next ne) ∙ h in
        let l : u < length ms = let w = slice_get_within modules u y old in let e2 = are.many in omega arith in
        are.kinds u y old ∙ sym (kinds u l)
  ];
  stand = λ u y h. elim (tested (u == v)) [
    | inl e ↦ let is : u ≡ v = eqb-true u v e in same_stand u y is h
    | inr e ↦
        let ne : u ≢ v = λ p. let q = eq-eqb u v p in cc in
        let old : slice_get modules u ≡ Some y = sym (slice_get-set_other modules v u next ne) ∙ h in
        subst (G.stands y) (sym (inputs_at-given_other v u x ms ne)) (are.stand u y old)
  ];
}
  where
    within : v < length modules
    within = let e2 = are.many in omega arith

    is_next : (u : ℕ) (y : _) → u ≡ v → slice_get (set modules v next) u ≡ Some y → next ≡ y
    is_next u y is h = let p : Some next ≡ Some y = sym (slice_get-set_same modules v next within) ∙ sym (ap (slice_get (set modules v next)) is) ∙ h in cc

    same_kind : (u : ℕ) (y : _) → u ≡ v → slice_get (set modules v next) u ≡ Some y → (G.seat y).kind ≡ kind_at g me u (given v x ms)
    same_kind u y is h =
        ap (λ z. (G.seat z).kind) (sym (is_next u y is h)) ∙ ap (λ s. s.kind) step.0 ∙ are.kinds v m at ∙ sym (kinds v lt) ∙ ap (λ w. kind_at g me w (given v x ms)) (sym is)

    same_stand : (u : ℕ) (y : _) → u ≡ v → slice_get (set modules v next) u ≡ Some y → G.stands y (inputs_at u (given v x ms))
    same_stand u y is h =
        let s : G.stands next (x ∷ inputs_at v ms) = step.1 (inputs_at v ms) (are.stand v m at) in
        let s2 : G.stands next (inputs_at v (given v x ms)) = subst (G.stands next) (sym (inputs_at-given_same v x ms lt)) s in
        let s3 : G.stands y (inputs_at v (given v x ms)) = subst (λ z. G.stands z (inputs_at v (given v x ms))) (is_next u y is h) s2 in
        subst (λ w. G.stands y (inputs_at w (given v x ms))) (sym is) s3

-- each module has an order more
pub modules_told : {O : Type 0} (G : Ghosts O) (g : Group) (me n : ℕ) (order : Order) (modules all : List O) (ms ns : List Inputs) →
    AreModules G g me modules ms → Told g me order n ms ns → length ms ≤ n → AllZip (IsNext G (Called order)) modules all
    → AreModules G g me all ns
modules_told G g me n order modules all ms ns are told len zip = record {
  many = sym (length_all_zip (IsNext G (Called order)) modules all zip) ∙ are.many ∙ sym told.alike.same_length;
  kinds = λ u y h.
      let f = zip_at (IsNext G (Called order)) modules all u y zip h in
      let l = reached u f.0 f.1 in
      ap (λ s. s.kind) f.2.0 ∙ are.kinds u f.0 f.1 ∙ sym (told.alike.kinds u l);
  stand = λ u y h.
      let f = zip_at (IsNext G (Called order)) modules all u y zip h in
      let l = reached u f.0 f.1 in
      subst (G.stands y) (sym (told.below u (omega arith))) (f.2.1 (inputs_at u ms) (are.stand u f.0 f.1));
}
  where
    reached : (u : ℕ) (m : _) → slice_get modules u ≡ Some m → u < length ms
    reached u m at = let w = slice_get_within modules u m at in let e = are.many in omega arith

-- a fresh module is put at the end
pub modules_bound : {O : Type 0} (G : Ghosts O) (g : Group) (me : ℕ) (modules : List O) (fresh : O) (ns : List Inputs) (new : Inputs) →
    AreModules G g me modules ns → (G.seat fresh).kind ≡ kind_above g me ns → G.stands fresh new
    → AreModules G g me (modules ++ fresh ∷ []) (new ∷ ns)
modules_bound G g me modules fresh ns new are kind stands = record {
  many = let e = are.many in let l = length-append modules (fresh ∷ []) in omega arith;
  kinds = λ u y h. elim (slice_get-push modules fresh u y h) [
    | inl old ↦
        let l : u < length ns = let w = slice_get_within modules u y old in let e = are.many in omega arith in
        are.kinds u y old ∙ sym (kind_at-older g me u new ns l)
    | inr at ↦ let is : u ≡ length ns = at.0 ∙ are.many in
        ap (λ z. (G.seat z).kind) (sym at.1) ∙ kind ∙ sym (kind_at-newest g me new ns) ∙ ap (λ w. kind_at g me w (new ∷ ns)) (sym is)
  ];
  stand = λ u y h. elim (slice_get-push modules fresh u y h) [
    | inl old ↦
        let l : u < length ns = let w = slice_get_within modules u y old in let e = are.many in omega arith in
        subst (G.stands y) (sym (inputs_at-older u new ns l)) (are.stand u y old)
    | inr at ↦ let is : u ≡ length ns = at.0 ∙ are.many in
        let a : G.stands y new = subst (λ z. G.stands z new) at.1 stands in
        subst (G.stands y) (sym (inputs_at-newest new ns) ∙ ap (λ w. inputs_at w (new ∷ ns)) (sym is)) a
  ];
}

-- what a module sends, by its version
pub sent_by : {O : Type 0} (G : Ghosts O) (g : Group) (me v : ℕ) (x : Input Order Body) (modules : List O) (part : Part) (m : O) →
    AreModules G g me modules part.modules → slice_get modules v ≡ Some m → (G.seat m).members ≡ g.members → (G.seat m).me ≡ me → g.rules.sends ≡ G.sends
    → framed v (at_seat G.sends (G.seat m) (x ∷ inputs_at v part.modules)) ≡ sent_at g me part (record { version = v; input = x })
sent_by G g me v x modules part m are at members mine sends =
    rw (are.kinds v m at, members, mine, sends) refl
