-- What the laws of the kinds give, and what a member holds at the start.
use Rattle.std.proofs.Common.{ℕ, zero, suc, ◌≡◌, ◌<◌, ◌≤◌, true, false, List, [], ◌∷◌, length, refl, ap, arith, lit<, lit≤, Some, None, replicate}
use Rattle.std.specs.Prelude.{slice_get, Contains}
use Rattle.std.proofs.lemmas.Option.{slice_get-get_or}
use Rattle.std.proofs.lemmas.List.{length-replicate, get_or-replicate}
use Rattle.order_trait.specs.Runs.{KeepsAgreement, KeepsIntegrity, IsModuleRun}
use Rattle.order_trait.specs.declared.ordering.Ordering.{Ghosts}
use Rattle.upd_base.specs.Kind.{KindFits}
use Rattle.upd_base.specs.declared.kind.Kind.{Kind}
use Rattle.upd_base.specs.declared.item.Item.{Item}
use Rattle.upd_base.specs.declared.limits.TheConstants.{MAX_MEMBERS}
use Rattle.replacement.specs.Repl.{State}
use Rattle.group_run.specs.Group.{Group}
use Rattle.group_run.specs.Part.{Part, opening, version}
use Rattle.member_rules.specs.Kept.{Kept, IsMember, rules_of, group_of}
use Rattle.member_rules.specs.Stands.{Holds}
use Rattle.member_rules.specs.Steps.{Calm}
use Rattle.member_rules.proofs.Alike.{newest_is}

none_contained : (xs : List Item) → ((x : Item) → Contains xs x → ⊥) → xs ≡ []
none_contained [] h = refl
none_contained (x ∷ xs) h = absurd (h x (0, omega arith, refl))

pub calm_of_laws : {O : Type 0} (G : Ghosts O) (n me : ℕ) (first : Kind) → 1 ≤ n → n ≤ MAX_MEMBERS → me < n
    → ((kind : Kind) → G.is_served kind ≡ true → KeepsAgreement (G.sends kind) (G.delivers kind) kind)
    → ((kind : Kind) → G.is_served kind ≡ true → KeepsIntegrity (G.sends kind) (G.delivers kind) kind)
    → Calm (record { rules = rules_of G; members = n; first = first }) me
calm_of_laws G n me first some few lt agreement integrity = record {
  takes = λ kind served order inputs. (agreement kind served).takes n me order inputs;
  fresh = λ kind served fits.
      let run : IsModuleRun (G.sends kind) kind n [] = record { some = some; few = few; kind_fits = fits; short = lit< tt; fit = tt; fifo = tt } in
      none_contained (G.delivers kind n me []) (λ item c. let d = (integrity kind served).broadcast n [] run me lt item c in absurd (let l = d.1 in omega arith));
}

-- the same, of a member
pub calm_of : {O : Type 0} (G : Ghosts O) (k : Kept O) → IsMember G k
    → ((kind : Kind) → G.is_served kind ≡ true → KeepsAgreement (G.sends kind) (G.delivers kind) kind)
    → ((kind : Kind) → G.is_served kind ≡ true → KeepsIntegrity (G.sends kind) (G.delivers kind) kind)
    → Calm (group_of G k) k.me
calm_of G k m agreement integrity = calm_of_laws G k.members k.me k.first m.some m.few m.me_fits agreement integrity

-- the version of a member is that of its replacement
pub version_is : {O : Type 0} (G : Ghosts O) (k : Kept O) (g : Group) (me : ℕ) (part : Part) → IsMember G k → Holds G g me k part → version part ≡ k.repl.version
version_is G k g me part m h = let n = newest_is part.modules in let a = h.modules_are.many in let e = m.versions in omega arith

pub one_module : {O : Type 0} (m x : O) (v : ℕ) → slice_get (m ∷ []) v ≡ Some x → (v ≡ 0) × (m ≡ x)
one_module m x zero h = (refl, (cc))
one_module m x (suc v) h = absurd (let p : None ≡ Some x = h in cc)

pub at_start : {O : Type 0} (G : Ghosts O) (k : Kept O) (m : O) →
    Calm (group_of G k) k.me → G.is_served k.first ≡ true → KindFits k.members k.first
    → G.seat m ≡ record { kind = k.first; members = k.members; me = k.me } → G.stands m [] → k.modules ≡ m ∷ []
    → k.repl ≡ record { me = k.me; version = 0; kind = k.first; made = 0; undelivered = [] }
    → k.suspected ≡ replicate k.members false → k.held ≡ [] → k.entries ≡ [] → k.crashed ≡ false
    → Holds G (group_of G k) k.me k opening
at_start G k m calm served fits seat stands mods is row nh ne up =
    let empty = calm.fresh k.first served fits in
    record {
      modules_are = record {
        many = ap length mods;
        kinds = λ v x h. let o = one_module m x v (rw mods at h) in rw (o.0, ← o.1, seat) refl;
        stand = λ v x h. let o = one_module m x v (rw mods at h) in rw (o.0, ← o.1) stands;
      };
      in_order = record {
        some = lit≤ tt;
        ended = λ v h. absurd (omega arith);
        open_yet = rw empty refl;
      };
      kind_is = ap (λ (s : State). s.kind) is;
      made_is = ap (λ (s : State). s.made) is;
      undelivered_is = ap (λ (s : State). s.undelivered) is;
      held_is = nh;
      log_is = rw (ne, empty) refl;
      suspected_is = λ who h. let l : who < length (replicate k.members false) = omega (arith, length-replicate k.members false) in rw (row, slice_get-get_or (replicate k.members false) who false l, get_or-replicate k.members who false false h) refl;
      crashed_is = up;
    }
