-- What holds of each request that waits, after a call that may have had no memory.
use Rattle.std.proofs.Common.{ℕ, ◌≡◌, Result, Ok, Err, List, [], ◌∷◌, ◌++◌, sym, subst}
use Rattle.std.specs.Prelude.{OnOk, OnErr}
use Rattle.std.specs.List.{All, filter}
use Rattle.std.proofs.lemmas.List.Elements.{All-tail, All-filter}
use Rattle.request_queue.specs.declared.request.Request.{Request}
use Rattle.request_queue.specs.Request.{insert}
use Rattle.request_queue.proofs.Limits.{over, all_insert}

either_way : {T E P Q R : Type 0} (r : Result T E) → OnOk r P → OnErr r Q → (P → R) → (Q → R) → R
either_way (Ok x) p q f g = f p
either_way (Err e) p q f g = g q

all_behind : {A : Type 0} (P : A → Type 0) (gone xs : List A) → All P (gone ++ xs) → All P xs
all_behind P [] xs a = a
all_behind P (x ∷ gone) xs a = all_behind P gone xs (All-tail P x (gone ++ xs) a)

-- after a request was put, or nothing was
pub all_put : {T E : Type 0} (r : Result T E) (P : Request → Type 0) (w : Request) (old new : List Request) → OnOk r (new ≡ insert w old) → OnErr r (new ≡ old) → P w → All P old → All P new
all_put r P w old new ok err h a =
    either_way r ok err
    (λ e. subst (All P) (sym e) (all_insert P w old h a))
    (λ e. subst (All P) (sym e) a)

-- after those up to a limit went, or some at the front did
pub all_left : {T E : Type 0} (r : Result T E) (P : Request → Type 0) (limit : ℕ) (old new : List Request) → OnOk r (new ≡ filter (over limit) old)
    → OnErr r ((gone : List Request) × (old ≡ gone ++ new)) → All P old → All P new
all_left r P limit old new ok err a =
    either_way r ok err
    (λ e. subst (All P) (sym e) (All-filter (over limit) P old a))
    (λ g. all_behind P g.0 new (subst (All P) g.1 a))
