-- What modules send and deliver.
use Rattle.std.specs.Prelude.{ℕ, zero, suc, true, ◌≡◌, ◌<◌, List, [], ◌∷◌, ◌++◌, All}
use Rattle.upd_base.specs.Body.{BodyFits, is_body}
use Rattle.upd_base.specs.declared.body.Body.{Body}

-- a body to each of the members below n, in ascending order
abbrev pub to_all : ℕ → Body → List (ℕ × Body)
to_all zero body = []
to_all (suc n) body = to_all n body ++ (n, body) ∷ []

-- a receiver below n, and a body that names only members below n and whose numbers count from 1
abbrev pub SendFits : ℕ → ℕ × Body → Type 0
SendFits n p = (p.0 < n) × BodyFits n p.1 × (is_body p.1 ≡ true)

-- after old came some more, each of which is as P says
abbrev pub Grows : {A : Type 0} → (A → Type 0) → List A → List A → Type 0
Grows {A} P old new = (added : List A) × (new ≡ old ++ added) × All P added
