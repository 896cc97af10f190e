-- Lines one after another.
use Rattle.std.proofs.Common.{ℕ, suc, ◌≡◌, ◌∙◌, ◌<◌, ◌≤◌, ◌+◌, ◌++◌, List, [], ◌∷◌, sym, ap, refl, subst, take, length, get_or, append_assoc, append-nil}
use Rattle.std.specs.Prelude.{All, flat_map, map, slice_get, Option, Some, None, unwrap_or}
use Rattle.std.proofs.lemmas.Grind.{flat_map-append}
use Rattle.std.proofs.lemmas.List.{take_more, take_all}
use Rattle.std.proofs.lemmas.List.Elements.{All-push}
use Rattle.std.proofs.lemmas.Option.{get_or_from_slice_get, slice_get-get_or, unwrap_or-slice_get}
use Rattle.upd_base.specs.Plan.{Planned, planned, step_in, steps_of}
use Rattle.upd_base.specs.declared.call.Step.{Step}
use Rattle.journal_file.specs.Text.{Line, ended, text_of}

-- the text of a line for each of these
pub lines_of : {A : Type 0} (f : A → Line) (xs : List A) → text_of (map f xs) ≡ flat_map (λ x. ended (f x)) xs
lines_of f [] = refl
lines_of f (x ∷ xs) = ap (λ l. ended (f x) ++ l) (lines_of f xs)

-- the text of several lines for each of these
pub blocks_of : {A : Type 0} (f : A → List Line) (xs : List A) → text_of (flat_map f xs) ≡ flat_map (λ x. text_of (f x)) xs
blocks_of f [] = refl
blocks_of f (x ∷ xs) = flat_map-append ended (f x) (flat_map f xs) ∙ ap (λ l. text_of (f x) ++ l) (blocks_of f xs)

-- the first of a list, and the one behind them
one_more : {A : Type 0} (xs : List A) (i : ℕ) (x : A) → slice_get xs i ≡ Some x → i < length xs → take (i + 1) xs ≡ take i xs ++ x ∷ []
one_more xs i x at lt = take_more xs i x lt ∙ ap (λ y. take i xs ++ y ∷ []) (get_or_from_slice_get xs i x x at)

-- one more of a list fits, and all of it do
pub all_more : {A : Type 0} (P : A → Type 0) (xs : List A) (i : ℕ) (x : A) → slice_get xs i ≡ Some x → i < length xs → All P (take i xs) → P x → All P (take (i + 1) xs)
all_more P xs i x at lt before here = subst (All P) (sym (one_more xs i x at lt)) (All-push P (take i xs) x before here)

pub all_of : {A : Type 0} (P : A → Type 0) (xs : List A) (i : ℕ) → length xs ≤ i → All P (take i xs) → All P xs
all_of P xs i le h = subst (All P) (take_all i xs le) h

-- one more of a list was written
pub wrote_more : {A : Type 0} (f : A → List ℕ) (xs : List A) (i : ℕ) (x : A) (out now new : List ℕ) → slice_get xs i ≡ Some x → i < length xs
    → now ≡ out ++ flat_map f (take i xs) → new ≡ now ++ f x → new ≡ out ++ flat_map f (take (i + 1) xs)
wrote_more f xs i x out now new at lt is more =
    let last : flat_map f (x ∷ []) ≡ f x = append-nil (f x) in
    let taken = one_more xs i x at lt in
    more ∙ ap (λ l. l ++ f x) is ∙ append_assoc out _ _
    ∙ ap (λ l. out ++ l) (ap (λ l. flat_map f (take i xs) ++ l) (sym last) ∙ sym (flat_map-append f (take i xs) (x ∷ [])) ∙ ap (flat_map f) (sym taken))

-- all of a list was written, behind what was written before
pub wrote_all : {A : Type 0} (f : A → List ℕ) (xs : List A) (i : ℕ) (out put now front tail : List ℕ) → length xs ≤ i
    → put ≡ out ++ front → now ≡ put ++ flat_map f (take i xs) → flat_map f xs ≡ tail → now ≡ out ++ (front ++ tail)
wrote_all f xs i out put now front tail le before is all =
    is ∙ ap (λ l. put ++ l) (ap (flat_map f) (take_all i xs le) ∙ all) ∙ ap (λ l. l ++ tail) before ∙ append_assoc out front tail

-- the planned call stands among the calls of its thread
step_found : (o : Option (List Step)) (i : ℕ) (s : Step) → step_in o i ≡ Some s → slice_get (unwrap_or o []) i ≡ Some s
step_found None i s e = absurd (let q : None ≡ Some s = e in cc)
step_found (Some steps) i s e = e

pub planned_step : (plan : Planned) (thread i : ℕ) (s : Step) → planned plan thread i ≡ Some s → slice_get (steps_of plan thread) i ≡ Some s
planned_step plan thread i s e = step_found (slice_get plan.threads thread) i s e

pub thread_found : (plan : Planned) (thread : ℕ) → thread < length plan.threads → slice_get plan.threads thread ≡ Some (steps_of plan thread)
thread_found plan thread lt = slice_get-get_or plan.threads thread [] lt ∙ ap Some (sym (unwrap_or-slice_get plan.threads thread []))

pub three_lines : (a b c rest out now : List ℕ) → now ≡ out ++ ((a ++ b ++ c) ++ rest) → now ≡ out ++ (a ++ (b ++ (c ++ rest)))
three_lines a b c rest out now e = e ∙ ap (λ l. out ++ l) (append_assoc (a ++ b) c rest ∙ append_assoc a b (c ++ rest))
