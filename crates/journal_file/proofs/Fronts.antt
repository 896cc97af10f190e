-- What stands at the front of a line.
use Rattle.std.proofs.Common.{ℕ, ◌≡◌, ◌∙◌, ◌+◌, ◌++◌, List, true, false, length, take, drop, Option, Some, None, Bor, eqb, MatchOption, IfSome}
use Rattle.std.specs.Option.{IsSomeAnd}
use Rattle.std.specs.Cmp.Lexicographic.{pointwise}
use Rattle.std.proofs.lemmas.Bool.Decides.{Decides-eqb}
use Rattle.std.proofs.lemmas.List.Prefix.{front_rest}
use Rattle.std.proofs.lemmas.Slice.Eq.{strip_prefix_is}

-- what `strip_prefix` says
abbrev pub Strips : List ℕ → List ℕ → Option (Bor (List ℕ)) → Type 0
Strips s p r = MatchOption r (pointwise eqb (take (length p) s) p ≡ false) (λ x. (pointwise eqb (take (length p) s) p ≡ true) × (x.now ≡ drop (length p) s) × (length x.now + length p ≡ length s))

pub stripped : (s p : List ℕ) (r : Option (Bor (List ℕ))) → Strips s p r → IfSome r (λ x. s ≡ p ++ x.now)
stripped s p None h = tt
stripped s p (Some x) h = strip_prefix_is Decides-eqb s p (Some x) h

pub strips : (s p : List ℕ) (r : Option (Bor (List ℕ))) → Strips s p r → (rest : List ℕ) → s ≡ p ++ rest → IsSomeAnd r (λ x. x.now ≡ rest)
strips s p None h rest e = absurd (strip_prefix_is Decides-eqb s p None h rest e)
strips s p (Some x) h rest e = h.1 ∙ front_rest s p rest e
