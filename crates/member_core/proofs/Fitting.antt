-- What goes out fits.
use Rattle.std.proofs.Common.{ℕ, ◌≡◌, List, subst}
use Rattle.order_trait.specs.Outbox.{SendFits, Grows}
use Rattle.upd_base.specs.declared.body.Body.{Body}
use Rattle.member_rules.proofs.Inputs.{grows_then}

-- a module with the same members sends more
pub sends_more : (n m : ℕ) (xs ys zs : List (ℕ × Body)) → n ≡ m → Grows (SendFits m) xs ys → Grows (SendFits n) ys zs → Grows (SendFits m) xs zs
sends_more n m xs ys zs is a b = grows_then (SendFits m) xs ys zs a (subst (λ k. Grows (SendFits k) ys zs) is b)
