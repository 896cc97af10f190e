-- A step line says whether its call is a change.
use Rattle.std.proofs.Common.{ℕ, ◌≡◌, ◌∙◌, ◌<◌, ◌≤◌, ◌+◌, ◌++◌, List, [], ◌∷◌, sym, ap, refl, arith, true}
use Rattle.std.specs.Prelude.{codes, decimal, nat_lt}
use Rattle.std.proofs.lemmas.Bool.{and_parts}
use Rattle.std.proofs.lemmas.Fmt.{decimal_digit}
use Rattle.upd_base.specs.Plan.{call_fits, change_count, step_fits}
use Rattle.upd_base.specs.declared.call.Call.{Call}
use Rattle.upd_base.specs.declared.call.Call.TheVariants.{Send, Change, Suspect, Trust, Crash}
use Rattle.upd_base.specs.declared.call.Step.{Step}
use Rattle.upd_base.proofs.Fits.{nat_lt-true}
use Rattle.journal_file.specs.Text.{call_text, step_line}

heads : (x y : ℕ) (xs ys : List ℕ) → x ∷ xs ≡ y ∷ ys → x ≡ y
heads x y xs ys e = cc

tails : (x y : ℕ) (xs ys : List ℕ) → x ∷ xs ≡ y ∷ ys → xs ≡ ys
tails x y xs ys e = cc

-- the second bytes of two texts
seconds : (w x y z : ℕ) (xs ys : List ℕ) → w ∷ x ∷ xs ≡ y ∷ z ∷ ys → x ≡ z
seconds w x y z xs ys e = cc

same_count : (c d : Call) → call_text c ≡ call_text d → change_count c ≡ change_count d
unfolding call_text
same_count (Send a) (Send b) e = refl
same_count (Send a) (Change k) e = absurd (let h : ◌≡◌ {A = ℕ} 115 99 = heads _ _ _ _ e in omega (arith, h))
same_count (Send a) (Suspect w) e = refl
same_count (Send a) (Trust w) e = refl
same_count (Send a) Crash e = refl
same_count (Change k) (Send b) e = absurd (let h : ◌≡◌ {A = ℕ} 99 115 = heads _ _ _ _ e in omega (arith, h))
same_count (Change k) (Change l) e = refl
same_count (Change k) (Suspect w) e = absurd (let h : ◌≡◌ {A = ℕ} 99 115 = heads _ _ _ _ e in omega (arith, h))
same_count (Change k) (Trust w) e = absurd (let h : ◌≡◌ {A = ℕ} 99 116 = heads _ _ _ _ e in omega (arith, h))
same_count (Change k) Crash e = absurd (let h : ◌≡◌ {A = ℕ} 104 114 = seconds _ _ _ _ _ _ e in omega (arith, h))
same_count (Suspect v) (Send b) e = refl
same_count (Suspect v) (Change l) e = absurd (let h : ◌≡◌ {A = ℕ} 115 99 = heads _ _ _ _ e in omega (arith, h))
same_count (Suspect v) (Suspect w) e = refl
same_count (Suspect v) (Trust w) e = refl
same_count (Suspect v) Crash e = refl
same_count (Trust v) (Send b) e = refl
same_count (Trust v) (Change l) e = absurd (let h : ◌≡◌ {A = ℕ} 116 99 = heads _ _ _ _ e in omega (arith, h))
same_count (Trust v) (Suspect w) e = refl
same_count (Trust v) (Trust w) e = refl
same_count (Trust v) Crash e = refl
same_count Crash (Send b) e = refl
same_count Crash (Change l) e = absurd (let h : ◌≡◌ {A = ℕ} 114 104 = seconds _ _ _ _ _ _ e in omega (arith, h))
same_count Crash (Suspect w) e = refl
same_count Crash (Trust w) e = refl
same_count Crash Crash e = refl

at_below : (n : ℕ) (s : Step) → n ≤ 7 → step_fits n s ≡ true → s.at < 10
at_below n s l fits =
    let h = nat_lt-true s.at n (and_parts (nat_lt s.at n) (call_fits n s.at s.call) fits).0 in
    omega (arith, h, l)

spelt : (s : Step) → s.at < 10 → step_line s ≡ (48 + s.at) ∷ 32 ∷ call_text s.call
unfolding step_line
spelt s l = ap (λ d. d ++ codes " " ++ call_text s.call) (decimal_digit s.at l)

-- two steps that fit and have one line are both changes, or neither is
pub same_changes : (n : ℕ) (s t : Step) (line : List ℕ) → n ≤ 7 → step_fits n s ≡ true → step_fits n t ≡ true → line ≡ step_line s → line ≡ step_line t → change_count s.call ≡ change_count t.call
same_changes n s t line l f g p q =
    same_count s.call t.call
    (tails 32 32 (call_text s.call) (call_text t.call)
    (tails (48 + s.at) (48 + t.at) (32 ∷ call_text s.call) (32 ∷ call_text t.call) (sym (spelt s (at_below n s l f)) ∙ sym p ∙ q ∙ spelt t (at_below n t l g))))
