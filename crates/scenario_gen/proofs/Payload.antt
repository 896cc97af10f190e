-- What a generated call sends is a payload.
use Rattle.std.proofs.Common.{ℕ, suc, ◌≡◌, ◌<◌, ◌≤◌, ◌+◌, ◌^◌, ◌%◌, true, [], ◌∷◌, length, refl, ap, ◌∙◌, arith, Some, None, cond, decimal, le-leb}
use Rattle.std.specs.List.{list_all}
use Rattle.std.proofs.lemmas.Fmt.{decimal_by_steps, length-decimal-le}
use Rattle.std.proofs.lemmas.List.Folds.{list_all-append}
use Rattle.upd_base.specs.Text.{is_payload, is_printable, payload}
use Rattle.scenario_gen.specs.Generate.{message}

digit_printable : (d : ℕ) → d < 10 → is_printable (48 + d) ≡ true
digit_printable d lt = rw (le-leb 32 (48 + d) (omega arith), le-leb (48 + d) 126 (omega arith)) refl

digits_printable : (n : ℕ) → n < 2 ^ 64 → list_all is_printable (decimal n) ≡ true
digits_printable = decimal_by_steps (λ n ds. list_all is_printable ds ≡ true)
    (λ n lt. rw (digit_printable n lt) refl)
    (λ n ds le h. list_all-append is_printable ds ((48 + n % 10) ∷ []) ∙ rw (h, digit_printable (n % 10) (omega arith)) refl)

pub message_is_payload : (c : ℕ) → c < 1000 → payload (message c) ≡ Some (message c)
message_is_payload c lt =
    let few : length (decimal c) ≤ 3 = length-decimal-le 3 c (omega arith) (omega arith) (omega arith) in
    let good : list_all is_printable (decimal c) ≡ true = digits_printable c (omega arith) in
    let fits : is_payload (message c) ≡ true = rw (le-leb 1 (suc (length (decimal c))) (omega arith), le-leb (suc (length (decimal c))) 256 (omega arith), good) refl in
    ap (λ b. cond b (Some (message c)) None) fits
