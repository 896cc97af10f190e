use Rattle.std.proofs.Common.{◌∙◌, ◌++◌, ◌<◌, ◌^◌, ap, sym, refl, arith, rules}
use Rattle.std.specs.Str.Parse.{digits_value}
use Rattle.std.proofs.lemmas.Bool.{false≢true}
use Rattle.journal_file.proofs.Digits.{IsSpelt, number_front, number_value, decimal_is_spelt, spelt}
use Rattle.journal_file.proofs.values.number.Goals as goal

pub returns-then-not-is_spelt-clause-exact : goal.returns-then-not-is_spelt-clause-exact
returns-then-not-is_spelt-clause-exact c n rest lt ended e =
    let s = c.split_digits in
    let is = number_front c.args.line.now s.result.0.now s.result.1.now n rest s.ensures.whole s.ensures.digits s.ensures.ends lt ended e in
    let spells : IsSpelt s.result.0.now = rw is.0 (decimal_is_spelt n lt) in
    absurd (false≢true (c.if-not-is_spelt.ensures.1 spells))

pub returns-in_err-value_of-clause-exact : goal.returns-in_err-value_of-clause-exact
returns-in_err-value_of-clause-exact c n rest lt ended e =
    let s = c.split_digits in
    let is = number_front c.args.line.now s.result.0.now s.result.1.now n rest s.ensures.whole s.ensures.digits s.ensures.ends lt ended e in
    let value = number_value s.result.0.now n lt is.0 in
    let none = c.in_err-value_of.ensures.none in
    absurd (omega arith)

pub returns-clause-some : goal.returns-clause-some
returns-clause-some c =
    let s = c.split_digits in
    let value = c.in_ok-value_of.ensures.some in
    let small : digits_value 10 s.result.0.now < 2 ^ 64 = search rules in
    s.ensures.whole ∙ ap (λ ds. ds ++ s.result.1.now) (sym (rw value (spelt s.result.0.now s.ensures.digits (c.if-not-is_spelt.ensures.0 refl) small)))

pub returns-clause-exact : goal.returns-clause-exact
returns-clause-exact c n rest lt ended e =
    let s = c.split_digits in
    let is = number_front c.args.line.now s.result.0.now s.result.1.now n rest s.ensures.whole s.ensures.digits s.ensures.ends lt ended e in
    (c.in_ok-value_of.ensures.some ∙ number_value s.result.0.now n lt is.0, is.1)
