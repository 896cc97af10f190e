use Rattle.std.proofs.Common.{◌≡◌, ◌-◌, ◌∙◌, ℕ, sym, ap, drop, subst, length, arith}
use Rattle.std.proofs.lemmas.List.{take_rest}
use Rattle.frame_feed.specs.Fed.{IsFed, with_text}
use Rattle.frame_feed.proofs.Amid.{amid_text}
use Rattle.frame_feed.proofs.feed.Feed.is_amid_text.Goals as goal

pub invariant_of-self : goal.invariant_of-self
invariant_of-self c =
    let i = c.self.inside in
    let all = c.deref.result.now in
    let same : all ≡ i.bytes.items = c.deref.ensures.value in
    let left = take_rest all i.read ∙ ap (drop i.read) same in
    let came : c.len-came.result ≡ length i.bytes.items = c.len-came.ensures ∙ i.bytes.ok.0 in
    let amid = amid_text i.bytes.items _ i.taken i.read i.text_end i.stage c.self.invariant left (sym c.all_printable.ensures ∙ c.if-not-all_printable.false) (omega (arith, came, c.if-came-self.false)) in
    subst (λ (n : ℕ). IsFed i.bytes.items i.taken n (with_text (i.text_end - n) i.stage)) (sym came) amid.0

pub returns-clause-short : goal.returns-clause-short
returns-clause-short c = λ _.
    let i = c.self.inside in
    let all = c.deref.result.now in
    let same : all ≡ i.bytes.items = c.deref.ensures.value in
    let left = take_rest all i.read ∙ ap (drop i.read) same in
    let came : c.len-came.result ≡ length i.bytes.items = c.len-came.ensures ∙ i.bytes.ok.0 in
    let amid = amid_text i.bytes.items _ i.taken i.read i.text_end i.stage c.self.invariant left (sym c.all_printable.ensures ∙ c.if-not-all_printable.false) (omega (arith, came, c.if-came-self.false)) in
    rw (← c.self.view_is) amid.1
