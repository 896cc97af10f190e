use Rattle.std.proofs.Common.{◌≡◌, true, subst, arith}
use Rattle.upd_base.specs.Plan.{is_plan}
use Rattle.std.proofs.lemmas.List.{length-reverse}
use Rattle.run_journal.specs.Journal.{events_of}
use Rattle.journal_file.proofs.text.journal_text.Goals as goal

pub returns-clause-readable : goal.returns-clause-readable
returns-clause-readable g c = λ short. record {
  short = short;
  of_plan = subst (λ p. is_plan p ≡ true) c.plan.ensures.value c.keeps_limits.ensures;
  payloads = c.in_ok-text.ensures.payloads;
  few = (let n = c.len-few.ensures.value in let few = c.len-few.ensures.few in let same = length-reverse (events_of c.args.journal.now) in omega arith);
  fit = c.in_ok-text.ensures.fit;
  text = c.in_ok-text.ensures.text;
}
