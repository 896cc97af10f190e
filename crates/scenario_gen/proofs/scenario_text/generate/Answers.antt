use Rattle.std.proofs.Common.{◌++◌, ◌∙◌, ap}
use Rattle.json.specs.Tree.{json_tokens}
use Rattle.scenario_gen.specs.Spelling.{scenario_json}
use Rattle.scenario_gen.proofs.Plans.{generated_read}
use Rattle.scenario_gen.proofs.scenario_text.generate.Goals as goal

pub returns-clause-plan : goal.returns-clause-plan
returns-clause-plan c =
    let ws = c.in_ok-words.words.items in
    generated_read c.args.seed c.args.calls ws c.write_scenario.new.out.before c.into_inner-text.result.items c.push.new.self.items c.write_scenario.new.out.tokens c.requires c.in_ok-words.ensures
    (c.in_ok-write_scenario.ensures.before ∙ c.new-out.ensures.before ∙ c.new.ensures.items)
    (c.in_ok-write_scenario.ensures.tokens ∙ ap (λ ts. ts ++ json_tokens (scenario_json c.as_slice.result.now)) c.new-out.ensures.tokens ∙ ap (λ xs. json_tokens (scenario_json xs)) c.as_slice.ensures.value)
    c.into_inner-text.ensures.utf8 c.into_inner-text.ensures.items c.in_ok-push.ensures.items
