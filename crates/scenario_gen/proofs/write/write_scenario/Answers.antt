use Rattle.scenario_gen.proofs.Loops.{scenario_written}
use Rattle.scenario_gen.proofs.write.write_scenario.Goals as goal

pub returns-clause-tokens : goal.returns-clause-tokens
returns-clause-tokens c =
    scenario_written c.end_object.result c.args.out.now.tokens c.begin_object.new.self.tokens c.key.new.self.tokens c.u64.new.self.tokens c.key-2.new.self.tokens c.string.new.self.tokens c.key-3.new.self.tokens
    c.write_threads.new.out.tokens c.end_object.new.self.tokens c.args.words.now
    (record {
      begun = c.in_ok-begin_object.ensures.ok;
      members = c.in_ok-key.ensures.ok;
      many = c.in_ok-u64.ensures.ok;
      first = c.in_ok-key-2.ensures.ok;
      kind = c.in_ok-string.ensures.ok;
      threads = c.in_ok-key-3.ensures.ok;
      each = c.in_ok-write_threads.ensures.tokens;
    })
    c.end_object.ensures.ok
