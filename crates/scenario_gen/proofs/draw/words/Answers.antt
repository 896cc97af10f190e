use Rattle.scenario_gen.specs.Generate.{words}
use Rattle.scenario_gen.proofs.Loops.{word_drawn, words_drawn}
use Rattle.scenario_gen.proofs.draw.words.Goals as goal

pub loop-call-preserved : goal.loop-call-preserved
loop-call-preserved c =
    word_drawn c.args.calls c.loop-call._call c.loop-call.words.items c.push.new.self.items (words c.args.seed c.args.calls) c.loop-call.generator c.next_word.new.self c.next_word.result
    c.loop-call-test.true c.next_word.ensures c.in_ok-push.ensures.items c.loop-call.invariant

pub returns : goal.returns
returns c = words_drawn c.args.calls c.loop-call._call c.loop-call.words.items (words c.args.seed c.args.calls) c.loop-call.generator c.loop-call-test.false c.loop-call.invariant
