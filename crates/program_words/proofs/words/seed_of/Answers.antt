use Rattle.std.proofs.Common.{◌∙◌, sym, ap}
use Rattle.program_words.specs.Words.{is_seed_text}
use Rattle.program_words.proofs.Seeds.{seed_parsed, no_seed}
use Rattle.program_words.proofs.words.seed_of.Goals as goal

pub returns : goal.returns
returns c = c.ok.ensures.value ∙ seed_parsed c.args.word.now c.parse.result c.parse.ensures.value.0
    (ap is_seed_text (sym c.as_bytes.ensures.value) ∙ sym c.if-not-is_seed_text.ensures)

pub returns-then-not-is_seed_text : goal.returns-then-not-is_seed_text
returns-then-not-is_seed_text c = sym (no_seed c.args.word.now (ap is_seed_text (sym c.as_bytes.ensures.value) ∙ sym c.if-not-is_seed_text.ensures))
