use Rattle.std.proofs.Common.{inr, ap, sym, ◌∙◌, subst}
use Rattle.instance_rules.specs.History as history
use Rattle.instance_rules.specs.History.{or_else, suspected}
use Rattle.instance_table.specs.Table.{IsKept}
use Rattle.instance_table.proofs.Kept.{one_changed}
use Rattle.instance_table.proofs.table.Instances.decide.Goals as goal

pub returns-clause-stands : goal.returns-clause-stands
returns-clause-stands c = λ turns new suspects say b decides und is others s.
    one_changed c.args.self.now c.take_out.new.self turns new suspects c.args.number c.take_out.ensures.suspected others c.take_out.ensures.others
    (λ w. ap (λ l. suspected l w) is)
    (subst (IsKept (new c.args.number)) (sym c.take_out.ensures.gone)
    (inr (b, ap history.decided is ∙ ap (λ o. or_else o (history.decides say)) und ∙ decides))) s
