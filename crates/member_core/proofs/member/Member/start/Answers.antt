use Rattle.std.proofs.Common.{◌++◌, ◌∷◌, [], refl, ◌∙◌, ap, rules}
use Rattle.order_trait.specs.Here.{like_self}
use Rattle.member_rules.proofs.Basics.{calm_of_laws, at_start}
use Rattle.member_core.proofs.member.Member.start.Goals as goal

pub returns-clause-stands : goal.returns-clause-stands
returns-clause-stands g c =
    let L = g.met.O.Ordering g.world.𝓛 g.world.𝓜 g.world.𝓡 (like_self _ _) in
    at_start g.O.Ordering _ c.in_ok-fresh_of.field-0
    (calm_of_laws g.O.Ordering c.args.n c.args.me c.args.first c.requires.some c.requires.few c.requires.me_fits L.agreement L.integrity)
    c.requires.served c.requires.kind_fits c.in_ok-fresh_of.ensures.seat c.in_ok-fresh_of.ensures.stands
    (c.in_ok-push.ensures.items ∙ ap (λ xs. xs ++ c.in_ok-fresh_of.field-0 ∷ []) c.new-modules.ensures.items)
    c.new_repl.ensures (search rules) c.new.ensures c.new-2.ensures refl
