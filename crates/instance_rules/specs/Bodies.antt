-- How members write what they say in an instance.
use Rattle.std.specs.Prelude.{ℕ, ◌==◌, if◌then◌else◌, List, map, Option, Some, None}
use Rattle.upd_base.specs.declared.body.Body.{Body}
use Rattle.upd_base.specs.declared.body.Body.TheVariants.{Est, Prop, Reply, Next, Decide}
use Rattle.instance_rules.specs.Say.{Say, Estimates, Proposes, Replies, Moves_on, Decides}

-- what a body says in instance k
abbrev pub say_of : ℕ → Body → Option Say
say_of k (Est instance round stamp batch) = if instance == k then Some (Estimates round (record { stamp = stamp; batch = batch })) else None
say_of k (Prop instance round batch) = if instance == k then Some (Proposes round batch) else None
say_of k (Reply instance round agree) = if instance == k then Some (Replies round agree) else None
say_of k (Next instance round) = if instance == k then Some (Moves_on round) else None
say_of k (Decide instance batch) = if instance == k then Some (Decides batch) else None
say_of k body = None

-- and the body that says it
abbrev pub body_of : ℕ → Say → Body
body_of k (Estimates round held) = Est k round held.stamp held.batch
body_of k (Proposes round batch) = Prop k round batch
body_of k (Replies round agree) = Reply k round agree
body_of k (Moves_on round) = Next k round
body_of k (Decides batch) = Decide k batch

abbrev pub in_instance : ℕ → List (ℕ × Say) → List (ℕ × Body)
in_instance k says = map (λ p. (p.0, body_of k p.1)) says
