-- Bodies: what modules of one version send to each other, and what a member says of a version that it has left.
use Rattle.std.specs.Prelude.{ℕ, Bool, true, false, ◌≡◌, ◌&&◌, nat_le}
use Rattle.std.specs.List.{list_all}
use Rattle.upd_base.specs.Item.{item_fits}
use Rattle.upd_base.specs.declared.body.Body.{Body}
use Rattle.upd_base.specs.declared.body.Body.TheVariants.{Ask, Ord, Req, Ack, Rb, Est, Prop, Reply, Next, Decide, Past}

-- each member that a body names is below n
abbrev pub body_fits : ℕ → Body → Bool
body_fits n (Ask item) = item_fits n item
body_fits n (Ord place item) = item_fits n item
body_fits n (Req stamp item) = item_fits n item
body_fits n (Ack stamp) = true
body_fits n (Rb item) = item_fits n item
body_fits n (Est instance round stamp batch) = list_all (item_fits n) batch
body_fits n (Prop instance round batch) = list_all (item_fits n) batch
body_fits n (Reply instance round accepts) = true
body_fits n (Next instance round) = true
body_fits n (Decide instance batch) = list_all (item_fits n) batch
body_fits n Past = true

-- the same as a fact
abbrev pub BodyFits : ℕ → Body → Type 0
BodyFits n body = body_fits n body ≡ true

-- places, instances, rounds, and the stamps of requests and acknowledgements count from 1
abbrev pub is_body : Body → Bool
is_body (Ask item) = true
is_body (Ord place item) = nat_le 1 place
is_body (Req stamp item) = nat_le 1 stamp
is_body (Ack stamp) = nat_le 1 stamp
is_body (Rb item) = true
is_body (Est instance round stamp batch) = nat_le 1 instance && nat_le 1 round
is_body (Prop instance round batch) = nat_le 1 instance && nat_le 1 round
is_body (Reply instance round accepts) = nat_le 1 instance && nat_le 1 round
is_body (Next instance round) = nat_le 1 instance && nat_le 1 round
is_body (Decide instance batch) = nat_le 1 instance
is_body Past = true

-- what a member says of a version that it has left, which no module gets
abbrev pub is_past : Body → Bool
is_past Past = true
is_past body = false
