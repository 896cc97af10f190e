use Rattle.std.proofs.Common.{◌+◌, ◌-◌, ◌≡◌, ◌≤◌, arith}
use Rattle.frame_carriage.proofs.Here.{like_self}
use Rattle.frame_carriage.proofs.Going.{put_on, got_on, filled, stopped, lied}
use Rattle.frame_carriage.proofs.carriage.exchange.Goals as goal

pub returns-in_err-put-clause-cause : goal.returns-in_err-put-clause-cause
returns-in_err-put-clause-cause g c =
    let e = c.in_err-put.ensures in
    stopped _ _ c.put.result _ _ _ _ _ _ _ c.loop-got.back c.loop-got.put c.loop-got.got c.from_residual.ensures.1 c.in_err-put.was c.put.ensures.cause e.bytes c.loop-got.invariant

pub returns-in_err-count-clause-cause : goal.returns-in_err-count-clause-cause
returns-in_err-count-clause-cause g c =
    let e = c.in_err-count.ensures in
    stopped _ _ c.get.result _ _ _ _ _ _ _ c.loop-got.back c.loop-got.put c.loop-got.got c.from_residual-in_err-count.ensures.1 c.in_err-count.was c.get.ensures.cause e.bytes c.loop-got.invariant

pub loop-got-preserved-then-got-put : goal.loop-got-preserved-then-got-put
loop-got-preserved-then-got-put g c =
    let e = c.in_ok-put.ensures in
    put_on _ _ _ _ _ _ _ _ _ _ _ c.in_ok-put.field-0 c.loop-got.invariant e.bytes.0 e.bytes.2 e.cause.later

pub loop-got-preserved : goal.loop-got-preserved
loop-got-preserved g c =
    let k = c.in_ok-count.count in
    let e = c.in_ok-count.ensures in
    let got = c.loop-got.got in
    let order : got + k ≤ c.loop-got.put = omega (arith, e.bytes.0, c.get.auto.buf) in
    let count : got + k - got ≡ k = omega arith in
    got_on _ _ _ _ _ _ _ _ _ _ _ got (got + k - got) k c.loop-got.invariant order e.bytes.0 (filled c.loop-got.back c.get.new.buf got (c.loop-got.put - got) c.get.auto.buf) e.bytes.2 count c.in_default.ensures.none e.cause.later

pub returns-in-Some-clause-cause : goal.returns-in-Some-clause-cause
returns-in-Some-clause-cause g c =
    let k = c.in_ok-count.count in
    let e = c.in_ok-count.ensures in
    let got = c.loop-got.got in
    let order : got + k ≤ c.loop-got.put = omega (arith, e.bytes.0, c.get.auto.buf) in
    let count : got + k - got ≡ k = omega arith in
    let s = c.in-Some.ensures in
    let law = g.met.L.Line g.world.𝓛 g.world.𝓜 g.world.𝓡 (like_self _ _) in
    lied _ _ _ _ _ _ _ _ _ _ got (got + k - got) k c.in-Some.i c.loop-got.invariant order e.bytes.0 (filled c.loop-got.back c.get.new.buf got (c.loop-got.put - got) c.get.auto.buf) e.bytes.2 count s.within s.differs (law.sound _) (law.sound _) c.requires.even
