use Rattle.std.proofs.Common.{◌≡◌, length, map, []}
use Rattle.member_core.specs.Member.{kept_by}
use Rattle.member_rules.specs.Stands.{Stands}
use Rattle.group_world.specs.Seen.{EachAt, IsSeated}
use Rattle.group_world.proofs.fresh.fresh_members.Given as goal

abbrev pub invariant-loop-number : goal.invariant-loop-number
invariant-loop-number g l = record {
  many : length l.members.items ≡ l.number;
  seats : EachAt (IsSeated l.plan) (map (λ m. kept_by m) l.members.items);
  stand : EachAt (λ i k. Stands g.O.Ordering k []) (map (λ m. kept_by m) l.members.items);
}
