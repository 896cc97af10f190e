use Rattle.std.proofs.Common.{leb, leb-true, rules}
use Rattle.std.proofs.lemmas.Bool.{leb-false}
use Rattle.std.proofs.lemmas.List.Sorted.{IsPartitionPoint-from_clause, IsPartitionedBy-leb}
use Rattle.early_frames.specs.Arrivals.{version_of}
use Rattle.early_frames.proofs.Queue.{versions_ascend}
use Rattle.early_frames.proofs.arrivals.count_up_to.Goals as goal

pub returns-clause-below : goal.returns-clause-below
returns-clause-below c =
    let parted = IsPartitionedBy-leb version_of _ c.args.version (versions_ascend _ c.requires) in
    let point = IsPartitionPoint-from_clause (λ a. leb (version_of a) c.args.version) _ _ c.partition_point.ensures.partitioned parted (λ a r q k. search rules) in
    λ k d low high. leb-true _ _ (point.0 k d low high)

pub returns-clause-above : goal.returns-clause-above
returns-clause-above c =
    let parted = IsPartitionedBy-leb version_of _ c.args.version (versions_ascend _ c.requires) in
    let point = IsPartitionPoint-from_clause (λ a. leb (version_of a) c.args.version) _ _ c.partition_point.ensures.partitioned parted (λ a r q k. search rules) in
    λ k d low high. leb-false _ _ (point.1 k d low high)
