use Rattle.std.proofs.Common.{ltb, ltb-true, ltb-false, rules}
use Rattle.std.proofs.lemmas.List.Sorted.{IsPartitionPoint-from_clause, IsPartitionedBy-ltb}
use Rattle.first_looks.proofs.sequential_steps.count_below.Goals as goal

pub returns : goal.returns
returns c =
    let parted = IsPartitionedBy-ltb (λ n. n) _ c.args.from c.requires in
    let point = IsPartitionPoint-from_clause (λ n. ltb n c.args.from) _ _ c.partition_point.ensures.partitioned parted (λ a r q k. search rules) in
    record {
      count = c.partition_point.ensures.bound;
      below = λ k inside. ltb-true _ _ (point.0 k 0 (search rules) inside);
      past = λ k from inside. ltb-false _ _ (point.1 k 0 from inside);
    }
