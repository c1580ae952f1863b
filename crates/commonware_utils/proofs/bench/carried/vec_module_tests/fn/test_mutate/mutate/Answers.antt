use Rattle.std.proofs.Common.{arith}
use Rattle.commonware_utils.proofs.Dedup.{dedup_leaves_some}
use Rattle.commonware_utils.proofs.bench.carried.vec_module_tests.fn.test_mutate.mutate.Goals as goal

pub returns : goal.returns
returns c =
    let sorted = c.sort_unstable in
    dedup_leaves_some _ _ _ (omega (arith, c.requires, sorted.ensures.len, sorted.new.self.ok.0, c.args.items.now.ok.0)) c.dedup.ensures.filtered
