use Rattle.std.proofs.Common.{arith}
use Rattle.std.proofs.lemmas.Slice.Zip.{length-zip}
use Rattle.std.specs.Slice.Iter.{iter_rest, iter_mut_rest}
use Rattle.commonware_map.proofs.iterators.pairs_mut.PairsMutExactSizeIterator.len.Goals as goal

pub returns-clause-value : goal.returns-clause-value
returns-clause-value g c =
    let pairs = c.args.self.now in
    omega (arith, c.min.ensures, c.len.ensures.value, c.len-2.ensures.value, length-zip (iter_rest pairs.keys) (iter_mut_rest pairs.values))
