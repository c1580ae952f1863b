use Rattle.std.proofs.Common.{arith}
use Rattle.commonware_ordered.proofs.Narrowing.{quartered_inside, quartered_within}
use Rattle.commonware_ordered.proofs.search.quartering_step.Goals as goal

pub returns-clause-inside : goal.returns-clause-inside
returns-clause-inside g c =
    quartered_inside c.args.base c.args.size _ _ c.reached.result c.reached-2.result c.reached-3.result (omega arith) c.requires.inside c.reached.ensures.bound c.reached-2.ensures.bound c.reached-3.ensures.bound

pub returns-clause-within : goal.returns-clause-within
returns-clause-within g c = λ k there h.
    let p = c.requires.within k there h in
    quartered_within c.args.base c.args.size _ k c.reached.result c.reached-2.result c.reached-3.result (omega arith) (c.reached.ensures.value k there h) (c.reached-2.ensures.value k there h) (c.reached-3.ensures.value k there h) p.0 p.1
