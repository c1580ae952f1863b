use Rattle.std.proofs.Common.{◌-◌, arith}
use Rattle.std.proofs.lemmas.Nat.{mul-le}
use Rattle.commonware_ordered.proofs.Narrowing.{halved_within}
use Rattle.commonware_ordered.proofs.search.half.Goals as goal

pub returns-clause-inside : goal.returns-clause-inside
returns-clause-inside g c =
    let inside = c.requires.inside in
    let more = c.if-size-window.false in
    let step = c.args.size - c.args.window in
    let most = mul-le step c.reached.result step 1 (omega arith) c.reached.ensures.bound in
    omega arith

pub returns-clause-within : goal.returns-clause-within
returns-clause-within g c = λ k there h.
    let p = c.requires.within k there h in
    halved_within c.args.base c.args.size c.args.window k c.reached.result c.if-size-window.false c.requires.twice (c.reached.ensures.value k there h) p.0 p.1
