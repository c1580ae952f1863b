use Rattle.std.proofs.Common.{◌-◌, arith, length}
use Rattle.commonware_ordered.proofs.InOrder.{last_stands}
use Rattle.commonware_ordered.proofs.kept.last_to.Goals as goal

pub returns-in-Some : goal.returns-in-Some
returns-in-Some g c =
    let item = c.in-Some.ensures.item in
    last_stands g.met.T.Ord.total c.args.run.now c.args.item.now c.in-Some.last.now (length c.args.run.now - 1) c.cmp.result c.requires (omega (arith, item.3.0)) item.3.1 c.cmp.ensures
