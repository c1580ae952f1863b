use Rattle.std.proofs.Common.{refl}
use Rattle.commonware_base.specs.Numbers.{out_of_range}
use Rattle.commonware_base.proofs.codec.primitives.UsizeRead.read_cfg.Goals as goal

pub returns-clause-refused : goal.returns-clause-refused
returns-clause-refused g c =
    out_of_range c.in_ok-number.number refl (record { rest = _; short = c.in_ok-number.ensures.fits; begins = c.in_ok-number.ensures.consumed.rest; outside = λ w. cc (c.if-contains.ensures.1 w) })
