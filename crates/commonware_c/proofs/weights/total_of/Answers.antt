-- A list is refused for the first reason there is.
use Rattle.std.proofs.Common.{Err, ap, arith, refl}
use Rattle.committee_weights.specs.declared.weights.error.WeightsError.TheVariants.{Empty, TooMany, Zero, Overflow}
use Rattle.commonware_c.specs.Weights.{no_members, overflow, too_many, zero_weight}
use Rattle.commonware_c.proofs.weights.total_of.Goals as goal

pub returns-in-Err-Empty-clause-refused : goal.returns-in-Err-Empty-clause-refused
returns-in-Err-Empty-clause-refused c =
    no_members refl refl (omega (arith, c.if-k-lt2.false)) ((c.in-Err-Empty.ensures.refused Empty).0 (ap Err c.in-Err-Empty.field-0-is))

pub returns-in-Err-TooMany-clause-refused : goal.returns-in-Err-TooMany-clause-refused
returns-in-Err-TooMany-clause-refused c =
    too_many refl refl (omega (arith, c.if-k-lt2.false))
    ((c.in-Err-TooMany.ensures.refused TooMany).0 (ap Err c.in-Err-TooMany.field-0-is))

pub returns-in-Err-Zero-clause-refused : goal.returns-in-Err-Zero-clause-refused
returns-in-Err-Zero-clause-refused c =
    zero_weight refl (omega (arith, c.if-k-lt2.false))
    ((c.in-Err-Zero.ensures.refused (Zero c.in-Err-Zero.index)).0 (ap Err c.in-Err-Zero.field-0-is))

pub returns-in-Err-Overflow-clause-refused : goal.returns-in-Err-Overflow-clause-refused
returns-in-Err-Overflow-clause-refused c =
    overflow refl (omega (arith, c.if-k-lt2.false))
    ((c.in-Err-Overflow.ensures.refused (Overflow c.in-Err-Overflow.index)).0 (ap Err c.in-Err-Overflow.field-0-is))
