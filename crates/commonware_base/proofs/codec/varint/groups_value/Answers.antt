use Rattle.std.proofs.Common.{arith, ◌-◌}
use Rattle.commonware_base.specs.laws.VarintLaws.{groups_sum-drop, sum_before}
use Rattle.commonware_base.proofs.codec.varint.groups_value.Goals as goal

pub overflow_mul-number : goal.overflow_mul-number
overflow_mul-number c =
    let e = sum_before c.args.bytes.now c.loop-i.i c.loop-i-test.true c.loop-i.invariant.0 in
    let h = groups_sum-drop (c.loop-i.i - 1) c.args.bytes.now in
    omega (arith, e, h, c.loop-i.invariant.1, c.requires)

pub overflow_add-number : goal.overflow_add-number
overflow_add-number c =
    let e = sum_before c.args.bytes.now c.loop-i.i c.loop-i-test.true c.loop-i.invariant.0 in
    let h = groups_sum-drop (c.loop-i.i - 1) c.args.bytes.now in
    omega (arith, e, h, c.loop-i.invariant.1, c.requires)

pub loop-i-preserved : goal.loop-i-preserved
loop-i-preserved c =
    let e = sum_before c.args.bytes.now c.loop-i.i c.loop-i-test.true c.loop-i.invariant.0 in
    (omega arith, omega (arith, e, c.loop-i.invariant.1))
