use Rattle.std.proofs.Common.{arith, ◌+◌, ◌%◌, ◌++◌, [], ◌∷◌, length, refl, length-append, ap}
use Rattle.commonware_base.specs.Varint.{groups}
use Rattle.commonware_base.specs.laws.VarintLaws.{goes_start, goes_step, goes_end, groups_not_empty, varint-length}
use Rattle.commonware_base.proofs.codec.varint.varint_size.Goals as goal

pub loop-left-init : goal.loop-left-init
loop-left-init c = ([], refl, goes_start c.args.number c.ranges.number.fits)

pub overflow_add-size : goal.overflow_add-size
overflow_add-size c =
    let s = c.loop-left.invariant.0 in
    let w = c.loop-left.invariant.2 in
    omega (arith, c.loop-left.invariant.1, ap length w.text, length-append s (groups w.more c.loop-left.left), groups_not_empty w.more c.loop-left.left, varint-length c.args.number c.ranges.number.fits)

pub loop-left-preserved : goal.loop-left-preserved
loop-left-preserved c =
    let s = c.loop-left.invariant.0 in
    (s ++ (c.loop-left.left % 128 + 128) ∷ [], omega (arith, c.loop-left.invariant.1, length-append s ((c.loop-left.left % 128 + 128) ∷ [])), goes_step c.args.number c.loop-left.left s c.loop-left.invariant.2 c.loop-left-test.true)

pub returns-clause-size : goal.returns-clause-size
returns-clause-size c =
    let s = c.loop-left.invariant.0 in
    let e = goes_end c.args.number c.loop-left.left s c.loop-left.invariant.2 c.loop-left-test.false in
    omega (arith, c.loop-left.invariant.1, ap length e, length-append s (c.loop-left.left ∷ []))

pub returns-clause-at_most_five : goal.returns-clause-at_most_five
returns-clause-at_most_five c =
    let s = c.loop-left.invariant.0 in
    let e = goes_end c.args.number c.loop-left.left s c.loop-left.invariant.2 c.loop-left-test.false in
    omega (arith, c.loop-left.invariant.1, ap length e, length-append s (c.loop-left.left ∷ []), varint-length c.args.number c.ranges.number.fits)
