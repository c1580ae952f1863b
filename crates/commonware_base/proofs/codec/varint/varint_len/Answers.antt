use Rattle.std.proofs.Common.{arith, get_or, ◌≤◌, ◌≡◌}
use Rattle.commonware_base.specs.laws.VarintLaws.{bad_zero, bad_fifth, good_at}
use Rattle.commonware_base.proofs.codec.varint.varint_len.Goals as goal

pub returns-then-i-gt0-clause-refused : goal.returns-then-i-gt0-clause-refused
returns-then-i-gt0-clause-refused c = bad_zero c.args.bytes.now c.loop-i.i c.loop-i-test.true c.loop-i.invariant.1 c.loop-i.invariant.0 c.if-i-gt0.true c.if-byte-eq0.true

pub returns-then-i-eq4-clause-refused : goal.returns-then-i-eq4-clause-refused
returns-then-i-eq4-clause-refused c = bad_fifth c.args.bytes.now c.loop-i.i c.loop-i-test.true c.loop-i.invariant.1 c.loop-i.invariant.0 c.if-i-eq4.true c.if-byte-gt15.true

pub returns-in-loop-i-clause-found : goal.returns-in-loop-i-clause-found
returns-in-loop-i-clause-found c =
    let five : c.loop-i.i ≡ 4 → get_or c.args.bytes.now c.loop-i.i 0 ≤ 15 = λ e. omega (arith, c.else-byte-gt15.either) in
    good_at c.args.bytes.now c.loop-i.i c.loop-i-test.true c.loop-i.invariant.1 c.loop-i.invariant.0
    (omega (arith, c.else-byte-ge128.either, c.else-byte-gt15.either))
    (λ z. omega (arith, c.else-byte-eq0.either))
    five
