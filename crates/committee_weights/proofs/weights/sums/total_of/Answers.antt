-- The sum so far, and the first place where it ends.
use Rattle.std.proofs.Common.{arith, get_or, length, refl, ◌∙◌, sym}
use Rattle.committee_weights.proofs.Refusing.{accepted_at_end, refused_at, some_from_test}
use Rattle.committee_weights.proofs.weights.sums.total_of.Goals as goal

pub returns-in-Err : goal.returns-in-Err
returns-in-Err c =
    refused_at c.args.weights.now c.loop-i.i c.loop-i.total (get_or c.args.weights.now c.loop-i.i 0) c.in-Err.error
    (omega arith) c.loop-i-test.true c.loop-i.invariant refl c.in-Err.ensures

pub returns : goal.returns
returns c =
    let some = some_from_test (length c.args.weights.now) (sym c.is_empty.ensures ∙ c.if-is_empty.false) in
    accepted_at_end c.args.weights.now c.loop-i.i c.loop-i.total some (omega arith) c.loop-i-test.false c.loop-i.invariant
