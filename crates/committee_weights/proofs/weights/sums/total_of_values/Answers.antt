-- The sum so far, and the first place where it ends.
use Rattle.std.proofs.Common.{arith, length, ◌∙◌, sym}
use Rattle.std.proofs.lemmas.List.{get_or_default}
use Rattle.committee_weights.proofs.Refusing.{accepted_at_end, refused_at, some_from_test}
use Rattle.committee_weights.proofs.weights.sums.total_of_values.Goals as goal

pub returns-in-Err : goal.returns-in-Err
returns-in-Err c =
    let values = c.args.values.now in
    let i = c.loop-i.i in
    let item = c.index-values-i.result in
    let same = c.get.ensures ∙ c.index-values-i.is ∙ sym (get_or_default values i 0 item c.loop-i-test.true) in
    refused_at values i c.loop-i.total c.get.result c.in-Err.error (omega arith) c.loop-i-test.true c.loop-i.invariant
    same c.in-Err.ensures

pub returns : goal.returns
returns c =
    let some = some_from_test (length c.args.values.now) (sym c.is_empty.ensures ∙ c.if-is_empty.false) in
    accepted_at_end c.args.values.now c.loop-i.i c.loop-i.total some (omega arith) c.loop-i-test.false c.loop-i.invariant
