use Rattle.std.proofs.Common.{arith}
use Rattle.committee_certificates.proofs.Walked.{passed_all, passed_more}
use Rattle.committee_certificates.proofs.in_place.SignersAt.write_indices.Goals as goal

pub loop-cursor-preserved : goal.loop-cursor-preserved
loop-cursor-preserved c = (
  omega (arith, c.loop-cursor.invariant.0, c.next_place-cursor.ensures.fewer),
  λ indices found.
      passed_more indices c.loop-cursor.cursor c.loop-cursor.count c.args.out.now c.loop-cursor.out
      (c.loop-cursor.invariant.1 indices found) c.next_place-cursor.result c.put_at.new.out c.loop-cursor-test.true
      c.next_place-cursor.ensures.at c.put_at.ensures,
)

pub returns : goal.returns
returns c = λ indices found.
    passed_all indices c.loop-cursor.cursor c.loop-cursor.count c.args.out.now c.loop-cursor.out
    (c.loop-cursor.invariant.1 indices found) c.loop-cursor-test.false
