-- Three groups refute the number.
use Rattle.std.proofs.Common.{arith, ◌∙◌}
use Rattle.committee_weights.proofs.Grouped.{groups_refute}
use Rattle.committee_weights.proofs.refutations.weight_refutation.Goals as goal

pub unwrap-weights-requires : goal.unwrap-weights-requires
unwrap-weights-requires g c =
    let w = c.groups_of-weighs.result in
    let weighs = c.groups_of-weighs.ensures in
    let n = c.counts_of-counts.result in
    let counts = c.counts_of-counts.ensures in
    let refutes = groups_refute n.first w.first n.middle w.middle n.last w.last counts.some counts.fits
    c.args.k c.args.total c.args.greater c.args.participants w.shared c.requires.resilience (omega arith) (omega arith)
    (omega arith) counts.sum weighs.sum weighs.one weighs.other weighs.share c.in_ok-items.items.items
    c.in_ok-one.one.items c.in_ok-other.other.items c.in_ok-items.ensures c.in_ok-one.ensures c.in_ok-other.ensures in
    c.new.ensures.accepted.1 refutes.are_weights

pub returns-clause-refutes : goal.returns-clause-refutes
returns-clause-refutes g c =
    let w = c.groups_of-weighs.result in
    let weighs = c.groups_of-weighs.ensures in
    let n = c.counts_of-counts.result in
    let counts = c.counts_of-counts.ensures in
    let same = (rw c.unwrap-weights.ensures at c.new.ensures.same) in
    groups_refute n.first w.first n.middle w.middle n.last w.last counts.some counts.fits
    c.args.k c.args.total c.args.greater c.args.participants w.shared c.requires.resilience (omega arith) (omega arith)
    (omega arith) counts.sum weighs.sum weighs.one weighs.other weighs.share _ c.in_ok-one.one.items
    c.in_ok-other.other.items (same ∙ c.in_ok-items.ensures) c.in_ok-one.ensures c.in_ok-other.ensures
