-- The two subsets are the first n - f and the last 2f of the positions.
use Rattle.std.proofs.Common.{◌≡◌, ◌+◌, ◌-◌, ◌*◌, ◌/◌, codes, ap, ◌∙◌, arith}
use Rattle.std.proofs.Math.Path.{ap₂}
use Rattle.committee_core.specs.BoundsReport.{refuted_line, m_refuted_line}
use Rattle.committee_core.specs.Refutations.{ends}
use Rattle.committee_core.proofs.Ends.{ends_by_ranges}
use Rattle.committee_core.proofs.bounds_report.write_m_refuted.Goals as goal

pub returns : goal.returns
returns g c =
    let n = c.args.n in
    let f = (n - 1) / 5 in
    let m = c.m_quorum-m.result - 1 in
    let least : m ≡ 2 * f = omega arith in
    let needed : c.max_faults-needed.result + 1 ≡ f + 1 = omega arith in
    let by : c.m_refutation.result ≡ ends n (n - f) m = ends_by_ranges n (n - f) m c.m_refutation.result c.m_refutation.ensures.first c.m_refutation.ensures.second c.m_refutation.ensures.shared in
    let line : refuted_line (codes "N5f1 m-refuted") m c.m_refutation.result (c.max_faults-needed.result + 1) ≡ m_refuted_line n f (2 * f) =
    ap₂ (refuted_line (codes "N5f1 m-refuted") m) by needed ∙ ap (m_refuted_line n f) least in
    rw line at c.write_refuted.ensures
