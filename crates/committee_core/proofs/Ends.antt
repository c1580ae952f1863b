-- Subsets at the two ends of the positions.
use Rattle.std.proofs.Common.{◌≡◌, ℕ, ◌-◌, ap, ◌∙◌}
use Rattle.std.proofs.Math.Path.{ap₂}
use Rattle.commonware_faults.specs.Subsets.{shared}
use Rattle.committee_core.specs.Refutations.{subset_of, counted, ends}
use Rattle.committee_core.specs.declared.ranges.Refutation.{Refutation}

-- two ranges with their count are the ends that the ranges say
pub ends_by_ranges : (n a b : ℕ) (r : Refutation) → r.first ≡ record { start = 0; end = a } → r.second ≡ record { start = n - b; end = n } → r.shared ≡ shared (subset_of n r.first) (subset_of n r.second) → r ≡ ends n a b
ends_by_ranges n a b r first second count = ap (λ s. record r { shared = s }) count ∙ ap₂ (counted n) first second
