-- Subsets at the two ends of the positions.
use Rattle.std.specs.Prelude.{ℕ, ◌-◌, Bool, List}
use Rattle.std.specs.declared.ops.Range.{Range}
use Rattle.commonware_faults.specs.Subsets.{places, shared}
use Rattle.committee_core.specs.declared.ranges.Refutation.{Refutation}

-- the subset of n positions that a range of them is
abbrev pub subset_of : ℕ → Range ℕ → List Bool
subset_of n range = places n range.start range.end

-- two ranges of n positions, and the count of the places in both
abbrev pub counted : ℕ → Range ℕ → Range ℕ → Refutation
counted n first second =
    record { first = first; second = second; shared = shared (subset_of n first) (subset_of n second) }

-- the first a and the last b of n positions, and the count of the places in both
abbrev pub ends : ℕ → ℕ → ℕ → Refutation
ends n a b = counted n (record { start = 0; end = a }) (record { start = n - b; end = n })
