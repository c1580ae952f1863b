-- A set of participants as a subset of the positions of a committee of n members.
use Rattle.std.specs.Prelude.{ℕ, Bool, List, nat_eq}
use Rattle.std.specs.List.{list_any}
use Rattle.commonware_faults.specs.Subsets.{passing}

-- whether a participant is among others
abbrev pub is_among : List ℕ → ℕ → Bool
is_among participants p = list_any (λ x. nat_eq x p) participants

-- the subset of the n positions that participants are: at each position, whether it is among them
abbrev pub members_among : ℕ → List ℕ → List Bool
members_among n participants = passing (is_among participants) n
