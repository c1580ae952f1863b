use Rattle.std.proofs.Common.{◌≡◌, ℕ}
use Rattle.std.specs.Prelude.{List, bytes_eq, find, zip}
use Rattle.uses.proofs.views.first_with_weight.Given as goal

-- the first of all pairs is the first of those that are left
abbrev pub invariant-loop-key : goal.invariant-loop-key
invariant-loop-key l =
    find (λ (pair : List ℕ × List ℕ). bytes_eq pair.1 l.weight) l.fn.weights
    ≡ find (λ (pair : List ℕ × List ℕ). bytes_eq pair.1 l.weight) (zip l.key-iterator.a l.key-iterator.b)
