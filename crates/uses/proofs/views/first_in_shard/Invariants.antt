use Rattle.std.proofs.Common.{◌≡◌, ◌∷◌, [], ℕ}
use Rattle.std.specs.Prelude.{List, bytes_eq, find, take}
use Rattle.uses.proofs.views.first_in_shard.Given as goal

-- the first of all keys is the first of those that are left
abbrev pub invariant-loop-key : goal.invariant-loop-key
invariant-loop-key l =
    find (λ (key : List ℕ). bytes_eq (take 1 key) (l.shard ∷ [])) l.fn.keys
    ≡ find (λ (key : List ℕ). bytes_eq (take 1 key) (l.shard ∷ [])) l.key-iterator
