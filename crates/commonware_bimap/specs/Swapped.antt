-- Pairs the other way round.
use Rattle.std.specs.Prelude.{List, map}

-- each value before its key
abbrev pub swapped : {K V : Type 0} → List (K × V) → List (V × K)
swapped m = map (λ p. (p.1, p.0)) m
