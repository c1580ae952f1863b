-- Calls of a closure at a reference to a key and at its value.
use Rattle.std.specs.Prelude.{◌≡◌}
use Rattle.std.specs.Borrow.{Bor}
use Rattle.std.specs.Fn.{Called, Mut, Takes}

-- A call of f at a reference to the key of a pair and at its value returned r and left f'.
pub record CalledAtPair {F K V R : Type 0} (calls : Mut F (Bor K × (V × Unit {0})) R) (f : F) (pair : K × V) (r : R)
    (f' : F) : Type 0 where
  pub key : Bor K
  pub key_is : key.now ≡ pair.0
  pub called : Called calls f (key, (pair.1, tt)) r f'

-- f may be called at a reference to the key of a pair and at its value.
abbrev pub TakesPair : {F K V R : Type 0} → Mut F (Bor K × (V × Unit {0})) R → F → K × V → Type 0
TakesPair {F} {K} calls f pair = (key : Bor K) → key.now ≡ pair.0 → Takes calls f (key, (pair.1, tt))
