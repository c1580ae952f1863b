-- What a map of the values calls, and what it returns.
pub use Rattle.commonware_map.specs.ValueCalls.{CalledAtPair, TakesPair}
use Rattle.std.specs.Prelude.{◌≡◌, List, ◌∷◌, ◌++◌, Ok, Err}
use Rattle.std.specs.Borrow.{Bor}
use Rattle.std.specs.Fn.{Called, Mut, Takes}
use Rattle.std.specs.declared.result.Result.{Result}
use Rattle.commonware_base.specs.Calls.{CallsGive}
use Rattle.commonware_map.specs.declared.map_error.MapError.{MapError}
use Rattle.commonware_map.specs.declared.map_error.MapError.TheVariants.{Memory, Closure}

-- A call of f at references to the key and the value of a pair returned r and left f'.
pub record CalledAtRefs {F K V R : Type 0} (calls : Mut F (Bor K × (Bor V × Unit {0})) R) (f : F) (pair : K × V) (r : R)
    (f' : F) : Type 0 where
  pub key : Bor K
  pub value : Bor V
  pub key_is : key.now ≡ pair.0
  pub value_is : value.now ≡ pair.1
  pub called : Called calls f (key, (value, tt)) r f'

-- f may be called at references to the key and the value of a pair.
abbrev pub TakesRefs : {F K V R : Type 0} → Mut F (Bor K × (Bor V × Unit {0})) R → F → K × V → Type 0
TakesRefs {F} {K} {V} calls f pair = (key : Bor K) → (value : Bor V) → key.now ≡ pair.0 → value.now ≡ pair.1
    → Takes calls f (key, (value, tt))

-- The step from f to f' returned `Ok r`.
abbrev pub Succeeds : {F X R E : Type 0} → (F → X → Result R E → F → Type 0) → F → X → R → F → Type 0
Succeeds step f x r f' = step f x (Ok r) f'

-- The calls at the first of xs returned `Ok`, and the one after them returned the error e.
pub record IsFirstError {F X R E : Type 0} (step : F → X → Result R E → F → Type 0) (f : F) (xs : List X) (e : E) :
    Type 0 where
  pub before : List X
  pub at : X
  pub after : List X
  pub split : xs ≡ before ++ at ∷ after
  pub answers : List R
  pub now : F
  pub calls : CallsGive (Succeeds step) f before answers now
  pub last : F
  pub failed : step now at (Err e) last

-- P holds of the closure's error, where it is one.
abbrev pub IfClosure : {E : Type 0} → MapError E → (E → Type 0) → Type 0
IfClosure Memory P = Unit {0}
IfClosure (Closure e) P = P e
