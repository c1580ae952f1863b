-- Calls of a closure along a list, each on the state that the call before left.
use Rattle.std.specs.Prelude.{◌≡◌, List, [], ◌∷◌, ◌++◌}

module _ {F X R : Type 0} (step : F → X → R → F → Type 0) where
  -- One call at each of xs, in order, each on the state that the call before left: they returned rs and left `last`.
  abbrev pub CallsGive : F → List X → List R → F → Type 0
  CallsGive f [] [] last = f ≡ last
  CallsGive f [] (r ∷ rs) last = ⊥
  CallsGive f (x ∷ xs) [] last = ⊥
  CallsGive f (x ∷ xs) (r ∷ rs) last = (next : F) × step f x r next × CallsGive next xs rs last

  -- Such calls returned rs.
  pub record CallsGiveAll (f : F) (xs : List X) (rs : List R) : Type 0 where
    pub last : F
    pub calls : CallsGive f xs rs last

-- f may be called at each of xs, as the calls before have left it.
pub record CallableAlong {F X R : Type 0} (step : F → X → R → F → Type 0) (takes : F → X → Type 0) (f : F) (xs : List X)
    : Type 0 where
  pub at : (before : List X) (x : X) (after : List X) (answers : List R) (now : F) → xs ≡ before ++ x ∷ after
      → CallsGive step f before answers now → takes now x
