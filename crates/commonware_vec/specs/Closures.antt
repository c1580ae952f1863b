-- Calls of a closure with an item by value, and with nothing.
use Rattle.std.specs.Prelude.{◌≡◌, ◌++◌, ℕ, List, replicate}
use Rattle.std.specs.Fn.{Called, Mut, Takes}
use Rattle.commonware_base.specs.Calls.{CallableAlong, CallsGiveAll}

-- a call of f with x returned r and left f'
abbrev pub CalledWith : {F X R : Type 0} → Mut F (X × Unit {0}) R → F → X → R → F → Type 0
CalledWith calls f x r f' = Called calls f (x, tt) r f'

-- f may be called with x
abbrev pub TakesWith : {F X R : Type 0} → Mut F (X × Unit {0}) R → F → X → Type 0
TakesWith calls f x = Takes calls f (x, tt)

-- a call of f returned r and left f'
abbrev pub CalledWithNothing : {F R : Type 0} → Mut F (Unit {0}) R → F → Unit {0} → R → F → Type 0
CalledWithNothing calls f place r f' = Called calls f tt r f'

-- f may be called
abbrev pub TakesNothing : {F R : Type 0} → Mut F (Unit {0}) R → F → Unit {0} → Type 0
TakesNothing calls f place = Takes calls f tt

-- f may be called count times, each as the call before has left it
abbrev pub CallableTimes : {F R : Type 0} → Mut F (Unit {0}) R → F → ℕ → Type 0
CallableTimes calls f count = CallableAlong (CalledWithNothing calls) (TakesNothing calls) f (replicate count tt)

-- new is old, and then what count calls of f returned, each on the state that the call before left
abbrev pub AppendsAnswers : {F R : Type 0} → Mut F (Unit {0}) R → F → ℕ → List R → List R → Type 0
AppendsAnswers {F} {R} calls f count old new =
    (answers : List R) × (new ≡ old ++ answers)
    × CallsGiveAll (CalledWithNothing calls) f (replicate count tt) answers
