-- The items of a list that equal one of another list.
use Rattle.std.specs.Prelude.{Bool, List}
use Rattle.std.specs.List.{filter, list_any}

-- those of the first that equal one of the second, in their order
abbrev pub shared_by : {T : Type 0} → (T → T → Bool) → List T → List T → List T
shared_by same first second = filter (λ x. list_any (λ y. same y x) second) first
