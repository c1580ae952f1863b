-- What is taken from an iterator that is handed in.
use Rattle.std.specs.Prelude.{◌≡◌, Bool, List, Option, true}
use Rattle.std.specs.Iterator.{Drains, DrainsIf}

-- the iterator that is made of given gave the items xs and then ended, and P holds of xs
abbrev pub TakesAll : {Given State Item : Type 0} → (Given → State → Type 0) → (State → Option Item → State → Type 0)
    → Given → (List Item → Type 0) → Type 0
TakesAll {Given} {State} {Item} becomes steps given P =
    (s : State) × (xs : List Item) × becomes given s × Drains steps s xs × P xs

-- the iterator s gave the items xs, and then ended if ended is true, and P holds of both
abbrev pub DrawsSome : {State Item : Type 0} → (State → Option Item → State → Type 0) → State
    → (List Item → Bool → Type 0) → Type 0
DrawsSome {State} {Item} steps s P = (xs : List Item) × (ended : Bool) × DrainsIf steps (ended ≡ true) s xs × P xs ended

-- the same of the iterator that is made of given
abbrev pub TakesSome : {Given State Item : Type 0} → (Given → State → Type 0) → (State → Option Item → State → Type 0)
    → Given → (List Item → Bool → Type 0) → Type 0
TakesSome {Given} {State} {Item} becomes steps given P = (s : State) × becomes given s × DrawsSome steps s P

-- the iterator s gave some items and then ended, and Collects holds of them and of made
abbrev pub IsMadeFrom : {State Item Made : Type 0} → (State → Option Item → State → Type 0) → State
    → (List Item → Made → Type 0) → Made → Type 0
IsMadeFrom {State} {Item} steps s Collects made = (xs : List Item) × Drains steps s xs × Collects xs made

-- the same of the iterator that is made of given
abbrev pub IsMadeOf : {Given State Item Made : Type 0} → (Given → State → Type 0)
    → (State → Option Item → State → Type 0) → Given → (List Item → Made → Type 0) → Made → Type 0
IsMadeOf becomes steps given Collects made = TakesAll becomes steps given (λ xs. Collects xs made)

-- the iterator s gave some items, and Refuses holds of them, of whether it ended after them, and of error
abbrev pub IsRefusalFrom : {State Item Error : Type 0} → (State → Option Item → State → Type 0) → State
    → (List Item → Bool → Error → Type 0) → Error → Type 0
IsRefusalFrom steps s Refuses error = DrawsSome steps s (λ xs ended. Refuses xs ended error)

-- the same of the iterator that is made of given
abbrev pub IsRefusalOf : {Given State Item Error : Type 0} → (Given → State → Type 0)
    → (State → Option Item → State → Type 0) → Given → (List Item → Bool → Error → Type 0) → Error → Type 0
IsRefusalOf becomes steps given Refuses error = TakesSome becomes steps given (λ xs ended. Refuses xs ended error)
