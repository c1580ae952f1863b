-- What a map is once a mutable borrow of its values has ended.
use Rattle.std.specs.Prelude.{ℕ, zero, suc, Bool, Option, List, [], ◌∷◌, length, zip}
use Rattle.std.specs.Borrow.{Fml, GName, RattleType, MutBor, Array, Lends, LendsIf, follows}
use Rattle.std.specs.List.{refill}
use Rattle.std.specs.Map.{keys_of, set_value, values_of}
use Rattle.std.specs.declared.alloc.Allocator as alloc
use Rattle.std.specs.declared.cmp.Ordering.{Ordering}
use Rattle.commonware_map.specs.contracts.map.Map.{the_row}

module _ {K V : Type 0} where
  -- the pairs with ws as the values, which are as many
  abbrev pub set_values : List (K × V) → List V → List (K × V)
  set_values es ws = zip (keys_of es) (refill (length es) (values_of es) ws)

  -- the pairs with w as the value at a position
  abbrev pub set_value_at : List (K × V) → ℕ → V → List (K × V)
  set_value_at [] i w = []
  set_value_at (e ∷ es) zero w = (e.0, w) ∷ es
  set_value_at (e ∷ es) (suc i) w = e ∷ set_value_at es i w

module _ (K V A : RattleType) (cmp : K.Denot → K.Denot → Ordering) (eq : K.Denot → K.Denot → Bool)
    (heap : alloc.Ghosts A.Denot) where
  -- the type of maps, as the logic holds it
  abbrev pub map_row : RattleType
  map_row = the_row K V A (record { order = cmp; same = eq }) heap

  module _ (m : MutBor (List (K.Denot × V.Denot))) where
    -- the value at the position is what was last written through r
    abbrev pub BorrowsValueAt : ℕ → MutBor V.Denot → Fml
    BorrowsValueAt i r = Lends map_row V m r (λ w. set_value_at m.now i w)

    -- the value of the key that passes the test is what was last written through r; at `None` the map stays as it is
    abbrev pub BorrowsValueOf : (K.Denot → Bool) → Option (MutBor V.Denot) → Fml
    BorrowsValueOf test r = LendsIf map_row V m r (λ w. set_value test m.now w) m.now

    -- the values are those last written through r
    abbrev pub BorrowsValues : MutBor (List V.Denot) → Fml
    BorrowsValues r = Lends map_row (Array V 0) m r (λ ws. set_values m.now ws)

    -- the same of the mutable borrow with this name
    abbrev pub BorrowsValuesTo : GName → Fml
    BorrowsValuesTo name = follows map_row (Array V 0) m.ghost_name name (λ ws. set_values m.now ws)
