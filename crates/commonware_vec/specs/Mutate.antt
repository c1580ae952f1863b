-- A call that changes what holds a list with at least one item.
use Rattle.std.specs.Prelude.{◌≡◌, ◌≤◌, List, length}
use Rattle.std.specs.Fn.{Once}
use Rattle.std.specs.Borrow.{MutBor}

module _ {T V F R : Type 0} (items_of : V → List T) (calls : Once F (MutBor V × Unit {0}) (R × (MutBor V × Unit {0})))
    (f : F) (items : List T) where
  -- f may be called with a `&mut` to what holds these items, of which there is at least one
  abbrev pub TakesItems : Type 0
  TakesItems = (lent : MutBor V) → items_of lent.now ≡ items → 1 ≤ length (items_of lent.now) → calls.pre f (lent, tt)

  -- whatever such a call returns, it leaves an item
  abbrev pub LeavesSome : Type 0
  LeavesSome = (lent : MutBor V) (answer : R) (left : MutBor V) → items_of lent.now ≡ items
      → 1 ≤ length (items_of lent.now) → calls.post f (lent, tt) (answer, (left, tt)) → 1 ≤ length (items_of left.now)

  -- such a call returned this and left these items
  abbrev pub ReturnsAtItems : R → List T → Type 0
  ReturnsAtItems answer after =
      (lent : MutBor V) × (left : MutBor V) × (items_of lent.now ≡ items) × calls.post f (lent, tt) (answer, (left, tt))
      × (after ≡ items_of left.now)
