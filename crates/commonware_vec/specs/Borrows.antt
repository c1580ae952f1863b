-- What a non-empty list is once a mutable borrow of its items has ended.
use Rattle.std.specs.Prelude.{ℕ, List, length, slice_set}
use Rattle.std.specs.Borrow.{Fml, GName, RattleType, MutBor, Array, Lends, follows}
use Rattle.std.specs.List.{refill}
use Rattle.std.specs.declared.alloc.Allocator as alloc
use Rattle.commonware_vec.specs.contracts.non_empty.NonEmptyVec.{the_row}

module _ (T A : RattleType) (heap : alloc.Ghosts A.Denot) (v : MutBor (List T.Denot)) where
  -- the item at the position is what was last written through r
  abbrev pub BorrowsItemAt : ℕ → MutBor T.Denot → Fml
  BorrowsItemAt i r = Lends (the_row T A heap) T v r (λ w. slice_set v.now i w)

  -- the items are those last written through r, as many as there were
  abbrev pub BorrowsItems : MutBor (List T.Denot) → Fml
  BorrowsItems r = Lends (the_row T A heap) (Array T 0) v r (λ ws. refill (length v.now) v.now ws)

  -- the same of the mutable borrow with this name
  abbrev pub BorrowsItemsTo : GName → Fml
  BorrowsItemsTo name = follows (the_row T A heap) (Array T 0) v.ghost_name name (λ ws. refill (length v.now) v.now ws)
