-- What an iterator that mutably borrows a map's values has left, and how it steps.
use Rattle.std.specs.Prelude.{◌≡◌, List, Option, length, zip}
use Rattle.std.specs.Borrow.{Bor, GName, MutBor}
use Rattle.std.specs.Iterator.Runs.{EveryRun, ItemsMapTo, ItemsMapToReversed}
use Rattle.std.specs.Map.Iter.{LendsFirst, LendsLast, deref_pair_mut}
use Rattle.std.specs.Slice.Iter as slice
use Rattle.commonware_map.specs.declared.iterators.pairs_mut.PairsMut.{PairsMut}

module _ {K V : Type 0} where
  -- The pairs that are left.
  abbrev pub pairs_mut_left : PairsMut K V → List (K × V)
  pairs_mut_left pairs = zip (slice.iter_rest pairs.keys) (slice.iter_mut_rest pairs.values)

  -- The name of the mutable borrow of the values.
  abbrev pub pairs_mut_name : PairsMut K V → GName
  pairs_mut_name pairs = slice.iter_mut_name pairs.values

  -- It may step from both ends: as many values as keys are left.
  abbrev pub CanStep : PairsMut K V → Type 0
  CanStep pairs = length (slice.iter_mut_rest pairs.values) ≡ length (slice.iter_rest pairs.keys)

  -- `next` returns the first pair that is left, or tells the end, and both ends may step again.
  abbrev pub pairs_mut_steps : PairsMut K V → Option (Bor K × MutBor V) → PairsMut K V → Type 0
  pairs_mut_steps before pair after = LendsFirst pairs_mut_left before pair after × CanStep after

  -- `next_back` returns the last one.
  abbrev pub pairs_mut_steps_back : PairsMut K V → Option (Bor K × MutBor V) → PairsMut K V → Type 0
  pairs_mut_steps_back before pair after = LendsLast pairs_mut_left before pair after × CanStep after

-- Each run of `next` returns what was left, in order.
abbrev pub BorrowsInOrder : Type 0 → Type 0 → Type 0
BorrowsInOrder K V =
    EveryRun (pairs_mut_steps {K = K} {V = V}) (λ run. ItemsMapTo run deref_pair_mut (pairs_mut_left run.from))

-- Each run of `next_back` returns it in reverse.
abbrev pub BorrowsInReverse : Type 0 → Type 0 → Type 0
BorrowsInReverse K V =
    EveryRun (pairs_mut_steps_back {K = K} {V = V})
    (λ run. ItemsMapToReversed run deref_pair_mut (pairs_mut_left run.from))
