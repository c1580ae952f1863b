-- What an iterator gives that a collection is made into: its items in order, from both ends, with the number left.
use Rattle.std.specs.Prelude.{◌≡◌, ◌<◌, ◌^◌, List, length}
use Rattle.std.specs.Iterator.Adapters.{IterMutYieldsInOrder, IterMutYieldsInReverse}
use Rattle.std.specs.Iterator.Adapters.{IterYieldsInOrder, IterYieldsInReverse}
use Rattle.std.specs.Iterator.Runs.{YieldsInOrder, YieldsInReverse}
use Rattle.std.specs.Slice.Iter.{iter_mut_rest, iter_rest}
use Rattle.std.specs.Vec.Iter.{into_iter_items, into_iter_len, into_iter_steps, into_iter_steps_back}
use Rattle.std.specs.declared.slice.Iter.{Iter}
use Rattle.std.specs.declared.slice.IterMut.{IterMut}
use Rattle.std.specs.declared.vec.IntoIter.{IntoIter}

-- the iterator hands over these items, each as the caller's own
abbrev pub HandsOver : {T A : Type 0} → List T → IntoIter T A → Type 0
HandsOver {T} {A} items it =
    (into_iter_items it ≡ items) × (into_iter_len it ≡ length items) × (into_iter_len it < 2 ^ 64)
    × YieldsInOrder (into_iter_steps {X = T} {Z = A}) into_iter_items
    × YieldsInReverse (into_iter_steps_back {X = T} {Z = A}) into_iter_items

-- the iterator shows these items, each by a `&`
abbrev pub Shows : {T : Type 0} → List T → Iter T → Type 0
Shows {T} items it =
    (iter_rest it ≡ items) × (length (iter_rest it) < 2 ^ 64) × IterYieldsInOrder T × IterYieldsInReverse T

-- the iterator lets these items be written, each by a `&mut`
abbrev pub LetsWrite : {T : Type 0} → List T → IterMut T → Type 0
LetsWrite {T} items it =
    (iter_mut_rest it ≡ items) × (length (iter_mut_rest it) < 2 ^ 64) × IterMutYieldsInOrder T
    × IterMutYieldsInReverse T
