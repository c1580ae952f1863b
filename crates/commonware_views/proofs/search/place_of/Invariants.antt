use Rattle.std.proofs.Common.{◌≡◌, ◌≤◌, ◌<◌, ◌-◌, ◌^◌, ℕ, length}
use Rattle.std.specs.List.{HoldsAt}
use Rattle.std.specs.declared.cmp.Ordering.TheVariants.{Less, Greater}
use Rattle.commonware_sequence.specs.FixedBytes.{bytes_cmp}
use Rattle.commonware_views.proofs.Halving.{IsHalvingLeft, IsSomeCounted}
use Rattle.commonware_views.proofs.search.place_of.Given as goal

abbrev pub invariant-loop-low : goal.invariant-loop-low
invariant-loop-low g l =
    let keys = g.K.Keys.keys l.keys in
    let key = g.K.Key.CountedKey.bytes l.key in
    (l.low ≤ l.high) × (l.high ≤ length keys)
    × (0 < l.low → HoldsAt (λ k. bytes_cmp k key ≡ Less) keys (l.low - 1))
    × (l.high < length keys → HoldsAt (λ k. bytes_cmp k key ≡ Greater) keys l.high)
    × ((k : ℕ) → length keys < 2 ^ k → IsHalvingLeft (g.C.Counter.counted l.fn.counter) (g.C.Counter.counted l.counter) (l.high - l.low) k)
    × (g.C.Counter.step ≡ 1 → IsSomeCounted (length keys) (l.high - l.low) (g.C.Counter.counted l.fn.counter) (g.C.Counter.counted l.counter))

abbrev pub decreases-loop-low : goal.decreases-loop-low
decreases-loop-low g l = l.high - l.low
