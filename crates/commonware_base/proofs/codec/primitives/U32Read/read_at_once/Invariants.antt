use Rattle.std.proofs.Common.{◌≡◌, ◌+◌, ◌*◌, ◌≤◌, length}
use Rattle.std.specs.Prelude.{vec_capacity}
use Rattle.std.specs.List.{AllByRecursion, flat_map}
use Rattle.commonware_base.specs.Source.{rest_of, Consumes}
use Rattle.commonware_base.specs.Words.{word_bytes, IsWord}
use Rattle.commonware_base.proofs.codec.primitives.U32Read.read_at_once.Given as goal

abbrev pub invariant-loop : goal.invariant-loop
invariant-loop g l = AllByRecursion IsWord l.items.items × Consumes l.fn.src l.here (flat_map word_bytes l.items.items) × (length l.items.items ≡ l.counter) × (4 * l.count ≤ 4 * l.counter + length (rest_of l.here)) × (l.count ≤ vec_capacity l.items)
