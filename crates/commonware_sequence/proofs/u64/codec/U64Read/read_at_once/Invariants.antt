use Rattle.std.proofs.Common.{◌≡◌, ◌+◌, ◌*◌, ◌≤◌, length}
use Rattle.std.specs.Prelude.{vec_capacity}
use Rattle.std.specs.List.{AllByRecursion, flat_map}
use Rattle.commonware_base.specs.Source.{rest_of, Consumes}
use Rattle.commonware_sequence.specs.U64.{u64_bytes, IsU64}
use Rattle.commonware_sequence.proofs.u64.codec.U64Read.read_at_once.Given as goal

abbrev pub invariant-loop : goal.invariant-loop
invariant-loop g l = AllByRecursion IsU64 l.items.items × Consumes l.fn.src l.here (flat_map u64_bytes l.items.items) × (length l.items.items ≡ l.counter) × (8 * l.count ≤ 8 * l.counter + length (rest_of l.here)) × (l.count ≤ vec_capacity l.items)
