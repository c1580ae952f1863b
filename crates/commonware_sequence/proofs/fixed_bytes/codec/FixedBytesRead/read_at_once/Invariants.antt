use Rattle.std.proofs.Common.{◌≡◌, ◌+◌, ◌*◌, ◌≤◌, length}
use Rattle.std.specs.Prelude.{vec_capacity}
use Rattle.std.specs.List.{AllByRecursion, flat_map}
use Rattle.commonware_base.specs.Source.{rest_of, Consumes}
use Rattle.commonware_sequence.specs.FixedBytes.{IsOfSize, own_bytes}
use Rattle.commonware_sequence.proofs.fixed_bytes.codec.FixedBytesRead.read_at_once.Given as goal

abbrev pub invariant-loop : goal.invariant-loop
invariant-loop g l = AllByRecursion (IsOfSize g.row.N) l.items.items × Consumes l.fn.src l.here (flat_map own_bytes l.items.items) × (length l.items.items ≡ l.counter) × (g.row.N * l.count ≤ g.row.N * l.counter + length (rest_of l.here)) × (l.count ≤ vec_capacity l.items)
