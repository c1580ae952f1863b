-- What is proved of queues of at most `capacity` items.
use Rattle.std.specs.Prelude.{◌==◌}
use Rattle.std.proofs.Common.{ap}
use Rattle.std.proofs.lemmas.Bool.{eqb-true}
use Rattle.std.specs.Hash as fed
use Rattle.std.specs.Hash.{Alike}
use Rattle.commonware_vec.specs.Queues.{Queue}

-- equal capacities are fed to a hasher alike
pub capacities_alike : {T : Type 0} → Alike (λ (b c : Queue T). b.capacity == c.capacity) (λ b. fed.usize b.capacity)
capacities_alike = record { fed = λ b c same. ap fed.usize (eqb-true b.capacity c.capacity same) }
