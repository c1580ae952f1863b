use Rattle.std.proofs.Common.{ap, arith, length, refl}
use Rattle.commonware_base.specs.laws.ItemsLaws.{items_bytes}
use Rattle.commonware_sequence.specs.U64.{IsU64, u64_bytes}
use Rattle.commonware_sequence.proofs.u64.codec.U64Write.write_at_once.Goals as goal

pub returns-in-Err-clause-nothing : goal.returns-in-Err-clause-nothing
returns-in-Err-clause-nothing g c = λ none.
    absurd (omega (arith, c.in-Err.ensures.full, c.args.sink.now.ok.1, ap length none, items_bytes u64_bytes IsU64 8 (λ v w. refl) c.args.items.now c.requires))
