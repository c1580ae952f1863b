use Rattle.std.specs.Int.{w64, from_be_bytes}
use Rattle.std.proofs.Common.{ap, sym, subst, ◌∙◌}
use Rattle.commonware_base.specs.Source.{Consumes}
use Rattle.commonware_sequence.specs.U64.{u64_bytes}
use Rattle.commonware_sequence.specs.laws.U64Laws.{bytes_of_number}
use Rattle.commonware_sequence.proofs.u64.codec.take_u64.Goals as goal

pub returns-clause-consumed : goal.returns-clause-consumed
returns-clause-consumed c =
    let taken = c.take_bytes-item in
    let number = c.from_be_bytes.ensures ∙ ap (from_be_bytes w64) c.as_bytes-bytes.ensures in
    let same = ap u64_bytes number ∙ bytes_of_number taken.result taken.ensures.of_size.count taken.ensures.of_size.bytes in
    subst (Consumes c.args.src.now taken.new.src) (sym same) taken.ensures.consumed
