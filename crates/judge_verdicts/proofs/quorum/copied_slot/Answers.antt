use Rattle.std.proofs.Common.{◌+◌, ◌<◌, ℕ, List, ◌++◌, ap, arith, length, length-append}
use Rattle.commonware_base.specs.Varint.{varint}
use Rattle.commonware_base.specs.laws.VarintLaws.{groups_not_empty, varint_size_is}
use Rattle.committee_certificates.specs.Slots.{IsFor}
use Rattle.judge_verdicts.proofs.Results.{on_error}
use Rattle.judge_verdicts.proofs.quorum.copied_slot.Goals as goal

-- a value has a byte beside its slot and its decision
longer : (value slot decision : List ℕ) → IsFor value slot decision → length slot + length decision < length value
longer value slot decision h =
    let n = length slot in
    omega (arith, ap length h.text, length-append (varint n ++ slot) decision, length-append (varint n) slot, varint_size_is n, groups_not_empty 4 n)

pub returns-in_err-copied-in-Some-clause-memory : goal.returns-in_err-copied-in-Some-clause-memory
returns-in_err-copied-in-Some-clause-memory g c =
    let more = longer c.args.value.now c.in-Some.slot.now c.in-Some.decision.now c.in-Some.ensures.found in
    on_error _ c.from_residual.result (omega (arith, c.in_err-copied-in-Some.ensures.memory))

pub returns-in_err-copied-in-Some-2-clause-memory : goal.returns-in_err-copied-in-Some-2-clause-memory
returns-in_err-copied-in-Some-2-clause-memory g c =
    let more = longer c.args.value.now c.in-Some.slot.now c.in-Some.decision.now c.in-Some.ensures.found in
    on_error _ c.from_residual-in_err-copied-in-Some-2.result (omega (arith, c.in_err-copied-in-Some-2.ensures.memory))
