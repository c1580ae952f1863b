use Rattle.std.proofs.Common.{◌≡◌, take}
use Rattle.std.specs.List.{flat_map}
use Rattle.commonware_utils.specs.Sequence.{hex_digits}
use Rattle.judge_core.specs.Said.{Says}
use Rattle.judge_core.proofs.report.say_hex.Given as goal

-- the digits of the bytes so far were said
abbrev pub invariant-loop-byte : goal.invariant-loop-byte
invariant-loop-byte g l =
    (l.output.failed ≡ l.initial.output.failed)
    × Says (g.W.Write.contents l.initial.output.inner) (g.W.Write.contents l.output.inner) l.initial.room l.room (flat_map hex_digits (take l.byte-index l.bytes))
