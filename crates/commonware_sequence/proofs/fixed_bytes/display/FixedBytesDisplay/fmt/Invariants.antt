use Rattle.std.proofs.Common.{take}
use Rattle.std.specs.Fmt.{HasWritten, IsPlainFormatter}
use Rattle.commonware_sequence.specs.Hex.{hex_text}
use Rattle.commonware_sequence.proofs.fixed_bytes.display.FixedBytesDisplay.fmt.Given as goal

-- the digits of the bytes so far
abbrev pub invariant-loop-byte : goal.invariant-loop-byte
invariant-loop-byte g l =
    IsPlainFormatter l.initial.f → HasWritten g.W.Write.write_str_gives l.initial.f (hex_text (take l.byte-index l.byte-items)) l.f
