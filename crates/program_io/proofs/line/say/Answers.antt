use Rattle.std.proofs.Common.{arith}
use Rattle.program_io.proofs.Prefixes.{front_short}
use Rattle.program_io.proofs.line.say.Goals as goal

pub returns : goal.returns
returns g c =
    let (front, back, split, appended) = c.write_bytes.ensures.beginning in
    (front, front_short _ 128 _ front back (omega (arith, c.min-len.ensures)) split, appended)
