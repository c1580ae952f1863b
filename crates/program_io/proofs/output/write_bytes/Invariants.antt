use Rattle.std.proofs.Common.{◌≡◌, ℕ, List, ◌++◌, length}
use Rattle.std.specs.Io.KnownBytes.{Appends}
use Rattle.program_io.proofs.output.write_bytes.Given as goal

-- what was written of the bytes was appended
abbrev pub invariant-loop-rest : goal.invariant-loop-rest
invariant-loop-rest g l =
    (gone : List ℕ) × (l.initial.rest ≡ gone ++ l.rest) × Appends (g.W.Write.contents l.initial.output) (g.W.Write.contents l.output) gone

-- how many bytes are left to write
abbrev pub decreases-loop-rest : goal.decreases-loop-rest
decreases-loop-rest g l = length l.rest
