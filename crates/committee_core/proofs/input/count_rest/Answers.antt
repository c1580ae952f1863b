use Rattle.std.proofs.Common.{◌≡◌, ℕ, ◌+◌, ◌^◌, ◌≤◌, List, ◌++◌, length, take, arith, length-append, Option}
use Rattle.std.specs.Io.KnownBytes.{Consumes}
use Rattle.std.proofs.KnownBytes.{Consumes-trans}
use Rattle.std.proofs.lemmas.List.{length-take-le}
use Rattle.committee_core.proofs.input.count_rest.Goals as goal

-- what was read into the room is counted with the rest
counts_more : (old mid new : Option (List ℕ)) (before total n : ℕ) (chunk rest : List ℕ) → Consumes old mid rest → before + length rest ≡ total → Consumes mid new (take n chunk) → n ≤ length chunk
    → (all : List ℕ) × Consumes old new all × (before + length all ≡ total + n)
counts_more old mid new before total n chunk rest first count second fits =
    (rest ++ take n chunk, Consumes-trans old mid new rest (take n chunk) first second, omega (arith, length-append rest (take n chunk), length-take-le n chunk fits))

pub returns-in-None-clause-too_many : goal.returns-in-None-clause-too_many
returns-in-None-clause-too_many g c =
    let (sound, counted) = c.loop-n.invariant in
    let (rest, read, count) = counted in
    let more = counts_more _ _ _ _ _ _ _ rest read count c.in_ok-n.ensures.bytes c.in_ok-n.ensures.within in
    let full : 2 ^ 64 ≤ c.loop-n.total + c.in_ok-n.n = omega (arith, c.in-None.ensures) in
    λ _. (more.0, more.1, omega (arith, more.2, full))

pub loop-n-preserved : goal.loop-n-preserved
loop-n-preserved g c =
    let (sound, counted) = c.loop-n.invariant in
    let (rest, read, count) = counted in
    let more = counts_more _ _ _ _ _ _ _ rest read count c.in_ok-n.ensures.bytes c.in_ok-n.ensures.within in
    (grind arith, (more.0, more.1, omega (arith, more.2, c.in-Some.ensures)))

pub returns-then-n-lt-CHUNK-clause-bytes : goal.returns-then-n-lt-CHUNK-clause-bytes
returns-then-n-lt-CHUNK-clause-bytes g c =
    let (sound, counted) = c.loop-n.invariant in
    let (rest, read, count) = counted in
    let more = counts_more _ _ _ _ _ _ _ rest read count c.in_ok-n.ensures.bytes c.in_ok-n.ensures.within in
    let ended = c.in_ok-n.ensures.ended (omega (arith, c.fill.ensures.room)) in
    (more.0, record { bytes = more.1; at_end = ended.0 }, omega (arith, more.2, c.in-Some.ensures))
