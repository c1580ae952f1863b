use Rattle.std.specs.Vec.Iter.{into_iter_steps}
use Rattle.program_io.proofs.ArgumentLemmas.{collected, ok_along}
use Rattle.program_io.proofs.arguments.take_arguments.Goals as goal

pub returns-in-Ok-collect-clause-taken : goal.returns-in-Ok-collect-clause-taken
returns-in-Ok-collect-clause-taken g c =
    let (xs, drained, made) = c.in-Ok-collect.ensures.ran in
    ok_along c.args.arguments c.in-Ok.arguments _ c.in-Ok.is (collected into_iter_steps c.in-Ok.arguments xs _ drained made.0)
