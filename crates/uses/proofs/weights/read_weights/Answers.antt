-- A new source has all the bytes before it.
use Rattle.std.proofs.Common.{rules, ◌≡◌}
use Rattle.commonware_utils.specs.Codec.{rest_of}
use Rattle.uses.proofs.weights.read_weights.Goals as goal

pub returns-in_err-weights-clause-refused : goal.returns-in_err-weights-clause-refused
returns-in_err-weights-clause-refused c =
    let text : c.args.bytes.now ≡ rest_of c.new-source.result = search rules in
    rw text
    search rules
