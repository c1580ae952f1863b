-- A new source has all the bytes before it.
use Rattle.std.proofs.Common.{rules, ◌≡◌}
use Rattle.commonware_utils.specs.Codec.{rest_of}
use Rattle.uses.proofs.peers.read_peers.Goals as goal

pub returns-clause-refused : goal.returns-clause-refused
returns-clause-refused c =
    let text : c.args.bytes.now ≡ rest_of c.new.result = search rules in
    rw text
    search rules
