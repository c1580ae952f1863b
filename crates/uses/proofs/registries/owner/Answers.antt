-- What `get_key` says of its result, whose key `copied` copies.
use Rattle.uses.proofs.registries.owner.Goals as goal

pub returns : goal.returns
returns c = rw c.copied.ensures
    c.get_key.ensures.law
