use Rattle.commonware_base.proofs.ReadSteps.{ReadSoFar}
use Rattle.commonware_base.proofs.codec.list.read_list.Given as goal

abbrev pub invariant-loop : goal.invariant-loop
invariant-loop g l = ReadSoFar g.T.EncodeSize.enc g.T.EncodeSize.writable (g.T.Read.allowed l.item) l.fn.range l.count l.counter l.fn.src l.here l.items.items
