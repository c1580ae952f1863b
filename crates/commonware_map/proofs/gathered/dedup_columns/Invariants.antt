use Rattle.std.proofs.lemmas.Cmp.{on_total}
use Rattle.commonware_ordered.proofs.Put.{Keeps}
use Rattle.commonware_map.proofs.gathered.dedup_columns.Given as goal

abbrev pub invariant-loop-key : goal.invariant-loop-key
invariant-loop-key g l = Keeps {cmp = λ p q. g.K.Ord.cmp p.0 q.0} (on_total (λ p. p.0) g.met.K.Ord.total) l.yielded l.entries
