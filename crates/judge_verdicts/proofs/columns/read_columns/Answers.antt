use Rattle.std.proofs.Common.{◌≡◌, drop, subst}
use Rattle.commonware_utils.specs.Codec.{IsListMemoryFree, rest_of}
use Rattle.judge_verdicts.proofs.columns.read_columns.Goals as goal

pub returns-in-Err-Memory-clause-memory : goal.returns-in-Err-Memory-clause-memory
returns-in-Err-Memory-clause-memory g c =
    let cfg = c.args.cfg.now in
    let whole : rest_of c.new-source.result ≡ c.args.text.now = λ j. drop (c.new-source.ensures.position j) (c.new-source.ensures.bytes j) in
    subst (λ t. ¬ IsListMemoryFree (g.K.Read.fault cfg.1) (g.K.Read.memory_free cfg.1) cfg.0 t) whole (rw c.in-Err-Memory.field-0-is at c.in-Err-Memory.ensures.refused)
