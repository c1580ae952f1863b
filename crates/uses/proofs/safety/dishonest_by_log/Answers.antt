use Rattle.std.proofs.lemmas.Result.{IfOk-weaker}
use Rattle.uses.proofs.safety.dishonest_by_log.Goals as goal

pub returns : goal.returns
returns c = λ honest log rule one two.
    IfOk-weaker c.equivocation.result _ _
    (λ named each index has. c.accountability_law.ensures.innocent honest log rule index (each index has))
    (c.equivocation.ensures.guilty log one two)
