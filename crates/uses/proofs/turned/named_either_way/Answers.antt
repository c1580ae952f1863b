use Rattle.std.proofs.Common.{◌≡◌, ℕ, List, Result, Ok, Err}
use Rattle.std.specs.Prelude.{IfOk}
use Rattle.uses.proofs.turned.named_either_way.Goals as goal

-- where two results have values of which one fact holds, and it holds of one value alone, they are the same
same_values : {E : Type 0} (one other : Result (List ℕ) E) (Of Turned : List ℕ → Type 0)
    → ((x y : List ℕ) → Of x → Turned y → x ≡ y) → IfOk one Of → IfOk other Turned
    → IfOk one (λ x. IfOk other (λ y. x ≡ y))
same_values (Ok x) (Ok y) Of Turned only h k = only x y h k
same_values (Ok x) (Err e) Of Turned only h k = tt
same_values (Err e) other Of Turned only h k = tt

pub returns-clause-same : goal.returns-clause-same
returns-clause-same c =
    let first = c.args.first.now.signers in
    let second = c.args.second.now.signers in
    same_values c.conflict_among-one.result c.conflict_among-other.result _ _
    (λ x y h k. c.both_law.ensures.only first second x y h ((c.both_law.ensures.symmetric second first y).0 k))
    c.conflict_among-one.ensures.both c.conflict_among-other.ensures.both
