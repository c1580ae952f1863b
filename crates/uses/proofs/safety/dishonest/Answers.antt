use Rattle.std.proofs.Common.{ℕ, List, Result, Ok, Err}
use Rattle.std.specs.Prelude.{IfOk, OnOk}
use Rattle.uses.proofs.safety.dishonest.Goals as goal

-- what two facts about an Ok say of its value
with_both : {E : Type 0} (result : Result (List ℕ) E) (Fact : Type 0) (Of Wanted : List ℕ → Type 0)
    → (Fact → (value : List ℕ) → Of value → Wanted value) → OnOk result Fact → IfOk result Of → IfOk result Wanted
with_both (Ok value) Fact Of Wanted gives fact of = gives fact value of
with_both (Err error) Fact Of Wanted gives fact of = tt

pub returns : goal.returns
returns g c = λ rule one two.
    with_both c.equivocation.result _ _ _
    (λ contradict named both index has. c.accountability_of.ensures.innocent rule index
    (c.accountability_of.ensures.guilty c.args.first.now.signers c.args.second.now.signers named
    c.args.first.now.value.items c.args.second.now.value.items one two contradict both index has))
    c.equivocation.ensures.contradict c.equivocation.ensures.both
