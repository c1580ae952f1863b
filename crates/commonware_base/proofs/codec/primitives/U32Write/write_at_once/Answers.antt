use Rattle.std.proofs.Common.{ap, arith, length, refl}
use Rattle.commonware_base.specs.laws.ItemsLaws.{items_bytes}
use Rattle.commonware_base.specs.Words.{IsWord, word_bytes}
use Rattle.std.proofs.lemmas.Grind.{common_steps}
use Rattle.commonware_base.proofs.codec.primitives.U32Write.write_at_once.Goals as goal

pub loop-item-preserved : goal.loop-item-preserved
loop-item-preserved g c = grind (arith, common_steps)

pub returns-clause-ok : goal.returns-clause-ok
returns-clause-ok g c = grind (arith, common_steps)

pub returns-in-Err-clause-nothing : goal.returns-in-Err-clause-nothing
returns-in-Err-clause-nothing g c = λ none.
    absurd (omega (arith, c.in-Err.ensures.full, c.args.sink.now.ok.1, ap length none, items_bytes word_bytes IsWord 4 (λ v w. refl) c.args.items.now c.requires))
