-- Each result of the closure is twice its vote, so all of them are the map of it.
use Rattle.std.proofs.Common.{◌∙◌, ◌*◌, min}
use Rattle.std.proofs.lemmas.Result.{IfOk-weaker}
use Rattle.commonware_utils.specs.Roots.{answers_are}
use Rattle.uses.proofs.queues.doubled.Goals as goal

pub returns-clause-twice : goal.returns-clause-twice
returns-clause-twice c = IfOk-weaker c.map.result _ _ (λ list h. answers_are _ (λ vote. min (vote * 2) 4294967295) (λ f x r g step. step.called.met ∙ (λ i. min (step.shows i * 2) 4294967295)) _ c.args.votes.now list h.last h.calls) c.map.ensures.items
