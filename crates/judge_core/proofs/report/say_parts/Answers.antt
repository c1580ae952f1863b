use Rattle.std.proofs.Common.{refl, ◌∙◌}
use Rattle.judge_core.specs.Said.{part_text}
use Rattle.judge_core.proofs.Saying.{says_more}
use Rattle.judge_core.proofs.report.say_parts.Goals as goal

pub loop-part-preserved : goal.loop-part-preserved
loop-part-preserved g c = (
  c.in_ok-say_part.ensures.sound ∙ c.loop-part.invariant.0,
  says_more part_text c.args.parts.now c.loop-part.part-index _ _ _ _ c.args.room.now c.loop-part.room c.say_part.new.room _ c.loop-part-test.true refl c.loop-part.invariant.1 c.in_ok-say_part.ensures.said,
)
