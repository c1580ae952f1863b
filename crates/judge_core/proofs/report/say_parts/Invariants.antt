use Rattle.std.proofs.Common.{◌≡◌, take}
use Rattle.std.specs.List.{flat_map}
use Rattle.judge_core.specs.Said.{Says, part_text}
use Rattle.judge_core.proofs.report.say_parts.Given as goal

-- the parts so far were said
abbrev pub invariant-loop-part : goal.invariant-loop-part
invariant-loop-part g l =
    (l.output.failed ≡ l.initial.output.failed)
    × Says (g.W.Write.contents l.initial.output.inner) (g.W.Write.contents l.output.inner) l.initial.room l.room (flat_map part_text (take l.part-index l.parts))
