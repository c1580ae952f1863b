use Rattle.std.proofs.Common.{arith}
use Rattle.std.proofs.lemmas.Grind.{common_steps}
use Rattle.judge_questions.proofs.bytes.Bytes.push.Goals as goal

pub returns-then-self-lt-SHORT-clause-appended : goal.returns-then-self-lt-SHORT-clause-appended
returns-then-self-lt-SHORT-clause-appended g c = grind (arith, common_steps)

pub returns-clause-appended : goal.returns-clause-appended
returns-clause-appended g c = grind (arith, common_steps)
