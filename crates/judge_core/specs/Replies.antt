-- The line that says the reply to a line.
use Rattle.std.specs.Prelude.{ℕ, List, Bool, true}
use Rattle.judge_verdicts.specs.Quorums.{checked_of}
use Rattle.judge_verdicts.specs.WeightedConflicts.{weighed_of}
use Rattle.judge_verdicts.specs.WeightedQuorums.{weight_checked_of}
use Rattle.judge_verdicts.specs.Whole.{items_of}
use Rattle.judge_core.specs.Answered.{Told, answer_line, is_judged}
use Rattle.judge_core.specs.Tasks.{built_line, conflict_line, equivocation_line, found_line, numbers_line}
use Rattle.judge_core.specs.Tasks.{quorum_line, refuted_line}
use Rattle.judge_core.specs.Weighted.{weighted_conflict_line, weighted_equivocation_line, weighted_quorum_line}
use Rattle.judge_core.specs.Weighted.{weights_line}
use Rattle.judge_core.specs.declared.reply.Reply.{Reply}
use Rattle.judge_core.specs.declared.reply.Reply.TheVariants.{Answered, Built, Checked, Equivocated, Found}
use Rattle.judge_core.specs.declared.reply.Reply.TheVariants.{Members, Numbers, Refuted, Weighted}
use Rattle.judge_core.specs.declared.weighted_reply.WeightedReply.{WeightedReply}
use Rattle.judge_core.specs.declared.weighted_reply.WeightedReply.TheVariants as weighted

-- the line of a reply that is about participants with weights
unfoldable pub weighted_text : {A : Type 0} → WeightedReply A → List ℕ
weighted_text (weighted.Numbers numbers) = weights_line numbers
weighted_text (weighted.Checked checked) = weighted_quorum_line (weight_checked_of checked)
weighted_text (weighted.Members members) = weighted_conflict_line (weighed_of members)
weighted_text (weighted.Equivocated members) = weighted_equivocation_line (weighed_of members)

-- the line
unfoldable pub reply_text : {A : Type 0} → Reply A → List ℕ
reply_text (Built built) = built_line (items_of built)
reply_text (Found found) = found_line found
reply_text (Numbers numbers) = numbers_line numbers
reply_text (Refuted refuted) = refuted_line refuted
reply_text (Checked checked) = quorum_line (checked_of checked)
reply_text (Members members) = conflict_line (items_of members)
reply_text (Equivocated members) = equivocation_line (items_of members)
reply_text (Weighted reply) = weighted_text reply
reply_text (Answered answer) = answer_line answer

-- whether the reply is a verdict
abbrev pub is_verdict : {A : Type 0} → Reply A → Bool
is_verdict (Answered answer) = is_judged answer
is_verdict (Built built) = true
is_verdict (Found found) = true
is_verdict (Numbers numbers) = true
is_verdict (Refuted refuted) = true
is_verdict (Checked checked) = true
is_verdict (Members members) = true
is_verdict (Equivocated members) = true
is_verdict (Weighted reply) = true

-- what is told by the reply
abbrev pub told_of : {A : Type 0} → Reply A → Told
told_of reply = record { text = reply_text reply; judged = is_verdict reply }
