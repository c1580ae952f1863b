-- The lines that tell of participants with weights.
use Rattle.std.specs.Prelude.{ℕ, List, [], ◌∷◌, ◌++◌, Result, Ok, Err, codes}
use Rattle.std.specs.Fmt.{decimal}
use Rattle.commonware_utils.specs.Sequence.{hex_text}
use Rattle.judge_verdicts.specs.WeightedConflicts.{Weighed}
use Rattle.judge_verdicts.specs.WeightedQuorums.{WeightCertified}
use Rattle.judge_verdicts.specs.declared.weighted_conflict.NoWeightedConflict.{NoWeightedConflict}
use Rattle.judge_verdicts.specs.declared.weighted_conflict.NoWeightedConflict.TheVariants as conflicts
use Rattle.judge_verdicts.specs.declared.weighted_equivocation.NoWeightedEquivocation.{NoWeightedEquivocation}
use Rattle.judge_verdicts.specs.declared.weighted_equivocation.NoWeightedEquivocation.TheVariants as equivocations
use Rattle.judge_verdicts.specs.declared.weighted_quorum.NoWeightedQuorum.{NoWeightedQuorum}
use Rattle.judge_verdicts.specs.declared.weighted_quorum.NoWeightedQuorum.TheVariants as quorums
use Rattle.judge_verdicts.specs.declared.weights.NoWeights.{NoWeights}
use Rattle.judge_verdicts.specs.declared.weights.NoWeights.TheVariants.{Empty, Zero, Overflow, Unread}
use Rattle.judge_verdicts.specs.declared.weights.WeightNumbers.{WeightNumbers}
use Rattle.judge_core.specs.Tasks.{misread_line, slot_text}

-- the line that says why an input lists no weights
unfoldable pub no_weights_line : NoWeights → List ℕ
no_weights_line Empty = codes "NoWeights" ++ (10 ∷ [])
no_weights_line (Zero i) = codes "ZeroWeight " ++ (decimal i ++ (10 ∷ []))
no_weights_line (Overflow i) = codes "WeightOverflow " ++ (decimal i ++ (10 ∷ []))
no_weights_line (Unread what) = misread_line what

-- the line of the numbers of weights, or that says why there are none
unfoldable pub weights_line : Result WeightNumbers NoWeights → List ℕ
weights_line (Ok numbers) =
    codes "total "
    ++ (decimal numbers.total
    ++ (codes " tolerated "
    ++ (decimal numbers.tolerated
    ++ (codes " quorum "
    ++ (decimal numbers.quorum ++ (codes " m-quorum " ++ (decimal numbers.smaller_quorum ++ (10 ∷ []))))))))
weights_line (Err why) = no_weights_line why

-- the line that says what signers that weigh a quorum signed by a certificate, or why none did
unfoldable pub weighted_quorum_line : Result WeightCertified NoWeightedQuorum → List ℕ
weighted_quorum_line (Ok certified) =
    codes "quorum "
    ++ (decimal certified.signers ++ (codes " weight " ++ (decimal certified.weight ++ slot_text certified.slot)))
weighted_quorum_line (Err quorums.Outside) = codes "Outside" ++ (10 ∷ [])
weighted_quorum_line (Err quorums.TooLight) = codes "TooLight" ++ (10 ∷ [])
weighted_quorum_line (Err (quorums.Unlisted why)) = no_weights_line why
weighted_quorum_line (Err (quorums.Unread what)) = misread_line what

-- the line of members, as the bytes of their set, and of what they weigh
abbrev pub weighed_line : Weighed → List ℕ
weighed_line named =
    codes "members " ++ (hex_text named.bytes ++ (codes " weight " ++ (decimal named.weight ++ (10 ∷ []))))

-- the line that says who signed both certificates, or why no one is named
unfoldable pub weighted_conflict_line : Result Weighed NoWeightedConflict → List ℕ
weighted_conflict_line (Ok named) = weighed_line named
weighted_conflict_line (Err conflicts.EqualValues) = codes "EqualValues" ++ (10 ∷ [])
weighted_conflict_line (Err conflicts.Outside) = codes "Outside" ++ (10 ∷ [])
weighted_conflict_line (Err conflicts.TooLight) = codes "TooLight" ++ (10 ∷ [])
weighted_conflict_line (Err (conflicts.Unlisted why)) = no_weights_line why
weighted_conflict_line (Err (conflicts.Unread what)) = misread_line what

-- the line that says who signed two different decisions for one slot, or why no one is named
unfoldable pub weighted_equivocation_line : Result Weighed NoWeightedEquivocation → List ℕ
weighted_equivocation_line (Ok named) = weighed_line named
weighted_equivocation_line (Err equivocations.NoSlot) = codes "NoSlot" ++ (10 ∷ [])
weighted_equivocation_line (Err equivocations.OtherSlot) = codes "OtherSlot" ++ (10 ∷ [])
weighted_equivocation_line (Err equivocations.SameDecision) = codes "SameDecision" ++ (10 ∷ [])
weighted_equivocation_line (Err equivocations.Outside) = codes "Outside" ++ (10 ∷ [])
weighted_equivocation_line (Err equivocations.TooLight) = codes "TooLight" ++ (10 ∷ [])
weighted_equivocation_line (Err (equivocations.Unlisted why)) = no_weights_line why
weighted_equivocation_line (Err (equivocations.Unread what)) = misread_line what
