-- The lines that tell of what a line asks for by a verb.
use Rattle.std.specs.Prelude.{ℕ, ◌+◌, ◌-◌, ◌*◌, List, [], ◌∷◌, ◌++◌, Option, Some, None}
use Rattle.std.specs.Prelude.{Result, Ok, Err, codes}
use Rattle.std.specs.Fmt.{decimal}
use Rattle.commonware_utils.specs.Faults.{Overlap}
use Rattle.commonware_utils.specs.Sequence.{hex_text}
use Rattle.judge_verdicts.specs.Numbers.{IsRefutation}
use Rattle.judge_verdicts.specs.declared.conflict.NoConflict.{NoConflict}
use Rattle.judge_verdicts.specs.declared.conflict.NoConflict.TheVariants as conflicts
use Rattle.judge_verdicts.specs.declared.equivocation.NoEquivocation.{NoEquivocation}
use Rattle.judge_verdicts.specs.declared.equivocation.NoEquivocation.TheVariants as equivocations
use Rattle.judge_verdicts.specs.declared.numbers.FaultNumbers.{FaultNumbers}
use Rattle.judge_verdicts.specs.declared.numbers.Refutation.{Refutation}
use Rattle.judge_verdicts.specs.declared.places.Found.{Found}
use Rattle.judge_verdicts.specs.declared.places.Found.TheVariants as places
use Rattle.judge_verdicts.specs.Quorums.{Certified}
use Rattle.judge_verdicts.specs.declared.quorum.NoQuorum.{NoQuorum}
use Rattle.judge_verdicts.specs.declared.quorum.NoQuorum.TheVariants as quorums
use Rattle.judge_verdicts.specs.declared.sets.NotBuilt.{NotBuilt}
use Rattle.judge_verdicts.specs.declared.sets.NotBuilt.TheVariants as builts
use Rattle.judge_verdicts.specs.declared.whole.Misread.{Misread}
use Rattle.judge_verdicts.specs.declared.whole.Misread.TheVariants.{Fault, LeftOver}
use Rattle.judge_core.specs.Faults.{error_text}

-- bytes as a word: their digits, or `-` where there are none
abbrev pub word_text : List ℕ → List ℕ
word_text [] = codes "-"
word_text (byte ∷ bytes) = hex_text (byte ∷ bytes)

-- the line that says why an input is not the encoding of one value
unfoldable pub misread_line : Misread → List ℕ
misread_line (Fault error) = error_text error ++ (10 ∷ [])
misread_line (LeftOver left) = codes "LeftOver " ++ (decimal left ++ (10 ∷ []))

-- the line that says what was built, or why nothing was
unfoldable pub built_line : Result (List ℕ) NotBuilt → List ℕ
built_line (Ok bytes) = codes "built " ++ (hex_text bytes ++ (10 ∷ []))
built_line (Err builts.DuplicateKey) = codes "DuplicateKey" ++ (10 ∷ [])
built_line (Err builts.DuplicateValue) = codes "DuplicateValue" ++ (10 ∷ [])
built_line (Err (builts.Unread what)) = misread_line what

-- the line that says the position of an item
unfoldable pub found_line : Found → List ℕ
found_line (places.At place) = codes "position " ++ (decimal place ++ (10 ∷ []))
found_line places.Nowhere = codes "none" ++ (10 ∷ [])
found_line (places.Unread what) = misread_line what

-- the line of a model's numbers
unfoldable pub numbers_line : FaultNumbers → List ℕ
numbers_line numbers =
    codes "faults "
    ++ (decimal numbers.faults
    ++ (codes " quorum "
    ++ (decimal numbers.quorum ++ (codes " m-quorum " ++ (decimal numbers.smaller_quorum ++ (10 ∷ []))))))

-- the line of two ranges that share too few, or that says that there are none
unfoldable pub refuted_line : Option Refutation → List ℕ
refuted_line (Some r) =
    codes "first "
    ++ (decimal r.first.start
    ++ (codes ".."
    ++ (decimal r.first.end
    ++ (codes " second "
    ++ (decimal r.second.start
    ++ (codes ".."
    ++ (decimal r.second.end
    ++ (codes " shared "
    ++ (decimal r.shared ++ (codes " needed " ++ (decimal r.needed ++ (10 ∷ []))))))))))))
refuted_line None = codes "tolerated" ++ (10 ∷ [])

-- the slot and the decision that a value is, if it has a slot
abbrev pub slot_text : Option (List ℕ × List ℕ) → List ℕ
slot_text (Some slot) = codes " slot " ++ (word_text slot.0 ++ (codes " decision " ++ (word_text slot.1 ++ (10 ∷ []))))
slot_text None = codes " no slot" ++ (10 ∷ [])

-- the line that says what a quorum signed by a certificate, or why none did
unfoldable pub quorum_line : Result Certified NoQuorum → List ℕ
quorum_line (Ok certified) = codes "quorum " ++ (decimal certified.signers ++ slot_text certified.slot)
quorum_line (Err quorums.Outside) = codes "Outside" ++ (10 ∷ [])
quorum_line (Err quorums.TooFew) = codes "TooFew" ++ (10 ∷ [])
quorum_line (Err (quorums.Unread what)) = misread_line what

-- the line that says who signed both certificates, or why no one is named
unfoldable pub conflict_line : Result (List ℕ) NoConflict → List ℕ
conflict_line (Ok bytes) = codes "members " ++ (hex_text bytes ++ (10 ∷ []))
conflict_line (Err conflicts.EqualValues) = codes "EqualValues" ++ (10 ∷ [])
conflict_line (Err conflicts.Outside) = codes "Outside" ++ (10 ∷ [])
conflict_line (Err conflicts.TooFew) = codes "TooFew" ++ (10 ∷ [])
conflict_line (Err (conflicts.Unread what)) = misread_line what

-- the line that says who signed two different decisions for one slot, or why no one is named
unfoldable pub equivocation_line : Result (List ℕ) NoEquivocation → List ℕ
equivocation_line (Ok bytes) = codes "members " ++ (hex_text bytes ++ (10 ∷ []))
equivocation_line (Err equivocations.NoSlot) = codes "NoSlot" ++ (10 ∷ [])
equivocation_line (Err equivocations.OtherSlot) = codes "OtherSlot" ++ (10 ∷ [])
equivocation_line (Err equivocations.SameDecision) = codes "SameDecision" ++ (10 ∷ [])
equivocation_line (Err equivocations.Outside) = codes "Outside" ++ (10 ∷ [])
equivocation_line (Err equivocations.TooFew) = codes "TooFew" ++ (10 ∷ [])
equivocation_line (Err (equivocations.Unread what)) = misread_line what

-- f faults are refuted; or they are tolerated, so any two subsets of n - f share (k - 2)f + 1
abbrev pub IsRefuted : ℕ → ℕ → ℕ → Option Refutation → Type 0
IsRefuted k n f (Some r) = IsRefutation k n f r
IsRefuted k n f None = Overlap n (n - f) (n - f) ((k - 2) * f + 1)
