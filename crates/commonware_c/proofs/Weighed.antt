-- What is no certificate of a quorum by weight, and who signed both of two.
use Rattle.std.proofs.Common.{ℕ, ◌<◌, List, [], get_or, length, sum, subst, arith}
use Rattle.std.proofs.lemmas.List.Elements.{All-contains, All-from_get_or, Contains-get_or}
use Rattle.committee_certificates.specs.Accountability.{InLog}
use Rattle.committee_certificates.specs.InPlace.{AreSignersAt}
use Rattle.committee_certificates.specs.Signers.{AreInBoth, AreMembers, HasOutsider}
use Rattle.committee_certificates.specs.declared.in_place.SignersAt.{SignersAt}
use Rattle.committee_certificates.proofs.Accountable.{each_guilty}
use Rattle.committee_weights.specs.Members.{AreTooLight, AreWeightedQuorum}
use Rattle.committee_weights.specs.declared.weights.error.WeightsError.TheVariants.{Empty, TooMany, Zero, Overflow}
use Rattle.committee_weights.proofs.Both.{both-leave, both-members, both-shared, both-weigh}
use Rattle.committee_weights.proofs.Refusing.{accepted_not_refused}
use Rattle.committee_weights.proofs.Safety.{weight_tolerance}
use Rattle.committee_weights.proofs.Sharing.{some_weight}
use Rattle.commonware_c.specs.Conflicting.{IsViewOfBoth}
use Rattle.commonware_c.specs.WeightedChecks.{IsUncertifiedByWeight, IsWeightedCertificateOf}
use Rattle.commonware_c.specs.WeightedChecks.{no_weights, outside, too_light, unread}
use Rattle.commonware_c.specs.WeightedConflicts.{AreAccusedByWeight, AreConflictingByWeight, IsWeightedViewOfBoth}
use Rattle.commonware_c.specs.WeightedConflicts.{without_weight}
use Rattle.commonware_c.specs.WeightedEquivocations.{AreContradictingByWeight, AreEquivocatorsByWeight}
use Rattle.commonware_c.specs.Weights.{AreNoWeights, IsWeightedModel}
use Rattle.commonware_c.specs.Weights.{no_members, no_model, overflow, too_many, zero_weight}
use Rattle.commonware_c.specs.declared.conflicts.ConflictView.{ConflictView}
use Rattle.commonware_c.specs.declared.weighted_conflicts.WeightedConflictView.{WeightedConflictView}
use Rattle.commonware_c.proofs.Certified.{members_no_outsider, not_whole, one_list}
use Rattle.commonware_c.proofs.EncodingLemmas.{signers_fewer}
use Rattle.commonware_c.proofs.SignedBoth.{IsToldBy, fewer_than_first, fewer_than_second, members_fewer, told_by}

-- numbers that are told to be no weights are none
pub not_weights : (k : ℕ) (ws : List ℕ) (status number : ℕ) → AreNoWeights k ws status number → ¬ IsWeightedModel k ws
not_weights k ws status number (no_model a b h) m = omega (arith, h, m.0)
not_weights k ws status number (no_members a b h r) m = accepted_not_refused ws Empty m.1 r
not_weights k ws status number (too_many a b h r) m = accepted_not_refused ws TooMany m.1 r
not_weights k ws status number (zero_weight a h r) m = accepted_not_refused ws (Zero number) m.1 r
not_weights k ws status number (overflow a h r) m = accepted_not_refused ws (Overflow number) m.1 r

-- what is told to be no certificate of a quorum is none
pub not_weighed : (k : ℕ) (ws s : List ℕ) (status number : ℕ) → IsUncertifiedByWeight k ws s status number
    → (certificate : List ℕ × List ℕ) → ¬ IsWeightedCertificateOf k ws s certificate
not_weighed k ws s status number (no_weights why) certificate c = not_weights k ws status number why c.0
not_weighed k ws s status number (unread model why) certificate c = not_whole s status number why certificate c.1
not_weighed k ws s status number (outside a b model d whole o) certificate c =
    members_no_outsider (length ws) certificate.1 c.2.0
    (subst (HasOutsider (length ws)) (one_list s certificate d c.1 whole) o)
not_weighed k ws s status number (too_light a b model d whole members light) certificate c =
    let same = subst (AreTooLight k ws) (one_list s certificate d c.1 whole) light in omega (arith, same, c.2.1)

-- those that signed both are accused
pub accused_by_weight : (k : ℕ) (ws first second : List ℕ) (one_at two_at : SignersAt)
    (c : AreConflictingByWeight k ws first second one_at two_at) (both : List ℕ) → AreInBoth c.one.1 c.two.1 both
    → AreAccusedByWeight k ws first second both
accused_by_weight k ws first second one_at two_at c both in_both =
    let two = c.model.0 in
    let are = c.model.1 in
    let quorums : AreWeightedQuorum k ws c.one.1 × AreWeightedQuorum k ws c.two.1 = (c.first_quorum, c.second_quorum) in
    record {
      model = c.model;
      tolerance = weight_tolerance k (sum ws) two (some_weight ws are.are_weights);
      both = (
        c.one,
        c.two,
        c.first_whole,
        c.second_whole,
        (c.differ, c.first_quorum, c.second_quorum, in_both),
      );
      members = both-members two are quorums in_both;
      shared = both-shared two are quorums in_both;
      weigh = both-weigh two are quorums in_both;
      outlast = both-leave two are quorums in_both;
      most = members_fewer (length ws) c.one.1 both in_both.strict c.first_quorum.0 (λ x h. ((in_both.exactly x).0 h).0);
      most_first =
          omega (
            arith,
            fewer_than_first c.one.1 c.two.1 both in_both,
            signers_fewer c.one.0 c.one.1 first [] c.first_whole.begins,
          );
      most_second =
          omega (
            arith,
            fewer_than_second c.one.1 c.two.1 both in_both,
            signers_fewer c.two.0 c.two.1 second [] c.second_whole.begins,
          );
    }

-- those that are written, where they are
pub written_both : (one two : List ℕ) (view : ConflictView) (old_room new_room : List ℕ)
    → IsViewOfBoth one two view old_room new_room → IsToldBy (AreInBoth one two) view old_room new_room
written_both one two view old_room new_room = told_by (AreInBoth one two) one two view old_room new_room (λ both h. h)

-- they are members, where the signers of the first are
pub members_in_both : (n : ℕ) (ones twos both : List ℕ) → AreMembers n ones → AreInBoth ones twos both → AreMembers n both
members_in_both n ones twos both members h = All-from_get_or (λ p. p < n) both 0 (λ i inside.
    let in_both = (h.exactly (get_or both i 0)).0 (Contains-get_or both i 0 inside) in
    All-contains (λ p. p < n) ones _ members in_both.0)

-- what a view tells of two certificates for different values
pub told_of_accused_by_weight : (k : ℕ) (ws first second : List ℕ) (one_at two_at : SignersAt)
    (c : AreConflictingByWeight k ws first second one_at two_at) (view : WeightedConflictView) (old_room new_room : List ℕ)
    → ((one two : List ℕ) → AreSignersAt one_at one → AreSignersAt two_at two
    → IsWeightedViewOfBoth ws one two view old_room new_room)
    → IsToldBy (AreAccusedByWeight k ws first second) (without_weight view) old_room new_room
told_of_accused_by_weight k ws first second one_at two_at c view old_room new_room viewed =
    told_by (AreAccusedByWeight k ws first second) c.one.1 c.two.1 (without_weight view) old_room new_room
    (accused_by_weight k ws first second one_at two_at c) (viewed c.one.1 c.two.1 c.first_at c.second_at).of_both

-- and of two for different decisions for one slot
pub told_of_equivocators_by_weight : (k : ℕ) (ws first second : List ℕ) (one_at two_at : SignersAt)
    (c : AreContradictingByWeight k ws first second one_at two_at) (view : WeightedConflictView)
    (old_room new_room : List ℕ)
    → ((one two : List ℕ) → AreSignersAt one_at one → AreSignersAt two_at two
    → IsWeightedViewOfBoth ws one two view old_room new_room)
    → IsToldBy (AreEquivocatorsByWeight k ws first second) (without_weight view) old_room new_room
told_of_equivocators_by_weight k ws first second one_at two_at c view old_room new_room viewed =
    let d = c.conflicting in
    told_by (AreEquivocatorsByWeight k ws first second) d.one.1 d.two.1 (without_weight view) old_room new_room
    (λ both in_both. record {
      accused = accused_by_weight k ws first second one_at two_at d both in_both;
      guilty = (
        d.one,
        d.two,
        d.first_whole,
        d.second_whole,
        (
          c.contradict,
          λ log h j.
              each_guilty (InLog log) d.one.1 d.two.1 both d.one.0 d.two.0 h j c.contradict in_both,
        ),
      );
    }) (viewed d.one.1 d.two.1 d.first_at d.second_at).of_both
