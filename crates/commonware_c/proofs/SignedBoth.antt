-- The members that signed both of two certificates.
use Rattle.std.proofs.Common.{◌≡◌, ◌≢◌, ◌∙◌, ◌⊎◌, inl, inr, ◌≤◌, ◌<◌, ◌++◌, ℕ, List, [], length, get_or, take, drop}
use Rattle.std.proofs.Common.{ap, sym, subst, arith, length-append}
use Rattle.std.specs.List.{Contains}
use Rattle.std.specs.Ordering.{nat_cmp}
use Rattle.std.proofs.Math.Nat.{mul-le-mul_right}
use Rattle.std.proofs.Math.Seq.{drop-append_seam, take-append_seam}
use Rattle.std.proofs.lemmas.Cmp.{nat_cmp_total}
use Rattle.std.proofs.lemmas.List.{get_or_default}
use Rattle.std.proofs.lemmas.Map.Keys.{Less-from_sorted}
use Rattle.std.proofs.lemmas.Map.Views.{length-le_from_below}
use Rattle.commonware_ordered.specs.Strict.{IsStrict}
use Rattle.commonware_ordered.specs.laws.StrictLaws.{sorted_from_strict}
use Rattle.committee_certificates.specs.Accountability.{InLog}
use Rattle.committee_certificates.specs.InPlace.{AreSignersAt}
use Rattle.committee_certificates.specs.Signers.{AreInBoth, AreMembers}
use Rattle.committee_certificates.specs.declared.in_place.SignersAt.{SignersAt}
use Rattle.committee_certificates.proofs.Accountable.{each_guilty}
use Rattle.committee_certificates.proofs.Members.{AreQuorumsAndBoth, both-many, both-leave}
use Rattle.commonware_c.specs.Certificates.{AreAccused}
use Rattle.commonware_c.specs.Conflicting.{AreConflicting, AreContradicting, IsViewOfBoth}
use Rattle.commonware_c.specs.Equivocations.{AreEquivocators}
use Rattle.commonware_c.specs.declared.conflicts.ConflictView.{ConflictView}
use Rattle.commonware_c.proofs.EncodingLemmas.{signers_fewer}
use Rattle.commonware_c.proofs.Fewer.{not_longer}

-- strictly increasing numbers that are among others are no more than these
among_fewer : (others numbers : List ℕ) → IsStrict nat_cmp numbers
    → ((x : ℕ) → Contains numbers x → Contains others x) → length numbers ≤ length others
among_fewer others numbers strict among =
    not_longer nat_cmp (λ x e. let back = nat_cmp_total.antisymm x x in cc) numbers others
    (λ i j d. Less-from_sorted nat_cmp numbers i j d (sorted_from_strict nat_cmp_total numbers strict)) among

-- nor than the members, where they are members
pub members_fewer : (n : ℕ) (ones both : List ℕ) → IsStrict nat_cmp both → AreMembers n ones
    → ((x : ℕ) → Contains both x → Contains ones x) → length both ≤ n
members_fewer n ones both strict members among =
    length-le_from_below n both (sorted_from_strict nat_cmp_total both strict) (λ k d h.
    let x = get_or both k d in
    let (j, within, same) = among x (k, h, get_or_default both k x d h) in
    subst (λ y. y < n) same (members j x within))

module _ (one two both : List ℕ) (in_both : AreInBoth one two both) where
  -- those that signed both are no more than the signers of the first
  pub fewer_than_first : length both ≤ length one
  fewer_than_first = among_fewer one both in_both.strict (λ x h. ((in_both.exactly x).0 h).0)

  -- nor than those of the second
  pub fewer_than_second : length both ≤ length two
  fewer_than_second = among_fewer two both in_both.strict (λ x h. ((in_both.exactly x).0 h).1)

  -- and no two lists of them have different lengths
  pub not_more_than : (other : List ℕ) → AreInBoth one two other → length both ≤ length other
  not_more_than other is = among_fewer other both in_both.strict (λ x h. (is.exactly x).1 ((in_both.exactly x).0 h))

-- they are the accused
pub accused_of : (k n : ℕ) (first second : List ℕ) (one_at two_at : SignersAt)
    (c : AreConflicting k n first second one_at two_at) (both : List ℕ) → AreInBoth c.one.1 c.two.1 both
    → AreAccused k n first second both
accused_of k n first second one_at two_at c both in_both =
    let quorums : AreQuorumsAndBoth n c.faults c.one.1 c.two.1 both = record {
      first_strict = c.first_at.strict;
      second_strict = c.second_at.strict;
      first_members = c.first_quorum.0;
      second_members = c.second_quorum.0;
      first_enough = c.first_quorum.1;
      second_enough = c.second_quorum.1;
      both = in_both;
    } in
    record {
      faults = c.faults;
      tolerance = c.tolerance;
      both = (
        c.one,
        c.two,
        c.first_whole,
        c.second_whole,
        (c.differ, c.first_quorum, c.second_quorum, in_both),
      );
      shared = both-many quorums;
      many = omega (arith, both-many quorums, c.tolerance.least_shared);
      leaves = both-leave quorums;
      outlast = λ three. both-leave quorums (omega (arith, c.tolerance.fits.fits, mul-le-mul_right c.faults three));
      most = members_fewer n c.one.1 both in_both.strict c.first_quorum.0 (λ x h. ((in_both.exactly x).0 h).0);
      most_first =
          omega (
            arith,
            fewer_than_first c.one.1 c.two.1 both in_both,
            signers_fewer c.one.0 c.one.1 first [] c.first_whole.begins,
          );
      most_second =
          omega (
            arith,
            fewer_than_second c.one.1 c.two.1 both in_both,
            signers_fewer c.two.0 c.two.1 second [] c.second_whole.begins,
          );
    }

-- what a view tells of those that are named, of whom P is so, and of the room
pub record IsToldBy (P : List ℕ → Type 0) (view : ConflictView) (old_room new_room : List ℕ) : Type 0 where
  pub fits : view.status ≡ 0 → view.count ≤ length new_room
  pub named : view.status ≡ 0 → P (take view.count new_room)
  pub after : view.status ≡ 0 → drop view.count new_room ≡ drop view.count old_room
  pub untouched : view.status ≢ 0 → new_room ≡ old_room
  pub lacks : view.status ≡ 11
      → (named : List ℕ) × P named × (view.count ≡ length named) × (length old_room < view.count)
  pub about_none : (view.which ≡ 0) × (view.number ≡ 0)
  pub status : (view.status ≡ 0) ⊎ (view.status ≡ 11)

pub told_by : (P : List ℕ → Type 0) (one two : List ℕ) (view : ConflictView) (old_room new_room : List ℕ)
    → ((both : List ℕ) → AreInBoth one two both → P both) → IsViewOfBoth one two view old_room new_room
    → IsToldBy P view old_room new_room
told_by P one two view old_room new_room all v =
    let named = all v.both v.in_both in
    let rest = drop view.count old_room in
    record {
      fits = λ ok. elim v.room [
        | inl h ↦ let m = length-append v.both rest in omega (arith, m, ap length h.2, v.count_is)
        | inr h ↦ absurd (omega (arith, ok, h.0))
      ];
      named = λ ok. elim v.room [
        | inl h ↦
            let taken : take view.count new_room ≡ v.both =
            ap (take view.count) h.2 ∙ ap (λ m. take m (v.both ++ rest)) v.count_is ∙ take-append_seam v.both rest in
            subst P (sym taken) named
        | inr h ↦ absurd (omega (arith, ok, h.0))
      ];
      after = λ ok. elim v.room [
        | inl h ↦
            ap (drop view.count) h.2 ∙ ap (λ m. drop m (v.both ++ rest)) v.count_is ∙ drop-append_seam v.both rest
        | inr h ↦ absurd (omega (arith, ok, h.0))
      ];
      untouched = λ other. elim v.room [ inl h ↦ absurd (other h.0) | inr h ↦ h.2 ];
      lacks = λ lacks. elim v.room [
        | inl h ↦ absurd (omega (arith, lacks, h.0))
        | inr h ↦ (v.both, named, v.count_is, h.1)
      ];
      about_none = (v.which_is, v.number_is);
      status = elim v.room [ inl h ↦ inl h.0 | inr h ↦ inr h.0 ];
    }

-- those that signed both of two certificates for different values
pub told_of_accused : (k n : ℕ) (first second : List ℕ) (one_at two_at : SignersAt)
    (c : AreConflicting k n first second one_at two_at) (view : ConflictView) (old_room new_room : List ℕ)
    → ((one two : List ℕ) → AreSignersAt one_at one → AreSignersAt two_at two
    → IsViewOfBoth one two view old_room new_room)
    → IsToldBy (AreAccused k n first second) view old_room new_room
told_of_accused k n first second one_at two_at c view old_room new_room viewed =
    told_by (AreAccused k n first second) c.one.1 c.two.1 view old_room new_room
    (accused_of k n first second one_at two_at c) (viewed c.one.1 c.two.1 c.first_at c.second_at)

-- and of two for different decisions for one slot
pub told_of_equivocators : (k n : ℕ) (first second : List ℕ) (one_at two_at : SignersAt)
    (c : AreContradicting k n first second one_at two_at) (view : ConflictView) (old_room new_room : List ℕ)
    → ((one two : List ℕ) → AreSignersAt one_at one → AreSignersAt two_at two
    → IsViewOfBoth one two view old_room new_room)
    → IsToldBy (AreEquivocators k n first second) view old_room new_room
told_of_equivocators k n first second one_at two_at c view old_room new_room viewed =
    let d = c.conflicting in
    told_by (AreEquivocators k n first second) d.one.1 d.two.1 view old_room new_room
    (λ both in_both. record {
      accused = accused_of k n first second one_at two_at d both in_both;
      guilty = (
        d.one,
        d.two,
        d.first_whole,
        d.second_whole,
        (
          c.contradict,
          λ log h j.
              each_guilty (InLog log) d.one.1 d.two.1 both d.one.0 d.two.0 h j c.contradict in_both,
        ),
      );
    }) (viewed d.one.1 d.two.1 d.first_at d.second_at)
