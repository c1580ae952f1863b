-- Signers as subsets of positions, and as what a search finds.
use Rattle.std.proofs.Common.{◌≡◌, ℕ, ◌≤◌, ◌<◌, Bool, true, false, ◌&&◌, List, length, Some, slice_get}
use Rattle.std.proofs.Common.{◌∙◌, Decides, refl, ap, arith}
use Rattle.std.specs.Prelude.{◌↔◌, IsSome, Option, nat_eq}
use Rattle.std.specs.List.{Contains, range_with_len}
use Rattle.std.proofs.lemmas.Bool.Decides.{same_from_decides}
use Rattle.std.proofs.lemmas.List.FromFn.{get_or-map-range_with_len}
use Rattle.std.proofs.lemmas.Option.{slice_get-get_or, slice_get_within}
use Rattle.commonware_faults.specs.Subsets.{size, shared, passing, IsIn, IsOutside}
use Rattle.commonware_faults.specs.laws.SubsetSizeLaws.{shared-map, size-agree, length-passing}
use Rattle.commonware_ordered.specs.Strict.{IsPlaceOf}
use Rattle.commonware_ordered.specs.Voters.{is_among, members_among}
use Rattle.commonware_ordered.specs.laws.PlaceLaws.{among_iff, place_iff}
use Rattle.commonware_ordered.specs.laws.PositionLaws.{size-members_among-le}
use Rattle.committee_certificates.specs.Signers.{AreInBoth, LeavesOneOutside}

-- two tests at once tell both
pub tells_both : (a b : Bool) (P Q : Type 0) → Decides a P → Decides b Q → Decides (a && b) (P × Q)
tells_both true true P Q h k = (λ e. (h.0 refl, k.0 refl), λ w. refl)
tells_both true false P Q h k = (λ e. absurd (cc), λ w. k.1 w.1)
tells_both false b P Q h k = (λ e. absurd (cc), λ w. h.1 w.0)

-- what a subset of positions says of one
slice_get-passing : (test : ℕ → Bool) (n p : ℕ) → p < n → slice_get (passing test n) p ≡ Some (test p)
slice_get-passing test n p h =
    let inside : p < length (passing test n) = omega (arith, length-passing test n) in
    slice_get-get_or (passing test n) p false inside
    ∙ ap (λ (b : Bool). Some b) (get_or-map-range_with_len test 0 n p p false h (omega arith))

-- a position of the signers is one of them
pub Contains-from_subset : (n : ℕ) (xs : List ℕ) (p : ℕ) → IsIn (members_among n xs) p → Contains xs p
Contains-from_subset n xs p h =
    let within = slice_get_within (members_among n xs) p true h in
    let inside : p < n = omega (arith, within, length-passing (is_among xs) n) in
    let e = slice_get-passing (is_among xs) n p inside in
    (among_iff xs p).0 (cc)

-- a position outside isn't
pub outside_not_listed : (n : ℕ) (xs : List ℕ) (p : ℕ) → IsOutside (members_among n xs) p → ¬ Contains xs p
outside_not_listed n xs p h w =
    let within = slice_get_within (members_among n xs) p false h in
    let inside : p < n = omega (arith, within, length-passing (is_among xs) n) in
    let e = slice_get-passing (is_among xs) n p inside in
    let t = (among_iff xs p).1 w in
    cc

-- the signers in both are the positions that are shared
pub shared-subsets : (n : ℕ) (xs ys zs : List ℕ) → AreInBoth xs ys zs
    → shared (members_among n xs) (members_among n ys) ≡ size (members_among n zs)
shared-subsets n xs ys zs h =
    let agree = λ (p : ℕ).
    same_from_decides (is_among xs p && is_among ys p) (is_among zs p)
    (tells_both _ _ _ _ (among_iff xs p) (among_iff ys p))
    (λ e. (h.exactly p).0 ((among_iff zs p).0 e), λ w. (among_iff zs p).1 ((h.exactly p).1 w)) in
    shared-map (is_among xs) (is_among ys) (range_with_len 0 n) ∙ size-agree _ _ agree (range_with_len 0 n)

-- a participant has a place among those in both exactly where it has one in each
pub both-place : (xs ys zs : List ℕ) → AreInBoth xs ys zs → (p : ℕ) (in_first in_second in_both : Option ℕ)
    → IsPlaceOf nat_eq xs p in_first → IsPlaceOf nat_eq ys p in_second → IsPlaceOf nat_eq zs p in_both
    → IsSome in_both ↔ (IsSome in_first × IsSome in_second)
both-place xs ys zs h p in_first in_second in_both a b c =
    let first = place_iff xs p in_first a in
    let second = place_iff ys p in_second b in
    let both = place_iff zs p in_both c in (
      (λ e. let w = (h.exactly p).0 (both.0 e) in (first.1 w.0, second.1 w.1)),
      (λ e. both.1 ((h.exactly p).1 (first.0 e.0, second.0 e.1))),
    )

-- one of the signers isn't among any f participants, members or not
pub one-outside : (n f : ℕ) (signers : List ℕ) → LeavesOneOutside n f signers → (known : List ℕ) → length known ≤ f
    → (p : ℕ) × Contains signers p × (¬ Contains known p)
one-outside n f signers h known few =
    let all = length-passing (is_among known) n in
    let r = h.of_positions (members_among n known) all (omega (arith, size-members_among-le n known)) in
    (r.0, r.1, outside_not_listed n known r.0 r.2)
