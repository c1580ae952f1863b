-- Signers as subsets of positions: what two of them share, and what is outside.
use Rattle.std.proofs.Common.{◌≡◌, ℕ, ◌+◌, ◌-◌, ◌*◌, ◌<◌, ◌≤◌, Bool, List, length, get_or}
use Rattle.std.proofs.Common.{◌⊎◌, sym, ◌∙◌, arith, inl, inr}
use Rattle.std.proofs.Math.Nat.{mul-le-mul_right}
use Rattle.std.specs.Prelude.{Err, IfOk, Ok, Result}
use Rattle.std.specs.List.{Contains}
use Rattle.std.specs.Ordering.{nat_cmp}
use Rattle.std.proofs.lemmas.List.Elements.{All-from_get_or, All-contains, Contains-get_or}
use Rattle.commonware_faults.specs.Subsets.{size, IsOutside, Overlap, Greatest, Greatest3, Greatest5}
use Rattle.commonware_faults.specs.laws.SubsetLaws.{Overlap-at_ends, beyond}
use Rattle.commonware_faults.specs.laws.ToleranceLaws.{quorums_share, Greatest-fit, Greatest-three}
use Rattle.commonware_faults.specs.laws.SubsetSizeLaws.{length-passing}
use Rattle.commonware_ordered.specs.Strict.{IsStrict}
use Rattle.commonware_ordered.specs.Voters.{members_among}
use Rattle.commonware_ordered.specs.laws.PositionLaws.{size-members_among-all}
use Rattle.committee_certificates.specs.laws.SignerLaws.{Contains-from_subset, outside_not_listed, shared-subsets}
use Rattle.committee_certificates.specs.Signers.{AreInBoth, AreMembers, LeavesOneOutside, OutnumberFaults}

-- Two strictly increasing lists of at least n - f members, and those in both.
pub record AreQuorumsAndBoth (n f : ℕ) (xs ys zs : List ℕ) : Type 0 where
  pub first_strict : IsStrict nat_cmp xs
  pub second_strict : IsStrict nat_cmp ys
  pub first_members : AreMembers n xs
  pub second_members : AreMembers n ys
  pub first_enough : n - f ≤ length xs
  pub second_enough : n - f ≤ length ys
  pub both : AreInBoth xs ys zs

module _ {n f : ℕ} {xs ys zs : List ℕ} (c : AreQuorumsAndBoth n f xs ys zs) where
  -- those in both are members
  members : AreMembers n zs
  members = All-from_get_or (λ p. p < n) zs 0 (λ k h.
      let in_both = (c.both.exactly (get_or zs k 0)).0 (Contains-get_or zs k 0 h) in
      All-contains (λ p. p < n) xs _ c.first_members in_both.0)

  -- at least n - 2f are in both, whatever f is
  pub both-many : n ≤ 2 * f + length zs
  both-many =
      let size_xs = size-members_among-all n xs c.first_strict c.first_members in
      let size_ys = size-members_among-all n ys c.second_strict c.second_members in
      let size_zs = size-members_among-all n zs c.both.strict members in
      let share =
      (quorums_share n f).shares (members_among n xs) (members_among n ys) (length-passing _ n) (length-passing _ n)
      (omega (arith, size_xs, c.first_enough)) (omega (arith, size_ys, c.second_enough)) in
      omega (arith, shared-subsets n xs ys zs c.both, size_zs, share)

  -- more members than a subset is_among include one outside it
  outside : (faulty : List Bool) → length faulty ≡ n → size faulty < length zs
      → (p : ℕ) × Contains zs p × IsOutside faulty p
  outside faulty l h =
      let all = size-members_among-all n zs c.both.strict members in
      let more : size faulty < size (members_among n zs) = omega (arith, h, all) in
      let r = beyond (members_among n zs) faulty (length-passing _ n ∙ sym l) more in
      (r.0, Contains-from_subset n zs r.0 r.1, r.2)

  -- more than f members leave one outside any f
  leaves_one : f < length zs → LeavesOneOutside n f zs
  leaves_one h = record {
    of_positions = λ faulty l u. outside faulty l (omega (arith, h, u));
    of_participants = λ faulty strict below u.
        let all = size-members_among-all n faulty strict below in
        let fewer : size (members_among n faulty) < length zs = omega (arith, all, h, u) in
        let r = outside (members_among n faulty) (length-passing _ n) fewer in
        (r.0, r.1, outside_not_listed n faulty r.0 r.2);
  }

  -- where 3f + 1 is up to n, one of them is outside any f
  pub both-leave : 3 * f + 1 ≤ n → LeavesOneOutside n f zs
  both-leave h = leaves_one (omega (arith, both-many))

-- as many as any two subsets of n - f share
pub overlap-many : (n f k many : ℕ) → n ≤ 2 * f + many → Overlap n (n - f) (n - f) k → k ≤ many
overlap-many n f k many h o = omega (arith, h, Overlap-at_ends n (n - f) (n - f) k (omega arith) (omega arith) o)

-- where f is the greatest at three or at five, 3f + 1 is up to n
pub thirds-fit : (n f : ℕ) → Greatest3 n f ⊎ Greatest5 n f → 3 * f + 1 ≤ n
thirds-fit n f (inl h) = (Greatest-fit 3 n f (omega arith) (Greatest-three n f h)).fits
thirds-fit n f (inr h) = omega (arith, (Greatest-fit 5 n f (omega arith) h).fits)

-- and where it is at any k of 3 and more
resilient-fit : (k n f : ℕ) → 3 ≤ k → Greatest k n f → 3 * f + 1 ≤ n
resilient-fit k n f three h = omega (arith, (Greatest-fit k n f (omega (arith, three)) h).fits, mul-le-mul_right f three)

-- so what a call returns outnumbers the faults
pub outnumber : {E : Type 0} (k n f : ℕ) → 3 ≤ k → Greatest k n f → (result : Result (List ℕ) E)
    → IfOk result (λ both. n ≤ 2 * f + length both) → (3 * f + 1 ≤ n → IfOk result (LeavesOneOutside n f))
    → IfOk result (OutnumberFaults k n f)
outnumber k n f three h (Ok both) many leaves = record {
  many = overlap-many n f _ (length both) many h.overlaps;
  leaves = leaves (resilient-fit k n f three h);
}
outnumber k n f three h (Err error) many leaves = tt
