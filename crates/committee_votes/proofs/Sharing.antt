-- What two lists of signers share, each of which has a least number of signers of its own.
use Rattle.std.proofs.Common.{◌≡◌, ℕ, ◌+◌, ◌-◌, ◌*◌, ◌<◌, ◌≤◌, Bool, List, length, get_or, sym, ◌∙◌, arith}
use Rattle.std.specs.List.{Contains}
use Rattle.std.specs.Ordering.{nat_cmp}
use Rattle.std.proofs.lemmas.List.Elements.{All-from_get_or, All-contains, Contains-get_or}
use Rattle.commonware_faults.specs.Subsets.{size, IsOutside}
use Rattle.commonware_faults.specs.laws.SubsetLaws.{beyond}
use Rattle.commonware_faults.specs.laws.SubsetSizeLaws.{length-passing, size-le-shared}
use Rattle.commonware_ordered.specs.Strict.{IsStrict}
use Rattle.commonware_ordered.specs.Voters.{is_among, members_among}
use Rattle.commonware_ordered.specs.laws.PositionLaws.{size-members_among-all}
use Rattle.committee_certificates.specs.laws.SignerLaws.{Contains-from_subset, outside_not_listed, shared-subsets}
use Rattle.committee_certificates.specs.Signers.{AreInBoth, AreMembers, LeavesOneOutside}
use Rattle.committee_votes.specs.Shares.{AreShared}

-- two strictly increasing lists of members, and those in both
pub record AreListsAndBoth (n : ℕ) (xs ys zs : List ℕ) : Type 0 where
  pub first_strict : IsStrict nat_cmp xs
  pub second_strict : IsStrict nat_cmp ys
  pub first_members : AreMembers n xs
  pub second_members : AreMembers n ys
  pub both : AreInBoth xs ys zs

module _ {n : ℕ} {xs ys zs : List ℕ} (c : AreListsAndBoth n xs ys zs) where
  -- those in both are members
  members : AreMembers n zs
  members = All-from_get_or (λ p. p < n) zs 0 (λ k h.
      let in_both = (c.both.exactly (get_or zs k 0)).0 (Contains-get_or zs k 0 h) in
      All-contains (λ p. p < n) xs _ c.first_members in_both.0)

  -- they are as many as two lists that long have to share
  pub lengths-le-both : length xs + length ys ≤ n + length zs
  lengths-le-both =
      let size_xs = size-members_among-all n xs c.first_strict c.first_members in
      let size_ys = size-members_among-all n ys c.second_strict c.second_members in
      let size_zs = size-members_among-all n zs c.both.strict members in
      let positions : length (members_among n xs) ≡ n = length-passing (is_among xs) n in
      let others : length (members_among n ys) ≡ n = length-passing (is_among ys) n in
      let share = size-le-shared (members_among n xs) (members_among n ys) (positions ∙ sym others) in
      omega (arith, shared-subsets n xs ys zs c.both, size_xs, size_ys, size_zs, share, positions)

  -- more members than a subset has include one outside it
  outside : (faulty : List Bool) → length faulty ≡ n → size faulty < length zs
      → (p : ℕ) × Contains zs p × IsOutside faulty p
  outside faulty l h =
      let all = size-members_among-all n zs c.both.strict members in
      let more : size faulty < size (members_among n zs) = omega (arith, h, all) in
      let r = beyond (members_among n zs) faulty (length-passing _ n ∙ sym l) more in
      (r.0, Contains-from_subset n zs r.0 r.1, r.2)

  -- more than f members leave one outside any f
  leaves_one : (f : ℕ) → f < length zs → LeavesOneOutside n f zs
  leaves_one f h = record {
    of_positions = λ faulty l u. outside faulty l (omega (arith, h, u));
    of_participants = λ faulty strict below u.
        let all = size-members_among-all n faulty strict below in
        let fewer : size (members_among n faulty) < length zs = omega (arith, all, h, u) in
        let r = outside (members_among n faulty) (length-passing _ n) fewer in
        (r.0, r.1, outside_not_listed n faulty r.0 r.2);
  }

  -- what lists of at least a and of at least b share
  pub shared_of : (a b : ℕ) → a ≤ length xs → b ≤ length ys → AreShared n a b zs
  shared_of a b h k = record {
    many = omega (arith, lengths-le-both, h, k);
    leaves = λ f more. leaves_one f (omega (arith, lengths-le-both, h, k, more));
  }

-- what quorums of n - f share, from what lists of at least n - f do
pub quorums_share_many : (n f : ℕ) (zs : List ℕ) → AreShared n (n - f) (n - f) zs → n ≤ 2 * f + length zs
quorums_share_many n f zs s = omega (arith, s.many)

-- where 3f + 1 is at most n, they leave one outside any f
pub quorums_leave : (n f : ℕ) (zs : List ℕ) → AreShared n (n - f) (n - f) zs → 3 * f + 1 ≤ n → LeavesOneOutside n f zs
quorums_leave n f zs s fits = s.leaves f (omega (arith, fits))
