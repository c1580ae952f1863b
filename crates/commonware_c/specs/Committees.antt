-- What the C functions return for the encoding of a committee: numbers, and where its members are.
use Rattle.std.specs.Prelude.{◌≡◌, ℕ, ◌+◌, ◌*◌, ◌^◌, ◌<◌, ◌≤◌, List, Some, length, nat_eq}
use Rattle.std.specs.Cmp.Lexicographic.{pointwise}
use Rattle.std.specs.declared.ops.Bound.TheVariants.{Included}
use Rattle.commonware_base.specs.Fault.{Fault}
use Rattle.commonware_base.specs.Lists.{list_enc}
use Rattle.commonware_base.specs.Range.{Bounds}
use Rattle.commonware_ordered.specs.Dedup.{IsDedup}
use Rattle.commonware_sequence.specs.FixedBytes.{bytes_cmp, own_bytes}
use Rattle.commonware_views.specs.Lists.{StandBy}
use Rattle.commonware_views.specs.Sets.{IsKeySetOf, key_set_fault}

-- the lengths from least to most
abbrev pub between : ℕ → ℕ → Bounds ℕ
between least most = record { lower = Some least; upper = Included most }

-- s is the encoding of a set of least to most members, and then rest
abbrev pub IsCommitteeOf : ℕ → ℕ → List ℕ → List (List ℕ) → List ℕ → Type 0
IsCommitteeOf least most = IsKeySetOf 32 (between least most)

-- the first fault of s, where s begins with no committee of least to most members
abbrev pub committee_fault : ℕ → ℕ → List ℕ → Fault → Type 0
committee_fault least most = key_set_fault 32 (between least most)

-- each member is the 32 bytes of s at its index, counted in members from start on
abbrev pub StandAt : List ℕ → ℕ → List (List ℕ) → Type 0
StandAt = StandBy 32

-- the set is these keys of `size` bytes in order, of equal ones one; it has `count` of them, no more than the keys and
-- fewer than 2 ^ 32, so that it can be written, and `bytes` bytes
pub record IsSetOf (size : ℕ) (keys set : List (List ℕ)) (count bytes : ℕ) : Type 0 where
  pub dedup : IsDedup (pointwise nat_eq) bytes_cmp keys set
  pub count_is : count ≡ length set
  pub count_most : count ≤ length keys
  pub count_short : count < 2 ^ 32
  pub bytes_is : bytes ≡ length (list_enc own_bytes set)
  pub bytes_most : bytes ≤ 5 + size * count
