-- What is built and looked up, by the type's name: items are numbers and lists, in the order of numbers, and lists by
-- the first item in which they differ.
use Rattle.std.specs.Prelude.{ℕ, Bool, List, Result, nat_eq}
use Rattle.std.specs.Cmp.Lexicographic.{pointwise, slice_cmp}
use Rattle.std.specs.Ordering.{nat_cmp}
use Rattle.std.specs.declared.cmp.Ordering.{Ordering}
use Rattle.judge_questions.specs.Limits.{full}
use Rattle.judge_questions.specs.declared.collection.Collection.{Collection}
use Rattle.judge_questions.specs.declared.collection.Collection.TheVariants as collections
use Rattle.judge_questions.specs.declared.collection.Collection.TheVariants.{MapU8U8, MapU8SetU8, MapMemberU8}
use Rattle.judge_questions.specs.declared.collection.Collection.TheVariants.{MapMemberU64, BiMapU8U8}
use Rattle.judge_questions.specs.declared.collection.Collection.TheVariants.{BiMapMemberMember}
use Rattle.judge_questions.specs.declared.collection.SetForm.{SetForm}
use Rattle.judge_questions.specs.declared.collection.SetForm.TheVariants.{U8, U32, Participant, Member, Bytes20}
use Rattle.judge_questions.specs.declared.collection.SetForm.TheVariants.{Bytes33, Bytes48, Bytes96, SetU8}
use Rattle.judge_questions.specs.declared.collection.SetForm.TheVariants.{NonEmptyU8}
use Rattle.judge_verdicts.specs.Builds.{IsBiMapBuilt, IsMapBuilt, IsSetBuilt}
use Rattle.judge_verdicts.specs.Columns.{columns_of}
use Rattle.judge_verdicts.specs.Places.{IsFound, MayFailToAllocateToFind}
use Rattle.judge_verdicts.specs.Readings.{Reading, a_byte, a_member, a_u64, a_varint, a_word, bytes_of_size, list_of}
use Rattle.judge_verdicts.specs.Readings.{non_empty_of, set_of}
use Rattle.judge_verdicts.specs.declared.places.Found.{Found}
use Rattle.judge_verdicts.specs.declared.sets.NotBuilt.{NotBuilt}

-- items that have an order
pub record Key : Type 1 where
  pub reading : Reading
  pub eq : reading.Value → reading.Value → Bool
  pub cmp : reading.Value → reading.Value → Ordering

-- bytes of one length, in the order of the first byte that differs
abbrev pub key_of_size : ℕ → Key
key_of_size size = record { reading = bytes_of_size size; eq = pointwise nat_eq; cmp = slice_cmp nat_cmp }

-- the items of a set
abbrev pub key_of : SetForm → Key
key_of U8 = record { reading = a_byte; eq = nat_eq; cmp = nat_cmp }
key_of U32 = record { reading = a_word; eq = nat_eq; cmp = nat_cmp }
key_of Participant = record { reading = a_varint; eq = nat_eq; cmp = nat_cmp }
key_of Member = key_of_size 32
key_of Bytes20 = key_of_size 20
key_of Bytes33 = key_of_size 33
key_of Bytes48 = key_of_size 48
key_of Bytes96 = key_of_size 96
key_of SetU8 = record { reading = set_of full a_byte nat_cmp; eq = pointwise nat_eq; cmp = slice_cmp nat_cmp }
key_of NonEmptyU8 = record { reading = non_empty_of full a_byte; eq = pointwise nat_eq; cmp = slice_cmp nat_cmp }

-- what lists the items or the pairs of a collection
abbrev pub lists_of : Collection → Reading
lists_of (collections.Set form) = list_of full (key_of form).reading
lists_of MapU8U8 = columns_of full a_byte a_byte
lists_of MapU8SetU8 = columns_of full a_byte (set_of full a_byte nat_cmp)
lists_of MapMemberU8 = columns_of full a_member a_byte
lists_of MapMemberU64 = columns_of full a_member a_u64
lists_of BiMapU8U8 = columns_of full a_byte a_byte
lists_of BiMapMemberMember = columns_of full a_member a_member

-- what is built of the input as a collection. A bimap has no builder that drops repeats, so equal keys are refused
abbrev pub IsBuilt : Collection → Bool → List ℕ → Result (List ℕ) NotBuilt → Type 0
IsBuilt (collections.Set form) unique text built =
    IsSetBuilt unique full (key_of form).reading (key_of form).eq (key_of form).cmp text built
IsBuilt MapU8U8 unique text built = IsMapBuilt unique full a_byte a_byte nat_eq nat_cmp text built
IsBuilt MapU8SetU8 unique text built =
    IsMapBuilt unique full a_byte (set_of full a_byte nat_cmp) nat_eq nat_cmp text built
IsBuilt MapMemberU8 unique text built =
    IsMapBuilt unique full a_member a_byte (pointwise nat_eq) (slice_cmp nat_cmp) text built
IsBuilt MapMemberU64 unique text built =
    IsMapBuilt unique full a_member a_u64 (pointwise nat_eq) (slice_cmp nat_cmp) text built
IsBuilt BiMapU8U8 unique text built = IsBiMapBuilt full a_byte a_byte nat_eq nat_cmp nat_eq text built
IsBuilt BiMapMemberMember unique text built =
    IsBiMapBuilt full a_member a_member (pointwise nat_eq) (slice_cmp nat_cmp) (pointwise nat_eq) text built

-- the position of the item in the set
abbrev pub IsFoundIn : SetForm → List ℕ → List ℕ → Found → Type 0
IsFoundIn form = IsFound full (key_of form).reading (key_of form).eq (key_of form).cmp

-- an allocation may fail as the set or the item is read
abbrev pub MayFailToAllocateToFindIn : SetForm → List ℕ → List ℕ → Type 0
MayFailToAllocateToFindIn form = MayFailToAllocateToFind full (key_of form).reading (key_of form).cmp
