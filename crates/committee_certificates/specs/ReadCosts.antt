-- How many comparisons of signers the decoding of a certificate makes at most: there were `old`, and then there are
-- `new`.
use Rattle.std.specs.Prelude.{◌≡◌, ◌⊎◌, ◌++◌, ℕ, List}
use Rattle.std.specs.Ordering.{nat_cmp}
use Rattle.commonware_base.specs.Bytes.{byte}
use Rattle.commonware_base.specs.Lists.{list_enc, IsWritableList}
use Rattle.commonware_base.specs.Text.{IsByte}
use Rattle.commonware_base.specs.Varint.{varint}
use Rattle.commonware_ordered.specs.Costs.{ComparesList, StatesLength}

-- The input begins with a value, and these bytes come after it.
pub record HasAfterValue (text after : List ℕ) : Type 0 where
  pub value : List ℕ
  pub writable : IsWritableList IsByte value
  pub begins : text ≡ list_enc byte value ++ after

-- The signers that the input has after its value were compared, no further than the first that isn't less than the
-- next.
pub record ComparesSigners (text : List ℕ) (old new : ℕ) : Type 0 where
  pub after : List ℕ
  pub begins : HasAfterValue text after
  pub signers : ComparesList varint nat_cmp after old new

-- what decoding a certificate compares at most: no signers, or those that the input has after its value
abbrev pub IsCertificateReadCost : List ℕ → ℕ → ℕ → Type 0
IsCertificateReadCost text old new = (new ≡ old) ⊎ ComparesSigners text old new

-- the input states how many signers there are: after its value comes the varint of n
abbrev pub StatesSigners : List ℕ → ℕ → Type 0
StatesSigners text n = (after : List ℕ) × HasAfterValue text after × StatesLength after n
