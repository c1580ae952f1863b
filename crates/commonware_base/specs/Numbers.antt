-- A number that is written as a varint, alone or in a range.
use Rattle.std.specs.Prelude.{◌≡◌, ℕ, List}
use Rattle.commonware_base.specs.Fault.{Fault, InvalidLength}
use Rattle.commonware_base.specs.Range.{Bounds}
use Rattle.commonware_base.specs.Lists.{BeginsOutOfRange}
use Rattle.commonware_base.specs.Varint.{varint_fault}

-- the fault of an input that should begin with a number in a range
pub data NumberFault (range : Bounds ℕ) (text : List ℕ) (fault : Fault) : Type 0 where
  invalid_varint : varint_fault text fault → NumberFault range text fault
  out_of_range : (n : ℕ) → fault ≡ InvalidLength n → BeginsOutOfRange range text n → NumberFault range text fault
