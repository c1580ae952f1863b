-- The names of first faults.
use Rattle.std.specs.Prelude.{List, ◌++◌, ℕ, codes}
use Rattle.std.specs.Fmt.{decimal}
use Rattle.commonware_utils.specs.CodecError.{Error, EndOfBuffer, Invalid, InvalidLength, InvalidVarint, Memory}

-- a fault by its name
unfoldable pub error_text : Error → List ℕ
error_text EndOfBuffer = codes "EndOfBuffer"
error_text InvalidVarint = codes "InvalidVarint"
error_text (InvalidLength n) = codes "InvalidLength " ++ decimal n
error_text (Invalid what rule) = codes "Invalid " ++ (what.now ++ (codes ": " ++ rule.now))
error_text Memory = codes "Memory"
