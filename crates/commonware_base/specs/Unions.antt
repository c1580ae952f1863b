-- A message with its namespace, as one list of bytes.
use Rattle.std.specs.Prelude.{◌++◌, ℕ, List, length}
use Rattle.commonware_base.specs.Varint.{varint}

-- the length of the namespace as a varint, the namespace, and the message
abbrev pub union_text : List ℕ → List ℕ → List ℕ
union_text namespace msg = varint (length namespace) ++ namespace ++ msg
