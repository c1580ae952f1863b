-- An input that is the encoding of one value, and what is wrong with one that isn't.
use Rattle.std.specs.Prelude.{◌≡◌, ◌<◌, ℕ, List, [], Vec, Result, Ok, Err, length}
use Rattle.commonware_utils.specs.Codec.{Accepts, Refuses}
use Rattle.judge_verdicts.specs.Readings.{Reading}
use Rattle.judge_verdicts.specs.declared.whole.Misread.{Misread}
use Rattle.judge_verdicts.specs.declared.whole.Misread.TheVariants.{Fault, LeftOver}

-- the input is the encoding of the value, and nothing follows
abbrev pub IsWhole : (r : Reading) → List ℕ → r.Value → Type 0
IsWhole r text value = Accepts r.enc r.Writable r.Allowed text value []

-- the input has this first fault, which isn't `Memory`; or it begins with a value, and this many bytes follow, at least
-- one
abbrev pub IsMisread : Reading → List ℕ → Misread → Type 0
IsMisread r text (Fault error) = Refuses (r.HasFault text) (Unit {0}) error
IsMisread r text (LeftOver left) =
    (value : r.Value) × (rest : List ℕ) × Accepts r.enc r.Writable r.Allowed text value rest × (length rest ≡ left)
    × (0 < left)

-- the bytes that a vector holds, where there is one
abbrev pub items_of : {A E : Type 0} → Result (Vec ℕ A) E → Result (List ℕ) E
items_of (Ok bytes) = Ok bytes.items
items_of (Err e) = Err e
