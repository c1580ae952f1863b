-- What is made of the value whose encoding an input is, is built of the input.
use Rattle.std.proofs.Common.{List, ℕ}
use Rattle.std.specs.Prelude.{Err, Ok, Result}
use Rattle.judge_verdicts.specs.Builds.{IsBuiltFrom}
use Rattle.judge_verdicts.specs.Readings.{Reading}
use Rattle.judge_verdicts.specs.Whole.{IsWhole}
use Rattle.judge_verdicts.specs.declared.sets.NotBuilt.{NotBuilt}
use Rattle.judge_verdicts.specs.declared.sets.NotBuilt.TheVariants.{DuplicateKey, DuplicateValue, Unread}
use Rattle.judge_verdicts.specs.declared.whole.Misread.{Misread}

-- nothing that was made says that the input isn't read
pub made_built : (r : Reading) (Made : r.Value → Result (List ℕ) NotBuilt → Type 0) (text : List ℕ) (value : r.Value) → IsWhole r text value → ((what : Misread) → Made value (Err (Unread what)) → ⊥) → (built : Result (List ℕ) NotBuilt) → Made value built → IsBuiltFrom r Made text built
made_built r Made text value whole read (Ok bytes) h = (value, whole, h)
made_built r Made text value whole read (Err DuplicateKey) h = (value, whole, h)
made_built r Made text value whole read (Err DuplicateValue) h = (value, whole, h)
made_built r Made text value whole read (Err (Unread what)) h = absurd (read what h)
