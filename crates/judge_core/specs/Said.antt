-- What is said by way of a room.
use Rattle.std.specs.Prelude.{◌≡◌, ℕ, List, [], ◌∷◌, ◌++◌, Option}
use Rattle.std.specs.Fmt.{decimal}
use Rattle.std.specs.Io.KnownBytes.{Appends}
use Rattle.std.specs.List.{flat_map}
use Rattle.commonware_utils.specs.Sequence.{hex_text}
use Rattle.judge_core.specs.declared.report.Part.{Part}
use Rattle.judge_core.specs.declared.report.Part.TheVariants.{Hex, Number, Text}

-- What was in the room, and then the bytes, are what was written, and then what is in the room.
abbrev pub Says : Option (List ℕ) → Option (List ℕ) → List ℕ → List ℕ → List ℕ → Type 0
Says out_old out_new room_old room_new bytes =
    (written : List ℕ) × (room_old ++ bytes ≡ written ++ room_new) × Appends out_old out_new written

-- the bytes of a part
abbrev pub part_text : Part → List ℕ
part_text (Text text) = text.now
part_text (Number n) = decimal n
part_text (Hex bytes) = hex_text bytes.now

-- the bytes of parts, one after another
abbrev pub parts_text : List Part → List ℕ
parts_text = flat_map part_text

-- the bytes of a line of these parts, with its line feed
abbrev pub line_text : List Part → List ℕ
line_text [] = 10 ∷ []
line_text (part ∷ rest) = part_text part ++ line_text rest
