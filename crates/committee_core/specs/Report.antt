-- The text of the report.
use Rattle.std.specs.Prelude.{◌≡◌, ℕ, ◌+◌, ◌-◌, List, [], ◌∷◌, ◌++◌, length, codes}
use Rattle.std.specs.Fmt.{decimal}
use Rattle.commonware_sequence.specs.Hex.{hex_text}
use Rattle.committee_core.specs.Numbers.{AreNumbers}

-- a line feed
abbrev pub line_end : List ℕ
line_end = 10 ∷ []

-- the line that says how many members there are
unfoldable pub members_line : ℕ → List ℕ
members_line n = codes "members " ++ (decimal n ++ line_end)

-- the line of the member at a position
unfoldable pub member_line : ℕ → List ℕ → List ℕ
member_line position item = decimal position ++ (codes " " ++ (hex_text item ++ line_end))

-- a line for each member, from a position on
abbrev pub member_lines : ℕ → List (List ℕ) → List ℕ
member_lines position [] = []
member_lines position (item ∷ items) = member_line position item ++ member_lines (position + 1) items

-- the line of the first model: how many may be faulty, and how many are a quorum
unfoldable pub n3f1_line : ℕ → ℕ → List ℕ
n3f1_line faults quorum = codes "N3f1 faults " ++ (decimal faults ++ (codes " quorum " ++ (decimal quorum ++ line_end)))

-- the line of the second model, with its smaller quorum m
unfoldable pub n5f1_line : ℕ → ℕ → ℕ → List ℕ
n5f1_line faults quorum m =
    codes "N5f1 faults "
    ++ (decimal faults ++ (codes " quorum " ++ (decimal quorum ++ (codes " m-quorum " ++ (decimal m ++ line_end)))))

-- the report on the members, with the numbers of the fault models
abbrev pub report_with : List (List ℕ) → ℕ → ℕ → ℕ → List ℕ
report_with items f3 f5 m =
    let n = length items in
    members_line n ++ member_lines 0 items ++ n3f1_line f3 (n - f3) ++ n5f1_line f5 (n - f5) m

-- the text is the report on the members: the one with their numbers, so there is one such text
abbrev pub IsMembersReport : List (List ℕ) → List ℕ → Type 0
IsMembersReport items text =
    (f3 : ℕ) × (f5 : ℕ) × (m : ℕ) × AreNumbers (length items) f3 f5 m × (text ≡ report_with items f3 f5 m)
