-- What the program writes of its input, and why it refuses it.
use Rattle.std.specs.Prelude.{◌≡◌, ℕ, ◌+◌, ◌-◌, ◌<◌, List, [], ◌∷◌, ◌++◌, Some, length, codes}
use Rattle.std.specs.Fmt.{decimal}
use Rattle.std.specs.Ordering.{nat_cmp}
use Rattle.std.specs.declared.ops.Bound.TheVariants.{Included}
use Rattle.commonware_utils.specs.Codec.{Accepts, Bounds, Fault, IsAllowedList, IsByte, Refuses}
use Rattle.commonware_utils.specs.Codec.{byte, byte_fault, list_enc}
use Rattle.commonware_utils.specs.Faults.{Greatest3, Greatest5, LeastM}
use Rattle.commonware_utils.specs.Ordered.{IsWritableSet, SetFault}
use Rattle.quickstart.specs.declared.Refusal.{Refusal}
use Rattle.quickstart.specs.declared.Refusal.TheVariants.{LeftOver, NoSet}

-- a set has 1 to 256 members
abbrev pub range : Bounds ℕ
range = record { lower = Some 1; upper = Included 256 }

-- the input is the encoding of a set of bytes, and then the rest
abbrev pub IsSet : List ℕ → List ℕ → List ℕ → Type 0
IsSet = Accepts (list_enc byte) (IsWritableSet IsByte nat_cmp) (IsAllowedList range (λ _. Unit {0}))

-- the first fault of an input that begins with no set
abbrev pub set_fault : List ℕ → Fault → Type 0
set_fault = SetFault byte IsByte nat_cmp (λ _. Unit {0}) byte_fault range

-- The input is refused by its first fault, or by how many bytes follow its set. Of an allocation failure nothing is
-- said.
abbrev pub IsRefusal : List ℕ → Refusal → Type 0
IsRefusal input (NoSet error) = Refuses (set_fault input) ⊥ error
IsRefusal input (LeftOver count) =
    (members : List ℕ) × (rest : List ℕ) × IsSet input members rest × (length rest ≡ count) × (0 < count)

-- a line feed
abbrev pub line_end : List ℕ
line_end = 10 ∷ []

-- the line that says how many members there are
unfoldable pub members_line : ℕ → List ℕ
members_line n = codes "members " ++ (decimal n ++ line_end)

-- the line of the member at a position
unfoldable pub member_line : ℕ → ℕ → List ℕ
member_line position member = decimal position ++ (codes " " ++ (decimal member ++ line_end))

-- a line for each member, from a position on
abbrev pub member_lines : ℕ → List ℕ → List ℕ
member_lines position [] = []
member_lines position (member ∷ members) = member_line position member ++ member_lines (position + 1) members

-- the line of the first fault model: how many may be faulty, and how many are a quorum
unfoldable pub n3f1_line : ℕ → ℕ → List ℕ
n3f1_line faults quorum = codes "N3f1 faults " ++ (decimal faults ++ (codes " quorum " ++ (decimal quorum ++ line_end)))

-- the line of the second fault model, with its smaller quorum m
unfoldable pub n5f1_line : ℕ → ℕ → ℕ → List ℕ
n5f1_line faults quorum m =
    codes "N5f1 faults "
    ++ (decimal faults ++ (codes " quorum " ++ (decimal quorum ++ (codes " m-quorum " ++ (decimal m ++ line_end)))))

-- The text has each member behind its position, and the numbers of both models: the greatest f by counting, n - f, and
-- the least m.
abbrev pub IsReport : List ℕ → List ℕ → Type 0
IsReport members text =
    let n = length members in
    (f3 : ℕ) × (f5 : ℕ) × (m : ℕ) × Greatest3 n f3 × Greatest5 n f5 × LeastM n f5 m
    × (text ≡ members_line n ++ member_lines 0 members ++ n3f1_line f3 (n - f3) ++ n5f1_line f5 (n - f5) m)
