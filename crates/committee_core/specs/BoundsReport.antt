-- The text of the report on the bounds of the fault models.
use Rattle.std.specs.Prelude.{◌≡◌, ℕ, ◌+◌, ◌-◌, ◌*◌, List, ◌++◌, codes}
use Rattle.std.specs.Fmt.{decimal}
use Rattle.committee_core.specs.Numbers.{AreNumbers}
use Rattle.committee_core.specs.Refutations.{ends}
use Rattle.committee_core.specs.Report.{line_end, n3f1_line, n5f1_line}
use Rattle.committee_core.specs.declared.ranges.Refutation.{Refutation}

-- the line that says how many members the report is on
unfoldable pub n_line : ℕ → List ℕ
n_line n = codes "n " ++ (decimal n ++ line_end)

-- the line of a number that is refuted: the two subsets, how many places they share, and how many are needed
unfoldable pub refuted_line : List ℕ → ℕ → Refutation → ℕ → List ℕ
refuted_line label number r needed =
    label ++ (codes " "
    ++ (decimal number
    ++ (codes " first "
    ++ (decimal r.first.start
    ++ (codes ".."
    ++ (decimal r.first.end
    ++ (codes " second "
    ++ (decimal r.second.start
    ++ (codes ".."
    ++ (decimal r.second.end
    ++ (codes " shared " ++ (decimal r.shared ++ (codes " needed " ++ (decimal needed ++ line_end))))))))))))))

-- f is too large for the first model: of n positions the first and the last n - f share less than f + 1
abbrev pub n3f1_refuted_line : ℕ → ℕ → List ℕ
n3f1_refuted_line n f = refuted_line (codes "N3f1 refuted") f (ends n (n - f) (n - f)) (f + 1)

-- f is too large for the second model: of n positions the first and the last n - f share less than 3f + 1
abbrev pub n5f1_refuted_line : ℕ → ℕ → List ℕ
n5f1_refuted_line n f = refuted_line (codes "N5f1 refuted") f (ends n (n - f) (n - f)) (3 * f + 1)

-- m is too small: of n positions the first n - f and the last m share less than f + 1
abbrev pub m_refuted_line : ℕ → ℕ → ℕ → List ℕ
m_refuted_line n f m = refuted_line (codes "N5f1 m-refuted") m (ends n (n - f) m) (f + 1)

-- the report on n members with these numbers: why the next greater f and the next smaller m don't hold
abbrev pub bounds_with : ℕ → ℕ → ℕ → ℕ → List ℕ
bounds_with n f3 f5 m =
    n_line n ++ n3f1_line f3 (n - f3) ++ n3f1_refuted_line n (f3 + 1) ++ n5f1_line f5 (n - f5) m
    ++ n5f1_refuted_line n (f5 + 1) ++ m_refuted_line n f5 (m - 1)

-- the text is the report on the bounds for n members: the one with their numbers, so there is one such text
abbrev pub IsBoundsReport : ℕ → List ℕ → Type 0
IsBoundsReport n text = (f3 : ℕ) × (f5 : ℕ) × (m : ℕ) × AreNumbers n f3 f5 m × (text ≡ bounds_with n f3 f5 m)
