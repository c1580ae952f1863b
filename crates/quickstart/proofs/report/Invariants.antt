use Rattle.std.proofs.Common.{◌≡◌, ◌++◌, length, drop}
use Rattle.std.specs.String.{string_bytes}
use Rattle.quickstart.specs.Report.{members_line, member_lines}
use Rattle.quickstart.proofs.report.Given as goal

-- the lines so far, and then those of the members that are left
abbrev pub invariant-loop-position : goal.invariant-loop-position
invariant-loop-position l =
    string_bytes l.text ++ member_lines l.position (drop l.position l.members) ≡ members_line (length l.members) ++ member_lines 0 l.members
