-- Versions as numbers, so that a program compares them with what it was compiled for.
use Rattle.std.specs.Prelude.{ℕ, ◌+◌, ◌*◌}

-- the version `major.minor.patch` as one number, where the minor version and the patch are below 1000
abbrev pub version_number : ℕ → ℕ → ℕ → ℕ
version_number major minor patch = 1000000 * major + 1000 * minor + patch
