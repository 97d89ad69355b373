-- The numbers of versions in calls of C, which are those of `enum cdpatch_content`.
use Rattle.std.specs.Prelude.{ℕ, ◌==◌, Option, Some, None, if◌then◌else◌}
use Rattle.cd_script.specs.declared.version.Version.{Version}
use Rattle.cd_script.specs.declared.version.Version.TheVariants.{One, Two}

-- the number of a version
abbrev pub version_number : Version → ℕ
version_number One = 1
version_number Two = 2

-- the version with this number, if there is one
abbrev pub numbered_version : ℕ → Option Version
numbered_version n =
    if n == 1 then Some One
    else if n == 2 then Some Two
    else None
