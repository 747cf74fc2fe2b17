-- The versions of the format of images.
use Rattle.std.specs.Prelude.{ℕ, ◌==◌, if◌then◌else◌, Option, Some, None}
use Rattle.bpf.specs.declared.version.Version.{Version}
use Rattle.bpf.specs.declared.version.Version.TheVariants.{One, Two}

-- the number of a version
abbrev pub version_number : Version → ℕ
version_number One = 1
version_number Two = 2

-- the version of a number, if it is the number of one
abbrev pub version_of : ℕ → Option Version
version_of number =
    if number == 1 then Some One
    else (if number == 2 then Some Two
    else None)
