-- The numbers of the faults, and what a word that is not decoded means.
use Rattle.std.specs.Prelude.{ℕ, ◌==◌, if◌then◌else◌, Option, Some, None}
use Rattle.hex.specs.declared.error.FromHexError.{FromHexError}
use Rattle.hex.specs.declared.error.FromHexError.TheVariants.{InvalidHexCharacter, OddLength, InvalidStringLength}
use Rattle.hex.specs.declared.error.FromHexError.TheVariants.{OutOfMemory}
use Rattle.spw.specs.declared.faults.LineFault.{LineFault}
use Rattle.spw.specs.declared.faults.LineFault.TheVariants.{NoPort, BadHex, BadMarker, TooLong, Memory}

-- the number of a fault
abbrev pub line_fault_code : LineFault → ℕ
line_fault_code NoPort = 1
line_fault_code BadHex = 2
line_fault_code BadMarker = 3
line_fault_code TooLong = 4
line_fault_code Memory = 5

-- the fault of a number, if it is the number of one
abbrev pub line_fault_of_code : ℕ → Option LineFault
line_fault_of_code code =
    if code == 1 then Some NoPort
    else (if code == 2 then Some BadHex
    else (if code == 3 then Some BadMarker
    else (if code == 4 then Some TooLong
    else (if code == 5 then Some Memory
    else None))))

-- a word that cannot be decoded is bad, unless memory was refused
abbrev pub fault_of_hex : FromHexError → LineFault
fault_of_hex (InvalidHexCharacter c index) = BadHex
fault_of_hex OddLength = BadHex
fault_of_hex InvalidStringLength = BadHex
fault_of_hex OutOfMemory = Memory
