-- The number of a discard in outputs, and the byte of a status in a reply (ECSS-E-ST-50-52C, error and status codes).
use Rattle.std.specs.Prelude.{ℕ, ◌==◌, if◌then◌else◌, Option, Some, None}
use Rattle.rmap.specs.declared.discard.Discard.{Discard}
use Rattle.rmap.specs.declared.discard.Discard.TheVariants.{Short, Protocol, Reply, HeaderCrc}
use Rattle.rmap.specs.declared.status.Status.{Status}
use Rattle.rmap.specs.declared.status.Status.TheVariants.{Success, GeneralError, UnusedCode, InvalidKey}
use Rattle.rmap.specs.declared.status.Status.TheVariants.{InvalidDataCrc, EarlyEndOfPacket, TooMuchData}
use Rattle.rmap.specs.declared.status.Status.TheVariants.{ErrorEndOfPacket, VerifyBufferOverrun, NotAuthorised}
use Rattle.rmap.specs.declared.status.Status.TheVariants.{RmwDataLength, InvalidLogicalAddress}

-- the number of a reason to discard
abbrev pub discard_code : Discard → ℕ
discard_code Short = 1
discard_code Protocol = 2
discard_code Reply = 3
discard_code HeaderCrc = 4

-- the reason of a number, if it is the number of one
abbrev pub discard_of_code : ℕ → Option Discard
discard_of_code code =
    if code == 1 then Some Short
    else (if code == 2 then Some Protocol
    else (if code == 3 then Some Reply
    else (if code == 4 then Some HeaderCrc
    else None)))

-- the byte of a status (ECSS-E-ST-50-52C, error and status codes)
abbrev pub status_code : Status → ℕ
status_code Success = 0
status_code GeneralError = 1
status_code UnusedCode = 2
status_code InvalidKey = 3
status_code InvalidDataCrc = 4
status_code EarlyEndOfPacket = 5
status_code TooMuchData = 6
status_code ErrorEndOfPacket = 7
status_code VerifyBufferOverrun = 9
status_code NotAuthorised = 10
status_code RmwDataLength = 11
status_code InvalidLogicalAddress = 12

-- the status of a byte, if one has it
abbrev pub status_of_code : ℕ → Option Status
status_of_code code =
    if code == 0 then Some Success
    else (if code == 1 then Some GeneralError
    else (if code == 2 then Some UnusedCode
    else (if code == 3 then Some InvalidKey
    else (if code == 4 then Some InvalidDataCrc
    else (if code == 5 then Some EarlyEndOfPacket
    else (if code == 6 then Some TooMuchData
    else (if code == 7 then Some ErrorEndOfPacket
    else (if code == 9 then Some VerifyBufferOverrun
    else (if code == 10 then Some NotAuthorised
    else (if code == 11 then Some RmwDataLength
    else (if code == 12 then Some InvalidLogicalAddress
    else None)))))))))))
