-- The lines of the order of checks before the program.
use Rattle.std.specs.Prelude.{◌≡◌, Option, Some, None, option_map}
use Rattle.rmap.specs.Checks.{HasPlace, header_check}
use Rattle.rmap.specs.Command.{CommandValue, command_of, discard_of}
use Rattle.rmap.specs.Windows.{WindowsValue}
use Rattle.rmap.specs.declared.discard.Discard.{Discard}
use Rattle.rmap.specs.declared.discard.Discard.TheVariants as discards
use Rattle.rmap.specs.declared.header_faults.HeaderFault.{HeaderFault}
use Rattle.rmap.specs.declared.header_faults.HeaderFault.TheVariants as faults
use Rattle.rmap.specs.declared.places.Place.{Place}
use Rattle.spw.specs.Cargo.{Cargo}
use Rattle.job_suite.specs.declared.checks.Check.{Check}
use Rattle.job_suite.specs.declared.checks.Check.TheVariants as checks

-- the line of a reason to discard
abbrev pub check_of_discard : Discard → Check
check_of_discard discards.Short = checks.Short
check_of_discard discards.Protocol = checks.Protocol
check_of_discard discards.Reply = checks.ReplyType
check_of_discard discards.HeaderCrc = checks.HeaderCrc

-- the line of a fault of a header
abbrev pub check_of_fault : HeaderFault → Check
check_of_fault (faults.UnusedCode instruction) = checks.UnusedCode
check_of_fault (faults.OtherNode target node) = checks.OtherTarget
check_of_fault (faults.WrongRmwLength count) = checks.RmwLength
check_of_fault (faults.TooManyToVerify count) = checks.VerifyBuffer
check_of_fault (faults.TooManyBytes count) = checks.Length
check_of_fault (faults.NoPlace miss) = checks.Place

-- the line is the first that holds of the header of the command, at a node with these windows
abbrev pub IsStoppedBy : WindowsValue → CommandValue → Check → Type 0
IsStoppedBy w c check = option_map check_of_fault (header_check c w) ≡ Some check

-- the line that holds first, if the packet is discarded for this reason, or is a command
abbrev pub check_after : Option Discard → WindowsValue → Cargo → Option Check
check_after (Some reason) w p = Some (check_of_discard reason)
check_after None w p = option_map check_of_fault (header_check (command_of p) w)

-- the first line of the order of checks before the program that holds of the packet at a node with these windows
abbrev pub first_check : WindowsValue → Cargo → Option Check
first_check w p = check_after (discard_of p.bytes) w p

-- the first line that holds is this one
abbrev pub Meets : WindowsValue → Cargo → Check → Type 0
Meets w p check = first_check w p ≡ Some check

-- the packet is a command, no line before the program holds, and its bytes have that place
abbrev pub PassesHeader : WindowsValue → Cargo → Place → Type 0
PassesHeader w p place = (discard_of p.bytes ≡ None) × HasPlace (command_of p) w place
