-- The checks of a command, in the order in which they decide. The standard names the errors
-- (ECSS-E-ST-50-52C, write action, read action, read-modify-write action, error and status codes);
-- their order is a choice of this target.
use Rattle.std.specs.Prelude.{◌≡◌, ℕ, ◌+◌, Bool, false, ◌==◌, ◌&&◌, ◌||◌, not, nat_le, nat_lt, if◌then◌else◌, List, length}
use Rattle.std.specs.Prelude.{take, slice_index, slice_get, Option, None, Some, is_none, option_map}
use Rattle.rcrc.specs.Crc.{crc_of}
use Rattle.spw.specs.declared.packets.End.{End}
use Rattle.spw.specs.declared.packets.End.TheVariants.{Eop, Eep}
use Rattle.rmap.specs.declared.body_faults.BodyFault.{BodyFault}
use Rattle.rmap.specs.declared.body_faults.BodyFault.TheVariants.{ErrorEnd, TooFewBytes, TooManyBytes as TooManyAfter, WrongDataCrc}
use Rattle.rmap.specs.declared.boot.TheConstants.{BOOT_WINDOW, LOAD_REGISTER, LOAD_RESULT_SIZE}
use Rattle.rmap.specs.declared.checks.TheConstants.{MAX_DATA, VERIFY_BUFFER}
use Rattle.rmap.specs.declared.header_faults.HeaderFault.{HeaderFault}
use Rattle.rmap.specs.declared.header_faults.HeaderFault.TheVariants as faults
use Rattle.rmap.specs.declared.header_faults.NoPlace.{NoPlace}
use Rattle.rmap.specs.declared.header_faults.NoPlace.TheVariants.{NoBank, OutsideBank, AfterBank, OtherAtRegister, OutsideBootWindow}
use Rattle.rmap.specs.declared.kind.Kind.{Kind}
use Rattle.rmap.specs.declared.kind.Kind.TheVariants.{Read, Write, Rmw, Unused}
use Rattle.rmap.specs.declared.places.Place.{Place}
use Rattle.rmap.specs.declared.status.Status.{Status}
use Rattle.rmap.specs.declared.status.Status.TheVariants.{UnusedCode, InvalidDataCrc, EarlyEndOfPacket, TooMuchData}
use Rattle.rmap.specs.declared.status.Status.TheVariants.{ErrorEndOfPacket, VerifyBufferOverrun, NotAuthorised}
use Rattle.rmap.specs.declared.status.Status.TheVariants.{RmwDataLength, InvalidLogicalAddress}
use Rattle.rmap.specs.Instruction.{is_used, carries_data}
use Rattle.rmap.specs.Command.{CommandValue, target_of, instruction_of, extended_of, address_of, length_of, command_kind}
use Rattle.rmap.specs.Command.{verifies, increments}
use Rattle.rmap.specs.Windows.{WindowsValue, begins_inside, place_of}

-- whether data and mask have the same length of at most four bytes (ECSS-E-ST-50-52C, read-modify-write command
-- format, data length field)
abbrev pub is_rmw_length : ℕ → Bool
is_rmw_length n = n == 0 || (n == 2 || (n == 4 || (n == 6 || n == 8)))

-- whether the command is a read-modify-write of a length that no data and mask have
abbrev pub has_wrong_rmw_length : Kind → ℕ → Bool
has_wrong_rmw_length Rmw n = not (is_rmw_length n)
has_wrong_rmw_length Read n = false
has_wrong_rmw_length Write n = false
has_wrong_rmw_length Unused n = false

-- whether the address is that of a byte of the load register
abbrev pub is_at_register : CommandValue → Bool
is_at_register c = nat_le LOAD_REGISTER (address_of c) && nat_lt (address_of c) (LOAD_REGISTER + LOAD_RESULT_SIZE)

-- why bytes that have no place in a bank, or in the boot window, have none
abbrev pub miss_in : Option (ℕ × ℕ) → CommandValue → NoPlace
miss_in None c =
    if not (extended_of c == BOOT_WINDOW) then NoBank (extended_of c)
    else if is_at_register c then OtherAtRegister (address_of c)
    else OutsideBootWindow (address_of c) (length_of c)
miss_in (Some bank) c =
    if increments c && begins_inside bank.0 bank.1 c
    then AfterBank (address_of c) (length_of c)
    else OutsideBank (address_of c)

-- why bytes that have no place have none
abbrev pub miss_of : CommandValue → WindowsValue → NoPlace
miss_of c w = miss_in (slice_get w.banks (extended_of c)) c

-- The first check of the header that stops the command, with what it found. At most 1,024 bytes are verified, and a
-- command has at most 4,096 bytes of data.
abbrev pub header_check : CommandValue → WindowsValue → Option HeaderFault
header_check c w =
    if not (is_used (command_kind c)) then Some (faults.UnusedCode (record { 0 = instruction_of c }))
    else if not (target_of c == w.node_address) then Some (faults.OtherNode (target_of c) w.node_address)
    else if has_wrong_rmw_length (command_kind c) (length_of c) then Some (faults.WrongRmwLength (length_of c))
    else if verifies c && nat_lt VERIFY_BUFFER (length_of c) then Some (faults.TooManyToVerify (length_of c))
    else if nat_lt MAX_DATA (length_of c) then Some (faults.TooManyBytes (length_of c))
    else if is_none (place_of c w) then Some (faults.NoPlace (miss_of c w))
    else None

-- the status in the reply after a fault of the header
abbrev pub header_status : HeaderFault → Status
header_status (faults.UnusedCode instruction) = UnusedCode
header_status (faults.OtherNode target node) = InvalidLogicalAddress
header_status (faults.WrongRmwLength count) = RmwDataLength
header_status (faults.TooManyToVerify count) = VerifyBufferOverrun
header_status (faults.TooManyBytes count) = NotAuthorised
header_status (faults.NoPlace miss) = NotAuthorised

-- the status of the first check of the header that stops the command
abbrev pub header_line : CommandValue → WindowsValue → Option Status
header_line c w = option_map header_status (header_check c w)

-- no check of the header stops the command, and its bytes have that place
abbrev pub HasPlace : CommandValue → WindowsValue → Place → Type 0
HasPlace c w place = (header_check c w ≡ None) × (place_of c w ≡ Some place)

-- the first check of the header that stops the command is that one, and found that
abbrev pub Faults : CommandValue → WindowsValue → HeaderFault → Type 0
Faults c w fault = header_check c w ≡ Some fault

-- no check of the header stops the command, and its bytes have that place
abbrev pub Passes : CommandValue → WindowsValue → Place → Type 0
Passes c w place = (header_line c w ≡ None) × (place_of c w ≡ Some place)

-- the first check of the header that stops the command has that status
abbrev pub Stops : CommandValue → WindowsValue → Status → Type 0
Stops c w status = header_line c w ≡ Some status

-- how many bytes should follow the header: data and data CRC, or none
abbrev pub wanted_length : CommandValue → ℕ
wanted_length c = if carries_data (command_kind c) then length_of c + 1 else 0

-- the data of a body, which the data CRC follows
abbrev pub data_of : CommandValue → List ℕ
data_of c = take (length_of c) c.body

-- whether the byte after the data is not their CRC (ECSS-E-ST-50-52C, data CRC field)
abbrev pub has_wrong_data_crc : CommandValue → Bool
has_wrong_data_crc c =
    carries_data (command_kind c) && not (slice_index c.body (length_of c) == crc_of (data_of c))

-- the first check of what follows the header that stops the command, with the right value and the found one
abbrev pub content_check : CommandValue → Option BodyFault
content_check c =
    if nat_lt (length c.body) (wanted_length c) then Some (TooFewBytes (length c.body) (wanted_length c))
    else if nat_lt (wanted_length c) (length c.body) then Some (TooManyAfter (length c.body) (wanted_length c))
    else if has_wrong_data_crc c then Some (WrongDataCrc (slice_index c.body (length_of c)) (crc_of (data_of c)))
    else None

-- the first check of the body that stops the command, by how the packet ended
abbrev pub body_check_at : End → CommandValue → Option BodyFault
body_check_at Eep c = Some ErrorEnd
body_check_at Eop c = content_check c

-- the first check of the body that stops the command
abbrev pub body_check : CommandValue → Option BodyFault
body_check c = body_check_at c.end c

-- the status in the reply after a fault of the body
abbrev pub body_status : BodyFault → Status
body_status ErrorEnd = ErrorEndOfPacket
body_status (TooFewBytes found wanted) = EarlyEndOfPacket
body_status (TooManyAfter found wanted) = TooMuchData
body_status (WrongDataCrc found right) = InvalidDataCrc

-- the status of the first check of the body that stops the command, by how the packet ended
abbrev pub body_line_at : End → CommandValue → Option Status
body_line_at end c = option_map body_status (body_check_at end c)

-- the status of the first check of the body that stops the command
abbrev pub body_line : CommandValue → Option Status
body_line c = body_line_at c.end c
