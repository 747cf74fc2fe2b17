-- The numbers that are printed of lines that are bad.
use Rattle.std.specs.Prelude.{ℕ, ◌==◌, if◌then◌else◌, Option, Some, option_map}
use Rattle.spw.specs.Fault.{line_fault_code, line_fault_of_code}
use Rattle.job_parts.specs.declared.bad_lines.BadLine.{BadLine}
use Rattle.job_parts.specs.declared.bad_lines.BadLine.TheVariants.{Line, NoPort, NoEvent, NoRoom}

-- the number of what is wrong with a line: that of a packet line's fault, and 6 for no such port or event. It is 7 for
-- one packet too many
abbrev pub bad_line_number : BadLine → ℕ
bad_line_number (Line fault) = line_fault_code fault
bad_line_number NoPort = 6
bad_line_number NoEvent = 6
bad_line_number NoRoom = 7

-- what is wrong with a line by its number, if it is the number of something; for 6 it is the port
abbrev pub bad_line_of_number : ℕ → Option BadLine
bad_line_of_number number =
    if number == 6 then Some NoPort
    else (if number == 7 then Some NoRoom
    else option_map (λ fault. Line fault) (line_fault_of_code number))
