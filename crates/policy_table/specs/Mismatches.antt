-- How a rule does not agree with a header: the first word that does not, and what both have there.
use Rattle.std.specs.Prelude.{◌==◌, ℕ, Bool, nat_le, nat_lt, if◌then◌else◌, Option, Some, None, option_map}
use Rattle.std.specs.Option.{option_or}
use Rattle.machine.specs.declared.calls.Call.{Call}
use Rattle.machine.specs.Memory.{Header}
use Rattle.rmap.specs.Command.{CommandValue, key_of, initiator_of, extended_of, address_of, command_kind}
use Rattle.policy_table.specs.Meaning.{fields_of, agrees_with_kind, last_address_of}
use Rattle.policy_table.specs.declared.mismatches.Mismatch.{Mismatch}
use Rattle.policy_table.specs.declared.mismatches.Mismatch.TheVariants.{Kind, Key, Initiator, Extended, Low, High}
use Rattle.policy_table.specs.declared.mismatches.OtherByte.{OtherByte}
use Rattle.policy_table.specs.declared.mismatches.Passed.{Passed}
use Rattle.policy_table.specs.declared.mismatches.Passed.TheVariants.{Unlike, Spent}
use Rattle.policy_table.specs.declared.rules.Quota.{Quota}
use Rattle.policy_table.specs.declared.rules.Rule.{Rule}

-- the two bytes, if a field does not agree with a byte: any agrees with every byte
abbrev pub other_byte : Option ℕ → (given : ℕ) → Option OtherByte
other_byte None given = None
other_byte (Some wanted) given = if given == wanted then None else Some (record { wanted = wanted; given = given })

-- none if a fact holds, and else this mismatch
abbrev pub unless_mismatch : Bool → Mismatch → Option Mismatch
unless_mismatch holds reported = if holds then None else Some reported

-- how the addresses of a command, the first and the last, are not in the range
abbrev pub range_mismatch : (low high : ℕ) → CommandValue → Option Mismatch
range_mismatch low high c =
    option_or (unless_mismatch (nat_le low (address_of c)) (Low low (address_of c)))
    (unless_mismatch (nat_le (last_address_of c) high) (High high (last_address_of c)))

-- the first word of a rule that does not agree with a command. The order of the tests is kind, key, initiator logical
-- address, extended address, first address, last address
abbrev pub mismatch_of : Rule → CommandValue → Option Mismatch
mismatch_of rule c =
    option_or (unless_mismatch (agrees_with_kind rule.kind (command_kind c)) (Kind rule.kind (command_kind c)))
    (option_or (option_map Key (other_byte rule.key (key_of c)))
    (option_or (option_map Initiator (other_byte rule.initiator (initiator_of c)))
    (option_or (option_map Extended (other_byte rule.extended (extended_of c)))
    (range_mismatch rule.low rule.high c))))

-- the same of a header
abbrev pub mismatch : Rule → Header → Option Mismatch
mismatch rule header = mismatch_of rule (fields_of header)

-- the ticket of a quota is not below its limit; nothing if it is, and if none was drawn
abbrev pub spent : Option Quota → (drawn : Option Call) → Option Passed
spent None drawn = None
spent (Some quota) None = None
spent (Some quota) (Some call) = if nat_lt call.answer quota.limit then None else Some (Spent call quota.limit)

-- why a rule does not match a header, if this is its draw: its mismatch, or else a ticket that is not below its limit
abbrev pub passed : Rule → Header → (drawn : Option Call) → Option Passed
passed rule header drawn = option_or (option_map Unlike (mismatch rule header)) (spent rule.quota drawn)
