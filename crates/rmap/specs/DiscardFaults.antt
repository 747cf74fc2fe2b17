-- What is found in bytes that are discarded.
use Rattle.std.specs.Prelude.{ℕ, ◌-◌, List, slice_index, take}
use Rattle.rcrc.specs.Crc.{crc_of}
use Rattle.rmap.specs.declared.discard.Discard.{Discard}
use Rattle.rmap.specs.declared.discard.Discard.TheVariants.{Short, Protocol, Reply, HeaderCrc}
use Rattle.rmap.specs.declared.discard.DiscardFault.{DiscardFault}
use Rattle.rmap.specs.declared.discard.DiscardFault.TheVariants.{TooShort, OtherProtocol, IsReply, WrongHeaderCrc}
use Rattle.rmap.specs.Command.{header_length}

-- What is found in bytes that are discarded for that reason. It may be the protocol identifier that is not 1, or the
-- last byte of the header and the right CRC.
abbrev pub discard_fault_of : List ℕ → Discard → DiscardFault
discard_fault_of bytes Short = TooShort
discard_fault_of bytes Protocol = OtherProtocol (slice_index bytes 1)
discard_fault_of bytes Reply = IsReply
discard_fault_of bytes HeaderCrc =
    WrongHeaderCrc (slice_index bytes (header_length bytes - 1)) (crc_of (take (header_length bytes - 1) bytes))
