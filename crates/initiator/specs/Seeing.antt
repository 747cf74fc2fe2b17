-- What a packet on a link is to an observer.
use Rattle.std.specs.Prelude.{◌≡◌, ◌-◌, ℕ, Bool, true, false, ◌==◌, ◌&&◌, not, nat_lt, List, length, take, slice_index, Some, None, Ok, Err}
use Rattle.spw.specs.Cargo.{Cargo}
use Rattle.spw.specs.Paths.{without_path}
use Rattle.rmap.specs.declared.discard.Discard.{Discard}
use Rattle.rmap.specs.Instruction.{packet_type}
use Rattle.rmap.specs.Command.{discard_of, command_of}
use Rattle.rmap.specs.Checks.{content_check}
use Rattle.rmap.specs.DiscardFaults.{discard_fault_of}
use Rattle.initiator.specs.ReplyReading.{reply_reading}
use Rattle.initiator.specs.declared.packet_form.PacketForm.{PacketForm}
use Rattle.initiator.specs.declared.packet_form.PacketForm.TheVariants.{Command, Reply, NoReply, Discarded}

-- the path before a reply
abbrev pub path_before : List ℕ → List ℕ
path_before bytes = take (length bytes - length (without_path bytes)) bytes

-- whether bytes have the protocol identifier of RMAP, and the packet type of a reply (ECSS-E-ST-50-52C, protocol identifier
-- field, instruction field)
abbrev pub has_reply_type : List ℕ → Bool
has_reply_type bytes =
    not (nat_lt (length bytes) 3) && (slice_index bytes 1 == 1 && packet_type (slice_index bytes 2) == 0)

-- What bytes are if they are no command, however their packet ended. If they have the type of a reply after their
-- path, they are that reply, or there is the reason why they are none. Else there is the reason why a target discards
-- them, with what is wrong.
abbrev pub IsOther : List ℕ → PacketForm → Type 0
IsOther bytes (Command command fault) = ⊥
IsOther bytes (Reply path reply) =
    (has_reply_type (without_path bytes) ≡ true) × (path.now ≡ path_before bytes) × (reply_reading (without_path bytes) ≡ Ok reply)
IsOther bytes (NoReply instruction why) =
    (has_reply_type (without_path bytes) ≡ true) × (instruction.0 ≡ slice_index (without_path bytes) 2)
    × (reply_reading (without_path bytes) ≡ Err why)
IsOther bytes (Discarded reason discard_fault) =
    (has_reply_type (without_path bytes) ≡ false) × (discard_of bytes ≡ Some reason) × (discard_fault ≡ discard_fault_of bytes reason)

-- the bytes are no command, and this is what they are
pub record IsNoCommand (bytes : List ℕ) (packet_form : PacketForm) : Type 0 where
  pub reason : Discard
  pub discarded : discard_of bytes ≡ Some reason
  pub other : IsOther bytes packet_form

-- What a packet is. A command comes with the first check of what follows its header that stops it. If it is no
-- command, it is what the bytes then are.
abbrev pub IsSeen : Cargo → PacketForm → Type 0
IsSeen p (Command command fault) =
    (discard_of p.bytes ≡ None) × (command ≡ command_of p) × (fault ≡ content_check command)
IsSeen p (Reply path reply) = IsNoCommand p.bytes (Reply path reply)
IsSeen p (NoReply instruction why) = IsNoCommand p.bytes (NoReply instruction why)
IsSeen p (Discarded reason discard_fault) = IsNoCommand p.bytes (Discarded reason discard_fault)
