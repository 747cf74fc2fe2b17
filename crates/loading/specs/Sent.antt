-- The packets of a load, as an initiator sends them.
use Rattle.std.specs.Prelude.{◌≡◌, ℕ, List, [], ◌∷◌, ◌++◌, length, slice_get, Some}
use Rattle.spw.specs.Cargo.{Cargo}
use Rattle.spw.specs.declared.packets.End.TheVariants.{Eop}
use Rattle.rmap.specs.Command.{bytes_of}
use Rattle.rmap.specs.Reply.{with_crc}
use Rattle.initiator.specs.declared.requests.Request.{Request}
use Rattle.initiator.specs.declared.write.CommandFields.{CommandFields}
use Rattle.initiator.specs.LoadPackets.{AreFieldsOf}
use Rattle.initiator.specs.Loads.{control_bytes_of, control_request, part_count, part_of, result_request, stage_request}
use Rattle.initiator.specs.Writing.{command_with}

-- the packet is that request, made with that body for the node of that logical address
pub record IsSent (address : ℕ) (request : Request) (body : List ℕ) (packet : Cargo) : Type 0 where
  pub fields : CommandFields
  pub are_fields : AreFieldsOf request fields
  pub target : fields.target ≡ address
  pub bytes : packet.bytes ≡ bytes_of (command_with fields body)
  pub end : packet.end ≡ Eop

-- the packets are the writes of the image's parts to the staging, in the order of the parts
pub record ArePartWrites (address transaction : ℕ) (image : List ℕ) (packets : List Cargo) : Type 0 where
  pub count : length packets ≡ part_count image
  pub each : (number : ℕ) (packet : Cargo) → slice_get packets number ≡ Some packet
      → IsSent address (stage_request transaction (part_of image number) number) (with_crc (part_of image number)) packet

-- The packets are those of a load of the image into that slot, in order. They are its parts, the control write, and the
-- read of the load result.
pub record AreOfLoad (address transaction slot : ℕ) (image : List ℕ) (packets : List Cargo) : Type 0 where
  pub parts : List Cargo
  pub control : Cargo
  pub read : Cargo
  pub in_order : packets ≡ parts ++ control ∷ read ∷ []
  pub are_parts : ArePartWrites address transaction image parts
  pub is_control : IsSent address (control_request transaction image) (with_crc (control_bytes_of slot image)) control
  pub is_read : IsSent address (result_request transaction image) [] read
