-- What the packets of a load are to the target that reads them.
use Rattle.std.specs.Prelude.{◌≡◌, ◌≤◌, ◌<◌, ◌*◌, ℕ, List, [], length, slice_get, None, true}
use Rattle.rmap.specs.declared.boot.TheConstants.{BOOT_WINDOW, STAGING_SIZE}
use Rattle.rmap.specs.declared.checks.TheConstants.{MAX_DATA}
use Rattle.rmap.specs.declared.kind.Kind.{Kind}
use Rattle.rmap.specs.declared.kind.Kind.TheVariants.{Read, Write}
use Rattle.rmap.specs.declared.places.Place.{Place}
use Rattle.rmap.specs.declared.places.Place.TheVariants.{Staging, LoadResult, Control}
use Rattle.rmap.specs.Instruction.{command_code, packet_type}
use Rattle.rmap.specs.Command.{IsCommand, bytes_of, command_kind, wants_reply}
use Rattle.rmap.specs.Checks.{HasPlace, body_line}
use Rattle.rmap.specs.Reply.{with_crc}
use Rattle.rmap.specs.Windows.{WindowsValue}
use Rattle.initiator.specs.declared.requests.Request.{Request}
use Rattle.initiator.specs.declared.write.CommandFields.{CommandFields}
use Rattle.initiator.specs.Loads.{control_bytes_of, control_request, part_of, result_request, stage_request}
use Rattle.initiator.specs.Writing.{AreFields, command_with}

-- the fields of a command are those of the request
pub record AreFieldsOf (r : Request) (f : CommandFields) : Type 0 where
  pub fields : AreFields f
  pub kind : packet_type f.instruction.0 ≡ 1
  pub code : command_code f.instruction.0 ≡ r.code
  pub transaction : f.transaction ≡ r.transaction
  pub extended : f.extended ≡ r.extended
  pub address : f.address ≡ r.address
  pub count : f.length ≡ r.count

-- the fields are for the node with these windows; none of its banks hides the boot window
pub record AreForNode (w : WindowsValue) (f : CommandFields) : Type 0 where
  pub target : f.target ≡ w.node_address
  pub no_bank : slice_get w.banks BOOT_WINDOW ≡ None

-- The bytes that are made of the fields and the body are a command of that kind that asks for a reply. Under these
-- windows no check of its header stops it, and its bytes lie at that place. No check of its body stops it.
pub record IsTakenAt (w : WindowsValue) (f : CommandFields) (body : List ℕ) (kind : Kind) (place : Place) : Type 0 where
  pub command : IsCommand (bytes_of (command_with f body)) (command_with f body)
  pub is_kind : command_kind (command_with f body) ≡ kind
  pub replied : wants_reply (command_with f body) ≡ true
  pub placed : HasPlace (command_with f body) w place
  pub right : body_line (command_with f body) ≡ None

-- A node accepts each packet of a load at its place. The parts of the image are writes to the staging. The control
-- data are a control write, and the read is that of the load result.
pub record LoadPacketsAreTaken : Type 0 where
  pub staged : (w : WindowsValue) (f : CommandFields) (transaction : ℕ) (image : List ℕ) (number : ℕ) → AreForNode w f
      → AreFieldsOf (stage_request transaction (part_of image number) number) f → length image ≤ STAGING_SIZE
      → MAX_DATA * number < length image → IsTakenAt w f (with_crc (part_of image number)) Write Staging
  pub controlled : (w : WindowsValue) (f : CommandFields) (transaction : ℕ) (image : List ℕ) (slot : ℕ) → AreForNode w f
      → AreFieldsOf (control_request transaction image) f → IsTakenAt w f (with_crc (control_bytes_of slot image)) Write Control
  pub read : (w : WindowsValue) (f : CommandFields) (transaction : ℕ) (image : List ℕ) → AreForNode w f
      → AreFieldsOf (result_request transaction image) f → IsTakenAt w f [] Read LoadResult
