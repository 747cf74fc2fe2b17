-- Laws about commands that an initiator makes and replies that it reads.
use Rattle.std.specs.Prelude.{◌≡◌, ◌≤◌, ◌<◌, ℕ, ◌+◌, List, [], ◌++◌, length, All, None, true, false}
use Rattle.rmap.specs.declared.checks.TheConstants.{MAX_DATA}
use Rattle.rmap.specs.declared.status.Status.{Status}
use Rattle.rmap.specs.Instruction.{carries_data, kind_of}
use Rattle.rmap.specs.Command.{CommandValue, IsHeader, IsCommand, bytes_of, wants_reply}
use Rattle.rmap.specs.Checks.{body_line}
use Rattle.rmap.specs.Reply.{reply_of, reply_path_of, with_crc}
use Rattle.initiator.specs.ReplyReading.{Answers, IsReply, ReplyValue, after_reply_path, reply_to}
use Rattle.initiator.specs.declared.write.CommandFields.{CommandFields}
use Rattle.initiator.specs.declared.write.TheConstants.{DATA_OVERHEAD}
use Rattle.initiator.specs.Writing.{AreFields, Fit, HasFields, command_with}

-- bytes are at most one reply
abbrev pub ReplyIsUnique : Type 0
ReplyIsUnique = (bytes : List ℕ) (r s : ReplyValue) → IsReply bytes r → IsReply bytes s → r ≡ s

-- a reply that is wanted is its path and what comes after it
abbrev pub RepliesHavePaths : Type 0
RepliesHavePaths =
    (c : CommandValue) (status : Status) (bytes : List ℕ) → wants_reply c ≡ true
    → reply_of c status bytes ≡ reply_path_of c.reply_address ++ after_reply_path c status bytes

-- what comes after the path of a reply is read as the reply with that status and those data, and with the command's
-- fields
abbrev pub WrittenRepliesAreRead : Type 0
WrittenRepliesAreRead =
    (c : CommandValue) (status : Status) (bytes : List ℕ) → IsHeader c → All (λ b. b < 256) c.tail
    → length bytes ≤ MAX_DATA
    → IsReply (after_reply_path c status bytes) (reply_to c status bytes) × Answers c status bytes (reply_to c status bytes)

-- the bytes that are made of fields are a command with those fields
abbrev pub MadeCommandsAreRead : Type 0
MadeCommandsAreRead =
    (f : CommandFields) (body : List ℕ) → AreFields f → Fit f
    → IsCommand (bytes_of (command_with f body)) (command_with f body) × HasFields f body (command_with f body)

-- how many bytes a command of fields that carries data has beside its reply address and its data
abbrev pub MadeCommandsAreSoLong : Type 0
MadeCommandsAreSoLong =
    (f : CommandFields) (bytes : List ℕ) → length (bytes_of (command_with f (with_crc bytes)))
    ≡ DATA_OVERHEAD + length f.reply_address.now + length bytes

-- No check of the body stops a command that is made so. It has as many data as its length says and their CRC, or, if
-- it carries none, no body.
pub record MadeBodiesAreRight : Type 0 where
  pub carried : (f : CommandFields) (bytes : List ℕ) → AreFields f → carries_data (kind_of f.instruction.0) ≡ true
      → length bytes ≡ f.length → body_line (command_with f (with_crc bytes)) ≡ None
  pub without : (f : CommandFields) → carries_data (kind_of f.instruction.0) ≡ false
      → body_line (command_with f []) ≡ None
