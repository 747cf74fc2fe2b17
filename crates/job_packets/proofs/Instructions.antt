-- The instruction of a command that is requested, and its line.
use Rattle.std.proofs.Common.{◌≡◌, ◌+◌, ◌*◌, ◌++◌, ◌∷◌, ℕ, List, [], refl, ap, ◌∙◌, append_assoc, arith}
use Rattle.rmap.specs.Instruction.{packet_type, command_code, reply_address_length}
use Rattle.std.specs.Prelude.{decimal}
use Rattle.initiator.specs.Writing.{command_with}
use Rattle.initiator.specs.declared.requests.Request.{Request}
use Rattle.initiator.specs.declared.write.CommandFields.{CommandFields}
use Rattle.hex.specs.Hex.{encode_upper}
use Rattle.rmap.specs.Command.{bytes_of}
use Rattle.job_packets.specs.Requests.{fields_with, instruction_with, request_line_of, marked_line}
use Rattle.job_packets.specs.declared.packet_options.HeaderWords.{HeaderWords}

-- an instruction is its packet type, its code and its words
pub instruction_is : (i code words : ℕ) → packet_type i ≡ 1 → command_code i ≡ code → reply_address_length i ≡ 4 * words
    → i ≡ 64 + 4 * code + words
instruction_is i code words kind command address = omega (arith, kind, command, address)

-- fields that are those of the request make its command
pub same_command : (h : HeaderWords) (r : Request) (f : CommandFields) (body : List ℕ) → f.target ≡ h.target
    → f.instruction.0 ≡ instruction_with h r → f.key ≡ h.key → f.reply_address.now ≡ h.reply_address.items
    → f.initiator ≡ h.initiator → f.transaction ≡ r.transaction → f.extended ≡ r.extended → f.address ≡ r.address
    → f.length ≡ r.count → command_with f body ≡ command_with (fields_with h r) body
same_command h r f body target instruction key reply initiator transaction extended address count =
    rw (target, instruction, key, reply, initiator, transaction, extended, address, count) refl

-- a line of a port, digits and a marker is the packet line with its line feed
joined : (port digits : List ℕ) → port ++ 32 ∷ [] ++ digits ++ 32 ∷ 69 ∷ 79 ∷ 80 ∷ [] ++ 10 ∷ [] ≡ (port ++ 32 ∷ digits ++ 32 ∷ 69 ∷ 79 ∷ 80 ∷ []) ++ 10 ∷ []
joined port digits = simp append_assoc

-- the line of these digits is that of the request, if they are those of its command
pub line_is : (h : HeaderWords) (r : Request) (f : CommandFields) (body bytes digits : List ℕ) → digits ≡ encode_upper bytes
    → bytes ≡ bytes_of (command_with f body) → command_with f body ≡ command_with (fields_with h r) body
    → marked_line h.port digits ≡ request_line_of h r body
unfolding request_line_of
line_is h r f body bytes digits upper are same =
    joined (decimal h.port) digits
    ∙ ap (λ (d : List ℕ). (decimal h.port ++ 32 ∷ d ++ 32 ∷ 69 ∷ 79 ∷ 80 ∷ []) ++ 10 ∷ []) (upper ∙ ap (λ (b : List ℕ). encode_upper b) (are ∙ ap bytes_of same))
