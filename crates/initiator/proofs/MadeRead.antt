-- A command that is made of fields has those fields, and no check of its body stops it.
use Rattle.std.proofs.Common.{◌≡◌, ℕ, ◌+◌, ◌++◌, List, [], ◌∷◌, true, false, eqb, ltb, length, get_or, take, None, refl, sym, ap, ◌∙◌, arith, length-append}
use Rattle.std.proofs.lemmas.List.{take_at, get_or-append-add}
use Rattle.std.proofs.lemmas.Bool.{le-ltb}
use Rattle.std.proofs.lemmas.Bool.Decides.{nat_tests}
use Rattle.byteorder.specs.Endian.{big_bytes}
use Rattle.byteorder.specs.Numbers.{big_number-reads_back}
use Rattle.rcrc.specs.Crc.{crc_of}
use Rattle.rmap.specs.Instruction.{carries_data, kind_of}
use Rattle.rmap.specs.Command.{IsCommand, bytes_of, length_of}
use Rattle.rmap.specs.Checks.{body_line}
use Rattle.rmap.specs.Reply.{with_crc}
use Rattle.initiator.specs.declared.write.CommandFields.{CommandFields}
use Rattle.initiator.specs.Laws.{MadeBodiesAreRight, MadeCommandsAreSoLong}
use Rattle.initiator.specs.Writing.{AreFields, Fit, HasFields, command_with, header_with}

-- the length field is read as the length
pub length_is : (f : CommandFields) (body : List ℕ) → AreFields f → length_of (command_with f body) ≡ f.length
length_is f body h = big_number-reads_back 3 f.length (crc_of (header_with f) ∷ []) (omega (arith, h.short))

-- the bytes that are made are a command
pub is_made : (f : CommandFields) (body : List ℕ) → AreFields f → IsCommand (bytes_of (command_with f body)) (command_with f body)
is_made f body h = record {
  header = record { front = refl; reply_address = h.address; tail = refl; protocol = refl; no_reply = h.no_reply; crc = refl };
  parts = refl;
}

-- the bytes that are made are a command with those fields
pub made_is_read : (f : CommandFields) (body : List ℕ) → AreFields f → Fit f → IsCommand (bytes_of (command_with f body)) (command_with f body) × HasFields f body (command_with f body)
made_is_read f body h fit = (
  is_made f body h,
  record {
    target = refl;
    instruction = refl;
    key = refl;
    reply_address = refl;
    initiator = refl;
    transaction = big_number-reads_back 2 f.transaction (f.extended ∷ [] ++ big_bytes 4 f.address ++ big_bytes 3 f.length ++ crc_of (header_with f) ∷ []) (omega (arith, fit.transaction));
    extended = refl;
    address = big_number-reads_back 4 f.address (big_bytes 3 f.length ++ crc_of (header_with f) ∷ []) (omega (arith, fit.address));
    data_length = length_is f body h;
    following = refl;
  },
)

-- how many bytes a command of fields with some data has
pub made_is_so_long : MadeCommandsAreSoLong
made_is_so_long f bytes =
    let c = command_with f (with_crc bytes) in
    let tail : length c.tail ≡ 12 = refl in
    let whole = length-append (c.front ++ c.reply_address ++ c.tail) c.body in
    let header = length-append (c.front ++ c.reply_address) c.tail in
    let path = length-append c.front c.reply_address in
    omega (arith, tail, whole, header, path, length-append bytes (crc_of bytes ∷ []))

-- as many data as the length says, and their CRC, are a right body
carried_is_right : (f : CommandFields) (bytes : List ℕ) → AreFields f → carries_data (kind_of f.instruction.0) ≡ true → length bytes ≡ f.length → body_line (command_with f (with_crc bytes)) ≡ None
carried_is_right f bytes h carries count =
    let body = bytes ++ crc_of bytes ∷ [] in
    let field : length_of (command_with f body) ≡ f.length = length_is f body h in
    let whole : length body ≡ f.length + 1 = length-append bytes (crc_of bytes ∷ []) ∙ ap (λ n. n + 1) count in
    let few : ltb (length body) (f.length + 1) ≡ false = le-ltb (length body) (f.length + 1) (omega (arith, whole)) in
    let many : ltb (f.length + 1) (length body) ≡ false = le-ltb (f.length + 1) (length body) (omega (arith, whole)) in
    let last : get_or body f.length 0 ≡ crc_of bytes = ap (λ n. get_or body n 0) (sym count ∙ omega arith) ∙ get_or-append-add bytes (crc_of bytes ∷ []) 0 0 in
    let front : take f.length body ≡ bytes = take_at bytes (crc_of bytes ∷ []) f.length count in
    let same : eqb (crc_of bytes) (crc_of bytes) ≡ true = grind (arith, nat_tests) in
    rw (carries, field, few, many, last, front, same) refl

-- if a command carries no data, having no body is right
none_is_right : (f : CommandFields) → carries_data (kind_of f.instruction.0) ≡ false → body_line (command_with f []) ≡ None
none_is_right f carries = rw carries refl

-- both
pub bodies_are_right : MadeBodiesAreRight
bodies_are_right = record { carried = carried_is_right; without = none_is_right }
