-- How long a reply is, and what its CRCs are.
use Rattle.std.proofs.Common.{◌≡◌, ℕ, ◌+◌, ◌%◌, ◌≤◌, ◌++◌, List, [], ◌∷◌, Bool, true, false, cond, eqb, length, refl, ◌∙◌, arith, length-append}
use Rattle.std.proofs.lemmas.List.{length-take}
use Rattle.byteorder.specs.Endian.{big_bytes}
use Rattle.rcrc.specs.Crc.{crc_of}
use Rattle.rcrc.specs.Polynomial.{IsRemainder}
use Rattle.rmap.specs.declared.status.Status.{Status}
use Rattle.rmap.specs.Codes.{status_code}
use Rattle.rmap.specs.Command.{CommandValue, IsHeader, target_of, instruction_of, initiator_of, writes, wants_reply, transaction_of}
use Rattle.rmap.specs.Reply.{HasRemainders, without_leading_zeros, path_or_zero, reply_path_of, reply_header, reply_body, reply_of, with_crc, read_fields, reply_instruction}

length-without_leading_zeros : (address : List ℕ) → length (without_leading_zeros address) ≤ length address
length-without_leading_zeros [] = omega arith
length-without_leading_zeros (byte ∷ rest) =
    let shorter : length (without_leading_zeros rest) ≤ length rest = length-without_leading_zeros rest in
    elim (eqb byte 0) as (λ b. length (cond b (without_leading_zeros rest) (byte ∷ rest)) ≤ length (byte ∷ rest)) [ true ↦ omega (arith, shorter) | false ↦ omega arith ]

length-path_or_zero : (path address : List ℕ) → length path ≤ length address → length (path_or_zero path address) ≤ length address
length-path_or_zero [] address h = omega (arith, length-take 1 address)
length-path_or_zero (byte ∷ rest) address h = h

length-reply_path_of : (address : List ℕ) → length (reply_path_of address) ≤ length address
length-reply_path_of address = length-path_or_zero (without_leading_zeros address) address (length-without_leading_zeros address)

-- read form adds at most five bytes and the data
length-read : (form : Bool) (bytes : List ℕ) (crc : ℕ) → length (cond form [] (0 ∷ big_bytes 3 (length bytes))) + length (cond form [] (bytes ++ crc ∷ [])) ≤ 5 + length bytes
length-read true bytes crc = omega arith
length-read false bytes crc = omega (arith, length-append bytes (crc ∷ []))

length-joined : (path header body : List ℕ) (crc : ℕ) → length (path ++ (header ++ crc ∷ []) ++ body) ≡ length path + (length header + 1) + length body
length-joined path header body crc = omega (arith, length-append (path ++ (header ++ crc ∷ [])) body, length-append path (header ++ crc ∷ []), length-append header (crc ∷ []))

-- the longest reply has 4,121 bytes
pub length-reply_of : (c : CommandValue) (status : Status) (bytes : List ℕ) → IsHeader c → length bytes ≤ 4096 → length (reply_of c status bytes) ≤ 4121
length-reply_of c status bytes h few =
    let words : instruction_of c % 4 ≤ 3 = omega arith in
    let path : length (reply_path_of c.reply_address) ≤ 12 = omega (arith, length-reply_path_of c.reply_address, h.reply_address) in
    let start : List ℕ = initiator_of c ∷ 1 ∷ reply_instruction (instruction_of c) ∷ status_code status ∷ target_of c ∷ [] ++ big_bytes 2 (transaction_of c) in
    let header : length (reply_header c status bytes) ≡ 7 + length (read_fields c bytes) = length-append start (read_fields c bytes) in
    let read : length (read_fields c bytes) + length (reply_body c bytes) ≤ 5 + length bytes = length-read (writes c) bytes (crc_of bytes) in
    let whole : length (reply_path_of c.reply_address ++ with_crc (reply_header c status bytes) ++ reply_body c bytes) ≤ 4121 = omega (arith, length-joined (reply_path_of c.reply_address) (reply_header c status bytes) (reply_body c bytes) (crc_of (reply_header c status bytes))) in
    elim (wants_reply c) as (λ b. length (cond b (reply_path_of c.reply_address ++ with_crc (reply_header c status bytes) ++ reply_body c bytes) []) ≤ 4121) [ true ↦ whole | false ↦ omega arith ]

-- the CRCs of a reply are remainders if those of its header and of its data are
pub has_remainders : (c : CommandValue) (status : Status) (bytes reply : List ℕ) → wants_reply c ≡ true → reply ≡ reply_of c status bytes → IsRemainder (reply_header c status bytes) (crc_of (reply_header c status bytes)) → (writes c ≡ false → IsRemainder bytes (crc_of bytes)) → HasRemainders c bytes reply
has_remainders c status bytes reply wanted is header read = record {
  header = reply_header c status bytes;
  header_crc = crc_of (reply_header c status bytes);
  data_crc = crc_of bytes;
  layout = is ∙ rw wanted refl;
  header_remainder = header;
  data_remainder = read;
}
