-- What comes after the path of a reply is read as that reply.
use Rattle.std.proofs.Common.{◌≡◌, ℕ, ◌/◌, ◌%◌, ◌≤◌, ◌<◌, ◌++◌, List, [], ◌∷◌, Bool, true, false, cond, eqb, length, get_or, drop, refl, sym, ap, arith, append_assoc}
use Rattle.std.proofs.lemmas.List.{get_or-drop}
use Rattle.std.specs.Prelude.{All}
use Rattle.byteorder.specs.Endian.{big_bytes, big_number}
use Rattle.byteorder.specs.Numbers.{big_number-reads_back}
use Rattle.rcrc.specs.Crc.{crc_of}
use Rattle.rmap.specs.Instruction.{has_write_bit}
use Rattle.rmap.specs.declared.status.Status.{Status}
use Rattle.rmap.specs.Codes.{status_code}
use Rattle.rmap.specs.Command.{CommandValue, IsHeader, initiator_of, instruction_of, target_of, transaction_of, writes, wants_reply}
use Rattle.rmap.specs.Reply.{reply_body, reply_header, reply_instruction, reply_of, reply_path_of, with_crc}
use Rattle.initiator.specs.ReplyReading.{ReplyValue, IsReply, Answers, after_reply_path, reply_to, form_length, announced_length, checked_data}
use Rattle.initiator.proofs.RepliesRead.{replies_are_read, right_crc}

-- a transaction identifier has two bytes
transaction_fits : (c : CommandValue) → IsHeader c → All (λ b. b < 256) c.tail → transaction_of c < 65536
transaction_fits c h small =
    let long : length c.tail ≡ 12 = h.tail in
    let high : get_or c.tail 1 0 < 256 = small 1 0 (omega (arith, long)) in
    let low : get_or c.tail 2 0 < 256 = small 2 0 (omega (arith, long)) in
    let first : get_or (drop 1 c.tail) 0 0 ≡ get_or c.tail 1 0 = get_or-drop 1 c.tail 0 0 in
    let second : get_or (drop 1 c.tail) 1 0 ≡ get_or c.tail 2 0 = get_or-drop 1 c.tail 1 0 in
    rw (first, second) (omega (arith, high, low))

-- the bit of the form stays in a reply
form_stays : (instruction : ℕ) → has_write_bit (reply_instruction instruction) ≡ has_write_bit instruction
form_stays instruction =
    let same : instruction % 64 / 32 % 2 ≡ instruction / 32 % 2 = omega arith in
    ap (λ n. eqb n 1) same

-- the header of a reply in the form that a bit selects
abbrev header_in : (w : Bool) → (initiator instruction status target transaction count : ℕ) → List ℕ
header_in w initiator instruction status target transaction count =
    initiator ∷ 1 ∷ instruction ∷ status ∷ target ∷ [] ++ big_bytes 2 transaction ++ (cond w [] (0 ∷ big_bytes 3 count))

-- its length
header_length : (w : Bool) (a i s t n count crc : ℕ) → length (header_in w a i s t n count ++ crc ∷ []) ≡ form_length w
header_length true a i s t n count crc = refl
header_length false a i s t n count crc = refl

-- what it announces
announced : (w : Bool) (a i s t n : ℕ) (bytes : List ℕ) (crc : ℕ) → length bytes < 16777216 → length (cond w [] bytes) ≡ announced_length w (header_in w a i s t n (length bytes) ++ crc ∷ [])
announced true a i s t n bytes crc few = refl
announced false a i s t n bytes crc few = sym (big_number-reads_back 3 (length bytes) (crc ∷ []) few)

-- its transaction identifier
reads_transaction : (w : Bool) (a i s t n count crc : ℕ) → n < 65536 → big_number 2 (drop 5 (header_in w a i s t n count ++ crc ∷ [])) ≡ n
reads_transaction true a i s t n count crc few = big_number-reads_back 2 n (crc ∷ []) few
reads_transaction false a i s t n count crc few = big_number-reads_back 2 n (0 ∷ big_bytes 3 count ++ crc ∷ []) few

-- what follows it
body_is : (w : Bool) (bytes : List ℕ) → cond w [] (bytes ++ crc_of bytes ∷ []) ≡ checked_data w (cond w [] bytes)
body_is true bytes = refl
body_is false bytes = refl

-- the reply to a command is read as one, and has its fields
pub written_is_read : (c : CommandValue) (status : Status) (bytes : List ℕ) → IsHeader c → All (λ b. b < 256) c.tail → length bytes ≤ 4096 → IsReply (after_reply_path c status bytes) (reply_to c status bytes) × Answers c status bytes (reply_to c status bytes)
written_is_read c status bytes h small few =
    let w = writes c in
    let a = initiator_of c in
    let i = reply_instruction (instruction_of c) in
    let s = status_code status in
    let t = target_of c in
    let n = transaction_of c in
    let crc = crc_of (reply_header c status bytes) in
    let form : has_write_bit i ≡ w = form_stays (instruction_of c) in
    let kind : instruction_of c % 64 / 64 ≡ 0 = omega arith in (
      record {
        header = rw form (header_length w a i s t n (length bytes) crc);
        protocol = refl;
        kind = kind;
        crc = right_crc (reply_header c status bytes);
        data_length = rw form (announced w a i s t n bytes crc (omega (arith, few)));
        parts = rw form (ap (λ (l : List ℕ). with_crc (reply_header c status bytes) ++ l) (body_is w bytes));
      },
      record {
        initiator = refl;
        instruction = refl;
        status_field = refl;
        target = refl;
        transaction = reads_transaction w a i s t n (length bytes) crc (transaction_fits c h small);
        data_field = refl;
      },
    )

-- a reply that is wanted is its path and what follows it
pub has_path : (c : CommandValue) (status : Status) (bytes : List ℕ) → wants_reply c ≡ true → reply_of c status bytes ≡ reply_path_of c.reply_address ++ after_reply_path c status bytes
has_path c status bytes wanted = rw wanted (append_assoc (reply_path_of c.reply_address) (with_crc (reply_header c status bytes)) (reply_body c bytes))

-- bytes are at most one reply
pub one_reply : (bytes : List ℕ) (r s : ReplyValue) → IsReply bytes r → IsReply bytes s → r ≡ s
one_reply bytes r s h g =
    let first = replies_are_read bytes r h in
    let second = replies_are_read bytes s g in
    cc
