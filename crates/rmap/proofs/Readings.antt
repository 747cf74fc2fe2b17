-- The bytes of a packet, cut into parts, are the parts of the command that they are.
use Rattle.std.proofs.Common.{◌≡◌, ℕ, ◌+◌, ◌++◌, List, length, get_or, take, drop, None, refl, sym, ap, ◌∙◌, arith, append_assoc}
use Rattle.std.proofs.lemmas.List.{drop-drop, take_at, drop_at, get_or_append_left}
use Rattle.spw.specs.Cargo.{Cargo}
use Rattle.rmap.specs.Command.{CommandValue, IsCommand, IsHeader, discard_of, path_length, command_of}
use Rattle.rmap.proofs.Cuts.{IsCut, read_as, same_parts}

-- the third byte is that of the front
path_length-of : (bytes : List ℕ) (c : CommandValue) → IsCommand bytes c → path_length bytes ≡ length c.reply_address
path_length-of bytes c h =
    let front : length c.front ≡ 4 = h.header.front in
    let third : get_or bytes 2 0 ≡ get_or c.front 2 0 =
    rw (h.parts, append_assoc, append_assoc) (get_or_append_left c.front _ 0 2 (omega arith)) in
    rw third (sym h.header.reply_address)

-- what follows the front
after_front : (bytes : List ℕ) (c : CommandValue) → IsCommand bytes c → drop 4 bytes ≡ c.reply_address ++ (c.tail ++ c.body)
after_front bytes c h = rw (h.parts, append_assoc, append_assoc) (drop_at c.front _ 4 h.header.front)

-- what follows the reply address
after_path : (bytes : List ℕ) (c : CommandValue) (n : ℕ) → IsCommand bytes c → n ≡ length c.reply_address → drop (4 + n) bytes ≡ c.tail ++ c.body
after_path bytes c n h e =
    sym (drop-drop n 4 bytes) ∙ rw (after_front bytes c h) (drop_at c.reply_address _ n (sym e))

pub command_of-is : (p : Cargo) (c : CommandValue) → IsCommand p.bytes c → c.end ≡ p.end → c ≡ command_of p
command_of-is p c h same =
    let n = path_length p.bytes in
    let count : n ≡ length c.reply_address = path_length-of p.bytes c h in
    let front : take 4 p.bytes ≡ c.front = rw (h.parts, append_assoc, append_assoc) (take_at c.front _ 4 h.header.front) in
    let path : take n (drop 4 p.bytes) ≡ c.reply_address = rw (after_front p.bytes c h) (take_at c.reply_address _ n (sym count)) in
    let rest : drop (4 + n) p.bytes ≡ c.tail ++ c.body = after_path p.bytes c n h count in
    let tail : take 12 (drop (4 + n) p.bytes) ≡ c.tail = rw rest (take_at c.tail _ 12 h.header.tail) in
    let place : 16 + n ≡ 4 + n + 12 = omega arith in
    let body : drop (16 + n) p.bytes ≡ c.body = rw (place, ← drop-drop 12 (4 + n) p.bytes, rest) (drop_at c.tail _ 12 h.header.tail) in
    rw (front, path, tail, body, sym same) refl

-- the parts of a packet that is not discarded are a header
pub header_in : (p : Cargo) → discard_of p.bytes ≡ None → IsHeader (command_of p)
header_in p kept =
    let found = read_as p.bytes p.end kept in
    rw (← command_of-is p found.parts found.command found.ended) found.command.header

-- parts that are cut from a packet's bytes are those of the command there
pub cut_is : (p : Cargo) (n : ℕ) (c : CommandValue) → IsCut p.bytes n c → n ≡ path_length p.bytes → c.end ≡ p.end → c ≡ command_of p
cut_is p n c cut count end =
    let rest : drop n (drop 4 p.bytes) ≡ drop (4 + n) p.bytes = drop-drop n 4 p.bytes in
    let place : 4 + n + 12 ≡ 16 + n = omega arith in
    let path : c.reply_address ≡ take (path_length p.bytes) (drop 4 p.bytes) = rw (cut.reply_address, count) refl in
    let tail : c.tail ≡ take 12 (drop (4 + path_length p.bytes) p.bytes) = rw (cut.tail, rest, count) refl in
    let body : c.body ≡ drop (16 + path_length p.bytes) p.bytes = cut.body ∙ ap (λ (l : List ℕ). drop 12 l) rest ∙ drop-drop 12 (4 + n) p.bytes ∙ ap (λ (m : ℕ). drop m p.bytes) place ∙ ap (λ (m : ℕ). drop (16 + m) p.bytes) count in
    same_parts c (command_of p) cut.front path tail body end
