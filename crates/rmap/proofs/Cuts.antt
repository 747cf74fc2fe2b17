-- A header cut from the front of some bytes, part by part, is those bytes' header.
use Rattle.std.proofs.Common.{◌≡◌, ℕ, ◌+◌, ◌-◌, ◌*◌, ◌/◌, ◌%◌, ◌≤◌, ◌++◌, List, Bool, true, false, eqb, ltb, length, get_or, take, drop, None, Some, refl, sym, ap, ◌∙◌, arith, append_assoc, length-append}
use Rattle.std.proofs.lemmas.List.{drop-drop, take-take, take-append-drop, get_or-drop, get_or-take, length-take, length-drop, take_at, drop_at}
use Rattle.std.proofs.Math.Seq.{take-add}
use Rattle.std.proofs.lemmas.Bool.Decides.{nat_tests}
use Rattle.std.proofs.lemmas.Bool.{ne_eqb}
use Rattle.std.specs.Prelude.{not, if◌then◌else◌}
use Rattle.rcrc.specs.Crc.{crc_of}
use Rattle.rcrc.specs.Polynomial.{IsRemainder}
use Rattle.rmap.specs.Command.{CommandValue, IsHeader, IsCommand, bytes_of, header_of, header_crc_of, discard_of}
use Rattle.rmap.specs.Laws.{IsReadAs}
use Rattle.spw.specs.declared.packets.End.{End}
use Rattle.rmap.specs.declared.discard.Discard.{Discard}
use Rattle.rmap.specs.declared.discard.Discard.TheVariants.{Short, Protocol, Reply, HeaderCrc}

-- the parts are cut at the places that a reply address of n bytes gives
pub record IsCut (bytes : List ℕ) (n : ℕ) (c : CommandValue) : Type 0 where
  pub front : c.front ≡ take 4 bytes
  pub reply_address : c.reply_address ≡ take n (drop 4 bytes)
  pub tail : c.tail ≡ take 12 (drop n (drop 4 bytes))
  pub body : c.body ≡ drop 12 (drop n (drop 4 bytes))
  pub long : 16 + n ≤ length bytes

-- the parts, joined again, are the bytes
bytes_of-cut : (bytes : List ℕ) (n : ℕ) (c : CommandValue) → IsCut bytes n c → bytes ≡ bytes_of c
bytes_of-cut bytes n c h =
    let rest : drop n (drop 4 bytes) ≡ drop (4 + n) bytes = drop-drop n 4 bytes in
    let front : c.front ++ c.reply_address ≡ take (4 + n) bytes = rw (h.front, h.reply_address) (sym (take-add 4 n bytes)) in
    let header : (c.front ++ c.reply_address) ++ c.tail ≡ take (4 + n + 12) bytes = rw (front, h.tail, rest) (sym (take-add (4 + n) 12 bytes)) in
    let body : c.body ≡ drop (4 + n + 12) bytes = h.body ∙ ap (λ (l : List ℕ). drop 12 l) rest ∙ drop-drop 12 (4 + n) bytes in
    sym (rw (header, body) (take-append-drop (4 + n + 12) bytes))

-- the header without its CRC
pub header_of-cut : (bytes : List ℕ) (n : ℕ) (c : CommandValue) → IsCut bytes n c → header_of c ≡ take (15 + n) bytes
header_of-cut bytes n c h =
    let rest : drop n (drop 4 bytes) ≡ drop (4 + n) bytes = drop-drop n 4 bytes in
    let front : c.front ++ c.reply_address ≡ take (4 + n) bytes = rw (h.front, h.reply_address) (sym (take-add 4 n bytes)) in
    let tail : take 11 c.tail ≡ take 11 (drop (4 + n) bytes) = rw (h.tail, rest) (take-take 11 12 (drop (4 + n) bytes) (omega arith)) in
    let count : 15 + n ≡ 4 + n + 11 = omega arith in
    rw (front, tail, count) (sym (take-add (4 + n) 11 bytes))

-- the byte of the header CRC
pub header_crc_of-cut : (bytes : List ℕ) (n : ℕ) (c : CommandValue) → IsCut bytes n c → header_crc_of c ≡ get_or bytes (15 + n) 0
header_crc_of-cut bytes n c h =
    let rest : drop n (drop 4 bytes) ≡ drop (4 + n) bytes = drop-drop n 4 bytes in
    let count : 15 + n ≡ 4 + n + 11 = omega arith in
    rw (h.tail, rest, count) (get_or-take 12 (drop (4 + n) bytes) 11 0 (omega arith) ∙ get_or-drop (4 + n) bytes 11 0)

-- the header CRC is the remainder of the header
pub right_crc : (bytes : List ℕ) (n : ℕ) (c : CommandValue) → IsCut bytes n c → (crc : ℕ) → IsRemainder (take (15 + n) bytes) crc → header_crc_of c ≡ crc → IsRemainder (header_of c) (header_crc_of c)
right_crc bytes n c cut crc h same = rw (same, header_of-cut bytes n c cut) h

-- the parts are the command that the bytes are
pub is_command : (bytes : List ℕ) (n : ℕ) (c : CommandValue) → IsCut bytes n c → IsHeader c → IsCommand bytes c
is_command bytes n c cut header = record { header = header; parts = bytes_of-cut bytes n c cut }

-- a wrong header CRC is the last reason to discard
pub discard_of-crc : (bytes : List ℕ) (n : ℕ) (c : CommandValue) → IsCut bytes n c → n ≡ 4 * (get_or bytes 2 0 % 4) → get_or bytes 1 0 ≡ 1 → (get_or bytes 2 0 / 64 ≡ 0 → ⊥) → (header_crc_of c ≡ crc_of (take (15 + n) bytes) → ⊥) → discard_of bytes ≡ Some HeaderCrc
discard_of-crc bytes n c cut count protocol type wrong =
    let long : 16 + n ≤ length bytes = cut.long in
    let place : 16 + 4 * (get_or bytes 2 0 % 4) - 1 ≡ 15 + n = omega arith in
    let short : ltb (length bytes) 3 ≡ false = grind (arith, nat_tests) in
    let is_rmap : eqb (get_or bytes 1 0) 1 ≡ true = grind (arith, nat_tests) in
    let no_reply : eqb (get_or bytes 2 0 / 64) 0 ≡ false = grind (arith, nat_tests) in
    let whole : ltb (length bytes) (16 + 4 * (get_or bytes 2 0 % 4)) ≡ false = grind (arith, nat_tests) in
    let differs : eqb (get_or bytes (15 + n) 0) (crc_of (take (15 + n) bytes)) ≡ false = ne_eqb _ _ (λ e. wrong (header_crc_of-cut bytes n c cut ∙ e)) in
    rw (short, is_rmap, no_reply, whole, place, differs) refl

-- the parts are a header
pub is_header : (bytes : List ℕ) (n : ℕ) (c : CommandValue) → IsCut bytes n c → n ≡ 4 * (get_or bytes 2 0 % 4) → get_or bytes 1 0 ≡ 1 → (get_or bytes 2 0 / 64 ≡ 0 → ⊥) → header_crc_of c ≡ crc_of (take (15 + n) bytes) → IsHeader c
is_header bytes n c cut count protocol type crc =
    let long : 16 + n ≤ length bytes = cut.long in
    let second : get_or c.front 1 0 ≡ get_or bytes 1 0 = rw (cut.front) (get_or-take 4 bytes 1 0 (omega arith)) in
    let third : get_or c.front 2 0 ≡ get_or bytes 2 0 = rw (cut.front) (get_or-take 4 bytes 2 0 (omega arith)) in
    let front : length c.front ≡ 4 = rw (cut.front) (omega (arith, length-take 4 bytes)) in
    let path : length c.reply_address ≡ n = rw (cut.reply_address) (omega (arith, length-take n (drop 4 bytes), length-drop 4 bytes)) in
    let tail : length c.tail ≡ 12 = rw (cut.tail) (omega (arith, length-take 12 (drop n (drop 4 bytes)), length-drop n (drop 4 bytes), length-drop 4 bytes)) in
    record {
      front = front;
      reply_address = rw third (path ∙ count);
      tail = tail;
      protocol = second ∙ protocol;
      no_reply = rw third (omega arith);
      crc = crc ∙ ap crc_of (sym (header_of-cut bytes n c cut));
    }

-- a command has the parts that are cut from the front of its bytes
pub cut_of : (bytes : List ℕ) (c : CommandValue) → IsCommand bytes c → IsCut bytes (length c.reply_address) c
cut_of bytes c h =
    let whole : bytes ≡ c.front ++ (c.reply_address ++ (c.tail ++ c.body)) = h.parts ∙ append_assoc (c.front ++ c.reply_address) c.tail c.body ∙ append_assoc c.front c.reply_address (c.tail ++ c.body) in
    let after_front : drop 4 bytes ≡ c.reply_address ++ (c.tail ++ c.body) = rw whole (drop_at c.front (c.reply_address ++ (c.tail ++ c.body)) 4 h.header.front) in
    let after_address : drop (length c.reply_address) (drop 4 bytes) ≡ c.tail ++ c.body = rw after_front (drop_at c.reply_address (c.tail ++ c.body) (length c.reply_address) refl) in
    let front : length c.front ≡ 4 = h.header.front in
    let tail : length c.tail ≡ 12 = h.header.tail in
    record {
      front = rw whole (sym (take_at c.front (c.reply_address ++ (c.tail ++ c.body)) 4 front));
      reply_address = rw after_front (sym (take_at c.reply_address (c.tail ++ c.body) (length c.reply_address) refl));
      tail = rw after_address (sym (take_at c.tail c.body 12 tail));
      body = rw after_address (sym (drop_at c.tail c.body 12 tail));
      long = rw whole (omega (arith, length-append c.front (c.reply_address ++ (c.tail ++ c.body)), length-append c.reply_address (c.tail ++ c.body), length-append c.tail c.body));
    }

-- a command is not discarded
pub not_discarded : (bytes : List ℕ) (c : CommandValue) → IsCommand bytes c → discard_of bytes ≡ None
not_discarded bytes c h =
    let n = length c.reply_address in
    let cut : IsCut bytes n c = cut_of bytes c h in
    let long : 16 + n ≤ length bytes = cut.long in
    let second : get_or c.front 1 0 ≡ get_or bytes 1 0 = rw (cut.front) (get_or-take 4 bytes 1 0 (omega arith)) in
    let third : get_or c.front 2 0 ≡ get_or bytes 2 0 = rw (cut.front) (get_or-take 4 bytes 2 0 (omega arith)) in
    let protocol : get_or bytes 1 0 ≡ 1 = sym second ∙ h.header.protocol in
    let type : 1 ≤ get_or bytes 2 0 / 64 = rw (← third) (h.header.no_reply) in
    let count : n ≡ 4 * (get_or bytes 2 0 % 4) = rw (← third) (h.header.reply_address) in
    let place : 16 + 4 * (get_or bytes 2 0 % 4) - 1 ≡ 15 + n = omega arith in
    let crc : get_or bytes (15 + n) 0 ≡ crc_of (take (15 + n) bytes) = sym (header_crc_of-cut bytes n c cut) ∙ h.header.crc ∙ ap crc_of (header_of-cut bytes n c cut) in
    let short : ltb (length bytes) 3 ≡ false = grind (arith, nat_tests) in
    let is_rmap : eqb (get_or bytes 1 0) 1 ≡ true = grind (arith, nat_tests) in
    let no_reply : eqb (get_or bytes 2 0 / 64) 0 ≡ false = grind (arith, nat_tests) in
    let whole : ltb (length bytes) (16 + 4 * (get_or bytes 2 0 % 4)) ≡ false = grind (arith, nat_tests) in
    let right : eqb (get_or bytes (15 + n) 0) (crc_of (take (15 + n) bytes)) ≡ true = grind (arith, nat_tests) in
    rw (short, is_rmap, no_reply, whole, place, right) refl

-- commands with the same parts are the same
pub same_parts : (c d : CommandValue) → c.front ≡ d.front → c.reply_address ≡ d.reply_address → c.tail ≡ d.tail → c.body ≡ d.body → c.end ≡ d.end → c ≡ d
same_parts c d front path tail body end =
    let parts : List ℕ → List ℕ → List ℕ → List ℕ → End → CommandValue = λ f p t b e. record { front = f; reply_address = p; tail = t; body = b; end = e } in
    ap (λ (f : List ℕ). parts f c.reply_address c.tail c.body c.end) front
    ∙ ap (λ (p : List ℕ). parts d.front p c.tail c.body c.end) path
    ∙ ap (λ (t : List ℕ). parts d.front d.reply_address t c.body c.end) tail
    ∙ ap (λ (b : List ℕ). parts d.front d.reply_address d.tail b c.end) body
    ∙ ap (λ (e : End). parts d.front d.reply_address d.tail d.body e) end

-- bytes and an end marker are at most one command
pub only_command : (bytes : List ℕ) (c d : CommandValue) → IsCommand bytes c → IsCommand bytes d → c.end ≡ d.end → c ≡ d
only_command bytes c d h k end =
    let cut : IsCut bytes (length c.reply_address) c = cut_of bytes c h in
    let cut' : IsCut bytes (length d.reply_address) d = cut_of bytes d k in
    let front : c.front ≡ d.front = cut.front ∙ sym cut'.front in
    let count : length c.reply_address ≡ length d.reply_address = h.header.reply_address ∙ ap (λ (l : List ℕ). 4 * (get_or l 2 0 % 4)) front ∙ sym k.header.reply_address in
    let path : c.reply_address ≡ d.reply_address = cut.reply_address ∙ ap (λ (n : ℕ). take n (drop 4 bytes)) count ∙ sym cut'.reply_address in
    let tail : c.tail ≡ d.tail = cut.tail ∙ ap (λ (n : ℕ). take 12 (drop n (drop 4 bytes))) count ∙ sym cut'.tail in
    let body : c.body ≡ d.body = cut.body ∙ ap (λ (n : ℕ). drop 12 (drop n (drop 4 bytes))) count ∙ sym cut'.body in
    same_parts c d front path tail body end

-- if bytes are discarded, they are no command
pub refused : (bytes : List ℕ) (d : Discard) → discard_of bytes ≡ Some d → (c : CommandValue) → IsCommand bytes c → ⊥
refused bytes d h c command = let e : None ≡ Some d = sym (not_discarded bytes c command) ∙ h in cc

-- no test of a discard holds
record IsKept (short is_rmap is_reply cut is_right : Bool) : Type 0 where
  pub long : short ≡ false
  pub rmap : is_rmap ≡ true
  pub command : is_reply ≡ false
  pub whole : cut ≡ false
  pub right : is_right ≡ true

kept : (short is_rmap is_reply cut is_right : Bool) → (if short then Some Short else if not is_rmap then Some Protocol else if is_reply then Some Reply else if cut then Some Short else if not is_right then Some HeaderCrc else None) ≡ None → IsKept short is_rmap is_reply cut is_right
kept false true false false true h = record { long = refl; rmap = refl; command = refl; whole = refl; right = refl }
kept false true false false false h = absurd cc
kept false true false true e h = absurd cc
kept false true true d e h = absurd cc
kept false false c d e h = absurd cc
kept true b c d e h = absurd cc

-- bytes that are not discarded are a command
pub read_as : (bytes : List ℕ) (end : End) → discard_of bytes ≡ None → IsReadAs bytes end
read_as bytes end h =
    let n = 4 * (get_or bytes 2 0 % 4) in
    let tests : IsKept (ltb (length bytes) 3) (eqb (get_or bytes 1 0) 1) (eqb (get_or bytes 2 0 / 64) 0) (ltb (length bytes) (16 + n)) (eqb (get_or bytes (16 + n - 1) 0) (crc_of (take (16 + n - 1) bytes))) = kept _ _ _ _ _ h in
    let long : 16 + n ≤ length bytes = grind (arith, nat_tests, tests.whole) in
    let protocol : get_or bytes 1 0 ≡ 1 = grind (arith, nat_tests, tests.rmap) in
    let type : get_or bytes 2 0 / 64 ≡ 0 → ⊥ = grind (arith, nat_tests, tests.command) in
    let place : 16 + n - 1 ≡ 15 + n = omega arith in
    let parts : CommandValue = record { front = take 4 bytes; reply_address = take n (drop 4 bytes); tail = take 12 (drop n (drop 4 bytes)); body = drop 12 (drop n (drop 4 bytes)); end = end } in
    let cut : IsCut bytes n parts = record { front = refl; reply_address = refl; tail = refl; body = refl; long = long } in
    let crc : get_or bytes (15 + n) 0 ≡ crc_of (take (15 + n) bytes) = rw (← place) (grind (arith, nat_tests, tests.right)) in
    record {
      parts = parts;
      command = is_command bytes n parts cut (is_header bytes n parts cut refl protocol type (header_crc_of-cut bytes n parts cut ∙ crc));
      ended = refl;
    }
