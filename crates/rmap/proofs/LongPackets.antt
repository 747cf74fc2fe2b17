-- The first 4,200 bytes of a packet that has at least as many are checked as the whole packet is.
use Rattle.std.proofs.Common.{◌≡◌, ℕ, ◌+◌, ◌-◌, ◌*◌, ◌%◌, ◌≤◌, ◌<◌, List, true, false, cond, eqb, ltb, length, get_or, take, drop, Option, None, Some, refl, ap, ◌∙◌, arith}
use Rattle.std.specs.Prelude.{◌==◌, ◌&&◌, not, is_none, option_map, slice_get}
use Rattle.std.proofs.lemmas.List.{drop-take, take-take, get_or-take, length-take-le, length-drop}
use Rattle.std.proofs.lemmas.Bool.Decides.{nat_tests}
use Rattle.spw.specs.Cargo.{Cargo}
use Rattle.spw.specs.declared.packets.End.{End}
use Rattle.spw.specs.declared.packets.End.TheVariants.{Eop, Eep}
use Rattle.rmap.specs.declared.header_faults.HeaderFault.TheVariants as faults
use Rattle.rmap.specs.declared.kind.Kind.{Kind}
use Rattle.rmap.specs.declared.kind.Kind.TheVariants.{Read, Write, Rmw, Unused}
use Rattle.rmap.specs.declared.places.Place.{Place}
use Rattle.rmap.specs.declared.places.Place.TheVariants.{Staging}
use Rattle.rmap.specs.Instruction.{carries_data, is_used}
use Rattle.rmap.specs.Command.{CommandValue, command_of, command_kind, discard_of, instruction_of, length_of, path_length, target_of, verifies}
use Rattle.rmap.specs.Windows.{WindowsValue, bank_place, is_staged, place_of, load_register_of}
use Rattle.rmap.specs.Checks.{body_line, body_line_at, has_wrong_rmw_length, header_check, header_line, header_status, miss_in, miss_of, wanted_length}
use Rattle.rmap.specs.Laws.{HaveSameHeader, LongPacketIsCut, cut_to_longest}
use Rattle.lemmas.proofs.Options.{passed, unmapped}

-- a reply address has at most 12 bytes
few : (byte : ℕ) → 4 * (byte % 4) ≤ 12
few byte = omega arith

-- a byte of the first 4,200 is the same in the whole
byte_of : (bytes : List ℕ) (k : ℕ) → k < 4200 → get_or (take 4200 bytes) k 0 ≡ get_or bytes k 0
byte_of bytes k below = get_or-take 4200 bytes k 0 below

front_of : (bytes : List ℕ) (k : ℕ) → k ≤ 4200 → take k (take 4200 bytes) ≡ take k bytes
front_of bytes k few = take-take k 4200 bytes few

-- `count` bytes from a place on are the same in the first 4,200 and in the whole
part_of : (bytes : List ℕ) (place count : ℕ) → place + count ≤ 4200 → take count (drop place (take 4200 bytes)) ≡ take count (drop place bytes)
part_of bytes place count few =
    let rest : 4200 ≡ place + (4200 - place) = omega (arith, few) in
    let following : drop place (take 4200 bytes) ≡ take (4200 - place) (drop place bytes) = ap (λ n. drop place (take n bytes)) rest ∙ drop-take place (4200 - place) bytes in
    rw following (take-take count (4200 - place) (drop place bytes) (omega (arith, few)))

path_of : (bytes : List ℕ) → path_length (take 4200 bytes) ≡ path_length bytes
path_of bytes = ap (λ byte. 4 * (byte % 4)) (byte_of bytes 2 (omega arith))

discarded : (bytes : List ℕ) → 4200 ≤ length bytes → discard_of (take 4200 bytes) ≡ discard_of bytes
discarded bytes long =
    let n = 4 * (get_or bytes 2 0 % 4) in
    let path : n ≤ 12 = few (get_or bytes 2 0) in
    let count : length (take 4200 bytes) ≡ 4200 = length-take-le 4200 bytes long in
    let second : get_or (take 4200 bytes) 1 0 ≡ get_or bytes 1 0 = byte_of bytes 1 (omega arith) in
    let third : get_or (take 4200 bytes) 2 0 ≡ get_or bytes 2 0 = byte_of bytes 2 (omega arith) in
    let last : get_or (take 4200 bytes) (16 + n - 1) 0 ≡ get_or bytes (16 + n - 1) 0 = byte_of bytes (16 + n - 1) (omega (arith, path)) in
    let checked : take (16 + n - 1) (take 4200 bytes) ≡ take (16 + n - 1) bytes = front_of bytes (16 + n - 1) (omega (arith, path)) in
    let short : ltb (length bytes) 3 ≡ false = grind (arith, nat_tests) in
    let whole : ltb (length bytes) (16 + n) ≡ false = grind (arith, nat_tests) in
    let cut : ltb 4200 (16 + n) ≡ false = grind (arith, nat_tests) in
    rw (count, second, third, last, checked, short, whole, cut) refl

header : (p : Cargo) → HaveSameHeader (command_of (cut_to_longest p)) (command_of p)
header p =
    let path : path_length p.bytes ≤ 12 = few (get_or p.bytes 2 0) in
    let same = path_of p.bytes in
    record {
      front = front_of p.bytes 4 (omega arith);
      reply_address = ap (λ n. take n (drop 4 (take 4200 p.bytes))) same ∙ part_of p.bytes 4 (path_length p.bytes) (omega (arith, path));
      tail = ap (λ n. take 12 (drop (4 + n) (take 4200 p.bytes))) same ∙ part_of p.bytes (4 + path_length p.bytes) 12 (omega (arith, path));
    }

-- the command of these parts
of_parts : (front reply_address tail body : List ℕ) → End → CommandValue
of_parts f r t b e = record { front = f; reply_address = r; tail = t; body = b; end = e }

-- the checks of a header look at the front and the tail
module _ (f t r u b d : List ℕ) (e : End) where
  same_register : (kind : Kind) → load_register_of kind (of_parts f r t b e) ≡ load_register_of kind (of_parts f u t d e)
  unfolding of_parts
  same_register Read = refl
  same_register Write = refl
  same_register Rmw = refl
  same_register Unused = refl

  same_place : (found : Option (ℕ × ℕ)) → bank_place found (of_parts f r t b e) ≡ bank_place found (of_parts f u t d e)
  unfolding of_parts
  same_place None =
      ap (λ (x : Option Place). cond (eqb (get_or t 3 0) 255) (cond (is_staged (of_parts f u t d e)) (Some Staging) x) None) (same_register (command_kind (of_parts f u t d e)))
  same_place (Some bank) = refl

  same_miss : (found : Option (ℕ × ℕ)) → miss_in found (of_parts f r t b e) ≡ miss_in found (of_parts f u t d e)
  unfolding of_parts
  same_miss None = refl
  same_miss (Some bank) = refl

  same_checks_after : (w : WindowsValue) → header_check (of_parts f r t b e) w ≡ header_check (of_parts f u t d e) w
  unfolding of_parts
  same_checks_after w =
      let place = same_place (slice_get w.banks (get_or t 3 0)) in
      let miss = same_miss (slice_get w.banks (get_or t 3 0)) in
      rw (place, miss) refl

same_checks : (f g s t r u b d : List ℕ) (e : End) (w : WindowsValue) → f ≡ g → s ≡ t
    → header_check (of_parts f r s b e) w ≡ header_check (of_parts g u t d e) w
same_checks f g s t r u b d e w front tail = rw (front, tail) (same_checks_after g t r u b d e w)

checks : (p : Cargo) (w : WindowsValue) → header_check (command_of (cut_to_longest p)) w ≡ header_check (command_of p) w
unfolding of_parts
checks p w =
    let same = header p in
    let c = command_of (cut_to_longest p) in
    let d = command_of p in
    same_checks c.front d.front c.tail d.tail c.reply_address d.reply_address c.body d.body p.end w same.front same.tail

-- if the header passes its checks, at most 4,097 bytes should follow it
few_wanted : (c : CommandValue) (w : WindowsValue) → header_line c w ≡ None → length_of c ≤ 4096
few_wanted c w allowed =
    let used = passed (not (is_used (command_kind c))) (faults.UnusedCode (record { 0 = instruction_of c })) _ (unmapped header_status (header_check c w) allowed) in
    let target = passed (not (target_of c == w.node_address)) (faults.OtherNode (target_of c) w.node_address) _ used.1 in
    let rmw = passed (has_wrong_rmw_length (command_kind c) (length_of c)) (faults.WrongRmwLength (length_of c)) _ target.1 in
    let verify = passed (verifies c && ltb 1024 (length_of c)) (faults.TooManyToVerify (length_of c)) _ rmw.1 in
    let bytes = passed (ltb 4096 (length_of c)) (faults.TooManyBytes (length_of c)) (cond (is_none (place_of c w)) (Some (faults.NoPlace (miss_of c w))) None) verify.1 in
    let most : ltb 4096 (length_of c) ≡ false = bytes.0 in
    grind (arith, nat_tests)

wanted : (kind : Kind) (n : ℕ) → n ≤ 4096 → cond (carries_data kind) (n + 1) 0 ≤ 4097
wanted Read n few = omega arith
wanted Write n few = omega (arith, few)
wanted Rmw n few = omega (arith, few)
wanted Unused n few = omega arith

-- if both have more bytes after the header than should follow, the checks of their bodies agree
both_long : (end : End) (c d : CommandValue) → wanted_length c < length c.body → wanted_length d < length d.body → body_line_at end c ≡ body_line_at end d
both_long Eep c d k l = refl
both_long Eop c d k l =
    let c_few : ltb (length c.body) (wanted_length c) ≡ false = grind (arith, nat_tests) in
    let d_few : ltb (length d.body) (wanted_length d) ≡ false = grind (arith, nat_tests) in
    let c_many : ltb (wanted_length c) (length c.body) ≡ true = grind (arith, nat_tests) in
    let d_many : ltb (wanted_length d) (length d.body) ≡ true = grind (arith, nat_tests) in
    rw (c_few, d_few, c_many, d_many) refl

-- 4,200 bytes or more have more bytes after the header than should follow it
long_body : (p : Cargo) (w : WindowsValue) → 4200 ≤ length p.bytes → header_line (command_of p) w ≡ None → wanted_length (command_of p) < length (command_of p).body
long_body p w long allowed =
    let c = command_of p in
    let path : path_length p.bytes ≤ 12 = few (get_or p.bytes 2 0) in
    let most = wanted (command_kind c) (length_of c) (few_wanted c w allowed) in
    omega (arith, path, most, long, length-drop (16 + path_length p.bytes) p.bytes)

line : (p : Cargo) (w : WindowsValue) → header_line (command_of (cut_to_longest p)) w ≡ header_line (command_of p) w
line p w = ap (option_map header_status) (checks p w)

body : (p : Cargo) (w : WindowsValue) → 4200 ≤ length p.bytes → header_line (command_of p) w ≡ None → body_line (command_of (cut_to_longest p)) ≡ body_line (command_of p)
body p w long allowed =
    let count : 4200 ≤ length (take 4200 p.bytes) = omega (arith, length-take-le 4200 p.bytes long) in
    both_long p.end _ _ (long_body (cut_to_longest p) w count (line p w ∙ allowed)) (long_body p w long allowed)

pub long_is_cut : LongPacketIsCut
long_is_cut = record {
  discarded = λ p long. discarded p.bytes long;
  header = λ p long. header p;
  checks = λ p w long. checks p w;
  line = λ p w long. line p w;
  body = body;
}
