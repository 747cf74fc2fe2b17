-- The node of a load accepts its packets at the right places.
use Rattle.std.proofs.Common.{◌≡◌, ℕ, ◌+◌, ◌*◌, ◌<◌, ◌≤◌, ◌++◌, List, [], ◌∷◌, true, false, eqb, ltb, leb, length, Option, Some, None, refl, sym, ap, ◌/◌, ◌%◌, ◌∙◌, arith, length-take, length-drop, drop}
use Rattle.std.proofs.lemmas.Bool.{le-ltb, lt-ltb, le-leb}
use Rattle.std.proofs.lemmas.Bool.Decides.{nat_tests}
use Rattle.byteorder.specs.Endian.{big_bytes}
use Rattle.byteorder.specs.Numbers.{big_number-reads_back}
use Rattle.rcrc.specs.Crc.{crc_of}
use Rattle.rmap.specs.declared.kind.Kind.TheVariants.{Read, Write}
use Rattle.rmap.specs.declared.places.Place.{Place}
use Rattle.rmap.specs.declared.places.Place.TheVariants.{Staging, LoadResult, Control}
use Rattle.rmap.specs.Instruction.{carries_data, has_increment_bit, has_reply_bit, has_verify_bit, kind_of}
use Rattle.rmap.specs.Command.{CommandValue, address_of, command_kind, extended_of, increments, length_of, target_of, verifies}
use Rattle.rmap.specs.Checks.{header_check}
use Rattle.rmap.specs.Reply.{with_crc}
use Rattle.std.specs.Prelude.{slice_get}
use Rattle.rmap.specs.Windows.{WindowsValue, bank_place, boot_place, place_of}
use Rattle.initiator.specs.declared.write.CommandFields.{CommandFields}
use Rattle.initiator.specs.Loads.{control_bytes_of, control_request, part_of, result_request, stage_request}
use Rattle.initiator.specs.LoadPackets.{AreFieldsOf, AreForNode, IsTakenAt, LoadPacketsAreTaken}
use Rattle.initiator.specs.Writing.{command_with, header_with}
use Rattle.initiator.proofs.MadeRead.{bodies_are_right, is_made, length_is}

-- the address field is read as the address
address_is : (f : CommandFields) (body : List ℕ) → f.address < 4294967296 → address_of (command_with f body) ≡ f.address
address_is f body few = big_number-reads_back 4 f.address (big_bytes 3 f.length ++ crc_of (header_with f) ∷ []) few

-- the instruction of a command with the code of a write with reply and increment
writes_so : (i : ℕ) → i / 64 ≡ 1 → i / 4 % 16 ≡ 11 → kind_of i ≡ Write
writes_so i kind code = rw (kind, code) refl

-- and with that of a read with increment
reads_so : (i : ℕ) → i / 64 ≡ 1 → i / 4 % 16 ≡ 3 → kind_of i ≡ Read
reads_so i kind code = rw (kind, code) refl

-- its bits
replies : (i : ℕ) → i / 4 % 2 ≡ 1 → i / 8 % 2 ≡ 1 → i / 16 % 2 ≡ 0 → (has_increment_bit i ≡ true) × (has_reply_bit i ≡ true) × (has_verify_bit i ≡ false)
replies i increment reply verify = (ap (λ n. eqb n 1) increment, ap (λ n. eqb n 1) reply, ap (λ n. eqb n 1) verify)

-- the bits of those two codes
bits_of : (i code : ℕ) → i / 4 % 16 ≡ code → code % 8 ≡ 3 → (has_increment_bit i ≡ true) × (has_reply_bit i ≡ true) × (has_verify_bit i ≡ false)
bits_of i code is low =
    let increment : i / 4 % 2 ≡ 1 = omega (arith, is, low) in
    let reply : i / 8 % 2 ≡ 1 = omega (arith, is, low) in
    let verify : i / 16 % 2 ≡ 0 = omega (arith, is, low) in
    replies i increment reply verify

-- the bytes of a command to the boot window have the place that they have in it
in_window : (c : CommandValue) (place : Place) → extended_of c ≡ 255 → boot_place c ≡ Some place → bank_place None c ≡ Some place
in_window c place extended at =
    let same : eqb (extended_of c) 255 ≡ true = ap (λ n. eqb n 255) extended in
    rw same at

-- and so they do under windows that have no bank of its number
lies_there : (w : WindowsValue) (c : CommandValue) (place : Place) → extended_of c ≡ 255 → slice_get w.banks 255 ≡ None → boot_place c ≡ Some place → place_of c w ≡ Some place
lies_there w c place extended none at =
    ap (λ (b : Option (ℕ × ℕ)). bank_place b c) (ap (slice_get w.banks) extended ∙ none) ∙ in_window c place extended at

-- no check of the header stops a write for that node
write_passes : (w : WindowsValue) (c : CommandValue) (place : Place) → command_kind c ≡ Write → target_of c ≡ w.node_address → verifies c ≡ false → length_of c ≤ 4096 → place_of c w ≡ Some place → header_check c w ≡ None
write_passes w c place kind target verify few at =
    let mine : eqb (target_of c) w.node_address ≡ true = grind (arith, nat_tests, target) in
    let short : ltb 4096 (length_of c) ≡ false = le-ltb 4096 (length_of c) few in
    rw (kind, mine, verify, short, at) refl

-- and none stops a read
read_passes : (w : WindowsValue) (c : CommandValue) (place : Place) → command_kind c ≡ Read → target_of c ≡ w.node_address → verifies c ≡ false → length_of c ≤ 4096 → place_of c w ≡ Some place → header_check c w ≡ None
read_passes w c place kind target verify few at =
    let mine : eqb (target_of c) w.node_address ≡ true = grind (arith, nat_tests, target) in
    let short : ltb 4096 (length_of c) ≡ false = le-ltb 4096 (length_of c) few in
    rw (kind, mine, verify, short, at) refl

-- a write that does not pass the end of the staging lies in it
stages : (c : CommandValue) → command_kind c ≡ Write → increments c ≡ true → address_of c < 16384 → address_of c + length_of c ≤ 16384 → boot_place c ≡ Some Staging
stages c kind increment begins ends =
    let begun : leb 0 (address_of c) ≡ true = le-leb 0 (address_of c) (omega arith) in
    let inside : ltb (address_of c) 16384 ≡ true = lt-ltb (address_of c) 16384 begins in
    let fits : leb (address_of c + length_of c) 16384 ≡ true = le-leb (address_of c + length_of c) 16384 ends in
    rw (kind, increment, begun, inside, fits) refl

-- a write of four bytes to the register is a control write
controls : (c : CommandValue) → command_kind c ≡ Write → increments c ≡ true → address_of c ≡ 65536 → length_of c ≡ 4 → boot_place c ≡ Some Control
controls c kind increment address count = rw (kind, increment, address, count) refl

-- a read of eight bytes of the register reads the load result
reads : (c : CommandValue) → command_kind c ≡ Read → increments c ≡ true → address_of c ≡ 65536 → length_of c ≡ 8 → boot_place c ≡ Some LoadResult
reads c kind increment address count = rw (kind, increment, address, count) refl

-- a part of an image ends with the image at the latest
part_fits : (image : List ℕ) (number : ℕ) → length image ≤ 16384 → 4096 * number < length image → 4096 * number + length (part_of image number) ≤ 16384
part_fits image number short within =
    omega (arith, short, within, length-take 4096 (drop (4096 * number) image), length-drop (4096 * number) image)

part_few : (image : List ℕ) (number : ℕ) → length (part_of image number) ≤ 4096
part_few image number = omega (arith, length-take 4096 (drop (4096 * number) image))

-- the write of a part
staged_is_taken : (w : WindowsValue) (f : CommandFields) (transaction : ℕ) (image : List ℕ) (number : ℕ) → AreForNode w f → AreFieldsOf (stage_request transaction (part_of image number) number) f → length image ≤ 16384 → 4096 * number < length image → IsTakenAt w f (with_crc (part_of image number)) Write Staging
staged_is_taken w f transaction image number n h short within =
    let body = with_crc (part_of image number) in
    let c = command_with f body in
    let kind : kind_of f.instruction.0 ≡ Write = writes_so f.instruction.0 h.kind h.code in
    let bits = bits_of f.instruction.0 11 h.code refl in
    let ends = part_fits image number short within in
    let field : f.address ≡ 4096 * number = h.address in
    let count : length_of c ≡ length (part_of image number) = length_is f body h.fields ∙ h.count in
    let address : address_of c ≡ 4096 * number = address_is f body (omega (arith, field, ends)) ∙ field in
    let at = stages c kind bits.0 (omega (arith, address, short, within)) (omega (arith, address, count, ends)) in
    let place = lies_there w c Staging h.extended n.no_bank at in
    let carries = ap carries_data kind in
    record {
      command = is_made f body h.fields;
      is_kind = kind;
      replied = bits.1;
      placed = (write_passes w c Staging kind n.target bits.2 (omega (arith, count, part_few image number)) place, place);
      right = bodies_are_right.carried f (part_of image number) h.fields carries (sym h.count);
    }

-- the control write
control_is_taken : (w : WindowsValue) (f : CommandFields) (transaction : ℕ) (image : List ℕ) (slot : ℕ) → AreForNode w f → AreFieldsOf (control_request transaction image) f → IsTakenAt w f (with_crc (control_bytes_of slot image)) Write Control
control_is_taken w f transaction image slot n h =
    let body = with_crc (control_bytes_of slot image) in
    let c = command_with f body in
    let kind : kind_of f.instruction.0 ≡ Write = writes_so f.instruction.0 h.kind h.code in
    let bits = bits_of f.instruction.0 11 h.code refl in
    let field : f.address ≡ 65536 = h.address in
    let count : length_of c ≡ 4 = length_is f body h.fields ∙ h.count in
    let address : address_of c ≡ 65536 = address_is f body (omega (arith, field)) ∙ field in
    let at = controls c kind bits.0 address count in
    let place = lies_there w c Control h.extended n.no_bank at in
    let carries = ap carries_data kind in
    record {
      command = is_made f body h.fields;
      is_kind = kind;
      replied = bits.1;
      placed = (write_passes w c Control kind n.target bits.2 (omega (arith, count)) place, place);
      right = bodies_are_right.carried f (control_bytes_of slot image) h.fields carries (sym h.count);
    }

-- the read of the load result
read_is_taken : (w : WindowsValue) (f : CommandFields) (transaction : ℕ) (image : List ℕ) → AreForNode w f → AreFieldsOf (result_request transaction image) f → IsTakenAt w f [] Read LoadResult
read_is_taken w f transaction image n h =
    let c = command_with f [] in
    let kind : kind_of f.instruction.0 ≡ Read = reads_so f.instruction.0 h.kind h.code in
    let bits = bits_of f.instruction.0 3 h.code refl in
    let field : f.address ≡ 65536 = h.address in
    let count : length_of c ≡ 8 = length_is f [] h.fields ∙ h.count in
    let address : address_of c ≡ 65536 = address_is f [] (omega (arith, field)) ∙ field in
    let at = reads c kind bits.0 address count in
    let place = lies_there w c LoadResult h.extended n.no_bank at in
    let carries = ap carries_data kind in
    record {
      command = is_made f [] h.fields;
      is_kind = kind;
      replied = bits.1;
      placed = (read_passes w c LoadResult kind n.target bits.2 (omega (arith, count)) place, place);
      right = bodies_are_right.without f carries;
    }

-- all three
pub packets_are_taken : LoadPacketsAreTaken
packets_are_taken = record { staged = staged_is_taken; controlled = control_is_taken; read = read_is_taken }
