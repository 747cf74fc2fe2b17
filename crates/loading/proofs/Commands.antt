-- A packet that is sent for a load is the command that its request asks for.
use Rattle.std.proofs.Common.{◌≡◌, ◌<◌, ◌≤◌, ◌*◌, ◌+◌, ◌/◌, ◌%◌, ◌++◌, ◌∷◌, [], ℕ, List, true, eqb, length, take, drop, Some, None, refl, sym, ap, subst, ◌∙◌, arith, append_assoc}
use Rattle.std.proofs.lemmas.List.{drop-drop, take_at, drop_at}
use Rattle.std.specs.Prelude.{slice_get}
use Rattle.spw.specs.Cargo.{Cargo}
use Rattle.spw.specs.declared.packets.End.{End}
use Rattle.spw.specs.declared.packets.End.TheVariants.{Eop}
use Rattle.rmap.specs.declared.kind.Kind.{Kind}
use Rattle.rmap.specs.declared.kind.Kind.TheVariants.{Read, Write}
use Rattle.rmap.specs.declared.places.Place.{Place}
use Rattle.rmap.specs.declared.places.Place.TheVariants.{Staging, LoadResult, Control}
use Rattle.rmap.specs.Instruction.{has_increment_bit}
use Rattle.rmap.specs.Command.{CommandValue, address_of, bytes_of, command_kind, command_of, discard_of, increments, length_of, path_length}
use Rattle.rmap.specs.Checks.{body_line, data_of, header_check}
use Rattle.rmap.specs.Laws.{CommandsAreKept}
use Rattle.rmap.specs.Reply.{with_crc}
use Rattle.rmap.specs.Windows.{WindowsValue, place_of}
use Rattle.rcrc.specs.Crc.{crc_of}
use Rattle.initiator.specs.declared.requests.Request.{Request}
use Rattle.initiator.specs.declared.write.CommandFields.{CommandFields}
use Rattle.initiator.specs.Laws.{MadeCommandsAreRead}
use Rattle.initiator.specs.LoadPackets.{AreFieldsOf, IsTakenAt, LoadPacketsAreTaken}
use Rattle.initiator.specs.Loads.{control_bytes_of, control_request, part_of, result_request, stage_request}
use Rattle.initiator.specs.Writing.{AreFields, command_with}
use Rattle.loading.specs.Sent.{IsSent}

-- the parts of what is made of fields are cut from its bytes again
parts_again : (f : CommandFields) (body : List ℕ) (end : End) → AreFields f → command_of (record { bytes = bytes_of (command_with f body); end = end }) ≡ record (command_with f body) { end = end }
parts_again f body end h =
    let path = f.reply_address.now in
    let tail = (command_with f body).tail in
    let p : Cargo = record { bytes = bytes_of (command_with f body); end = end } in
    let count : length path ≡ path_length p.bytes = h.address in
    let n = path_length p.bytes in
    let following : drop 4 p.bytes ≡ path ++ (tail ++ body) = append_assoc path tail body in
    let is_path : take n (drop 4 p.bytes) ≡ path = ap (take n) following ∙ take_at path (tail ++ body) n count in
    let rest : drop (4 + n) p.bytes ≡ tail ++ body = sym (drop-drop n 4 p.bytes) ∙ ap (drop n) following ∙ drop_at path (tail ++ body) n count in
    let is_tail : take 12 (drop (4 + n) p.bytes) ≡ tail = ap (take 12) rest ∙ take_at tail body 12 refl in
    let place : 16 + n ≡ 4 + n + 12 = omega arith in
    let is_body : drop (16 + n) p.bytes ≡ body = ap (λ k. drop k p.bytes) place ∙ sym (drop-drop 12 (4 + n) p.bytes) ∙ ap (drop 12) rest ∙ drop_at tail body 12 refl in
    let whole : List ℕ → List ℕ → List ℕ → CommandValue = λ r t b. record { front = take 4 p.bytes; reply_address = r; tail = t; body = b; end = end } in
    ap (λ r. whole r (take 12 (drop (4 + n) p.bytes)) (drop (16 + n) p.bytes)) is_path
    ∙ ap (λ t. whole path t (drop (16 + n) p.bytes)) is_tail
    ∙ ap (λ b. whole path tail b) is_body

-- so the command of the packet is what was made
made_again : (f : CommandFields) (body : List ℕ) (p : Cargo) → AreFields f → p.bytes ≡ bytes_of (command_with f body) → p.end ≡ Eop → command_of p ≡ command_with f body
made_again f body p h bytes end =
    ap (λ (b : List ℕ). command_of (record { bytes = b; end = p.end })) bytes
    ∙ parts_again f body p.end h
    ∙ ap (λ (e : End). record (command_with f body) { end = e }) end

-- if the lowest bit of a code is set, it increments
increments_by : (i code : ℕ) → i / 4 % 16 ≡ code → code % 2 ≡ 1 → has_increment_bit i ≡ true
increments_by i code is low = let bit : i / 4 % 2 ≡ 1 = omega (arith, is, low) in ap (λ n. eqb n 1) bit

-- what a packet is that a node with those windows takes at that place, with a right body
pub record IsTaken (w : WindowsValue) (p : Cargo) (c : CommandValue) (kind : Kind) (place : Place) (address count : ℕ) : Type 0 where
  pub kept : discard_of p.bytes ≡ None
  pub command : command_of p ≡ c
  pub allowed : header_check c w ≡ None
  pub lies : place_of c w ≡ Some place
  pub is_kind : command_kind c ≡ kind
  pub right : body_line c ≡ None
  pub increment : increments c ≡ true
  pub address_is : address_of c ≡ address
  pub count_is : length_of c ≡ count

-- a packet that is sent, by what is known of the commands of a load
taken : CommandsAreKept → MadeCommandsAreRead → (w : WindowsValue) (r : Request) (f : CommandFields) (body : List ℕ) (p : Cargo) (kind : Kind) (place : Place) → r.transaction < 65536 → r.address < 4294967296 → r.code % 2 ≡ 1 → AreFieldsOf r f → p.bytes ≡ bytes_of (command_with f body) → p.end ≡ Eop → IsTakenAt w f body kind place → IsTaken w p (command_with f body) kind place r.address r.count
taken keeps reads w r f body p kind place few below low are bytes end at =
    let transaction : f.transaction < 65536 = subst (λ n. n < 65536) (sym are.transaction) few in
    let address : f.address < 4294967296 = subst (λ n. n < 4294967296) (sym are.address) below in
    let fields = (reads f body are.fields (record { transaction = transaction; address = address })).1 in
    record {
      kept = subst (λ (b : List ℕ). discard_of b ≡ None) (sym bytes) (keeps (bytes_of (command_with f body)) (command_with f body) at.command);
      command = made_again f body p are.fields bytes end;
      allowed = at.placed.0;
      lies = at.placed.1;
      is_kind = at.is_kind;
      right = at.right;
      increment = increments_by f.instruction.0 r.code are.code low;
      address_is = fields.address ∙ are.address;
      count_is = fields.data_length ∙ are.count;
    }

-- as many bytes as the length field says are the data of a body
data_are : (c : CommandValue) (bytes : List ℕ) → c.body ≡ with_crc bytes → length_of c ≡ length bytes → data_of c ≡ bytes
data_are c bytes body count =
    ap (λ (l : List ℕ). take (length_of c) l) body ∙ take_at bytes (crc_of bytes ∷ []) (length_of c) (sym count)

-- a transaction identifier has two bytes
two_bytes : (n : ℕ) → n % 65536 < 65536
two_bytes n = omega arith

-- the write of a part
pub record IsPart (w : WindowsValue) (image : List ℕ) (number : ℕ) (p : Cargo) (c : CommandValue) : Type 0 where
  pub taken : IsTaken w p c Write Staging (4096 * number) (length (part_of image number))
  pub carried : data_of c ≡ part_of image number

pub is_part : CommandsAreKept → MadeCommandsAreRead → LoadPacketsAreTaken → (w : WindowsValue) (transaction : ℕ) (image : List ℕ) (number : ℕ) (p : Cargo)
    → slice_get w.banks 255 ≡ None → length image ≤ 16384 → 4096 * number < length image
    → IsSent w.node_address (stage_request transaction (part_of image number) number) (with_crc (part_of image number)) p → (c : CommandValue) × IsPart w image number p c
is_part keeps reads law w transaction image number p none short within sent =
    let f = sent.fields in
    let part = part_of image number in
    let at = law.staged w f transaction image number (record { target = sent.target; no_bank = none }) sent.are_fields short within in
    let is = taken keeps reads w (stage_request transaction part number) f (with_crc part) p Write Staging (two_bytes (transaction + number)) (omega (arith, short, within)) refl sent.are_fields sent.bytes sent.end at in
    (command_with f (with_crc part), record { taken = is; carried = data_are (command_with f (with_crc part)) part refl is.count_is })

-- the control write
pub record IsControl (w : WindowsValue) (slot : ℕ) (image : List ℕ) (p : Cargo) (c : CommandValue) : Type 0 where
  pub taken : IsTaken w p c Write Control 65536 4
  pub body : c.body ≡ with_crc (control_bytes_of slot image)

pub is_control : CommandsAreKept → MadeCommandsAreRead → LoadPacketsAreTaken → (w : WindowsValue) (transaction slot : ℕ) (image : List ℕ) (p : Cargo)
    → slice_get w.banks 255 ≡ None → IsSent w.node_address (control_request transaction image) (with_crc (control_bytes_of slot image)) p → (c : CommandValue) × IsControl w slot image p c
is_control keeps reads law w transaction slot image p none sent =
    let f = sent.fields in
    let body = with_crc (control_bytes_of slot image) in
    let at = law.controlled w f transaction image slot (record { target = sent.target; no_bank = none }) sent.are_fields in
    let is = taken keeps reads w (control_request transaction image) f body p Write Control (two_bytes _) (omega arith) refl sent.are_fields sent.bytes sent.end at in
    (command_with f body, record { taken = is; body = refl })

-- the read of the load result
pub is_read : CommandsAreKept → MadeCommandsAreRead → LoadPacketsAreTaken → (w : WindowsValue) (transaction : ℕ) (image : List ℕ) (p : Cargo)
    → slice_get w.banks 255 ≡ None → IsSent w.node_address (result_request transaction image) [] p → (c : CommandValue) × IsTaken w p c Read LoadResult 65536 8
is_read keeps reads law w transaction image p none sent =
    let f = sent.fields in
    let at = law.read w f transaction image (record { target = sent.target; no_bank = none }) sent.are_fields in
    (command_with f [], taken keeps reads w (result_request transaction image) f [] p Read LoadResult (two_bytes _) (omega arith) refl sent.are_fields sent.bytes sent.end at)
