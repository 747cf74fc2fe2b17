-- The banks of a node, and its ports, before and after a packet and a journal that is handed out.
use Rattle.std.proofs.Common.{◌≡◌, ◌<◌, ◌≤◌, ℕ, zero, suc, Bool, true, false, List, ◌∷◌, [], length, Some, None, set, refl, sym, ap, subst, arith, ◌∙◌}
use Rattle.std.specs.Prelude.{◌&&◌, not, nat_le, map, slice_get, if◌then◌else◌}
use Rattle.std.specs.Cmp.Derive.{both_true}
use Rattle.std.specs.List.{list_all}
use Rattle.std.proofs.lemmas.Bool.{leb-true, and_parts}
use Rattle.std.proofs.lemmas.List.{length-set}
use Rattle.std.proofs.lemmas.Option.{get_or_from_slice_get}
use Rattle.std.proofs.Math.Seq.{map-set_same}
use Rattle.bank.specs.Limits.{is_ports, is_range, is_room}
use Rattle.bank.specs.Records.{BankValue, JournalValue, JudgedValue, ShareValue, after_record, answer_of, has_room}
use Rattle.bank.specs.declared.journal.TheConstants.{MAX_ROOM}
use Rattle.spw.specs.Cargo.{Cargo}
use Rattle.node_parts.specs.Applied.{share_of}
use Rattle.node_parts.specs.Nodes.{are_within, bank_of, fresh_banks, is_within, limit_fault}
use Rattle.node_parts.specs.declared.config.BankConfig.{BankConfig}
use Rattle.node_parts.specs.declared.config.NodeConfig.{NodeConfig}
use Rattle.node_parts.specs.declared.faults.NodeFault.TheVariants.{Banks, Ports}
use Rattle.node_parts.specs.Passes.{PassValue}
use Rattle.node_parts.specs.Served.{IsAnswered, PartsValue}
use Rattle.node_parts.specs.declared.served.Served.{Served}
use Rattle.node_parts.specs.declared.served.Served.TheVariants.{Stopped, Unread, Done, Window}
use Rattle.single_node.specs.Nodes.{Rotates, RotatesTo, SetsBytes as SetsAlone, SetsMemory, SingleNodeValue, covers_in, room_in}
use Rattle.single_node.specs.Serving.{ServesPacketAt as ServesAlone}
use Rattle.job_nodes.specs.JobNode.{ArePortsKept, HandsOut, IsJobNode, JobNodeValue, SetsNodeBytes, alone, emptied, journal_of, rooms_of}

-- how many entries its journal has room for
abbrev room : BankValue → ℕ
room b = b.journal.room

-- a judged command leaves the room of a journal
by_room : (t : Bool) (b : BankValue) (share : ShareValue) (judged : JudgedValue) → room (if t then after_record b share judged (answer_of b judged) else b) ≡ room b
by_room true b share judged = refl
by_room false b share judged = refl

-- a bank in the place of another, with as much room in its journal
rooms_stay : (banks : List BankValue) (k : ℕ) (b new : BankValue) → slice_get banks k ≡ Some b → room new ≡ room b → rooms_of (set banks k new) ≡ rooms_of banks
rooms_stay banks k b new at same = map-set_same room banks k new b (same ∙ ap room (sym (get_or_from_slice_get banks k b b at)))

-- the banks after a packet
pub answered_rooms : (served : Served) (p : Cargo) (old new : PartsValue) (h after : PassValue) (reply : List ℕ) → IsAnswered served p old new h after reply
    → rooms_of new.banks ≡ rooms_of old.banks
answered_rooms (Stopped stop) p old new h after reply s = ap (λ (x : PartsValue). rooms_of x.banks) s.1.node
answered_rooms Unread p old new h after reply s = ap (λ (x : PartsValue). rooms_of x.banks) s.1.node
answered_rooms (Done result) p old new h after reply s =
    ap (λ (x : PartsValue). rooms_of x.banks) s.node
    ∙ rooms_stay old.banks s.number s.before s.following s.bank (ap room s.ended.bank ∙ by_room (has_room s.before s.judged.port) s.before (share_of s.between s.judged.place) s.judged)
answered_rooms (Window status) p old new h after reply s = ap rooms_of s.banks

-- the same ports with as many bytes, and the same rooms
pub stays : (before after : JobNodeValue) → rooms_of after.banks ≡ rooms_of before.banks → length after.passes ≡ length before.passes → after.held ≡ before.held
    → IsJobNode before → IsJobNode after
stays before after rooms ports held is = record {
  some = subst (λ (n : ℕ). 1 ≤ n) (sym ports) is.some;
  rooms = ap (λ (xs : List ℕ). list_all (λ room. nat_le 1 room) xs) rooms ∙ is.rooms;
  ports = ap (λ (xs : List (List ℕ)). length xs) held ∙ is.ports ∙ sym ports;
}

-- a packet leaves the node as it is in these
pub served_stays : (served : Served) (port : ℕ) (packet : Cargo) (before after : JobNodeValue) → ServesAlone served port packet (alone before) (alone after) after.reply
    → after.held ≡ before.held → IsJobNode before → IsJobNode after
served_stays served port packet before after s held is =
    stays before after (answered_rooms served packet _ _ s.holder s.left after.reply s.answered)
    (ap (λ (xs : List PassValue). length xs) s.others ∙ length-set before.passes port s.left) held is

-- the room of the journal of a bank that is there
room_at : (banks : List BankValue) (k : ℕ) (b : BankValue) → slice_get banks k ≡ Some b → room b ≡ room_in (slice_get banks k)
room_at banks k b at = sym (ap room_in at)

-- a journal that is handed out leaves the node as it is in these
pub turned_stays : (number : ℕ) (before after : JobNodeValue) (old : JournalValue) → HandsOut number before after old → IsJobNode before → IsJobNode after
turned_stays number before after old out is =
    stays before after
    (ap (λ (s : SingleNodeValue). rooms_of s.banks) out.rotated.rotated
    ∙ rooms_stay before.banks number out.rotated.bank _ out.rotated.own (sym (room_at before.banks number out.rotated.bank out.rotated.own)))
    (ap (λ (s : SingleNodeValue). length s.passes) out.rotated.rotated) out.kept.held is

-- so do bytes that are set
pub set_stays : (number address : ℕ) (bytes : List ℕ) (before after : JobNodeValue) (old : JournalValue) → SetsNodeBytes number address bytes before after old → IsJobNode before → IsJobNode after
set_stays number address bytes before after old out is =
    stays before after
    (ap (λ (s : SingleNodeValue). rooms_of s.banks) out.set.set
    ∙ rooms_stay before.banks number out.set.bank _ out.set.own (sym (room_at before.banks number out.set.bank out.set.own)))
    (ap (λ (s : SingleNodeValue). length s.passes) out.set.set) out.kept.held is

-- there are as many banks then
pub turned_banks : (number : ℕ) (before after : JobNodeValue) (old : JournalValue) → HandsOut number before after old → length after.banks ≡ length before.banks
turned_banks number before after old out = ap (λ (s : SingleNodeValue). length s.banks) out.rotated.rotated ∙ length-set before.banks number _

pub set_banks : (number address : ℕ) (bytes : List ℕ) (before after : JobNodeValue) (old : JournalValue) → SetsNodeBytes number address bytes before after old → length after.banks ≡ length before.banks
set_banks number address bytes before after old out = ap (λ (s : SingleNodeValue). length s.banks) out.set.set ∙ length-set before.banks number _

-- the journal of a bank has room for an entry
pub some_room : (banks : List BankValue) (k : ℕ) → list_all (λ room. nat_le 1 room) (rooms_of banks) ≡ true → k < length banks
    → 1 ≤ room_in (slice_get banks k)
some_room [] k rooms low = absurd (omega (arith, low))
some_room (b ∷ banks) zero rooms low = leb-true 1 (room b) (and_parts _ _ rooms).0
some_room (b ∷ banks) (suc k) rooms low = some_room banks k (and_parts _ _ rooms).1 (omega (arith, low))

-- bytes that are in a bank are in one that is there
pub covered_bank : (banks : List BankValue) (k address count : ℕ) → covers_in (slice_get banks k) address count ≡ true → k < length banks
covered_bank [] k address count inside = absurd cc
covered_bank (b ∷ banks) zero address count inside = omega arith
covered_bank (b ∷ banks) (suc k) address count inside =
    let low = covered_bank banks k address count inside in
    omega (arith, low)

-- a node of that configuration is within its limits
by_limits : (ports banks : Bool) → (if not ports then Some Ports else (if not banks then Some Banks else None)) ≡ None → (ports ≡ true) × (banks ≡ true)
by_limits true true h = (refl, refl)
by_limits true false h = absurd cc
by_limits false banks h = absurd cc

pub within_limits : (config : NodeConfig) → limit_fault config ≡ None → (is_ports config.ports ≡ true) × (are_within config.banks.now ≡ true)
within_limits config h = by_limits (is_ports config.ports) (are_within config.banks.now) h

-- the journals of fresh banks within their limits have room for an entry
rooms_within : (ports : ℕ) (banks : List BankConfig) → list_all is_within banks ≡ true → list_all (λ room. nat_le 1 room) (rooms_of (map (bank_of ports) banks)) ≡ true
rooms_within ports [] h = refl
rooms_within ports (b ∷ banks) h =
    let own = and_parts (is_range b.base b.size) (is_room b.room) (and_parts _ _ h).0 in
    let room : nat_le 1 b.room ≡ true = (and_parts (nat_le 1 b.room) (nat_le b.room MAX_ROOM) own.1).0 in
    both_true room (rooms_within ports banks (and_parts _ _ h).1)

pub fresh_rooms : (config : NodeConfig) → are_within config.banks.now ≡ true → list_all (λ room. nat_le 1 room) (rooms_of (fresh_banks config)) ≡ true
fresh_rooms config h =
    rooms_within config.ports config.banks.now (and_parts _ (list_all is_within config.banks.now) h).1

-- there is a port within the limits
pub some_port : (ports : ℕ) → is_ports ports ≡ true → 1 ≤ ports
some_port ports h = leb-true 1 ports (and_parts (nat_le 1 ports) _ h).0

-- an empty journal that began at a bank: its own came out
pub turned : (number : ℕ) (before after : JobNodeValue) → RotatesTo number (room_in (slice_get before.banks number)) (alone before) (alone after) → ArePortsKept before after
    → HandsOut number before after (journal_of (slice_get before.banks number))
turned number before after turn kept =
    let own : turn.old ≡ journal_of (slice_get before.banks number) = turn.rotates.journal ∙ ap journal_of (sym turn.rotates.own) in
    record {
      rotated = subst (λ (old : JournalValue). Rotates number (emptied before number) (alone before) (alone after) old) own turn.rotates;
      kept = kept;
    }

-- so with bytes that are set
pub set_turned : (number address : ℕ) (bytes : List ℕ) (before after : JobNodeValue)
    → SetsAlone number address bytes (room_in (slice_get before.banks number)) (alone before) (alone after) → ArePortsKept before after
    → SetsNodeBytes number address bytes before after (journal_of (slice_get before.banks number))
set_turned number address bytes before after set kept =
    let own : set.old ≡ journal_of (slice_get before.banks number) = set.sets.journal ∙ ap journal_of (sym set.sets.own) in
    record {
      set = subst (λ (old : JournalValue). SetsMemory number address bytes (emptied before number) (alone before) (alone after) old) own set.sets;
      kept = kept;
    }
