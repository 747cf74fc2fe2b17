-- The slot whose program judges the command of a packet.
use Rattle.std.proofs.Common.{◌≡◌, ℕ, Option, None, Some, ap, sym, ◌∙◌}
use Rattle.std.specs.Option.{option_map}
use Rattle.node_parts.specs.Slots.{slot_of}
use Rattle.rmap.specs.Checks.{header_line}
use Rattle.rmap.specs.Command.{CommandValue, command_kind, command_of, discard_of}
use Rattle.rmap.specs.Windows.{WindowsValue, place_of}
use Rattle.rmap.specs.declared.discard.Discard.{Discard}
use Rattle.rmap.specs.declared.places.Place.{Place}
use Rattle.rmap.specs.declared.status.Status.{Status}
use Rattle.single_node.specs.Nodes.{slot_asked, slot_past, slot_unless}
use Rattle.spw.specs.Cargo.{Cargo}

pub asked_discarded : (w : WindowsValue) (p : Cargo) (d : Discard) → discard_of p.bytes ≡ Some d → None ≡ slot_asked w p
asked_discarded w p d is = sym (ap (λ (o : Option Discard). slot_unless o w (command_of p)) is)

-- the slot for a packet that is a command
asked_command : (w : WindowsValue) (p : Cargo) (c : CommandValue) → discard_of p.bytes ≡ None → c ≡ command_of p → slot_asked w p ≡ slot_past (header_line c w) (place_of c w) c
asked_command w p c command found =
    ap (λ (o : Option Discard). slot_unless o w (command_of p)) command ∙ ap (λ (k : CommandValue). slot_past (header_line k w) (place_of k w) k) (sym found)

pub asked_stopped : (w : WindowsValue) (p : Cargo) (c : CommandValue) (status : Status) → discard_of p.bytes ≡ None → c ≡ command_of p → header_line c w ≡ Some status → None ≡ slot_asked w p
asked_stopped w p c status command found stops =
    sym (asked_command w p c command found ∙ ap (λ (l : Option Status). slot_past l (place_of c w) c) stops)

pub asked_passed : (w : WindowsValue) (p : Cargo) (c : CommandValue) (place : Place) (slot : ℕ) → discard_of p.bytes ≡ None → c ≡ command_of p → header_line c w ≡ None → place_of c w ≡ Some place
    → slot ≡ slot_of (command_kind c) place → Some slot ≡ slot_asked w p
asked_passed w p c place slot command found line at is =
    sym (asked_command w p c command found ∙ ap (λ (l : Option Status). slot_past l (place_of c w) c) line
    ∙ ap (λ (o : Option Place). option_map (slot_of (command_kind c)) o) at ∙ ap (λ (n : ℕ). Some n) (sym is))
