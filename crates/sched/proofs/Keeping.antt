-- What events keep of a world, whatever the history.
use Rattle.std.proofs.Common.{◌≡◌, ℕ, List, [], length, get_or, set, Bool, true, false, ◌==◌, Option, Some, None, refl, ap, ◌∙◌, eqb-true}
use Rattle.std.specs.Prelude.{slice_get, slice_set}
use Rattle.std.proofs.lemmas.Bool.{eqb-false}
use Rattle.std.proofs.lemmas.List.{length-set}
use Rattle.std.proofs.lemmas.Option.{slice_get-get_or}
use Rattle.rmap.specs.Windows.{WindowsValue}
use Rattle.machine.specs.Sizes.{Maps, IsInside}
use Rattle.bank.specs.Records.{BankValue}
use Rattle.sched.specs.Worlds.{RunValue, PortValue, WorldValue, IsSameCommandRun, IsSameRunIfAny, IsRunUnder, IsRunUnderIfAny, IsPortIn, ArePortsIn, IsWorld}
use Rattle.plain_cells.specs.Words.{AreCells, key_word_at, word_in, word_of_key}
use Rattle.sched.proofs.Growth.{at_written}
use Rattle.lemmas.proofs.Places.{at_other}
use Rattle.plain_cells.proofs.Zeros.{cell_there}

-- the same command is judged under the same windows
same_under : (windows : WindowsValue) (sizes : Maps) (old new : RunValue) → IsSameCommandRun old new → IsRunUnder windows sizes old → IsRunUnder windows sizes new
same_under windows sizes old new same is = record {
  placed = rw (same.packet_is, same.place_is) is.placed;
  sizes_are = rw same.program_is is.sizes_are;
}

pub same_under_if_any : (windows : WindowsValue) (sizes : Maps) (old new : Option RunValue) → IsSameRunIfAny old new → IsRunUnderIfAny windows sizes old → IsRunUnderIfAny windows sizes new
same_under_if_any windows sizes None None same is = tt
same_under_if_any windows sizes None (Some r) same is = absurd same
same_under_if_any windows sizes (Some r) None same is = absurd same
same_under_if_any windows sizes (Some old) (Some new) same is = same_under windows sizes old new same is

-- one port of those that fit was written by one that fits
port_by : (windows : WindowsValue) (sizes : Maps) (banks : List BankValue) (ports : List PortValue) (k : ℕ) (old new : PortValue) → slice_get ports k ≡ Some old → IsPortIn windows sizes banks k new
    → ArePortsIn windows sizes banks ports → (port : ℕ) (p : PortValue) → slice_get (set ports k new) port ≡ Some p → (own : Bool) → (port == k) ≡ own → IsPortIn windows sizes banks port p
port_by windows sizes banks ports k old new there is all port p found true own =
    let same = eqb-true port k own in
    rw (same, at_written ports k port old new p there same found) is
port_by windows sizes banks ports k old new there is all port p found false own =
    all port p (at_other ports k port new p (eqb-false port k own) found)

pub ports_keep : (windows : WindowsValue) (sizes : Maps) (banks : List BankValue) (ports : List PortValue) (k : ℕ) (old new : PortValue) → slice_get ports k ≡ Some old → IsPortIn windows sizes banks k new
    → ArePortsIn windows sizes banks ports → ArePortsIn windows sizes banks (slice_set ports k new)
ports_keep windows sizes banks ports k old new there is all = λ port p found. port_by windows sizes banks ports k old new there is all port p found (port == k) refl

-- a port that judges the same command, or none, with the same shares
pub port_keeps : (windows : WindowsValue) (sizes : Maps) (banks : List BankValue) (port : ℕ) (old new : PortValue) → new.shares ≡ old.shares → IsRunUnderIfAny windows sizes new.run → IsPortIn windows sizes banks port old → IsPortIn windows sizes banks port new
port_keeps windows sizes banks port old new shares run is = record {
  paired = record {
    count = rw shares is.paired.count;
    windows = is.paired.windows;
    shares = rw shares is.paired.shares;
  };
  run = run;
}

-- a world of which one port was written by one that fits
pub world_with_port : (w : WorldValue) (port : ℕ) (old new : PortValue) → slice_get w.ports port ≡ Some old → IsPortIn w.windows w.sizes w.banks port new → IsWorld w → IsWorld (record w { ports = slice_set w.ports port new })
world_with_port w port old new there fits is = record {
  cells = is.cells;
  slots = is.slots;
  accepted = is.accepted;
  few_ports = rw (length-set w.ports port new) is.few_ports;
  ports = ports_keep w.windows w.sizes w.banks w.ports port old new there fits is.ports;
}

-- ---- words

-- and its word is found
pub word_inside : (sizes : Maps) (words : List (List ℕ)) (map key : ℕ) → AreCells sizes words → IsInside sizes map key → word_in words map key ≡ Some (key_word_at words map key)
word_inside sizes words map key are inside =
    let there = cell_there sizes words map key inside are in
    ap (λ (row : Option (List ℕ)). word_of_key row key) (slice_get-get_or words map [] there.0) ∙ slice_get-get_or (get_or words map []) key 0 there.1
