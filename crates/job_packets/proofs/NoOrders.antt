-- Words that write nothing that can be made.
use Rattle.std.proofs.Common.{◌≡◌, ◌≢◌, ◌∷◌, ℕ, List, Some, Option, inl, inr, get_or, string_bytes, codes, arith, rules}
use Rattle.clap.specs.Walk.{Row, first_of}
use Rattle.job_packets.specs.HexWords.{Has, WritesBytes}
use Rattle.job_packets.specs.Orders.{GivesWord, HasKind, HasLoad, HasWrite, NamesOrder, WritesSource}
use Rattle.job_packets.specs.PacketJob.{NamesPacket, RefusesPacket}
use Rattle.job_packets.specs.PacketOptions.{GivesHeader}
use Rattle.job_packets.specs.Slips.{IsWordFault, usage_fault_of}
use Rattle.job_packets.specs.Slots.{WritesSlots}
use Rattle.job_packets.specs.declared.orders.Order.{Order}
use Rattle.job_packets.specs.declared.orders.Order.TheVariants.{Read, Write, Rmw, Load}
use Rattle.job_packets.specs.declared.orders.DataSource.{DataSource}
use Rattle.job_packets.specs.declared.orders.DataSource.TheVariants.{Bytes, File}
use Rattle.job_packets.specs.declared.slips.PacketFault.{PacketFault}
use Rattle.job_packets.specs.declared.slips.PacketFault.TheVariants.{Words, Memory}

no_source : (word : List ℕ) → ((rest : List ℕ) → word ≢ 64 ∷ rest) → ¬ Has (WritesBytes word) → (source : DataSource) → WritesSource word source → ⊥
no_source word other none (Bytes bytes) written = none (bytes.items, written)
no_source word other none (File name) written = other (string_bytes name) written

-- a word that names no file, and writes no bytes, writes no data
pub source_fault : (word : List ℕ) (fault : PacketFault) → ((rest : List ℕ) → word ≢ 64 ∷ rest) → IsWordFault (Has (WritesBytes word)) fault
    → IsWordFault (Has (WritesSource word)) fault
source_fault word fault other (inl memory) = inl memory
source_fault word fault other (inr bad) = inr (bad.0, λ has. no_source word other bad.1 has.0 has.1)

-- without data there is no write
pub write_fault : (rows : List Row) (fault : PacketFault) → IsWordFault (Has (GivesWord WritesSource (first_of (codes "data") rows))) fault
    → IsWordFault (HasWrite rows) fault
write_fault rows fault (inl memory) = inl memory
write_fault rows fault (inr bad) = inr (bad.0, λ has. bad.1 (has.2, has.3.bytes))

-- without slots there are no loads
pub load_fault : (rows : List Row) (fault : PacketFault) → IsWordFault (Has (GivesWord WritesSlots (first_of (codes "slot") rows))) fault
    → IsWordFault (HasLoad rows) fault
load_fault rows fault (inl memory) = inl memory
load_fault rows fault (inr bad) = inr (bad.0, λ has. bad.1 (has.1, has.2.list))

-- a word of another kind
first_letters : (o : Option (List ℕ)) (a b : List ℕ) → o ≡ Some a → o ≡ Some b → get_or a 0 0 ≡ get_or b 0 0
first_letters o a b e f = cc

no_order : (rows : List Row) → HasKind rows (codes "write") → ¬ HasWrite rows → (order : Order) → NamesOrder rows order → ⊥
no_order rows kind none (Read code address count) named =
    let same : 119 ≡ 114 = first_letters _ _ _ kind named.0 in absurd (omega (arith, same))
no_order rows kind none (Write code address source) named = none (code, address, source, named.1)
no_order rows kind none (Rmw address bytes) named =
    let same : 119 ≡ 114 = first_letters _ _ _ kind named.0 in absurd (omega (arith, same))
no_order rows kind none (Load image slots) named =
    let same : 119 ≡ 108 = first_letters _ _ _ kind named.0 in absurd (omega (arith, same))

no_loads : (rows : List Row) → HasKind rows (codes "load") → ¬ HasLoad rows → (order : Order) → NamesOrder rows order → ⊥
no_loads rows kind none (Read code address count) named =
    let same : 108 ≡ 114 = first_letters _ _ _ kind named.0 in absurd (omega (arith, same))
no_loads rows kind none (Write code address source) named =
    let same : 108 ≡ 119 = first_letters _ _ _ kind named.0 in absurd (omega (arith, same))
no_loads rows kind none (Rmw address bytes) named =
    let same : 108 ≡ 114 = first_letters _ _ _ kind named.0 in absurd (omega (arith, same))
no_loads rows kind none (Load image slots) named = none (string_bytes image, slots.items, named.1)

-- words of loads that are none order nothing
pub loads_fault : (rows : List Row) (fault : PacketFault) → HasKind rows (codes "load") → IsWordFault (HasLoad rows) fault
    → IsWordFault (Has (NamesOrder rows)) fault
loads_fault rows fault kind (inl memory) = inl memory
loads_fault rows fault kind (inr bad) = inr (bad.0, λ has. no_loads rows kind bad.1 has.0 has.1)

-- words of a write that is none order nothing
pub order_fault : (rows : List Row) (fault : PacketFault) → HasKind rows (codes "write") → IsWordFault (HasWrite rows) fault
    → IsWordFault (Has (NamesOrder rows)) fault
order_fault rows fault kind (inl memory) = inl memory
order_fault rows fault kind (inr bad) = inr (bad.0, λ has. no_order rows kind bad.1 has.0 has.1)

-- without a header there are no words of `packet`
pub header_fault : (rows : List Row) (fault : PacketFault) → IsWordFault (Has (GivesHeader rows)) fault
    → IsWordFault (Has (NamesPacket rows)) fault
header_fault rows fault (inl memory) = inl memory
header_fault rows fault (inr bad) = inr (bad.0, λ has. bad.1 (has.0.header, has.1.0))

-- words of no packet are refused by a fault of the command line
pub refuses : (rows : List Row) (fault : PacketFault) → IsWordFault (Has (NamesPacket rows)) fault
    → RefusesPacket rows (usage_fault_of fault)
refuses rows (Words slip) (inl memory) = absurd (search rules)
refuses rows (Words slip) (inr bad) = bad.1
refuses rows Memory h = tt
