-- How an image is read, from its first byte to its last, or the first fault of it.
use Rattle.std.specs.Prelude.{◌≡◌, ◌≤◌, ℕ, zero, suc, ◌+◌, ◌*◌, Bool, true, false, ◌&&◌, ◌==◌, nat_eq, nat_lt, nat_le}
use Rattle.std.specs.Prelude.{if◌then◌else◌, List, [], ◌∷◌, ◌++◌, length, take, drop, slice_index, Option, Some, None}
use Rattle.std.specs.Prelude.{is_some, Result, Ok, Err}
use Rattle.std.specs.List.{starts_with}
use Rattle.bpf_insn.specs.declared.insn.Insn.{Insn}
use Rattle.bpf_insn.specs.declared.decoder.BadInsn.{BadInsn}
use Rattle.bpf_insn.specs.Faults.{IsFault}
use Rattle.bpf_insn.specs.Spelling.{second_immediate, Spells}
use Rattle.bpf_insn.specs.Reading.{insn_reading}
use Rattle.bpf.specs.declared.header.ImageHeader.{ImageHeader}
use Rattle.bpf.specs.declared.header.TheConstants.{MAX_BUDGET, MAX_LOOPS, MAX_SLOTS}
use Rattle.bpf.specs.declared.loops.TheConstants.{MAX_BOUND}
use Rattle.bpf.specs.declared.loops.Loop.{Loop}
use Rattle.bpf.specs.declared.version.Version.{Version}
use Rattle.bpf.specs.declared.fault.ImageFault.{ImageFault}
use Rattle.bpf.specs.declared.fault.ImageFault.TheVariants as faults
use Rattle.bpf.specs.Program.{IsBudget, IsProgram, IsSlotCount, Program, header_bytes, image_bytes, program}
use Rattle.bpf.specs.Version.{version_of}

-- ---- the statement

-- the next step of a reading, unless a fault was found
infixl 10 ◌>>=◌
abbrev pub ◌>>=◌ : {A B : Type 0} → Result A ImageFault → (A → Result B ImageFault) → Result B ImageFault
(Ok x) >>= f = f x
(Err e) >>= f = Err e

-- the number in two bytes, the lowest first
abbrev pub half_at : ℕ → List ℕ → ℕ
half_at place bytes = slice_index bytes place + slice_index bytes (place + 1) * 256

-- the number in four bytes, the lowest first
abbrev pub word_at : ℕ → List ℕ → ℕ
word_at place bytes =
    slice_index bytes place + slice_index bytes (place + 1) * 256 + slice_index bytes (place + 2) * 65536
    + slice_index bytes (place + 3) * 16777216

-- "BPFA"
abbrev pub magic : List ℕ
magic = 66 ∷ 80 ∷ 70 ∷ 65 ∷ []

-- whether these are counts of loops and slots, with a reserved word of zero
abbrev pub is_count : (loops slots reserved : ℕ) → Bool
is_count loops slots reserved = nat_le loops MAX_LOOPS && nat_le 1 slots && nat_le slots MAX_SLOTS && reserved == 0

-- whether it is a budget
abbrev pub is_budget : ℕ → Bool
is_budget budget = nat_le 1 budget && nat_le budget MAX_BUDGET

-- the header of this version, these counts, this reserved word and this budget
abbrev pub declared_header : (version : Version) (loops slots reserved budget : ℕ) → Result ImageHeader ImageFault
declared_header version loops slots reserved budget =
    if is_count loops slots reserved
    then (if is_budget budget
    then Ok (record { version = version; loops = loops; slots = slots; budget = budget })
    else Err faults.Budget)
    else Err faults.Count

-- the counts and the budget, after a version
unfoldable pub counts_reading : Version → List ℕ → Result ImageHeader ImageFault
counts_reading version bytes =
    declared_header version (slice_index bytes 5) (half_at 6 bytes) (word_at 12 bytes) (word_at 8 bytes)

-- the version of a number, unless there is none
abbrev pub known_version : Option Version → Result Version ImageFault
known_version (Some version) = Ok version
known_version None = Err faults.Version

-- the version in the fifth byte, if it is there
unfoldable pub version_reading : List ℕ → Result Version ImageFault
version_reading bytes =
    if nat_lt (length bytes) 5 then Err faults.Version else known_version (version_of (slice_index bytes 4))

-- the version, the counts and the budget of an image, or the first fault of its header
unfoldable pub header_reading : List ℕ → Result ImageHeader ImageFault
header_reading bytes =
    if starts_with nat_eq bytes magic
    then (version_reading bytes >>= (λ version.
    if nat_lt (length bytes) 16 then Err faults.Length else counts_reading version bytes))
    else Err faults.Magic

-- whether it is a loop of `slots` slots
abbrev pub is_loop : (slots : ℕ) → Loop → Bool
is_loop slots l =
    nat_lt l.head l.back && nat_lt l.back slots && nat_le 1 l.bound && nat_le l.bound MAX_BOUND && nat_le l.register 9

-- whether the heads of the loops rise strictly from `least`, and each is a loop of `slots` slots
abbrev pub are_loops : (slots least : ℕ) → List Loop → Bool
are_loops slots least [] = true
are_loops slots least (l ∷ ls) = nat_le least l.head && is_loop slots l && are_loops slots (l.head + 1) ls

-- a loop by its fields, of a register and with a zero after them, or the fault
unfoldable pub loop_in : List ℕ → Result Loop ImageFault
loop_in bytes =
    if nat_le (slice_index bytes 6) 10 && slice_index bytes 7 == 0
    then Ok (record {
      head = half_at 0 bytes;
      back = half_at 2 bytes;
      bound = half_at 4 bytes;
      register = slice_index
          bytes 6;
    })
    else Err faults.Loop

-- `count` loops, or the fault
unfoldable pub loops_in : (count : ℕ) → List ℕ → Result (List Loop) ImageFault
loops_in zero bytes = Ok []
loops_in (suc n) bytes = loop_in bytes >>= (λ l. loops_in n (drop 8 bytes) >>= (λ ls. Ok (l ∷ ls)))

-- `count` loops of an image of `slots` slots, by rising head, or the fault
unfoldable pub loops_reading : (slots count : ℕ) → List ℕ → Result (List Loop) ImageFault
loops_reading slots count bytes =
    loops_in count bytes >>= (λ loops. if are_loops slots 0 loops then Ok loops else Err faults.Loop)

-- the next slot, if it is there
abbrev pub slot_in : List ℕ → Option (List ℕ)
slot_in bytes = if nat_lt (length bytes) 8 then None else Some (take 8 bytes)

-- an instruction at the slot, or the fault with its slot
abbrev pub slot_result : ℕ → Result Insn BadInsn → Result (Option Insn) ImageFault
slot_result slot (Ok insn) = Ok (Some insn)
slot_result slot (Err fault) = Err (faults.Insn slot fault)

-- a slot, if it is known whether it is the second of an instruction
unfoldable pub slot_reading : (slot : ℕ) (second : Bool) → List ℕ → Result (Option Insn) ImageFault
slot_reading slot true bytes = Ok None
slot_reading slot false bytes = slot_result slot (insn_reading (take 8 bytes) (slot_in (drop 8 bytes)))

-- whether an instruction of two slots begins there
abbrev pub begins_two : Option Insn → Bool
begins_two None = false
begins_two (Some insn) = is_some (second_immediate insn)

-- `count` slots from one, or the first fault
unfoldable pub slots_reading : (count slot : ℕ) (second : Bool) → List ℕ → Result (List (Option Insn)) ImageFault
slots_reading zero slot second bytes = Ok []
slots_reading (suc n) slot second bytes =
    slot_reading slot second bytes >>= (λ x.
    slots_reading n (slot + 1) (begins_two x) (drop 8 bytes) >>= (λ xs.
    Ok (x ∷ xs)))

-- the program that the bytes of an image spell, or the first fault
unfoldable pub image_reading : List ℕ → Result Program ImageFault
image_reading bytes =
    header_reading bytes >>= (λ h.
    if length bytes == 16 + 8 * h.loops + 8 * h.slots
    then (loops_reading h.slots h.loops (drop 16 (take (16 + 8 * h.loops) bytes)) >>= (λ loops.
    slots_reading h.slots 0 false (drop (16 + 8 * h.loops) bytes) >>= (λ slots.
    Ok (program h.version h.budget loops slots))))
    else Err faults.Length)

-- ---- what else contracts and proofs say

-- reading gives this fault, unless memory was refused
abbrev pub FailsReading : {Y : Type 0} → ImageFault → Result Y ImageFault → Type 0
FailsReading faults.Memory read = Unit {0}
FailsReading faults.Magic read = read ≡ Err faults.Magic
FailsReading faults.Version read = read ≡ Err faults.Version
FailsReading faults.Length read = read ≡ Err faults.Length
FailsReading faults.Count read = read ≡ Err faults.Count
FailsReading faults.Budget read = read ≡ Err faults.Budget
FailsReading faults.Loop read = read ≡ Err faults.Loop
FailsReading (faults.Insn slot fault) read = read ≡ Err (faults.Insn slot fault)

-- what a function returned, seen by `view`, is what reading gives, unless memory was refused
abbrev pub Gives : {X Y : Type 0} → (X → Y) → Result X ImageFault → Result Y ImageFault → Type 0
Gives view (Ok x) read = read ≡ Ok (view x)
Gives view (Err e) read = FailsReading e read

-- the counts and the budget of a header are in the limits of the format
abbrev pub HasLimits : ImageHeader → Type 0
HasLimits h = (h.loops ≤ MAX_LOOPS) × IsSlotCount h.slots × IsBudget h.budget

-- the bytes of a header
abbrev pub bytes_of_header : ImageHeader → List ℕ
bytes_of_header h = header_bytes h.version h.loops h.slots h.budget

-- what the bytes at a slot spell
abbrev pub IsSlot : (second : Bool) → List ℕ → Option Insn → Type 0
IsSlot true bytes None = Unit {0}
IsSlot true bytes (Some insn) = ⊥
IsSlot false bytes None = ⊥
IsSlot false bytes (Some insn) = Spells (take 8 bytes) (slot_in (drop 8 bytes)) insn

-- a slot that was read was appended, and it is known whether an instruction of two begins there
pub record PushesSlot (old new : List (Option Insn)) (slot : ℕ) (second : Bool) (bytes : List ℕ) (two : Bool) : Type 0
  where
    pub found : Option Insn
    pub read : slot_reading slot second bytes ≡ Ok found
    pub appended : new ≡ old ++ found ∷ []
    pub next : two ≡ begins_two found
    pub spelled : IsSlot second bytes found

-- bytes that spell a program are read as that program, unless memory was refused
abbrev pub ReadsWhatSpells : List ℕ → Result Program ImageFault → Type 0
ReadsWhatSpells bytes read =
    (p : Program) → IsProgram p → bytes ≡ image_bytes p → Gives (λ image. image) read (Ok p)

-- the bytes from a slot, which are after the header and as many loops as it counts
abbrev pub bytes_at : List ℕ → ℕ → List ℕ
bytes_at bytes slot = drop (8 * slot) (drop (16 + 8 * slice_index bytes 5) bytes)

-- the fault of an instruction is in the bytes of its slot and the next one
abbrev pub IsFaultAt : List ℕ → ImageFault → Type 0
IsFaultAt bytes (faults.Insn slot fault) =
    IsFault (take 8 (bytes_at bytes slot)) (slot_in (drop 8 (bytes_at bytes slot))) fault
IsFaultAt bytes faults.Memory = Unit {0}
IsFaultAt bytes faults.Magic = Unit {0}
IsFaultAt bytes faults.Version = Unit {0}
IsFaultAt bytes faults.Length = Unit {0}
IsFaultAt bytes faults.Count = Unit {0}
IsFaultAt bytes faults.Budget = Unit {0}
IsFaultAt bytes faults.Loop = Unit {0}
