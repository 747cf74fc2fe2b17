-- The program of a policy table, instruction by instruction (RFC 9669). While it runs, r6 points to the first four
-- bytes of the header and r7 to its last twelve. The first address of the command is in r8, and the last in r9. The
-- value that is compared is in r0.
use Rattle.std.specs.Prelude.{ℕ, ◌+◌, Bool, pos, negsuc, if◌then◌else◌, List, [], ◌∷◌, ◌++◌, Option, Some, None}
use Rattle.std.specs.Int.{w32, cast_signed}
use Rattle.bpf_parts.specs.declared.callee.Callee.TheVariants as callees
use Rattle.bpf_parts.specs.declared.memory.LoadSize.{LoadSize}
use Rattle.bpf_parts.specs.declared.memory.LoadSize.TheVariants.{LoadByte, LoadWord}
use Rattle.bpf_parts.specs.declared.memory.MemoryOperand.{MemoryOperand}
use Rattle.bpf_parts.specs.declared.memory.Size.TheVariants.{Byte}
use Rattle.bpf_parts.specs.declared.operation.AluOp.{AluOp}
use Rattle.bpf_parts.specs.declared.operation.AluOp.TheVariants.{Add, And, Mov, Rsh, Sub}
use Rattle.bpf_parts.specs.declared.operation.Condition.{Condition}
use Rattle.bpf_parts.specs.declared.operation.Condition.TheVariants.{Equal, Greater, GreaterEqual, Less, NotEqual}
use Rattle.bpf_parts.specs.declared.operation.Operand.{Operand}
use Rattle.bpf_parts.specs.declared.operation.Operand.TheVariants.{FromRegister, Immediate}
use Rattle.bpf_parts.specs.declared.operation.Swap.TheVariants.{ToBig}
use Rattle.bpf_parts.specs.declared.operation.SwapBits.TheVariants.{Swap32}
use Rattle.bpf_parts.specs.declared.operation.Width.TheVariants.{Bits32, Bits64}
use Rattle.bpf_insn.specs.declared.insn.Insn.{Insn}
use Rattle.bpf_insn.specs.declared.insn.Insn.TheVariants.{Alu, ByteSwap, Load, Store, Jump, LoadMap, Call, Exit}
use Rattle.machine.specs.declared.helpers.Helper.TheVariants.{Ticket}
use Rattle.machine.specs.Helpers.{helper_number}
use Rattle.rmap.specs.declared.field.TheConstants.{INSTRUCTION, KEY, INITIATOR, EXTENDED, ADDRESS, LENGTH}
use Rattle.rmap.specs.declared.instruction.TheConstants.{READ_MASK, READ_BITS, WRITE_MASK, WRITE_BITS, RMW_MASK}
use Rattle.rmap.specs.declared.instruction.TheConstants.{RMW_BITS, INCREMENT_BIT}
use Rattle.rmap.specs.declared.verdict.Verdict.TheVariants.{NotAuthorised}
use Rattle.rmap.specs.Verdict.{verdict_number}
pub use Rattle.policy_table.specs.Slots.{asks_ports, field_slots, kind_slots, quota_slots, rule_slots}
use Rattle.policy_table.specs.declared.port_rules.PortRule.{PortRule}
use Rattle.policy_table.specs.declared.rules.Quota.{Quota}
use Rattle.policy_table.specs.declared.rules.Rule.{Rule}
use Rattle.policy_table.specs.declared.rules.RuleKind.{RuleKind}
use Rattle.policy_table.specs.declared.rules.RuleKind.TheVariants.{Read, Write, Rmw, Any}

-- ---- instructions

-- a load of the header, through a register that points to a part of it (section 5.1)
abbrev pub loaded : LoadSize → (dst base offset : ℕ) → Insn
loaded size dst base offset = Load size dst (record { base = base; offset = pos offset })

-- an operation on the whole of a register (section 4.1)
abbrev pub applied : AluOp → (dst : ℕ) → Operand → Insn
applied op dst src = Alu op Bits64 dst src

-- a register that is set to a number
abbrev pub set_to : (dst value : ℕ) → Insn
set_to dst value = applied Mov dst (Immediate (pos value))

-- a register that is set to a number of 32 bits, whose bits are the immediate's
abbrev pub set_to_bits : (dst value : ℕ) → Insn
set_to_bits dst value = Alu Mov Bits32 dst (Immediate (cast_signed w32 value))

-- the low four bytes of a register in the other order, as a number of 32 bits (section 4.2)
abbrev pub swapped : (dst : ℕ) → Insn
swapped dst = ByteSwap ToBig Swap32 dst

-- a jump over `skipped` slots, if the condition holds of two words (section 4.3)
abbrev pub skips_if : Condition → (dst : ℕ) → Operand → (skipped : ℕ) → Insn
skips_if condition dst src skipped =
    Jump (record { condition = condition; width = Bits64; dst = dst; src = src }) (pos skipped)

-- ---- tests: a test that fails skips `behind` slots after it, to the end of its rule

-- the instruction byte under a mask is that number
abbrev pub masked_test : (mask wanted following : ℕ) → List Insn
masked_test mask wanted following =
    loaded LoadByte 0 6 INSTRUCTION ∷ applied And 0 (Immediate (pos mask))
    ∷ skips_if NotEqual 0 (Immediate (pos wanted)) following ∷ []

-- the command is of the kind: packet type and command code of the instruction byte (ECSS-E-ST-50-52C, instruction
-- field)
abbrev pub kind_test : RuleKind → (following : ℕ) → List Insn
kind_test Any following = []
kind_test Read following = masked_test READ_MASK READ_BITS following
kind_test Write following = masked_test WRITE_MASK WRITE_BITS following
kind_test Rmw following = masked_test RMW_MASK RMW_BITS following

-- a byte of the header is that of the field
abbrev pub field_test : Option ℕ → (base offset following : ℕ) → List Insn
field_test None base offset following = []
field_test (Some wanted) base offset following =
    loaded LoadByte 0 base offset ∷ skips_if NotEqual 0 (Immediate (pos wanted)) following ∷ []

-- the address is not below the range, and the last address not above it
abbrev pub range_test : (low high following : ℕ) → List Insn
range_test low high following =
    set_to_bits 0 low ∷ skips_if Less 8 (FromRegister 0) (following + 2)
    ∷ set_to_bits 0 high ∷ skips_if Greater 9 (FromRegister 0) following ∷ []

-- a ticket of the quota's cell is below the limit
abbrev pub quota_test : Option Quota → (following : ℕ) → List Insn
quota_test None following = []
quota_test (Some quota) following =
    LoadMap 1 (pos quota.map) ∷ set_to 2 quota.cell ∷ Call callees.Helper (pos (helper_number Ticket))
    ∷ skips_if GreaterEqual 0 (Immediate (pos quota.limit)) following ∷ []

-- the end of a run with the number of a verdict
abbrev pub verdict_code : (number : ℕ) → List Insn
verdict_code number = set_to 0 number ∷ Exit ∷ []

-- ---- rules

-- how many slots of a rule come after the test of its range
abbrev pub slots_after_range : Rule → ℕ
slots_after_range rule = 2 + quota_slots rule.quota

-- after that of its extended address
abbrev pub after_extended : Rule → ℕ
after_extended rule = slots_after_range rule + 4

-- after that of its initiator logical address
abbrev pub after_initiator : Rule → ℕ
after_initiator rule = after_extended rule + field_slots rule.extended

-- after that of its key
abbrev pub after_key : Rule → ℕ
after_key rule = after_initiator rule + field_slots rule.initiator

-- after that of its kind
abbrev pub after_kind : Rule → ℕ
after_kind rule = after_key rule + field_slots rule.key

-- a rule: its tests, then its verdict
abbrev pub rule_code : Rule → List Insn
rule_code rule =
    kind_test rule.kind (after_kind rule)
    ++ field_test rule.key 6 KEY (after_key rule)
    ++ field_test rule.initiator 7 INITIATOR (after_initiator rule)
    ++ field_test rule.extended 7 EXTENDED (after_extended rule)
    ++ range_test rule.low rule.high (slots_after_range rule)
    ++ quota_test rule.quota 2
    ++ verdict_code (verdict_number rule.verdict)

-- ---- tables

-- the registers that point to the header, and the first address: the address field, most significant byte first
abbrev pub address_code : List Insn
address_code =
    applied Mov 6 (FromRegister 1) ∷ applied Mov 7 (FromRegister 2)
    ∷ loaded LoadWord 8 7 ADDRESS ∷ swapped 8 ∷ applied Mov 9 (FromRegister 8) ∷ []

-- the last address: with the increment bit and a data length that is not zero, the first address plus the length less
-- one
abbrev pub last_address_code : List Insn
last_address_code =
    loaded LoadByte 0 6 INSTRUCTION ∷ applied And 0 (Immediate (pos INCREMENT_BIT))
    ∷ skips_if Equal 0 (Immediate (pos 0)) 6
    ∷ loaded LoadWord 0 7 LENGTH ∷ swapped 0 ∷ applied Rsh 0 (Immediate (pos 8))
    ∷ skips_if Equal 0 (Immediate (pos 0)) 2
    ∷ applied Add 9 (FromRegister 0) ∷ applied Sub 9 (Immediate (pos 1)) ∷ []

-- ---- ports

-- the last byte of the stack: r10 points to the byte after it
abbrev pub port_byte_place : MemoryOperand
port_byte_place = record { base = 10; offset = negsuc 0 }

-- the port, which is in r3 at entry, goes there
abbrev pub port_kept : Insn
port_kept = Store Byte port_byte_place (FromRegister 3)

-- a load of the port from there
abbrev pub port_loaded : Insn
port_loaded = Load LoadByte 0 port_byte_place

-- the port is that of the field
abbrev pub port_test : Option ℕ → (following : ℕ) → List Insn
port_test None following = []
port_test (Some port) following = port_loaded ∷ skips_if NotEqual 0 (Immediate (pos port)) following ∷ []

-- a rule with a port: its port is tested before all else
abbrev pub port_rule_code : PortRule → List Insn
port_rule_code own = port_test own.port (rule_slots own.rule) ++ rule_code own.rule

-- the rules in order, and after them the verdict if none matches
abbrev pub rules_code : List PortRule → List Insn
rules_code [] = verdict_code (verdict_number NotAuthorised)
rules_code (own ∷ rules) = port_rule_code own ++ rules_code rules

-- the instruction that puts the port on the stack, if a rule asks it
abbrev pub keep_code : (asked : Bool) → List Insn
keep_code asked = if asked then port_kept ∷ [] else []

-- the program of a table with ports
abbrev pub table_code : List PortRule → List Insn
table_code rules = keep_code (asks_ports rules) ++ address_code ++ last_address_code ++ rules_code rules
