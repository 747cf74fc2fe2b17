-- What each test of a compiled table does. If its fact holds, its first slot ends as the slot after it does. If not,
-- its first slot ends as the end of its rule does.
use Rattle.std.proofs.Common.{◌≡◌, ◌<◌, ◌^◌, ◌+◌, ◌*◌, ℕ, Bool, true, false, [], ◌∷◌, Option, Some, None, refl, sym, ap, ◌∙◌, subst, arith}
use Rattle.std.specs.Prelude.{pos, negsuc, is_some, ◌&&◌, ◌==◌, not, nat_lt, nat_le, bit_and, if◌then◌else◌, slice_index}
use Rattle.bpf_parts.specs.declared.callee.Callee.TheVariants as callees
use Rattle.machine.specs.declared.helpers.Helper.TheVariants.{Ticket}
use Rattle.machine.specs.Helpers.{helper_number}
use Rattle.bpf_parts.specs.declared.memory.LoadSize.TheVariants.{LoadByte}
use Rattle.bpf_parts.specs.declared.operation.AluOp.TheVariants.{And}
use Rattle.bpf_parts.specs.declared.operation.Condition.TheVariants.{Greater, GreaterEqual, Less, NotEqual}
use Rattle.bpf_parts.specs.declared.operation.Operand.TheVariants.{FromRegister, Immediate}
use Rattle.bpf_parts.specs.declared.operation.Width.TheVariants.{Bits64}
use Rattle.bpf.specs.Program.{Program, insn_at}
use Rattle.bpf_insn.specs.declared.insn.Insn.{Insn}
use Rattle.bpf_insn.specs.declared.insn.Insn.TheVariants.{LoadMap, Call, Exit}
use Rattle.machine.specs.declared.calls.Call as calls
use Rattle.machine.specs.declared.regions.Region.{Region}
use Rattle.machine.specs.declared.regions.Region.TheVariants.{Front, Tail, Stack}
use Rattle.machine.specs.declared.values.Value.{Value}
use Rattle.machine.specs.declared.values.Value.TheVariants.{Num, Ptr, Map}
use Rattle.machine.specs.Memory.{Header, IsProgramHeader, byte_below, little_endian}
use Rattle.machine.specs.State.{State, state, register_after, register_after_call}
use Rattle.machine.specs.Step.{Next, Trap, after_answer, branches, compares, load_value, loads, perform, question, writes}
use Rattle.machine.specs.Words.{word}
use Rattle.rmap.specs.Command.{address_of, command_kind}
use Rattle.policy.specs.Code.{applied, field_slots, field_test, kind_slots, kind_test, loaded, masked_test, port_loaded, port_test, quota_slots, quota_test, range_test, set_to, set_to_bits, skips_if, verdict_code}
use Rattle.policy_table.specs.Limits.{IsByteField, IsLimited}
use Rattle.policy_table.specs.Ports.{IsPortField}
use Rattle.policy_table.specs.Meaning.{agrees, draw, fields_of, agrees_with_kind, last_address_of, lies_between, ruled}
use Rattle.policy_table.specs.declared.rules.Quota.{Quota}
use Rattle.policy_table.specs.declared.rules.RuleKind.{RuleKind}
use Rattle.policy_table.specs.declared.rules.RuleKind.TheVariants.{Read, Write, Rmw, Any}
use Rattle.policy.proofs.Finishing.{Decision, Finishes, IsOfFirst, Performs, StandAt, asked, next, stopped}
use Rattle.policy.proofs.Headers.{below_fails, bits_moved, front_byte, front_loaded, is_read, is_rmw, is_write, reach_fails, same_word, word_moved}

-- a program on a header, and the port that it has on the last byte of the stack, if it keeps one there
pub record Setting : Type 0 where
  pub program : Program
  pub header : Header
  pub held : Option ℕ
  pub performs : Performs program
  pub is_header : IsProgramHeader header

-- the port is on the last byte of the stack, if it is kept there
abbrev pub Keeps : (held : Option ℕ) → (stack : ℕ → Option ℕ) → Type 0
Keeps None stack = Unit {0}
Keeps (Some port) stack = stack 511 ≡ Some port

-- The registers from the first rule: the parts of the header, these first and last addresses, and the end of the
-- stack. The port is kept on the stack.
pub record Stands (held : Option ℕ) (first last : ℕ) (registers : ℕ → Value) (stack : ℕ → Option ℕ) : Type 0 where
  pub front : registers 6 ≡ Ptr Front (pos 0)
  pub tail : registers 7 ≡ Ptr Tail (pos 0)
  pub first_address : registers 8 ≡ Num first
  pub last_address : registers 9 ≡ Num last
  pub frame : registers 10 ≡ Ptr Stack (pos 0)
  pub port : Keeps held stack

-- those of the setting's header
abbrev pub StandsOn : Setting → (registers : ℕ → Value) → (stack : ℕ → Option ℕ) → Type 0
StandsOn m registers stack =
    Stands m.held (address_of (fields_of m.header)) (last_address_of (fields_of m.header)) registers stack

-- from a slot, every such state ends with this decision
pub record EndsFrom (m : Setting) (slot : ℕ) (d : Decision) : Type 0 where
  pub from : (registers : ℕ → Value) (stack : ℕ → Option ℕ) → StandsOn m registers stack → Finishes m.program m.header (state slot registers stack) d

pub from_slot : (m : Setting) (slot other : ℕ) (d : Decision) → slot ≡ other → EndsFrom m slot d → EndsFrom m other d
from_slot m slot other d same ends = subst (λ (k : ℕ). EndsFrom m k d) same ends

-- a write of r0 changes nothing of the others
pub kept : (held : Option ℕ) (first last : ℕ) (registers : ℕ → Value) (stack : ℕ → Option ℕ) (value : Value) → Stands held first last registers stack → Stands held first last (register_after registers 0 value) stack
kept held first last registers stack value h = record {
  front = h.front;
  tail = h.tail;
  first_address = h.first_address;
  last_address = h.last_address;
  frame = h.frame;
  port = h.port;
}

-- the jump of a test
turned : (m : Setting) (slot skipped end : ℕ) (registers : ℕ → Value) (stack : ℕ → Option ℕ) (insn : Insn) (met unmet : Decision) (holds : Bool)
    → insn_at m.program slot ≡ Some insn → IsOfFirst insn
    → perform m.header (state slot registers stack) insn ≡ branches (state slot registers stack) (pos skipped) (not holds)
    → slot + 1 + skipped ≡ end → StandsOn m registers stack → EndsFrom m (slot + 1) met → EndsFrom m end unmet
    → Finishes m.program m.header (state slot registers stack) (if holds then met else unmet)
turned m slot skipped end registers stack insn met unmet true here known done target stands following there =
    next m.program m.header (state slot registers stack) (state (slot + 1) registers stack) insn met m.performs here known done (following.from registers stack stands)
turned m slot skipped end registers stack insn met unmet false here known done target stands following there =
    let back : EndsFrom m (slot + 1 + skipped) unmet = from_slot m end (slot + 1 + skipped) unmet (sym target) there in
    next m.program m.header (state slot registers stack) (state (slot + 1 + skipped) registers stack) insn unmet m.performs here known done (back.from registers stack stands)

-- ---- a byte of the header

-- the byte at an offset from a register is that number
pub record Finds (m : Setting) (base offset byte : ℕ) : Type 0 where
  pub region : Region
  pub points : (registers : ℕ → Value) (stack : ℕ → Option ℕ) → StandsOn m registers stack → registers base ≡ Ptr region (pos 0)
  pub gives : (s : State) → loads m.header s LoadByte (Ptr region (pos 0)) (pos offset) ≡ Some (Num byte)

pub in_front : (m : Setting) (k byte : ℕ) → ((s : State) → loads m.header s LoadByte (Ptr Front (pos 0)) (pos k) ≡ Some (Num byte)) → Finds m 6 k byte
in_front m k byte gives = record { region = Front; points = λ registers stack stands. stands.front; gives = gives }

pub in_tail : (m : Setting) (k byte : ℕ) → ((s : State) → loads m.header s LoadByte (Ptr Tail (pos 0)) (pos k) ≡ Some (Num byte)) → Finds m 7 k byte
in_tail m k byte gives = record { region = Tail; points = λ registers stack stands. stands.tail; gives = gives }

-- a load of a byte into r0
loaded_next : (m : Setting) (slot base offset byte : ℕ) (registers : ℕ → Value) (stack : ℕ → Option ℕ) (d : Decision) → Finds m base offset byte
    → insn_at m.program slot ≡ Some (loaded LoadByte 0 base offset) → StandsOn m registers stack
    → Finishes m.program m.header (state (slot + 1) (register_after registers 0 (Num byte)) stack) d
    → Finishes m.program m.header (state slot registers stack) d
loaded_next m slot base offset byte registers stack d found here stands rest =
    let s : State = state slot registers stack in
    let done : perform m.header s (loaded LoadByte 0 base offset) ≡ Next (state (slot + 1) (register_after registers 0 (Num byte)) stack) =
    ap (λ (v : Value). writes s (slot + 1) 0 (loads m.header s LoadByte v (pos offset))) (found.points registers stack stands)
    ∙ ap (λ (o : Option Value). writes s (slot + 1) 0 o) (found.gives s) in
    next m.program m.header s (state (slot + 1) (register_after registers 0 (Num byte)) stack) (loaded LoadByte 0 base offset) d m.performs here refl done rest

compared : (m : Setting) (slot base offset byte wanted following end : ℕ) (met unmet : Decision) → Finds m base offset byte
    → StandAt m.program slot (field_test (Some wanted) base offset following) → wanted < 256
    → slot + 2 + following ≡ end → EndsFrom m (slot + 2) met → EndsFrom m end unmet → EndsFrom m slot (if byte == wanted then met else unmet)
compared m slot base offset byte wanted following end met unmet found code small target rest there = record {
  from = λ registers stack stands.
      let after : ℕ → Value = register_after registers 0 (Num byte) in
      let s : State = state (slot + 1) after stack in
      let jump : Insn = skips_if NotEqual 0 (Immediate (pos wanted)) following in
      let same : word (pos wanted) ≡ wanted = same_word wanted (omega arith) in
      let done : perform m.header s jump ≡ branches s (pos following) (not (byte == wanted)) =
      ap (λ (k : ℕ). branches s (pos following) (not (byte == k))) same in
      let two : slot + 2 ≡ slot + 1 + 1 = omega arith in
      let aim : slot + 1 + 1 + following ≡ end = omega (arith, target) in
      let on : EndsFrom m (slot + 1 + 1) met = from_slot m (slot + 2) (slot + 1 + 1) met two rest in
      loaded_next m slot base offset byte registers stack (if byte == wanted then met else unmet) found code.0 stands
      (turned m (slot + 1) following end after stack jump met unmet (byte == wanted) code.1.0 refl done aim (kept _ _ _ registers stack (Num byte) stands) on there);
}

-- a field
pub field_tested : (m : Setting) (slot base offset byte following end : ℕ) (field : Option ℕ) (met unmet : Decision) → Finds m base offset byte
    → StandAt m.program slot (field_test field base offset following) → IsByteField field
    → slot + field_slots field + following ≡ end → EndsFrom m (slot + field_slots field) met → EndsFrom m end unmet
    → EndsFrom m slot (if agrees field byte then met else unmet)
field_tested m slot base offset byte following end None met unmet found code small target rest there =
    from_slot m (slot + 0) slot met (omega arith) rest
field_tested m slot base offset byte following end (Some wanted) met unmet found code small target rest there =
    compared m slot base offset byte wanted following end met unmet found code small target rest there

-- ---- the port

-- the load of the kept port from the stack
port_load : (header : Header) (s : State) (port : ℕ) → s.stack 511 ≡ Some port → loads header s LoadByte (Ptr Stack (pos 0)) (negsuc 0) ≡ Some (Num port)
unfolding little_endian
port_load header s port is =
    let one : port + 256 * 0 ≡ port = omega arith in
    ap (λ (o : Option ℕ). load_value LoadByte (byte_below o (Some 0))) is ∙ ap (λ (k : ℕ). Some (Num k)) one

port_next : (m : Setting) (slot port : ℕ) (registers : ℕ → Value) (stack : ℕ → Option ℕ) (d : Decision) → m.held ≡ Some port
    → insn_at m.program slot ≡ Some port_loaded → StandsOn m registers stack
    → Finishes m.program m.header (state (slot + 1) (register_after registers 0 (Num port)) stack) d
    → Finishes m.program m.header (state slot registers stack) d
port_next m slot port registers stack d held here stands rest =
    let s : State = state slot registers stack in
    let keeps : stack 511 ≡ Some port = subst (λ (o : Option ℕ). Keeps o stack) held stands.port in
    let done : perform m.header s port_loaded ≡ Next (state (slot + 1) (register_after registers 0 (Num port)) stack) =
    ap (λ (v : Value). writes s (slot + 1) 0 (loads m.header s LoadByte v (negsuc 0))) stands.frame
    ∙ ap (λ (o : Option Value). writes s (slot + 1) 0 o) (port_load m.header s port keeps) in
    next m.program m.header s (state (slot + 1) (register_after registers 0 (Num port)) stack) port_loaded d m.performs here refl done rest

port_compared : (m : Setting) (slot port wanted following end : ℕ) (met unmet : Decision) → m.held ≡ Some port
    → StandAt m.program slot (port_test (Some wanted) following) → wanted < 32
    → slot + 2 + following ≡ end → EndsFrom m (slot + 2) met → EndsFrom m end unmet → EndsFrom m slot (if port == wanted then met else unmet)
port_compared m slot port wanted following end met unmet held code small target rest there = record {
  from = λ registers stack stands.
      let after : ℕ → Value = register_after registers 0 (Num port) in
      let s : State = state (slot + 1) after stack in
      let jump : Insn = skips_if NotEqual 0 (Immediate (pos wanted)) following in
      let same : word (pos wanted) ≡ wanted = same_word wanted (omega arith) in
      let done : perform m.header s jump ≡ branches s (pos following) (not (port == wanted)) =
      ap (λ (k : ℕ). branches s (pos following) (not (port == k))) same in
      let two : slot + 2 ≡ slot + 1 + 1 = omega arith in
      let aim : slot + 1 + 1 + following ≡ end = omega (arith, target) in
      let on : EndsFrom m (slot + 1 + 1) met = from_slot m (slot + 2) (slot + 1 + 1) met two rest in
      port_next m slot port registers stack (if port == wanted then met else unmet) held code.0 stands
      (turned m (slot + 1) following end after stack jump met unmet (port == wanted) code.1.0 refl done aim (kept _ _ _ registers stack (Num port) stands) on there);
}

-- the test of a rule's port, which is kept if there is one
pub port_tested : (m : Setting) (slot port following end : ℕ) (field : Option ℕ) (met unmet : Decision) → (is_some field ≡ true → m.held ≡ Some port)
    → StandAt m.program slot (port_test field following) → IsPortField field
    → slot + field_slots field + following ≡ end → EndsFrom m (slot + field_slots field) met → EndsFrom m end unmet
    → EndsFrom m slot (if agrees field port then met else unmet)
port_tested m slot port following end None met unmet held code small target rest there =
    from_slot m (slot + 0) slot met (omega arith) rest
port_tested m slot port following end (Some wanted) met unmet held code small target rest there =
    port_compared m slot port wanted following end met unmet (held refl) code small target rest there

-- ---- the kind

masked : (m : Setting) (slot mask wanted following end : ℕ) (holds : Bool) (met unmet : Decision) → StandAt m.program slot (masked_test mask wanted following)
    → word (pos mask) ≡ mask → word (pos wanted) ≡ wanted → (bit_and (slice_index m.header.front 2) mask == wanted) ≡ holds
    → slot + 3 + following ≡ end → EndsFrom m (slot + 3) met → EndsFrom m end unmet → EndsFrom m slot (if holds then met else unmet)
masked m slot mask wanted following end holds met unmet code mask_fits wanted_fits is target rest there = record {
  from = λ registers stack stands.
      let byte : ℕ = slice_index m.header.front 2 in
      let found : Finds m 6 2 byte = in_front m 2 byte (front_loaded m.header m.is_header 2 (omega arith) refl) in
      let d : Decision = if holds then met else unmet in
      let one : ℕ → Value = register_after registers 0 (Num byte) in
      let two : ℕ → Value = register_after one 0 (Num (bit_and byte mask)) in
      let s : State = state (slot + 1) one stack in
      let t : State = state (slot + 1 + 1) two stack in
      let jump : Insn = skips_if NotEqual 0 (Immediate (pos wanted)) following in
      let cut : perform m.header s (applied And 0 (Immediate (pos mask))) ≡ Next t =
      ap (λ (k : ℕ). writes s (slot + 1 + 1) 0 (Some (Num (bit_and byte k)))) mask_fits in
      let done : perform m.header t jump ≡ branches t (pos following) (not holds) =
      ap (λ (k : ℕ). branches t (pos following) (not (bit_and byte mask == k))) wanted_fits ∙ ap (λ (b : Bool). branches t (pos following) (not b)) is in
      let three : slot + 3 ≡ slot + 1 + 1 + 1 = omega arith in
      let aim : slot + 1 + 1 + 1 + following ≡ end = omega (arith, target) in
      let on : EndsFrom m (slot + 1 + 1 + 1) met = from_slot m (slot + 3) (slot + 1 + 1 + 1) met three rest in
      let stand_one : StandsOn m one stack = kept _ _ _ registers stack (Num byte) stands in
      let stand_two : StandsOn m two stack = kept _ _ _ one stack (Num (bit_and byte mask)) stand_one in
      loaded_next m slot 6 2 byte registers stack d found code.0 stands
      (next m.program m.header s t (applied And 0 (Immediate (pos mask))) d m.performs code.1.0 refl cut
      (turned m (slot + 1 + 1) following end two stack jump met unmet holds code.1.1.0 refl done aim stand_two on there));
}

-- the test of what the command asks for
pub kind_tested : (m : Setting) (slot following end : ℕ) (kind : RuleKind) (met unmet : Decision) → StandAt m.program slot (kind_test kind following)
    → slot + kind_slots kind + following ≡ end → EndsFrom m (slot + kind_slots kind) met → EndsFrom m end unmet
    → EndsFrom m slot (if agrees_with_kind kind (command_kind (fields_of m.header)) then met else unmet)
kind_tested m slot following end Any met unmet code target rest there = from_slot m (slot + 0) slot met (omega arith) rest
kind_tested m slot following end Read met unmet code target rest there =
    masked m slot 248 72 following end (agrees_with_kind Read (command_kind (fields_of m.header))) met unmet code refl refl (is_read _ (front_byte m.header m.is_header 2 (omega arith))) target rest there
kind_tested m slot following end Write met unmet code target rest there =
    masked m slot 224 96 following end (agrees_with_kind Write (command_kind (fields_of m.header))) met unmet code refl refl (is_write _ (front_byte m.header m.is_header 2 (omega arith))) target rest there
kind_tested m slot following end Rmw met unmet code target rest there =
    masked m slot 252 92 following end (agrees_with_kind Rmw (command_kind (fields_of m.header))) met unmet code refl refl (is_rmw _ (front_byte m.header m.is_header 2 (omega arith))) target rest there

-- ---- the range

pub both : (a b : Bool) (met unmet : Decision) → (if a then (if b then met else unmet) else unmet) ≡ (if a && b then met else unmet)
both true b met unmet = refl
both false b met unmet = refl

-- r0 is set to an end of the range
end_next : (m : Setting) (slot n : ℕ) (registers : ℕ → Value) (stack : ℕ → Option ℕ) (d : Decision) → n < 2 ^ 32
    → insn_at m.program slot ≡ Some (set_to_bits 0 n)
    → Finishes m.program m.header (state (slot + 1) (register_after registers 0 (Num n)) stack) d
    → Finishes m.program m.header (state slot registers stack) d
end_next m slot n registers stack d small here rest =
    let s : State = state slot registers stack in
    let done : perform m.header s (set_to_bits 0 n) ≡ Next (state (slot + 1) (register_after registers 0 (Num n)) stack) =
    ap (λ (o : Option Value). writes s (slot + 1) 0 o) (bits_moved (registers 0) n small) in
    next m.program m.header s (state (slot + 1) (register_after registers 0 (Num n)) stack) (set_to_bits 0 n) d m.performs here refl done rest

low_tested : (m : Setting) (slot low following end : ℕ) (met unmet : Decision) → low < 2 ^ 32
    → insn_at m.program slot ≡ Some (set_to_bits 0 low) → insn_at m.program (slot + 1) ≡ Some (skips_if Less 8 (FromRegister 0) following)
    → slot + 1 + 1 + following ≡ end → EndsFrom m (slot + 1 + 1) met → EndsFrom m end unmet
    → EndsFrom m slot (if nat_le low (address_of (fields_of m.header)) then met else unmet)
low_tested m slot low following end met unmet small first second target rest there = record {
  from = λ registers stack stands.
      let address : ℕ = address_of (fields_of m.header) in
      let after : ℕ → Value = register_after registers 0 (Num low) in
      let s : State = state (slot + 1) after stack in
      let done : perform m.header s (skips_if Less 8 (FromRegister 0) following) ≡ branches s (pos following) (not (nat_le low address)) =
      ap (λ (v : Value). compares Less Bits64 s (pos following) v (Num low)) stands.first_address
      ∙ ap (λ (b : Bool). branches s (pos following) b) (below_fails address low) in
      end_next m slot low registers stack (if nat_le low address then met else unmet) small first
      (turned m (slot + 1) following end after stack (skips_if Less 8 (FromRegister 0) following) met unmet (nat_le low address) second refl done target (kept _ _ _ registers stack (Num low) stands) rest there);
}

high_tested : (m : Setting) (slot high following end : ℕ) (met unmet : Decision) → high < 2 ^ 32
    → insn_at m.program slot ≡ Some (set_to_bits 0 high) → insn_at m.program (slot + 1) ≡ Some (skips_if Greater 9 (FromRegister 0) following)
    → slot + 1 + 1 + following ≡ end → EndsFrom m (slot + 1 + 1) met → EndsFrom m end unmet
    → EndsFrom m slot (if nat_le (last_address_of (fields_of m.header)) high then met else unmet)
high_tested m slot high following end met unmet small first second target rest there = record {
  from = λ registers stack stands.
      let last : ℕ = last_address_of (fields_of m.header) in
      let after : ℕ → Value = register_after registers 0 (Num high) in
      let s : State = state (slot + 1) after stack in
      let done : perform m.header s (skips_if Greater 9 (FromRegister 0) following) ≡ branches s (pos following) (not (nat_le last high)) =
      ap (λ (v : Value). compares Greater Bits64 s (pos following) v (Num high)) stands.last_address
      ∙ ap (λ (b : Bool). branches s (pos following) b) (below_fails high last) in
      end_next m slot high registers stack (if nat_le last high then met else unmet) small first
      (turned m (slot + 1) following end after stack (skips_if Greater 9 (FromRegister 0) following) met unmet (nat_le last high) second refl done target (kept _ _ _ registers stack (Num high) stands) rest there);
}

-- the range of the addresses
pub range_tested : (m : Setting) (slot low high following end : ℕ) (met unmet : Decision) → low < 2 ^ 32 → high < 2 ^ 32
    → StandAt m.program slot (range_test low high following)
    → slot + 4 + following ≡ end → EndsFrom m (slot + 4) met → EndsFrom m end unmet
    → EndsFrom m slot (if lies_between low high (fields_of m.header) then met else unmet)
range_tested m slot low high following end met unmet low_fits high_fits code target rest there =
    let above : Bool = nat_le low (address_of (fields_of m.header)) in
    let below : Bool = nat_le (last_address_of (fields_of m.header)) high in
    let four : slot + 4 ≡ slot + 1 + 1 + 1 + 1 = omega arith in
    let far : slot + 1 + 1 + (following + 2) ≡ end = omega (arith, target) in
    let near : slot + 1 + 1 + 1 + 1 + following ≡ end = omega (arith, target) in
    let on : EndsFrom m (slot + 1 + 1 + 1 + 1) met = from_slot m (slot + 4) (slot + 1 + 1 + 1 + 1) met four rest in
    let second : EndsFrom m (slot + 1 + 1) (if below then met else unmet) = high_tested m (slot + 1 + 1) high following end met unmet high_fits code.1.1.0 code.1.1.1.0 near on there in
    let first : EndsFrom m slot (if above then (if below then met else unmet) else unmet) = low_tested m slot low (following + 2) end (if below then met else unmet) unmet low_fits code.0 code.1.0 far second there in
    subst (λ (d : Decision). EndsFrom m slot d) (both above below met unmet) first

-- ---- the quota

-- a number goes into a register that no test keeps
number_next : (m : Setting) (slot register n : ℕ) (registers : ℕ → Value) (stack : ℕ → Option ℕ) (d : Decision) → n < 2 ^ 64 → (register == 10) ≡ false
    → insn_at m.program slot ≡ Some (set_to register n)
    → Finishes m.program m.header (state (slot + 1) (register_after registers register (Num n)) stack) d
    → Finishes m.program m.header (state slot registers stack) d
number_next m slot register n registers stack d small writable here rest =
    let s : State = state slot registers stack in
    let t : State = state (slot + 1) (register_after registers register (Num n)) stack in
    let done : perform m.header s (set_to register n) ≡ Next t =
    ap (λ (o : Option Value). writes s (slot + 1) register o) (word_moved (registers register) n small)
    ∙ ap (λ (b : Bool). (if b then Trap else Next t)) writable in
    next m.program m.header s t (set_to register n) d m.performs here refl done rest

-- a draw before one of two decisions
abbrev after_draw : calls.Call → Decision → Decision
after_draw c d = (c ∷ d.0, d.1)

drawn_first : (t : Bool) (c : calls.Call) (met unmet : Decision) → after_draw c (if t then met else unmet) ≡ (if t then after_draw c met else after_draw c unmet)
drawn_first true c met unmet = refl
drawn_first false c met unmet = refl

drawn : (m : Setting) (slot end code answer : ℕ) (quota : Quota) (rest : Decision) → answer < 2 ^ 64 → IsLimited (Some quota)
    → StandAt m.program slot (quota_test (Some quota) 2) → slot + 5 + 2 ≡ end → EndsFrom m (slot + 5) ([], code) → EndsFrom m end rest
    → EndsFrom m slot (if nat_lt answer quota.limit then (draw quota answer ∷ [], code) else (draw quota answer ∷ rest.0, rest.1))
drawn m slot end code answer quota rest small limited insns target following there = record {
  from = λ registers stack stands.
      let holds : Bool = nat_lt answer quota.limit in
      let d : Decision = if holds then ([], code) else rest in
      let whole : Decision = after_draw (draw quota answer) d in
      let one : ℕ → Value = register_after registers 1 (Map quota.map) in
      let two : ℕ → Value = register_after one 2 (Num quota.cell) in
      let three : ℕ → Value = register_after_call two answer in
      let s : State = state slot registers stack in
      let t : State = state (slot + 2) one stack in
      let u : State = state (slot + 2 + 1) two stack in
      let v : State = state (slot + 2 + 1 + 1) three stack in
      let jump : Insn = skips_if GreaterEqual 0 (Immediate (pos quota.limit)) 2 in
      let limit_small : quota.limit < 2 ^ 64 = omega (arith, limited.2) in
      let cell_small : quota.cell < 2 ^ 64 = omega (arith, limited.1) in
      let same : word (pos quota.limit) ≡ quota.limit = same_word quota.limit limit_small in
      let done : perform m.header v jump ≡ branches v (pos 2) (not holds) =
      ap (λ (k : ℕ). branches v (pos 2) (nat_le k answer)) same ∙ ap (λ (b : Bool). branches v (pos 2) b) (reach_fails quota.limit answer) in
      let five : slot + 5 ≡ slot + 2 + 1 + 1 + 1 = omega arith in
      let aim : slot + 2 + 1 + 1 + 1 + 2 ≡ end = omega (arith, target) in
      let on : EndsFrom m (slot + 2 + 1 + 1 + 1) ([], code) = from_slot m (slot + 5) (slot + 2 + 1 + 1 + 1) ([], code) five following in
      let stand_three : StandsOn m three stack = record { front = stands.front; tail = stands.tail; first_address = stands.first_address; last_address = stands.last_address; frame = stands.frame; port = stands.port } in
      let last : Finishes m.program m.header v d = turned m (slot + 2 + 1 + 1) 2 end three stack jump ([], code) rest holds insns.1.1.1.0 refl done aim stand_three on there in
      let call_done : Finishes m.program m.header u whole = asked m.program m.header u (question Ticket quota.map quota.cell 0) (after_answer u) (Call callees.Helper (pos (helper_number Ticket))) answer d m.performs insns.1.1.0 refl refl small last in
      let key : Finishes m.program m.header t whole = number_next m (slot + 2) 2 quota.cell one stack whole cell_small refl insns.1.0 call_done in
      let map : Finishes m.program m.header s whole = next m.program m.header s t (LoadMap 1 (pos quota.map)) whole m.performs insns.0 refl refl key in
      subst (λ (e : Decision). Finishes m.program m.header s e) (drawn_first holds (draw quota answer) ([], code) rest) map;
}

-- a quota, if the conditions of its rule hold
pub quota_tested : (m : Setting) (slot end code : ℕ) (quota : Option Quota) (reported : ℕ → ℕ) (later : Decision) → reported 0 < 2 ^ 64 → IsLimited quota
    → StandAt m.program slot (quota_test quota 2) → slot + quota_slots quota + 2 ≡ end
    → EndsFrom m (slot + quota_slots quota) ([], code) → EndsFrom m end later
    → EndsFrom m slot (ruled quota code reported later)
quota_tested m slot end code None reported later small limited insns target following there = from_slot m (slot + 0) slot ([], code) (omega arith) following
quota_tested m slot end code (Some quota) reported later small limited insns target following there =
    drawn m slot end code (reported 0) quota later small limited insns target following there

-- ---- the verdict

pub verdict_given : (m : Setting) (slot code : ℕ) → code < 2 ^ 64 → StandAt m.program slot (verdict_code code) → EndsFrom m slot ([], code)
verdict_given m slot code small insns = record {
  from = λ registers stack stands.
      let after : ℕ → Value = register_after registers 0 (Num code) in
      number_next m slot 0 code registers stack ([], code) small refl insns.0
      (stopped m.program m.header (state (slot + 1) after stack) Exit code m.performs insns.1.0 refl refl);
}
