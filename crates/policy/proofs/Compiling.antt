-- Compiled tables: a rule by its tests, the rules from the last, and what comes before them.
use Rattle.std.specs.Prelude.{◌≢◌, pos, is_some, ◌||◌, ◌/◌, ◌&&◌, ◌==◌, not, bit_and, if◌then◌else◌, slice_index}
use Rattle.std.proofs.Common.{◌≡◌, ◌<◌, ◌^◌, ◌+◌, ◌-◌, ◌%◌, ℕ, zero, suc, Bool, true, false, List, [], ◌∷◌, ◌++◌, length, Option, Some, None, refl, sym, ap, ◌∙◌, subst, arith, append_assoc}
use Rattle.std.specs.Prelude.{All}
use Rattle.std.proofs.lemmas.List.Elements.{All-head, All-tail}
use Rattle.bpf.specs.declared.version.Version.TheVariants.{One}
use Rattle.bpf.specs.Program.{Program, insn_at, program}
use Rattle.bpf_insn.specs.declared.insn.Insn.{Insn}
use Rattle.bpf_insn.specs.Spelling.{slots_of}
use Rattle.bpf_parts.specs.declared.memory.LoadSize.TheVariants.{LoadByte, LoadWord}
use Rattle.bpf_parts.specs.declared.operation.AluOp.TheVariants.{Add, And, Mov, Rsh, Sub}
use Rattle.bpf_parts.specs.declared.operation.Condition.TheVariants.{Equal}
use Rattle.bpf_parts.specs.declared.operation.Operand.TheVariants.{FromRegister, Immediate}
use Rattle.bpf_parts.specs.declared.operation.Swap.TheVariants.{ToBig}
use Rattle.bpf_parts.specs.declared.operation.SwapBits.TheVariants.{Swap32}
use Rattle.bpf_parts.specs.declared.operation.Width.TheVariants.{Bits64}
use Rattle.machine.specs.declared.regions.Region.TheVariants.{Front, Tail}
use Rattle.machine.specs.declared.values.Value.{Value}
use Rattle.machine.specs.declared.values.Value.TheVariants.{Num, Ptr}
use Rattle.machine.specs.Laws.{AnswersDecide, RunsFromTheFront, StepPerforms}
use Rattle.machine.specs.Memory.{Header, IsProgramHeader, byte_after}
use Rattle.machine.specs.Runs.{Ends, Runs}
use Rattle.machine.specs.State.{State, entry_register, entry_state, register_after, state}
use Rattle.machine.specs.Step.{Next, alu, knows_insn, loads, perform, perform_at, writes}
use Rattle.machine.specs.Words.{swapped_bytes}
use Rattle.rmap.specs.Command.{address_of, extended_of, increments, command_kind, initiator_of, key_of, length_of}
use Rattle.policy.specs.Code.{address_code, applied, asks_ports, keep_code, port_kept, port_rule_code, port_test, rule_slots, after_extended, after_initiator, after_key, after_kind, slots_after_range, field_slots, field_test, kind_slots, kind_test, last_address_code, loaded, quota_slots, quota_test, range_test, rule_code, rules_code, skips_if, swapped, table_code, verdict_code}
use Rattle.rmap.specs.Verdict.{verdict_number}
use Rattle.policy.specs.Compiled.{HasPortMeaning}
use Rattle.policy_table.specs.Laws.{DrawsAreAnswered}
use Rattle.policy_table.specs.Limits.{FitsFields}
use Rattle.policy_table.specs.Ports.{FitsPort, port_decision, rules_at}
use Rattle.policy.specs.Meant.{table_program}
use Rattle.policy_table.specs.Meaning.{AreAnswerWords, agrees, decision, fields_of, agrees_with_kind, last_address_of, lies_between, ruled}
use Rattle.policy_table.specs.declared.port_rules.PortRule.{PortRule}
use Rattle.policy_table.specs.declared.rules.Quota.{Quota}
use Rattle.policy_table.specs.declared.rules.Rule.{Rule}
use Rattle.policy_table.specs.declared.rules.RuleKind.{RuleKind}
use Rattle.policy_table.specs.declared.rules.RuleKind.TheVariants.{Read, Write, Rmw, Any}
use Rattle.rmap.specs.declared.verdict.Verdict.{Verdict}
use Rattle.rmap.specs.declared.verdict.Verdict.TheVariants.{Authorised, InvalidKey, NotAuthorised, InvalidLogicalAddress}
use Rattle.policy.proofs.Finishing.{Decision, Finishes, StandAt, branched, next, slot_after, split, stand}
use Rattle.policy.proofs.Headers.{big_three, big_word, front_byte, front_loaded, high_first, is_increment, low_first, tail_byte, tail_loaded, word_loaded, word_swapped}
use Rattle.policy.proofs.Testing.{EndsFrom, Keeps, Setting, Stands, field_tested, in_front, in_tail, kept, kind_tested, port_tested, quota_tested, range_tested, verdict_given}

-- ---- how many slots the tests have

kind_after : (slot : ℕ) (kind : RuleKind) (following : ℕ) → slot_after slot (kind_test kind following) ≡ slot + kind_slots kind
kind_after slot Any following = omega arith
kind_after slot Read following = omega arith
kind_after slot Write following = omega arith
kind_after slot Rmw following = omega arith

field_after : (slot : ℕ) (field : Option ℕ) (base offset following : ℕ) → slot_after slot (field_test field base offset following) ≡ slot + field_slots field
field_after slot None base offset following = omega arith
field_after slot (Some wanted) base offset following = omega arith

range_after : (slot low high following : ℕ) → slot_after slot (range_test low high following) ≡ slot + 4
range_after slot low high following = omega arith

quota_after : (slot : ℕ) (quota : Option Quota) (following : ℕ) → slot_after slot (quota_test quota following) ≡ slot + quota_slots quota
quota_after slot None following = omega arith
quota_after slot (Some quota) following = omega arith

verdict_after : (slot code : ℕ) → slot_after slot (verdict_code code) ≡ slot + 2
verdict_after slot code = omega arith

-- a first part, and after it the rest
cut_at : (program : Program) (slot other : ℕ) (xs ys : List Insn) → slot_after slot xs ≡ other → StandAt program slot (xs ++ ys)
    → StandAt program slot xs × StandAt program other ys
cut_at program slot other xs ys same h =
    let parts = split program slot xs ys h in
    (parts.0, subst (λ (k : ℕ). StandAt program k ys) same parts.1)

pub after_both : (slot other : ℕ) (xs ys : List Insn) → slot_after slot xs ≡ other → slot_after slot (xs ++ ys) ≡ slot_after other ys
after_both slot other [] ys same = ap (λ (k : ℕ). slot_after k ys) same
after_both slot other (x ∷ xs) ys same = after_both (slot + slots_of x) other xs ys same

-- ---- a rule

small_code : (verdict : Verdict) → verdict_number verdict < 2 ^ 64
small_code Authorised = omega arith
small_code InvalidKey = omega arith
small_code NotAuthorised = omega arith
small_code InvalidLogicalAddress = omega arith

-- the conditions one after the other are all of them
all_five : (a b c d e : Bool) (met unmet : Decision)
    → (if a then (if b then (if c then (if d then (if e then met else unmet) else unmet) else unmet) else unmet) else unmet) ≡ (if a && b && c && d && e then met else unmet)
all_five true true true true true met unmet = refl
all_five true true true true false met unmet = refl
all_five true true true false e met unmet = refl
all_five true true false d e met unmet = refl
all_five true false c d e met unmet = refl
all_five false b c d e met unmet = refl

-- the tests of a rule, from one of them
abbrev from_quota : Rule → List Insn
from_quota rule = quota_test rule.quota 2 ++ verdict_code (verdict_number rule.verdict)

abbrev from_range : Rule → List Insn
from_range rule = range_test rule.low rule.high (slots_after_range rule) ++ from_quota rule

abbrev from_extended : Rule → List Insn
from_extended rule = field_test rule.extended 7 3 (after_extended rule) ++ from_range rule

abbrev from_initiator : Rule → List Insn
from_initiator rule = field_test rule.initiator 7 0 (after_initiator rule) ++ from_extended rule

abbrev from_key : Rule → List Insn
from_key rule = field_test rule.key 6 3 (after_key rule) ++ from_initiator rule

-- the slot at which the tests of a rule begin
abbrev key_at : ℕ → Rule → ℕ
key_at slot rule = slot + kind_slots rule.kind

abbrev initiator_at : ℕ → Rule → ℕ
initiator_at slot rule = key_at slot rule + field_slots rule.key

abbrev extended_at : ℕ → Rule → ℕ
extended_at slot rule = initiator_at slot rule + field_slots rule.initiator

abbrev range_at : ℕ → Rule → ℕ
range_at slot rule = extended_at slot rule + field_slots rule.extended

abbrev quota_at : ℕ → Rule → ℕ
quota_at slot rule = range_at slot rule + 4

abbrev verdict_at : ℕ → Rule → ℕ
verdict_at slot rule = quota_at slot rule + quota_slots rule.quota

-- the slot at which a rule ends
abbrev pub end_of : ℕ → Rule → ℕ
end_of slot rule = verdict_at slot rule + 2

-- the tests of a rule one after the other
one_after_another : (a b c d e f g : List Insn) → a ++ b ++ c ++ d ++ e ++ f ++ g ≡ a ++ (b ++ (c ++ (d ++ (e ++ (f ++ g)))))
one_after_another a b c d e f g = simp append_assoc

pub in_turn : (rule : Rule) → rule_code rule ≡ kind_test rule.kind (after_kind rule) ++ from_key rule
in_turn rule =
    one_after_another (kind_test rule.kind (after_kind rule)) (field_test rule.key 6 3 (after_key rule)) (field_test rule.initiator 7 0 (after_initiator rule)) (field_test rule.extended 7 3 (after_extended rule)) (range_test rule.low rule.high (slots_after_range rule)) (quota_test rule.quota 2) (verdict_code (verdict_number rule.verdict))

rule_after : (slot : ℕ) (rule : Rule) → slot_after slot (rule_code rule) ≡ end_of slot rule
rule_after slot rule =
    ap (λ (insns : List Insn). slot_after slot insns) (in_turn rule)
    ∙ after_both slot (key_at slot rule) (kind_test rule.kind (after_kind rule)) (from_key rule) (kind_after slot rule.kind (after_kind rule))
    ∙ after_both (key_at slot rule) (initiator_at slot rule) (field_test rule.key 6 3 (after_key rule)) (from_initiator rule) (field_after (key_at slot rule) rule.key 6 3 (after_key rule))
    ∙ after_both (initiator_at slot rule) (extended_at slot rule) (field_test rule.initiator 7 0 (after_initiator rule)) (from_extended rule) (field_after (initiator_at slot rule) rule.initiator 7 0 (after_initiator rule))
    ∙ after_both (extended_at slot rule) (range_at slot rule) (field_test rule.extended 7 3 (after_extended rule)) (from_range rule) (field_after (extended_at slot rule) rule.extended 7 3 (after_extended rule))
    ∙ after_both (range_at slot rule) (quota_at slot rule) (range_test rule.low rule.high (slots_after_range rule)) (from_quota rule) (range_after (range_at slot rule) rule.low rule.high (slots_after_range rule))
    ∙ after_both (quota_at slot rule) (verdict_at slot rule) (quota_test rule.quota 2) (verdict_code (verdict_number rule.verdict)) (quota_after (quota_at slot rule) rule.quota 2)
    ∙ verdict_after (verdict_at slot rule) (verdict_number rule.verdict)

-- the tests of a rule, each at its first slot
record StandsThere (program : Program) (slot : ℕ) (rule : Rule) : Type 0 where
  kind : StandAt program slot (kind_test rule.kind (after_kind rule))
  key : StandAt program (key_at slot rule) (field_test rule.key 6 3 (after_key rule))
  initiator : StandAt program (initiator_at slot rule) (field_test rule.initiator 7 0 (after_initiator rule))
  extended : StandAt program (extended_at slot rule) (field_test rule.extended 7 3 (after_extended rule))
  range : StandAt program (range_at slot rule) (range_test rule.low rule.high (slots_after_range rule))
  quota : StandAt program (quota_at slot rule) (quota_test rule.quota 2)
  verdict : StandAt program (verdict_at slot rule) (verdict_code (verdict_number rule.verdict))

rule_stands : (program : Program) (slot : ℕ) (rule : Rule) → StandAt program slot (rule_code rule) → StandsThere program slot rule
rule_stands program slot rule whole =
    let code = subst (λ (insns : List Insn). StandAt program slot insns) (in_turn rule) whole in
    let kind = cut_at program slot (key_at slot rule) (kind_test rule.kind (after_kind rule)) (from_key rule) (kind_after slot rule.kind (after_kind rule)) code in
    let key = cut_at program (key_at slot rule) (initiator_at slot rule) (field_test rule.key 6 3 (after_key rule)) (from_initiator rule) (field_after (key_at slot rule) rule.key 6 3 (after_key rule)) kind.1 in
    let initiator = cut_at program (initiator_at slot rule) (extended_at slot rule) (field_test rule.initiator 7 0 (after_initiator rule)) (from_extended rule) (field_after (initiator_at slot rule) rule.initiator 7 0 (after_initiator rule)) key.1 in
    let extended = cut_at program (extended_at slot rule) (range_at slot rule) (field_test rule.extended 7 3 (after_extended rule)) (from_range rule) (field_after (extended_at slot rule) rule.extended 7 3 (after_extended rule)) initiator.1 in
    let range = cut_at program (range_at slot rule) (quota_at slot rule) (range_test rule.low rule.high (slots_after_range rule)) (from_quota rule) (range_after (range_at slot rule) rule.low rule.high (slots_after_range rule)) extended.1 in
    let quota = cut_at program (quota_at slot rule) (verdict_at slot rule) (quota_test rule.quota 2) (verdict_code (verdict_number rule.verdict)) (quota_after (quota_at slot rule) rule.quota 2) range.1 in
    record { kind = kind.0; key = key.0; initiator = initiator.0; extended = extended.0; range = range.0; quota = quota.0; verdict = quota.1 }

-- from a slot, the rules decide, whatever the answers
pub record RulesEnd (m : Setting) (slot : ℕ) (rules : List Rule) : Type 0 where
  pub ends : (reported : ℕ → ℕ) → AreAnswerWords reported → EndsFrom m slot (decision rules m.header reported)

rule_decides : (m : Setting) (slot : ℕ) (rule : Rule) (rules : List Rule) → FitsFields rule → StandsThere m.program slot rule
    → RulesEnd m (end_of slot rule) rules → RulesEnd m slot (rule ∷ rules)
rule_decides m slot rule rules fits code others = record {
  ends = λ reported words.
      let end : ℕ = end_of slot rule in
      let header : Header = m.header in
      let code_of : ℕ = verdict_number rule.verdict in
      let later : Decision = decision rules header (λ k. reported (suc k)) in
      let unmet : Decision = decision rules header reported in
      let met : Decision = ruled rule.quota code_of reported later in
      let last : Bool = lies_between rule.low rule.high (fields_of header) in
      let fourth : Bool = agrees rule.extended (extended_of (fields_of header)) in
      let third : Bool = agrees rule.initiator (initiator_of (fields_of header)) in
      let second : Bool = agrees rule.key (key_of (fields_of header)) in
      let first : Bool = agrees_with_kind rule.kind (command_kind (fields_of header)) in
      let key_is = in_front m 3 (key_of (fields_of header)) (front_loaded header m.is_header 3 (omega arith) refl) in
      let initiator_is = in_tail m 0 (initiator_of (fields_of header)) (tail_loaded header m.is_header 0 (omega arith) refl) in
      let extended_is = in_tail m 3 (extended_of (fields_of header)) (tail_loaded header m.is_header 3 (omega arith) refl) in
      let there : EndsFrom m end unmet = others.ends reported words in
      let following : EndsFrom m end later = others.ends (λ k. reported (suc k)) (λ k. words (suc k)) in
      let verdict : EndsFrom m (verdict_at slot rule) ([], code_of) = verdict_given m (verdict_at slot rule) code_of (small_code rule.verdict) code.verdict in
      let quota : EndsFrom m (quota_at slot rule) met = quota_tested m (quota_at slot rule) end code_of rule.quota reported later (words 0) fits.quota code.quota refl verdict following in
      let range : EndsFrom m (range_at slot rule) (if last then met else unmet) = range_tested m (range_at slot rule) rule.low rule.high (slots_after_range rule) end met unmet fits.low fits.high code.range (omega arith) quota there in
      let with_range : Decision = if last then met else unmet in
      let extended : EndsFrom m (extended_at slot rule) (if fourth then with_range else unmet) = field_tested m (extended_at slot rule) 7 3 (extended_of (fields_of header)) (after_extended rule) end rule.extended with_range unmet extended_is code.extended fits.extended (omega arith) range there in
      let with_extended : Decision = if fourth then with_range else unmet in
      let initiator : EndsFrom m (initiator_at slot rule) (if third then with_extended else unmet) = field_tested m (initiator_at slot rule) 7 0 (initiator_of (fields_of header)) (after_initiator rule) end rule.initiator with_extended unmet initiator_is code.initiator fits.initiator (omega arith) extended there in
      let with_initiator : Decision = if third then with_extended else unmet in
      let key : EndsFrom m (key_at slot rule) (if second then with_initiator else unmet) = field_tested m (key_at slot rule) 6 3 (key_of (fields_of header)) (after_key rule) end rule.key with_initiator unmet key_is code.key fits.key (omega arith) initiator there in
      let with_key : Decision = if second then with_initiator else unmet in
      let kind : EndsFrom m slot (if first then with_key else unmet) = kind_tested m slot (after_kind rule) end rule.kind with_key unmet code.kind (omega arith) key there in
      subst (λ (d : Decision). EndsFrom m slot d) (all_five first second third fourth last met unmet) kind;
}

-- ---- the rules, from the last

port_after : (slot : ℕ) (field : Option ℕ) (following : ℕ) → slot_after slot (port_test field following) ≡ slot + field_slots field
port_after slot None following = omega arith
port_after slot (Some port) following = omega arith

pub port_rule_after : (slot : ℕ) (own : PortRule) → slot_after slot (port_rule_code own) ≡ end_of (slot + field_slots own.port) own.rule
port_rule_after slot own =
    after_both slot (slot + field_slots own.port) (port_test own.port (rule_slots own.rule)) (rule_code own.rule) (port_after slot own.port (rule_slots own.rule))
    ∙ rule_after (slot + field_slots own.port) own.rule

-- a rule that is asked comes before the others; without it only the others decide
chosen : (t : Bool) (a b : List Rule) (header : Header) (reported : ℕ → ℕ) → (if t then decision a header reported else decision b header reported) ≡ decision (if t then a else b) header reported
chosen true a b header reported = refl
chosen false a b header reported = refl

pub first_asks : (a b : Bool) → a ≡ true → (a || b) ≡ true
first_asks true b h = refl
first_asks false b h = cc

pub later_asks : (a b : Bool) → b ≡ true → (a || b) ≡ true
later_asks true b h = refl
later_asks false b h = h

-- at a port, which is on the stack if a rule asks it
pub rules_decide : (m : Setting) (port slot : ℕ) (rules : List PortRule) → (asks_ports rules ≡ true → m.held ≡ Some port) → All FitsPort rules
    → StandAt m.program slot (rules_code rules) → RulesEnd m slot (rules_at port rules)
rules_decide m port slot [] held fits code = record { ends = λ reported words. verdict_given m slot 10 (omega arith) code }
rules_decide m port slot (own ∷ rules) held fits code =
    let begins : ℕ = slot + field_slots own.port in
    let end : ℕ = end_of begins own.rule in
    let parts = cut_at m.program slot end (port_rule_code own) (rules_code rules) (port_rule_after slot own) code in
    let both = cut_at m.program slot begins (port_test own.port (rule_slots own.rule)) (rule_code own.rule) (port_after slot own.port (rule_slots own.rule)) parts.0 in
    let own_fits : FitsPort own = All-head FitsPort own rules fits in
    let later : RulesEnd m end (rules_at port rules) = rules_decide m port end rules (λ asked. held (later_asks (is_some own.port) (asks_ports rules) asked)) (All-tail FitsPort own rules fits) parts.1 in
    let met : RulesEnd m begins (own.rule ∷ rules_at port rules) = rule_decides m begins own.rule (rules_at port rules) own_fits.rule (rule_stands m.program begins own.rule both.1) later in
    record {
      ends = λ reported words.
          let asked : Decision = decision (own.rule ∷ rules_at port rules) m.header reported in
          let others : Decision = decision (rules_at port rules) m.header reported in
          let tested : EndsFrom m slot (if agrees own.port port then asked else others) =
          port_tested m slot port (rule_slots own.rule) end own.port asked others (λ has. held (first_asks (is_some own.port) (asks_ports rules) has)) both.0 own_fits.port (omega arith) (met.ends reported words) (later.ends reported words) in
          subst (λ (d : Decision). EndsFrom m slot d) (chosen (agrees own.port port) (own.rule ∷ rules_at port rules) (rules_at port rules) m.header reported) tested;
    }

-- ---- before the rules

-- the last address is no further than the first
plain_last : (a b : Bool) (far near : ℕ) → not a ≡ true → (if a && b then far else near) ≡ near
plain_last true b far near h = cc
plain_last false b far near h = refl

empty_last : (a b : Bool) (far near : ℕ) → b ≡ true → (if a && not b then far else near) ≡ near
empty_last true true far near h = refl
empty_last true false far near h = cc
empty_last false b far near h = refl

far_last : (a b : Bool) (far near : ℕ) → not a ≡ false → b ≡ false → (if a && not b then far else near) ≡ far
far_last true true far near h g = cc
far_last true false far near h g = refl
far_last false b far near h g = cc

with_last : (held : Option ℕ) (first last : ℕ) (registers : ℕ → Value) (stack : ℕ → Option ℕ) → Stands held first last registers stack → (other : ℕ) → last ≡ other → Stands held first other registers stack
with_last held first last registers stack stands other same = subst (λ (n : ℕ). Stands held first n registers stack) same stands

moved_last : (held : Option ℕ) (first last other : ℕ) (registers : ℕ → Value) (stack : ℕ → Option ℕ) → Stands held first last registers stack → Stands held first other (register_after registers 9 (Num other)) stack
moved_last held first last other registers stack h = record {
  front = h.front;
  tail = h.tail;
  first_address = h.first_address;
  last_address = refl;
  frame = h.frame;
  port = h.port;
}

-- the slot that is `count` slots after one
abbrev pub at : (slot count : ℕ) → ℕ
at slot zero = slot
at slot (suc count) = at slot count + 1

-- the address, and the slot at which the rules begin
start : (m : Setting) (b port : ℕ) (stack : ℕ → Option ℕ) (d : Decision) → Keeps m.held stack → StandAt m.program b address_code
    → ((registers : ℕ → Value) → Stands m.held (address_of (fields_of m.header)) (address_of (fields_of m.header)) registers stack → Finishes m.program m.header (state (at b 5) registers stack) d)
    → Finishes m.program m.header (state b (entry_register port) stack) d
start m b port stack d keeps code rest =
    let header : Header = m.header in
    let tail : List ℕ = header.tail in
    let address : ℕ = address_of (fields_of header) in
    let word : ℕ = low_first (slice_index tail 4) (slice_index tail 5) (slice_index tail 6) (slice_index tail 7) in
    let r0 : ℕ → Value = entry_register port in
    let r1 : ℕ → Value = register_after r0 6 (Ptr Front (pos 0)) in
    let r2 : ℕ → Value = register_after r1 7 (Ptr Tail (pos 0)) in
    let r3 : ℕ → Value = register_after r2 8 (Num word) in
    let r4 : ℕ → Value = register_after r3 8 (Num address) in
    let r5 : ℕ → Value = register_after r4 9 (Num address) in
    let load : perform header (state (at b 2) r2 stack) (loaded LoadWord 8 7 4) ≡ Next (state (at b 3) r3 stack) =
    ap (λ (o : Option Value). writes (state (at b 2) r2 stack) (at b 3) 8 o) (word_loaded header m.is_header 4 (omega arith) refl (state (at b 2) r2 stack)) in
    let big : swapped_bytes ToBig Swap32 word ≡ address =
    word_swapped _ _ _ _ (tail_byte header m.is_header 4 (omega arith)) (tail_byte header m.is_header 5 (omega arith)) (tail_byte header m.is_header 6 (omega arith)) (tail_byte header m.is_header 7 (omega arith))
    ∙ sym (big_word tail) in
    let swap : perform header (state (at b 3) r3 stack) (swapped 8) ≡ Next (state (at b 4) r4 stack) =
    ap (λ (k : ℕ). writes (state (at b 3) r3 stack) (at b 4) 8 (Some (Num k))) big in
    next m.program header (state b r0 stack) (state (at b 1) r1 stack) (applied Mov 6 (FromRegister 1)) d m.performs code.0 refl refl
    (next m.program header (state (at b 1) r1 stack) (state (at b 2) r2 stack) (applied Mov 7 (FromRegister 2)) d m.performs code.1.0 refl refl
    (next m.program header (state (at b 2) r2 stack) (state (at b 3) r3 stack) (loaded LoadWord 8 7 4) d m.performs code.1.1.0 refl load
    (next m.program header (state (at b 3) r3 stack) (state (at b 4) r4 stack) (swapped 8) d m.performs code.1.1.1.0 refl swap
    (next m.program header (state (at b 4) r4 stack) (state (at b 5) r5 stack) (applied Mov 9 (FromRegister 8)) d m.performs code.1.1.1.1.0 refl refl
    (rest r5 (record { front = refl; tail = refl; first_address = refl; last_address = refl; frame = refl; port = keeps }))))))

-- the last address if there is a length
long : (m : Setting) (b : ℕ) (registers : ℕ → Value) (stack : ℕ → Option ℕ) (address length last : ℕ) (d : Decision) → Stands m.held address address registers stack
    → registers 0 ≡ Num length → length ≢ 0 → address < 2 ^ 32 → length < 2 ^ 24 → address + length - 1 ≡ last
    → insn_at m.program (at b 12) ≡ Some (applied Add 9 (FromRegister 0)) → insn_at m.program (at b 13) ≡ Some (applied Sub 9 (Immediate (pos 1)))
    → ((after : ℕ → Value) → Stands m.held address last after stack → Finishes m.program m.header (state (at b 14) after stack) d)
    → Finishes m.program m.header (state (at b 12) registers stack) d
long m b registers stack address length last d stands value some address_fits length_fits is first second rest =
    let header : Header = m.header in
    let r1 : ℕ → Value = register_after registers 9 (Num (address + length)) in
    let r2 : ℕ → Value = register_after r1 9 (Num last) in
    let s : State = state (at b 12) registers stack in
    let t : State = state (at b 13) r1 stack in
    let sum : (address + length) % 2 ^ 64 ≡ address + length = omega arith in
    let less : (address + length + (2 ^ 64 - 1)) % 2 ^ 64 ≡ last = omega (arith, is) in
    let add : perform header s (applied Add 9 (FromRegister 0)) ≡ Next t =
    ap (λ (v : Value). writes s (at b 13) 9 (alu Add Bits64 v (registers 0))) stands.last_address
    ∙ ap (λ (v : Value). writes s (at b 13) 9 (alu Add Bits64 (Num address) v)) value
    ∙ ap (λ (k : ℕ). writes s (at b 13) 9 (Some (Num k))) sum in
    let sub : perform header t (applied Sub 9 (Immediate (pos 1))) ≡ Next (state (at b 14) r2 stack) =
    ap (λ (k : ℕ). writes t (at b 14) 9 (Some (Num k))) less in
    let then_one : Stands m.held address (address + length) r1 stack = moved_last m.held address address (address + length) registers stack stands in
    next m.program header s t (applied Add 9 (FromRegister 0)) d m.performs first refl add
    (next m.program header t (state (at b 14) r2 stack) (applied Sub 9 (Immediate (pos 1))) d m.performs second refl sub
    (rest r2 (moved_last m.held address (address + length) last r1 stack then_one)))

-- the last address
finish : (m : Setting) (b : ℕ) (registers : ℕ → Value) (stack : ℕ → Option ℕ) (d : Decision) → StandAt m.program (at b 5) last_address_code
    → Stands m.held (address_of (fields_of m.header)) (address_of (fields_of m.header)) registers stack → EndsFrom m (at b 14) d → Finishes m.program m.header (state (at b 5) registers stack) d
finish m b registers stack d code stands there =
    let header : Header = m.header in
    let tail : List ℕ = header.tail in
    let address : ℕ = address_of (fields_of header) in
    let length : ℕ = length_of (fields_of header) in
    let far : ℕ = address + length - 1 in
    let last : ℕ = last_address_of (fields_of header) in
    let byte : ℕ = slice_index header.front 2 in
    let grows : Bool = increments (fields_of header) in
    let high : ℕ = high_first (slice_index tail 8) (slice_index tail 9) (slice_index tail 10) (slice_index tail 11) in
    let word : ℕ = low_first (slice_index tail 8) (slice_index tail 9) (slice_index tail 10) (slice_index tail 11) in
    let b4 = tail_byte header m.is_header 4 (omega arith) in
    let b5 = tail_byte header m.is_header 5 (omega arith) in
    let b6 = tail_byte header m.is_header 6 (omega arith) in
    let b7 = tail_byte header m.is_header 7 (omega arith) in
    let b8 = tail_byte header m.is_header 8 (omega arith) in
    let b9 = tail_byte header m.is_header 9 (omega arith) in
    let b10 = tail_byte header m.is_header 10 (omega arith) in
    let b11 = tail_byte header m.is_header 11 (omega arith) in
    let r1 : ℕ → Value = register_after registers 0 (Num byte) in
    let r2 : ℕ → Value = register_after r1 0 (Num (bit_and byte 4)) in
    let r3 : ℕ → Value = register_after r2 0 (Num word) in
    let r4 : ℕ → Value = register_after r3 0 (Num high) in
    let r5 : ℕ → Value = register_after r4 0 (Num length) in
    let stands_1 : Stands m.held address address r1 stack = kept m.held address address registers stack (Num byte) stands in
    let stands_2 : Stands m.held address address r2 stack = kept m.held address address r1 stack (Num (bit_and byte 4)) stands_1 in
    let stands_3 : Stands m.held address address r3 stack = kept m.held address address r2 stack (Num word) stands_2 in
    let stands_4 : Stands m.held address address r4 stack = kept m.held address address r3 stack (Num high) stands_3 in
    let stands_5 : Stands m.held address address r5 stack = kept m.held address address r4 stack (Num length) stands_4 in
    let load : perform header (state (at b 5) registers stack) (loaded LoadByte 0 6 2) ≡ Next (state (at b 6) r1 stack) =
    ap (λ (v : Value). writes (state (at b 5) registers stack) (at b 6) 0 (loads header (state (at b 5) registers stack) LoadByte v (pos 2))) stands.front
    ∙ ap (λ (o : Option Value). writes (state (at b 5) registers stack) (at b 6) 0 o) (front_loaded header m.is_header 2 (omega arith) refl (state (at b 5) registers stack)) in
    let load_length : perform header (state (at b 8) r2 stack) (loaded LoadWord 0 7 8) ≡ Next (state (at b 9) r3 stack) =
    ap (λ (v : Value). writes (state (at b 8) r2 stack) (at b 9) 0 (loads header (state (at b 8) r2 stack) LoadWord v (pos 8))) stands_2.tail
    ∙ ap (λ (o : Option Value). writes (state (at b 8) r2 stack) (at b 9) 0 o) (word_loaded header m.is_header 8 (omega arith) refl (state (at b 8) r2 stack)) in
    let swap : perform header (state (at b 9) r3 stack) (swapped 0) ≡ Next (state (at b 10) r4 stack) =
    ap (λ (k : ℕ). writes (state (at b 9) r3 stack) (at b 10) 0 (Some (Num k))) (word_swapped _ _ _ _ b8 b9 b10 b11) in
    let shift : perform header (state (at b 10) r4 stack) (applied Rsh 0 (Immediate (pos 8))) ≡ Next (state (at b 11) r5 stack) =
    ap (λ (k : ℕ). writes (state (at b 10) r4 stack) (at b 11) 0 (Some (Num k))) (big_three tail b11) in
    let address_small : address < 2 ^ 32 = omega (arith, big_word tail, b4, b5, b6, b7) in
    let length_small : length < 2 ^ 24 = omega (arith, big_three tail b11, b8, b9, b10, b11) in
    let inc = is_increment byte (front_byte header m.is_header 2 (omega arith)) in
    next m.program header (state (at b 5) registers stack) (state (at b 6) r1 stack) (loaded LoadByte 0 6 2) d m.performs code.0 refl load
    (next m.program header (state (at b 6) r1 stack) (state (at b 7) r2 stack) (applied And 0 (Immediate (pos 4))) d m.performs code.1.0 refl refl
    (branched m.program header (at b 7) 6 (at b 14) r2 stack (skips_if Equal 0 (Immediate (pos 0)) 6) d (bit_and byte 4 == 0) m.performs code.1.1.0 refl refl (omega arith)
    (λ zero.
    let same : address ≡ last = sym (plain_last grows (not (length == 0)) far address (sym inc ∙ zero)) in
    there.from r2 stack (with_last m.held address address r2 stack stands_2 last same))
    (λ one.
    next m.program header (state (at b 8) r2 stack) (state (at b 9) r3 stack) (loaded LoadWord 0 7 8) d m.performs code.1.1.1.0 refl load_length
    (next m.program header (state (at b 9) r3 stack) (state (at b 10) r4 stack) (swapped 0) d m.performs code.1.1.1.1.0 refl swap
    (next m.program header (state (at b 10) r4 stack) (state (at b 11) r5 stack) (applied Rsh 0 (Immediate (pos 8))) d m.performs code.1.1.1.1.1.0 refl shift
    (branched m.program header (at b 11) 2 (at b 14) r5 stack (skips_if Equal 0 (Immediate (pos 0)) 2) d (length == 0) m.performs code.1.1.1.1.1.1.0 refl refl (omega arith)
    (λ zero.
    let same : address ≡ last = sym (empty_last grows (length == 0) far address zero) in
    there.from r5 stack (with_last m.held address address r5 stack stands_5 last same))
    (λ some.
    let same : far ≡ last = sym (far_last grows (length == 0) far address (sym inc ∙ one) some) in
    let positive : length ≢ 0 = λ e. cc (some, ap (λ (k : ℕ). k == 0) e) in
    long m b r5 stack address length last d stands_5 refl positive address_small length_small same code.1.1.1.1.1.1.1.0 code.1.1.1.1.1.1.1.1.0
    (λ after stands_6. there.from after stack stands_6))))))))

-- ---- the port

-- the port that is on the stack
abbrev held_for : (asked : Bool) → (port : ℕ) → Option ℕ
held_for true port = Some port
held_for false port = None

held_where : (asked : Bool) (port : ℕ) → asked ≡ true → held_for asked port ≡ Some port
held_where true port h = refl
held_where false port h = cc

abbrev pub keep_slots : (asked : Bool) → ℕ
keep_slots true = 1
keep_slots false = 0

pub keep_after : (asked : Bool) → slot_after 0 (keep_code asked) ≡ keep_slots asked
keep_after true = refl
keep_after false = refl

-- the port is put on the stack, if a rule asks it
kept_first : (m : Setting) (asked : Bool) (port : ℕ) (d : Decision) → port < 32 → StandAt m.program 0 (keep_code asked)
    → ((stack : ℕ → Option ℕ) → Keeps (held_for asked port) stack → Finishes m.program m.header (state (keep_slots asked) (entry_register port) stack) d)
    → Finishes m.program m.header (entry_state port) d
kept_first m false port d small code rest = rest (λ place. None) tt
kept_first m true port d small code rest =
    let stack : ℕ → Option ℕ = byte_after (λ place. None) 1 511 port in
    let same : port / 256 ^ (511 - 511) % 256 ≡ port = omega (arith, small) in
    let keeps : stack 511 ≡ Some port = ap (λ (k : ℕ). Some k) same in
    next m.program m.header (entry_state port) (state 1 (entry_register port) stack) port_kept d m.performs code.0 refl refl (rest stack keeps)

-- ---- the whole

pub four_parts : (a b c d : List Insn) → a ++ b ++ c ++ d ≡ a ++ (b ++ (c ++ d))
four_parts a b c d = simp append_assoc

whole_ends : StepPerforms → (rules : List PortRule) (budget : ℕ) → All FitsPort rules → (header : Header) (port : ℕ) (reported : ℕ → ℕ) → IsProgramHeader header → port < 32 → AreAnswerWords reported
    → Finishes (table_program budget rules) header (entry_state port) (port_decision rules header port reported)
whole_ends performs rules budget fits header port reported is_header small words =
    let p : Program = table_program budget rules in
    let asked : Bool = asks_ports rules in
    let m : Setting = record { program = p; header = header; held = held_for asked port; performs = λ h s insn here known. performs p h s (subst (λ (o : Option Insn). knows_insn One o ≡ true) (sym here) known) ∙ ap (λ (o : Option Insn). perform_at h s o) here; is_header = is_header } in
    let d : Decision = port_decision rules header port reported in
    let b : ℕ = keep_slots asked in
    let code : StandAt p 0 (table_code rules) = stand p [] (table_code rules) refl in
    let apart : StandAt p 0 (keep_code asked ++ (address_code ++ (last_address_code ++ rules_code rules))) = subst (λ (insns : List Insn). StandAt p 0 insns) (four_parts (keep_code asked) address_code last_address_code (rules_code rules)) code in
    let keep = cut_at p 0 b (keep_code asked) (address_code ++ (last_address_code ++ rules_code rules)) (keep_after asked) apart in
    let one = cut_at p b (at b 5) address_code (last_address_code ++ rules_code rules) refl keep.1 in
    let two = cut_at p (at b 5) (at b 14) last_address_code (rules_code rules) refl one.1 in
    let there : EndsFrom m (at b 14) d = (rules_decide m port (at b 14) rules (held_where asked port) fits two.1).ends reported words in
    kept_first m asked port d small keep.0
    (λ stack keeps. start m b port stack d keeps one.0 (λ registers stands. finish m b registers stack d two.0 stands there))

pub has_meaning : StepPerforms → RunsFromTheFront → AnswersDecide → DrawsAreAnswered → (rules : List PortRule) (budget : ℕ) → All FitsPort rules → HasPortMeaning rules (table_program budget rules)
has_meaning performs front decide draws rules budget fits =
    let p : Program = table_program budget rules in
    let run : (header : Header) (port : ℕ) (reported : ℕ → ℕ) → IsProgramHeader header → port < 32 → AreAnswerWords reported
    → (n : ℕ) × Runs p header port (port_decision rules header port reported).0 n (port_decision rules header port reported).1 =
    λ header port reported is_header small words.
    let ends : Finishes p header (entry_state port) (port_decision rules header port reported) = whole_ends performs rules budget fits header port reported is_header small words in
    (ends.steps, (front p header port (port_decision rules header port reported).0 ends.steps (port_decision rules header port reported).1).1 ends.ends) in
    record {
      runs = λ header port reported is_header small words. run header port reported is_header small words;
      only = λ header port reported calls n verdict is_header small words answered other.
          let mine = run header port reported is_header small words in
          let ends : Ends p header n (entry_state port) calls verdict = (front p header port calls n verdict).0 other in
          let ours : Ends p header mine.0 (entry_state port) (port_decision rules header port reported).0 (port_decision rules header port reported).1 = (front p header port (port_decision rules header port reported).0 mine.0 (port_decision rules header port reported).1).0 mine.1 in
          let same = decide p header (entry_state port) reported n mine.0 calls (port_decision rules header port reported).0 verdict (port_decision rules header port reported).1 ends ours answered (draws (rules_at port rules) header reported) in
          (same.1, same.2);
    }
