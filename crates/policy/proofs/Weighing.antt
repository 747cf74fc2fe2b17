-- How large compiled tables are.
use Rattle.std.specs.Prelude.{is_some, if◌then◌else◌}
use Rattle.std.specs.List.{flat_map}
use Rattle.std.proofs.Common.{◌≡◌, ◌≤◌, ◌+◌, ◌*◌, ℕ, Bool, true, false, List, [], ◌∷◌, ◌++◌, length, Option, Some, None, Ok, refl, ap, ◌∙◌, arith, add-zero, length-append}
use Rattle.std.proofs.lemmas.Bool.{le-leb}
use Rattle.bpf.specs.declared.version.Version.TheVariants.{One}
use Rattle.bpf.specs.Parts.{parts_fault, parts_reading, placed_slots, second_slots, unless}
use Rattle.bpf.specs.Program.{program}
use Rattle.bpf.specs.Reading.{is_budget, is_count}
use Rattle.bpf.specs.Weight.{times_at, weight_from, weight_of}
use Rattle.bpf.specs.declared.fault.ImageFault.{ImageFault}
use Rattle.bpf_insn.specs.declared.insn.Insn.{Insn}
use Rattle.bpf_insn.specs.Spelling.{second_immediate, slots_of}
use Rattle.policy.specs.Code.{address_code, asks_ports, field_slots, keep_code, last_address_code, port_rule_code, rules_code, table_code}
use Rattle.policy_table.specs.Slots.{rules_slots, table_slots}
use Rattle.policy_table.specs.declared.port_rules.PortRule.{PortRule}
use Rattle.policy.proofs.Compiling.{after_both, at, end_of, four_parts, keep_after, keep_slots, port_rule_after}
use Rattle.policy.proofs.Finishing.{placed_length, slot_after}

-- ---- how many slots

slots_are : (slot : ℕ) (insns : List Insn) → slot + length (flat_map placed_slots insns) ≡ slot_after slot insns
slots_are slot [] = omega arith
slots_are slot (insn ∷ insns) =
    let both = length-append (placed_slots insn) (flat_map placed_slots insns) in
    omega (arith, both, placed_length insn, slots_are (slot + slots_of insn) insns)

rules_after : (slot : ℕ) (rules : List PortRule) → slot_after slot (rules_code rules) ≡ slot + rules_slots rules + 2
rules_after slot [] = omega arith
rules_after slot (own ∷ rules) =
    let end : ℕ = end_of (slot + field_slots own.port) own.rule in
    after_both slot end (port_rule_code own) (rules_code rules) (port_rule_after slot own) ∙ rules_after end rules ∙ omega arith

keep_is : (t : Bool) → keep_slots t ≡ (if t then 1 else 0)
keep_is true = refl
keep_is false = refl

-- the slots of a table's program
pub table_long : (rules : List PortRule) → length (flat_map placed_slots (table_code rules)) ≡ table_slots rules
table_long rules =
    let b : ℕ = keep_slots (asks_ports rules) in
    let parts = ap (λ (insns : List Insn). slot_after 0 insns) (four_parts (keep_code (asks_ports rules)) address_code last_address_code (rules_code rules))
    ∙ after_both 0 b (keep_code (asks_ports rules)) (address_code ++ (last_address_code ++ rules_code rules)) (keep_after (asks_ports rules))
    ∙ after_both b (at b 5) address_code (last_address_code ++ rules_code rules) refl
    ∙ after_both (at b 5) (at b 14) last_address_code (rules_code rules) refl
    ∙ rules_after (at b 14) rules in
    let fourteen : at b 14 ≡ b + 14 = omega arith in
    omega (arith, slots_are 0 (table_code rules), parts, fourteen, keep_is (asks_ports rules))

four_lengths : (a b c d : List Insn) → length (a ++ b ++ c ++ d) ≡ length a + length b + length c + length d
four_lengths a b c d = simp length-append

pub table_some : (rules : List PortRule) → 1 ≤ length (table_code rules)
table_some rules = omega (arith, four_lengths (keep_code (asks_ports rules)) address_code last_address_code (rules_code rules))

-- ---- slots and weight

pub slots_many : (insns : List Insn) → length insns ≤ length (flat_map placed_slots insns)
slots_many [] = omega arith
slots_many (insn ∷ insns) =
    let both = length-append (placed_slots insn) (flat_map placed_slots insns) in
    omega (arith, both, slots_many insns)

weight_both : (xs ys : List (Option Insn)) (slot : ℕ) → weight_from [] slot (xs ++ ys) ≡ weight_from [] slot xs + weight_from [] (slot + length xs) ys
unfolding weight_from
weight_both [] ys slot =
    let same : weight_from [] (slot + 0) ys ≡ weight_from [] slot ys = ap (λ (k : ℕ). weight_from [] k ys) (add-zero slot) in
    omega (arith, same)
weight_both (x ∷ xs) ys slot =
    let rest = weight_both xs ys (slot + 1) in
    let same : weight_from [] (slot + 1 + length xs) ys ≡ weight_from [] (slot + length (x ∷ xs)) ys = ap (λ (k : ℕ). weight_from [] k ys) (omega arith) in
    omega (arith, rest, same)

weight_placed : (insn : Insn) (t : Bool) (slot : ℕ) → weight_from [] slot (Some insn ∷ second_slots t) ≡ 1
unfolding weight_from times_at
weight_placed insn true slot = omega arith
weight_placed insn false slot = omega arith

weight_is : (insns : List Insn) (slot : ℕ) → weight_from [] slot (flat_map placed_slots insns) ≡ length insns
unfolding weight_from
weight_is [] slot = refl
weight_is (insn ∷ insns) slot =
    let both = weight_both (placed_slots insn) (flat_map placed_slots insns) slot in
    let first = weight_placed insn (is_some (second_immediate insn)) slot in
    let rest = weight_is insns (slot + length (placed_slots insn)) in
    omega (arith, both, first, rest)

-- a program without a loop weighs as many as its instructions
pub weighs : (insns : List Insn) (budget : ℕ) → weight_of (program One budget [] (flat_map placed_slots insns)) ≡ length insns
weighs insns budget = weight_is insns 0

-- ---- parts of an image

counted : (slots budget : ℕ) → is_count 0 slots 0 ≡ true → is_budget budget ≡ true → parts_fault slots [] budget ≡ None
unfolding parts_fault
counted slots budget count small = rw (count, small) refl

-- instructions with room are a program
pub are_parts : (insns : List Insn) → 1 ≤ length insns → length (flat_map placed_slots insns) ≤ 512 → parts_reading One insns [] (length insns) ≡ Ok (program One (length insns) [] (flat_map placed_slots insns))
are_parts insns some up =
    let n : ℕ = length (flat_map placed_slots insns) in
    let down : 1 ≤ n = omega (arith, some, slots_many insns) in
    let count : is_count 0 n 0 ≡ true = rw (le-leb 1 n down, le-leb n 512 up) refl in
    let budget : is_budget (length insns) ≡ true = rw (le-leb 1 (length insns) some, le-leb (length insns) 65536 (omega (arith, up, slots_many insns))) refl in
    ap (λ (o : Option ImageFault). unless o (program One (length insns) [] (flat_map placed_slots insns))) (counted n (length insns) count budget)
