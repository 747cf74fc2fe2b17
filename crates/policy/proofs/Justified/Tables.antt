-- Compiled tables are justified: test by test from the end of a rule, the rules from the last, and the code before
-- them.
use Rattle.std.specs.Prelude.{◌++◌, nat_lt, is_some, pos, negsuc, ℤ, IsOk, IfSome, Result, Ok, if◌then◌else◌, slice_index_or, All}
use Rattle.std.specs.Int.{w32, cast_signed}
use Rattle.std.specs.List.{flat_map}
use Rattle.std.proofs.Common.{◌≡◌, ◌<◌, ◌≤◌, ◌+◌, ◌-◌, ◌^◌, ℕ, suc, Bool, true, false, List, [], ◌∷◌, length, Option, Some, None, refl, sym, ap, ◌∙◌, subst, arith, inl, append_assoc}
use Rattle.std.proofs.lemmas.Bool.{lt-ltb}
use Rattle.std.proofs.lemmas.List.Elements.{All-head, All-nil, All-tail}
use Rattle.bpf.specs.declared.version.Version.TheVariants.{One}
use Rattle.bpf.specs.declared.version.Version.{Version}
use Rattle.bpf.specs.Parts.{placed_slots}
use Rattle.bpf.specs.Program.{IsProgram, Program, insn_at}
use Rattle.bpf.specs.Weight.{weight_of}
use Rattle.bpf_parts.specs.declared.memory.LoadSize.TheVariants.{LoadByte, LoadWord}
use Rattle.bpf_parts.specs.declared.operation.AluOp.TheVariants.{Add, And, Mov, Rsh, Sub}
use Rattle.bpf_parts.specs.declared.operation.Condition.{Condition}
use Rattle.bpf_parts.specs.declared.operation.Condition.TheVariants.{Equal, Greater, GreaterEqual, Less, NotEqual}
use Rattle.bpf_parts.specs.declared.operation.Operand.{Operand}
use Rattle.bpf_parts.specs.declared.operation.Operand.TheVariants.{FromRegister, Immediate}
use Rattle.bpf_parts.specs.declared.operation.Width.{Width}
use Rattle.bpf_parts.specs.declared.operation.Width.TheVariants.{Bits32, Bits64}
use Rattle.bpf_insn.specs.declared.insn.Insn.{Insn}
use Rattle.bpf_insn.specs.declared.insn.Insn.TheVariants.{Alu, Exit}
use Rattle.machine.specs.Sizes.{IsInside, Maps}
use Rattle.machine.specs.Words.{word}
use Rattle.absdom_num.specs.Tables.{alu_range, single_range, whole_range}
use Rattle.absdom.specs.declared.kinds.AbsKind.{AbsKind}
use Rattle.absdom.specs.declared.kinds.AbsKind.TheVariants.{Unset, Num, Map}
use Rattle.absdom.specs.declared.cause.Cause.{Cause}
use Rattle.absdom.specs.Edges.{refined_edges}
use Rattle.absdom_stack.specs.declared.spill.Spill.TheVariants.{Forgets}
use Rattle.absdom.specs.Effect.{load_kind, map_kind, with_result}
use Rattle.absdom.specs.Kinds.{IsKindBelow}
use Rattle.absdom.specs.Laws.{BelowIsReflexive, BelowIsTransitive, StateRefineShrinks}
use Rattle.absdom.specs.State.{IsProper, IsWhole, StateValue, kind_at}
use Rattle.bver_form.specs.Form.{IsAllowed}
use Rattle.bver_form.specs.Support.{IsSupported}
use Rattle.bver_form.specs.Jumps.{IsJump, jump_distance}
use Rattle.bver_form.specs.Loops.{IsLoopFormed}
use Rattle.bver.specs.Justified.{IsCovered, IsHead, IsJustified, IsPermittedAt, IsResultCovered}
use Rattle.policy.specs.Code.{address_code, asks_ports, after_extended, after_initiator, after_key, after_kind, slots_after_range, field_slots, field_test, keep_code, kind_slots, kind_test, last_address_code, masked_test, port_test, quota_slots, quota_test, range_test, rule_code, rule_slots, rules_code, set_to_bits, skips_if, verdict_code}
use Rattle.rmap.specs.Verdict.{verdict_number}
use Rattle.policy_table.specs.FirstFault.{quota_fault}
use Rattle.policy_table.specs.Limits.{FitsFields, IsLimited}
use Rattle.policy.specs.Meant.{HaveCells, table_program}
use Rattle.policy_table.specs.Ports.{FitsPort}
use Rattle.policy_table.specs.declared.port_rules.PortRule.{PortRule}
use Rattle.policy_table.specs.declared.rules.Quota.{Quota}
use Rattle.policy_table.specs.declared.rules.Rule.{Rule}
use Rattle.policy_table.specs.declared.rules.RuleKind.{RuleKind}
use Rattle.policy_table.specs.declared.rules.RuleKind.TheVariants.{Read, Write, Rmw, Any}
use Rattle.policy.proofs.Compiling.{first_asks, in_turn, later_asks}
use Rattle.policy.proofs.Refused.{quota_inside}
use Rattle.policy.proofs.Justified.Known.{below, below_in_rules, between, comparing, drawing, entered, entry, entry_below, frame, front, is_entry, kept_below, known, mapped, moved_number, moved_same, port_readable, proper_front, proper_tail, same_front, same_number, same_tail, tail, whole, whole_entered, whole_in_rules}
use Rattle.absdom.proofs.KindLists.{number, proper_number}
use Rattle.policy.proofs.Justified.Served.{IsEndedBy, IsServedAt, Knowledge, LandsIn}
use Rattle.policy.proofs.Justified.Stretches.{IsJustifiedFrom, IsJustifiedTo, alu_before, begun, call_before, counted, exit_before, last_exit, load_before, map_before, port_before, store_before, swap_before, test_before}

-- the laws of states that the proof needs
pub record Laws : Type 0 where
  pub reflexive : BelowIsReflexive
  pub transitive : BelowIsTransitive
  pub shrinks : StateRefineShrinks

-- the slots of instructions
abbrev slots_for : List Insn → List (Option Insn)
slots_for insns = flat_map placed_slots insns

-- ---- tests

-- r0 gets a byte or a word of the header
byte_number : IsKindBelow (Num (0, 2 ^ 8 - 1)) number
byte_number = record { above = omega arith; below = omega arith }

word_number : IsKindBelow (Num (0, 2 ^ 32 - 1)) number
word_number = record { above = omega arith; below = omega arith }

-- the number that a mask leaves of it
masked_number : (mask : ℕ) → IsKindBelow (Num (alu_range And Bits64 (whole_range Bits64) (single_range (word (pos mask))))) number
masked_number mask = record { above = omega arith; below = omega arith }

shifted_number : IsKindBelow (Num (alu_range Rsh Bits64 (whole_range Bits64) (single_range 8))) number
shifted_number = record { above = omega arith; below = omega arith }

-- the bits of a number of 32 bits as an immediate are a word
small_bits : (z : ℤ) → word z < 2 ^ 64
small_bits (pos n) = omega arith
small_bits (negsuc n) = omega arith

-- ---- the cells of quotas

map_small : (map : ℕ) (t : Bool) → t ≡ true → (if t then Map map else Unset) ≡ Map map
map_small map true is = refl
map_small map false is = cc

-- ---- a rule and what comes after it

after_all : (a b c d e f g rest : List Insn) → (a ++ (b ++ (c ++ (d ++ (e ++ (f ++ g)))))) ++ rest ≡ a ++ (b ++ (c ++ (d ++ (e ++ (f ++ (g ++ rest))))))
after_all a b c d e f g rest = simp append_assoc

in_front : (rule : Rule) (rest : List Insn)
    → rule_code rule ++ rest ≡ kind_test rule.kind (after_kind rule) ++ (field_test rule.key 6 3 (after_key rule) ++ (field_test rule.initiator 7 0 (after_initiator rule)
    ++ (field_test rule.extended 7 3 (after_extended rule) ++ (range_test rule.low rule.high (slots_after_range rule) ++ (quota_test rule.quota 2 ++ (verdict_code (verdict_number rule.verdict) ++ rest))))))
in_front rule rest =
    ap (λ (code : List Insn). code ++ rest) (in_turn rule)
    ∙ after_all (kind_test rule.kind (after_kind rule)) (field_test rule.key 6 3 (after_key rule)) (field_test rule.initiator 7 0 (after_initiator rule)) (field_test rule.extended 7 3 (after_extended rule)) (range_test rule.low rule.high (slots_after_range rule)) (quota_test rule.quota 2) (verdict_code (verdict_number rule.verdict)) rest

-- with the port on the stack, or without
module _ (held : Bool) where
  -- a stretch of instructions to the next rule, and to the end of the code
  abbrev IsStretch : (sizes : Maps) (first : StateValue) (following : ℕ) (insns : List Insn) → Type 0
  IsStretch sizes first following insns = IsJustifiedTo held sizes first following (slots_for insns)

  again : (sizes : Maps) (first : StateValue) (following other : ℕ) (insns : List Insn) → following ≡ other → IsStretch sizes first following insns → IsStretch sizes first other insns
  again sizes first following other insns same h = counted sizes first following other (Some (between held)) (slots_for insns) same h

  -- ---- states

  whole_between : IsWhole (between held)
  whole_between = whole_in_rules held tt tt tt

  whole_comparing : IsWhole (comparing held)
  whole_comparing = whole_in_rules held proper_number tt tt

  whole_mapped : (map : ℕ) → IsWhole (mapped held map)
  whole_mapped map = whole_in_rules held tt tt tt

  -- before the rules: what is known at entry, then the first pointer kept, both, and the first address
  abbrev given : StateValue
  given = known held Unset front tail Unset Unset Unset Unset

  abbrev halfway : StateValue
  halfway = known held Unset Unset tail front Unset Unset Unset

  abbrev pointed : StateValue
  pointed = known held Unset Unset Unset front tail Unset Unset

  abbrev addressed : StateValue
  addressed = known held Unset Unset Unset front tail number Unset

  whole_given : IsWhole given
  whole_given = whole held tt proper_front proper_tail tt tt tt tt

  whole_halfway : IsWhole halfway
  whole_halfway = whole held tt tt proper_tail proper_front tt tt tt

  whole_pointed : IsWhole pointed
  whole_pointed = whole held tt tt tt proper_front proper_tail tt tt

  whole_addressed : IsWhole addressed
  whole_addressed = whole held tt tt tt proper_front proper_tail proper_number tt

  whole_drawing : (map cell : ℕ) → cell < 65536 → IsWhole (drawing held map cell)
  whole_drawing map cell small =
      let proper : IsProper (Num (single_range cell)) = record { in_order = omega arith; words = omega (arith, small) } in
      whole_in_rules held tt tt proper

  module _ (laws : Laws) (sizes : Maps) where
    test : (following : ℕ) (slots : List (Option Insn)) (condition : Condition) (dst : ℕ) (src : Operand) → IsOk (refined_edges (comparing held) condition Bits64 dst src)
        → IsJustifiedTo held sizes (between held) following slots → IsJustifiedTo held sizes (comparing held) (suc following) (Some (skips_if condition dst src following) ∷ slots)
    test following slots condition dst src ok rest =
        test_before held laws.transitive laws.shrinks sizes (between held) (below_in_rules held tt tt tt) following slots condition dst src whole_comparing ok rest

    masked : (mask wanted following : ℕ) (insns : List Insn) → IsStretch sizes (between held) following insns → IsStretch sizes (between held) (following + 3) (masked_test mask wanted following ++ insns)
    masked mask wanted following insns rest =
        let compared = test following _ NotEqual 0 (Immediate (pos wanted)) refl rest in
        let anded = alu_before sizes (comparing held) (comparing held) (suc following) (Some (between held)) _ whole_comparing And Bits64 0 (Immediate (pos mask)) refl (below_in_rules held (masked_number mask) tt tt) compared in
        let read = load_before sizes (between held) (comparing held) (suc (suc following)) (Some (between held)) _ whole_between LoadByte 0 6 2 refl (below_in_rules held byte_number tt tt) anded in
        again sizes (between held) (suc (suc (suc following))) (following + 3) (masked_test mask wanted following ++ insns) (omega arith) read

    kind_stretch : (kind : RuleKind) (following : ℕ) (insns : List Insn) → IsStretch sizes (between held) following insns → IsStretch sizes (between held) (following + kind_slots kind) (kind_test kind following ++ insns)
    kind_stretch Any following insns rest = again sizes (between held) following (following + 0) insns (omega arith) rest
    kind_stretch Read following insns rest = masked 248 72 following insns rest
    kind_stretch Write following insns rest = masked 224 96 following insns rest
    kind_stretch Rmw following insns rest = masked 252 92 following insns rest

    -- through a register from which the byte at the offset can be read
    field_stretch : (field : Option ℕ) (base offset following : ℕ) (insns : List Insn) → load_kind Forgets (between held) LoadByte (kind_at (between held) base) (pos offset) ≡ Ok (Num (0, 2 ^ 8 - 1))
        → IsStretch sizes (between held) following insns → IsStretch sizes (between held) (following + field_slots field) (field_test field base offset following ++ insns)
    field_stretch None base offset following insns readable rest = again sizes (between held) following (following + 0) insns (omega arith) rest
    field_stretch (Some wanted) base offset following insns readable rest =
        let compared = test following _ NotEqual 0 (Immediate (pos wanted)) refl rest in
        let covered : IsResultCovered (with_result (between held) 0 (load_kind Forgets (between held) LoadByte (kind_at (between held) base) (pos offset))) (Some (comparing held)) =
        subst (λ (r : Result AbsKind Cause). IsResultCovered (with_result (between held) 0 r) (Some (comparing held))) (sym readable) (below_in_rules held byte_number tt tt) in
        let read = load_before sizes (between held) (comparing held) (suc following) (Some (between held)) _ whole_between LoadByte 0 base offset refl covered compared in
        again sizes (between held) (suc (suc following)) (following + 2) (field_test (Some wanted) base offset following ++ insns) (omega arith) read

    -- r0 is set to a number
    set_stretch : (width : Width) (value : ℤ) (following : ℕ) (there : Option StateValue) (slots : List (Option Insn)) → word value < 2 ^ 64
        → IsJustifiedFrom sizes (comparing held) following there slots → IsJustifiedFrom sizes (between held) (suc following) there (Some (Alu Mov width 0 (Immediate value)) ∷ slots)
    set_stretch width value following there slots small rest =
        alu_before sizes (between held) (comparing held) following there slots whole_between Mov width 0 (Immediate value) refl (below_in_rules held (moved_number width (word value) small) tt tt) rest

    -- a comparison of an address with it
    limit_stretch : (limit following skipped : ℕ) (insns : List Insn) (condition : Condition) (dst : ℕ) → limit < 2 ^ 32 → skipped ≡ following
        → IsOk (refined_edges (comparing held) condition Bits64 dst (FromRegister 0))
        → IsStretch sizes (between held) following insns → IsStretch sizes (between held) (following + 2) (set_to_bits 0 limit ∷ skips_if condition dst (FromRegister 0) skipped ∷ insns)
    limit_stretch limit following skipped insns condition dst small same ok rest =
        let compared = test skipped _ condition dst (FromRegister 0) ok (again sizes (between held) following skipped insns (sym same) rest) in
        let set = set_stretch Bits32 (cast_signed w32 limit) (suc skipped) (Some (between held)) _ (small_bits (cast_signed w32 limit)) compared in
        again sizes (between held) (suc (suc skipped)) (following + 2) (set_to_bits 0 limit ∷ skips_if condition dst (FromRegister 0) skipped ∷ insns) (omega (arith, same)) set

    range_stretch : (low high following : ℕ) (insns : List Insn) → low < 2 ^ 32 → high < 2 ^ 32
        → IsStretch sizes (between held) following insns → IsStretch sizes (between held) (following + 4) (range_test low high following ++ insns)
    range_stretch low high following insns small_low small_high rest =
        let above = limit_stretch high following following insns Greater 9 small_high refl refl rest in
        let both = limit_stretch low (following + 2) (following + 2) (set_to_bits 0 high ∷ skips_if Greater 9 (FromRegister 0) following ∷ insns) Less 8 small_low refl refl above in
        again sizes (between held) (following + 2 + 2) (following + 4) (range_test low high following ++ insns) (omega arith) both

    -- a ticket of a cell that the maps have
    quota_stretch : (quota : Option Quota) (insns : List Insn) → IsLimited quota → quota_fault sizes quota ≡ None
        → IsStretch sizes (between held) 2 insns → IsStretch sizes (between held) (2 + quota_slots quota) (quota_test quota 2 ++ insns)
    quota_stretch None insns limited none rest = rest
    quota_stretch (Some quota) insns limited none rest =
        let both = quota_inside sizes quota none in
        let inside : IsInside sizes quota.map quota.cell = both.0 in
        let same : word (pos quota.cell) ≡ quota.cell = omega (arith, limited.1) in
        let small : map_kind (pos quota.map) ≡ Map quota.map = map_small quota.map (nat_lt quota.map 256) (lt-ltb quota.map 256 limited.0) in
        let compared = test 2 _ GreaterEqual 0 (Immediate (pos quota.limit)) refl rest in
        let drawn = call_before held laws.reflexive sizes quota.map quota.cell 3 _ (whole_drawing quota.map quota.cell limited.1) inside.key_exists both.1 compared in
        let set = alu_before sizes (mapped held quota.map) (drawing held quota.map quota.cell) 4 (Some (between held)) _ (whole_mapped quota.map) Mov Bits64 2 (Immediate (pos quota.cell)) refl
        (below_in_rules held tt refl (moved_same (word (pos quota.cell)) quota.cell same)) drawn in
        map_before held laws.reflexive sizes quota.map 5 _ whole_between (lt-ltb quota.map (length sizes.cells) inside.map_exists) small set

    verdict_stretch : (code : ℕ) (insns : List Insn) → IsStretch sizes (between held) 0 insns → IsStretch sizes (between held) 2 (verdict_code code ++ insns)
    verdict_stretch code insns rest =
        set_stretch Bits64 (pos code) 1 (Some (between held)) _ (small_bits (pos code)) (exit_before held sizes 0 (slots_for insns) whole_comparing rest)

    -- ---- rules

    -- to the next rule
    rule_reach : (rule : Rule) (insns : List Insn) → FitsFields rule → quota_fault sizes rule.quota ≡ None
        → IsStretch sizes (between held) 0 insns → IsStretch sizes (between held) (rule_slots rule) (rule_code rule ++ insns)
    rule_reach rule insns fits none rest =
        let verdict = verdict_stretch (verdict_number rule.verdict) insns rest in
        let quota = quota_stretch rule.quota _ fits.quota none verdict in
        let range = range_stretch rule.low rule.high (slots_after_range rule) _ fits.low fits.high quota in
        let extended = field_stretch rule.extended 7 3 (after_extended rule) _ refl range in
        let initiator = field_stretch rule.initiator 7 0 (after_initiator rule) _ refl extended in
        let key = field_stretch rule.key 6 3 (after_key rule) _ refl initiator in
        let kind = kind_stretch rule.kind (after_kind rule) _ key in
        again sizes (between held) (after_kind rule + kind_slots rule.kind) (rule_slots rule) (rule_code rule ++ insns) (omega arith)
        (subst (λ (code : List Insn). IsStretch sizes (between held) (after_kind rule + kind_slots rule.kind) code) (sym (in_front rule insns)) kind)

    -- the test of a rule's port, which is kept if there is one
    port_stretch : (field : Option ℕ) (following : ℕ) (insns : List Insn) → (is_some field ≡ true → held ≡ true)
        → IsStretch sizes (between held) following insns → IsStretch sizes (between held) (following + field_slots field) (port_test field following ++ insns)
    port_stretch None following insns asked rest = again sizes (between held) following (following + 0) insns (omega arith) rest
    port_stretch (Some wanted) following insns asked rest =
        let compared = test following _ NotEqual 0 (Immediate (pos wanted)) refl rest in
        let covered : IsResultCovered (with_result (between held) 0 (load_kind Forgets (between held) LoadByte frame (negsuc 0))) (Some (comparing held)) =
        subst (λ (r : Result AbsKind Cause). IsResultCovered (with_result (between held) 0 r) (Some (comparing held))) (sym (port_readable held (asked refl))) (below_in_rules held byte_number tt tt) in
        let read = port_before sizes (between held) (comparing held) (suc following) (Some (between held)) _ whole_between covered compared in
        again sizes (between held) (suc (suc following)) (following + 2) (port_test (Some wanted) following ++ insns) (omega arith) read

    rules_stretch : (rules : List PortRule) → (asks_ports rules ≡ true → held ≡ true) → All FitsPort rules → HaveCells sizes rules → IsStretch sizes (between held) 0 (rules_code rules)
    rules_stretch [] asked fits cells = begun held sizes 2 None _ (set_stretch Bits64 (pos 10) 1 None _ (small_bits (pos 10)) (last_exit held sizes whole_comparing))
    rules_stretch (own ∷ rules) asked fits cells =
        let own_fits : FitsPort own = All-head FitsPort own rules fits in
        let own_cell : quota_fault sizes own.rule.quota ≡ None = All-head (λ (r : PortRule). quota_fault sizes r.rule.quota ≡ None) own rules cells in
        let later = rules_stretch rules (λ has. asked (later_asks (is_some own.port) (asks_ports rules) has)) (All-tail FitsPort own rules fits) (All-tail (λ (r : PortRule). quota_fault sizes r.rule.quota ≡ None) own rules cells) in
        let rule = rule_reach own.rule (rules_code rules) own_fits.rule own_cell later in
        let port = port_stretch own.port (rule_slots own.rule) (rule_code own.rule ++ rules_code rules) (λ has. asked (first_asks (is_some own.port) (asks_ports rules) has)) rule in
        let first = begun held sizes (rule_slots own.rule + field_slots own.port) (Some (between held)) _ port in
        subst (λ (code : List Insn). IsStretch sizes (between held) 0 code) (sym (append_assoc (port_test own.port (rule_slots own.rule)) (rule_code own.rule) (rules_code rules))) first

    -- ---- before the rules

    table_stretch : (insns : List Insn) → IsStretch sizes (between held) 0 insns → IsStretch sizes given 14 (address_code ++ last_address_code ++ insns)
    table_stretch insns rest =
        let less_one = alu_before sizes (between held) (between held) 0 (Some (between held)) _ whole_between Sub Bits64 9 (Immediate (pos 1)) refl (below_in_rules held tt tt tt) rest in
        let sum = alu_before sizes (comparing held) (between held) 1 (Some (between held)) _ whole_comparing Add Bits64 9 (FromRegister 0) refl (below_in_rules held tt tt tt) less_one in
        let has_length = test_before held laws.transitive laws.shrinks sizes (comparing held) (laws.reflexive (comparing held)) 2 _ Equal 0 (Immediate (pos 0)) whole_comparing refl sum in
        let shifted = alu_before sizes (comparing held) (comparing held) 3 (Some (between held)) _ whole_comparing Rsh Bits64 0 (Immediate (pos 8)) refl (below_in_rules held shifted_number tt tt) has_length in
        let turned = swap_before sizes (comparing held) (comparing held) 4 (Some (between held)) _ whole_comparing 0 refl (below_in_rules held word_number tt tt) shifted in
        let length_read = load_before sizes (between held) (comparing held) 5 (Some (between held)) _ whole_between LoadWord 0 7 8 refl (below_in_rules held word_number tt tt) turned in
        let increments = test 6 _ Equal 0 (Immediate (pos 0)) refl length_read in
        let anded = alu_before sizes (comparing held) (comparing held) 7 (Some (between held)) _ whole_comparing And Bits64 0 (Immediate (pos 4)) refl (below_in_rules held (masked_number 4) tt tt) increments in
        let instruction = load_before sizes (between held) (comparing held) 8 (Some (between held)) _ whole_between LoadByte 0 6 2 refl (below_in_rules held byte_number tt tt) anded in
        let last_address = alu_before sizes addressed (between held) 9 (Some (between held)) _ whole_addressed Mov Bits64 9 (FromRegister 8) refl (below held tt tt tt same_front same_tail same_number same_number) instruction in
        let address_turned = swap_before sizes addressed addressed 10 (Some (between held)) _ whole_addressed 8 refl (below held tt tt tt same_front same_tail word_number tt) last_address in
        let address = load_before sizes pointed addressed 11 (Some (between held)) _ whole_pointed LoadWord 8 7 4 refl (below held tt tt tt same_front same_tail word_number tt) address_turned in
        let to_tail = alu_before sizes halfway pointed 12 (Some (between held)) _ whole_halfway Mov Bits64 7 (FromRegister 2) refl (below held tt tt tt same_front same_tail tt tt) address in
        alu_before sizes given halfway 13 (Some (between held)) _ whole_given Mov Bits64 6 (FromRegister 1) refl (below held tt tt same_tail same_front tt tt tt) to_tail

-- ---- the whole

permitted_at : (sizes : Maps) (table : Knowledge) (slots : List (Option Insn)) (slot : ℕ) (a : Option StateValue) (insn : Option Insn)
    → IsServedAt sizes table slots slot a insn → IsPermittedAt Forgets sizes table slot a insn
permitted_at sizes table slots slot None insn h = tt
permitted_at sizes table slots slot (Some a) None h = h
permitted_at sizes table slots slot (Some a) (Some insn) h = h.permitted

whole_at : (sizes : Maps) (table : Knowledge) (slots : List (Option Insn)) (slot : ℕ) (a : Option StateValue) (insn : Option Insn)
    → IsServedAt sizes table slots slot a insn → IfSome a IsWhole
whole_at sizes table slots slot None insn h = tt
whole_at sizes table slots slot (Some a) None h = absurd h
whole_at sizes table slots slot (Some a) (Some insn) h = h.whole

-- a jump that leads to a later instruction is one
jump_at : (p : Program) (slot : ℕ) (distance : Option ℤ) → IfSome distance (LandsIn p.slots slot) → IfSome distance (IsJump p slot)
jump_at p slot None h = tt
jump_at p slot (Some (pos skipped)) h = record { first_slot = h; onward = inl (omega arith) }
jump_at p slot (Some (negsuc n)) h = absurd h

allowed_at : (sizes : Maps) (table : Knowledge) (p : Program) (slot : ℕ) (a : Option StateValue) (found : Option Insn) (insn : Insn)
    → p.version ≡ One → IsServedAt sizes table p.slots slot a found → found ≡ Some insn → IsAllowed p slot insn
allowed_at sizes table p slot a None insn first h is = cc
allowed_at sizes table p slot None (Some other) insn first h is = absurd h
allowed_at sizes table p slot (Some a) (Some other) insn first h is =
    let here : IsAllowed p slot other = record {
      supported = subst (λ (version : Version). IsSupported version other) (sym first) h.supported;
      leaves_frame = h.leaves_frame;
      jump = jump_at p slot (jump_distance other) h.lands;
    } in
    subst (λ (o : Option Insn). IfSome o (λ i. IsAllowed p slot i)) is here

ended_at : (slots : List (Option Insn)) (insn : Insn) → IsEndedBy slots insn → slice_index_or slots (length slots - 1) None ≡ Some insn
ended_at slots insn h =
    let same : length slots - 1 ≡ h.last = omega (arith, h.long) in
    ap (λ (k : ℕ). slice_index_or slots k None) same ∙ h.at

-- the port goes on the stack first, if a rule asks it
keep_stretch : (held : Bool) (laws : Laws) (sizes : Maps) (insns : List Insn) → IsStretch held sizes (given held) 14 insns
    → (following : ℕ) × IsJustifiedTo held sizes (entered held) following (slots_for (keep_code held ++ insns))
keep_stretch false laws sizes insns rest = (14, rest)
keep_stretch true laws sizes insns rest =
    (15, store_before sizes (entered true) (given true) 14 (Some (between true)) (slots_for insns) whole_entered kept_below rest)

after_keep : (a b c d : List Insn) → a ++ b ++ c ++ d ≡ a ++ (b ++ c ++ d)
after_keep a b c d = simp append_assoc

-- the program of a table whose cells the maps have, in the limits of the format and of its budget
pub table_justified : Laws → (sizes : Maps) (rules : List PortRule) (budget : ℕ) → All FitsPort rules → HaveCells sizes rules
    → IsProgram (table_program budget rules) → weight_of (table_program budget rules) ≤ budget → IsJustified (table_program budget rules) sizes
table_justified laws sizes rules budget fits cells limits light =
    let p : Program = table_program budget rules in
    let held : Bool = asks_ports rules in
    let own = keep_stretch held laws sizes (address_code ++ last_address_code ++ rules_code rules) (table_stretch held laws sizes (rules_code rules) (rules_stretch held laws sizes rules (λ asked. asked) fits cells)) in
    let stretch : IsJustifiedTo held sizes (entered held) own.0 p.slots = subst (λ (insns : List Insn). IsJustifiedTo held sizes (entered held) own.0 (slots_for insns)) (sym (after_keep (keep_code held) address_code last_address_code (rules_code rules))) own.1 in
    record {
      limits = limits;
      formed = record {
        loops = All-nil (IsLoopFormed p);
        allowed = λ slot insn is. allowed_at sizes stretch.table p slot (stretch.table slot) (insn_at p slot) insn refl (stretch.served slot) is;
        ends = ended_at p.slots Exit stretch.ended;
        within_budget = light;
      };
      table = stretch.table;
      entered = record { known = entry; entry = is_entry; covered = subst (λ (o : Option StateValue). IsCovered entry o) (sym stretch.here) (entry_below held) };
      whole = λ slot. whole_at sizes stretch.table p.slots slot (stretch.table slot) (insn_at p slot) (stretch.served slot);
      permitted = λ slot. permitted_at sizes stretch.table p.slots slot (stretch.table slot) (insn_at p slot) (stretch.served slot);
      heads = All-nil (λ l. IfSome (stretch.table l.head) (IsHead p l));
    }
