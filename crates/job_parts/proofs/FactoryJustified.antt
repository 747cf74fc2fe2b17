-- The factory program may judge on every node: a table of two states justifies it. Nothing is known at its first slot,
-- and at its last that r0 is a number.
use Rattle.std.specs.Prelude.{IfSome, ◌≢◌}
use Rattle.std.proofs.Common.{◌≡◌, ℕ, zero, suc, Bool, false, List, [], ◌∷◌, length, replicate, Option, Some, None, refl, sym, subst, arith, le_of_eq}
use Rattle.std.proofs.lemmas.List.{length-replicate}
use Rattle.std.proofs.lemmas.List.Elements.{All-nil}
use Rattle.bpf.specs.Program.{IsProgram, Program, insn_at}
use Rattle.bpf.specs.Weight.{times_at, weight_from, weight_of}
use Rattle.bpf_insn.specs.declared.insn.Insn.{Insn}
use Rattle.bpf_parts.specs.declared.operation.Width.TheVariants.{Bits64}
use Rattle.machine.specs.Sizes.{Maps}
use Rattle.absdom_num.specs.declared.ranges.Range.{Range}
use Rattle.absdom_num.specs.Ranges.{IsWithin}
use Rattle.absdom_num.specs.Tables.{whole_range}
use Rattle.absdom.specs.declared.kinds.AbsKind.{AbsKind}
use Rattle.absdom.specs.declared.kinds.AbsKind.TheVariants.{Num, Unset}
use Rattle.absdom_stack.specs.StackWords.{all_whole, range_in}
use Rattle.absdom.specs.State.{IsStateBelow, IsEntry, IsProper, IsWhole, StateValue, entry_kinds}
use Rattle.bver_form.specs.Form.{IsAllowed}
use Rattle.bver_form.specs.Loops.{IsLoopFormed}
use Rattle.bver_form.specs.declared.refusal.Refusal.{Refusal}
use Rattle.bver_form.specs.declared.refusal.Refusal.TheVariants as refusals
use Rattle.bver_form.specs.declared.refusal.Refused.{Refused}
use Rattle.bver.specs.Unjustified.{ReportsUnjustified}
use Rattle.bver.specs.Justified.{IsHead, IsJustified, IsPermittedAt}
use Rattle.absdom_stack.specs.Spill.{spill_of}
use Rattle.job_parts.specs.Factory.{factory}
use Rattle.absdom.proofs.KindLists.{number, each_below, same_range, each_proper, many_words, proper_number, unmarked, whole_word}

-- ---- two states

-- no byte of the stack is set
no_marks : List Bool
no_marks = replicate 512 false

-- nothing is known of any register except r0
answer_kinds : AbsKind → List AbsKind
answer_kinds answer = answer ∷ Unset ∷ Unset ∷ Unset ∷ Unset ∷ Unset ∷ Unset ∷ Unset ∷ Unset ∷ Unset ∷ Unset ∷ []

abbrev known : AbsKind → StateValue
known answer = record { kinds = answer_kinds answer; marks = no_marks; ranges = all_whole }

abbrev table : ℕ → Option StateValue
table zero = Some (known Unset)
table (suc zero) = Some (known number)
table (suc (suc n)) = None

-- ---- they are whole

many_marks : length no_marks ≡ 512
unfolding no_marks
many_marks = length-replicate 512 false

whole : (answer : AbsKind) → IsProper answer → IsWhole (known answer)
unfolding answer_kinds
whole answer proper = record {
  sizes = record { registers = refl; bytes = many_marks; words = many_words };
  kinds = each_proper (answer_kinds answer) (proper, (tt, (tt, (tt, (tt, (tt, (tt, (tt, (tt, (tt, (tt, tt)))))))))));
  ranges = λ place. rw (whole_word place) proper_number;
  unset = λ place unset. whole_word place;
}

-- ---- their order

entry : StateValue
entry = record { kinds = entry_kinds; marks = no_marks; ranges = all_whole }

is_entry : IsEntry entry
unfolding entry no_marks
is_entry = record { kinds = refl; marks = unmarked 512; ranges = whole_word }

entry_below : IsStateBelow entry (known Unset)
unfolding entry answer_kinds
entry_below = record {
  kinds = each_below entry_kinds (answer_kinds Unset) (tt, (tt, (tt, (tt, (tt, (tt, (tt, (tt, (tt, (tt, (tt, tt)))))))))));
  marks = λ place h. h;
  ranges = λ place. same_range (range_in all_whole place);
}

-- a number in r0 is among all numbers
answered : (range : Range) → IsWithin range (whole_range Bits64) → IsStateBelow (known (Num range)) (known number)
unfolding answer_kinds
answered range within = record {
  kinds = each_below (answer_kinds (Num range)) (answer_kinds number) (within, (tt, (tt, (tt, (tt, (tt, (tt, (tt, (tt, (tt, (tt, tt)))))))))));
  marks = λ place h. h;
  ranges = λ place. same_range (range_in all_whole place);
}

-- ---- the program

permitted : (maps : Maps) (slot : ℕ) → IsPermittedAt (spill_of factory.version) maps table slot (table slot) (insn_at factory slot)
unfolding answer_kinds
permitted maps zero = answered (0, 0) (record { above = omega arith; below = omega arith })
permitted maps (suc zero) = tt
permitted maps (suc (suc slot)) = tt

whole_at : (slot : ℕ) → IfSome (table slot) IsWhole
whole_at zero = whole Unset tt
whole_at (suc zero) = whole number proper_number
whole_at (suc (suc slot)) = tt

allowed : (slot : ℕ) (insn : Insn) → insn_at factory slot ≡ Some insn → IsAllowed factory slot insn
allowed zero insn is = subst (λ (o : Option Insn). IfSome o (λ i. IsAllowed factory zero i)) is (record { supported = tt; leaves_frame = omega arith; jump = tt })
allowed (suc zero) insn is = subst (λ (o : Option Insn). IfSome o (λ i. IsAllowed factory (suc zero) i)) is (record { supported = tt; leaves_frame = tt; jump = tt })
allowed (suc (suc slot)) insn is = cc

weighs_two : weight_of factory ≡ 2
unfolding times_at weight_from
weighs_two = refl

-- In the limits of the format it is justified, whichever maps the node has.
pub factory_justified : (maps : Maps) → IsProgram factory → IsJustified factory maps
factory_justified maps limits = record {
  limits = limits;
  formed = record {
    loops = All-nil (IsLoopFormed factory);
    allowed = allowed;
    ends = refl;
    within_budget = le_of_eq weighs_two;
  };
  table = table;
  entered = record { known = entry; entry = is_entry; covered = entry_below };
  whole = whole_at;
  permitted = permitted maps;
  heads = All-nil (λ l. IfSome (table l.head) (IsHead factory l));
}

-- a code that is no other than the refusal of memory is that one
memory_alone : (code : Refusal) → (code ≢ refusals.Memory → ⊥) → code ≡ refusals.Memory
memory_alone refusals.Memory h = refl
memory_alone refusals.Target h = absurd (h (λ e. cc e))
memory_alone refusals.BackJump h = absurd (h (λ e. cc e))
memory_alone refusals.LoopShape h = absurd (h (λ e. cc e))
memory_alone refusals.LoopEntry h = absurd (h (λ e. cc e))
memory_alone refusals.Unset h = absurd (h (λ e. cc e))
memory_alone refusals.KindMismatch h = absurd (h (λ e. cc e))
memory_alone refusals.OutOfRegion h = absurd (h (λ e. cc e))
memory_alone refusals.UnsetStack h = absurd (h (λ e. cc e))
memory_alone refusals.HeaderWrite h = absurd (h (λ e. cc e))
memory_alone refusals.FrameWrite h = absurd (h (λ e. cc e))
memory_alone refusals.PointerRange h = absurd (h (λ e. cc e))
memory_alone refusals.MapKey h = absurd (h (λ e. cc e))
memory_alone refusals.Helper h = absurd (h (λ e. cc e))
memory_alone refusals.FallOff h = absurd (h (λ e. cc e))
memory_alone refusals.Budget h = absurd (h (λ e. cc e))
memory_alone refusals.Unsupported h = absurd (h (λ e. cc e))
memory_alone refusals.MapKind h = absurd (h (λ e. cc e))

-- The verifier refuses it only if memory is refused.
pub refused_for_memory : (maps : Maps) (p : Program) (refused : Refused) → p ≡ factory → IsProgram p → ReportsUnjustified p maps refused → refused.code ≡ refusals.Memory
refused_for_memory maps p refused is limits reported =
    memory_alone refused.code (λ other. reported other (subst (λ (q : Program). IsJustified q maps) (sym is) (factory_justified maps (subst IsProgram is limits))))
