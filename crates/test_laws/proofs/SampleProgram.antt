-- The program of the worked example may judge: a table of two states justifies it. Nothing is known at its first slot, and at its
-- last that r0 is a number. Its run has two steps, whatever the header and the port.
use Rattle.std.specs.Prelude.{IfSome}
use Rattle.std.proofs.Common.{◌≡◌, ℕ, zero, suc, Bool, false, List, [], ◌∷◌, length, replicate, Option, Some, None, refl, subst, arith}
use Rattle.std.proofs.lemmas.List.{length-replicate}
use Rattle.std.proofs.lemmas.List.Elements.{All-nil}
use Rattle.bpf.specs.Program.{IsProgram, insn_at}
use Rattle.bpf.specs.Weight.{times_at, weight_from, weight_of}
use Rattle.bpf_insn.specs.declared.insn.Insn.{Insn}
use Rattle.bpf_parts.specs.declared.operation.Width.TheVariants.{Bits64}
use Rattle.machine.specs.Memory.{Header}
use Rattle.machine.specs.Runs.Path.{entry as at_entry, moves}
use Rattle.machine.specs.Sizes.{Maps}
use Rattle.machine.specs.State.{State, entry_register, register_after, state}
use Rattle.machine.specs.declared.values.Value.TheVariants.{Num as Word}
use Rattle.absdom_num.specs.declared.ranges.Range.{Range}
use Rattle.absdom_num.specs.Ranges.{IsWithin}
use Rattle.absdom_num.specs.Tables.{whole_range}
use Rattle.absdom.specs.declared.kinds.AbsKind.{AbsKind}
use Rattle.absdom.specs.declared.kinds.AbsKind.TheVariants.{Num, Unset}
use Rattle.absdom_stack.specs.Spill.{spill_of}
use Rattle.absdom_stack.specs.StackWords.{all_whole, range_in}
use Rattle.absdom.specs.State.{IsStateBelow, IsEntry, IsProper, IsWhole, StateValue, entry_kinds}
use Rattle.bver_form.specs.Form.{IsAllowed}
use Rattle.bver_form.specs.Loops.{IsLoopFormed}
use Rattle.bver.specs.Justified.{IsHead, IsJustified, IsPermittedAt}
use Rattle.brun.specs.Runs.{RunsWithin}
use Rattle.brun.specs.declared.turns.Turn.TheVariants as turns
use Rattle.sched.specs.Turns.{turn_after}
use Rattle.absdom.proofs.KindLists.{number, each_below, same_range, each_proper, many_words, proper_number, unmarked, whole_word}
use Rattle.test_laws.specs.Sample.{yes_program}

-- ---- two states

-- no byte of the stack is set
no_marks : List Bool
no_marks = replicate 512 false

-- nothing is known of any register except r0
answer_kinds : AbsKind → List AbsKind
answer_kinds answer = answer ∷ Unset ∷ Unset ∷ Unset ∷ Unset ∷ Unset ∷ Unset ∷ Unset ∷ Unset ∷ Unset ∷ Unset ∷ []

abbrev known : AbsKind → StateValue
known answer = record { kinds = answer_kinds answer; marks = no_marks; ranges = all_whole }

abbrev table : ℕ → Option StateValue
table zero = Some (known Unset)
table (suc zero) = Some (known number)
table (suc (suc n)) = None

-- ---- they are whole

many_marks : length no_marks ≡ 512
unfolding no_marks
many_marks = length-replicate 512 false

whole : (answer : AbsKind) → IsProper answer → IsWhole (known answer)
unfolding answer_kinds
whole answer proper = record {
  sizes = record { registers = refl; bytes = many_marks; words = many_words };
  kinds = each_proper (answer_kinds answer) (proper, (tt, (tt, (tt, (tt, (tt, (tt, (tt, (tt, (tt, (tt, tt)))))))))));
  ranges = λ place. rw (whole_word place) proper_number;
  unset = λ place unset. whole_word place;
}

-- ---- their order

entry : StateValue
entry = record { kinds = entry_kinds; marks = no_marks; ranges = all_whole }

is_entry : IsEntry entry
unfolding entry no_marks
is_entry = record { kinds = refl; marks = unmarked 512; ranges = whole_word }

entry_below : IsStateBelow entry (known Unset)
unfolding entry answer_kinds
entry_below = record {
  kinds = each_below entry_kinds (answer_kinds Unset) (tt, (tt, (tt, (tt, (tt, (tt, (tt, (tt, (tt, (tt, (tt, tt)))))))))));
  marks = λ place h. h;
  ranges = λ place. same_range (range_in all_whole place);
}

-- a number in r0 is among all numbers
answered : (range : Range) → IsWithin range (whole_range Bits64) → IsStateBelow (known (Num range)) (known number)
unfolding answer_kinds
answered range within = record {
  kinds = each_below (answer_kinds (Num range)) (answer_kinds number) (within, (tt, (tt, (tt, (tt, (tt, (tt, (tt, (tt, (tt, (tt, tt)))))))))));
  marks = λ place h. h;
  ranges = λ place. same_range (range_in all_whole place);
}

-- ---- the program

permitted : (maps : Maps) (slot : ℕ) → IsPermittedAt (spill_of yes_program.version) maps table slot (table slot) (insn_at yes_program slot)
unfolding answer_kinds
permitted maps zero = answered (0, 0) (record { above = omega arith; below = omega arith })
permitted maps (suc zero) = tt
permitted maps (suc (suc slot)) = tt

whole_at : (slot : ℕ) → IfSome (table slot) IsWhole
whole_at zero = whole Unset tt
whole_at (suc zero) = whole number proper_number
whole_at (suc (suc slot)) = tt

allowed : (slot : ℕ) (insn : Insn) → insn_at yes_program slot ≡ Some insn → IsAllowed yes_program slot insn
allowed zero insn is = subst (λ (o : Option Insn). IfSome o (λ i. IsAllowed yes_program zero i)) is (record { supported = tt; leaves_frame = omega arith; jump = tt })
allowed (suc zero) insn is = subst (λ (o : Option Insn). IfSome o (λ i. IsAllowed yes_program (suc zero) i)) is (record { supported = tt; leaves_frame = tt; jump = tt })
allowed (suc (suc slot)) insn is = cc

weighs_two : weight_of yes_program ≡ 2
unfolding times_at weight_from
weighs_two = refl

pub is_program : IsProgram yes_program
is_program = record {
  budget = (omega arith, omega arith);
  slots = (omega arith, omega arith);
  few_loops = omega arith;
  loops = tt;
  code = ((omega arith, record { sfits = omega arith }), (tt, refl));
}

pub justified : (maps : Maps) → IsJustified yes_program maps
justified maps = record {
  limits = is_program;
  formed = record {
    loops = All-nil (IsLoopFormed yes_program);
    allowed = allowed;
    ends = refl;
    within_budget = omega (arith, weighs_two);
  };
  table = table;
  entered = record { known = entry; entry = is_entry; covered = entry_below };
  whole = whole_at;
  permitted = permitted maps;
  heads = All-nil (λ l. IfSome (table l.head) (IsHead yes_program l));
}

-- ---- its run

-- its first step writes r0, and its second ends with that
last : (port : ℕ) → State
last port = state 1 (register_after (entry_register port) 0 (Word 0)) (λ place. None)

pub runs : (header : Header) (port : ℕ) → RunsWithin yes_program header port [] 0
unfolding last
runs header port = (2, omega arith, record { before = 1; last = last port; path = moves at_entry refl; steps = refl; exit = refl })

pub stands : (header : Header) (port : ℕ) → turn_after yes_program header port [] ≡ Some (turns.Verdict 0)
stands header port = refl
