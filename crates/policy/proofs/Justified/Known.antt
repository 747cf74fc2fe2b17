-- What is known at the slots of a compiled table. Four states are enough for every rule. Between its tests nothing is
-- known of r0 to r5. At a comparison r0 is a number. Two more come before the draw of a ticket.
use Rattle.std.specs.Prelude.{pos, negsuc, ◌==◌, ◌&&◌, ◌-◌, if◌then◌else◌, slice_set, Ok, Err}
use Rattle.std.proofs.Common.{◌≡◌, ◌<◌, ◌^◌, ℕ, zero, suc, Bool, true, false, List, [], ◌∷◌, length, replicate, refl, ap, ◌∙◌, arith, eq-eqb}
use Rattle.std.proofs.lemmas.List.{get_or-set_same, length-replicate, length-set}
use Rattle.bpf_parts.specs.declared.operation.AluOp.TheVariants.{Mov}
use Rattle.bpf_parts.specs.declared.operation.Width.{Width}
use Rattle.bpf_parts.specs.declared.operation.Width.TheVariants.{Bits32, Bits64}
use Rattle.machine.specs.declared.regions.Region.TheVariants.{Front, Tail, Stack}
use Rattle.machine.specs.Words.{alu_words, low_part}
use Rattle.absdom_num.specs.Ranges.{IsWithin}
use Rattle.absdom_num.specs.Tables.{alu_range, low_range, row, single_range, whole_range}
use Rattle.absdom.specs.declared.kinds.AbsKind.{AbsKind}
use Rattle.absdom.specs.declared.kinds.AbsKind.TheVariants.{Unset, Num, Ptr, Map}
use Rattle.absdom.specs.Kinds.{IsKindBelow}
use Rattle.bpf_parts.specs.declared.memory.LoadSize.TheVariants.{LoadByte}
use Rattle.absdom.specs.declared.cause.Cause.TheVariants.{UnsetStack}
use Rattle.absdom.specs.Effect.{load_kind, with_stored}
use Rattle.absdom_stack.specs.declared.spill.Spill.TheVariants.{Forgets}
use Rattle.absdom_stack.specs.Marks.{all_marked, mark_at, marks_after}
use Rattle.absdom_stack.specs.StackWords.{all_whole, is_touched, range_in, widened_from}
use Rattle.absdom.specs.State.{IsStateBelow, IsEntry, IsProper, IsWhole, StateValue, entry_kinds}
use Rattle.absdom.proofs.KindLists.{number, each_below, same_range, each_proper, many_words, proper_number, unmarked, whole_word}

-- ---- states

-- no byte of the stack is set
pub no_marks : List Bool
no_marks = replicate 512 false

-- the last byte of the stack is set
pub port_marks : List Bool
port_marks = slice_set no_marks 511 true

-- the bytes of the stack that are set: the last, if the port is kept there
abbrev pub marks_held : (held : Bool) → List Bool
marks_held false = no_marks
marks_held true = port_marks

-- the byte after the last of the stack
abbrev pub frame : AbsKind
frame = Ptr Stack (pos 0, pos 0)

-- these kinds of r0, r1, r2, r3, r6, r7, r8 and r9, the frame in r10, and Unset for the others
abbrev pub listed : (k0 k1 k2 k3 k6 k7 k8 k9 : AbsKind) → List AbsKind
listed k0 k1 k2 k3 k6 k7 k8 k9 = k0 ∷ k1 ∷ k2 ∷ k3 ∷ Unset ∷ Unset ∷ k6 ∷ k7 ∷ k8 ∷ k9 ∷ frame ∷ []

-- the state with these kinds
abbrev pub known : (held : Bool) (k0 k1 k2 k6 k7 k8 k9 : AbsKind) → StateValue
known held k0 k1 k2 k6 k7 k8 k9 = record { kinds = listed k0 k1 k2 Unset k6 k7 k8 k9; marks = marks_held held; ranges = all_whole }

-- the first byte of the first four of the header
abbrev pub front : AbsKind
front = Ptr Front (pos 0, pos 0)

-- the first byte of its last twelve
abbrev pub tail : AbsKind
tail = Ptr Tail (pos 0, pos 0)

-- these kinds of r0 to r2 among the rules: r6 and r7 point to the header, r8 and r9 are addresses
abbrev pub in_rules : (held : Bool) (k0 k1 k2 : AbsKind) → StateValue
in_rules held k0 k1 k2 = known held k0 k1 k2 front tail number number

-- between two tests
abbrev pub between : (held : Bool) → StateValue
between held = in_rules held Unset Unset Unset

-- at a comparison
abbrev pub comparing : (held : Bool) → StateValue
comparing held = in_rules held number Unset Unset

-- after the load of a map
abbrev pub mapped : (held : Bool) (map : ℕ) → StateValue
mapped held map = in_rules held Unset (Map map) Unset

-- after its cell is set
abbrev pub drawing : (held : Bool) (map cell : ℕ) → StateValue
drawing held map cell = in_rules held Unset (Map map) (Num (single_range cell))

-- ---- their order

pub same_number : IsKindBelow number number
same_number = same_range (whole_range Bits64)

pub same_front : IsKindBelow front front
same_front = (refl, record { above = omega arith; below = omega arith })

pub same_tail : IsKindBelow tail tail
same_tail = (refl, record { above = omega arith; below = omega arith })

pub same_frame : IsKindBelow frame frame
same_frame = (refl, record { above = omega arith; below = omega arith })

pub below : (held : Bool) {j0 j1 j2 j6 j7 j8 j9 k0 k1 k2 k6 k7 k8 k9 : AbsKind}
    → IsKindBelow j0 k0 → IsKindBelow j1 k1 → IsKindBelow j2 k2 → IsKindBelow j6 k6 → IsKindBelow j7 k7 → IsKindBelow j8 k8 → IsKindBelow j9 k9
    → IsStateBelow (known held j0 j1 j2 j6 j7 j8 j9) (known held k0 k1 k2 k6 k7 k8 k9)
below held {j0 = j0} {j1 = j1} {j2 = j2} {j6 = j6} {j7 = j7} {j8 = j8} {j9 = j9} {k0 = k0} {k1 = k1} {k2 = k2} {k6 = k6} {k7 = k7} {k8 = k8} {k9 = k9} h0 h1 h2 h6 h7 h8 h9 = record {
  kinds = each_below (listed j0 j1 j2 Unset j6 j7 j8 j9) (listed k0 k1 k2 Unset k6 k7 k8 k9) (h0, (h1, (h2, (tt, (tt, (tt, (h6, (h7, (h8, (h9, (same_frame, tt)))))))))));
  marks = λ place h. h;
  ranges = λ word. same_range (range_in all_whole word);
}

pub below_in_rules : (held : Bool) {j0 j1 j2 k0 k1 k2 : AbsKind} → IsKindBelow j0 k0 → IsKindBelow j1 k1 → IsKindBelow j2 k2 → IsStateBelow (in_rules held j0 j1 j2) (in_rules held k0 k1 k2)
below_in_rules held h0 h1 h2 = below held h0 h1 h2 same_front same_tail same_number same_number

-- ---- they are states

many_marks : length no_marks ≡ 512
unfolding no_marks
many_marks = length-replicate 512 false

many_held : (held : Bool) → length (marks_held held) ≡ 512
unfolding port_marks
many_held false = many_marks
many_held true = length-set no_marks 511 true ∙ many_marks

pub proper_front : IsProper front
proper_front = omega arith

pub proper_tail : IsProper tail
proper_tail = omega arith

pub proper_frame : IsProper frame
proper_frame = omega arith

pub whole : (held : Bool) {k0 k1 k2 k6 k7 k8 k9 : AbsKind} → IsProper k0 → IsProper k1 → IsProper k2 → IsProper k6 → IsProper k7 → IsProper k8 → IsProper k9
    → IsWhole (known held k0 k1 k2 k6 k7 k8 k9)
whole held {k0 = k0} {k1 = k1} {k2 = k2} {k6 = k6} {k7 = k7} {k8 = k8} {k9 = k9} h0 h1 h2 h6 h7 h8 h9 = record {
  sizes = record { registers = refl; bytes = many_held held; words = many_words };
  kinds = each_proper (listed k0 k1 k2 Unset k6 k7 k8 k9) (h0, (h1, (h2, (tt, (tt, (tt, (h6, (h7, (h8, (h9, (proper_frame, tt)))))))))));
  ranges = λ word. rw (whole_word word) proper_number;
  unset = λ word unset. whole_word word;
}

pub whole_in_rules : (held : Bool) {k0 k1 k2 : AbsKind} → IsProper k0 → IsProper k1 → IsProper k2 → IsWhole (in_rules held k0 k1 k2)
whole_in_rules held h0 h1 h2 = whole held h0 h1 h2 proper_front proper_tail proper_number proper_number

-- ---- at entry

-- all that is known at entry
pub entry : StateValue
entry = record { kinds = entry_kinds; marks = no_marks; ranges = all_whole }

pub is_entry : IsEntry entry
unfolding entry no_marks
is_entry = record { kinds = refl; marks = unmarked 512; ranges = whole_word }

-- the first instructions need only the two pointers, and the port if it is kept
abbrev pub entered : (held : Bool) → StateValue
entered false = known false Unset front tail Unset Unset Unset Unset
entered true = record { kinds = listed Unset front tail number Unset Unset Unset Unset; marks = no_marks; ranges = all_whole }

small_port : IsKindBelow (Num (0, 31)) number
small_port = record { above = omega arith; below = omega arith }

pub entry_below : (held : Bool) → IsStateBelow entry (entered held)
unfolding entry
entry_below false = record {
  kinds = each_below entry_kinds (listed Unset front tail Unset Unset Unset Unset Unset) (tt, (same_front, (same_tail, (tt, (tt, (tt, (tt, (tt, (tt, (tt, (same_frame, tt)))))))))));
  marks = λ place h. h;
  ranges = λ word. same_range (range_in all_whole word);
}
entry_below true = record {
  kinds = each_below entry_kinds (listed Unset front tail number Unset Unset Unset Unset) (tt, (same_front, (same_tail, (small_port, (tt, (tt, (tt, (tt, (tt, (tt, (same_frame, tt)))))))))));
  marks = λ place h. h;
  ranges = λ word. same_range (range_in all_whole word);
}

pub whole_entered : IsWhole (entered true)
whole_entered = record {
  sizes = record { registers = refl; bytes = many_marks; words = many_words };
  kinds = each_proper (listed Unset front tail number Unset Unset Unset Unset) (tt, (proper_front, (proper_tail, (proper_number, (tt, (tt, (tt, (tt, (tt, (tt, (proper_frame, tt)))))))))));
  ranges = λ word. rw (whole_word word) proper_number;
  unset = λ word unset. whole_word word;
}

-- ---- the port on the stack

-- a word of which nothing is known stays such a word
still_whole : (t : Bool) → (if t then whole_range Bits64 else whole_range Bits64) ≡ whole_range Bits64
still_whole true = refl
still_whole false = refl

widened_whole : (count word first last k : ℕ) → range_in (widened_from word (replicate count (whole_range Bits64)) first last) k ≡ whole_range Bits64
unfolding widened_from
widened_whole zero word first last k = refl
widened_whole (suc count) word first last zero = still_whole (is_touched word first last)
widened_whole (suc count) word first last (suc k) = widened_whole count (suc word) first last k

-- the port goes there
pub kept_below : IsStateBelow (with_stored Forgets (entered true) 1 (511, 511) (whole_range Bits64)) (known true Unset front tail Unset Unset Unset Unset)
unfolding marks_after port_marks all_whole
kept_below = record {
  kinds = each_below (listed Unset front tail number Unset Unset Unset Unset) (listed Unset front tail Unset Unset Unset Unset Unset) (tt, (same_front, (same_tail, (tt, (tt, (tt, (tt, (tt, (tt, (tt, (same_frame, tt)))))))))));
  marks = λ place h. h;
  ranges = λ word. rw (widened_whole 64 0 511 511 word, whole_word word) (same_range (whole_range Bits64));
}

-- it can be read from there
marked_last : mark_at port_marks 511 ≡ true
unfolding port_marks
marked_last = get_or-set_same no_marks 511 true false (omega (arith, many_marks))

pub port_readable : (held : Bool) → held ≡ true → load_kind Forgets (between held) LoadByte frame (negsuc 0) ≡ Ok (Num (0, 2 ^ 8 - 1))
unfolding all_marked
port_readable true is = ap (λ (t : Bool). if t then Ok (Num (0, 2 ^ 8 - 1)) else Err UnsetStack) marked_last
port_readable false is = cc

-- ---- a number that is moved

moved_by : (width : Width) (n : ℕ) (t : Bool) → t ≡ true
    → (if t && t then single_range (alu_words Mov width n n) else row Mov width (low_range width (single_range n)) (low_range width (single_range n))) ≡ single_range (low_part width n)
moved_by width n true is = refl
moved_by width n false is = cc

moved : (width : Width) (n : ℕ) → alu_range Mov width (single_range n) (single_range n) ≡ single_range (low_part width n)
moved width n = moved_by width n (n == n) (eq-eqb n n refl)

low_small : (width : Width) (n : ℕ) → n < 2 ^ 64 → low_part width n < 2 ^ 64
low_small Bits32 n small = omega arith
low_small Bits64 n small = small

-- it is a number
pub moved_number : (width : Width) (n : ℕ) → n < 2 ^ 64 → IsKindBelow (Num (alu_range Mov width (single_range n) (single_range n))) number
moved_number width n small =
    let fits : low_part width n < 2 ^ 64 = low_small width n small in
    let within : IsWithin (single_range (low_part width n)) (whole_range Bits64) = record { above = omega arith; below = omega (arith, fits) } in
    rw (moved width n) within

-- the register holds that number, if all its bits are moved
pub moved_same : (n m : ℕ) → n ≡ m → IsKindBelow (Num (alu_range Mov Bits64 (single_range n) (single_range n))) (Num (single_range m))
moved_same n m same =
    let within : IsWithin (single_range n) (single_range m) = record { above = omega (arith, same); below = omega (arith, same) } in
    rw (moved Bits64 n) within
