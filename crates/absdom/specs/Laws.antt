-- What holds of the states of the verifier.
use Rattle.std.specs.Prelude.{◌≡◌, ℕ, ◌+◌, ◌<◌, ◌^◌, ℤ, true, false, Option, Some, None, Result, Ok, Err, IfSome, IfOk}
use Rattle.bpf_parts.specs.declared.operation.Comparison.{Comparison}
use Rattle.bpf_parts.specs.declared.operation.Width.{Width}
use Rattle.bpf_parts.specs.declared.operation.Condition.{Condition}
use Rattle.bpf_parts.specs.declared.operation.Operand.{Operand}
use Rattle.bpf_parts.specs.declared.callee.Callee.{Callee}
use Rattle.bpf_insn.specs.declared.insn.Insn.{Insn}
use Rattle.bpf_insn.specs.declared.insn.Insn.TheVariants.{Jump, Call}
use Rattle.bpf_insn.specs.Flow.{is_written}
use Rattle.bpf_insn.specs.Spelling.{slots_of}
use Rattle.machine.specs.Memory.{Header, IsProgramHeader}
use Rattle.machine.specs.State.{State, entry_state}
use Rattle.machine.specs.Step.{perform, after_answer}
use Rattle.machine.specs.Laws.{is_store}
use Rattle.absdom_num.specs.Ranges.{IsRange}
use Rattle.absdom.specs.declared.cause.Cause.{Cause}
use Rattle.absdom_stack.specs.Marks.{mark_at}
use Rattle.absdom_stack.specs.StackWords.{AreAllWhole}
use Rattle.absdom_stack.specs.declared.spill.Spill.{Spill}
use Rattle.absdom_stack.specs.declared.spill.Spill.TheVariants.{Forgets}
use Rattle.absdom.specs.State.{StateValue, IsWhole, IsStateBelow, IsStateJoin, IsEntry, AreAlike, kind_at, range_at, after_call}
use Rattle.absdom.specs.Effect.{after_insn}
use Rattle.absdom.specs.Edges.{Edges, refined_edges}
use Rattle.absdom.specs.Fits.{Fits, IsStateSound, GoesStraight, TakesEdge}

-- what fits the first state fits the second, if the first is below it
abbrev pub BelowFits : Type 0
BelowFits = (s : State) (a b : StateValue) → IsStateBelow a b → Fits s a → Fits s b

-- each state is below itself
abbrev pub BelowIsReflexive : Type 0
BelowIsReflexive = (a : StateValue) → IsStateBelow a a

-- a state below one that is below a third is below the third
abbrev pub BelowIsTransitive : Type 0
BelowIsTransitive = (a b c : StateValue) → IsStateBelow a b → IsStateBelow b c → IsStateBelow a c

-- a joint state is above both
abbrev pub JoinIsAbove : Type 0
JoinIsAbove = (a b joint : StateValue) → IsStateJoin a b joint → IsStateBelow a joint × IsStateBelow b joint

-- and below every state that is above both
abbrev pub JoinIsLeast : Type 0
JoinIsLeast = (a b joint c : StateValue) → IsStateJoin a b joint → IsStateBelow a c → IsStateBelow b c → IsStateBelow joint c

-- two states that are below each other have the same kinds, marks and ranges
abbrev pub BelowIsAntisymmetric : Type 0
BelowIsAntisymmetric = (a b : StateValue) → IsStateBelow a b → IsStateBelow b a → AreAlike a b

-- the state of the machine at entry fits the entry state
abbrev pub EntryFits : Type 0
EntryFits = (a : StateValue) (port : ℕ) → IsEntry a → port < 32 → Fits (entry_state port) a

-- whatever a helper answers, the state after its call fits
abbrev pub CallFits : Type 0
CallFits =
    (s : State) (a : StateValue) (answer : ℕ) → answer < 2 ^ 64 → Fits s a → Fits (after_answer s answer) (after_call a)

-- if an instruction is not refused, the machine goes on from every state that fits to the next one, which fits the
-- result
abbrev pub ApplyFits : Type 0
ApplyFits =
    (spill : Spill) (header : Header) (s : State) (a : StateValue) (insn : Insn) → IsProgramHeader header → GoesStraight insn
    → Fits s a
    → IsStateSound (perform header s insn) (s.slot + slots_of insn) (after_insn spill a insn)

-- if a comparison is not refused, every state that fits also fits the edge that it takes
abbrev pub StateRefineFits : Type 0
StateRefineFits =
    (header : Header) (s : State) (a : StateValue) (comparison : Comparison) (offset : ℤ) → Fits s a
    → TakesEdge s offset (perform header s (Jump comparison offset))
    (refined_edges a comparison.condition comparison.width comparison.dst comparison.src)

-- ---- larger states give larger ones

-- if the larger result is not refused, neither is the smaller, and it is below
abbrev pub IsGrown : (small large : Result StateValue Cause) → Type 0
IsGrown small (Err cause) = Unit {0}
IsGrown (Err cause) (Ok large) = ⊥
IsGrown (Ok small) (Ok large) = IsStateBelow small large

-- if the smaller edge is followed, so is the larger, and it is above
abbrev pub IsEdgeBelow : (small large : Option StateValue) → Type 0
IsEdgeBelow None large = Unit {0}
IsEdgeBelow (Some small) None = ⊥
IsEdgeBelow (Some small) (Some large) = IsStateBelow small large

-- if the larger state is not refused, neither is the smaller, and each of its edges is below
abbrev pub AreEdgesGrown : (small large : Result Edges Cause) → Type 0
AreEdgesGrown small (Err cause) = Unit {0}
AreEdgesGrown (Err cause) (Ok large) = ⊥
AreEdgesGrown (Ok small) (Ok large) = IsEdgeBelow small.taken large.taken × IsEdgeBelow small.not_taken large.not_taken

-- from a smaller state an instruction gives a smaller one; if the larger is not refused, neither is the smaller
abbrev pub ApplyGrows : Type 0
ApplyGrows =
    (spill : Spill) (a b : StateValue) (insn : Insn) → IsWhole a → IsWhole b → IsStateBelow a b
    → IsGrown (after_insn spill a insn) (after_insn spill b insn)

-- and a comparison: an edge that is followed from the smaller is followed from the larger
abbrev pub StateRefineGrows : Type 0
StateRefineGrows =
    (a b : StateValue) (condition : Condition) (width : Width) (dst : ℕ) (src : Operand) → IsWhole a → IsWhole b
    → IsStateBelow a b
    → AreEdgesGrown (refined_edges a condition width dst src) (refined_edges b condition width dst src)

-- and a helper's call
abbrev pub CallGrows : Type 0
CallGrows =
    (a b : StateValue) → IsWhole a → IsWhole b → IsStateBelow a b → IsStateBelow (after_call a) (after_call b)

-- and a join
abbrev pub JoinGrows : Type 0
JoinGrows =
    (a b c d first second : StateValue) → IsStateJoin a b first → IsStateJoin c d second → IsStateBelow a c → IsStateBelow b d
    → IsStateBelow first second

-- ---- what an instruction keeps

-- an instruction keeps what is known of the registers that it does not write, and each mark. An instruction that is
-- no store makes no mark, and keeps what is known of each word. After it, each word of a whole state has a range
-- whose ends are in order.
pub record IsKnownLeftBy (insn : Insn) (before after : StateValue) : Type 0 where
  pub kinds : (k : ℕ) → is_written insn k ≡ false → kind_at after k ≡ kind_at before k
  pub marks : (place : ℕ) → mark_at before.marks place ≡ true → mark_at after.marks place ≡ true
  pub unstored : is_store insn ≡ false → after.marks ≡ before.marks
  pub ranges : is_store insn ≡ false → after.ranges ≡ before.ranges
  pub proper : IsWhole before → (word : ℕ) → IsRange (range_at after word)

-- an instruction that is not refused keeps what it does not write
abbrev pub ApplyLeaves : Type 0
ApplyLeaves = (spill : Spill) (a : StateValue) (insn : Insn) → IfOk (after_insn spill a insn) (IsKnownLeftBy insn a)

-- if ranges are forgotten and nothing is known of any word, nothing is known of one after an instruction
abbrev pub ForgetsAll : Type 0
ForgetsAll =
    (a : StateValue) (insn : Insn) → AreAllWhole a.ranges → IfOk (after_insn Forgets a insn) (λ b. AreAllWhole b.ranges)

-- and so does a helper's call
abbrev pub CallLeaves : Type 0
CallLeaves =
    (a : StateValue) (callee : Callee) (number : ℤ) → IsKnownLeftBy (Call callee number) a (after_call a)

-- what is known on each edge that is followed says all that was known before
pub record AreEdgesBelow (edges : Edges) (a : StateValue) : Type 0 where
  pub taken : IfSome edges.taken (λ edge. IsStateBelow edge a)
  pub not_taken : IfSome edges.not_taken (λ edge. IsStateBelow edge a)

-- a comparison that is not refused only refines
abbrev pub StateRefineShrinks : Type 0
StateRefineShrinks =
    (a : StateValue) (condition : Condition) (width : Width) (dst : ℕ) (src : Operand)
    → IfOk (refined_edges a condition width dst src) (λ edges. AreEdgesBelow edges a)
