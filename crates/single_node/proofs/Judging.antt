-- A command that was judged by the last program for its slot.
use Rattle.std.proofs.Common.{◌≡◌, ℕ, List, Some, refl, sym, ap, subst, ◌∙◌}
use mathlib.Core.List.{IsPrefix}
use Rattle.spw.specs.Cargo.{Cargo}
use Rattle.machine.specs.Sizes.{Maps}
use Rattle.rmap.specs.declared.places.Place.{Place}
use Rattle.rmap.specs.Command.{command_kind, command_of}
use Rattle.bver.specs.Justified.{AcceptedValue, IsJustified}
use Rattle.bank.specs.Records.{AdmittedValue, JudgedValue, ShareValue}
use Rattle.node_programs.specs.declared.publishes.Publish.{Publish}
use Rattle.node_programs.specs.Laws.{IsLastFor}
use Rattle.node_programs.specs.Published.{judging_program, sizes_of}
use Rattle.node_programs.specs.Staged.{Staged}
use Rattle.node_parts.specs.Slots.{slot_of}
use Rattle.node_parts.specs.Passes.{RunContextValue, pass_of}
use Rattle.node_parts.specs.Steps.{IsAdmission, IsPacketVerdict}
use Rattle.plain_cells.specs.Cells.{PlainCellsValue}
use Rattle.plain_cells.specs.Words.{AreCallsOn}
use Rattle.single_node.specs.Judging.{IsLastJudgement}
use Rattle.single_node.specs.Running.{IsJudgedOn}

-- an admitted command that was judged once, by the program that its slot shows
pub last_judgement : IsLastFor → (before after : PlainCellsValue) (b left : RunContextValue) (known programs : List Publish) (shares : List ShareValue) (staging : Staged) (admitted : AdmittedValue) (p : Cargo) (j : JudgedValue) (program : AcceptedValue) (generation slot : ℕ)
    → before.sizes ≡ sizes_of programs → IsPrefix known programs → slot ≡ slot_of (command_kind (command_of admitted.packet)) admitted.place
    → judging_program programs slot ≡ Some (program, generation) → IsJustified program.program program.sizes
    → IsJudgedOn program generation b left before after admitted j → IsAdmission admitted p b.windows
    → IsLastJudgement programs before.words after.words (pass_of b known shares staging) (pass_of left programs shares staging) p j
last_judgement law before after b left known programs shares staging admitted p j program generation slot sized longer at shows accepted on admission =
    let once = on.once in
    let is = once.judged.judged in
    let packet : j.packet ≡ p = ap (λ (x : JudgedValue). x.packet) is ∙ admission.packet in
    let place : j.place ≡ admitted.place = ap (λ (x : JudgedValue). x.place) is in
    let reported : j.generation ≡ generation = ap (λ (x : JudgedValue). x.generation) is in
    let there : slot ≡ slot_of (command_kind (command_of p)) j.place
    = at ∙ ap (λ (x : Cargo). slot_of (command_kind (command_of x)) admitted.place) admission.packet ∙ ap (λ (x : Place). slot_of (command_kind (command_of p)) x) (sym place) in
    let shown : judging_program programs (slot_of (command_kind (command_of p)) j.place) ≡ Some (program, j.generation)
    = subst (λ (n : ℕ). judging_program programs (slot_of (command_kind (command_of p)) j.place) ≡ Some (program, n)) (sym reported)
    (subst (λ (s : ℕ). judging_program programs s ≡ Some (program, generation)) there shows) in
    record {
      judgement = record {
        seen = programs;
        program = program;
        calls = once.calls;
        taken = record { longer = longer; shown = shown; accepted = accepted };
        asked = ap (λ (x : RunContextValue). pass_of x programs shares staging) once.asked;
        judged_for = record {
          packet = packet;
          placed = rw place (admission.placed);
          port_of = ap (λ (x : JudgedValue). x.port) is;
          generation_of = refl;
          verdict = subst (λ (x : Cargo). IsPacketVerdict program b.port once.calls x j.verdict) admission.packet once.judged.verdict;
        };
      };
      cells = subst (λ (sizes : Maps). AreCallsOn sizes before.words once.calls after.words) sized on.cells.words;
      by_last = record { saw = refl; last = law programs (slot_of (command_kind (command_of p)) j.place) program j.generation shown };
      knows = refl;
    }
