-- A command that was judged by the program that was taken.
use Rattle.std.proofs.Common.{◌≡◌, ℕ, List, ◌++◌, Option, None, Some, refl, sym, ap, ap₂, subst, ◌∙◌, append_assoc}
use Rattle.std.specs.Option.{option_map}
use mathlib.Core.List.{IsPrefix}
use Rattle.spw.specs.Cargo.{Cargo}
use Rattle.rmap.specs.declared.places.Place.{Place}
use Rattle.rmap.specs.Command.{command_of, command_kind}
use Rattle.bver.specs.Justified.{AcceptedValue, IsJustified}
use Rattle.bank.specs.Records.{AdmittedValue, JudgedValue, ShareValue}
use Rattle.node_programs.specs.declared.publishes.Publish.{Publish}
use Rattle.node_programs.specs.Published.{judging_program, program_at, generation_at}
use Rattle.node_programs.specs.Staged.{Staged}
use Rattle.node_parts.specs.Slots.{slot_of}
use Rattle.node_parts.specs.Passes.{RunContextValue, pass_of}
use Rattle.node_parts.specs.Steps.{IsAdmission, IsJudgedOnce, IsJudgement, IsTaken, IsPacketVerdict}
use Rattle.target.specs.Steps.{IsJudgedByTaken}
use Rattle.annals.specs.Shown.{IsTakenAtMoment}
use Rattle.annals.specs.declared.deed.HistoryEntry.{HistoryEntry}
use Rattle.lemmas.proofs.Options.{some_same}

-- program and generation of a slot, each by itself
both_shown : (o : Option (AcceptedValue × ℕ)) (a : AcceptedValue) (n : ℕ) → option_map (λ p. p.0) o ≡ Some a → option_map (λ p. p.1) o ≡ Some n → o ≡ Some (a, n)
both_shown None a n first second = absurd cc
both_shown (Some x) a n first second =
    ap₂ (λ (a : AcceptedValue) (n : ℕ). Some (a, n)) (some_same x.0 a first) (some_same x.1 n second)

pub judged_by_taken : (known seen taken : List Publish) (old new : RunContextValue) (admitted : AdmittedValue) (j : JudgedValue) (program : AcceptedValue) (generation slot : ℕ)
    → seen ≡ taken → IsPrefix known taken → slot ≡ slot_of (command_kind (command_of admitted.packet)) admitted.place
    → program_at taken slot ≡ Some program → generation_at taken slot ≡ Some generation
    → IsJustified program.program program.sizes
    → IsJudgedOnce program generation old new admitted j → IsJudgedByTaken known seen old new admitted j
judged_by_taken known seen taken old new admitted j program generation slot same longer at shows reports accepted once =
    let reported : j.generation ≡ generation = ap (λ (x : JudgedValue). x.generation) once.judged.judged in
    let shown = subst (λ s. judging_program taken s ≡ Some (program, generation)) at (both_shown (judging_program taken slot) program generation shows reports) in
    record {
      program = program;
      taken = record {
        longer = subst (λ l. IsPrefix known l) (sym same) longer;
        shown = subst (λ l. judging_program l (slot_of (command_kind (command_of admitted.packet)) admitted.place) ≡ Some (program, j.generation)) (sym same)
            (subst (λ n. judging_program taken (slot_of (command_kind (command_of admitted.packet)) admitted.place) ≡ Some (program, n)) (sym reported) shown);
        accepted = accepted;
      };
      once = subst (λ n. IsJudgedOnce program n old new admitted j) (sym reported) once;
    }

-- the command of a packet that was admitted, and then judged by the program that was taken
pub judgement_of : (b left : RunContextValue) (known seen : List Publish) (shares : List ShareValue) (staging : Staged) (admitted : AdmittedValue) (p : Cargo) (j : JudgedValue)
    → IsAdmission admitted p b.windows → IsJudgedByTaken known seen b left admitted j
    → IsJudgement (pass_of b known shares staging) (pass_of left seen shares staging) p j
judgement_of b left known seen shares staging admitted p j admission by =
    let once = by.once in
    let is = once.judged.judged in
    let packet : j.packet ≡ p = ap (λ (x : JudgedValue). x.packet) is ∙ admission.packet in
    let place : j.place ≡ admitted.place = ap (λ (x : JudgedValue). x.place) is in
    record {
      seen = seen;
      program = by.program;
      calls = once.calls;
      taken = subst (λ (x : Cargo). IsTaken known seen (command_of x) j.place by.program j.generation) admission.packet
          (subst (λ (x : Place). IsTaken known seen (command_of admitted.packet) x by.program j.generation) (sym place) by.taken);
      asked = ap (λ (x : RunContextValue). pass_of x seen shares staging) once.asked;
      judged_for = record {
        packet = packet;
        placed = rw place (admission.placed);
        port_of = ap (λ (x : JudgedValue). x.port) is;
        generation_of = refl;
        verdict = subst (λ (x : Cargo). IsPacketVerdict by.program b.port once.calls x j.verdict) admission.packet once.judged.verdict;
      };
    }

-- a moment after what somebody saw is one after what this one had seen before
pub taken_since : (known first reached : List HistoryEntry) (programs : List Publish) → IsPrefix known first → IsTakenAtMoment first reached programs → IsTakenAtMoment known reached programs
taken_since known first reached programs begins at = record {
  at = at.at;
  after = (begins.0 ++ at.after.0, sym (append_assoc known begins.0 at.after.0) ∙ (ap (λ (l : List HistoryEntry). l ++ at.after.0) begins.1 ∙ at.after.1));
  before = at.before;
  seen = at.seen;
}
