-- How a control write ends if nothing stops it.
use Rattle.std.proofs.Common.{◌≡◌, ◌<◌, ◌^◌, ℕ, List, [], ◌++◌, length, Option, None, sym, ap, ap₂, subst, ◌∙◌, inl, inr, append_assoc}
use Rattle.std.proofs.lemmas.List.{append-nil}
use mathlib.Core.List.{IsPrefix}
use Rattle.rmap.specs.declared.status.Status.{Status}
use Rattle.rmap.specs.declared.status.Status.TheVariants.{Success, GeneralError}
use Rattle.rmap.specs.Command.{command_of}
use Rattle.rmap.specs.Reply.{reply_of}
use Rattle.bank.specs.Answer.{judged_line}
use Rattle.bank.specs.Records.{JudgedValue, ShareValue}
use Rattle.bver.specs.Justified.{AcceptedValue}
use Rattle.machine.specs.Sizes.{Maps}
use Rattle.node_programs.specs.declared.publishes.Publish.{Publish}
use Rattle.node_programs.specs.Histories.{longer_history}
use Rattle.node_programs.specs.Published.{sizes_of}
use Rattle.node_programs.specs.Staged.{Staged, staged}
use Rattle.rmap.specs.declared.boot_records.ControlData.{ControlData}
use Rattle.node_parts.specs.declared.refusal.LoadRefusal.{LoadRefusal}
use Rattle.node_parts.specs.Passes.{RunContextValue, pass_of}
use Rattle.node_parts.specs.Loads.{IsPrepared, published_result, refused_result}
use Rattle.node_parts.specs.Outcomes.{IsLoadRefusal}
use Rattle.node_parts.specs.Loaded.{IsPublished, control_in, EndsAs, HasLoaded, HasRefused, IsLoadEnd}

pub prefix_same : (xs ys : List Publish) → ys ≡ xs → IsPrefix xs ys
prefix_same xs ys same = ([], append-nil xs ∙ sym same)

pub prefix_longer : (xs ys more : List Publish) → IsPrefix xs ys → IsPrefix xs (ys ++ more)
prefix_longer xs ys more p = (p.0 ++ more, sym (append_assoc xs p.0 more) ∙ ap (λ w. w ++ more) p.1)

-- what was prepared and then published, of which the port then knows
pub published_of : (control : ControlData) (staging : List ℕ) (sizes : Maps) (old new known seen : List Publish) (slot : ℕ) (program : AcceptedValue) (generation : ℕ)
    → sizes ≡ sizes_of old → IsPrepared control staging sizes slot program → length old < 2 ^ 32 → new ≡ longer_history old slot program → generation ≡ length old
    → IsPrefix known old → seen ≡ new → IsPublished control staging old new known seen generation
published_of control staging sizes old new known seen slot program generation same prepared few extends place begins learnt = record {
  slot = slot;
  program = program;
  load = (subst (λ (s : Maps). IsPrepared control staging s slot program) same prepared, few);
  extends = extends;
  place = place;
  reported = prefix_same new seen learnt;
  keeps = subst (λ (l : List Publish). IsPrefix known l) (sym (learnt ∙ extends)) (prefix_longer known old _ begins);
  learnt = learnt;
}

-- a load that published
pub ends_loaded : (b : RunContextValue) (known seen : List Publish) (shares : List ShareValue) (staging left : Staged) (old new : List Publish) (j : JudgedValue) (result : Status) (bytes loaded : List ℕ) (control : ControlData) (generation : ℕ)
    → judged_line (command_of j.packet) j.verdict ≡ None → control ≡ control_in j
    → IsPublished control staging.bytes old new known seen generation
    → result ≡ Success → left ≡ staged staging.bytes loaded → loaded ≡ published_result generation
    → bytes ≡ reply_of (command_of j.packet) result []
    → IsLoadEnd (pass_of b known shares staging) (pass_of b seen shares left) old new j result bytes
ends_loaded b known seen shares staging left old new j result bytes loaded control generation none asks published status kept reports reply =
    let holder = pass_of b known shares staging in
    let after = pass_of b seen shares left in
    let has : HasLoaded holder after old new j result = record {
      generation = generation;
      published = subst (λ (x : ControlData). IsPublished x staging.bytes old new known seen generation) asks published;
      status = status;
      holder_after = ap (λ (s : Staged). pass_of b seen shares s) (kept ∙ ap (λ l. staged staging.bytes l) reports);
    } in
    record { ended = subst (λ (line : Option Status). EndsAs line holder after old new j result) (sym none) (inl has); reply = reply }

-- a load that was refused
pub ends_refused : (b : RunContextValue) (known seen : List Publish) (shares : List ShareValue) (staging left : Staged) (old new : List Publish) (j : JudgedValue) (result : Status) (bytes loaded : List ℕ) (control : ControlData) (refusal : LoadRefusal)
    → judged_line (command_of j.packet) j.verdict ≡ None → control ≡ control_in j
    → IsLoadRefusal control staging.bytes (sizes_of old) (length old) refusal → seen ≡ known → new ≡ old
    → result ≡ GeneralError → left ≡ staged staging.bytes loaded → loaded ≡ refused_result refusal
    → bytes ≡ reply_of (command_of j.packet) result []
    → IsLoadEnd (pass_of b known shares staging) (pass_of b seen shares left) old new j result bytes
ends_refused b known seen shares staging left old new j result bytes loaded control refusal none asks refused knows same status kept reports reply =
    let holder = pass_of b known shares staging in
    let after = pass_of b seen shares left in
    let has : HasRefused holder after old new j result = record {
      refusal = refusal;
      refused = subst (λ (x : ControlData). IsLoadRefusal x staging.bytes (sizes_of old) (length old) refusal) asks refused;
      status = status;
      same = same;
      holder_after = ap₂ (λ (l : List Publish) (s : Staged). pass_of b l shares s) knows (kept ∙ ap (λ l. staged staging.bytes l) reports);
    } in
    record { ended = subst (λ (line : Option Status). EndsAs line holder after old new j result) (sym none) (inr has); reply = reply }
