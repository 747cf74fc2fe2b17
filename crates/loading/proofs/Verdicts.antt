-- What a control write that passes does with a staging that begins with an image.
use Rattle.std.proofs.Common.{◌≡◌, ◌<◌, ◌≤◌, ◌/◌, ◌%◌, ◌*◌, ◌+◌, ℕ, List, Bool, true, eqb, cond, length, take, Option, Some, None, inl, inr, sym, ap, subst, ◌∙◌, arith}
use Rattle.std.proofs.lemmas.List.{take_all}
use Rattle.std.proofs.lemmas.Bool.Decides.{nat_tests}
use Rattle.rmap.specs.declared.status.Status.{Status}
use Rattle.rmap.specs.Command.{CommandValue, command_of}
use Rattle.rmap.specs.Checks.{body_line}
use Rattle.rmap.specs.Reply.{with_crc}
use Rattle.rmap.specs.Verdict.{verdict_of}
use Rattle.bank.specs.Answer.{first_line, judged_line, verdict_line}
use Rattle.bank.specs.Records.{JudgedValue}
use Rattle.bver.specs.Justified.{AcceptedValue}
use Rattle.machine.specs.Sizes.{Maps}
use Rattle.initiator.specs.Loads.{control_bytes_of}
use Rattle.node_programs.specs.declared.publishes.Publish.{Publish}
use Rattle.node_programs.specs.Histories.{longer_history}
use Rattle.node_programs.specs.Laws.{IsSetByNext}
use Rattle.node_programs.specs.Published.{judging_program, sizes_of}
use Rattle.rmap.specs.declared.boot_records.ControlData.{ControlData}
use Rattle.node_parts.specs.declared.refusal.LoadRefusal.{LoadRefusal}
use Rattle.node_parts.specs.Loaded.{EndsAs, HasLoaded, HasRefused, control_in}
use Rattle.node_parts.specs.Loads.{IsPrepared, IsUnpreparedBy, WantsToPrepare, of_image, of_verifier, control_fault, loaded_bytes, published_result}
use Rattle.rmap.specs.BootRecords.{control_of}
use Rattle.node_parts.specs.Outcomes.{IsLoadRefusal, WantsMemory, preparing, publishing}
use Rattle.node_parts.specs.Passes.{PassValue}
use Rattle.loading.specs.Asked.{ControlDataAreRead, asked_for}
use Rattle.loading.specs.Reported.{IsPublishedLoad, IsRefusedAs, IsLoadVerdict}

-- the data of the control write ask for the image in its slot
pub asks_for : ControlDataAreRead
asks_for slot image short =
    let n = length image in
    let count : n / 256 % 256 * 256 + n % 256 ≡ n = omega (arith, short) in
    let made : ℕ → ControlData = λ l. record { slot = slot; zero = 0; length = l } in
    ap made count

-- a load reads only the first bytes of the staging
prepared : (control : ControlData) (staged image : List ℕ) (sizes : Maps) (slot : ℕ) (a : AcceptedValue) → loaded_bytes control staged ≡ loaded_bytes control image → IsPrepared control staged sizes slot a → IsPrepared control image sizes slot a
prepared control staged image sizes slot a same is = record {
  control_is_right = is.control_is_right;
  slot_is = is.slot_is;
  few = is.few;
  is_program = is.is_program;
  spelled = sym same ∙ is.spelled;
  justified = is.justified;
  sizes_are = is.sizes_are;
}

wants_to_prepare : (control : ControlData) (staged image : List ℕ) (refusal : LoadRefusal) → loaded_bytes control staged ≡ loaded_bytes control image → WantsToPrepare control staged refusal → WantsToPrepare control image refusal
wants_to_prepare control staged image refusal same (of_image right is) = of_image right is
wants_to_prepare control staged image refusal same (of_verifier right p program spelled is) = of_verifier right p program (sym same ∙ spelled) is

wants : (control : ControlData) (staged image : List ℕ) (sizes : Maps) (count : ℕ) (refusal : LoadRefusal) → loaded_bytes control staged ≡ loaded_bytes control image → WantsMemory control staged sizes count refusal → WantsMemory control image sizes count refusal
wants control staged image sizes count refusal same (preparing want) = preparing (wants_to_prepare control staged image refusal same want)
wants control staged image sizes count refusal same (publishing slot a is few memory) = publishing slot a (prepared control staged image sizes slot a same is) few memory

refuses : (control : ControlData) (staged image : List ℕ) (sizes : Maps) (count : ℕ) (refusal : LoadRefusal) → loaded_bytes control staged ≡ loaded_bytes control image → IsLoadRefusal control staged sizes count refusal → IsLoadRefusal control image sizes count refusal
refuses control staged image sizes count refusal same is = elim is [
  | inl load ↦ inl (elim load [
    | inl unprepared ↦ inl (subst (λ (bytes : List ℕ). IsUnpreparedBy (control_fault control) bytes sizes refusal) same unprepared)
    | inr full ↦ inr (full.0, full.1, prepared control staged image sizes full.0 full.1 same full.2, full.3, full.4)
  ])
  | inr want ↦ inr (wants control staged image sizes count refusal same want)
]

-- what was published judges in its slot
judges : IsSetByNext → (old : List Publish) (slot : ℕ) (program : AcceptedValue) → 0 < length old → judging_program (longer_history old slot program) slot ≡ Some (program, length old)
judges next old slot program some =
    let same : eqb slot slot ≡ true = grind (arith, nat_tests) in
    next old slot program slot some ∙ ap (λ (t : Bool). cond t (Some (program, length old)) (judging_program old slot)) same

-- a load that published did so with the image
published : IsSetByNext → (slot : ℕ) (image : List ℕ) (between left : PassValue) (old new : List Publish) (j : JudgedValue) (result : Status) → 0 < length old → control_in j ≡ asked_for slot image → take (length image) between.staging.bytes ≡ image
    → HasLoaded between left old new j result → IsPublishedLoad slot image old new left.staging.load_result
published next slot image between left old new j result some asks begins has =
    let is = has.published in
    let load : IsPrepared (asked_for slot image) between.staging.bytes (sizes_of old) is.slot is.program = subst (λ (x : ControlData). IsPrepared x between.staging.bytes (sizes_of old) is.slot is.program) asks is.load.0 in
    let own : is.slot ≡ slot = load.slot_is in
    let bytes : loaded_bytes (asked_for slot image) between.staging.bytes ≡ loaded_bytes (asked_for slot image) image = begins ∙ sym (take_all (length image) image (omega arith)) in
    let there : IsPrepared (asked_for slot image) image (sizes_of old) slot is.program = subst (λ (k : ℕ). IsPrepared (asked_for slot image) image (sizes_of old) k is.program) own (prepared (asked_for slot image) between.staging.bytes image (sizes_of old) is.slot is.program bytes load) in
    let extends : new ≡ longer_history old slot is.program = is.extends ∙ ap (λ (k : ℕ). longer_history old k is.program) own in
    record {
      program = is.program;
      load = (there, is.load.1);
      extends = extends;
      judges = ap (λ (l : List Publish). judging_program l slot) extends ∙ judges next old slot is.program some;
      reported = ap (λ (h : PassValue). h.staging.load_result) has.holder_after ∙ ap published_result is.place;
    }

-- a load that was refused was so with the image
refused : (slot : ℕ) (image : List ℕ) (between left : PassValue) (old new : List Publish) (j : JudgedValue) (result : Status) → control_in j ≡ asked_for slot image → take (length image) between.staging.bytes ≡ image
    → HasRefused between left old new j result → IsRefusedAs slot image old new left.staging.load_result
refused slot image between left old new j result asks begins has =
    let bytes : loaded_bytes (asked_for slot image) between.staging.bytes ≡ loaded_bytes (asked_for slot image) image = begins ∙ sym (take_all (length image) image (omega arith)) in
    let why : IsLoadRefusal (asked_for slot image) between.staging.bytes (sizes_of old) (length old) has.refusal = subst (λ (x : ControlData). IsLoadRefusal x between.staging.bytes (sizes_of old) (length old) has.refusal) asks has.refused in
    record {
      refusal = has.refusal;
      refused = refuses (asked_for slot image) between.staging.bytes image (sizes_of old) (length old) has.refusal bytes why;
      same = has.same;
      reported = ap (λ (h : PassValue). h.staging.load_result) has.holder_after;
    }

-- what a load leaves of its port: the verdict as the load result, eight bytes, and the windows as they were
pub record HasVerdict (slot : ℕ) (image : List ℕ) (between left : PassValue) (old new : List Publish) : Type 0 where
  pub verdict : IsLoadVerdict slot image old new left.staging.load_result
  pub eight : length left.staging.load_result ≡ 8
  pub windows : left.windows ≡ between.windows

pub verdict_of_load : IsSetByNext → (slot : ℕ) (image : List ℕ) (between left : PassValue) (old new : List Publish) (j : JudgedValue) (result : Status) (c : CommandValue) → 0 < length old → length image ≤ 16384
    → command_of j.packet ≡ c → j.verdict ≡ 0 → body_line c ≡ None → c.body ≡ with_crc (control_bytes_of slot image) → take (length image) between.staging.bytes ≡ image
    → EndsAs (judged_line (command_of j.packet) j.verdict) between left old new j result → HasVerdict slot image between left old new
verdict_of_load next slot image between left old new j result c some short command pass right body begins ended =
    let line : judged_line (command_of j.packet) j.verdict ≡ None =
    ap (λ (x : CommandValue). judged_line x j.verdict) command ∙ ap (λ (v : ℕ). judged_line c v) pass
    ∙ ap (λ (x : Option Status). first_line (verdict_line (verdict_of 0)) x) right in
    let asks : control_in j ≡ asked_for slot image =
    ap (λ (x : CommandValue). control_of x.body) command ∙ ap control_of body ∙ asks_for slot image short in
    let ends : EndsAs None between left old new j result = subst (λ (x : Option Status). EndsAs x between left old new j result) line ended in
    elim ends [
      | inl has ↦ record {
        verdict = inl (published next slot image between left old new j result some asks begins has);
        eight = ap (λ (h : PassValue). length h.staging.load_result) has.holder_after;
        windows = ap (λ (h : PassValue). h.windows) has.holder_after;
      }
      | inr has ↦ record {
        verdict = inr (refused slot image between left old new j result asks begins has);
        eight = ap (λ (h : PassValue). length h.staging.load_result) has.holder_after;
        windows = ap (λ (h : PassValue). h.windows) has.holder_after;
      }
    ]
