-- What becomes of a command to the boot window that a node of one thread lets pass.
use Rattle.std.proofs.Common.{◌≡◌, ◌<◌, ℕ, List, [], ◌∷◌, length, set, Some, None, sym, ap, subst, ◌∙◌, arith}
use Rattle.std.specs.Prelude.{slice_get}
use Rattle.std.proofs.lemmas.Option.{none-some, same_Some}
use Rattle.spw.specs.Cargo.{Cargo}
use Rattle.rmap.specs.declared.kind.Kind.{Kind}
use Rattle.rmap.specs.declared.places.Place.{Place}
use Rattle.rmap.specs.declared.places.Place.TheVariants.{Bank, Staging, LoadResult, Control}
use Rattle.rmap.specs.declared.status.Status.{Status}
use Rattle.rmap.specs.Command.{CommandValue, command_of, discard_of}
use Rattle.rmap.specs.Checks.{header_line, header_status}
use Rattle.rmap.specs.Windows.{WindowsValue, place_of}
use Rattle.std.specs.Option.{option_map}
use Rattle.bank.specs.Records.{JudgedValue}
use Rattle.bver.specs.Justified.{AcceptedValue}
use Rattle.node_programs.specs.declared.publishes.Publish.{Publish}
use Rattle.node_programs.specs.Published.{judging_program}
use Rattle.node_parts.specs.declared.served.Served.{Served}
use Rattle.node_parts.specs.declared.served.Served.TheVariants.{Stopped, Unread, Done, Window}
use Rattle.node_parts.specs.declared.stop.Stop.{Stop}
use Rattle.node_parts.specs.declared.stop.Stop.TheVariants.{Discarded as NoCommand, Answered as Fault}
use Rattle.node_parts.specs.Passes.{PassValue}
use Rattle.node_parts.specs.Served.{EndsAtWindow, IsAnswered, parts}
use Rattle.node_parts.specs.Steps.{IsStopped}
use Rattle.single_node.specs.Nodes.{SingleNodeValue}
use Rattle.single_node.specs.Serving.{IsByLast, IsServedDetail}
use Rattle.loading.specs.Served.{LetsPass}
use Rattle.loading.proofs.Commands.{IsTaken}

-- the place is in the boot window
abbrev pub IsWindow : Place → Type 0
IsWindow (Bank k) = ⊥
IsWindow Staging = Unit {0}
IsWindow LoadResult = Unit {0}
IsWindow Control = Unit {0}

-- the command was judged with verdict 0 and ended at that place of the boot window, which left the port so
pub record EndsWell (place : Place) (c : CommandValue) (port : ℕ) (h left : PassValue) (before after : SingleNodeValue) (reply : List ℕ) : Type 0 where
  pub between : PassValue
  pub judged : JudgedValue
  pub status : Status
  pub banks : after.banks ≡ before.banks
  pub windows : between.windows ≡ h.windows
  pub staging : between.staging ≡ h.staging
  pub some : 0 < length before.programs
  pub command : command_of judged.packet ≡ c
  pub verdict : judged.verdict ≡ 0
  pub place_is : judged.place ≡ place
  pub ended : EndsAtWindow place between left before.programs after.programs judged status reply

-- a history in which a program judges has one
some_judge : (history : List Publish) (slot : ℕ) (x : AcceptedValue × ℕ) → judging_program history slot ≡ Some x → 0 < length history
some_judge [] slot x is = absurd (none-some x is)
some_judge (f ∷ ps) slot x is = omega arith

-- no check of the header stops a command that is taken
unstopped : (stop : Stop) (p : Cargo) (w : WindowsValue) (reply : List ℕ) → discard_of p.bytes ≡ None → header_line (command_of p) w ≡ None → IsStopped stop p w reply → ⊥
unstopped (NoCommand d) p w reply kept allowed is = none-some d (sym kept ∙ is.0)
unstopped (Fault status) p w reply kept allowed is = none-some status (sym allowed ∙ is.0.stopped)

-- how the packet of a command to the boot window ends if it passes
ends_well : (served : Served) (g v : ℕ) (p : Cargo) (port : ℕ) (before after : SingleNodeValue) (h left : PassValue) (reply : List ℕ) (c : CommandValue) (kind : Kind) (place : Place) (address count : ℕ)
    → IsTaken h.windows p c kind place address count → IsWindow place
    → (answered : IsAnswered served p (parts before.banks before.programs) (parts after.banks after.programs) h left reply)
    → IsByLast served p (parts before.banks before.programs) (parts after.banks after.programs) h left reply answered
    → IsServedDetail g v served p (parts before.banks before.programs) (parts after.banks after.programs) h left reply answered
    → v ≡ 0 → EndsWell place c port h left before after reply
ends_well (Stopped stop) g v p port before after h left reply c kind place address count is window answered last reported pass =
    let line : header_line (command_of p) h.windows ≡ None = ap (λ (x : CommandValue). header_line x h.windows) is.command ∙ ap (option_map header_status) is.allowed in
    absurd (unstopped stop p h.windows reply is.kept line answered.0)
ends_well Unread g v p port before after h left reply c kind place address count is window answered last reported pass = absurd reported
ends_well (Done result) g v p port before after h left reply c kind place address count is window answered last reported pass =
    let lies : place_of c h.windows ≡ Some answered.judged.place = subst (λ (x : CommandValue). place_of x h.windows ≡ Some answered.judged.place) is.command answered.judgement.judged_for.placed.lies in
    let same : place ≡ Bank answered.number = same_Some place answered.judged.place (sym is.lies ∙ lies) ∙ answered.place in
    absurd (subst IsWindow same window)
ends_well (Window status) g v p port before after h left reply c kind place address count is window answered last reported pass =
    let judgement = answered.judgement in
    let lies : place_of c h.windows ≡ Some answered.judged.place = subst (λ (x : CommandValue). place_of x h.windows ≡ Some answered.judged.place) is.command judgement.judged_for.placed.lies in
    let same : answered.judged.place ≡ place = same_Some answered.judged.place place (sym lies ∙ is.lies) in
    record {
      between = answered.between;
      judged = answered.judged;
      status = status;
      banks = answered.banks;
      windows = ap (λ (x : PassValue). x.windows) judgement.asked;
      staging = ap (λ (x : PassValue). x.staging) judgement.asked;
      some = subst (λ (l : List Publish). 0 < length l) last.saw (some_judge judgement.seen _ (judgement.program, answered.judged.generation) judgement.taken.shown);
      command = ap command_of judgement.judged_for.packet ∙ is.command;
      verdict = sym reported.1 ∙ pass;
      place_is = same;
      ended = subst (λ (x : Place). EndsAtWindow x answered.between left before.programs after.programs answered.judged status reply) same answered.ended;
    }

-- a packet that is taken and passes, with what it leaves of its port
pub record IsPassed (place : Place) (c : CommandValue) (port : ℕ) (h : PassValue) (before after : SingleNodeValue) (reply : List ℕ) : Type 0 where
  pub left : PassValue
  pub passes : after.passes ≡ set before.passes port left
  pub ends : EndsWell place c port h left before after reply

pub passed : (p : Cargo) (port : ℕ) (before after : SingleNodeValue) (h : PassValue) (reply : List ℕ) (c : CommandValue) (kind : Kind) (place : Place) (address count : ℕ)
    → slice_get before.passes port ≡ Some h → IsTaken h.windows p c kind place address count → IsWindow place
    → LetsPass port p before after reply → IsPassed place c port h before after reply
passed p port before after h reply c kind place address count at is window lets =
    let serves = lets.serves.serves in
    let same : serves.holder ≡ h = same_Some serves.holder h (sym serves.own ∙ at) in
    let taken : IsTaken serves.holder.windows p c kind place address count = subst (λ (x : PassValue). IsTaken x.windows p c kind place address count) (sym same) is in
    let ends = ends_well lets.reported.served lets.reported.generation lets.reported.verdict p port before after serves.holder serves.left reply c kind place address count taken window serves.answered serves.by_last lets.serves.reports lets.pass in
    record {
      left = serves.left;
      passes = serves.others;
      ends = subst (λ (x : PassValue). EndsWell place c port x serves.left before after reply) same ends;
    }
