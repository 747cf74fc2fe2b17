-- What laws say of the runs of tests.
use Rattle.std.specs.Prelude.{◌≡◌, ◌<◌, ◌≤◌, ◌^◌, ℕ, List, length, Option, Some, option_map}
use Rattle.spw.specs.Cargo.{Cargo}
use Rattle.rmap.specs.Command.{command_kind, command_of}
use Rattle.rmap.specs.declared.status.Status.{Status}
use Rattle.bank.specs.Records.{JudgedValue}
use Rattle.bver.specs.Justified.{AcceptedValue}
use Rattle.node_programs.specs.Laws.{IsThatOrLater}
use Rattle.node_programs.specs.Published.{judging_program, sizes_of}
use Rattle.node_programs.specs.declared.publishes.Publish.{Publish}
use Rattle.node_parts.specs.declared.config.NodeConfig.{NodeConfig}
use Rattle.node_parts.specs.declared.served.Served.{Served}
use Rattle.node_parts.specs.Laws.{SaysWhy}
use Rattle.node_parts.specs.Loaded.{HasLoaded, HasRefused, control_in}
use Rattle.node_parts.specs.Outcomes.{IsLoad, Refused}
use Rattle.node_parts.specs.Passes.{PassValue}
use Rattle.node_parts.specs.Slots.{slot_of}
use Rattle.node_parts.specs.Steps.{IsJudgement}
use Rattle.single_node.specs.Nodes.{IsFreshNode, SingleNodeValue}
use Rattle.single_node.specs.Serving.{ServesPacketAt}
use Rattle.sched.specs.Agreement.{ArePublishesOf}
use Rattle.sched.specs.History.{History, Start, history_from}
use Rattle.sched.specs.Looking.{Node, tickets}
use Rattle.sched.specs.Worlds.{IsWorldOf, WorldValue}
use Rattle.sched.specs.declared.event.Event.{Event}
use Rattle.sched.specs.declared.event.Outcome.{Outcome}
use Rattle.quotas.specs.Alone.{AreMatches, Way, tickets_on}
use Rattle.quotas.specs.MatchesInHistory.{MatchesInHistory}

-- in that history, while fewer than 2^64 tickets of a cell were drawn, rules on it with limits of at most N match at most N
-- commands
abbrev pub KeepsQuotas : Node → History → Type 0
KeepsQuotas n h =
    (map key limit : ℕ) (takes : List History) → tickets n h map key < 2 ^ 64 → MatchesInHistory n h map key limit takes
    → length takes ≤ limit

-- the world is that of a schedule, and quotas were kept in it
pub record HasScheduleRun (n : Node) (events : List Event) (outcomes : List Outcome) (world : WorldValue) : Type 0 where
  pub world_is : IsWorldOf n (history_from Start events outcomes) world
  pub quotas : KeepsQuotas n (history_from Start events outcomes)

-- the generation of what is shown
abbrev pub generation_shown : AcceptedValue × ℕ → ℕ
generation_shown shown = shown.1

-- by any list of what that history published a program of that generation judges in the slot
abbrev pub IsGenerationIn : Node → History → (slot generation : ℕ) → Type 0
IsGenerationIn n h slot generation =
    (publishes : List Publish) → ArePublishesOf n h publishes
    → option_map generation_shown (judging_program publishes slot) ≡ Some generation

-- the node was made so, and came to this by what was done to it since
pub record EndedSo (config : NodeConfig) (factory : AcceptedValue) (node : SingleNodeValue) : Type 0 where
  pub first : SingleNodeValue
  pub fresh : IsFreshNode config factory first
  pub way : Way first node

-- the same, and quotas were kept
pub record KeepsQuotasAlone (config : NodeConfig) (factory : AcceptedValue) (node : SingleNodeValue) : Type 0 where
  pub received : EndedSo config factory node
  pub quotas : (map key limit count : ℕ) → tickets_on received.way map key < 2 ^ 64 → AreMatches map key limit received.way count
      → count ≤ limit

-- the packet was served; if it was a load that was refused, and memory was not, the refusal says why
pub record ServesRefusal (served : Served) (port : ℕ) (packet : Cargo) (before after : SingleNodeValue) (reply : List ℕ) :
    Type 0 where
  pub serves : ServesPacketAt served port packet before after reply
  pub reports : (holder left : PassValue) (j : JudgedValue) (status : Status)
      (refused : HasRefused holder left before.programs after.programs j status)
      → IsLoad (control_in j) holder.staging.bytes (sizes_of before.programs) (length before.programs)
      (Refused refused.refusal)
      → SaysWhy (control_in j) holder.staging.bytes (sizes_of before.programs) (length before.programs) refused.refusal

-- after another packet at the port this one was served. If the first one was a load that published, and this one is
-- judged in that slot, then that program judges it, or a later one
pub record ServesLoad (served : Served) (port : ℕ) (packet : Cargo) (before after : SingleNodeValue) (reply : List ℕ) :
    Type 0 where
  pub between : SingleNodeValue
  pub serves : ServesPacketAt served port packet between after reply
  pub taken : (old left : PassValue) (j next : JudgedValue) (status : Status)
      (loaded : HasLoaded old serves.holder before.programs between.programs j status)
      (judgement : IsJudgement serves.holder left packet next)
      → slot_of (command_kind (command_of packet)) next.place ≡ loaded.published.slot
      → IsThatOrLater loaded.published.program loaded.generation (judgement.program, next.generation)
