-- Which commands the rules of a quota match at a node of one thread, whatever the verdict of such a rule is.
use Rattle.std.specs.Prelude.{◌≡◌, ◌≤◌, ◌<◌, ◌+◌, ◌^◌, ◌⊎◌, ℕ, List, []}
use Rattle.bank.specs.Records.{JournalValue, JudgedValue}
use Rattle.bver.specs.Justified.{AcceptedValue}
use Rattle.machine.specs.declared.calls.Call.{Call}
use Rattle.node_parts.specs.Passes.{PassValue}
use Rattle.node_parts.specs.Served.{IsAnswered, PartsValue, parts}
use Rattle.node_parts.specs.Steps.{IsJudgement}
use Rattle.node_parts.specs.declared.config.NodeConfig.{NodeConfig}
use Rattle.node_parts.specs.declared.served.Served.{Served}
use Rattle.node_parts.specs.declared.served.Served.TheVariants.{Stopped, Unread, Done, Window}
use Rattle.plain_cells.specs.Words.{tickets_in}
use Rattle.policy.specs.Compiled.{HasMeaning}
use Rattle.policy_table.specs.Matching.{EndsByMatch}
use Rattle.policy_table.specs.declared.rules.Rule.{Rule}
use Rattle.sched.specs.Looking.{seen_header_in}
use Rattle.single_node.specs.Nodes.{IsFreshNode, Rotates, SetsMemory, SingleNodeValue}
use Rattle.single_node.specs.Serving.{ServesPacketAt}
use Rattle.spw.specs.Cargo.{Cargo}

-- ---- what is done to a node

-- A call on a node of one thread that changes it: a packet is served, a journal is handed out, or bytes are set.
pub data NodeCall : (before after : SingleNodeValue) → Type 0 where
  serves : {before after : SingleNodeValue} (served : Served) (port : ℕ) (packet : Cargo) (reply : List ℕ)
      → ServesPacketAt served port packet before after reply → NodeCall before after
  rotates : {before after : SingleNodeValue} (number : ℕ) (fresh old : JournalValue)
      → Rotates number fresh before after old → NodeCall before after
  sets : {before after : SingleNodeValue} (number address : ℕ) (bytes : List ℕ) (fresh old : JournalValue)
      → SetsMemory number address bytes fresh before after old → NodeCall before after

-- the calls that led from one node to another, in order
pub data Way (first : SingleNodeValue) : SingleNodeValue → Type 0 where
  here : Way first first
  further : {between last : SingleNodeValue} → Way first between → NodeCall between last → Way first last

-- ---- tickets

-- the helper calls of the run that judged, if a program judged
abbrev pub calls_by : (served : Served) (p : Cargo) (old new : PartsValue) (h after : PassValue) (reply : List ℕ)
    → IsAnswered served p old new h after reply → List Call
calls_by (Stopped stop) p old new h after reply answered = []
calls_by Unread p old new h after reply answered = []
calls_by (Done result) p old new h after reply answered = answered.judgement.calls
calls_by (Window status) p old new h after reply answered = answered.judgement.calls

-- the helper calls of the run of a call, if it has one
abbrev pub helper_calls_of : {before after : SingleNodeValue} → NodeCall before after → List Call
helper_calls_of {before} {after} (serves served port packet reply s) =
    calls_by served packet (parts before.banks before.programs) (parts after.banks after.programs) s.holder s.left reply
    s.answered
helper_calls_of (rotates number fresh old s) = []
helper_calls_of (sets number address bytes fresh old s) = []

-- how many tickets of the cell were drawn on the way
abbrev pub tickets_on : {first last : SingleNodeValue} → Way first last → (map key : ℕ) → ℕ
tickets_on here map key = 0
tickets_on (further way deed) map key = tickets_on way map key + tickets_in (helper_calls_of deed) map key

-- ---- matches

-- The program that judged has the meaning of some rules. The calls of its run are a decision on the header of the
-- packet. That decision ends by the match of a rule on the cell with at most that limit.
pub record IsMatch (map key limit : ℕ) {h after : PassValue} {p : Cargo} {j : JudgedValue}
    (judgement : IsJudgement h after p j) : Type 0 where
  pub rules : List Rule
  pub meaning : HasMeaning rules judgement.program.program
  pub own_limit : ℕ
  pub small : own_limit ≤ limit
  pub match : EndsByMatch rules (seen_header_in p) judgement.calls map key own_limit

-- the same of what became of a packet
abbrev pub IsMatchBy : (map key limit : ℕ) (served : Served) (p : Cargo) (old new : PartsValue) (h after : PassValue)
    (reply : List ℕ) → IsAnswered served p old new h after reply → Type 0
IsMatchBy map key limit (Stopped stop) p old new h after reply answered = ⊥
IsMatchBy map key limit Unread p old new h after reply answered = ⊥
IsMatchBy map key limit (Done result) p old new h after reply answered = IsMatch map key limit answered.judgement
IsMatchBy map key limit (Window status) p old new h after reply answered = IsMatch map key limit answered.judgement

-- a packet was served whose command a rule on the cell with at most that limit matched
abbrev pub IsMatchOf : (map key limit : ℕ) {before after : SingleNodeValue} → NodeCall before after → Type 0
IsMatchOf map key limit {before} {after} (serves served port packet reply s) =
    IsMatchBy map key limit served packet (parts before.banks before.programs) (parts after.banks after.programs) s.holder
    s.left reply s.answered
IsMatchOf map key limit (rotates number fresh old s) = ⊥
IsMatchOf map key limit (sets number address bytes fresh old s) = ⊥

-- on the way that many calls served packets whose commands such rules matched
abbrev pub AreMatches : (map key limit : ℕ) {first last : SingleNodeValue} → Way first last → (count : ℕ) → Type 0
AreMatches map key limit here count = count ≡ 0
AreMatches map key limit (further way deed) count =
    AreMatches map key limit way count
    ⊎ ((fewer : ℕ) × (count ≡ fewer + 1) × AreMatches map key limit way fewer × IsMatchOf map key limit deed)

-- ---- the law

-- Whatever is done to a node of one thread, rules on a cell with limits of at most N match at most N commands. That is
-- since it was made, over all ports and all programs, while fewer than 2^64 tickets of the cell were drawn.
abbrev pub QuotasHoldAlone : Type 0
QuotasHoldAlone =
    (config : NodeConfig) (factory : AcceptedValue) (first last : SingleNodeValue) (way : Way first last)
    (map key limit count : ℕ) → IsFreshNode config factory first → tickets_on way map key < 2 ^ 64
    → AreMatches map key limit way count → count ≤ limit
