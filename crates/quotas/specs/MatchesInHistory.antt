-- Which commands the rules of a quota match in a history of a node, whatever the verdict of such a rule is.
use Rattle.std.specs.Prelude.{◌≡◌, ◌≢◌, ◌≤◌, ◌<◌, ◌^◌, ℕ, true, List, [], ◌∷◌, ◌++◌, length, Option, Some, All}
use Rattle.machine.specs.declared.calls.Call.{Call}
use Rattle.policy.specs.Compiled.{HasMeaning}
use Rattle.policy_table.specs.Matching.{EndsByMatch, matching_quota}
use Rattle.policy_table.specs.Meaning.{answers_in_turn}
use Rattle.policy_table.specs.declared.rules.Quota.{Quota}
use Rattle.policy_table.specs.declared.rules.Rule.{Rule}
use Rattle.rmap.specs.declared.status.Status.{Status}
use Rattle.sched.specs.declared.event.Event.{Event}
use Rattle.sched.specs.declared.event.Event.TheVariants.{Take}
use Rattle.sched.specs.declared.event.Outcome.{Outcome}
use Rattle.sched.specs.declared.event.Outcome.TheVariants.{Done, Taken, Told}
use Rattle.sched.specs.Headline.{BeginsHistory, HasBytes, IsNode}
use Rattle.sched.specs.History.{History, Then, Open, port_of, opened}
use Rattle.sched.specs.Lawful.{IsLawful}
use Rattle.sched.specs.Looking.{Node, draws, seen_header_in, program_of, tickets, turn_at}
use Rattle.sched.specs.Turns.{answers_of_calls}

-- after the history the event draws a ticket of the cell, and gets that answer
pub record DrawsTicket (n : Node) (h : History) (event : Event) (outcome : Outcome) (map key answer : ℕ) : Type 0 where
  pub asked : draws (turn_at n h (port_of event)) event map key ≡ true
  pub reported : outcome ≡ Told answer

-- With that answer the calls that a program made since its command was taken are a decision. That decision ends by the
-- match of a rule with this quota. The program has the meaning of some rules.
pub record EndsWith (n : Node) (o : Open) (map key limit answer : ℕ) : Type 0 where
  pub rules : List Rule
  pub meaning : HasMeaning rules (program_of n o)
  pub calls : List Call
  pub answered : answers_of_calls calls ≡ o.answers ++ answer ∷ []
  pub match : EndsByMatch rules (seen_header_in o.packet) calls map key limit

-- After the history the event is a draw of the cell by which a rule with this quota matches. The command is the one
-- which is open at its port.
pub record IsMatchAt (n : Node) (h : History) (event : Event) (outcome : Outcome) (map key limit : ℕ) : Type 0 where
  pub answer : ℕ
  pub draw : DrawsTicket n h event outcome map key answer
  pub command : Open
  pub is_open : opened h (port_of event) ≡ Some command
  pub ends : EndsWith n command map key limit answer

-- the history that ends with the Take of an open command of the port
abbrev pub from_take : (port : ℕ) → Open → History
from_take port o = Then o.before (Take port o.packet) (Taken o.generation)

-- A command of the history, by the place of its Take. One of its draws there is a match of a rule on the cell with at
-- most that limit.
pub record IsMatched (n : Node) (h : History) (map key limit : ℕ) (take : History) : Type 0 where
  pub before : History
  pub event : Event
  pub outcome : Outcome
  pub within : BeginsHistory (Then before event outcome) h
  pub own_limit : ℕ
  pub small : own_limit ≤ limit
  pub match : IsMatchAt n before event outcome map key own_limit
  pub taken : from_take (port_of event) match.command ≡ take

-- each history of a list is another one
abbrev pub AreOtherHistories : List History → Type 0
AreOtherHistories [] = Unit {0}
AreOtherHistories (h ∷ hs) = All (λ other. h ≢ other) hs × AreOtherHistories hs

-- some commands of the history, each once, that rules on the cell with at most that limit match
pub record MatchesInHistory (n : Node) (h : History) (map key limit : ℕ) (takes : List History) : Type 0 where
  pub apart : AreOtherHistories takes
  pub each : All (λ take. IsMatched n h map key limit take) takes

-- ---- the law

-- In every lawful history, at most as many commands match by rules on a cell as the greatest of their limits says. That
-- is over all ports and all programs, while fewer than 2^64 tickets of the cell were drawn.
abbrev pub QuotasHold : Type 0
QuotasHold =
    (n : Node) (h : History) (map key limit : ℕ) (takes : List History) → IsLawful n h → tickets n h map key < 2 ^ 64
    → MatchesInHistory n h map key limit takes → length takes ≤ limit

-- Let the program of a done command have the meaning of rules. If their decision on its header and answers ends by the
-- match of a quota's rule, the command matched in the history by that quota.
abbrev pub MatchesAreCounted : Type 0
MatchesAreCounted =
    (n : Node) (h : History) (event : Event) (status : Status) (reply : List ℕ) (loaded : Option (List ℕ)) (o : Open)
    (rules : List Rule) (quota : Quota)
    → IsNode n → HasBytes h → IsLawful n (Then h event (Done status reply loaded)) → opened h (port_of event) ≡ Some o
    → HasMeaning rules (program_of n o) → matching_quota rules (seen_header_in o.packet) (answers_in_turn o.answers) ≡ Some quota
    → IsMatched n h quota.map quota.cell quota.limit (from_take (port_of event) o)
