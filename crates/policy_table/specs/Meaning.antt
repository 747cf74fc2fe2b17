-- What a policy table means for the header of a command: the tickets that it draws, and its verdict.
use Rattle.std.specs.Prelude.{◌<◌, ◌^◌, ℕ, suc, ◌+◌, ◌-◌, Bool, true, false, ◌&&◌, ◌==◌, not, nat_le, nat_lt}
use Rattle.std.specs.Prelude.{if◌then◌else◌, List, [], ◌∷◌, slice_index, Option, Some, None}
use Rattle.machine.specs.declared.calls.Call.{Call}
use Rattle.machine.specs.declared.helpers.Helper.TheVariants.{Ticket}
use Rattle.machine.specs.Memory.{Header}
use Rattle.spw.specs.declared.packets.End.TheVariants.{Eop}
use Rattle.rmap.specs.declared.kind.Kind.{Kind}
use Rattle.rmap.specs.declared.kind.Kind.TheVariants as kinds
use Rattle.rmap.specs.Command.{CommandValue, key_of, initiator_of, extended_of, address_of, length_of, command_kind}
use Rattle.rmap.specs.Command.{increments}
use Rattle.rmap.specs.Verdict.{verdict_number}
use Rattle.rmap.specs.declared.verdict.Verdict.TheVariants.{NotAuthorised}
use Rattle.policy_table.specs.declared.rules.Quota.{Quota}
use Rattle.policy_table.specs.declared.rules.Rule.{Rule}
use Rattle.policy_table.specs.declared.rules.RuleKind.{RuleKind}
use Rattle.policy_table.specs.declared.rules.RuleKind.TheVariants.{Read, Write, Rmw, Any}

-- a header as a command without a reply address and body, so that the fields of a command are those of a header
abbrev pub fields_of : Header → CommandValue
fields_of header = record { front = header.front; reply_address = []; tail = header.tail; body = []; end = Eop }

-- whether a rule's kind agrees with what a command asks for: any agrees with all, also with what is unused
abbrev pub agrees_with_kind : RuleKind → Kind → Bool
agrees_with_kind Any kind = true
agrees_with_kind Read kinds.Read = true
agrees_with_kind Read kinds.Write = false
agrees_with_kind Read kinds.Rmw = false
agrees_with_kind Read kinds.Unused = false
agrees_with_kind Write kinds.Read = false
agrees_with_kind Write kinds.Write = true
agrees_with_kind Write kinds.Rmw = false
agrees_with_kind Write kinds.Unused = false
agrees_with_kind Rmw kinds.Read = false
agrees_with_kind Rmw kinds.Write = false
agrees_with_kind Rmw kinds.Rmw = true
agrees_with_kind Rmw kinds.Unused = false

-- whether a field agrees with the byte: any agrees with every byte
abbrev pub agrees : Option ℕ → ℕ → Bool
agrees None byte = true
agrees (Some wanted) byte = byte == wanted

-- the last address that the command names, as an unbounded number. With increment and data it is the first address, and
-- one more for each byte after the first
abbrev pub last_address_of : CommandValue → ℕ
last_address_of c =
    if increments c && not (length_of c == 0) then address_of c + length_of c - 1 else address_of c

-- whether the addresses of the command, the first and the last, are in the range
abbrev pub lies_between : (low high : ℕ) → CommandValue → Bool
lies_between low high c = nat_le low (address_of c) && nat_le (last_address_of c) high

-- whether the conditions of a rule hold for a command: kind, key, initiator, extended address and addresses
abbrev pub holds_of : Rule → CommandValue → Bool
holds_of rule c =
    agrees_with_kind rule.kind (command_kind c) && agrees rule.key (key_of c) && agrees rule.initiator (initiator_of c)
    && agrees rule.extended (extended_of c) && lies_between rule.low rule.high c

-- whether the conditions of a rule hold for a header
abbrev pub holds : Rule → Header → Bool
holds rule header = holds_of rule (fields_of header)

-- the ticket of a quota that is drawn, with its answer
abbrev pub draw : Quota → (answer : ℕ) → Call
draw quota answer = record {
  question = record { helper = Ticket; map = quota.map; key = quota.cell; argument = 0 };
  answer = answer;
}

-- a rule whose conditions hold. Without a quota it matches; with one it draws a ticket, and matches if that is below
-- the limit. Else the rest decides
abbrev pub ruled : Option Quota → (code : ℕ) → (reported : ℕ → ℕ) → (rest : List Call × ℕ) → List Call × ℕ
ruled None code reported rest = ([], code)
ruled (Some quota) code reported rest =
    if nat_lt (reported 0) quota.limit
    then (draw quota (reported 0) ∷ [], code)
    else (draw quota (reported 0) ∷ rest.0, rest.1)

-- the draws of a table on a header, each with its answer, and the number of the verdict. If no rule matches, the
-- verdict is not authorised. `told` are the answers in order
abbrev pub decision : List Rule → Header → (reported : ℕ → ℕ) → List Call × ℕ
decision [] header reported = ([], verdict_number NotAuthorised)
decision (rule ∷ rules) header reported =
    if holds rule header
    then ruled rule.quota (verdict_number rule.verdict) reported (decision rules header (λ k. reported (suc k)))
    else decision rules header reported

-- the answers are words
abbrev pub AreAnswerWords : (reported : ℕ → ℕ) → Type 0
AreAnswerWords reported = (k : ℕ) → reported k < 2 ^ 64

-- answers from a list, and zeros after them
abbrev pub answers_in_turn : List ℕ → ℕ → ℕ
answers_in_turn answers k = slice_index answers k
