-- Beginnings of a history. Of two beginnings of one history one begins the other, and tickets only rise.
use Rattle.std.specs.Prelude.{◌&&◌, ◌==◌, if◌then◌else◌, ◌%◌, ◌^◌}
use Rattle.std.proofs.Common.{◌≡◌, ◌<◌, ◌≤◌, ◌+◌, ◌⊎◌, ℕ, Bool, true, false, Option, Some, None, refl, sym, ap, ap₂, ◌∙◌, arith, inl, inr}
use Rattle.std.proofs.lemmas.Bool.{and_from, and_parts, cases_lt, eqb-true}
use Rattle.machine.specs.declared.helpers.Helper.TheVariants as helpers
use Rattle.sched.specs.declared.event.Event.{Event}
use Rattle.sched.specs.declared.event.Event.TheVariants.{Take, Count, Ticket, Peak, Effect, Publish}
use Rattle.sched.specs.declared.event.Outcome.{Outcome}
use Rattle.sched.specs.declared.event.Outcome.TheVariants.{Told}
use Rattle.sched.specs.Headline.{BeginsHistory, whole, longer}
use Rattle.sched.specs.History.{History, Then, port_of}
use Rattle.sched.specs.Lawful.{IsLawful, IsAnswerOf}
use Rattle.sched.specs.Looking.{Node, argument_asked, cell_asked, draws, is_cell_of_node, is_answer, tickets, turn_at}
use Rattle.quotas.specs.MatchesInHistory.{DrawsTicket}

pub ordered : {a b h : History} → BeginsHistory a h → BeginsHistory b h → BeginsHistory a b ⊎ BeginsHistory b a
ordered whole y = inr y
ordered (longer x) whole = inl (longer x)
ordered (longer x) (longer y) = ordered x y

-- one that begins the other is it, or begins what is before its last event
pub same_or_shorter : {a b : History} {event other : Event} {outcome end : Outcome} → BeginsHistory (Then a event outcome) (Then b other end) → ((a ≡ b) × (event ≡ other)) ⊎ BeginsHistory (Then a event outcome) b
same_or_shorter whole = inl (refl, refl)
same_or_shorter (longer x) = inr x

pub lawful_before : (n : Node) {a h : History} → BeginsHistory a h → IsLawful n h → IsLawful n a
lawful_before n whole lawful = lawful
lawful_before n (longer x) lawful = lawful_before n x (record { except_answers = lawful.except_answers.0; reported = lawful.reported.0 })

no_less : (t : Bool) (k : ℕ) → k ≤ (if t then k + 1 else k)
no_less true k = omega arith
no_less false k = omega arith

pub tickets_rise : (n : Node) (map key : ℕ) {a h : History} → BeginsHistory a h → tickets n a map key ≤ tickets n h map key
tickets_rise n map key whole = omega arith
tickets_rise n map key (longer {h = h} {event = event} {outcome = outcome} x) =
    let before = tickets_rise n map key x in
    let last = no_less (is_answer outcome && draws (turn_at n h (port_of event)) event map key) (tickets n h map key) in
    omega (arith, before, last)

pub ticket_counts : (n : Node) (h : History) (event : Event) (outcome : Outcome) (map key answer : ℕ) → DrawsTicket n h event outcome map key answer
    → tickets n (Then h event outcome) map key ≡ tickets n h map key + 1
ticket_counts n h event outcome map key answer draw =
    let drawn = and_from (is_answer outcome) (draws (turn_at n h (port_of event)) event map key) (ap is_answer draw.reported) draw.asked in
    ap (λ (t : Bool). if t then tickets n h map key + 1 else tickets n h map key) drawn

-- ---- what a draw is told

answered_there : (n : Node) (h : History) (map key argument : ℕ) (cell : Option (ℕ × ℕ)) (outcome : Outcome) → is_cell_of_node cell map key ≡ true → IsAnswerOf n h helpers.Ticket argument cell outcome → outcome ≡ Told (tickets n h map key % 2 ^ 64)
answered_there n h map key argument None outcome is reported = absurd cc
answered_there n h map key argument (Some cell) outcome is reported =
    let parts = and_parts (cell.0 == map) (cell.1 == key) is in
    reported ∙ ap₂ (λ (m k : ℕ). Told (tickets n h m k % 2 ^ 64)) (eqb-true _ _ parts.0) (eqb-true _ _ parts.1)

reported-is : (a b : ℕ) → Told a ≡ Told b → a ≡ b
reported-is a b e = cc

pub answered_tickets : (n : Node) (h : History) (event : Event) (outcome : Outcome) (map key answer : ℕ) → IsLawful n (Then h event outcome) → DrawsTicket n h event outcome map key answer
    → answer ≡ tickets n h map key % 2 ^ 64
answered_tickets n h (Take port packet) outcome map key answer lawful draw = let no_draw = draw.asked in cc
answered_tickets n h (Count port) outcome map key answer lawful draw = let no_draw = draw.asked in cc
answered_tickets n h (Peak port) outcome map key answer lawful draw = let no_draw = draw.asked in cc
answered_tickets n h (Effect port) outcome map key answer lawful draw = let no_draw = draw.asked in cc
answered_tickets n h (Publish port) outcome map key answer lawful draw = let no_draw = draw.asked in cc
answered_tickets n h (Ticket port) outcome map key answer lawful draw = by (cases_lt port n.ports)
  where
    by : (port < n.ports) ⊎ (n.ports ≤ port) → answer ≡ tickets n h map key % 2 ^ 64
    by (inl there) = reported-is _ _ (sym draw.reported ∙ answered_there n h map key (argument_asked (turn_at n h port)) (cell_asked helpers.Ticket (turn_at n h port)) outcome draw.asked (lawful.reported.1 there))
    by (inr nowhere) = let refused = lawful.except_answers.1.nowhere nowhere in let reported = draw.reported in cc
