-- A quota of N matches at most N commands. The matching draw of each has a number of its own below N: how many tickets
-- of the cell were drawn before.
use Rattle.std.specs.Prelude.{◌≢◌, ◌^◌, All}
use Rattle.std.proofs.Common.{◌≡◌, ◌<◌, ◌⊎◌, ℕ, suc, List, [], ◌∷◌, length, Option, Some, refl, sym, ap, ap₂, ◌∙◌, arith, inl, inr}
use Rattle.std.proofs.lemmas.List.Elements.{All-head, All-tail}
use Rattle.sched.specs.declared.event.Event.{Event}
use Rattle.sched.specs.Headline.{BeginsHistory}
use Rattle.sched.specs.History.{History, Then, Open, opened, port_of}
use Rattle.sched.specs.Lawful.{IsLawful}
use Rattle.sched.specs.Looking.{Node, seen_header_in, tickets}
use Rattle.quotas.specs.MatchesInHistory.{AreOtherHistories, IsMatched, QuotasHold, from_take}
use Rattle.quotas.proofs.Beginnings.{lawful_before, ordered, same_or_shorter, ticket_counts, tickets_rise, answered_tickets}
use Rattle.quotas.proofs.Deciding.{match_below}
use Rattle.quotas.proofs.Numbers.{AreBelow, AreDistinct, IsNotIn, pigeonhole}

some-is : (p q : Open) → ◌≡◌ {A = Option Open} (Some p) (Some q) → p ≡ q
some-is p q e = cc

module _ (n : Node) (h : History) (map key limit : ℕ) (lawful : IsLawful n h) (few : tickets n h map key < 2 ^ 64) where
  -- how many tickets were drawn before the draw by which a command matched
  number : (take : History) → IsMatched n h map key limit take → ℕ
  number take m = tickets n m.before map key

  number_below : (take : History) (m : IsMatched n h map key limit take) → number take m < limit
  unfolding number
  number_below take m =
      let reported = answered_tickets n m.before m.event m.outcome map key m.match.answer (lawful_before n m.within lawful) m.match.draw in
      let counted = ticket_counts n m.before m.event m.outcome map key m.match.answer m.match.draw in
      let rises = tickets_rise n map key m.within in
      let ends = m.match.ends in
      let below = match_below ends.rules (seen_header_in m.match.command.packet) ends.calls map key m.own_limit m.match.command.answers m.match.answer ends.match ends.answered in
      let small = m.small in
      omega (arith, reported, counted, rises, below, small, few)

  -- the same draw is of the same command, and a later one has a greater number
  apart_by : (a b : History) (one : IsMatched n h map key limit a) (other : IsMatched n h map key limit b) → a ≢ b
      → BeginsHistory (Then one.before one.event one.outcome) (Then other.before other.event other.outcome) → number a one ≢ number b other
  unfolding number
  apart_by a b one other apart begins same = by (same_or_shorter begins)
    where
      by : ((one.before ≡ other.before) × (one.event ≡ other.event)) ⊎ BeginsHistory (Then one.before one.event one.outcome) other.before → ⊥
      by (inl alike) =
          let both : opened one.before (port_of one.event) ≡ opened other.before (port_of other.event) = ap₂ (λ (g : History) (e : Event). opened g (port_of e)) alike.0 alike.1 in
          let command : one.match.command ≡ other.match.command = some-is _ _ (sym one.match.is_open ∙ both ∙ other.match.is_open) in
          let take : from_take (port_of one.event) one.match.command ≡ from_take (port_of other.event) other.match.command = ap₂ (λ (e : Event) (o : Open). from_take (port_of e) o) alike.1 command in
          apart (sym one.taken ∙ take ∙ other.taken)
      by (inr earlier) =
          let counted = ticket_counts n one.before one.event one.outcome map key one.match.answer one.match.draw in
          let rises = tickets_rise n map key earlier in
          omega (arith, same, counted, rises)

  numbers_apart : (a b : History) (one : IsMatched n h map key limit a) (other : IsMatched n h map key limit b) → a ≢ b → number a one ≢ number b other
  numbers_apart a b one other apart same = by (ordered one.within other.within)
    where
      by : BeginsHistory (Then one.before one.event one.outcome) (Then other.before other.event other.outcome) ⊎ BeginsHistory (Then other.before other.event other.outcome) (Then one.before one.event one.outcome) → ⊥
      by (inl begins) = apart_by a b one other apart begins same
      by (inr begins) = apart_by b a other one (λ e. apart (sym e)) begins (sym same)

  -- ---- all of them

  numbers : (takes : List History) → All (λ take. IsMatched n h map key limit take) takes → List ℕ
  numbers [] each = []
  numbers (take ∷ takes) each =
      number take (All-head (λ t. IsMatched n h map key limit t) take takes each) ∷ numbers takes (All-tail (λ t. IsMatched n h map key limit t) take takes each)

  as_many : (takes : List History) (each : All (λ take. IsMatched n h map key limit take) takes) → length (numbers takes each) ≡ length takes
  unfolding numbers
  as_many [] each = refl
  as_many (take ∷ takes) each = ap suc (as_many takes (All-tail (λ t. IsMatched n h map key limit t) take takes each))

  all_below : (takes : List History) (each : All (λ take. IsMatched n h map key limit take) takes) → AreBelow limit (numbers takes each)
  unfolding numbers
  all_below [] each = tt
  all_below (take ∷ takes) each =
      (number_below take (All-head (λ t. IsMatched n h map key limit t) take takes each), all_below takes (All-tail (λ t. IsMatched n h map key limit t) take takes each))

  not_again : (a : History) (one : IsMatched n h map key limit a) (takes : List History) (each : All (λ take. IsMatched n h map key limit take) takes)
      → All (λ other. a ≢ other) takes → IsNotIn (number a one) (numbers takes each)
  unfolding numbers
  not_again a one [] each apart = tt
  not_again a one (take ∷ takes) each apart = (
    numbers_apart a take one (All-head (λ t. IsMatched n h map key limit t) take takes each) (All-head (λ t. a ≢ t) take takes apart),
    not_again a one takes (All-tail (λ t. IsMatched n h map key limit t) take takes each) (All-tail (λ t. a ≢ t) take takes apart),
  )

  all_apart : (takes : List History) (each : All (λ take. IsMatched n h map key limit take) takes) → AreOtherHistories takes → AreDistinct (numbers takes each)
  unfolding numbers
  all_apart [] each apart = tt
  all_apart (take ∷ takes) each apart = (
    not_again take (All-head (λ t. IsMatched n h map key limit t) take takes each) takes (All-tail (λ t. IsMatched n h map key limit t) take takes each) apart.0,
    all_apart takes (All-tail (λ t. IsMatched n h map key limit t) take takes each) apart.1,
  )

pub quotas_hold : QuotasHold
quotas_hold n h map key limit takes lawful few matches =
    let all : List ℕ = numbers n h map key limit lawful few takes matches.each in
    let as_many_as = as_many n h map key limit lawful few takes matches.each in
    let below = pigeonhole limit all (all_apart n h map key limit lawful few takes matches.each matches.apart) (all_below n h map key limit lawful few takes matches.each) in
    omega (arith, as_many_as, below)
