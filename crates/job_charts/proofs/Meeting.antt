-- A rule that holds at no place.
use Rattle.std.proofs.Common.{◌≡◌, ◌<◌, ◌+◌, ℕ, List, length, refl, subst}
use Rattle.std.specs.Prelude.{◌++◌, ◌∷◌, [], Bool, MatchBool, false, nat_lt, not, true}
use Rattle.charts.specs.Meetings.{Meet, NeverMeet}
use Rattle.policy_table.specs.declared.rules.Rule.{Rule}
use Rattle.rmap.specs.Windows.{WindowsValue}
use Rattle.job_charts.specs.Missed.{ArePlaces, MeetsNone, MeetsPlace, MissesPlaces}
use Rattle.job_charts.proofs.Charted.{one_more}

-- a place at which it holds
pub met_at : (rules : List Rule) (places number : ℕ) (t : Bool) → number < places → t ≡ true
    → MatchBool t (Meet number true places rules) (NeverMeet number true places rules) → MeetsPlace rules places
met_at rules places number true below e h = record { number = number; below = below; meet = h }
met_at rules places number false below e h = absurd (cc)

never_met : (rules : List Rule) (places number : ℕ) (t : Bool) → t ≡ false
    → MatchBool t (Meet number true places rules) (NeverMeet number true places rules) → NeverMeet number true places rules
never_met rules places number true e h = absurd (cc)
never_met rules places number false e h = h

-- one place more at which it does not
pub missed_more : (rules : List Rule) (places count : ℕ) (t : Bool) → t ≡ false
    → MatchBool t (Meet count true places rules) (NeverMeet count true places rules) → MissesPlaces rules places count
    → MissesPlaces rules places (count + 1)
missed_more rules places count t e h below number within =
    one_more (λ own. NeverMeet own true places rules) count number (nat_lt number count) refl below (never_met rules places count t e h) within

-- the other way round
turned : (A B : Type 0) (t : Bool) → MatchBool t A B → MatchBool (not t) B A
turned A B true h = h
turned A B false h = h

-- whether it holds at none, by the rules with it after the places
pub none_met : (windows : WindowsValue) (rule : Rule) (places rules : List Rule) (count : ℕ) (t : Bool) → ArePlaces windows places
    → rules ≡ places ++ rule ∷ [] → count ≡ length places → MatchBool t (MeetsPlace rules count) (MissesPlaces rules count count)
    → MeetsNone windows rule (not t)
none_met windows rule places rules count t are own size h = record {
  places = places;
  are = are;
  met = turned _ _ t
      (subst (λ (rs : List Rule). MatchBool t (MeetsPlace rs (length places)) (MissesPlaces rs (length places) (length places))) own
      (subst (λ n. MatchBool t (MeetsPlace rules n) (MissesPlaces rules n n)) size h));
}
