-- Facts that hold at some port, or at none.
use Rattle.std.proofs.Common.{◌≡◌, ◌<◌, ◌≤◌, ◌+◌, ℕ, List, [], ◌∷◌, arith, length, subst, sym, take}
use Rattle.std.specs.Prelude.{All, Bool, MatchBool, false, get_or, true}
use Rattle.std.proofs.lemmas.List.{take_all}
use Rattle.std.proofs.lemmas.List.Elements.{All-more}
use Rattle.chart_lines.specs.AskedTables.{AskedValue}
use Rattle.policy_table.specs.Policies.{PolicyValue}
use Rattle.policy_table.specs.declared.port_rules.PortRule.{PortRule}
use Rattle.chart_lines.specs.Never.{AreNotes, AreTables, IsFate, IsFateAt, IsNoFate, IsNotedAt, IsNowhere, IsSomewhere}
use Rattle.chart_lines.specs.Reporting.{PrintsFirst}
use Rattle.chart_lines.specs.declared.never.Note.{Note}
use Rattle.chart_lines.specs.declared.never.Fate.{Fate}

pub somewhere : (fate : Fate) (tables : List AskedValue) (line place : ℕ) (t : Bool) → place < length tables → t ≡ true → IsFateAt fate tables place line t → IsSomewhere fate tables line
somewhere fate [] line place t lt e h = absurd (omega (arith, lt))
somewhere fate (a ∷ others) line place true lt e h = record { place = place; there = lt; is = h }
somewhere fate (a ∷ others) line place false lt e h = absurd (cc)

pub nowhere_more : (fate : Fate) (tables : List AskedValue) (line place : ℕ) (t : Bool) → place < length tables → t ≡ false → IsFateAt fate tables place line t
    → All (λ at. IsNoFate fate at line) (take place tables) → All (λ at. IsNoFate fate at line) (take (place + 1) tables)
nowhere_more fate [] line place t lt e h known = absurd (omega (arith, lt))
nowhere_more fate (a ∷ others) line place true lt e h known = absurd (cc)
nowhere_more fate (a ∷ others) line place false lt e h known = All-more (λ at. IsNoFate fate at line) (a ∷ others) place a lt known (h a)

pub nowhere : (fate : Fate) (tables : List AskedValue) (line place : ℕ) → length tables ≤ place → All (λ at. IsNoFate fate at line) (take place tables) → IsNowhere fate tables line
nowhere fate tables line place end known = subst (λ (own : List AskedValue). All (λ at. IsNoFate fate at line) own) (take_all place tables end) known

-- a table of a place, by its value
pub fate_at : (fate : Fate) (tables : List AskedValue) (line place : ℕ) (own : AskedValue) (t : Bool) → ((d : AskedValue) → get_or tables place d ≡ own) → MatchBool t (IsFate fate own line) (IsNoFate fate own line)
    → IsFateAt fate tables place line t
fate_at fate tables line place own true f h d = subst (λ (a : AskedValue). IsFate fate a line) (sym (f d)) h
fate_at fate tables line place own false f h d = subst (λ (a : AskedValue). IsNoFate fate a line) (sym (f d)) h

-- the notes of the rules of a table, by the slices that were lent
pub noted : (policy : PolicyValue) (tables slice : List AskedValue) (rules : List PortRule) (notes : List Note) → AreTables policy 32 tables → slice ≡ tables → rules ≡ policy.rules
    → PrintsFirst (IsNotedAt slice rules) (length rules) [] notes → AreNotes policy notes
noted policy tables slice rules notes are same own reported = record {
  tables = tables;
  are_tables = are;
  noted = subst (λ (rs : List PortRule). PrintsFirst (IsNotedAt tables rs) (length rs) [] notes) own
      (subst (λ (ts : List AskedValue). PrintsFirst (IsNotedAt ts rules) (length rules) [] notes) same reported);
}
