-- Rows that hold at more ports, and rows more.
use Rattle.std.proofs.Common.{◌≡◌, ◌≢◌, ◌∙◌, ◌<◌, ◌≤◌, ◌+◌, ◌++◌, inl, inr, ◌∷◌, [], ℕ, suc, List, Option, ap, arith, length, refl, subst, sym, take, drop, zero}
use Rattle.std.specs.Prelude.{All, Bool, MatchBool, MatchOption, false, get_or, slice_set, true}
use Rattle.std.proofs.lemmas.List.{take-append-drop, take_all, take_more}
use Rattle.std.proofs.lemmas.List.Elements.{All-append, All-more}
use Rattle.differences.specs.declared.decision_paths.AskedRule.{AskedRule}
use Rattle.policy_table.specs.declared.rules.Quota.{Quota}
use Rattle.policy_table.specs.declared.rules.Rule.{Rule}
use Rattle.policy_table.specs.declared.rules.RuleKind.{RuleKind}
use Rattle.rmap.specs.declared.verdict.Verdict.{Verdict}
use Rattle.chart_lines.specs.Rows.{AddsRow, EndSame, RowValue, SaysAt, WantSame, RowContentValue, row_of, reported}

-- what is known of rows after the search for one that says it
abbrev pub IsPlaced : RowContentValue → List RowValue → Option ℕ → Type 0
IsPlaced said rows found =
    MatchOption found (All (λ (row : RowValue). row.reported ≢ said) rows) (λ place. (place < length rows) × ((d : RowValue) → (get_or rows place d).reported ≡ said))

-- the row of that place got the ports
pub joined : (ports : List ℕ) (said : RowContentValue) (slice before after : List RowValue) (place : ℕ) → slice ≡ before → (place < length slice) × ((d : RowValue) → (get_or slice place d).reported ≡ said)
    → ((d : RowValue) → after ≡ slice_set before place (row_of ((get_or before place d).ports ++ ports) (get_or before place d).reported)) → AddsRow ports said before after
joined ports said slice before after place same found is =
    let there : (place < length before) × ((d : RowValue) → (get_or before place d).reported ≡ said) =
    subst (λ (rows : List RowValue). (place < length rows) × ((d : RowValue) → (get_or rows place d).reported ≡ said)) same found in
    inl (record {
      place = place;
      there = there.0;
      same = there.1;
      is = λ d. is d ∙ ap (λ (t : RowContentValue). slice_set before place (row_of ((get_or before place d).ports ++ ports) t)) (there.1 d);
    })

-- one row more was put after all
pub added : (ports : List ℕ) (said : RowContentValue) (slice before after : List RowValue) → slice ≡ before → All (λ (row : RowValue). row.reported ≢ said) slice
    → after ≡ before ++ row_of ports said ∷ [] → AddsRow ports said before after
added ports said slice before after same apart is =
    inr (subst (λ (rows : List RowValue). All (λ (row : RowValue). row.reported ≢ said) rows) same apart, is)

-- the row of that place, of the first `from`, got the ports
pub joined_first : (ports : List ℕ) (said : RowContentValue) (from : ℕ) (slice before after : List RowValue) (place : ℕ) → slice ≡ take from before → from ≤ length before → (place < length slice) × ((d : RowValue) → (get_or slice place d).reported ≡ said)
    → ((d : RowValue) → after ≡ slice_set before place (row_of ((get_or before place d).ports ++ ports) (get_or before place d).reported)) → AddsRow ports said before after
joined_first ports said from slice before after place cut within found is =
    let here : (place < length (take from before)) × ((d : RowValue) → (get_or (take from before) place d).reported ≡ said) =
    subst (λ (rows : List RowValue). (place < length rows) × ((d : RowValue) → (get_or rows place d).reported ≡ said)) cut found in
    let there : (place < length before) × ((d : RowValue) → (get_or before place d).reported ≡ said) = first_at from before place said here in
    joined ports said before before after place refl there is
  where
    first_at : (n : ℕ) (rows : List RowValue) (place : ℕ) (said : RowContentValue) → (place < length (take n rows)) × ((d : RowValue) → (get_or (take n rows) place d).reported ≡ said) → (place < length rows) × ((d : RowValue) → (get_or rows place d).reported ≡ said)
    first_at zero rows place said h = absurd (omega (arith, h.0))
    first_at (suc n) [] place said h = absurd (omega (arith, h.0))
    first_at (suc n) (row ∷ rows) zero said h = (omega arith, λ d. h.1 d)
    first_at (suc n) (row ∷ rows) (suc place) said h = let rest = first_at n rows place said (omega (arith, h.0), h.1) in (omega (arith, rest.0), rest.1)

-- none of the first rows says it, and none of the others
pub added_first : (ports : List ℕ) (said : RowContentValue) (from : ℕ) (slice before after : List RowValue) → slice ≡ take from before → All (λ (row : RowValue). row.reported ≢ said) slice → All (λ (row : RowValue). row.reported ≢ said) (drop from before)
    → after ≡ before ++ row_of ports said ∷ [] → AddsRow ports said before after
added_first ports said from slice before after cut apart others is =
    let first : All (λ (row : RowValue). row.reported ≢ said) (take from before) = subst (λ (rows : List RowValue). All (λ (row : RowValue). row.reported ≢ said) rows) cut apart in
    let whole : All (λ (row : RowValue). row.reported ≢ said) before = subst (λ (rows : List RowValue). All (λ (row : RowValue). row.reported ≢ said) rows) (take-append-drop from before) (All-append (λ (row : RowValue). row.reported ≢ said) (take from before) (drop from before) first others) in
    added ports said before before after refl whole is

-- ---- what rows say

-- two courses that are the same up to a place, and there
pub same_more : (one other : List AskedRule) (place : ℕ) (d : AskedRule) → place < length one → place < length other → take place one ≡ take place other → get_or one place d ≡ get_or other place d
    → take (place + 1) one ≡ take (place + 1) other
same_more one other place d lt other_lt before here =
    take_more one place d lt ∙ ap (λ (xs : List AskedRule). xs ++ get_or one place d ∷ []) before ∙ ap (λ (x : AskedRule). take place other ++ x ∷ []) here ∙ sym (take_more other place d other_lt)

-- two courses of one length that are the same up to their end
pub same_whole : (one other : List AskedRule) (place : ℕ) → length one ≡ length other → length one ≤ place → take place one ≡ take place other → one ≡ other
same_whole one other place many end known =
    sym (take_all place one end) ∙ known ∙ take_all place other (omega (arith, many, end))

-- courses that are not: of two lengths, or apart at a place
pub other_length : (one other : List AskedRule) → (length one ≡ length other → ⊥) → one ≢ other
other_length one other apart same = apart (ap (λ (xs : List AskedRule). length xs) same)

-- the steps of a place, by their values
pub same_at : (one other : List AskedRule) (place : ℕ) (x y : AskedRule) (t : Bool) → ((d : AskedRule) → get_or one place d ≡ x) → ((d : AskedRule) → get_or other place d ≡ y) → MatchBool t (x ≡ y) (x ≢ y)
    → (d : AskedRule) → MatchBool t (get_or one place d ≡ get_or other place d) (get_or one place d ≢ get_or other place d)
same_at one other place x y true f g h d = f d ∙ h ∙ sym (g d)
same_at one other place x y false f g h d = λ e. h (sym (f d) ∙ e ∙ g d)

-- whether the steps of a place are the same
abbrev pub AreSameAt : (one other : List AskedRule) (place : ℕ) (t : Bool) → Type 0
AreSameAt one other place t =
    (d : AskedRule) → MatchBool t (get_or one place d ≡ get_or other place d) (get_or one place d ≢ get_or other place d)

pub other_there : (one other : List AskedRule) (place : ℕ) (t : Bool) → place < length one → t ≡ false → AreSameAt one other place t → one ≢ other
other_there [] other place t lt e h = absurd (omega (arith, lt))
other_there (x ∷ xs) other place true lt e h = absurd (cc)
other_there (x ∷ xs) other place false lt e h = λ same. h x (ap (λ (ys : List AskedRule). get_or ys place x) same)

pub same_further : (one other : List AskedRule) (place : ℕ) (t : Bool) → place < length one → length one ≡ length other → t ≡ true → AreSameAt one other place t → take place one ≡ take place other
    → take (place + 1) one ≡ take (place + 1) other
same_further [] other place t lt many e h before = absurd (omega (arith, lt))
same_further (x ∷ xs) other place true lt many e h before = same_more (x ∷ xs) other place x lt (omega (arith, lt, many)) before (h x)
same_further (x ∷ xs) other place false lt many e h before = absurd (cc)

pub same_reported : (one other : RowContentValue) → one.region ≡ other.region → one.rest ≡ other.rest → one.decision_path ≡ other.decision_path → one.new ≡ other.new → one.change ≡ other.change → one ≡ other
same_reported one other region rest decision_path new change =
    ap (λ r. reported r one.rest one.decision_path one.new one.change) region ∙ ap (λ r. reported other.region r one.decision_path one.new one.change) rest
    ∙ ap (λ steps. reported other.region other.rest steps one.new one.change) decision_path ∙ ap (λ steps. reported other.region other.rest other.decision_path steps one.change) new
    ∙ ap (λ c. reported other.region other.rest other.decision_path other.new c) change

-- two rows whose other parts are the same, by the last
pub by_last : (t : Bool) (one other : RowContentValue) (x y : List AskedRule) → one.region ≡ other.region → one.rest ≡ other.rest → one.decision_path ≡ other.decision_path → one.change ≡ other.change → x ≡ one.new → y ≡ other.new
    → MatchBool t (x ≡ y) (x ≢ y) → MatchBool t (one ≡ other) (one ≢ other)
by_last true one other x y region rest decision_path change f g h = same_reported one other region rest decision_path (sym f ∙ h ∙ g) change
by_last false one other x y region rest decision_path change f g h = λ e. h (f ∙ ap (λ (t : RowContentValue). t.new) e ∙ sym g)

-- ---- rows that say it

pub said_at : (rows : List RowValue) (place : ℕ) (said : RowContentValue) (row : RowValue) (own : RowContentValue) (t : Bool) → ((d : RowValue) → get_or rows place d ≡ row) → own ≡ row.reported
    → MatchBool t (own ≡ said) (own ≢ said) → SaysAt rows place said t
said_at rows place said row own true f g h d = ap (λ (r : RowValue). r.reported) (f d) ∙ sym g ∙ h
said_at rows place said row own false f g h d = λ e. h (g ∙ sym (ap (λ (r : RowValue). r.reported) (f d)) ∙ e)

pub says_there : (rows : List RowValue) (place : ℕ) (said : RowContentValue) (t : Bool) → t ≡ true → SaysAt rows place said t → (d : RowValue) → (get_or rows place d).reported ≡ said
says_there rows place said true e h d = h d
says_there rows place said false e h d = absurd (cc)

pub none_more : (rows : List RowValue) (place : ℕ) (said : RowContentValue) (t : Bool) → place < length rows → t ≡ false → SaysAt rows place said t → All (λ (row : RowValue). row.reported ≢ said) (take place rows)
    → All (λ (row : RowValue). row.reported ≢ said) (take (place + 1) rows)
none_more [] place said t lt e h known = absurd (omega (arith, lt))
none_more (r ∷ rs) place said true lt e h known = absurd (cc)
none_more (r ∷ rs) place said false lt e h known = All-more (λ (row : RowValue). row.reported ≢ said) (r ∷ rs) place r lt known (h r)

pub none_of_all : (rows : List RowValue) (place : ℕ) (said : RowContentValue) → length rows ≤ place → All (λ (row : RowValue). row.reported ≢ said) (take place rows) → All (λ (row : RowValue). row.reported ≢ said) rows
none_of_all rows place said end known = subst (λ (rs : List RowValue). All (λ (row : RowValue). row.reported ≢ said) rs) (take_all place rows end) known

-- ---- rules and steps

abbrev rule_of : RuleKind → (key initiator extended : Option ℕ) → (low high : ℕ) → Option Quota → Verdict → Rule
rule_of kind key initiator extended low high quota verdict = record {
  kind = kind;
  key = key;
  initiator = initiator;
  extended = extended;
  low = low;
  high = high;
  quota = quota;
  verdict = verdict;
}

same_rule : (one other : Rule) → WantSame one other → EndSame one other → one ≡ other
same_rule one other want end =
    ap (λ k. rule_of k one.key one.initiator one.extended one.low one.high one.quota one.verdict) want.kind
    ∙ ap (λ k. rule_of other.kind k one.initiator one.extended one.low one.high one.quota one.verdict) want.key
    ∙ ap (λ k. rule_of other.kind other.key k one.extended one.low one.high one.quota one.verdict) want.initiator
    ∙ ap (λ k. rule_of other.kind other.key other.initiator k one.low one.high one.quota one.verdict) want.extended
    ∙ ap (λ k. rule_of other.kind other.key other.initiator other.extended k one.high one.quota one.verdict) end.low
    ∙ ap (λ k. rule_of other.kind other.key other.initiator other.extended other.low k one.quota one.verdict) end.high
    ∙ ap (λ k. rule_of other.kind other.key other.initiator other.extended other.low other.high k one.verdict) end.quota
    ∙ ap (λ k. rule_of other.kind other.key other.initiator other.extended other.low other.high other.quota k) end.verdict

want_itself : (one other : Rule) → one ≡ other → WantSame one other
want_itself one other e = record {
  kind = ap (λ (r : Rule). r.kind) e;
  key = ap (λ (r : Rule). r.key) e;
  initiator = ap (λ (r : Rule). r.initiator) e;
  extended = ap (λ (r : Rule). r.extended) e;
}

end_itself : (one other : Rule) → one ≡ other → EndSame one other
end_itself one other e = record {
  low = ap (λ (r : Rule). r.low) e;
  high = ap (λ (r : Rule). r.high) e;
  quota = ap (λ (r : Rule). r.quota) e;
  verdict = ap (λ (r : Rule). r.verdict) e;
}

pub other_want : (t : Bool) (one other : Rule) → t ≡ false → MatchBool t (WantSame one other) (WantSame one other → ⊥) → MatchBool t (one ≡ other) (one ≢ other)
other_want true one other e apart = absurd (cc)
other_want false one other e apart = λ same. apart (want_itself one other same)

pub by_end : (t : Bool) (one other : Rule) → WantSame one other → MatchBool t (EndSame one other) (EndSame one other → ⊥) → MatchBool t (one ≡ other) (one ≢ other)
by_end true one other want end = same_rule one other want end
by_end false one other want apart = λ e. apart (end_itself one other e)

abbrev step_of : ℕ → Rule → AskedRule
step_of number rule = record { number = number; rule = rule }

pub by_rule : (t : Bool) (one other : AskedRule) → one.number ≡ other.number → MatchBool t (one.rule ≡ other.rule) (one.rule ≢ other.rule) → MatchBool t (one ≡ other) (one ≢ other)
by_rule true one other number rule = ap (λ n. step_of n one.rule) number ∙ ap (λ r. step_of other.number r) rule
by_rule false one other number apart = λ e. apart (ap (λ (s : AskedRule). s.rule) e)
