-- The rule by which a table decides is the first that matches.
use Rattle.std.specs.Prelude.{nat_lt, if◌then◌else◌, option_map}
use Rattle.std.proofs.Common.{◌≡◌, ◌+◌, ℕ, suc, Bool, true, false, List, [], ◌∷◌, Option, Some, None, refl, sym, ap, ◌∙◌, arith}
use Rattle.machine.specs.Memory.{Header}
use Rattle.policy_table.specs.Matching.{FirstMatches, IsFirst, following, first_match, match_by, matched}
use Rattle.policy_table.specs.Meaning.{draw, holds}
use Rattle.policy_table.specs.declared.matching.Match.{Match}
use Rattle.policy_table.specs.declared.rules.Quota.{Quota}
use Rattle.policy_table.specs.declared.rules.Rule.{Rule}

-- a number that is one more than another
mapped : (r : Option ℕ) (n : ℕ) → option_map (λ k. 1 + k) r ≡ Some n → (k : ℕ) × (r ≡ Some k) × (1 + k ≡ n)
mapped None n is = absurd cc
mapped (Some k) n is = (k, refl, cc)

-- the number of a match
some_number : (a n : ℕ) → Some a ≡ Some n → a ≡ n
some_number a n is = cc

-- the first rule matches itself
first_itself : (rule : Rule) (rules : List Rule) (header : Header) (reported : ℕ → ℕ) (n : ℕ) → holds rule header ≡ true → Some 1 ≡ Some n → IsFirst (rule ∷ rules) header reported n
first_itself rule rules header reported n is number = record {
  before = [];
  rule = rule;
  rest = rules;
  rules_are = refl;
  place = sym (some_number 1 n number);
  conditions = is;
  none_before = refl;
}

-- a later rule matches, by the answers that are left
a_later : (rule : Rule) (rules : List Rule) (header : Header) (reported other : ℕ → ℕ) (n : ℕ)
    → ((before : List Rule) → (matched before header other).rule ≡ None → (matched (rule ∷ before) header reported).rule ≡ None)
    → ((k : ℕ) → (matched rules header other).rule ≡ Some k → IsFirst rules header other k)
    → option_map (λ k. 1 + k) (matched rules header other).rule ≡ Some n → IsFirst (rule ∷ rules) header reported n
a_later rule rules header reported other n passes all is =
    let found = mapped (matched rules header other).rule n is in
    let own = all found.0 found.1 in
    record {
      before = rule ∷ own.before;
      rule = own.rule;
      rest = own.rest;
      rules_are = ap (λ (rs : List Rule). rule ∷ rs) own.rules_are;
      place = omega (arith, own.place, found.2);
      conditions = own.conditions;
      none_before = passes own.before own.none_before;
    }

match_if : (t u : Bool) (a b : Match) → t ≡ u → (if t then a else b) ≡ (if u then a else b)
match_if t u a b is = ap (λ (v : Bool). if v then a else b) is

none_after : (m : Match) → m.rule ≡ None → (following 1 m).rule ≡ None
none_after m none = ap (λ (r : Option ℕ). option_map (λ k. 1 + k) r) none

-- a rule whose conditions do not hold, before others
failed : (rule : Rule) (rules : List Rule) (header : Header) (reported : ℕ → ℕ) → holds rule header ≡ false → matched (rule ∷ rules) header reported ≡ following 1 (matched rules header reported)
failed rule rules header reported is =
    match_if (holds rule header) false (match_by rule.quota rule.verdict reported (matched rules header (λ k. reported (suc k)))) (following 1 (matched rules header reported)) is

-- one whose conditions hold
held : (rule : Rule) (rules : List Rule) (header : Header) (reported : ℕ → ℕ) → holds rule header ≡ true
    → matched (rule ∷ rules) header reported ≡ match_by rule.quota rule.verdict reported (matched rules header (λ k. reported (suc k)))
held rule rules header reported is =
    match_if (holds rule header) true (match_by rule.quota rule.verdict reported (matched rules header (λ k. reported (suc k)))) (following 1 (matched rules header reported)) is

-- one whose ticket is, or is not, below its limit
limited : (rule : Rule) (quota : Quota) (rules : List Rule) (header : Header) (reported : ℕ → ℕ) (t : Bool) → holds rule header ≡ true → rule.quota ≡ Some quota → nat_lt (reported 0) quota.limit ≡ t
    → matched (rule ∷ rules) header reported ≡ (if t then first_match 1 (Some (draw quota (reported 0))) rule.verdict else following 1 (matched rules header (λ k. reported (suc k))))
limited rule quota rules header reported t is has test =
    let rest : Match = matched rules header (λ k. reported (suc k)) in
    held rule rules header reported is ∙ ap (λ (q : Option Quota). match_by q rule.verdict reported rest) has
    ∙ match_if (nat_lt (reported 0) quota.limit) t (first_match 1 (Some (draw quota (reported 0))) rule.verdict) (following 1 rest) test

first_limited : (t : Bool) (rule : Rule) (quota : Quota) (rules : List Rule) (header : Header) (reported : ℕ → ℕ) (n : ℕ) → holds rule header ≡ true → rule.quota ≡ Some quota → nat_lt (reported 0) quota.limit ≡ t
    → ((k : ℕ) → (matched rules header (λ i. reported (suc i))).rule ≡ Some k → IsFirst rules header (λ i. reported (suc i)) k)
    → (matched (rule ∷ rules) header reported).rule ≡ Some n → IsFirst (rule ∷ rules) header reported n
first_limited true rule quota rules header reported n is has test all found =
    first_itself rule rules header reported n is (sym (ap (λ (m : Match). m.rule) (limited rule quota rules header reported true is has test)) ∙ found)
first_limited false rule quota rules header reported n is has test all found =
    let more : ℕ → ℕ = λ i. reported (suc i) in
    a_later rule rules header reported more n
    (λ before none. ap (λ (m : Match). m.rule) (limited rule quota before header reported false is has test) ∙ none_after (matched before header more) none)
    all (sym (ap (λ (m : Match). m.rule) (limited rule quota rules header reported false is has test)) ∙ found)

first_held : (quota : Option Quota) (rule : Rule) (rules : List Rule) (header : Header) (reported : ℕ → ℕ) (n : ℕ) → holds rule header ≡ true → rule.quota ≡ quota
    → ((k : ℕ) → (matched rules header (λ i. reported (suc i))).rule ≡ Some k → IsFirst rules header (λ i. reported (suc i)) k)
    → (matched (rule ∷ rules) header reported).rule ≡ Some n → IsFirst (rule ∷ rules) header reported n
first_held None rule rules header reported n is has all found =
    let rest : Match = matched rules header (λ k. reported (suc k)) in
    first_itself rule rules header reported n is (sym (ap (λ (m : Match). m.rule) (held rule rules header reported is ∙ ap (λ (q : Option Quota). match_by q rule.verdict reported rest) has)) ∙ found)
first_held (Some quota) rule rules header reported n is has all found =
    first_limited (nat_lt (reported 0) quota.limit) rule quota rules header reported n is has refl all found

first_if : (t : Bool) (rule : Rule) (rules : List Rule) (header : Header) (reported : ℕ → ℕ) (n : ℕ) → holds rule header ≡ t
    → ((other : ℕ → ℕ) (k : ℕ) → (matched rules header other).rule ≡ Some k → IsFirst rules header other k)
    → (matched (rule ∷ rules) header reported).rule ≡ Some n → IsFirst (rule ∷ rules) header reported n
first_if true rule rules header reported n is all found =
    first_held rule.quota rule rules header reported n is refl (λ k h. all (λ i. reported (suc i)) k h) found
first_if false rule rules header reported n is all found =
    a_later rule rules header reported reported n
    (λ before none. ap (λ (m : Match). m.rule) (failed rule before header reported is) ∙ none_after (matched before header reported) none)
    (λ k h. all reported k h) (sym (ap (λ (m : Match). m.rule) (failed rule rules header reported is)) ∙ found)

pub first : FirstMatches
first [] header reported n is = absurd cc
first (rule ∷ rules) header reported n is = first_if (holds rule header) rule rules header reported n refl (λ other k h. first rules header other k h) is
