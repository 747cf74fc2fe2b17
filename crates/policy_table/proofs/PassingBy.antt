-- Rules that do not match, one by one.
use Rattle.std.specs.Prelude.{slice_get}
use Rattle.std.proofs.Common.{◌≡◌, ◌<◌, ◌+◌, ◌++◌, ℕ, suc, List, [], ◌∷◌, length, get_or, drop, Option, Some, None, sym, ap, ◌∙◌, append_assoc, add-one}
use Rattle.std.proofs.Math.Seq.{drop-cons}
use Rattle.std.proofs.lemmas.List.{append-nil}
use Rattle.machine.specs.declared.calls.Call.{Call}
use Rattle.machine.specs.Memory.{Header}
use Rattle.policy_table.specs.Mismatches.{passed}
use Rattle.policy_table.specs.Passing.{draws_after, passed_first, passed_rules}
use Rattle.policy_table.specs.declared.mismatches.Passed.{Passed}
use Rattle.policy_table.specs.declared.rules.Rule.{Rule}

-- the rules that are passed from a rule on, by why that rule does not match
from_rule : (rules : List Rule) (header : Header) (n : ℕ) (draws : List Call) (d : Rule) (why : Option Passed) → n < length rules → passed (get_or rules n d) header (slice_get draws 0) ≡ why
    → passed_rules (drop n rules) header draws ≡ passed_first why (λ left. passed_rules (drop (suc n) rules) header left) draws
from_rule rules header n draws d why within is =
    ap (λ (rs : List Rule). passed_rules rs header draws) (drop-cons rules n d within)
    ∙ ap (λ (o : Option Passed). passed_first o (λ left. passed_rules (drop (suc n) rules) header left) draws) is

-- one that does not match is passed
pub passes_one : (rules : List Rule) (header : Header) (n : ℕ) (draws : List Call) (d : Rule) (why : Passed) (reported : List Passed) (whole : List Passed) → n < length rules
    → passed (get_or rules n d) header (slice_get draws 0) ≡ Some why
    → whole ≡ reported ++ passed_rules (drop n rules) header draws
    → whole ≡ (reported ++ why ∷ []) ++ passed_rules (drop (n + 1) rules) header (draws_after why draws)
passes_one rules header n draws d why reported whole within is so =
    let rest : ℕ → List Passed = λ k. passed_rules (drop k rules) header (draws_after why draws) in
    so ∙ ap (λ (more : List Passed). reported ++ more) (from_rule rules header n draws d (Some why) within is)
    ∙ ap (λ (k : ℕ). reported ++ why ∷ rest k) (sym (add-one n))
    ∙ sym (append_assoc reported (why ∷ []) (rest (n + 1)))

-- at one that matches, all that are passed are found
pub stops_there : (rules : List Rule) (header : Header) (n : ℕ) (draws : List Call) (d : Rule) (reported : List Passed) (whole : List Passed) → n < length rules
    → passed (get_or rules n d) header (slice_get draws 0) ≡ None → whole ≡ reported ++ passed_rules (drop n rules) header draws → reported ≡ whole
stops_there rules header n draws d reported whole within is so =
    sym (so ∙ ap (λ (more : List Passed). reported ++ more) (from_rule rules header n draws d None within is) ∙ append-nil reported)

-- and after the last
pub stops_after : (rules : List Rule) (header : Header) (n : ℕ) (draws : List Call) (reported : List Passed) (whole : List Passed)
    → drop n rules ≡ [] → whole ≡ reported ++ passed_rules (drop n rules) header draws → reported ≡ whole
stops_after rules header n draws reported whole none so =
    sym (so ∙ ap (λ (rs : List Rule). reported ++ passed_rules rs header draws) none ∙ append-nil reported)
