-- The rules that are asked at a port, one by one.
use Rattle.std.specs.Prelude.{All, if◌then◌else◌, ◌||◌}
use Rattle.std.proofs.Common.{◌≡◌, ◌<◌, ◌+◌, ℕ, suc, Bool, true, false, List, [], ◌∷◌, ◌++◌, length, get_or, drop, Option, Some, None, refl, sym, ap, ◌∙◌, append_assoc, add-one}
use Rattle.std.proofs.Math.Seq.{drop-cons}
use Rattle.std.proofs.lemmas.List.Elements.{All-cons, All-head, All-nil, All-tail}
use Rattle.policy_table.specs.Limits.{FitsFields}
use Rattle.policy_table.specs.Meaning.{agrees}
use Rattle.policy_table.specs.Ports.{FitsPort, rules_at}
use Rattle.policy_table.specs.PortTables.{AreAskedAlike, UnnamedPortsAreAlike, is_named, is_port, lines_at}
use Rattle.policy_table.specs.declared.port_rules.PortRule.{PortRule}
use Rattle.policy_table.specs.declared.rules.Rule.{Rule}

-- ---- what is gathered of the rules that are asked at a port

module _ {T : Type 0} (at : List PortRule → List T) (of : PortRule → T) (port : ℕ) (walks : (own : PortRule) (rules : List PortRule) → at (own ∷ rules) ≡ (if agrees own.port port then of own ∷ at rules else at rules)) (rules : List PortRule) (i : ℕ) (d : PortRule) (before total : List T) (within : i < length rules) (whole : before ++ at (drop i rules) ≡ total) where
  next : (t : Bool) → agrees (get_or rules i d).port port ≡ t → at (drop i rules) ≡ (if t then of (get_or rules i d) ∷ at (drop (suc i) rules) else at (drop (suc i) rules))
  next t is =
      ap at (drop-cons rules i d within) ∙ walks (get_or rules i d) (drop (suc i) rules)
      ∙ ap (λ (asked : Bool). if asked then of (get_or rules i d) ∷ at (drop (suc i) rules) else at (drop (suc i) rules)) is

  taken : (after : List T) → agrees (get_or rules i d).port port ≡ true → after ≡ before ++ of (get_or rules i d) ∷ [] → after ++ at (drop (i + 1) rules) ≡ total
  taken after asked pushed =
      ap (λ (k : ℕ). after ++ at (drop k rules)) (add-one i)
      ∙ ap (λ (own : List T). own ++ at (drop (suc i) rules)) pushed
      ∙ append_assoc before (of (get_or rules i d) ∷ []) (at (drop (suc i) rules))
      ∙ sym (ap (λ (own : List T). before ++ own) (next true asked))
      ∙ whole

  left : agrees (get_or rules i d).port port ≡ false → before ++ at (drop (i + 1) rules) ≡ total
  left other =
      ap (λ (k : ℕ). before ++ at (drop k rules)) (add-one i)
      ∙ sym (ap (λ (own : List T). before ++ own) (next false other))
      ∙ whole

module _ (port : ℕ) (rules : List PortRule) (i : ℕ) (d : PortRule) where
  -- a rule that is asked is taken
  pub rule_taken : (before after total : List Rule) → i < length rules → agrees (get_or rules i d).port port ≡ true → after ≡ before ++ (get_or rules i d).rule ∷ []
      → before ++ rules_at port (drop i rules) ≡ total → after ++ rules_at port (drop (i + 1) rules) ≡ total
  rule_taken before after total within asked pushed whole =
      taken (λ own. rules_at port own) (λ own. own.rule) port (λ own rest. refl) rules i d before total within whole after asked pushed

  -- another is left
  pub rule_left : (before total : List Rule) → i < length rules → agrees (get_or rules i d).port port ≡ false
      → before ++ rules_at port (drop i rules) ≡ total → before ++ rules_at port (drop (i + 1) rules) ≡ total
  rule_left before total within other whole =
      left (λ own. rules_at port own) (λ own. own.rule) port (λ own rest. refl) rules i d before total within whole other

  -- the line of a rule that is asked is taken
  pub line_taken : (before after total : List ℕ) → i < length rules → agrees (get_or rules i d).port port ≡ true → after ≡ before ++ (get_or rules i d).line ∷ []
      → before ++ lines_at port (drop i rules) ≡ total → after ++ lines_at port (drop (i + 1) rules) ≡ total
  line_taken before after total within asked pushed whole =
      taken (λ own. lines_at port own) (λ own. own.line) port (λ own rest. refl) rules i d before total within whole after asked pushed

  -- that of another is left
  pub line_left : (before total : List ℕ) → i < length rules → agrees (get_or rules i d).port port ≡ false
      → before ++ lines_at port (drop i rules) ≡ total → before ++ lines_at port (drop (i + 1) rules) ≡ total
  line_left before total within other whole =
      left (λ own. lines_at port own) (λ own. own.line) port (λ own rest. refl) rules i d before total within whole other

-- ---- what holds of them

one_fits : (t : Bool) (own : PortRule) (rest : List Rule) → FitsPort own → All FitsFields rest → All FitsFields (if t then own.rule ∷ rest else rest)
one_fits true own rest fits others = All-cons FitsFields own.rule rest fits.rule others
one_fits false own rest fits others = others

-- their numbers fit their fields
pub rules_at_fit : (port : ℕ) (rules : List PortRule) → All FitsPort rules → All FitsFields (rules_at port rules)
rules_at_fit port [] fits = All-nil FitsFields
rules_at_fit port (own ∷ rules) fits =
    one_fits (agrees own.port port) own (rules_at port rules) (All-head FitsPort own rules fits) (rules_at_fit port rules (All-tail FitsPort own rules fits))

one_each : (t : Bool) (rule : Rule) (line : ℕ) (rules : List Rule) (lines : List ℕ) → length lines ≡ length rules
    → length (if t then line ∷ lines else lines) ≡ length (if t then rule ∷ rules else rules)
one_each true rule line rules lines same = ap (λ (n : ℕ). suc n) same
one_each false rule line rules lines same = same

-- each has its line
pub lines_each : (port : ℕ) (rules : List PortRule) → length (lines_at port rules) ≡ length (rules_at port rules)
lines_each port [] = refl
lines_each port (own ∷ rules) = one_each (agrees own.port port) own.rule own.line (rules_at port rules) (lines_at port rules) (lines_each port rules)

-- ---- which ports are named

-- a rule of another port is passed
pub named_later : (port : ℕ) (rules : List PortRule) (i : ℕ) (d : PortRule) (total : Bool) → i < length rules → is_port (get_or rules i d).port port ≡ false
    → is_named port (drop i rules) ≡ total → is_named port (drop (i + 1) rules) ≡ total
named_later port rules i d total within other whole =
    ap (λ (k : ℕ). is_named port (drop k rules)) (add-one i)
    ∙ sym (ap (λ (own : List PortRule). is_named port own) (drop-cons rules i d within) ∙ ap (λ (t : Bool). t || is_named port (drop (suc i) rules)) other)
    ∙ whole

-- the first of this port names it
pub named_there : (port : ℕ) (rules : List PortRule) (i : ℕ) (d : PortRule) (total : Bool) → i < length rules → is_port (get_or rules i d).port port ≡ true
    → is_named port (drop i rules) ≡ total → true ≡ total
named_there port rules i d total within own whole =
    sym (ap (λ (rest : List PortRule). is_named port rest) (drop-cons rules i d within) ∙ ap (λ (t : Bool). t || is_named port (drop (suc i) rules)) own) ∙ whole

-- ---- ports that no rule names

first_false : (s t : Bool) → (s || t) ≡ false → s ≡ false
first_false true t is = absurd (cc)
first_false false t is = refl

second_false : (s t : Bool) → (s || t) ≡ false → t ≡ false
second_false true t is = absurd (cc)
second_false false t is = is

asked_alike : (own : Option ℕ) (one other : ℕ) → is_port own one ≡ false → is_port own other ≡ false → agrees own one ≡ agrees own other
asked_alike None one other first second = refl
asked_alike (Some port) one other first second = first ∙ sym second

pub alike : UnnamedPortsAreAlike
alike [] one other first second = record { same_rules = refl; same_lines = refl }
alike (own ∷ rules) one other first second =
    let same : agrees own.port one ≡ agrees own.port other = asked_alike own.port one other (first_false (is_port own.port one) (is_named one rules) first) (first_false (is_port own.port other) (is_named other rules) second) in
    let rest : AreAskedAlike rules one other = alike rules one other (second_false (is_port own.port one) (is_named one rules) first) (second_false (is_port own.port other) (is_named other rules) second) in
    record {
      same_rules = ap (λ (t : Bool). if t then own.rule ∷ rules_at one rules else rules_at one rules) same
          ∙ ap (λ (more : List Rule). if agrees own.port other then own.rule ∷ more else more) rest.same_rules;
      same_lines = ap (λ (t : Bool). if t then own.line ∷ lines_at one rules else lines_at one rules) same
          ∙ ap (λ (more : List ℕ). if agrees own.port other then own.line ∷ more else more) rest.same_lines;
    }
