-- A line writes one rule at most, and lines in turn write rules in turn.
use Rattle.std.proofs.Common.{◌≡◌, ◌+◌, ◌*◌, ℕ, List, [], ◌∷◌, ◌++◌, length, get_or, Option, Some, None, refl, sym, ap, subst, ◌∙◌, arith}
use Rattle.std.specs.Prelude.{min}
use Rattle.std.specs.Str.Parse.{digits_value}
use Rattle.spw.specs.Line.{lines_of}
use Rattle.policy_table.specs.Fields.{IsAddress, IsField, IsKind, IsQuota, IsVerdictWord, WritesQuota, parts_of}
use Rattle.policy_table.specs.Lines.{AreRules, IsRule, TableIsUnambiguous}
use Rattle.policy_table.specs.declared.rules.Quota.{Quota}
use Rattle.policy_table.specs.declared.rules.Rule.{Rule}
use Rattle.policy_table.specs.declared.rules.RuleKind.{RuleKind}
use Rattle.policy_table.specs.declared.rules.RuleKind.TheVariants.{Read, Write, Rmw, Any}
use Rattle.rmap.specs.declared.verdict.Verdict.{Verdict}
use Rattle.policy_table.proofs.VerdictWords.{one_verdict}

-- ---- the fields

-- the first two bytes of a word as a number
abbrev front_of : List ℕ → ℕ
front_of word = get_or word 0 0 * 256 + get_or word 1 0

pub one_kind : (word : List ℕ) (a b : RuleKind) → IsKind word a → IsKind word b → a ≡ b
one_kind word Read Read h g = refl
one_kind word Read Write h g = absurd (omega (arith, ap front_of (sym h ∙ g)))
one_kind word Read Rmw h g = absurd (omega (arith, ap front_of (sym h ∙ g)))
one_kind word Read Any h g = absurd (omega (arith, ap front_of (sym h ∙ g)))
one_kind word Write Read h g = absurd (omega (arith, ap front_of (sym h ∙ g)))
one_kind word Write Write h g = refl
one_kind word Write Rmw h g = absurd (omega (arith, ap front_of (sym h ∙ g)))
one_kind word Write Any h g = absurd (omega (arith, ap front_of (sym h ∙ g)))
one_kind word Rmw Read h g = absurd (omega (arith, ap front_of (sym h ∙ g)))
one_kind word Rmw Write h g = absurd (omega (arith, ap front_of (sym h ∙ g)))
one_kind word Rmw Rmw h g = refl
one_kind word Rmw Any h g = absurd (omega (arith, ap front_of (sym h ∙ g)))
one_kind word Any Read h g = absurd (omega (arith, ap front_of (sym h ∙ g)))
one_kind word Any Write h g = absurd (omega (arith, ap front_of (sym h ∙ g)))
one_kind word Any Rmw h g = absurd (omega (arith, ap front_of (sym h ∙ g)))
one_kind word Any Any h g = refl

pub one_field : (word : List ℕ) (a b : Option ℕ) → IsField word a → IsField word b → a ≡ b
one_field word None None h g = refl
one_field word None (Some y) h g = absurd (omega (arith, ap (λ (w : List ℕ). length w) h, g.0))
one_field word (Some x) None h g = absurd (omega (arith, ap (λ (w : List ℕ). length w) g, h.0))
one_field word (Some x) (Some y) h g = ap Some (h.2 ∙ sym g.2)

pub one_address : (word : List ℕ) (a b : ℕ) → IsAddress word a → IsAddress word b → a ≡ b
one_address word a b h g = h.2 ∙ sym g.2

-- a word of three parts is no dash
three_or_dash : (word : List ℕ) (quota : Quota) → word ≡ 45 ∷ [] → WritesQuota word quota → ⊥
three_or_dash word quota dash writes =
    let one : length (parts_of word) ≡ 1 = ap (λ (w : List ℕ). length (parts_of w)) dash in
    let three : length (parts_of word) ≡ 3 = ap (λ (ws : List (List ℕ)). length ws) writes.parts in
    omega (arith, one, three)

-- a decimal that is kept as the greatest number if it is above that one
abbrev kept : ℕ → List ℕ → ℕ
kept most word = min (digits_value 10 word) most

abbrev quota_with : (map cell limit : ℕ) → Quota
quota_with map cell limit = record { map = map; cell = cell; limit = limit }

same_quota : (word : List ℕ) (a b : Quota) → WritesQuota word a → WritesQuota word b → a ≡ b
same_quota word a b h g =
    let same : h.map ∷ h.cell ∷ h.limit ∷ [] ≡ g.map ∷ g.cell ∷ g.limit ∷ [] = sym h.parts ∙ g.parts in
    let map : a.map ≡ b.map = h.map_kept ∙ ap (λ (w : List (List ℕ)). kept 255 (get_or w 0 [])) same ∙ sym g.map_kept in
    let cell : a.cell ≡ b.cell = h.cell_kept ∙ ap (λ (w : List (List ℕ)). kept 65535 (get_or w 1 [])) same ∙ sym g.cell_kept in
    let limit : a.limit ≡ b.limit = h.limit_kept ∙ ap (λ (w : List (List ℕ)). digits_value 10 (get_or w 2 [])) same ∙ sym g.limit_kept in
    ap (λ (m : ℕ). quota_with m a.cell a.limit) map ∙ ap (λ (c : ℕ). quota_with b.map c a.limit) cell ∙ ap (λ (l : ℕ). quota_with b.map b.cell l) limit

pub one_quota : (word : List ℕ) (a b : Option Quota) → IsQuota word a → IsQuota word b → a ≡ b
one_quota word None None h g = refl
one_quota word None (Some y) h g = absurd (three_or_dash word y h g)
one_quota word (Some x) None h g = absurd (three_or_dash word x g h)
one_quota word (Some x) (Some y) h g = ap Some (same_quota word x y h g)

-- ---- a line

abbrev rule_with : RuleKind → (key initiator extended : Option ℕ) → (low high : ℕ) → Option Quota → Verdict → Rule
rule_with kind key initiator extended low high quota verdict = record {
  kind = kind;
  key = key;
  initiator = initiator;
  extended = extended;
  low = low;
  high = high;
  quota = quota;
  verdict = verdict;
}

same_rule : (a b : Rule) → a.kind ≡ b.kind → a.key ≡ b.key → a.initiator ≡ b.initiator → a.extended ≡ b.extended → a.low ≡ b.low → a.high ≡ b.high → a.quota ≡ b.quota → a.verdict ≡ b.verdict → a ≡ b
same_rule a b kind key initiator extended low high quota verdict =
    ap (λ (x : RuleKind). rule_with x a.key a.initiator a.extended a.low a.high a.quota a.verdict) kind
    ∙ ap (λ (x : Option ℕ). rule_with b.kind x a.initiator a.extended a.low a.high a.quota a.verdict) key
    ∙ ap (λ (x : Option ℕ). rule_with b.kind b.key x a.extended a.low a.high a.quota a.verdict) initiator
    ∙ ap (λ (x : Option ℕ). rule_with b.kind b.key b.initiator x a.low a.high a.quota a.verdict) extended
    ∙ ap (λ (x : ℕ). rule_with b.kind b.key b.initiator b.extended x a.high a.quota a.verdict) low
    ∙ ap (λ (x : ℕ). rule_with b.kind b.key b.initiator b.extended b.low x a.quota a.verdict) high
    ∙ ap (λ (x : Option Quota). rule_with b.kind b.key b.initiator b.extended b.low b.high x a.verdict) quota
    ∙ ap (λ (x : Verdict). rule_with b.kind b.key b.initiator b.extended b.low b.high b.quota x) verdict

pub one_rule : (line : List ℕ) (a b : Rule) → IsRule line a → IsRule line b → a ≡ b
one_rule line a b h g =
    let same : h.kind ∷ h.key ∷ h.initiator ∷ h.extended ∷ h.low ∷ h.high ∷ h.quota ∷ h.verdict ∷ [] ≡ g.kind ∷ g.key ∷ g.initiator ∷ g.extended ∷ g.low ∷ g.high ∷ g.quota ∷ g.verdict ∷ [] = sym h.words ∙ g.words in
    let kind : h.kind ≡ g.kind = ap (λ (w : List (List ℕ)). get_or w 0 []) same in
    let key : h.key ≡ g.key = ap (λ (w : List (List ℕ)). get_or w 1 []) same in
    let initiator : h.initiator ≡ g.initiator = ap (λ (w : List (List ℕ)). get_or w 2 []) same in
    let extended : h.extended ≡ g.extended = ap (λ (w : List (List ℕ)). get_or w 3 []) same in
    let low : h.low ≡ g.low = ap (λ (w : List (List ℕ)). get_or w 4 []) same in
    let high : h.high ≡ g.high = ap (λ (w : List (List ℕ)). get_or w 5 []) same in
    let quota : h.quota ≡ g.quota = ap (λ (w : List (List ℕ)). get_or w 6 []) same in
    let verdict : h.verdict ≡ g.verdict = ap (λ (w : List (List ℕ)). get_or w 7 []) same in
    same_rule a b
    (one_kind g.kind a.kind b.kind (subst (λ (w : List ℕ). IsKind w a.kind) kind h.is_kind) g.is_kind)
    (one_field g.key a.key b.key (subst (λ (w : List ℕ). IsField w a.key) key h.is_key) g.is_key)
    (one_field g.initiator a.initiator b.initiator (subst (λ (w : List ℕ). IsField w a.initiator) initiator h.is_initiator) g.is_initiator)
    (one_field g.extended a.extended b.extended (subst (λ (w : List ℕ). IsField w a.extended) extended h.is_extended) g.is_extended)
    (one_address g.low a.low b.low (subst (λ (w : List ℕ). IsAddress w a.low) low h.is_low) g.is_low)
    (one_address g.high a.high b.high (subst (λ (w : List ℕ). IsAddress w a.high) high h.is_high) g.is_high)
    (one_quota g.quota a.quota b.quota (subst (λ (w : List ℕ). IsQuota w a.quota) quota h.is_quota) g.is_quota)
    (one_verdict g.verdict a.verdict b.verdict (subst (λ (w : List ℕ). IsVerdictWord w a.verdict) verdict h.is_verdict) g.is_verdict)

-- ---- lines

one_list : (lines : List (List ℕ)) (a b : List Rule) → AreRules lines a → AreRules lines b → a ≡ b
one_list [] [] [] h g = refl
one_list [] [] (y ∷ b) h g = absurd g
one_list [] (x ∷ a) b h g = absurd h
one_list (line ∷ lines) [] b h g = absurd h
one_list (line ∷ lines) (x ∷ a) [] h g = absurd g
one_list (line ∷ lines) (x ∷ a) (y ∷ b) h g =
    ap (λ (r : Rule). r ∷ a) (one_rule line x y h.0 g.0) ∙ ap (λ (rs : List Rule). y ∷ rs) (one_list lines a b h.1 g.1)

pub one_table : TableIsUnambiguous
one_table text a b h g = one_list (lines_of text) a b h g

-- one more line
pub rules_more : (lines : List (List ℕ)) (rules : List Rule) (line : List ℕ) (rule : Rule) → AreRules lines rules → IsRule line rule
    → AreRules (lines ++ line ∷ []) (rules ++ rule ∷ [])
rules_more [] [] line rule h one = (one, tt)
rules_more [] (r ∷ rules) line rule h one = absurd h
rules_more (first ∷ lines) [] line rule h one = absurd h
rules_more (first ∷ lines) (r ∷ rules) line rule h one = (h.0, rules_more lines rules line rule h.1 one)

-- lines with one that is no rule are no rules
pub no_rules : (before after : List (List ℕ)) (line : List ℕ) → ((rule : Rule) → ¬ IsRule line rule) → (rules : List Rule) → ¬ AreRules (before ++ line ∷ after) rules
no_rules [] after line none [] are = are
no_rules [] after line none (rule ∷ rules) are = none rule are.0
no_rules (first ∷ before) after line none [] are = are
no_rules (first ∷ before) after line none (rule ∷ rules) are = no_rules before after line none rules are.1
