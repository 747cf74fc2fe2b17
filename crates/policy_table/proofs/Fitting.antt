-- The fields of the rules of a text fit.
use Rattle.std.specs.Prelude.{All}
use Rattle.std.proofs.Common.{◌≡◌, ◌<◌, ◌^◌, ℕ, List, [], ◌∷◌, length, Option, Some, None, refl, sym, ap, ◌∙◌, subst, arith}
use Rattle.std.proofs.lemmas.List.Elements.{All-cons, All-nil}
use Rattle.std.proofs.lemmas.Int.Digits.{digits_value-lt}
use Rattle.std.specs.Str.Parse.{digits_value}
use Rattle.policy_table.specs.Fields.{IsField, IsQuota, WritesHex}
use Rattle.policy_table.specs.Limits.{FitsFields, IsByteField, IsLimited}
use Rattle.policy_table.specs.Lines.{AreRules, IsRule}
use Rattle.policy_table.specs.Words.{AreWordsOf, LineWords}
use Rattle.policy_table.specs.declared.rules.Quota.{Quota}
use Rattle.policy_table.specs.declared.rules.Rule.{Rule}

hex_fits : (digits top : ℕ) (word : List ℕ) (n : ℕ) → 16 ^ digits ≡ top → WritesHex digits word n → n < top
hex_fits digits top word n is writes =
    let below : digits_value 16 word < 16 ^ length word = digits_value-lt 16 word writes.1 in
    let power : 16 ^ length word ≡ top = ap (λ (d : ℕ). 16 ^ d) writes.0 ∙ is in
    subst (λ (k : ℕ). k < top) (sym writes.2) (subst (λ (k : ℕ). digits_value 16 word < k) power below)

field_fits : (word : List ℕ) (field : Option ℕ) → IsField word field → IsByteField field
field_fits word None is = tt
field_fits word (Some byte) is = hex_fits 2 256 word byte refl is

quota_fits : (word : List ℕ) (quota : Option Quota) → IsQuota word quota → IsLimited quota
quota_fits word None is = tt
quota_fits word (Some quota) is =
    let map = is.map_kept in
    let cell = is.cell_kept in
    (omega (arith, map), omega (arith, cell), is.limit_small)

pub rule_fits : (line : List ℕ) (rule : Rule) → IsRule line rule → FitsFields rule
rule_fits line rule is = record {
  key = field_fits is.key rule.key is.is_key;
  initiator = field_fits is.initiator rule.initiator is.is_initiator;
  extended = field_fits is.extended rule.extended is.is_extended;
  low = hex_fits 8 (2 ^ 32) is.low rule.low refl is.is_low;
  high = hex_fits 8 (2 ^ 32) is.high rule.high refl is.is_high;
  quota = quota_fits is.quota rule.quota is.is_quota;
}

-- of eight words
pub words_fit : (w : LineWords) (rule : Rule) → AreWordsOf w rule → FitsFields rule
words_fit w rule is = record {
  key = field_fits w.key rule.key is.is_key;
  initiator = field_fits w.initiator rule.initiator is.is_initiator;
  extended = field_fits w.extended rule.extended is.is_extended;
  low = hex_fits 8 (2 ^ 32) w.low rule.low refl is.is_low;
  high = hex_fits 8 (2 ^ 32) w.high rule.high refl is.is_high;
  quota = quota_fits w.quota rule.quota is.is_quota;
}

pub rules_fit : (lines : List (List ℕ)) (rules : List Rule) → AreRules lines rules → All FitsFields rules
rules_fit [] [] are = All-nil FitsFields
rules_fit [] (rule ∷ rules) are = absurd are
rules_fit (line ∷ lines) [] are = absurd are
rules_fit (line ∷ lines) (rule ∷ rules) are = All-cons FitsFields rule rules (rule_fits line rule are.0) (rules_fit lines rules are.1)
